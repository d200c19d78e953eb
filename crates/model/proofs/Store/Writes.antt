-- What a write and a list of writes leave in a store.
use Rattle.std.proofs.Common.{◌≡◌, ℕ, ◌<◌, ◌≤◌, Bool, true, false, cond, eqb, ltb, leb, ◌⊎◌, List, [], ◌∷◌, ◌++◌, length, get_or, set, None, Ok, Err, Result, sym, refl, ap, ◌∙◌, subst, ap₂, inl, inr, arith}
use Rattle.std.proofs.lemmas.List.{get_or-set_other, get_or-set_same, length-set}
use Rattle.std.proofs.lemmas.Bool.{and_from, and_parts, cases_eq, eq-eqb, eqb-false, eqb-true, false≢true, lt-ltb, ltb-true}
use Rattle.model.specs.Image.{bytes, dead, Fault, Sector, Image, past_end_at, seen, look, is_ok, stored, put, Write, writes, go_on}
use Rattle.model.specs.Tables.{all}
use Rattle.model.specs.Law.{whole, whole_sector}
use Rattle.model.proofs.Common.Tests.{all_set}

abbrev look_in : Image → ℕ → Bool → Result (List ℕ) Fault
look_in i s b = cond b (seen (get_or i s (dead 0 0))) (Err (past_end_at s))

-- a sector that is live stands in the image
in_range : (i : Image) (s : ℕ) → is_ok (look i s) ≡ true → s < length i
in_range i s h = go (ltb s (length i)) refl h
  where
    go : (b : Bool) → ltb s (length i) ≡ b → is_ok (look_in i s b) ≡ true → s < length i
    go true e k = ltb-true s (length i) e
    go false e k = absurd (false≢true k)

pub look_inside : (i : Image) (s : ℕ) → s < length i → look i s ≡ seen (get_or i s (dead 0 0))
look_inside i s h = ap (look_in i s) (lt-ltb s (length i) h)

put-set : (i : Image) (s : ℕ) (b : List ℕ) → is_ok (look i s) ≡ true → put i s b ≡ set i s (bytes b)
put-set i s b h = go (look i s) h
  where
    go : (r : Result (List ℕ) Fault) → is_ok r ≡ true → stored r i s b ≡ set i s (bytes b)
    go (Ok old) k = refl
    go (Err f) k = cc

pub put_same : (i : Image) (s : ℕ) (b : List ℕ) → is_ok (look i s) ≡ true → look (put i s b) s ≡ Ok b
put_same i s b h =
    let l : s < length i = in_range i s h in
    let e : look (set i s (bytes b)) s ≡ Ok b = look_inside (set i s (bytes b)) s (subst (λ n. s < n) (sym (length-set i s (bytes b))) l) ∙ ap seen (get_or-set_same i s (bytes b) (dead 0 0) l) in
    ap (λ j. look j s) (put-set i s b h) ∙ e

put-length : (i : Image) (s : ℕ) (b : List ℕ) → is_ok (look i s) ≡ true → length (put i s b) ≡ length i
put-length i s b h = ap length (put-set i s b h) ∙ length-set i s (bytes b)

pub put_other : (i : Image) (s r : ℕ) (b : List ℕ) → (r ≡ s → ⊥) → look (put i s b) r ≡ look i r
put_other i s r b ne = go (look i s)
  where
    go : (x : Result (List ℕ) Fault) → look (stored x i s b) r ≡ look i r
    go (Ok old) = ap₂ (λ (m : ℕ) (x : Sector). cond (ltb r m) (seen x) (Err (past_end_at r))) (length-set i s (bytes b)) (get_or-set_other i s r (bytes b) (dead 0 0) ne)
    go (Err f) = refl

pub put-alive : (i : Image) (s s' : ℕ) (b : List ℕ) → is_ok (look i s) ≡ true → is_ok (look (put i s b) s') ≡ is_ok (look i s')
put-alive i s s' b h = go (cases_eq s' s)
  where
    go : (s' ≡ s) ⊎ (s' ≡ s → ⊥) → is_ok (look (put i s b) s') ≡ is_ok (look i s')
    go (inl e) = ap (λ x. is_ok (look (put i s b) x)) e ∙ (ap is_ok (put_same i s b h) ∙ (sym h ∙ ap (λ x. is_ok (look i x)) (sym e)))
    go (inr n) = ap is_ok (put_other i s s' b n)

put_whole : (i : Image) (s : ℕ) (b : List ℕ) → is_ok (look i s) ≡ true → length b ≡ 512 → whole i ≡ true → whole (put i s b) ≡ true
put_whole i s b h n w =
    let u = and_parts (leb (length i) 65535) (all whole_sector i) w in
    subst (λ j. whole j ≡ true) (sym (put-set i s b h))
    (and_from (leb (length (set i s (bytes b))) 65535) (all whole_sector (set i s (bytes b)))
    (subst (λ m. leb m 65535 ≡ true) (sym (length-set i s (bytes b))) u.0)
    (all_set whole_sector i s (bytes b) (eq-eqb (length b) 512 n) u.1))

pub writes-step : (w : Write) (ws : List Write) (i : Image) → is_ok (look i w.at) ≡ true → writes (w ∷ ws) i ≡ writes ws (put i w.at w.new)
writes-step w ws i h = go (look i w.at) h
  where
    go : (r : Result (List ℕ) Fault) → is_ok r ≡ true → go_on r (writes ws (put i w.at w.new)) i ≡ writes ws (put i w.at w.new)
    go (Ok old) k = refl
    go (Err f) k = cc

-- what writes to live sectors keep
pub record Like (i j : Image) : Type 0 where
  pub same_length : length j ≡ length i
  pub kept_whole : whole i ≡ true → whole j ≡ true
  pub same-alive : (s : ℕ) → is_ok (look j s) ≡ is_ok (look i s)

like_self : (i : Image) → Like i i
like_self i = record { same_length = refl; kept_whole = λ w. w; same-alive = λ s. refl }

like_put : (i : Image) (s : ℕ) (b : List ℕ) → is_ok (look i s) ≡ true → length b ≡ 512 → Like i (put i s b)
like_put i s b h n = record { same_length = put-length i s b h; kept_whole = put_whole i s b h n; same-alive = λ s'. put-alive i s s' b h }

like_then : (i j k : Image) → Like i j → Like j k → Like i k
like_then i j k p q = record { same_length = q.same_length ∙ p.same_length; kept_whole = λ w. q.kept_whole (p.kept_whole w); same-alive = λ s. q.same-alive s ∙ p.same-alive s }

abbrev pub Able : Image → List Write → Type 0
Able i [] = Unit {0}
Able i (w ∷ ws) = (is_ok (look i w.at) ≡ true) × (length w.new ≡ 512) × Able i ws

able_like : (i j : Image) → Like i j → (ws : List Write) → Able i ws → Able j ws
able_like i j l [] a = tt
able_like i j l (w ∷ ws) a = (l.same-alive w.at ∙ a.0, a.1, able_like i j l ws a.2)

pub record Went (i : Image) (ws : List Write) : Type 0 where
  pub no_fault : (writes ws i).fault ≡ None
  pub like : Like i (writes ws i).image

pub went : (ws : List Write) (i : Image) → Able i ws → Went i ws
went [] i a = record { no_fault = refl; like = like_self i }
went (w ∷ ws) i a =
    let l = like_put i w.at w.new a.0 a.1 in
    let r = went ws (put i w.at w.new) (able_like i (put i w.at w.new) l ws a.2) in
    let e = sym (writes-step w ws i a.0) in
    record { no_fault = subst (λ x. x.fault ≡ None) e r.no_fault; like = subst (λ x. Like i x.image) e (like_then i (put i w.at w.new) (writes ws (put i w.at w.new)).image l r.like) }

-- no write of ws is at s
abbrev pub Off : ℕ → List Write → Type 0
Off s [] = Unit {0}
Off s (w ∷ ws) = (s ≡ w.at → ⊥) × Off s ws

pub look_off : (ws : List Write) (i : Image) (s : ℕ) → Off s ws → look (writes ws i).image s ≡ look i s
look_off [] i s o = refl
look_off (w ∷ ws) i s o = go (look i w.at) (look_off ws (put i w.at w.new) s o.1 ∙ put_other i w.at s w.new o.0)
  where
    go : (x : Result (List ℕ) Fault) → look (writes ws (put i w.at w.new)).image s ≡ look i s → look (go_on x (writes ws (put i w.at w.new)) i).image s ≡ look i s
    go (Ok old) e = e
    go (Err f) e = refl

-- what stands at s after the writes ws, where b stood before
abbrev pub left_at : ℕ → List Write → List ℕ → List ℕ
left_at s [] b = b
left_at s (w ∷ ws) b = left_at s ws (cond (eqb s w.at) w.new b)

pub look_left : (ws : List Write) (i : Image) (s : ℕ) (b : List ℕ) → Able i ws → look i s ≡ Ok b → look (writes ws i).image s ≡ Ok (left_at s ws b)
look_left [] i s b a h = h
look_left (w ∷ ws) i s b a h =
    let l = like_put i w.at w.new a.0 a.1 in
    ap (λ x. look x.image s) (writes-step w ws i a.0) ∙ look_left ws (put i w.at w.new) s (cond (eqb s w.at) w.new b) (able_like i (put i w.at w.new) l ws a.2) (go (eqb s w.at) refl)
  where
    go : (c : Bool) → eqb s w.at ≡ c → look (put i w.at w.new) s ≡ Ok (cond c w.new b)
    go true e = ap (look (put i w.at w.new)) (eqb-true s w.at e) ∙ put_same i w.at w.new a.0
    go false e = put_other i w.at s w.new (eqb-false s w.at e) ∙ h

pub able_append : (i : Image) (vs ws : List Write) → Able i vs → Able i ws → Able i (vs ++ ws)
able_append i [] ws a b = b
able_append i (v ∷ vs) ws a b = (a.0, a.1, able_append i vs ws a.2 b)

-- sectors past those of data change no body
abbrev pub Past : List Write → Type 0
Past [] = Unit {0}
Past (w ∷ ws) = (255 < w.at) × Past ws

pub past_off : (ws : List Write) (s : ℕ) → s ≤ 255 → Past ws → Off s ws
past_off [] s l p = tt
past_off (w ∷ ws) s l p = (λ e. let q = p.0 in omega arith, past_off ws s l p.1)

pub data_kept : (ws : List Write) (i : Image) (s : ℕ) → s ≤ 255 → Past ws → look (writes ws i).image s ≡ look i s
data_kept ws i s l p = look_off ws i s (past_off ws s l p)
