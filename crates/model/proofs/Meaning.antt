-- A search finds the lowest, a file gets the lowest free sectors, layout and reading undo each other, and the test of
-- soundness is the five rules.
use Rattle.std.proofs.Common.{◌≡◌, ℕ, zero, suc, ◌+◌, ◌*◌, ◌/◌, ◌<◌, ◌≤◌, Bool, true, false, cond, not, eqb, ltb, leb, List, [], ◌∷◌, ◌++◌, map, length, get_or, take, drop, Some, None, Ok, Err, Option, Result, sym, refl, ap, ◌∙◌, subst, ap₂, inl, inr, arith}
use Rattle.std.proofs.lemmas.List.{take-append-drop, length-take-le, length-drop, get_or-take}
use Rattle.std.proofs.lemmas.Bool.{and_parts, and_from, eqb-true, eqb-false, eq-eqb, leb-true, le-leb, ltb-false, le-ltb}
use Rattle.model.specs.Image.{Image, Fault, look, is_ok, whole}
use Rattle.model.specs.Refusals.{small, unsound}
use Rattle.model.specs.Tables.{Tables, Entry, no_entry, live, parts, entry, entries_bytes, rows_bytes, tables, load, root, climbs, sound}
use Rattle.model.specs.Sound.{Shaped}
use Rattle.model.specs.Tree.{is_some, raised, first}
use Rattle.model.specs.Volume.{free_from, free_sectors, inspection, loaded_refusal, bytes_or_blank}
use Rattle.model.specs.Meaning.{Lowest, FindsLowest, EntriesLowest, NumbersLowest, Free, Rising, LowestFree, SectorsLowest, LayoutUndone, SoundTold, WayUp, RootedTold, Carries, LetIn}
use Rattle.model.proofs.Common.Searches.{first_some, first_none}
use Rattle.model.proofs.Store.Bodies.{look-length}
use Rattle.model.proofs.Tables.{sound_facts, facts_sound}
use Rattle.model.proofs.Tables.Chains.{climbs-within}
use Rattle.model.proofs.Tables.Climbs.{up, Step, climbs_cases, climbs_more}
use Rattle.model.proofs.Tables.Loads.{load-holds, dirs_back, files_back, rows-again}
use Rattle.model.proofs.Tables.Rules.{data_range}

clash : {A : Type 0} → ◌≡◌ {A = Bool} true false → A
clash e = absurd cc

-- the first that passes is the lowest ----------------------------------------------------------------------

module _ {A : Type 0} (f : A → Bool) (d : A) where
  below-first : (xs : List A) (n : ℕ) → first f xs ≡ Some n → (m : ℕ) → m < n → f (get_or xs m d) ≡ false
  below-first [] n e m l = absurd cc
  below-first (x ∷ xs) n e m l = go (λ k. below-first xs k) (f x) refl (first f xs) refl e m l
    where
      later : (o : Option ℕ) → raised o ≡ Some n → (k : ℕ) × (o ≡ Some k) × (n ≡ suc k)
      later None h = absurd cc
      later (Some k) h = (k, refl, let q : suc k ≡ n = cc in sym q)

      go : ((k : ℕ) → first f xs ≡ Some k → (m : ℕ) → m < k → f (get_or xs m d) ≡ false) → (b : Bool) → f x ≡ b → (o : Option ℕ) → first f xs ≡ o → cond b (Some 0) (raised o) ≡ Some n → (m : ℕ) → m < n → f (get_or (x ∷ xs) m d) ≡ false
      go ih true p o q h m l = absurd (let z : 0 ≡ n = cc in let w : ⊥ = omega arith in w)
      go ih false p o q h zero l = p
      go ih false p o q h (suc m) l = let r = later o h in ih r.0 (q ∙ r.1) m (let s = r.2 in omega arith)

  to_lowest : (xs : List A) (n : ℕ) → first f xs ≡ Some n → Lowest f d xs n
  to_lowest xs n e = let s = first_some f d xs n e in record { inside = s.0; passed = s.1; none_below = below-first xs n e }

  from_lowest : (xs : List A) (n : ℕ) → Lowest f d xs n → first f xs ≡ Some n
  from_lowest [] n l = absurd (let k = l.inside in let w : ⊥ = omega arith in w)
  from_lowest (x ∷ xs) zero l = ap (λ (b : Bool). cond b (Some 0) (raised (first f xs))) l.passed
  from_lowest (x ∷ xs) (suc n) l =
      ap (λ (b : Bool). cond b (Some 0) (raised (first f xs))) (l.none_below 0 (omega arith))
      ∙ ap raised (from_lowest xs n (record { inside = let k = l.inside in omega arith; passed = l.passed; none_below = λ m h. l.none_below (suc m) (omega arith) }))

  from_none : (xs : List A) → ((n : ℕ) → n < length xs → f (get_or xs n d) ≡ false) → first f xs ≡ None
  from_none [] h = refl
  from_none (x ∷ xs) h = ap (λ (b : Bool). cond b (Some 0) (raised (first f xs))) (h 0 (omega arith)) ∙ ap raised (from_none xs (λ n l. h (suc n) (omega arith)))

  pub finds_lowest : (xs : List A) → FindsLowest f d xs
  finds_lowest xs = (λ n. (to_lowest xs n, from_lowest xs n), (first_none f d xs, from_none xs))

pub entries_lowest : EntriesLowest
entries_lowest es = finds_lowest (λ e. not (live e)) no_entry es

pub numbers_lowest : NumbersLowest
numbers_lowest items = finds_lowest (λ x. not (is_some x)) None items

-- the sectors that `write` gives out -------------------------------------------------------------------------

-- each at least lo, and more than the one before
abbrev Up : ℕ → List ℕ → Type 0
Up lo [] = Unit {0}
Up lo (x ∷ xs) = (lo ≤ x) × Up (suc x) xs

up_weaker : (lo hi : ℕ) (xs : List ℕ) → lo ≤ hi → Up hi xs → Up lo xs
up_weaker lo hi [] l u = tt
up_weaker lo hi (x ∷ xs) l u = (let k = u.0 in omega arith, u.1)

up_at : (lo : ℕ) (xs : List ℕ) → Up lo xs → (a : ℕ) → a < length xs → lo ≤ get_or xs a 0
up_at lo [] u a l = absurd (omega arith)
up_at lo (x ∷ xs) u zero l = u.0
up_at lo (x ∷ xs) u (suc a) l = let h = up_at (suc x) xs u.1 a (omega arith) in let k = u.0 in omega arith

up-rising : (lo : ℕ) (xs : List ℕ) → Up lo xs → Rising xs
up-rising lo [] u a b l m = absurd (omega arith)
up-rising lo (x ∷ xs) u zero zero l m = absurd (omega arith)
up-rising lo (x ∷ xs) u zero (suc b) l m = let h = up_at (suc x) xs u.1 b (omega arith) in omega arith
up-rising lo (x ∷ xs) u (suc a) zero l m = absurd (omega arith)
up-rising lo (x ∷ xs) u (suc a) (suc b) l m = up-rising (suc x) xs u.1 a b (omega arith) (omega arith)

module _ (ms : List ℕ) where
  abbrev Within : ℕ → ℕ → ℕ → Type 0
  Within s n x = (s ≤ x) × (x < s + n) × (get_or ms x 1 ≡ 0)

  free_up : (n s : ℕ) → Up s (free_from ms s n)
  free_up zero s = tt
  free_up (suc n) s = go (eqb (get_or ms s 1) 0) (free_up n (suc s))
    where
      go : (b : Bool) → Up (suc s) (free_from ms (suc s) n) → Up s (cond b (s ∷ free_from ms (suc s) n) (free_from ms (suc s) n))
      go true h = (omega arith, h)
      go false h = up_weaker s (suc s) (free_from ms (suc s) n) (omega arith) h

  free-at : (n s a : ℕ) → a < length (free_from ms s n) → Within s n (get_or (free_from ms s n) a 0)
  free-at zero s a l = absurd (omega arith)
  free-at (suc n) s a l = go (free-at n (suc s)) (eqb (get_or ms s 1) 0) refl a l
    where
      on : (x : ℕ) → Within (suc s) n x → Within s (suc n) x
      on x w = (let p = w.0 in omega arith, let p = w.1 in omega arith, w.2)

      go : ((a : ℕ) → a < length (free_from ms (suc s) n) → Within (suc s) n (get_or (free_from ms (suc s) n) a 0)) → (b : Bool) → eqb (get_or ms s 1) 0 ≡ b → (a : ℕ) → a < length (cond b (s ∷ free_from ms (suc s) n) (free_from ms (suc s) n)) → Within s (suc n) (get_or (cond b (s ∷ free_from ms (suc s) n) (free_from ms (suc s) n)) a 0)
      go ih true e zero l = (omega arith, omega arith, eqb-true (get_or ms s 1) 0 e)
      go ih true e (suc a) l = on (get_or (free_from ms (suc s) n) a 0) (ih a (omega arith))
      go ih false e a l = on (get_or (free_from ms (suc s) n) a 0) (ih a l)

  free-has : (n s x : ℕ) → Within s n x → (a : ℕ) × (a < length (free_from ms s n)) × (get_or (free_from ms s n) a 0 ≡ x)
  free-has zero s x w = absurd (let p = w.0 in let q = w.1 in let z : ⊥ = omega arith in z)
  free-has (suc n) s x w = go (λ e. free-has n (suc s) x (rest e)) (eqb (get_or ms s 1) 0) refl (eqb x s) refl
    where
      rest : eqb x s ≡ false → Within (suc s) n x
      rest e = let ne = eqb-false x s e in let p = w.0 in let q = w.1 in (omega (arith, ne), omega arith, w.2)

      go : (eqb x s ≡ false → (a : ℕ) × (a < length (free_from ms (suc s) n)) × (get_or (free_from ms (suc s) n) a 0 ≡ x)) → (b : Bool) → eqb (get_or ms s 1) 0 ≡ b → (c : Bool) → eqb x s ≡ c → (a : ℕ) × (a < length (cond b (s ∷ free_from ms (suc s) n) (free_from ms (suc s) n))) × (get_or (cond b (s ∷ free_from ms (suc s) n) (free_from ms (suc s) n)) a 0 ≡ x)
      go ih true e true f = (0, omega arith, sym (eqb-true x s f))
      go ih true e false f = let r = ih f in (suc r.0, let k = r.1 in omega arith, r.2)
      go ih false e true f = clash (sym (eq-eqb (get_or ms s 1) 0 (ap (λ (k : ℕ). get_or ms k 1) (sym (eqb-true x s f)) ∙ w.2)) ∙ e)
      go ih false e false f = ih f

data_within : (t : Tables) (s : ℕ) → Free t s → Within t.marks 0x0b 245 s
data_within t s f = let r = data_range s f.0 in (r.0, let q = r.1 in omega arith, f.1)

within_data : (t : Tables) (s : ℕ) → Within t.marks 0x0b 245 s → Free t s
within_data t s w = (and_from (leb 0x0b s) (leb s 0xff) (le-leb 0x0b s w.0) (le-leb s 0xff (let q = w.1 in omega arith)), w.2)

-- the first k of a rising list are the lowest
first_lowest : (t : Tables) (k : ℕ) (fs : List ℕ) → k ≤ length fs → Rising fs → ((a : ℕ) → a < length fs → Free t (get_or fs a 0)) → ((s : ℕ) → Free t s → (a : ℕ) × (a < length fs) × (get_or fs a 0 ≡ s)) → LowestFree t k (take k fs)
first_lowest t k fs room up free has =
    let long = length-take-le k fs room in
    record {
      many = long;
      rising = λ a b l m. subst (λ (x : ℕ). x < get_or (take k fs) b 0) (sym (same a (omega arith))) (subst (λ (x : ℕ). get_or fs a 0 < x) (sym (same b (omega arith))) (up a b l (omega arith)));
      free = λ a l. subst (Free t) (sym (same a l)) (free a (omega arith));
      none_skipped = λ s a f l less. skipped s a l (subst (λ (x : ℕ). s < x) (same a l) less) (has s f);
    }
  where
    same : (a : ℕ) → a < k → get_or (take k fs) a 0 ≡ get_or fs a 0
    same a l = get_or-take k fs a 0 l

    order : (a b : ℕ) → a ≤ b → b < length fs → get_or fs a 0 ≤ get_or fs b 0
    order a b l m = go (eqb a b) refl
      where
        go : (c : Bool) → eqb a b ≡ c → get_or fs a 0 ≤ get_or fs b 0
        go true e = let q = ap (λ (x : ℕ). get_or fs x 0) (eqb-true a b e) in omega (arith, q)
        go false e = let ne = eqb-false a b e in let h = up a b (omega (arith, ne)) m in omega arith

    skipped : (s a : ℕ) → a < k → s < get_or fs a 0 → (b : ℕ) × (b < length fs) × (get_or fs b 0 ≡ s) → (b : ℕ) × (b < a) × (get_or (take k fs) b 0 ≡ s)
    skipped s a l less h = go (ltb h.0 a) refl
      where
        go : (c : Bool) → ltb h.0 a ≡ c → (b : ℕ) × (b < a) × (get_or (take k fs) b 0 ≡ s)
        go true e = let m : h.0 < a = Rattle.std.proofs.lemmas.Bool.ltb-true h.0 a e in (h.0, m, same h.0 (omega arith) ∙ h.2)
        go false e = absurd (let o = order a h.0 (ltb-false h.0 a e) h.1 in let q = h.2 in let z : ⊥ = omega arith in z)

pub sectors_lowest : SectorsLowest
sectors_lowest =
    record {
      listed_rising = rising;
      listed_free = free;
      free_listed = has;
      given_lowest = λ t w r. first_lowest t (length w / 512) (free_sectors t) (leb-true (length w / 512) (length (free_sectors t)) r) (rising t) (free t) (has t);
    }
  where
    rising : (t : Tables) → Rising (free_sectors t)
    rising t = up-rising 0x0b (free_from t.marks 0x0b 245) (free_up t.marks 245 0x0b)

    free : (t : Tables) (a : ℕ) → a < length (free_sectors t) → Free t (get_or (free_sectors t) a 0)
    free t a l = within_data t (get_or (free_from t.marks 0x0b 245) a 0) (free-at t.marks 245 0x0b a l)

    has : (t : Tables) (s : ℕ) → Free t s → (a : ℕ) × (a < length (free_sectors t)) × (get_or (free_sectors t) a 0 ≡ s)
    has t s f = free-has t.marks 245 0x0b s (data_within t s f)

-- layout and its reading ----------------------------------------------------------------------------------------

parts-many : (n : ℕ) (bs : List ℕ) → length (parts n bs) ≡ n
parts-many zero bs = refl
parts-many (suc n) bs = ap suc (parts-many n (drop 16 bs))

parts-long : (n : ℕ) (bs : List ℕ) → n * 16 ≤ length bs → (k : ℕ) → k < n → length (get_or (parts n bs) k []) ≡ 16
parts-long zero bs l k h = absurd (omega arith)
parts-long (suc n) bs l zero h = length-take-le 16 bs (omega arith)
parts-long (suc n) bs l (suc k) h = parts-long n (drop 16 bs) (let d = length-drop 16 bs in omega arith) k (omega arith)

parts_joined : (n : ℕ) (bs : List ℕ) → length bs ≡ n * 16 → rows_bytes (parts n bs) ≡ bs
parts_joined zero [] e = refl
parts_joined zero (b ∷ bs) e = absurd (omega arith)
parts_joined (suc n) bs e = ap (λ (x : List ℕ). take 16 bs ++ x) (parts_joined n (drop 16 bs) (let d = length-drop 16 bs in omega arith)) ∙ take-append-drop 16 bs

whole-entry : (bs : List ℕ) → 1 ≤ length bs → (entry bs).parent ∷ (entry bs).name ≡ bs
whole-entry [] l = absurd (omega arith)
whole-entry (b ∷ bs) l = refl

entries_joined : (n : ℕ) (bs : List ℕ) → length bs ≡ n * 16 → entries_bytes (map entry (parts n bs)) ≡ bs
entries_joined zero [] e = refl
entries_joined zero (b ∷ bs) e = absurd (omega arith)
entries_joined (suc n) bs e =
    ap₂ (λ (x y : List ℕ). x ++ y) (whole-entry (take 16 bs) (let l = length-take-le 16 bs (omega arith) in omega arith)) (entries_joined n (drop 16 bs) (let d = length-drop 16 bs in omega arith))
    ∙ take-append-drop 16 bs

entries-many : (n : ℕ) (bs : List ℕ) → length (map entry (parts n bs)) ≡ n
entries-many zero bs = refl
entries-many (suc n) bs = ap suc (entries-many n (drop 16 bs))

names-long : (n : ℕ) (bs : List ℕ) → n * 16 ≤ length bs → (k : ℕ) → k < n → length (get_or (map entry (parts n bs)) k no_entry).name ≡ 15
names-long zero bs l k h = absurd (omega arith)
names-long (suc n) bs l zero h = let a = length-take-le 16 bs (omega arith) in let b = length-drop 1 (take 16 bs) in omega arith
names-long (suc n) bs l (suc k) h = names-long n (drop 16 bs) (let d = length-drop 16 bs in omega arith) k (omega arith)

pub tables_shaped : (m d f r : List ℕ) → length m ≡ 512 → length d ≡ 512 → length f ≡ 512 → length r ≡ 512 → Shaped (tables m d f r)
tables_shaped m d f r lm ld lf lr =
    record {
      marks_long = lm;
      dirs_many = entries-many 32 d;
      files_many = entries-many 32 f;
      rows_many = parts-many 32 r;
      dirs_named = names-long 32 d (omega arith);
      files_named = names-long 32 f (omega arith);
      rows_long = parts-long 32 r (omega arith);
    }

pub layout_undone : LayoutUndone
layout_undone =
    record {
      read_back = λ t s. let d = dirs_back t s in let f = files_back t s in let r = rows-again t s in λ j. record { marks = t.marks; dirs = d j; files = f j; rows = r j };
      laid-again = λ m d f r lm ld lf lr. (tables_shaped m d f r lm ld lf lr, entries_joined 32 d ld, entries_joined 32 f lf, parts_joined 32 r lr);
    }

-- the test of soundness ---------------------------------------------------------------------------------------

pub sound-told : SoundTold
sound-told i t s = (sound_facts i t s, facts_sound i t s)

-- the way up is climbed step by step
climbed : (ds : List Entry) (n d : ℕ) → climbs ds n d ≡ true → (es : List ℕ) × WayUp ds d es
climbed ds zero d h = ([], eqb-true d root h)
climbed ds (suc n) d h = go (climbs_cases ds n d h) (λ x k. climbed ds n x k)
  where
    go : Step ds n d → ((x : ℕ) → climbs ds n x ≡ true → (es : List ℕ) × WayUp ds x es) → (es : List ℕ) × WayUp ds d es
    go (inl e) ih = ([], e)
    go (inr r) ih = let w = ih (up ds d) r.2 in (d ∷ w.0, (refl, r.1, w.1))

climbs-way : (ds : List Entry) (es : List ℕ) (d : ℕ) → WayUp ds d es → climbs ds (length es) d ≡ true
climbs-way ds [] d w = eq-eqb d root w
climbs-way ds (e ∷ es) d w = climbs_more ds (length es) d w.1 (climbs-way ds es (up ds d) w.2)

pub rooted-told : RootedTold
rooted-told ds d = (climbed ds 32 d, λ w. climbs-within ds (length w.0) d 32 (omega arith) (climbs-way ds w.0 d w.1))

read_length : (i : Image) (s : ℕ) (b : List ℕ) → whole i ≡ true → look i s ≡ Ok b → length b ≡ 512
read_length i s b w e = sym (ap (λ (x : Result (List ℕ) Fault). length (bytes_or_blank x)) e) ∙ look-length i s w (ap is_ok e)

-- the tables of a whole image have their sizes
pub load_shaped : (i : Image) (t : Tables) → whole i ≡ true → load i ≡ Ok t → Shaped t
load_shaped i t w e =
    let h = load-holds i t e in
    let d = h.dirs-at in
    let f = h.files-at in
    let r = h.rows_at in
    let u = tables_shaped t.marks d.0 f.0 r.0 (read_length i 0x100 t.marks w h.map_at) (read_length i 0x101 d.0 w d.1) (read_length i 0x102 f.0 w f.1) (read_length i 0x103 r.0 w r.1) in
    let p = d.2 in
    let q = f.2 in
    let o = r.2 in
    subst Shaped (λ j. record { marks = t.marks; dirs = p j; files = q j; rows = o j }) u

pub let_in : LetIn
let_in i w = (to (ltb (length i) 260) refl (load i) refl, from)
  where
    judged : (b : Bool) → cond b None (Some unsound) ≡ None → b ≡ true
    judged true h = refl
    judged false h = absurd cc

    to : (b : Bool) → ltb (length i) 260 ≡ b → (l : Result Tables Fault) → load i ≡ l → cond b (Some small) (loaded_refusal i l) ≡ None → Carries i
    to true p l q h = absurd cc
    to false p (Err f) q h = absurd cc
    to false p (Ok t) q h = record { large = ltb-false (length i) 260 p; tables = t; held = q; sound = sound_facts i t (load_shaped i t w q) (judged (sound i t) h) }

    from : Carries i → inspection i ≡ None
    from c =
        ap₂ (λ (b : Bool) (l : Result Tables Fault). cond b (Some small) (loaded_refusal i l)) (le-ltb (length i) 260 c.large) c.held
        ∙ ap (λ (b : Bool). cond b None (Some unsound)) (facts_sound i c.tables (load_shaped i c.tables w c.held) c.sound)
