-- The used places of rows, the sectors that they name, and marks on the map.
use Rattle.std.proofs.Common.{◌≡◌, ℕ, zero, suc, ◌*◌, ◌<◌, ◌≤◌, Bool, true, false, cond, eqb, ◌⊎◌, List, [], ◌∷◌, ◌++◌, length, get_or, set, replicate, sym, refl, ap, ◌∙◌, subst, ap₂, inl, inr, arith}
use Rattle.std.proofs.lemmas.List.{get_or-set_other, get_or-set_same, length-set}
use Rattle.std.proofs.lemmas.Bool.{both_ways, cases_eq, eq-eqb, eqb-false, eqb-true, false≢true, ne_eqb, or_cases, or_left, or_parts, or_right}
use Rattle.model.specs.Image.{Image, look, is_ok}
use Rattle.model.specs.Tables.{Entry, Tables, no_entry, live, used, live_places, member, distinct}
use Rattle.model.specs.Volume.{body, marked, goes, places_under}
use Rattle.model.specs.Sound.{Shaped, NamesSector, ProperRow}
use Rattle.model.specs.Law.{whole}
use Rattle.model.proofs.Common.Members.{member-append, member-at, at-member, distinct-at, at-distinct, distinct_append, append-distinct}
use Rattle.model.proofs.Store.Bodies.{body-length}

pub used-at : (r : List ℕ) (j : ℕ) → j < length (used r) → get_or (used r) j 0 ≡ get_or r j 0
used-at [] j l = refl
used-at (s ∷ r) j l = go (eqb s 0) j l (used-at r)
  where
    go : (b : Bool) (j : ℕ) → j < length (cond b [] (s ∷ used r)) → ((j : ℕ) → j < length (used r) → get_or (used r) j 0 ≡ get_or r j 0) → get_or (cond b [] (s ∷ used r)) j 0 ≡ get_or (s ∷ r) j 0
    go true j l ih = absurd (omega arith)
    go false zero l ih = refl
    go false (suc j) l ih = ih j (omega arith)

pub used-short : (r : List ℕ) → length (used r) ≤ length r
used-short [] = omega arith
used-short (s ∷ ss) = go (eqb s 0) (used-short ss)
  where
    go : (b : Bool) → length (used ss) ≤ length ss → length (cond b [] (s ∷ used ss)) ≤ suc (length ss)
    go true h = omega arith
    go false h = omega arith

used_zeros : (n : ℕ) → used (replicate n 0) ≡ []
used_zeros zero = refl
used_zeros (suc n) = refl

-- places ---------------------------------------------------------------------------------------------

abbrev places : (Entry → Bool) → List Entry → List (List ℕ) → List ℕ
places g [] rs = []
places g (e ∷ es) [] = []
places g (e ∷ es) (r ∷ rs) = cond (g e) (used r ++ places g es rs) (places g es rs)

abbrev NamesBy : (Entry → Bool) → List Entry → List (List ℕ) → ℕ → ℕ → ℕ → Type 0
NamesBy g es rs f j s = (f < length es) × (g (get_or es f no_entry) ≡ true) × (j < length (used (get_or rs f []))) × (get_or (get_or rs f []) j 0 ≡ s)

pub live_places_is : (es : List Entry) (rs : List (List ℕ)) → live_places es rs ≡ places live es rs
live_places_is [] rs = refl
live_places_is (e ∷ es) [] = refl
live_places_is (e ∷ es) (r ∷ rs) = ap (λ x. cond (live e) (used r ++ x) x) (live_places_is es rs)

pub places_under_is : (ds : List Entry) (top : ℕ) (es : List Entry) (rs : List (List ℕ)) → places_under ds top es rs ≡ places (goes ds top) es rs
places_under_is ds top [] rs = refl
places_under_is ds top (e ∷ es) [] = refl
places_under_is ds top (e ∷ es) (r ∷ rs) = ap (λ x. cond (goes ds top e) (used r ++ x) x) (places_under_is ds top es rs)

abbrev SomePlace : (Entry → Bool) → List Entry → List (List ℕ) → ℕ → Type 0
SomePlace g es rs s = (f : ℕ) × (j : ℕ) × NamesBy g es rs f j s

pub member-places : (g : Entry → Bool) (es : List Entry) (rs : List (List ℕ)) (s : ℕ) → member s (places g es rs) ≡ true → (f : ℕ) × (j : ℕ) × NamesBy g es rs f j s
member-places g [] rs s h = absurd (false≢true h)
member-places g (e ∷ es) [] s h = absurd (false≢true h)
member-places g (e ∷ es) (r ∷ rs) s h = go (λ m. member-places g es rs s m) (g e) refl h
  where
    later : (member s (places g es rs) ≡ true → SomePlace g es rs s) → member s (places g es rs) ≡ true → SomePlace g (e ∷ es) (r ∷ rs) s
    later ih m = let q = ih m in let n = q.2 in (suc q.0, q.1, (omega (arith, n.0), n.1, n.2, n.3))

    here : (member s (places g es rs) ≡ true → SomePlace g es rs s) → g e ≡ true → (member s (used r) ≡ true) ⊎ (member s (places g es rs) ≡ true) → SomePlace g (e ∷ es) (r ∷ rs) s
    here ih p (inl m) = let q = member-at s (used r) m in (0, q.0, (omega arith, p, q.1, sym (used-at r q.0 q.1) ∙ q.2))
    here ih p (inr m) = later ih m

    go : (member s (places g es rs) ≡ true → SomePlace g es rs s) → (b : Bool) → g e ≡ b → member s (cond b (used r ++ places g es rs) (places g es rs)) ≡ true → SomePlace g (e ∷ es) (r ∷ rs) s
    go ih true p m = here ih p (or_cases (member s (used r)) (member s (places g es rs)) (sym (member-append s (used r) (places g es rs)) ∙ m))
    go ih false p m = later ih m

pub places-member : (g : Entry → Bool) (es : List Entry) (rs : List (List ℕ)) (f j s : ℕ) → NamesBy g es rs f j s → member s (places g es rs) ≡ true
places-member g [] rs f j s n = absurd (omega (arith, n.0))
places-member g (e ∷ es) [] f j s n = absurd (none f n.2)
  where
    none : (f : ℕ) → j < length (used (get_or {A = List ℕ} [] f [])) → ⊥
    none f h = omega arith
places-member g (e ∷ es) (r ∷ rs) zero j s n = go (g e) n.1
  where
    m : member s (used r) ≡ true
    m = at-member (used r) j s n.2 (used-at r j n.2 ∙ n.3)

    go : (b : Bool) → b ≡ true → member s (cond b (used r ++ places g es rs) (places g es rs)) ≡ true
    go true p = member-append s (used r) (places g es rs) ∙ or_left (member s (used r)) (member s (places g es rs)) m
    go false p = absurd (both_ways false refl p)
places-member g (e ∷ es) (r ∷ rs) (suc f) j s n = go (places-member g es rs f j s (omega (arith, n.0), n.1, n.2, n.3)) (g e)
  where
    go : member s (places g es rs) ≡ true → (b : Bool) → member s (cond b (used r ++ places g es rs) (places g es rs)) ≡ true
    go m true = member-append s (used r) (places g es rs) ∙ or_right (member s (used r)) (member s (places g es rs)) m
    go m false = m

abbrev PlacesApart : (Entry → Bool) → List Entry → List (List ℕ) → Type 0
PlacesApart g es rs = (f j h k s : ℕ) → NamesBy g es rs f j s → NamesBy g es rs h k s → (f ≡ h) × (j ≡ k)

pub distinct_apart : (g : Entry → Bool) (es : List Entry) (rs : List (List ℕ)) → distinct (places g es rs) ≡ true → PlacesApart g es rs
distinct_apart g [] rs d f j h k s m n = absurd (let l = m.0 in let w : ⊥ = omega arith in w)
distinct_apart g (e ∷ es) [] d f j h k s m n = absurd (let l = m.2 in let w : ⊥ = omega arith in w)
distinct_apart g (e ∷ es) (r ∷ rs) d f j h k s m n = go (g e) refl d f h m n (λ q. distinct_apart g es rs q)
  where
    down : (f j : ℕ) → NamesBy g (e ∷ es) (r ∷ rs) (suc f) j s → NamesBy g es rs f j s
    down f j m = (let l = m.0 in omega arith, m.1, m.2, m.3)

    here : (j : ℕ) → NamesBy g (e ∷ es) (r ∷ rs) 0 j s → get_or (used r) j 0 ≡ s
    here j m = used-at r j m.2 ∙ m.3

    go : (b : Bool) → g e ≡ b → distinct (cond b (used r ++ places g es rs) (places g es rs)) ≡ true → (f h : ℕ) → NamesBy g (e ∷ es) (r ∷ rs) f j s → NamesBy g (e ∷ es) (r ∷ rs) h k s → (distinct (places g es rs) ≡ true → PlacesApart g es rs) → (f ≡ h) × (j ≡ k)
    go true l d zero zero m n ih = (refl, distinct-at (used r) (distinct_append (used r) (places g es rs) d).0 j k m.2 n.2 (here j m ∙ sym (here k n)))
    go true l d zero (suc h) m n ih = absurd ((distinct_append (used r) (places g es rs) d).2 s (at-member (used r) j s m.2 (here j m)) (places-member g es rs h k s (down h k n)))
    go true l d (suc f) zero m n ih = absurd ((distinct_append (used r) (places g es rs) d).2 s (at-member (used r) k s n.2 (here k n)) (places-member g es rs f j s (down f j m)))
    go true l d (suc f) (suc h) m n ih = let q = ih (distinct_append (used r) (places g es rs) d).1 f j h k s (down f j m) (down h k n) in (ap suc q.0, q.1)
    go false l d zero h m n ih = absurd (both_ways (g e) l m.1)
    go false l d (suc f) zero m n ih = absurd (both_ways (g e) l n.1)
    go false l d (suc f) (suc h) m n ih = let q = ih d f j h k s (down f j m) (down h k n) in (ap suc q.0, q.1)

pub distinct-places : (g : Entry → Bool) (es : List Entry) (rs : List (List ℕ)) → PlacesApart g es rs → distinct (places g es rs) ≡ true
distinct-places g [] rs apart = refl
distinct-places g (e ∷ es) [] apart = refl
distinct-places g (e ∷ es) (r ∷ rs) apart = go (distinct-places g es rs (λ f j h k s n m. let q = apart (suc f) j (suc h) k s (next f j s n) (next h k s m) in (omega (arith, q.0), q.1))) (g e) refl
  where
    next : (f j s : ℕ) → NamesBy g es rs f j s → NamesBy g (e ∷ es) (r ∷ rs) (suc f) j s
    next f j s n = (omega (arith, n.0), n.1, n.2, n.3)

    here : g e ≡ true → (j : ℕ) → j < length (used r) → (s : ℕ) → get_or (used r) j 0 ≡ s → NamesBy g (e ∷ es) (r ∷ rs) 0 j s
    here p j l s q = (omega arith, p, l, sym (used-at r j l) ∙ q)

    cross : g e ≡ true → (s : ℕ) → member s (used r) ≡ true → member s (places g es rs) ≡ true → ⊥
    cross p s m n =
        let a = member-at s (used r) m in
        let b = member-places g es rs s n in
        let q = apart 0 a.0 (suc b.0) b.1 s (here p a.0 a.1 s a.2) (next b.0 b.1 s b.2) in
        omega (arith, q.0)

    go : distinct (places g es rs) ≡ true → (b : Bool) → g e ≡ b → distinct (cond b (used r ++ places g es rs) (places g es rs)) ≡ true
    go rest true p = append-distinct (used r) (places g es rs) (at-distinct (used r) (λ j k l m q. (apart 0 j 0 k (get_or (used r) k 0) (here p j l (get_or (used r) k 0) q) (here p k m (get_or (used r) k 0) refl)).1)) rest (cross p)
    go rest false p = rest

-- marks -----------------------------------------------------------------------------------------------

pub length_marked : (ss : List ℕ) (m : ℕ) (ms : List ℕ) → length (marked ss m ms) ≡ length ms
length_marked [] m ms = refl
length_marked (s ∷ ss) m ms = length_marked ss m (set ms s m) ∙ length-set ms s m

pub marked_in : (ss : List ℕ) (m : ℕ) (ms : List ℕ) (s : ℕ) → s < length ms → (member s ss ≡ true) ⊎ (get_or ms s 1 ≡ m) → get_or (marked ss m ms) s 1 ≡ m
marked_in [] m ms s l (inl h) = absurd (false≢true h)
marked_in [] m ms s l (inr h) = h
marked_in (x ∷ ss) m ms s l c = marked_in ss m (set ms x m) s (subst (λ n. s < n) (sym (length-set ms x m)) l) (go (cases_eq s x) c)
  where
    go : (s ≡ x) ⊎ (s ≡ x → ⊥) → (member s (x ∷ ss) ≡ true) ⊎ (get_or ms s 1 ≡ m) → (member s ss ≡ true) ⊎ (get_or (set ms x m) s 1 ≡ m)
    go (inl e) c = inr (subst (λ y. get_or (set ms y m) s 1 ≡ m) e (get_or-set_same ms s m 1 l))
    go (inr n) (inl h) = inl (rest (or_cases (eqb s x) (member s ss) h))
      where
        rest : (eqb s x ≡ true) ⊎ (member s ss ≡ true) → member s ss ≡ true
        rest (inl e) = absurd (n (eqb-true s x e))
        rest (inr k) = k
    go (inr n) (inr h) = inr (get_or-set_other ms x s m 1 n ∙ h)

pub marked_out : (ss : List ℕ) (m : ℕ) (ms : List ℕ) (s : ℕ) → member s ss ≡ false → get_or (marked ss m ms) s 1 ≡ get_or ms s 1
marked_out [] m ms s h = refl
marked_out (x ∷ ss) m ms s h =
    let u = or_parts (eqb s x) (member s ss) h in
    marked_out ss m (set ms x m) s u.1 ∙ get_or-set_other ms x s m 1 (λ e. eqb-false s x u.0 e)

-- the places that name a sector are those of the tables' live rows
module _ (t : Tables) (shaped : Shaped t) where
  pub named-member : (f j s : ℕ) → NamesSector t f j s → member s (live_places t.files t.rows) ≡ true
  named-member f j s n = ap (member s) (live_places_is t.files t.rows) ∙ places-member live t.files t.rows f j s (subst (λ m. f < m) (sym shaped.files_many) n.0, n.1, n.2, n.3)

  pub member-named : (s : ℕ) → member s (live_places t.files t.rows) ≡ true → (f : ℕ) × (j : ℕ) × NamesSector t f j s
  member-named s m =
      let q = member-places live t.files t.rows s (sym (ap (member s) (live_places_is t.files t.rows)) ∙ m) in
      (q.0, q.1, (subst (λ m. q.0 < m) shaped.files_many q.2.0, q.2.1, q.2.2, q.2.3))

pub used-padded : (n : ℕ) (ss : List ℕ) → ((x : ℕ) → member x ss ≡ true → 0 < x) → used (ss ++ replicate n 0) ≡ ss
used-padded n [] h = used_zeros n
used-padded n (s ∷ ss) h =
    let a : 0 < s = h s (or_left (eqb s s) (member s ss) (eq-eqb s s refl)) in
    let b : eqb s 0 ≡ false = ne_eqb s 0 (λ e. omega arith) in
    ap₂ (λ (c : Bool) (r : List ℕ). cond c [] (s ∷ r)) b (used-padded n ss (λ x k. h x (or_right (eqb x s) (member x ss) k)))

pub row-length : (i : Image) (r : List ℕ) → whole i ≡ true → ProperRow i r → length (body i (used r)) ≡ 512 * length (used r)
row-length i r w p = body-length i (used r) w (λ j l. ap (λ s. is_ok (look i s)) (used-at r j l) ∙ (p.stored j l).1)
