-- Numbers in a list, and lists in which no number stands twice.
use Rattle.std.proofs.Common.{◌≡◌, ℕ, zero, suc, ◌<◌, Bool, true, false, not, ◌&&◌, ◌||◌, eqb, List, [], ◌∷◌, ◌++◌, length, get_or, take, sym, refl, ap, ◌∙◌, subst, arith}
use Rattle.std.proofs.lemmas.Bool.{and_from, and_parts, both_ways, eq-eqb, eqb-true, false≢true, not_from_false, not-true, or_from, or_left, or_parts, or_right, false_from_ne_true}
use Rattle.model.specs.Tables.{member, distinct}

pub member-append : (s : ℕ) (xs ys : List ℕ) → member s (xs ++ ys) ≡ (member s xs || member s ys)
member-append s [] ys = refl
member-append s (x ∷ xs) ys = go (eqb s x) (member-append s xs ys)
  where
    go : (b : Bool) → member s (xs ++ ys) ≡ (member s xs || member s ys) → (b || member s (xs ++ ys)) ≡ ((b || member s xs) || member s ys)
    go true h = refl
    go false h = h

pub member-at : (s : ℕ) (xs : List ℕ) → member s xs ≡ true → (k : ℕ) × (k < length xs) × (get_or xs k 0 ≡ s)
member-at s [] e = absurd (false≢true e)
member-at s (x ∷ xs) e = go (eqb s x) refl e (member-at s xs)
  where
    go : (b : Bool) → eqb s x ≡ b → (b || member s xs) ≡ true → (member s xs ≡ true → (k : ℕ) × (k < length xs) × (get_or xs k 0 ≡ s)) → (k : ℕ) × (k < suc (length xs)) × (get_or (x ∷ xs) k 0 ≡ s)
    go true h e ih = (0, omega arith, sym (eqb-true s x h))
    go false h e ih = let r = ih e in (suc r.0, omega arith, r.2)

pub at-member : (xs : List ℕ) (k s : ℕ) → k < length xs → get_or xs k 0 ≡ s → member s xs ≡ true
at-member [] k s l e = absurd (omega arith)
at-member (x ∷ xs) zero s l e = or_left (eqb s x) (member s xs) (eq-eqb s x (sym e))
at-member (x ∷ xs) (suc k) s l e = or_right (eqb s x) (member s xs) (at-member xs k s (omega arith) e)

pub distinct-at : (xs : List ℕ) → distinct xs ≡ true → (j k : ℕ) → j < length xs → k < length xs → get_or xs j 0 ≡ get_or xs k 0 → j ≡ k
distinct-at [] d j k l m e = absurd (omega arith)
distinct-at (x ∷ xs) d zero zero l m e = refl
distinct-at (x ∷ xs) d zero (suc k) l m e = absurd (both_ways (member x xs) (not-true (member x xs) (and_parts (not (member x xs)) (distinct xs) d).0) (at-member xs k x (omega arith) (sym e)))
distinct-at (x ∷ xs) d (suc j) zero l m e = absurd (both_ways (member x xs) (not-true (member x xs) (and_parts (not (member x xs)) (distinct xs) d).0) (at-member xs j x (omega arith) e))
distinct-at (x ∷ xs) d (suc j) (suc k) l m e = ap suc (distinct-at xs (and_parts (not (member x xs)) (distinct xs) d).1 j k (omega arith) (omega arith) e)

pub at-distinct : (xs : List ℕ) → ((j k : ℕ) → j < length xs → k < length xs → get_or xs j 0 ≡ get_or xs k 0 → j ≡ k) → distinct xs ≡ true
at-distinct [] h = refl
at-distinct (x ∷ xs) h = go (member x xs) refl (at-distinct xs (λ j k l m e. let q = h (suc j) (suc k) (omega arith) (omega arith) e in omega arith))
  where
    go : (b : Bool) → member x xs ≡ b → distinct xs ≡ true → (not b && distinct xs) ≡ true
    go false e ih = ih
    go true e ih = let r = member-at x xs e in let q = h 0 (suc r.0) (omega arith) (omega arith) (sym r.2) in absurd (omega arith)

pub distinct_append : (xs ys : List ℕ) → distinct (xs ++ ys) ≡ true → (distinct xs ≡ true) × (distinct ys ≡ true) × ((s : ℕ) → member s xs ≡ true → member s ys ≡ true → ⊥)
distinct_append [] ys d = (refl, d, λ s e f. false≢true e)
distinct_append (x ∷ xs) ys d =
    let a = and_parts (not (member x (xs ++ ys))) (distinct (xs ++ ys)) d in
    let ih = distinct_append xs ys a.1 in
    let f = or_parts (member x xs) (member x ys) (sym (member-append x xs ys) ∙ not-true (member x (xs ++ ys)) a.0) in
    (and_from (not (member x xs)) (distinct xs) (not_from_false (member x xs) f.0) ih.0, ih.1, λ s e g. far s (eqb s x) refl e g (ih.2 s) f.1)
  where
    far : (s : ℕ) (b : Bool) → eqb s x ≡ b → (b || member s xs) ≡ true → member s ys ≡ true → (member s xs ≡ true → member s ys ≡ true → ⊥) → member x ys ≡ false → ⊥
    far s true h e g ih f = both_ways (member x ys) f (subst (λ y. member y ys ≡ true) (eqb-true s x h) g)
    far s false h e g ih f = ih e g

pub append-distinct : (xs ys : List ℕ) → distinct xs ≡ true → distinct ys ≡ true → ((s : ℕ) → member s xs ≡ true → member s ys ≡ true → ⊥) → distinct (xs ++ ys) ≡ true
append-distinct [] ys d e h = e
append-distinct (x ∷ xs) ys d e h =
    let a = and_parts (not (member x xs)) (distinct xs) d in
    and_from (not (member x (xs ++ ys))) (distinct (xs ++ ys))
    (not_from_false (member x (xs ++ ys)) (member-append x xs ys ∙ or_from (member x xs) (member x ys) (not-true (member x xs) a.0) (out (member x ys) refl)))
    (append-distinct xs ys a.1 e (λ s p q. h s (or_right (eqb s x) (member s xs) p) q))
  where
    out : (b : Bool) → member x ys ≡ b → b ≡ false
    out false q = refl
    out true q = absurd (h x (or_left (eqb x x) (member x xs) (eq-eqb x x refl)) q)

pub take-member : (n x : ℕ) (xs : List ℕ) → member x (take n xs) ≡ true → member x xs ≡ true
take-member zero x xs h = absurd (false≢true h)
take-member (suc n) x [] h = h
take-member (suc n) x (y ∷ xs) h = go (eqb x y) h (take-member n x xs)
  where
    go : (b : Bool) → (b || member x (take n xs)) ≡ true → (member x (take n xs) ≡ true → member x xs ≡ true) → (b || member x xs) ≡ true
    go true h ih = refl
    go false h ih = ih h

pub take-distinct : (n : ℕ) (xs : List ℕ) → distinct xs ≡ true → distinct (take n xs) ≡ true
take-distinct zero xs h = refl
take-distinct (suc n) [] h = refl
take-distinct (suc n) (y ∷ xs) h =
    let a = and_parts (not (member y xs)) (distinct xs) h in
    and_from (not (member y (take n xs))) (distinct (take n xs)) (not_from_false (member y (take n xs)) (false_from_ne_true (member y (take n xs)) (λ k. both_ways (member y xs) (not-true (member y xs) a.0) (take-member n y xs k)))) (take-distinct n xs a.1)
