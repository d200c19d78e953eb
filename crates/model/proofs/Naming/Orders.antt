-- The orders of names and of paths: each is strict and total.
use Rattle.std.proofs.Common.{◌≡◌, ℕ, ◌<◌, true, false, ◌&&◌, eqb, ltb, ◌⊎◌, [], ◌∷◌, sym, refl, ◌∙◌, inl, inr, arith}
use Rattle.std.proofs.lemmas.Bool.{and_from, and_parts, and_right, both_ways, cases_order, eq-eqb, eqb-true, le-ltb, lt-ltb, ltb-true, or_cases, or_from, or_left, or_right, true≢false}
use Rattle.model.specs.Names.{Name, Path, same_name, before, path_before}
use Rattle.model.proofs.Naming.Same.{same_name_true, same_name_refl}

pub before_irrefl : (n : Name) → before n n ≡ false
before_irrefl [] = refl
before_irrefl (x ∷ xs) = or_from (ltb x x) (eqb x x && before xs xs) (le-ltb x x (omega arith)) (and_right (eqb x x) (before xs xs) (before_irrefl xs))

-- what `before` tells of two that begin with a byte
before_cases : (x y : ℕ) (xs ys : Name) → before (x ∷ xs) (y ∷ ys) ≡ true → (x < y) ⊎ ((x ≡ y) × (before xs ys ≡ true))
before_cases x y xs ys e = go (or_cases (ltb x y) (eqb x y && before xs ys) e)
  where
    go : (ltb x y ≡ true) ⊎ ((eqb x y && before xs ys) ≡ true) → (x < y) ⊎ ((x ≡ y) × (before xs ys ≡ true))
    go (inl h) = inl (ltb-true x y h)
    go (inr h) = let k = and_parts (eqb x y) (before xs ys) h in inr (eqb-true x y k.0, k.1)

before_lt : (x y : ℕ) (xs ys : Name) → x < y → before (x ∷ xs) (y ∷ ys) ≡ true
before_lt x y xs ys h = or_left (ltb x y) (eqb x y && before xs ys) (lt-ltb x y h)

before_eq : (x y : ℕ) (xs ys : Name) → x ≡ y → before xs ys ≡ true → before (x ∷ xs) (y ∷ ys) ≡ true
before_eq x y xs ys e h = or_right (ltb x y) (eqb x y && before xs ys) (and_from (eqb x y) (before xs ys) (eq-eqb x y e) h)

pub before_trans : (a b c : Name) → before a b ≡ true → before b c ≡ true → before a c ≡ true
before_trans a b [] h k = absurd (true≢false (sym k))
before_trans [] b (z ∷ zs) h k = refl
before_trans (x ∷ xs) [] (z ∷ zs) h k = absurd (true≢false (sym h))
before_trans (x ∷ xs) (y ∷ ys) (z ∷ zs) h k = go (before_trans xs ys zs) (before_cases x y xs ys h) (before_cases y z ys zs k)
  where
    go : (before xs ys ≡ true → before ys zs ≡ true → before xs zs ≡ true)
        → (x < y) ⊎ ((x ≡ y) × (before xs ys ≡ true)) → (y < z) ⊎ ((y ≡ z) × (before ys zs ≡ true)) → before (x ∷ xs) (z ∷ zs) ≡ true
    go ih (inl u) (inl v) = before_lt x z xs zs (omega arith)
    go ih (inl u) (inr v) = before_lt x z xs zs (omega (arith, v.0))
    go ih (inr u) (inl v) = before_lt x z xs zs (omega (arith, u.0))
    go ih (inr u) (inr v) = before_eq x z xs zs (u.0 ∙ v.0) (ih u.1 v.1)

pub before_tri : (n m : Name) → (n ≡ m) ⊎ ((before n m ≡ true) ⊎ (before m n ≡ true))
before_tri [] [] = inl refl
before_tri [] (y ∷ ys) = inr (inl refl)
before_tri (x ∷ xs) [] = inr (inr refl)
before_tri (x ∷ xs) (y ∷ ys) = go (before_tri xs ys) (cases_order x y)
  where
    go : (xs ≡ ys) ⊎ ((before xs ys ≡ true) ⊎ (before ys xs ≡ true)) → (x ≡ y) ⊎ ((x < y) ⊎ (y < x))
        → (◌≡◌ {A = Name} (x ∷ xs) (y ∷ ys)) ⊎ ((before (x ∷ xs) (y ∷ ys) ≡ true) ⊎ (before (y ∷ ys) (x ∷ xs) ≡ true))
    go r (inr (inl h)) = inr (inl (before_lt x y xs ys h))
    go r (inr (inr h)) = inr (inr (before_lt y x ys xs h))
    go (inl r) (inl e) = inl (cc)
    go (inr (inl r)) (inl e) = inr (inl (before_eq x y xs ys e r))
    go (inr (inr r)) (inl e) = inr (inr (before_eq y x ys xs (sym e) r))

-- the same of paths
path_cases : (n m : Name) (p q : Path) → path_before (n ∷ p) (m ∷ q) ≡ true → (before n m ≡ true) ⊎ ((n ≡ m) × (path_before p q ≡ true))
path_cases n m p q e = go (or_cases (before n m) (same_name n m && path_before p q) e)
  where
    go : (before n m ≡ true) ⊎ ((same_name n m && path_before p q) ≡ true) → (before n m ≡ true) ⊎ ((n ≡ m) × (path_before p q ≡ true))
    go (inl h) = inl h
    go (inr h) = let k = and_parts (same_name n m) (path_before p q) h in inr (same_name_true n m k.0, k.1)

pub path_lt : (n m : Name) (p q : Path) → before n m ≡ true → path_before (n ∷ p) (m ∷ q) ≡ true
path_lt n m p q h = or_left (before n m) (same_name n m && path_before p q) h

pub path_eq : (n m : Name) (p q : Path) → n ≡ m → path_before p q ≡ true → path_before (n ∷ p) (m ∷ q) ≡ true
path_eq n m p q e h =
    let s : same_name n m ≡ true = rw e (same_name_refl m) in
    or_right (before n m) (same_name n m && path_before p q) (and_from (same_name n m) (path_before p q) s h)

pub path_irrefl : (p : Path) → path_before p p ≡ false
path_irrefl [] = refl
path_irrefl (n ∷ p) = or_from (before n n) (same_name n n && path_before p p) (before_irrefl n) (and_right (same_name n n) (path_before p p) (path_irrefl p))

pub path_trans : (a b c : Path) → path_before a b ≡ true → path_before b c ≡ true → path_before a c ≡ true
path_trans a b [] h k = absurd (true≢false (sym k))
path_trans [] b (z ∷ zs) h k = refl
path_trans (x ∷ xs) [] (z ∷ zs) h k = absurd (true≢false (sym h))
path_trans (x ∷ xs) (y ∷ ys) (z ∷ zs) h k = go (path_trans xs ys zs) (path_cases x y xs ys h) (path_cases y z ys zs k)
  where
    go : (path_before xs ys ≡ true → path_before ys zs ≡ true → path_before xs zs ≡ true)
        → (before x y ≡ true) ⊎ ((x ≡ y) × (path_before xs ys ≡ true)) → (before y z ≡ true) ⊎ ((y ≡ z) × (path_before ys zs ≡ true))
        → path_before (x ∷ xs) (z ∷ zs) ≡ true
    go ih (inl u) (inl v) = path_lt x z xs zs (before_trans x y z u v)
    go ih (inl u) (inr v) = path_lt x z xs zs (rw v.0 at u)
    go ih (inr u) (inl v) = path_lt x z xs zs (rw u.0 v)
    go ih (inr u) (inr v) = path_eq x z xs zs (u.0 ∙ v.0) (ih u.1 v.1)

pub path_tri : (p q : Path) → (p ≡ q) ⊎ ((path_before p q ≡ true) ⊎ (path_before q p ≡ true))
path_tri [] [] = inl refl
path_tri [] (y ∷ ys) = inr (inl refl)
path_tri (x ∷ xs) [] = inr (inr refl)
path_tri (x ∷ xs) (y ∷ ys) = go (path_tri xs ys) (before_tri x y)
  where
    go : (xs ≡ ys) ⊎ ((path_before xs ys ≡ true) ⊎ (path_before ys xs ≡ true)) → (x ≡ y) ⊎ ((before x y ≡ true) ⊎ (before y x ≡ true))
        → (◌≡◌ {A = Path} (x ∷ xs) (y ∷ ys)) ⊎ ((path_before (x ∷ xs) (y ∷ ys) ≡ true) ⊎ (path_before (y ∷ ys) (x ∷ xs) ≡ true))
    go r (inr (inl h)) = inr (inl (path_lt x y xs ys h))
    go r (inr (inr h)) = inr (inr (path_lt y x ys xs h))
    go (inl r) (inl e) = inl (cc)
    go (inr (inl r)) (inl e) = inr (inl (path_eq x y xs ys e r))
    go (inr (inr r)) (inl e) = inr (inr (path_eq y x ys xs (sym e) r))

pub path_asym : (p q : Path) → path_before p q ≡ true → path_before q p ≡ true → ⊥
path_asym p q h k = both_ways (path_before p p) (path_irrefl p) (path_trans p q p h k)

-- not before, and another: after
pub path-after : (p q : Path) → path_before p q ≡ false → (p ≡ q → ⊥) → path_before q p ≡ true
path-after p q h d = go (path_tri p q)
  where
    go : (p ≡ q) ⊎ ((path_before p q ≡ true) ⊎ (path_before q p ≡ true)) → path_before q p ≡ true
    go (inl e) = absurd (d e)
    go (inr (inl e)) = absurd (both_ways (path_before p q) h e)
    go (inr (inr e)) = e
