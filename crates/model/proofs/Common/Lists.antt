-- Lists: joins, one of a list, a list made from a function.
use Rattle.std.proofs.Common.{◌≡◌, ℕ, zero, suc, ◌+◌, ◌<◌, ◌⊎◌, List, [], ◌∷◌, ◌++◌, map, length, get_or, replicate, refl, ap, inl, inr, arith}
use Rattle.model.specs.Law.{from_to}
use Rattle.model.specs.Order.{In}

pub push_never_nil : {A : Type 0} (xs : List A) (x : A) → xs ++ x ∷ [] ≡ [] → ⊥
push_never_nil [] x e = let z : ◌≡◌ {A = ℕ} 1 0 = ap length e in omega arith
push_never_nil (y ∷ xs) x e = let z : ◌≡◌ {A = ℕ} (suc (length (xs ++ x ∷ []))) 0 = ap length e in omega arith

-- two joins of equally long fronts
pub same_fronts : {A : Type 0} (p q r s : List A) → length p ≡ length q → p ++ r ≡ q ++ s → (p ≡ q) × (r ≡ s)
same_fronts [] [] r s n e = (refl, e)
same_fronts [] (y ∷ q) r s n e = absurd (omega arith)
same_fronts (x ∷ p) [] r s n e = absurd (omega arith)
same_fronts (x ∷ p) (y ∷ q) r s n e =
    let t : p ++ r ≡ q ++ s = cc in
    let h : x ≡ y = cc in
    let n' : length p ≡ length q = omega arith in
    let k = same_fronts p q r s n' t in
    let k0 = k.0 in
    ((cc), k.1)

-- a list made from a function ----------------------------------------------------------------------

pub length_from : {A : Type 0} (a n : ℕ) (f : ℕ → A) → length (from_to a n f) ≡ n
length_from a zero f = refl
length_from a (suc n) f = ap suc (length_from (suc a) n f)

pub get_or_from : {A : Type 0} (a n : ℕ) (f : ℕ → A) (k j : ℕ) (d : A) → k < n → j ≡ a + k → get_or (from_to a n f) k d ≡ f j
get_or_from a zero f k j d l e = absurd (omega arith)
get_or_from a (suc n) f zero j d l e = let q : a ≡ j = omega arith in ap f q
get_or_from a (suc n) f (suc k) j d l e = get_or_from (suc a) n f k j d (omega arith) (omega arith)

pub map-replicate : {A B : Type 0} (f : A → B) (n : ℕ) (a : A) → map f (replicate n a) ≡ replicate n (f a)
map-replicate f zero a = refl
map-replicate f (suc n) a = ap (λ x. f a ∷ x) (map-replicate f n a)

-- one of a list ------------------------------------------------------------------------------------

pub in_left : {A : Type 0} (a : A) (xs ys : List A) → In a xs → In a (xs ++ ys)
in_left a [] ys h = absurd h
in_left a (x ∷ xs) ys (inl e) = inl e
in_left a (x ∷ xs) ys (inr h) = inr (in_left a xs ys h)

pub in_right : {A : Type 0} (a : A) (xs ys : List A) → In a ys → In a (xs ++ ys)
in_right a [] ys h = h
in_right a (x ∷ xs) ys h = inr (in_right a xs ys h)

pub in_append : {A : Type 0} (a : A) (xs ys : List A) → In a (xs ++ ys) → In a xs ⊎ In a ys
in_append a [] ys h = inr h
in_append a (x ∷ xs) ys (inl e) = inl (inl e)
in_append a (x ∷ xs) ys (inr h) = go (in_append a xs ys h)
  where
    go : In a xs ⊎ In a ys → In a (x ∷ xs) ⊎ In a ys
    go (inl k) = inl (inr k)
    go (inr k) = inr k

pub in_get_or : {A : Type 0} (xs : List A) (k : ℕ) (d : A) → k < length xs → In (get_or xs k d) xs
in_get_or [] k d h = absurd (omega arith)
in_get_or (x ∷ xs) zero d h = inl refl
in_get_or (x ∷ xs) (suc k) d h = inr (in_get_or xs k d (omega arith))

-- R holds of each and all later ones
abbrev pub Pairs : {A : Type 0} → (A → A → Type 0) → List A → Type 0
Pairs R [] = Unit {0}
Pairs {A} R (x ∷ xs) = ((y : A) → In y xs → R x y) × Pairs R xs

pub pairs_append : {A : Type 0} (R : A → A → Type 0) (xs ys : List A) → Pairs R xs → Pairs R ys → ((x y : A) → In x xs → In y ys → R x y) → Pairs R (xs ++ ys)
pairs_append R [] ys a b d = b
pairs_append {A} R (x ∷ xs) ys a b d = ((λ y h. go y (in_append y xs ys h)), pairs_append R xs ys a.1 b (λ u v h k. d u v (inr h) k))
  where
    go : (y : A) → In y xs ⊎ In y ys → R x y
    go y (inl h) = a.0 y h
    go y (inr h) = d x y (inl refl) h
