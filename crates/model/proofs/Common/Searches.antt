-- The first of a list that passes a test.
use Rattle.std.proofs.Common.{◌≡◌, ℕ, zero, suc, ◌<◌, Bool, true, false, cond, List, [], ◌∷◌, length, get_or, Some, None, Option, refl, subst, arith}
use Rattle.model.specs.Tree.{raised, first}

pub first_some : {A : Type 0} (f : A → Bool) (d : A) (xs : List A) (n : ℕ) → first f xs ≡ Some n → (n < length xs) × (f (get_or xs n d) ≡ true)
first_some f d [] n e = absurd cc
first_some f d (x ∷ xs) n e = go (f x) refl (first f xs) refl (first_some f d xs) n e
  where
    go : (b : Bool) → f x ≡ b → (o : Option ℕ) → first f xs ≡ o → ((m : ℕ) → first f xs ≡ Some m → (m < length xs) × (f (get_or xs m d) ≡ true)) → (n : ℕ) → cond b (Some 0) (raised o) ≡ Some n → (n < suc (length xs)) × (f (get_or (x ∷ xs) n d) ≡ true)
    go true h o k ih n e = let q : 0 ≡ n = cc in subst (λ i. (i < suc (length xs)) × (f (get_or (x ∷ xs) i d) ≡ true)) q (omega arith, h)
    go false h None k ih n e = absurd cc
    go false h (Some m) k ih n e = let q : suc m ≡ n = cc in subst (λ i. (i < suc (length xs)) × (f (get_or (x ∷ xs) i d) ≡ true)) q (let r = ih m k in (omega arith, r.1))

pub first_none : {A : Type 0} (f : A → Bool) (d : A) (xs : List A) → first f xs ≡ None → (k : ℕ) → k < length xs → f (get_or xs k d) ≡ false
first_none f d [] e k l = absurd (omega arith)
first_none f d (x ∷ xs) e k l = go (f x) refl (first f xs) refl (first_none f d xs) k e l
  where
    go : (b : Bool) → f x ≡ b → (o : Option ℕ) → first f xs ≡ o → (first f xs ≡ None → (k : ℕ) → k < length xs → f (get_or xs k d) ≡ false) → (k : ℕ) → cond b (Some 0) (raised o) ≡ None → k < suc (length xs) → f (get_or (x ∷ xs) k d) ≡ false
    go true h o q ih k e l = absurd cc
    go false h (Some m) q ih k e l = absurd cc
    go false h None q ih zero e l = h
    go false h None q ih (suc k) e l = ih q k (omega arith)

pub first_alike : {A B : Type 0} (f : A → Bool) (g : B → Bool) (a : A) (b : B) (xs : List A) (ys : List B) → length xs ≡ length ys → ((k : ℕ) → k < length xs → f (get_or xs k a) ≡ g (get_or ys k b)) → first f xs ≡ first g ys
first_alike f g a b [] [] l h = refl
first_alike f g a b [] (y ∷ ys) l h = absurd (omega arith)
first_alike f g a b (x ∷ xs) [] l h = absurd (omega arith)
first_alike f g a b (x ∷ xs) (y ∷ ys) l h = rw (h 0 (omega arith), first_alike f g a b xs ys (omega arith) (λ k m. h (suc k) (omega arith)))
