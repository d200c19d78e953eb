-- Tests, options and ranges of numbers.
use Rattle.std.proofs.Common.{◌≡◌, ℕ, zero, suc, ◌+◌, ◌<◌, ◌≤◌, Bool, true, false, not, ◌&&◌, ◌||◌, eqb, ◌⊎◌, List, [], ◌∷◌, length, get_or, set, Some, None, Option, refl, inl, inr, arith}
use Rattle.std.proofs.lemmas.Bool.{and_from, and_parts, both_ways, eqb-false, eqb-true, false≢true}
use Rattle.model.specs.Tables.{all, each}
use Rattle.model.specs.Tree.{is_some}

-- tests --------------------------------------------------------------------------------------------

pub decide_by : {A : Type 0} (b : Bool) → (b ≡ true → A) → (A → b ≡ true) → A ⊎ (A → ⊥)
decide_by true f g = inl (f refl)
decide_by false f g = inr (λ a. false≢true (g a))

-- options ------------------------------------------------------------------------------------------

pub some_out : {A : Type 0} (o : Option A) → is_some o ≡ true → (a : A) × (o ≡ Some a)
some_out None e = absurd (false≢true e)
some_out (Some a) e = (a, refl)

pub none_out : {A : Type 0} (o : Option A) → is_some o ≡ false → o ≡ None
none_out None h = refl
none_out (Some a) h = absurd (both_ways true h refl)

pub and_given : (x y z : Bool) → x ≡ true → (x && y) ≡ z → y ≡ z
and_given true y z e h = h
and_given false y z e h = absurd (false≢true e)

pub implied : (x y : Bool) → x ≡ true → (not x || y) ≡ true → y ≡ true
implied true y e h = h
implied false y e h = absurd (false≢true e)

-- tests over a list and over a range --------------------------------------------------------------

pub all-holds : {A : Type 0} (f : A → Bool) (d : A) (xs : List A) → all f xs ≡ true → (k : ℕ) → k < length xs → f (get_or xs k d) ≡ true
all-holds f d [] e k l = absurd (omega arith)
all-holds f d (x ∷ xs) e zero l = (and_parts (f x) (all f xs) e).0
all-holds f d (x ∷ xs) e (suc k) l = all-holds f d xs (and_parts (f x) (all f xs) e).1 k (omega arith)

pub all_from : {A : Type 0} (f : A → Bool) (xs : List A) (d : A) → ((k : ℕ) → k < length xs → f (get_or xs k d) ≡ true) → all f xs ≡ true
all_from f [] d h = refl
all_from f (x ∷ xs) d h = and_from (f x) (all f xs) (h 0 (omega arith)) (all_from f xs d (λ k l. h (suc k) (omega arith)))

pub all_set : {A : Type 0} (f : A → Bool) (xs : List A) (n : ℕ) (a : A) → f a ≡ true → all f xs ≡ true → all f (set xs n a) ≡ true
all_set f [] n a p q = refl
all_set f (x ∷ xs) zero a p q = and_from (f a) (all f xs) p (and_parts (f x) (all f xs) q).1
all_set f (x ∷ xs) (suc n) a p q = and_from (f x) (all f (set xs n a)) (and_parts (f x) (all f xs) q).0 (all_set f xs n a p (and_parts (f x) (all f xs) q).1)

pub each_holds : (n a : ℕ) (f : ℕ → Bool) → each a n f ≡ true → (k : ℕ) → a ≤ k → k < a + n → f k ≡ true
each_holds zero a f e k l m = absurd (omega arith)
each_holds (suc n) a f e k l m = go (eqb a k) refl (each_holds n (suc a) f (and_parts (f a) (each (suc a) n f) e).1 k)
  where
    go : (b : Bool) → eqb a k ≡ b → (suc a ≤ k → k < suc a + n → f k ≡ true) → f k ≡ true
    go true h ih = rw (eqb-true a k h) at (and_parts (f a) (each (suc a) n f) e).0
    go false h ih = let ne = eqb-false a k h in ih (omega arith) (omega arith)

pub each_from : (n a : ℕ) (f : ℕ → Bool) → ((k : ℕ) → a ≤ k → k < a + n → f k ≡ true) → each a n f ≡ true
each_from zero a f h = refl
each_from (suc n) a f h = and_from (f a) (each (suc a) n f) (h a (omega arith) (omega arith)) (each_from n (suc a) f (λ k l m. h k (omega arith) (omega arith)))
