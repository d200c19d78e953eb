-- How many numbers of a range pass a test.
use Rattle.std.proofs.Common.{◌≡◌, ℕ, zero, suc, ◌+◌, ◌<◌, ◌≤◌, Bool, true, false, cond, not, ◌||◌, eqb, List, [], ◌∷◌, length, refl, ap, ◌∙◌, subst, arith}
use Rattle.std.proofs.lemmas.Bool.{and_parts, both_ways, eq-eqb, eqb-false, eqb-true, ne_eqb, not-true, or_left, or_right}
use Rattle.model.specs.Tables.{member, distinct}
use Rattle.model.specs.Law.{count}

pub count_add : (f g h : ℕ → Bool) (n a : ℕ) → ((s : ℕ) → a ≤ s → s < a + n → cond (f s) 1 0 ≡ cond (g s) 1 0 + cond (h s) 1 0) → count f a n ≡ count g a n + count h a n
count_add f g h zero a e = refl
count_add f g h (suc n) a e = let x = e a (omega arith) (omega arith) in let ih = count_add f g h n (suc a) (λ s l m. e s (omega arith) (omega arith)) in omega arith

count_none : (f : ℕ → Bool) (n a : ℕ) → ((s : ℕ) → a ≤ s → s < a + n → f s ≡ false) → count f a n ≡ 0
count_none f zero a e = refl
count_none f (suc n) a e = let ih = count_none f n (suc a) (λ s l m. e s (omega arith) (omega arith)) in rw (e a (omega arith) (omega arith)) (omega arith)

count-one : (x n a : ℕ) → a ≤ x → x < a + n → count (λ s. eqb s x) a n ≡ 1
count-one x zero a l m = absurd (omega arith)
count-one x (suc n) a l m = go (eqb a x) refl (count-one x n (suc a))
  where
    go : (b : Bool) → eqb a x ≡ b → (suc a ≤ x → x < suc a + n → count (λ s. eqb s x) (suc a) n ≡ 1) → cond b 1 0 + count (λ s. eqb s x) (suc a) n ≡ 1
    go true h ih = let e = eqb-true a x h in let z = count_none (λ s. eqb s x) n (suc a) (λ s l m. ne_eqb s x (λ q. omega arith)) in omega arith
    go false h ih = let e = eqb-false a x h in let z = ih (omega arith) (omega arith) in omega arith

pub count-member : (xs : List ℕ) (n a : ℕ) → distinct xs ≡ true → ((s : ℕ) → member s xs ≡ true → (a ≤ s) × (s < a + n)) → count (λ s. member s xs) a n ≡ length xs
count-member [] n a d h = count_none (λ s. false) n a (λ s l m. refl)
count-member (x ∷ xs) n a d h =
    let b = and_parts (not (member x xs)) (distinct xs) d in
    let r = h x (or_left (eqb x x) (member x xs) (eq-eqb x x refl)) in
    let one = count-one x n a r.0 r.1 in
    let ih = count-member xs n a b.1 (λ s m. h s (or_right (eqb s x) (member s xs) m)) in
    count_add (λ s. member s (x ∷ xs)) (λ s. eqb s x) (λ s. member s xs) n a (λ s l m. go s (eqb s x) refl (member s xs) refl (not-true (member x xs) b.0)) ∙ omega arith
  where
    go : (s : ℕ) (p : Bool) → eqb s x ≡ p → (q : Bool) → member s xs ≡ q → member x xs ≡ false → cond (p || q) 1 0 ≡ cond p 1 0 + cond q 1 0
    go s true e true f k = absurd (both_ways (member x xs) k (subst (λ y. member y xs ≡ true) (eqb-true s x e) f))
    go s true e false f k = refl
    go s false e true f k = refl
    go s false e false f k = refl

pub count_alike : (f g : ℕ → Bool) → ((s : ℕ) → f s ≡ g s) → (n a : ℕ) → count f a n ≡ count g a n
count_alike f g e zero a = refl
count_alike f g e (suc n) a = ap (λ (b : Bool). cond b 1 0 + count f (suc a) n) (e a) ∙ ap (λ (m : ℕ). cond (g a) 1 0 + m) (count_alike f g e n (suc a))

count_most : (f : ℕ → Bool) (n a : ℕ) → count f a n ≤ n
count_most f zero a = omega arith
count_most f (suc n) a = go (f a) (count_most f n (suc a))
  where
    go : (b : Bool) → count f (suc a) n ≤ n → cond b 1 0 + count f (suc a) n ≤ suc n
    go true h = omega arith
    go false h = omega arith

-- distinct numbers below n are at most n
pub few-distinct : (n : ℕ) (xs : List ℕ) → distinct xs ≡ true → ((s : ℕ) → member s xs ≡ true → s < n) → length xs ≤ n
few-distinct n xs d h = subst (λ m. m ≤ n) (count-member xs n 0 d (λ s m. let b = h s m in (omega arith, omega arith))) (count_most (λ s. member s xs) n 0)
