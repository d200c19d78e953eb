-- What the library's `all` and `any` answer, in the words of the model.
use Rattle.std.proofs.Common.{◌≡◌, ℕ, zero, suc, ◌+◌, ◌<◌, Bool, true, false, not, ◌&&◌, ◌||◌, List, [], ◌∷◌, map, length, get_or, refl, ap, ◌∙◌, subst, ap₂, arith}
use denote.Param.Members.{Mut}
use Rattle.std.proofs.lemmas.List.{get_or_default}
use Rattle.std.specs.Array.{IsFromFnResult, IsFromFnResultFrom, IsMapOf}
use Rattle.std.specs.Fn.{Called}
use Rattle.std.specs.List.{list_all, list_any, enumerate_from, range_with_len}
use Rattle.model.specs.Tables.{all, each}

not_either : (a b : Bool) → not (a || b) ≡ (not a && not b)
not_either true b = refl
not_either false b = refl

-- at the elements as `v` views them
module _ {A B : Type 0} (v : A → B) (f : B → Bool) (p : A → Bool) where
  pub all_viewed : (xs : List A) → ((x : A) → p x ≡ f (v x)) → list_all p xs ≡ all f (map v xs)
  all_viewed [] h = refl
  all_viewed (x ∷ xs) h = ap₂ (λ a b. a && b) (h x) (all_viewed xs h)

  pub none_viewed : (xs : List A) → ((x : A) → not (p x) ≡ f (v x)) → not (list_any p xs) ≡ all f (map v xs)
  none_viewed [] h = refl
  none_viewed (x ∷ xs) h = not_either (p x) (list_any p xs) ∙ ap₂ (λ a b. a && b) (h x) (none_viewed xs h)

-- over the numbers from a on, n of them
pub each_number : (f : ℕ → Bool) (a n : ℕ) → list_all f (range_with_len a n) ≡ each a n f
each_number f a zero = refl
each_number f a (suc n) = let e : a + 1 ≡ suc a = omega arith in ap (λ b. f a && b) (ap (λ k. list_all f (range_with_len k n)) e ∙ each_number f (suc a) n)

-- over a list with its numbers from a on: g tells of a number what f tells of it and its element
numbered : {X : Type 0} (d : X) (f : ℕ → X → Bool) (g : ℕ → Bool) (a : ℕ) (xs : List X) → ((k j : ℕ) → k < length xs → j ≡ a + k → f j (get_or xs k d) ≡ g j) → list_all (λ (p : ℕ × X). f p.0 p.1) (enumerate_from a xs) ≡ each a (length xs) g
numbered d f g a [] h = refl
numbered {X} d f g a (x ∷ xs) h =
    let next : a + 1 ≡ suc a = omega arith in
    ap₂ (λ b c. b && c) (h 0 a (omega arith) (omega arith)) (ap (λ k. list_all (λ (p : ℕ × X). f p.0 p.1) (enumerate_from k xs)) next ∙ numbered d f g (suc a) xs (λ k j l e. h (suc k) j (omega arith) (omega arith)))

pub each_place : {X : Type 0} (d : X) (f : ℕ → X → Bool) (g : ℕ → Bool) (xs : List X) → ((k : ℕ) → k < length xs → f k (get_or xs k d) ≡ g k) → list_all (λ (p : ℕ × X). f p.0 p.1) (enumerate_from 0 xs) ≡ each 0 (length xs) g
each_place d f g xs h = numbered d f g 0 xs (λ k j l e. let same : k ≡ j = omega arith in subst (λ n. f n (get_or xs k d) ≡ g n) same (h k l))

-- v views what h gives of each element
view_each : {A B C : Type 0} (v : B → C) (h : A → C) (xs : List A) (ys : List B) → length ys ≡ length xs → ((i : ℕ) (d : A) (e : B) → i < length xs → v (get_or ys i e) ≡ h (get_or xs i d)) → map v ys ≡ map h xs
view_each v h [] [] l e = refl
view_each v h [] (y ∷ ys) l e = absurd (omega arith)
view_each v h (x ∷ xs) [] l e = absurd (omega arith)
view_each v h (x ∷ xs) (y ∷ ys) l e = ap₂ (λ z zs. z ∷ zs) (e 0 x y (omega arith)) (view_each v h xs ys (omega arith) (λ i a b m. e (suc i) a b (omega arith)))

-- an array's `map`
pub mapped : {F A B C : Type 0} {g : Mut F (A × Unit {0}) B} {f : F} {n : ℕ} (v : B → C) (h : A → C) (xs : List A) (ys : List B) → IsMapOf g f xs ys n → length xs ≡ n → ((p : F) (x : A) (y : B) (q : F) → Called g p (x, tt) y q → v y ≡ h x) → map v ys ≡ map h xs
mapped v h xs ys k l e =
    let long = k.long in
    view_each v h xs ys (omega arith) (λ i a b m. let t = k.at i a b (omega arith) in e t.0 (get_or xs i a) (get_or ys i b) t.1 t.2)

-- what `array::from_fn` makes: v views what h gives of the element at each index, and no call changes the closure
module _ {F A B C : Type 0} {g : Mut F (ℕ × Unit {0}) B} {f : F} {n : ℕ} (v : B → C) (h : A → C) (z : A) (xs : List A) (ys : List B) (one : (i : ℕ) (y : B) (q : F) → i < n → Called g f (i, tt) y q → (v y ≡ h (get_or xs i z)) × (q ≡ f)) where
  made_at : (i m : ℕ) (p : F) → p ≡ f → IsFromFnResultFrom g p ys i m → i + m ≡ n → (j k : ℕ) → j < m → k ≡ i + j → (e : B) → v (get_or ys k e) ≡ h (get_or xs k z)
  made_at i zero p s r t j k l w e = absurd (omega arith)
  made_at i (suc m) p s r t zero k l w e =
      let at : i ≡ k = omega arith in
      let here = one i r.1 r.0 (omega arith) (subst (λ u. Called g u (i, tt) r.1 r.0) s r.3) in
      subst (λ u. v (get_or ys u e) ≡ h (get_or xs u z)) at (ap v (r.2.1 e) ∙ here.0)
  made_at i (suc m) p s r t (suc j) k l w e =
      let here = one i r.1 r.0 (omega arith) (subst (λ u. Called g u (i, tt) r.1 r.0) s r.3) in
      made_at (i + 1) m r.0 here.1 r.4 (omega arith) j k (omega arith) (omega arith) e

  pub made : IsFromFnResult g f ys n → length xs ≡ n → map v ys ≡ map h xs
  made r t = let long = r.long in view_each v h xs ys (omega arith) (λ i a b m. made_at 0 n f refl r.each (omega arith) i i (omega arith) (omega arith) b ∙ ap h (get_or_default xs i z a m))
