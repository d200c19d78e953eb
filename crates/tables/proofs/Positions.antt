-- What std's searches and tests of a list find, in the words of the model.
use Rattle.std.proofs.Common.{◌≡◌, ℕ, suc, ◌+◌, ◌<◌, ◌≤◌, Bool, true, false, cond, not, ◌&&◌, eqb, ltb, List, [], ◌∷◌, map, length, take, Some, None, Option, sym, refl, ap, ap₂, ◌∙◌, ◌⊎◌, inl, inr, arith}
use Rattle.std.proofs.lemmas.Bool.{cases_lt, lt-ltb, le-ltb}
use Rattle.std.proofs.lemmas.List.Sums.{prefix_len-le-length}
use Rattle.std.specs.Option.{unwrap_or}
use Rattle.std.specs.List.{position, position_or_len, list_all}
use Rattle.model.specs.Image.{all}
use Rattle.model.specs.Tree.{first, raised}
use Rattle.model.specs.Tables.{up_to_blank}
pub use Rattle.tables.proofs.Blanks.{is_blank}

-- `all` asks what the model's does
pub all_is : {A : Type 0} (f : A → Bool) (xs : List A) → list_all f xs ≡ all f xs
all_is f [] = refl
all_is f (x ∷ xs) = ap (λ b. f x && b) (all_is f xs)

-- `position` finds the first
next_place : (n l : ℕ) → cond (ltb (1 + n) (suc l)) (Some (1 + n)) None ≡ raised (cond (ltb n l) (Some n) None)
next_place n l = go (cases_lt n l)
  where
    go : (n < l) ⊎ (l ≤ n) → cond (ltb (1 + n) (suc l)) (Some (1 + n)) None ≡ raised (cond (ltb n l) (Some n) None)
    go (inl h) = let e : 1 + n ≡ suc n = omega arith in ap (λ b. cond b (Some (1 + n)) None) (lt-ltb (1 + n) (suc l) (omega arith)) ∙ ap Some e ∙ sym (ap (λ b. raised (cond b (Some n) None)) (lt-ltb n l h))
    go (inr h) = ap (λ b. cond b (Some (1 + n)) None) (le-ltb (1 + n) (suc l) (omega arith)) ∙ sym (ap (λ b. raised (cond b (Some n) None)) (le-ltb n l h))

pub first_is : {A : Type 0} (f : A → Bool) (xs : List A) → position f xs ≡ first f xs
first_is f [] = refl
first_is {A} f (x ∷ xs) = go (f x) (position_or_len f xs) (first_is f xs)
  where
    go : (b : Bool) (n : ℕ) → cond (ltb n (length xs)) (Some n) None ≡ first f xs
        → cond (ltb (cond (not b) (1 + n) 0) (suc (length xs))) (Some (cond (not b) (1 + n) 0)) None ≡ cond b (Some 0) (raised (first f xs))
    go true n e = ap (λ t. cond t (Some 0) None) (lt-ltb 0 (suc (length xs)) (omega arith))
    go false n e = next_place n (length xs) ∙ ap raised e

pub first-map : {A B : Type 0} (f : B → Bool) (g : A → B) (xs : List A) → first f (map g xs) ≡ first (λ x. f (g x)) xs
first-map f g [] = refl
first-map f g (x ∷ xs) = ap (λ o. cond (f (g x)) (Some 0) (raised o)) (first-map f g xs)

pub first_never : {A : Type 0} (f : A → Bool) (xs : List A) → ((x : A) → f x ≡ false) → first f xs ≡ None
first_never f [] h = refl
first_never f (x ∷ xs) h = ap₂ (λ b o. cond b (Some 0) (raised o)) (h x) (first_never f xs h)

-- up to the first 0x00 --------------------------------------------------------------------------------

blank_place : (xs : List ℕ) → (up_to_blank xs ≡ take (position_or_len is_blank xs) xs) × (length (up_to_blank xs) ≡ position_or_len is_blank xs)
blank_place [] = (refl, refl)
blank_place (x ∷ xs) = go (eqb x 0) (blank_place xs)
  where
    go : (b : Bool) → (up_to_blank xs ≡ take (position_or_len is_blank xs) xs) × (length (up_to_blank xs) ≡ position_or_len is_blank xs)
        → (cond b [] (x ∷ up_to_blank xs) ≡ take (cond (not b) (1 + position_or_len is_blank xs) 0) (x ∷ xs)) × (length (cond b [] (x ∷ up_to_blank xs)) ≡ cond (not b) (1 + position_or_len is_blank xs) 0)
    go true h = (refl, refl)
    go false h = let e : 1 + position_or_len is_blank xs ≡ suc (position_or_len is_blank xs) = omega arith in (ap (λ ys. x ∷ ys) h.0 ∙ ap (λ n. take n (x ∷ xs)) (sym e), ap suc h.1 ∙ sym e)

-- `position` finds their end, and the length where there is no 0x00
pub blank_end : (xs : List ℕ) (o : Option ℕ) → o ≡ position is_blank xs → (up_to_blank xs ≡ take (unwrap_or o (length xs)) xs) × (length (up_to_blank xs) ≡ unwrap_or o (length xs))
blank_end xs o e =
    let k : unwrap_or o (length xs) ≡ position_or_len is_blank xs = ap (λ p. unwrap_or p (length xs)) e ∙ place (cases_lt (position_or_len is_blank xs) (length xs)) in
    let p = blank_place xs in
    (p.0 ∙ ap (λ n. take n xs) (sym k), p.1 ∙ sym k)
  where
    place : (position_or_len is_blank xs < length xs) ⊎ (length xs ≤ position_or_len is_blank xs) → unwrap_or (position is_blank xs) (length xs) ≡ position_or_len is_blank xs
    place (inl h) = ap (λ b. unwrap_or (cond b (Some (position_or_len is_blank xs)) None) (length xs)) (lt-ltb (position_or_len is_blank xs) (length xs) h)
    place (inr h) =
        let l : position_or_len is_blank xs ≤ length xs = prefix_len-le-length (λ x. not (is_blank x)) xs in
        let e : length xs ≡ position_or_len is_blank xs = omega arith in
        ap (λ b. unwrap_or (cond b (Some (position_or_len is_blank xs)) None) (length xs)) (le-ltb (position_or_len is_blank xs) (length xs) h) ∙ e
