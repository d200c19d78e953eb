-- What stands before the first 0x00, and a name that is filled up with it.
use Rattle.std.proofs.Common.{◌≡◌, ℕ, zero, suc, ◌+◌, ◌-◌, ◌<◌, ◌≤◌, min, Bool, true, false, cond, ◌&&◌, eqb, ◌⊎◌, List, [], ◌∷◌, ◌++◌, length, take, drop, replicate, sym, refl, ap, ◌∙◌, ap₂, inl, inr, arith}
use Rattle.std.proofs.lemmas.List.{append-nil, drop-replicate, length-append, length-replicate, take_all, take-append-le}
use Rattle.std.proofs.lemmas.Bool.{and_right, cases_lt, eq-eqb}
use Rattle.model.specs.Image.{all}
use Rattle.model.specs.Names.{same_name, padded}
use Rattle.model.specs.Tables.{up_to_blank}

abbrev pub is_blank : ℕ → Bool
is_blank b = eqb b 0

-- filled up with 0x00 -----------------------------------------------------------------------------------

pub front-blank : (xs : List ℕ) → up_to_blank xs ≡ take (length (up_to_blank xs)) xs
front-blank [] = refl
front-blank (x ∷ xs) = go (eqb x 0) (front-blank xs)
  where
    go : (b : Bool) → up_to_blank xs ≡ take (length (up_to_blank xs)) xs → cond b [] (x ∷ up_to_blank xs) ≡ take (length (cond b [] (x ∷ up_to_blank xs))) (x ∷ xs)
    go true e = refl
    go false e = ap (λ ys. x ∷ ys) e

pub short-blank : (xs : List ℕ) → length (up_to_blank xs) ≤ length xs
short-blank [] = omega arith
short-blank (x ∷ xs) = go (eqb x 0) (short-blank xs)
  where
    go : (b : Bool) → length (up_to_blank xs) ≤ length xs → length (cond b [] (x ∷ up_to_blank xs)) ≤ suc (length xs)
    go true e = omega arith
    go false e = omega arith

same_blanks : (xs : List ℕ) (n : ℕ) → n ≡ length xs → same_name xs (replicate n 0) ≡ all is_blank xs
same_blanks [] zero e = refl
same_blanks [] (suc n) e = absurd (omega arith)
same_blanks (x ∷ xs) zero e = absurd (omega arith)
same_blanks (x ∷ xs) (suc n) e = ap (λ b. eqb x 0 && b) (same_blanks xs n (omega arith))

same-front : (k n : ℕ) (xs : List ℕ) → k + n ≡ length xs → same_name xs (take k xs ++ replicate n 0) ≡ all is_blank (drop k xs)
same-front zero n xs e = same_blanks xs n (omega arith)
same-front (suc k) n [] e = absurd (omega arith)
same-front (suc k) n (x ∷ xs) e = ap (λ b. b && same_name xs (take k xs ++ replicate n 0)) (eq-eqb x x refl) ∙ same-front k n xs (omega arith)

-- fifteen bytes are their own name, filled up, where only 0x00 follow it
pub same-padded : (xs : List ℕ) → length xs ≡ 15 → same_name xs (padded (up_to_blank xs)) ≡ all is_blank (drop (length (up_to_blank xs)) xs)
same-padded xs l =
    ap (λ ys. same_name xs (ys ++ replicate (15 - length (up_to_blank xs)) 0)) (front-blank xs)
    ∙ same-front (length (up_to_blank xs)) (15 - length (up_to_blank xs)) xs (let s = short-blank xs in omega arith)

-- filling up -------------------------------------------------------------------------------------------

-- n, then as many of w zeros as are left
pub fill_up : (w k : ℕ) (n : List ℕ) → k ≡ min (length n) w → take k n ++ drop k (replicate w 0) ≡ take w (n ++ replicate (w - length n) 0)
fill_up w k n e = go (cases_lt w (length n))
  where
    go : (w < length n) ⊎ (length n ≤ w) → take k n ++ drop k (replicate w 0) ≡ take w (n ++ replicate (w - length n) 0)
    go (inl l) =
        let q : k ≡ w = omega arith in
        let z : w - w ≡ 0 = omega arith in
        ap (λ i. take i n ++ drop i (replicate w 0)) q
        ∙ ap (λ xs. take w n ++ xs) (drop-replicate w w 0 ∙ ap (λ i. replicate i 0) z)
        ∙ append-nil (take w n)
        ∙ sym (take-append-le w n (replicate (w - length n) 0) (omega arith))
    go (inr l) =
        let q : k ≡ length n = omega arith in
        ap (λ i. take i n ++ drop i (replicate w 0)) q
        ∙ ap₂ ◌++◌ (take_all (length n) n (omega arith)) (drop-replicate (length n) w 0)
        ∙ sym (take_all w (n ++ replicate (w - length n) 0) (omega (arith, length-append n (replicate (w - length n) 0), length-replicate {A = ℕ} (w - length n) 0)))

pub fits-padded : (n : List ℕ) → length n ≤ 15 → take 15 (padded n) ≡ padded n
fits-padded n l = take_all 15 (padded n) (omega (arith, length-append n (replicate (15 - length n) 0), length-replicate {A = ℕ} (15 - length n) 0))

-- a name of more than fifteen bytes is that of no fifteen
pub long-name : (xs n : List ℕ) → length xs ≡ 15 → 15 < length n → same_name xs (padded n) ≡ false
long-name xs n e l = apart xs (padded n) (λ d. omega (arith, length-append n (replicate (15 - length n) 0), d))
  where
    apart : (ys zs : List ℕ) → (length ys ≡ length zs → ⊥) → same_name ys zs ≡ false
    apart [] [] h = absurd (h refl)
    apart [] (z ∷ zs) h = refl
    apart (y ∷ ys) [] h = refl
    apart (y ∷ ys) (z ∷ zs) h = and_right (eqb y z) (same_name ys zs) (apart ys zs (λ d. h (ap suc d)))
