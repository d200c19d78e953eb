-- The sectors of a row, claimed one after another.
use Rattle.std.proofs.Common.{◌≡◌, ℕ, ◌+◌, ◌<◌, ◌≤◌, Bool, true, false, not, ◌&&◌, ◌||◌, eqb, leb, ◌⊎◌, List, [], ◌∷◌, ◌++◌, length, get_or, drop, set, sym, refl, ap, ◌∙◌, ap₂, inl, inr, arith}
use Rattle.std.specs.Cmp.{both_ways}
use mathlib.Core.Bool.{and_assoc, and-false}
use Rattle.std.proofs.lemmas.List.{drop_more, get_or_past, get_or-set_other, get_or-set_same, length-set}
use Rattle.std.proofs.lemmas.Bool.{cases_eq, cases_lt, eq-eqb, eqb-true, ne_eqb}
use Rattle.model.specs.Sizes.{blank}
use Rattle.model.specs.Tables.{all, used, data_sector, member, distinct, proper_row}
use Rattle.model.proofs.Tables.Places.{used-at}
use Rattle.tables.specs.Rules.{told, filled_up, unclaimed}
use Rattle.tables.proofs.Bools.{or_swap, and_cross, neither}

-- c, and s as well
abbrev also : ℕ → (ℕ → Bool) → ℕ → Bool
also s c x = eqb x s || c x

eqb_swap : (a b : ℕ) → eqb a b ≡ eqb b a
eqb_swap a b = both_ways (eqb a b) (eqb b a) (λ e. eq-eqb b a (sym (eqb-true a b e))) (λ e. eq-eqb a b (sym (eqb-true b a e)))

all_apart : (s : ℕ) (c : ℕ → Bool) (ss : List ℕ) → all (λ x. not (also s c x)) ss ≡ (not (member s ss) && all (λ x. not (c x)) ss)
all_apart s c [] = refl
all_apart s c (x ∷ xs) = ap (λ b. not (eqb x s || c x) && b) (all_apart s c xs) ∙ neither (eqb x s) (c x) (member s xs) (all (λ x. not (c x)) xs) ∙ ap (λ e. not (e || member s xs) && (not (c x) && all (λ x. not (c x)) xs)) (eqb_swap x s)

shift : (m d c a : Bool) → ((not m && d) && (not c && a)) ≡ (not c && (d && (not m && a)))
shift true d true a = refl
shift true d false a = sym (and-false d)
shift false true true a = refl
shift false true false a = refl
shift false false true a = refl
shift false false false a = refl

free_step : (c : ℕ → Bool) (s : ℕ) (ss : List ℕ) → unclaimed c (s ∷ ss) ≡ (not (c s) && unclaimed (also s c) ss)
free_step c s ss = shift (member s ss) (distinct ss) (c s) (all (λ x. not (c x)) ss) ∙ ap (λ a. not (c s) && (distinct ss && a)) (sym (all_apart s c ss))

pub free-append : (c : ℕ → Bool) (u v : List ℕ) → unclaimed c (u ++ v) ≡ (unclaimed c u && unclaimed (λ x. member x u || c x) v)
free-append c [] v = refl
free-append c (s ∷ u) v =
    free_step c s (u ++ v)
    ∙ ap (λ b. not (c s) && b) (free-append (also s c) u v)
    ∙ sym (and_assoc (not (c s)) (unclaimed (also s c) u) (unclaimed (λ x. member x u || also s c x) v))
    ∙ ap₂ (λ (a : Bool) (f : ℕ → Bool). a && unclaimed f v) (sym (free_step c s u)) (λ j x. or_swap (member x u) (eqb x s) (c x) j)

-- what a row is tested for, from its first place on
abbrev pub fits : (ℕ → Bool) → (ℕ → Bool) → List ℕ → Bool
fits lives c ss = all (λ s. data_sector s && lives s) ss && unclaimed c ss

fits-step : (lives c : ℕ → Bool) (s : ℕ) (ss : List ℕ) → fits lives c (s ∷ ss) ≡ (((data_sector s && lives s) && not (c s)) && fits lives (also s c) ss)
fits-step lives c s ss =
    ap (λ b. ((data_sector s && lives s) && all (λ x. data_sector x && lives x) ss) && b) (free_step c s ss)
    ∙ and_cross (data_sector s && lives s) (all (λ x. data_sector x && lives x) ss) (not (c s)) (unclaimed (also s c) ss)

member-step : (x s : ℕ) (ss : List ℕ) (c : Bool) → (member x (s ∷ ss) || c) ≡ (member x ss || (eqb x s || c))
member-step x s ss c = sym (or_swap (member x ss) (eqb x s) c)

-- a sector that is claimed in an array
claimed_also : (c : List Bool) (s x : ℕ) → told (set c s true) x ≡ also s (told c) x
claimed_also c s x = go (cases_eq x s) (cases_lt x (length c))
  where
    other : (x ≡ s → ⊥) → told (set c s true) x ≡ also s (told c) x
    other n = get_or-set_other c s x true true n ∙ ap (λ b. b || told c x) (sym (ne_eqb x s n))

    same : x ≡ s → told (set c x true) x ≡ true → told (set c s true) x ≡ also s (told c) x
    same e h = ap (λ y. told (set c y true) x) (sym e) ∙ h ∙ ap (λ b. b || told c x) (sym (eq-eqb x s e))

    go : (x ≡ s) ⊎ (x ≡ s → ⊥) → (x < length c) ⊎ (length c ≤ x) → told (set c s true) x ≡ also s (told c) x
    go (inr n) l = other n
    go (inl e) (inl l) = same e (get_or-set_same c x true true l)
    go (inl e) (inr l) = same e (get_or_past (set c x true) x true (omega (arith, length-set c x true)))

filled_apart : (a b z f : Bool) → ((a && b && z) && f) ≡ ((a && z) && (b && f))
filled_apart true true true f = refl
filled_apart true true false f = refl
filled_apart true false true f = refl
filled_apart true false false f = refl
filled_apart false b z f = refl

pub row_test : (lives c : ℕ → Bool) (r : List ℕ) → (proper_row lives r && unclaimed c (used r)) ≡ (filled_up r && fits lives c (used r))
row_test lives c r = filled_apart (leb 1 (length (used r))) (all (λ s. data_sector s && lives s) (used r)) (all (λ s. eqb s blank) (drop (length (used r)) r)) (unclaimed c (used r))

-- a row's place i, where the row has claimed the places before it in the array c
module _ (lives : ℕ → Bool) (c : List Bool) (r : List ℕ) (i : ℕ) (inside : i < length (used r)) where
  front : drop i (used r) ≡ get_or r i 0 ∷ drop (i + 1) (used r)
  front = drop_more (used r) i 0 inside ∙ ap (λ s. s ∷ drop (i + 1) (used r)) (used-at r i inside)

  test : (b answer : Bool) → b ≡ (data_sector (get_or r i 0) && lives (get_or r i 0) && not (told c (get_or r i 0))) → fits lives (told c) (drop i (used r)) ≡ answer → (b && fits lives (told (set c (get_or r i 0) true)) (drop (i + 1) (used r))) ≡ answer
  test b answer h inv =
      ap₂ (λ (x : Bool) (f : ℕ → Bool). x && fits lives f (drop (i + 1) (used r))) h (λ j x. claimed_also c (get_or r i 0) x j)
      ∙ sym (fits-step lives (told c) (get_or r i 0) (drop (i + 1) (used r)))
      ∙ sym (ap (fits lives (told c)) front)
      ∙ inv

  pub place_passes : (answer : Bool) → true ≡ (data_sector (get_or r i 0) && lives (get_or r i 0) && not (told c (get_or r i 0))) → fits lives (told c) (drop i (used r)) ≡ answer → fits lives (told (set c (get_or r i 0) true)) (drop (i + 1) (used r)) ≡ answer
  place_passes = test true

  pub place_fails : (answer : Bool) → false ≡ (data_sector (get_or r i 0) && lives (get_or r i 0) && not (told c (get_or r i 0))) → fits lives (told c) (drop i (used r)) ≡ answer → false ≡ answer
  place_fails = test false

  pub place_claims : (x : ℕ) (all_claimed : Bool) → (member x (drop i (used r)) || told c x) ≡ all_claimed → (member x (drop (i + 1) (used r)) || told (set c (get_or r i 0) true) x) ≡ all_claimed
  place_claims x all_claimed inv =
      ap (λ b. member x (drop (i + 1) (used r)) || b) (claimed_also c (get_or r i 0) x)
      ∙ sym (member-step x (get_or r i 0) (drop (i + 1) (used r)) (told c x))
      ∙ sym (ap (λ ss. member x ss || told c x) front)
      ∙ inv
