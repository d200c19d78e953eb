-- Tests joined by `and`, `or` and `not`, and tests of all of a list.
use Rattle.std.proofs.Common.{◌≡◌, Bool, true, false, not, ◌&&◌, ◌||◌, List, [], ◌∷◌, ◌++◌, sym, refl, ap, ◌∙◌, ap₂}
use mathlib.Core.Bool.{and_assoc}
use Rattle.std.proofs.lemmas.Bool.{and_parts}
use Rattle.model.specs.Tables.{all}

pub or_swap : (x y z : Bool) → (x || (y || z)) ≡ ((y || x) || z)
or_swap true true z = refl
or_swap true false z = refl
or_swap false true z = refl
or_swap false false z = refl

pub and_cross : (p q f g : Bool) → ((p && q) && (f && g)) ≡ ((p && f) && (q && g))
and_cross true q true g = refl
and_cross true true false g = refl
and_cross true false false g = refl
and_cross false q f g = refl

pub neither : (e k m a : Bool) → (not (e || k) && (not m && a)) ≡ (not (e || m) && (not k && a))
neither true k m a = refl
neither false true true a = refl
neither false true false a = refl
neither false false true a = refl
neither false false false a = refl

-- two lists, one after the other
module _ {A : Type 0} (f : A → Bool) where
  pub all_join : (xs ys : List A) → all f (xs ++ ys) ≡ (all f xs && all f ys)
  all_join [] ys = refl
  all_join (x ∷ xs) ys = ap (λ b. f x && b) (all_join xs ys) ∙ sym (and_assoc (f x) (all f xs) (all f ys))

pub all_weaker : {A : Type 0} (f g : A → Bool) → ((x : A) → f x ≡ true → g x ≡ true) → (xs : List A) → all f xs ≡ true → all g xs ≡ true
all_weaker f g h [] e = refl
all_weaker f g h (x ∷ xs) e = let p = and_parts (f x) (all f xs) e in ap₂ (λ a b. a && b) (h x p.0) (all_weaker f g h xs p.1)
