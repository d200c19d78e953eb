-- The order of checks: the first that refuses, and what is known where none does.
use Rattle.std.proofs.Common.{◌≡◌, Bool, true, false, cond, not, List, ◌∷◌, Some, None, Option, refl, ap, ◌∙◌}
use Rattle.std.proofs.lemmas.Bool.{not-false}
use Rattle.model.specs.Refusals.{Refusal, check, Check, picked}

-- one check, and the later ones where it does not refuse
pub pick : (r : Refusal) {b c : Bool} {x y : Option Refusal} → b ≡ c → (b ≡ false → x ≡ y) → cond b (Some r) x ≡ cond c (Some r) y
pick r {b} {c} {x} {y} e h = go b h ∙ ap (λ z. cond z (Some r) y) e
  where
    go : (b : Bool) → (b ≡ false → x ≡ y) → cond b (Some r) x ≡ cond b (Some r) y
    go true h = refl
    go false h = h refl

-- a check that does not refuse, and the later ones
pub pass : (b : Bool) (r : Refusal) (later : Option Refusal) → cond b (Some r) later ≡ None → (b ≡ false) × (later ≡ None)
pass true r later e = absurd cc
pass false r later e = (refl, e)

pub pass_not : (b : Bool) (r : Refusal) (later : Option Refusal) → cond (not b) (Some r) later ≡ None → (b ≡ true) × (later ≡ None)
pass_not b r later e = let u = pass (not b) r later e in (not-false b u.0, u.1)

pub passed-not : (b : Bool) (r : Refusal) (cs : List Check) → picked (check (not b) r ∷ cs) ≡ None → (b ≡ true) × (picked cs ≡ None)
passed-not b r cs e = pass_not b r (picked cs) e
