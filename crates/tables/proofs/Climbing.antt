-- A climb to the root, one parent after another.
use Rattle.std.proofs.Common.{◌≡◌, ℕ, suc, ◌+◌, ◌-◌, ◌<◌, ◌≤◌, Bool, true, false, ◌&&◌, ◌||◌, eqb, List, get_or, sym, ap, ◌∙◌, arith}
use Rattle.std.proofs.lemmas.Bool.{ne_eqb}
use Rattle.model.specs.Tables.{Entry, root, no_entry, live_dir, climbs}
use Rattle.model.proofs.Tables.Climbs.{climbs-root}

-- with m steps in all and i of them done, the climb has come from d to `at`
module _ (ds : List Entry) (m d i at : ℕ) (inv : climbs ds (m - i) at ≡ climbs ds m d) where
  more : i < m → climbs ds (m - i) at ≡ (eqb at root || (live_dir ds at && climbs ds (m - (i + 1)) (get_or ds at no_entry).parent))
  more l = let e : m - i ≡ suc (m - (i + 1)) = omega arith in ap (λ n. climbs ds n at) e

  inside : i < m → (at ≡ root → ⊥) → (b : Bool) → b ≡ live_dir ds at → (b && climbs ds (m - (i + 1)) (get_or ds at no_entry).parent) ≡ climbs ds m d
  inside l n b e = ap (λ x. x && climbs ds (m - (i + 1)) (get_or ds at no_entry).parent) e ∙ sym (more l ∙ ap (λ x. x || (live_dir ds at && climbs ds (m - (i + 1)) (get_or ds at no_entry).parent)) (ne_eqb at root n)) ∙ inv

  pub climbs_on : i < m → (at ≡ root → ⊥) → true ≡ live_dir ds at → climbs ds (m - (i + 1)) (get_or ds at no_entry).parent ≡ climbs ds m d
  climbs_on l n e = inside l n true e

  pub strays : i < m → (at ≡ root → ⊥) → false ≡ live_dir ds at → false ≡ climbs ds m d
  strays l n e = inside l n false e

  pub arrives : at ≡ root → true ≡ climbs ds m d
  arrives e = sym (climbs-root ds (m - i) at e) ∙ inv

  pub tires : m ≤ i → eqb at root ≡ climbs ds m d
  tires l = let e : m - i ≡ 0 = omega arith in sym (ap (λ n. climbs ds n at) e) ∙ inv
