-- Tables that are sound as far as they alone tell are so on some store: one whose dead sectors are those marked so.
use Rattle.std.proofs.Common.{◌≡◌, ℕ, ◌≤◌, Bool, true, false, not, List, refl, ap, ◌∙◌, arith}
use Rattle.model.specs.Image.{Image}
use Rattle.model.specs.Law.{from_to}
use Rattle.model.specs.Sound.{Shaped, Sound}
use Rattle.model.specs.Tables.{Tables, told_alive, consistent}
use Rattle.model.proofs.Common.Lists.{get_or_from}
use Rattle.model.proofs.Consistent.{consistent-sound}
use Rattle.model.proofs.Tables.{sound_facts}
use Rattle.model.proofs.Tables.Rules.{data_range}
use Rattle.tables.proofs.Admission.{sectors, alive-told}

twice-not : (b : Bool) → not (not b) ≡ b
twice-not true = refl
twice-not false = refl

marked-dead : ℕ → Tables → List Bool
marked-dead n t = from_to 0 n (λ s. not (told_alive t s))

sound-told : (n : ℕ) → 256 ≤ n → (t : Tables) → Shaped t → consistent t ≡ true → Sound (sectors (marked-dead n t)) t
unfolding marked-dead
sound-told n l t shaped k =
    sound_facts (sectors (marked-dead n t)) t shaped
    (consistent-sound (sectors (marked-dead n t)) t shaped k
    (λ s d. alive-told (marked-dead n t) s ∙ ap not (get_or_from 0 n (λ s. not (told_alive t s)) s s true (let r = data_range s d in omega arith) (omega arith)) ∙ twice-not (told_alive t s)))

pub told : (t : Tables) → Shaped t → consistent t ≡ true → (i : Image) × Sound i t
told t shaped k = (sectors (marked-dead 256 t), sound-told 256 (omega arith) t shaped k)
