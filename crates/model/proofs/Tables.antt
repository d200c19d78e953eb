-- The four tables: layout, rows and places, ways up and down, soundness.
pub mod Chains
pub mod Climbs
pub mod Free
pub mod Loads
pub mod Places
pub mod Rules
pub mod Walks
pub mod Ways
use Rattle.std.proofs.Common.{◌≡◌, ℕ, Bool, true, false, ◌↔◌, List, get_or, Some, sym, refl, ◌∙◌, inl, arith}
use mathlib.Core.Logic.{∥∥₁_elim}
use native.Mathlib.Nat.{ℕ_set}
use Rattle.std.proofs.lemmas.List.{get_or_default}
use Rattle.model.specs.Image.{Image, look, is_ok}
use Rattle.model.specs.Names.{names, spelt_or_empty}
use Rattle.model.specs.Tables.{sound, root, Tables, data_sector, live_places, member}
use Rattle.model.specs.Tree.{Kind}
use Rattle.model.specs.Volume.{named}
use Rattle.model.specs.Sound.{Shaped, NamesSector, Sound}
use Rattle.model.proofs.Ready.{Ready}
use Rattle.model.proofs.Naming.Spelling.{empty-names, names_tell}
use Rattle.model.proofs.Tables.Places.{named-member, member-named}
use Rattle.model.proofs.Tables.Rules.{parts, data_range, facts, all_sound}
use Rattle.model.proofs.Tables.Walks.{item_facts}

pub sound_facts : (i : Image) (t : Tables) → Shaped t → sound i t ≡ true → Sound i t
sound_facts i t shaped s = facts i t shaped (parts i t s)

pub facts_sound : (i : Image) (t : Tables) → Shaped t → Sound i t → sound i t ≡ true
facts_sound = all_sound

-- two well spelt paths that lead from the root to one item are one path
pub paths_tell : (i : Image) (t : Tables) → Ready i t → (p q : List ℕ) (x : Kind × ℕ) → spelt_or_empty p ≡ true → spelt_or_empty q ≡ true → named t root p ≡ Some x → named t root q ≡ Some x → p ≡ q
paths_tell i t r p q x sp sq ep eq = names_tell p q (sym (item_facts i t r.shaped r.facts (names p) root x (empty-names p sp) (inl refl) ep) ∙ item_facts i t r.shaped r.facts (names q) root x (empty-names q sq) (inl refl) eq)

pub marks_tell : (i : Image) (t : Tables) → Ready i t → (s : ℕ) → data_sector s ≡ true → (get_or t.marks s 0 ≡ 0xff) ↔ ∥ ((f : ℕ) × (j : ℕ) × NamesSector t f j s) ∥₁
marks_tell i t r s d = (there (is_ok (look i s)) refl (member s (live_places t.files t.rows)) refl, λ h. ∥∥₁_elim h (ℕ_set (get_or t.marks s 0) 0xff) back)
  where
    marked : get_or t.marks s 0 ≡ get_or t.marks s 1
    marked = let a = data_range s d in let b = r.shaped.marks_long in get_or_default t.marks s 0 1 (omega arith)

    there : (b : Bool) → is_ok (look i s) ≡ b → (c : Bool) → member s (live_places t.files t.rows) ≡ c → get_or t.marks s 0 ≡ 0xff → ∥ ((f : ℕ) × (j : ℕ) × NamesSector t f j s) ∥₁
    there false h c k e = let z : ◌≡◌ {A = ℕ} 0xfe 0xff = sym (r.facts.dead_marked s d h) ∙ sym marked ∙ e in absurd (omega arith)
    there true h false k e = let z : ◌≡◌ {A = ℕ} 0 0xff = sym (r.facts.free_marked s d h k) ∙ sym marked ∙ e in absurd (omega arith)
    there true h true k e = ∣ member-named t r.shaped s k ∣₁

    back : ((f : ℕ) × (j : ℕ) × NamesSector t f j s) → get_or t.marks s 0 ≡ 0xff
    back w =
        let n = w.2 in
        let ok = ((r.facts.rows_proper w.0 (n.0, n.1)).stored w.1 n.2).1 in
        marked ∙ r.facts.used_marked s d (rw n.3 at ok) (named-member t r.shaped w.0 w.1 s n)
