-- What an accepted call makes of the tables is sound again.
use Rattle.std.proofs.Common.{◌≡◌, ℕ, Bool, true, false, not, ◌&&◌, List, [], ◌∷◌, ◌++◌, Some, None, Option, sym, refl, ap, ◌∙◌, subst}
use Rattle.model.specs.Image.{Image}
use Rattle.model.specs.Refusals.{Call, Check, mkdir, unlink, move, check, picked}
use Rattle.model.specs.Names.{names, spelt, within}
use Rattle.model.specs.Tables.{Tables as Model, Entry as ModelEntry, consistent}
use Rattle.model.specs.Tree.{is_some}
use Rattle.model.specs.Volume.{checks, tables_after, starts, leads, named, is_dir, number_of, free_entry, or_zero, new_entry, renamed, unlinked}
use Rattle.model.specs.declared.types.Kind.{Kind}
use Rattle.model.specs.declared.types.Kind.TheVariants.{Directory as directory, File as file}
use Rattle.model.specs.declared.types.Refusal.{Refusal}
use Rattle.model.specs.declared.types.Refusal.TheVariants.{Misspelt as misspelt, Start as start, Lost as lost, Taken as taken, Entries as entries, Inside as inside}
use Rattle.model.proofs.Consistent.{consistent-after}
use Rattle.tables.specs.Views.{view}
use Rattle.tables.specs.declared.types.Tables.{Tables}
use Rattle.tables.proofs.Shapes.{shaped}
use Rattle.tables.specs.Plans.{begun, vacant}
use Rattle.tables.specs.declared.consistent.Consistent.{Consistent}
use Rattle.tables.proofs.Choosing.{skip, stop, front-passed, front_stopped}

-- only `book` checks by the image, so any one serves
pub still_sound : (k : Consistent) (c : Call) (u : Tables) → picked (checks (view k.tables) [] c) ≡ None → view u ≡ tables_after (view k.tables) c → consistent (view u) ≡ true
still_sound k c u passed e = subst (λ (x : Model). consistent x ≡ true) (sym e) (consistent-after [] (view k.tables) c (shaped k.tables) k.sound passed).1

-- unlink -----------------------------------------------------------------------------------------------------

pub unlink_after : (t : Model) (d : ℕ) (p : List ℕ) (n : ℕ) → named t d p ≡ Some (file, n) → unlinked t n ≡ tables_after t (unlink d p)
unlink_after t d p n e = ap (λ (o : Option (Kind × ℕ)). unlinked t (number_of o)) (sym e)

-- mkdir ------------------------------------------------------------------------------------------------------

module _ (t : Model) (i : Image) (d : ℕ) (p : List ℕ) (passed : picked (begun t d p) ≡ None) where
  pub mkdir_full : free_entry t.dirs ≡ None → picked (checks t i (mkdir d p)) ≡ Some entries
  mkdir_full f = front-passed (begun t d p) (check (not (is_some (free_entry t.dirs))) entries ∷ vacant t d p) passed ∙ stop (not (is_some (free_entry t.dirs))) entries _ (ap (λ (o : Option ℕ). not (is_some o)) f)

  pub mkdir_goes : (n : ℕ) → free_entry t.dirs ≡ Some n → picked (checks t i (mkdir d p)) ≡ picked (vacant t d p)
  mkdir_goes n f = front-passed (begun t d p) (check (not (is_some (free_entry t.dirs))) entries ∷ vacant t d p) passed ∙ skip (not (is_some (free_entry t.dirs))) entries (picked (vacant t d p)) (ap (λ (o : Option ℕ). not (is_some o)) f) refl

pub mkdir_after : (t : Model) (d : ℕ) (p : List ℕ) (n : ℕ) (e : ModelEntry) → free_entry t.dirs ≡ Some n → e ≡ new_entry t d p → renamed t (Some (directory, n)) e ≡ tables_after t (mkdir d p)
mkdir_after t d p n e f q = ap (renamed t (Some (directory, n))) q ∙ ap (λ (o : Option ℕ). renamed t (Some (directory, or_zero o)) (new_entry t d p)) (sym f)

-- move -------------------------------------------------------------------------------------------------------

-- an item at p, a way to q, no item there, and q not beneath the directory p
abbrev moving : Model → ℕ → List ℕ → List ℕ → Option (Kind × ℕ) → List Check
moving t d p q o = check (not (is_some o && leads t d q)) lost ∷ check (is_some (named t d q)) taken ∷ check (is_dir o && within (names p) (names q)) inside ∷ []

module _ (t : Model) (i : Image) (d : ℕ) (p q : List ℕ) where
  -- the checks of p, with q well spelt
  begun-with : spelt q ≡ true → picked (begun t d p) ≡ picked (check (not (spelt p && spelt q)) misspelt ∷ check (not (starts t d)) start ∷ [])
  begun-with h = ap (λ (b : Bool). picked (check (not b) misspelt ∷ check (not (starts t d)) start ∷ [])) (sym (ap (λ (b : Bool). spelt p && b) h ∙ right (spelt p)))
    where
      right : (b : Bool) → (b && true) ≡ b
      right true = refl
      right false = refl

  pub move_refused : spelt q ≡ true → (e : Refusal) → picked (begun t d p) ≡ Some e → picked (checks t i (move d p q)) ≡ Some e
  move_refused h e s = front_stopped (check (not (spelt p && spelt q)) misspelt ∷ check (not (starts t d)) start ∷ []) (moving t d p q (named t d p)) e (sym (begun-with h) ∙ s)

  module _ (h : spelt q ≡ true) (passed : picked (begun t d p) ≡ None) where
    goes : picked (checks t i (move d p q)) ≡ picked (moving t d p q (named t d p))
    goes = front-passed (check (not (spelt p && spelt q)) misspelt ∷ check (not (starts t d)) start ∷ []) (moving t d p q (named t d p)) (sym (begun-with h) ∙ passed)

    pub move_lost : named t d p ≡ None → picked (checks t i (move d p q)) ≡ Some lost
    move_lost e = goes ∙ stop (not (is_some (named t d p) && leads t d q)) lost _ (ap (λ (o : Option (Kind × ℕ)). not (is_some o && leads t d q)) e)

    module _ (x : Kind × ℕ) (e : named t d p ≡ Some x) where
      -- the item is there, so its place is left to check
      there_is : picked (checks t i (move d p q)) ≡ picked (vacant t d q ++ check (is_dir (Some x) && within (names p) (names q)) inside ∷ [])
      there_is = goes ∙ ap (λ (o : Option (Kind × ℕ)). picked (moving t d p q o)) e

      pub move_placeless : (r : Refusal) → picked (vacant t d q) ≡ Some r → picked (checks t i (move d p q)) ≡ Some r
      move_placeless r s = there_is ∙ front_stopped (vacant t d q) (check (is_dir (Some x) && within (names p) (names q)) inside ∷ []) r s

      pub move-inside : picked (vacant t d q) ≡ None → (is_dir (Some x) && within (names p) (names q)) ≡ true → picked (checks t i (move d p q)) ≡ Some inside
      move-inside s w = there_is ∙ front-passed (vacant t d q) (check (is_dir (Some x) && within (names p) (names q)) inside ∷ []) s ∙ stop (is_dir (Some x) && within (names p) (names q)) inside _ w

      pub move-passed : picked (vacant t d q) ≡ None → (is_dir (Some x) && within (names p) (names q)) ≡ false → picked (checks t i (move d p q)) ≡ None
      move-passed s w = there_is ∙ front-passed (vacant t d q) (check (is_dir (Some x) && within (names p) (names q)) inside ∷ []) s ∙ skip (is_dir (Some x) && within (names p) (names q)) inside _ w refl

pub move-after : (t : Model) (d : ℕ) (p q : List ℕ) (x : Kind × ℕ) (e : ModelEntry) → named t d p ≡ Some x → e ≡ new_entry t d q → renamed t (Some x) e ≡ tables_after t (move d p q)
move-after t d p q x e h k = ap (renamed t (Some x)) k ∙ ap (λ (o : Option (Kind × ℕ)). renamed t o (new_entry t d q)) (sym h)
