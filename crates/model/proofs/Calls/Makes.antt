-- What mkdir and move leave: one entry is set.
use Rattle.std.proofs.Common.{◌≡◌, ℕ, ◌<◌, true, false, ◌&&◌, ◌⊎◌, List, [], ◌∷◌, ◌++◌, length, set, Some, None, Option, sym, refl, ap, ◌∙◌, subst, inl, inr}
use Rattle.std.proofs.lemmas.List.{get_or-set_other, get_or-set_same, length-set}
use Rattle.std.proofs.lemmas.Bool.{and_parts, cases_eq}
use Rattle.model.specs.Image.{Image, is_ok, writes}
use Rattle.model.specs.Refusals.{entries as full, inside, lost, misspelt, start, taken, mkdir, move, picked}
use Rattle.model.specs.Names.{names, spelt, Path, within, proper_name, padded}
use Rattle.model.specs.Tables.{Entry, Tables, no_entry, live, entries_bytes}
use Rattle.model.specs.Tree.{Kind, directory, file, is_some}
use Rattle.model.specs.Book.{last}
use Rattle.model.specs.Volume.{holder, is_dir, named, climb, checks, starts, leads, free_entry, or_zero, new_entry, renamed, tables_after, dirs_write, files_write, entry_write, sector_writes}
use Rattle.model.specs.Sound.{Shaped, Live, Sound}
use Rattle.model.proofs.Common.Tests.{some_out, none_out}
use Rattle.model.proofs.Store.Writes.{Able}
use Rattle.model.proofs.Naming.Spelling.{trimmed-padded, padded-live, proper_parts, length-padded, last-spelt}
use Rattle.model.proofs.Tables.Climbs.{Place, place-climbs}
use Rattle.model.proofs.Tables.Loads.{Holds, holds_after, dirs_back, files_back, dirs_512, files_512, Next}
use Rattle.model.proofs.Tables.Rules.{held-from}
use Rattle.model.proofs.Tables.Walks.{free-at, child_none, untaken, Found, found, Fresh, fresh-entry, not-inside}
use Rattle.model.proofs.Calls.Checks.{pass, pass_not}
use Rattle.model.proofs.Calls.Entries.{at, Treed, Avoids, dead_avoids, avoids_out, Named, dir_placed, file_placed}
use Rattle.model.proofs.Calls.Rows.{Rowed, treed_from, rowed_from, sound-from, rowed_same}

-- the new entry -------------------------------------------------------------------------------------------

module _ (t : Tables) (d : ℕ) (p : List ℕ) (s : spelt p ≡ true) where
  pub new-named : Named (new_entry t d p)
  new-named =
      record {
        is_live = padded-live (last (names p)) (last-spelt p s);
        is_named = subst (λ x. proper_name x ≡ true) (sym (trimmed-padded (last (names p)) (last-spelt p s))) (last-spelt p s);
        is_filled = ap padded (sym (trimmed-padded (last (names p)) (last-spelt p s)));
      }

  pub new-long : length (new_entry t d p).name ≡ 15
  new-long = length-padded (last (names p)) (proper_parts (last (names p)) (last-spelt p s)).1

  module _ (h : ℕ) (holds : holder t d (names p) ≡ Some h) (none : named t d p ≡ None) where
    new-parent : (new_entry t d p).parent ≡ h
    new-parent = ap or_zero holds

    pub alone-dirs : length t.dirs ≡ 32 → (c : ℕ) → Live t.dirs c → (at t.dirs c).parent ≡ (new_entry t d p).parent → (at t.dirs c).name ≡ (new_entry t d p).name → ⊥
    alone-dirs many c l a b = child_none t.dirs h (last (names p)) many (untaken t d p s h holds none).0 c l (a ∙ new-parent) b

    pub alone-files : length t.files ≡ 32 → (c : ℕ) → Live t.files c → (at t.files c).parent ≡ (new_entry t d p).parent → (at t.files c).name ≡ (new_entry t d p).name → ⊥
    alone-files many c l a b = child_none t.files h (last (names p)) many (untaken t d p s h holds none).1 c l (a ∙ new-parent) b

-- names stay 15 bytes long
pub named_set : (es : List Entry) (n : ℕ) (e : Entry) → n < length es → length e.name ≡ 15 → ((k : ℕ) → k < 32 → length (at es k).name ≡ 15) → (k : ℕ) → k < 32 → length (at (set es n e) k).name ≡ 15
named_set es n e l q h k b = go (cases_eq k n)
  where
    go : (k ≡ n) ⊎ (k ≡ n → ⊥) → length (at (set es n e) k).name ≡ 15
    go (inl m) = ap (λ x. length x.name) (ap (at (set es n e)) m ∙ get_or-set_same es n e no_entry l) ∙ q
    go (inr m) = ap (λ x. length x.name) (get_or-set_other es n k e no_entry m) ∙ h k b

-- one directory entry, or one file entry, is set -----------------------------------------------------------

abbrev dirs-set : Tables → ℕ → Entry → Tables
dirs-set t n e = record { marks = t.marks; dirs = set t.dirs n e; files = t.files; rows = t.rows }

abbrev files-set : Tables → ℕ → Entry → Tables
files-set t n e = record { marks = t.marks; dirs = t.dirs; files = set t.files n e; rows = t.rows }

module _ (i : Image) (t : Tables) (shaped : Shaped t) (holds : Holds i t) (n : ℕ) (small : n < 32) (e : Entry) (fresh : Named e) (long : length e.name ≡ 15) where
  dirs-set_shaped : Shaped (dirs-set t n e)
  dirs-set_shaped =
      record {
        marks_long = shaped.marks_long;
        dirs_many = length-set t.dirs n e ∙ shaped.dirs_many;
        files_many = shaped.files_many;
        rows_many = shaped.rows_many;
        dirs_named = named_set t.dirs n e (subst (λ m. n < m) (sym shaped.dirs_many) small) long shaped.dirs_named;
        files_named = shaped.files_named;
        rows_long = shaped.rows_long;
      }

  files-set_shaped : Shaped (files-set t n e)
  files-set_shaped =
      record {
        marks_long = shaped.marks_long;
        dirs_many = shaped.dirs_many;
        files_many = length-set t.files n e ∙ shaped.files_many;
        rows_many = shaped.rows_many;
        dirs_named = shaped.dirs_named;
        files_named = named_set t.files n e (subst (λ m. n < m) (sym shaped.files_many) small) long shaped.files_named;
        rows_long = shaped.rows_long;
      }

  next-dirs : Treed (set t.dirs n e) t.files → Rowed i t.marks t.files t.rows → Next i (dirs-set t n e) (dirs_write (dirs-set t n e) ∷ [])
  next-dirs tree rows = record { able = ok; holds = after; shaped = dirs-set_shaped; facts = sound-from i (dirs-set t n e) dirs-set_shaped tree rows }
    where
      ok : Able i (dirs_write (dirs-set t n e) ∷ [])
      ok = (ap is_ok holds.dirs-at.1, dirs_512 (dirs-set t n e) dirs-set_shaped, tt)

      after : Holds (writes (dirs_write (dirs-set t n e) ∷ []) i).image (dirs-set t n e)
      after = holds_after i t (dirs-set t n e) (dirs_write (dirs-set t n e) ∷ []) ok holds (entries_bytes (set t.dirs n e)) holds.files-at.0 holds.rows_at.0 refl refl (dirs_back (dirs-set t n e) dirs-set_shaped) refl holds.files-at.2 refl holds.rows_at.2

  next-files : Treed t.dirs (set t.files n e) → Rowed i t.marks (set t.files n e) t.rows → Next i (files-set t n e) (files_write (files-set t n e) ∷ [])
  next-files tree rows = record { able = ok; holds = after; shaped = files-set_shaped; facts = sound-from i (files-set t n e) files-set_shaped tree rows }
    where
      ok : Able i (files_write (files-set t n e) ∷ [])
      ok = (ap is_ok holds.files-at.1, files_512 (files-set t n e) files-set_shaped, tt)

      after : Holds (writes (files_write (files-set t n e) ∷ []) i).image (files-set t n e)
      after = holds_after i t (files-set t n e) (files_write (files-set t n e) ∷ []) ok holds holds.dirs-at.0 (entries_bytes (set t.files n e)) holds.rows_at.0 refl refl holds.dirs-at.2 refl (files_back (files-set t n e) files-set_shaped) refl holds.rows_at.2

-- mkdir ------------------------------------------------------------------------------------------------

module _ (i : Image) (t : Tables) (shaped : Shaped t) (holds : Holds i t) (facts : Sound i t) where
  tree : Treed t.dirs t.files
  tree = treed_from i t shaped facts

  rows : Rowed i t.marks t.files t.rows
  rows = rowed_from i t shaped facts

  made-next : (d : ℕ) (p : List ℕ) → spelt p ≡ true → Place t.dirs d → (n : ℕ) → free_entry t.dirs ≡ Some n → (h : ℕ) → holder t d (names p) ≡ Some h → named t d p ≡ None → Next i (dirs-set t n (new_entry t d p)) (dirs_write (dirs-set t n (new_entry t d p)) ∷ [])
  made-next d p s held n free h to none =
      next-dirs i t shaped holds n small (new_entry t d p) fresh (new-long t d p s)
      (dir_placed t.dirs n (new_entry t d p) f.0 small fresh 32 away t.files tree
      (λ c ne. alone-dirs t d p s h to none shaped.dirs_many c)
      (alone-files t d p s h to none shaped.files_many))
      rows
    where
      f : (n < length t.dirs) × (live (at t.dirs n) ≡ false)
      f = free-at t.dirs n free

      small : n < 32
      small = subst (λ m. n < m) shaped.dirs_many f.0

      fresh : Named (new_entry t d p)
      fresh = new-named t d p s

      put : Fresh t.dirs (new_entry t d p) (climb t.dirs 32 d ++ names p)
      put = fresh-entry i t shaped facts d p s held (ap is_some to)

      away : Avoids t.dirs n 32 (new_entry t d p).parent
      away = dead_avoids t.dirs n f.1 32 (new_entry t d p).parent (place-climbs i t facts (new_entry t d p).parent put.placed)

  pub mkdir_next : (d : ℕ) (p : List ℕ) → picked (checks t i (mkdir d p)) ≡ None → Next i (tables_after t (mkdir d p)) (sector_writes t (mkdir d p) (tables_after t (mkdir d p)))
  mkdir_next d p h =
      let c₁ = pass_not (spelt p) misspelt _ h in
      let c₂ = pass_not (starts t d) start _ c₁.1 in
      let c₃ = pass_not (is_some (free_entry t.dirs)) full _ c₂.1 in
      let c₄ = pass_not (leads t d p) lost _ c₃.1 in
      let c₅ = pass (is_some (named t d p)) taken _ c₄.1 in
      let n = some_out (free_entry t.dirs) c₃.0 in
      let to = some_out (holder t d (names p)) c₄.0 in
      subst (λ m. Next i (dirs-set t m (new_entry t d p)) (dirs_write (dirs-set t m (new_entry t d p)) ∷ [])) (sym (ap or_zero n.1))
      (made-next d p c₁.0 (held-from t.dirs d c₂.0) n.0 n.1 to.0 to.1 (none_out (named t d p) c₅.0))

  -- move ---------------------------------------------------------------------------------------------------

  moved_dir : (d : ℕ) (p q : List ℕ) → spelt p ≡ true → spelt q ≡ true → Place t.dirs d → (x : ℕ) → named t d p ≡ Some (directory, x) → (h : ℕ) → holder t d (names q) ≡ Some h → named t d q ≡ None → within (names p) (names q) ≡ false → Next i (dirs-set t x (new_entry t d q)) (dirs_write (dirs-set t x (new_entry t d q)) ∷ [])
  moved_dir d p q sp sq held x is h to none out =
      next-dirs i t shaped holds x l.0 (new_entry t d q) fresh (new-long t d q sq)
      (dir_placed t.dirs x (new_entry t d q) (subst (λ m. x < m) (sym shaped.dirs_many) l.0) l.0 fresh 32 away t.files tree
      (λ c ne. alone-dirs t d q sq h to none shaped.dirs_many c)
      (alone-files t d q sq h to none shaped.files_many))
      rows
    where
      f : Found i t shaped facts (climb t.dirs 32 d ++ names p) directory x
      f = found i t shaped facts d p directory x sp held is

      l : Live t.dirs x
      l = f.0

      fresh : Named (new_entry t d q)
      fresh = new-named t d q sq

      put : Fresh t.dirs (new_entry t d q) (climb t.dirs 32 d ++ names q)
      put = fresh-entry i t shaped facts d q sq held (ap is_some to)

      away : Avoids t.dirs x 32 (new_entry t d q).parent
      away = avoids_out t.dirs x 32 (facts.rooted x l) 32 (new_entry t d q).parent (place-climbs i t facts (new_entry t d q).parent put.placed) (ap (λ (y : Path). within y (climb t.dirs 32 (new_entry t d q).parent)) f.1 ∙ not-inside i t shaped facts (climb t.dirs 32 d) (names p) (names q) (new_entry t d q) put out)

  moved_file : (d : ℕ) (p q : List ℕ) → spelt p ≡ true → spelt q ≡ true → Place t.dirs d → (x : ℕ) → named t d p ≡ Some (file, x) → (h : ℕ) → holder t d (names q) ≡ Some h → named t d q ≡ None → Next i (files-set t x (new_entry t d q)) (files_write (files-set t x (new_entry t d q)) ∷ [])
  moved_file d p q sp sq held x is h to none =
      next-files i t shaped holds x l.0 (new_entry t d q) fresh (new-long t d q sq)
      (file_placed t.files x (new_entry t d q) inl_len l.0 fresh t.dirs tree
      (fresh-entry i t shaped facts d q sq held (ap is_some to)).placed
      (alone-dirs t d q sq h to none shaped.dirs_many)
      (λ c ne. alone-files t d q sq h to none shaped.files_many c))
      (rowed_same i t.marks t.files (set t.files x (new_entry t d q)) t.rows (λ f. same f (cases_eq f x)) rows)
    where
      l : Live t.files x
      l = (found i t shaped facts d p file x sp held is).0

      inl_len : x < length t.files
      inl_len = subst (λ m. x < m) (sym shaped.files_many) l.0

      fresh : Named (new_entry t d q)
      fresh = new-named t d q sq

      same : (f : ℕ) → (f ≡ x) ⊎ (f ≡ x → ⊥) → live (at (set t.files x (new_entry t d q)) f) ≡ live (at t.files f)
      same f (inl e) = ap (λ y. live (at (set t.files x (new_entry t d q)) y)) e ∙ (ap live (get_or-set_same t.files x (new_entry t d q) no_entry inl_len) ∙ (fresh.is_live ∙ (sym l.1 ∙ ap (λ y. live (at t.files y)) (sym e))))
      same f (inr ne) = ap live (get_or-set_other t.files x f (new_entry t d q) no_entry ne)

  abbrev Moved : ℕ → List ℕ → List ℕ → Option (Kind × ℕ) → Type 0
  Moved d p q o = Next i (renamed t o (new_entry t d q)) (entry_write o (renamed t o (new_entry t d q)) ∷ [])

  moved : (d : ℕ) (p q : List ℕ) → spelt p ≡ true → spelt q ≡ true → Place t.dirs d → (k : Kind) (x : ℕ) → named t d p ≡ Some (k, x) → (h : ℕ) → holder t d (names q) ≡ Some h → named t d q ≡ None → (is_dir (Some (k, x)) && within (names p) (names q)) ≡ false → Moved d p q (Some (k, x))
  moved d p q sp sq held directory x is h to none out = moved_dir d p q sp sq held x is h to none out
  moved d p q sp sq held file x is h to none out = moved_file d p q sp sq held x is h to none

  pub move-next : (d : ℕ) (p q : List ℕ) → picked (checks t i (move d p q)) ≡ None → Next i (tables_after t (move d p q)) (sector_writes t (move d p q) (tables_after t (move d p q)))
  move-next d p q h =
      let c₁ = pass_not (spelt p && spelt q) misspelt _ h in
      let c₂ = pass_not (starts t d) start _ c₁.1 in
      let c₃ = pass_not (is_some (named t d p) && leads t d q) lost _ c₂.1 in
      let c₄ = pass (is_some (named t d q)) taken _ c₃.1 in
      let c₅ = pass (is_dir (named t d p) && within (names p) (names q)) inside _ c₄.1 in
      let both = and_parts (spelt p) (spelt q) c₁.0 in
      let ends = and_parts (is_some (named t d p)) (leads t d q) c₃.0 in
      let x = some_out (named t d p) ends.0 in
      let to = some_out (holder t d (names q)) ends.1 in
      subst (Moved d p q) (sym x.1)
      (moved d p q both.0 both.1 (held-from t.dirs d c₂.0) x.0.0 x.0.1 x.1 to.0 to.1 (none_out (named t d q) c₄.0) (subst (λ o. (is_dir o && within (names p) (names q)) ≡ false) x.1 c₅.0))
