-- What write leaves: a new file with its row and its sectors.
use Rattle.std.proofs.Common.{◌≡◌, ℕ, zero, suc, ◌+◌, ◌-◌, ◌*◌, ◌%◌, ◌<◌, ◌≤◌, true, false, ◌&&◌, eqb, leb, ◌⊎◌, List, [], ◌∷◌, ◌++◌, length, get_or, set, replicate, Some, None, sym, refl, ap, ◌∙◌, subst, inl, inr, arith}
use Rattle.std.proofs.lemmas.List.{get_or-append_right, get_or-set_other, get_or-set_same, length-append, length-replicate, length-set}
use Rattle.std.proofs.lemmas.Bool.{and_parts, cases_eq, leb-true, false_from_ne_true}
use Rattle.model.specs.Image.{Image, is_ok, Write, writes}
use Rattle.model.specs.Refusals.{entries as full, lost, misspelt, sectors, size, start, taken, write, picked}
use Rattle.model.specs.Names.{names, spelt}
use Rattle.model.specs.Tables.{Entry, Tables, live, used, entries_bytes, rows_bytes, data_sector, member, distinct}
use Rattle.model.specs.Tree.{is_some}
use Rattle.model.specs.History.{whole_sectors}
use Rattle.model.specs.Volume.{holder, named, checks, starts, leads, free_entry, room_for, marked, or_zero, new_entry, given, tables_after, data_writes, map_write, files_write, rows_write, sector_writes}
use Rattle.model.specs.Sound.{Shaped, ProperRow, Sound}
use Rattle.model.proofs.Common.Members.{at-member}
use Rattle.model.proofs.Common.Tests.{some_out, none_out}
use Rattle.model.proofs.Store.Bodies.{data_able, left_data}
use Rattle.model.proofs.Store.Writes.{Able, able_append}
use Rattle.model.proofs.Tables.Climbs.{Place}
use Rattle.model.proofs.Tables.Free.{Spare, given-spare, given-distinct, given-length}
use Rattle.model.proofs.Tables.Loads.{Holds, holds_after, files_back, rows-again, files_512, rows_512, Next}
use Rattle.model.proofs.Tables.Places.{used-at, length_marked, used-padded}
use Rattle.model.proofs.Tables.Rules.{data_from, held-from}
use Rattle.model.proofs.Tables.Walks.{free-at, fresh-entry}
use Rattle.model.proofs.Calls.Checks.{pass, pass_not}
use Rattle.model.proofs.Calls.Entries.{at, Treed, Named, file_placed}
use Rattle.model.proofs.Calls.Makes.{new-named, new-long, alone-dirs, alone-files, named_set}
use Rattle.model.proofs.Calls.Rows.{Rowed, treed_from, rowed_from, sound-from, rowed_more}

zeros : (n j : ℕ) → ◌≡◌ {A = ℕ} (get_or (replicate n 0) j 0) 0
zeros zero j = refl
zeros (suc n) zero = refl
zeros (suc n) (suc j) = zeros n j

-- a file of the sectors ss ----------------------------------------------------------------------------------

abbrev row_of : List ℕ → List ℕ
row_of ss = ss ++ replicate (16 - length ss) 0

abbrev filled : Tables → ℕ → Entry → List ℕ → Tables
filled t j e ss = record { marks = marked ss 0xff t.marks; dirs = t.dirs; files = set t.files j e; rows = set t.rows j (row_of ss) }

module _ (i : Image) (t : Tables) (shaped : Shaped t) (holds : Holds i t) (facts : Sound i t)
    (j : ℕ) (small : j < 32) (free : live (at t.files j) ≡ false) (e : Entry) (fresh : Named e) (long : length e.name ≡ 15)
    (ss w : List ℕ) (some : 1 ≤ length ss) (few : length ss ≤ 16) (fits : length ss * 512 ≤ length w) (apart : distinct ss ≡ true)
    (spare : (s : ℕ) → member s ss ≡ true → Spare i t shaped facts s) where
  in_data : (s : ℕ) → member s ss ≡ true → data_sector s ≡ true
  in_data s m = data_from s (spare s m).least (spare s m).most

  row-used : used (row_of ss) ≡ ss
  row-used = used-padded (16 - length ss) ss (λ s m. low s (spare s m).least)
    where
      low : (a : ℕ) → 0x0b ≤ a → 0 < a
      low a l = omega arith

  row-length : length (row_of ss) ≡ 16
  row-length = length-append ss (replicate (16 - length ss) 0) ∙ (ap (λ n. length ss + n) (length-replicate {A = ℕ} (16 - length ss) 0) ∙ sum (length ss) few)
    where
      sum : (a : ℕ) → a ≤ 16 → a + (16 - a) ≡ 16
      sum a l = omega arith

  row_at : (k : ℕ) → k < length (used (row_of ss)) → member (get_or (row_of ss) k 0) ss ≡ true
  row_at k l = subst (λ x. member (get_or (row_of ss) k 0) x ≡ true) row-used (at-member (used (row_of ss)) k (get_or (row_of ss) k 0) l (used-at (row_of ss) k l))

  row_proper : ProperRow i (row_of ss)
  row_proper =
      record {
        some_used = subst (λ x. 1 ≤ length x) (sym row-used) some;
        stored = λ k l. (in_data (get_or (row_of ss) k 0) (row_at k l), (spare (get_or (row_of ss) k 0) (row_at k l)).alive);
        rest = λ k l. get_or-append_right ss (replicate (16 - length ss) 0) (length ss) k 0 refl (subst (λ x. length x ≤ k) row-used l) ∙ zeros (16 - length ss) (k - length ss);
      }

  in_files : j < length t.files
  in_files = subst (λ m. j < m) (sym shaped.files_many) small

  in_rows : j < length t.rows
  in_rows = subst (λ m. j < m) (sym shaped.rows_many) small

  filled_shaped : Shaped (filled t j e ss)
  filled_shaped =
      record {
        marks_long = length_marked ss 0xff t.marks ∙ shaped.marks_long;
        dirs_many = shaped.dirs_many;
        files_many = length-set t.files j e ∙ shaped.files_many;
        rows_many = length-set t.rows j (row_of ss) ∙ shaped.rows_many;
        dirs_named = shaped.dirs_named;
        files_named = named_set t.files j e in_files long shaped.files_named;
        rows_long = λ f l. go f l (cases_eq f j);
      }
    where
      go : (f : ℕ) → f < 32 → (f ≡ j) ⊎ (f ≡ j → ⊥) → length (get_or (set t.rows j (row_of ss)) f []) ≡ 16
      go f l (inl q) = ap length (ap (λ x. get_or (set t.rows j (row_of ss)) x []) q ∙ get_or-set_same t.rows j (row_of ss) [] in_rows) ∙ row-length
      go f l (inr q) = ap length (get_or-set_other t.rows j f (row_of ss) [] q) ∙ shaped.rows_long f l

  filled-rows : Rowed i (marked ss 0xff t.marks) (set t.files j e) (set t.rows j (row_of ss))
  filled-rows = rowed_more i t.marks t.files t.rows shaped.marks_long shaped.files_many shaped.rows_many (rowed_from i t shaped facts) j small free e fresh.is_live ss (row_of ss) row-used row_proper apart (λ s m. ((spare s m).unmarked, in_data s m, (spare s m).alive))

  abbrev tail : Tables → List Write
  tail u = rows_write u ∷ map_write u ∷ files_write u ∷ []

  tail_able : Able i (tail (filled t j e ss))
  tail_able = (ap is_ok holds.rows_at.1, rows_512 (filled t j e ss) filled_shaped, (ap is_ok holds.map_at, filled_shaped.marks_long, (ap is_ok holds.files-at.1, files_512 (filled t j e ss) filled_shaped, tt)))

  all_able : Able i (data_writes ss w ++ tail (filled t j e ss))
  all_able = able_append i (data_writes ss w) (tail (filled t j e ss)) (data_able i ss w (λ s m. (spare s m).alive) fits) tail_able

  not-given : (x : ℕ) → 0x100 ≤ x → member x ss ≡ false
  not-given x l = false_from_ne_true (member x ss) (λ m. high (spare x m).most)
    where
      high : x ≤ 0xff → ⊥
      high b = omega arith

  filled_next : Treed t.dirs (set t.files j e) → Next i (filled t j e ss) (data_writes ss w ++ tail (filled t j e ss))
  filled_next tree = record { able = all_able; holds = after; shaped = filled_shaped; facts = sound-from i (filled t j e ss) filled_shaped tree filled-rows }
    where
      after : Holds (writes (data_writes ss w ++ tail (filled t j e ss)) i).image (filled t j e ss)
      after = holds_after i t (filled t j e ss) (data_writes ss w ++ tail (filled t j e ss)) all_able holds holds.dirs-at.0 (entries_bytes (set t.files j e)) (rows_bytes (set t.rows j (row_of ss))) (left_data ss w (tail (filled t j e ss)) 0x100 t.marks (not-given 0x100 (omega arith))) (left_data ss w (tail (filled t j e ss)) 0x101 holds.dirs-at.0 (not-given 0x101 (omega arith))) holds.dirs-at.2 (left_data ss w (tail (filled t j e ss)) 0x102 holds.files-at.0 (not-given 0x102 (omega arith))) (files_back (filled t j e ss) filled_shaped) (left_data ss w (tail (filled t j e ss)) 0x103 holds.rows_at.0 (not-given 0x103 (omega arith))) (rows-again (filled t j e ss) filled_shaped)

-- write --------------------------------------------------------------------------------------------

sizes : (w : List ℕ) (k : ℕ) → whole_sectors w ≡ true → length w ≡ 512 * k → (1 ≤ k) × (k ≤ 16) × (k * 512 ≤ length w)
sizes w k h e =
    let a = and_parts (eqb (length w % 512) 0 && leb 512 (length w)) (leb (length w) 8192) h in
    let b = and_parts (eqb (length w % 512) 0) (leb 512 (length w)) a.0 in
    go (length w) (leb-true 512 (length w) b.1) (leb-true (length w) 8192 a.1) e
  where
    go : (n : ℕ) → 512 ≤ n → n ≤ 8192 → n ≡ 512 * k → (1 ≤ k) × (k ≤ 16) × (k * 512 ≤ n)
    go n l m e = (omega arith, omega arith, omega arith)

module _ (i : Image) (t : Tables) (shaped : Shaped t) (holds : Holds i t) (facts : Sound i t) where
  abbrev WrittenBy : ℕ → List ℕ → List ℕ → ℕ → List ℕ → Type 0
  WrittenBy d p w j ss = Next i (filled t j (new_entry t d p) ss) (data_writes ss w ++ (rows_write (filled t j (new_entry t d p) ss) ∷ map_write (filled t j (new_entry t d p) ss) ∷ files_write (filled t j (new_entry t d p) ss) ∷ []))

  written_next : (d : ℕ) (p w : List ℕ) → spelt p ≡ true → Place t.dirs d → (j : ℕ) → free_entry t.files ≡ Some j → (h : ℕ) → holder t d (names p) ≡ Some h → named t d p ≡ None → (ss : List ℕ) → 1 ≤ length ss → length ss ≤ 16 → length ss * 512 ≤ length w → distinct ss ≡ true → ((s : ℕ) → member s ss ≡ true → Spare i t shaped facts s) → WrittenBy d p w j ss
  written_next d p w s held j free h to none ss some few fits apart spare =
      filled_next i t shaped holds facts j small f.1 (new_entry t d p) fresh (new-long t d p s) ss w some few fits apart spare
      (file_placed t.files j (new_entry t d p) f.0 small fresh t.dirs (treed_from i t shaped facts)
      (fresh-entry i t shaped facts d p s held (ap is_some to)).placed
      (alone-dirs t d p s h to none shaped.dirs_many)
      (λ c ne. alone-files t d p s h to none shaped.files_many c))
    where
      f : (j < length t.files) × (live (at t.files j) ≡ false)
      f = free-at t.files j free

      small : j < 32
      small = subst (λ m. j < m) shaped.files_many f.0

      fresh : Named (new_entry t d p)
      fresh = new-named t d p s

  pub write-next : (d : ℕ) (p w : List ℕ) → picked (checks t i (write d p w)) ≡ None → Next i (tables_after t (write d p w)) (sector_writes t (write d p w) (tables_after t (write d p w)))
  write-next d p w h =
      let c₁ = pass_not (spelt p) misspelt _ h in
      let c₂ = pass_not (starts t d) start _ c₁.1 in
      let c₃ = pass_not (whole_sectors w) size _ c₂.1 in
      let c₄ = pass_not (room_for t w) sectors _ c₃.1 in
      let c₅ = pass_not (is_some (free_entry t.files)) full _ c₄.1 in
      let c₆ = pass_not (leads t d p) lost _ c₅.1 in
      let c₇ = pass (is_some (named t d p)) taken _ c₆.1 in
      let n = some_out (free_entry t.files) c₅.0 in
      let to = some_out (holder t d (names p)) c₆.0 in
      let z = sizes w (length (given t w)) c₃.0 (given-length i t shaped facts w c₃.0 c₄.0) in
      subst (λ j. WrittenBy d p w j (given t w)) (sym (ap or_zero n.1))
      (written_next d p w c₁.0 (held-from t.dirs d c₂.0) n.0 n.1 to.0 to.1 (none_out (named t d p) c₇.0) (given t w) z.0 z.1 z.2 (given-distinct i t shaped facts w) (given-spare i t shaped facts w))
