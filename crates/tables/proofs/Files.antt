-- A new file: the checks that `write` makes in parts, the file's row, and the tables with the file.
use Rattle.std.proofs.Common.{◌≡◌, ℕ, ◌-◌, ◌*◌, ◌/◌, ◌%◌, ◌<◌, ◌≤◌, true, cond, not, ◌&&◌, eqb, leb, List, [], ◌∷◌, ◌++◌, length, get_or, take, set, replicate, Some, None, Option, sym, refl, ap, ◌∙◌, subst, arith}
use Rattle.std.proofs.lemmas.List.{get_or-map, get_or-set_same, length-set, length-take-le, map-set}
use Rattle.std.proofs.lemmas.Bool.{and_parts, eqb-true, leb-true}
use Rattle.model.specs.History.{whole_sectors}
use Rattle.model.specs.Image.{Image}
use Rattle.model.specs.Refusals.{Check, check, picked, write}
use Rattle.model.specs.Sound.{Shaped}
use Rattle.model.specs.Tables.{Tables as Model, Entry as ModelEntry, data_sector, live, member, row, used}
use Rattle.model.specs.Tree.{first, is_some}
use Rattle.model.specs.Volume.{checks, free_entry, free_sectors, given, marked, new_entry, or_zero, written}
use Rattle.model.specs.declared.types.Refusal.{Refusal}
use Rattle.model.specs.declared.types.Refusal.TheVariants.{Entries as entries, Sectors as sectors, Size as size}
use Rattle.model.proofs.Calls.Checks.{passed-not}
use Rattle.model.proofs.Common.Members.{member-at, take-member}
use Rattle.model.proofs.Meaning.{sectors_lowest}
use Rattle.model.proofs.Tables.Places.{used-padded}
use Rattle.model.proofs.Tables.Rules.{data_range}
use Rattle.model.proofs.Tables.Walks.{free-at}
use Rattle.tables.specs.Views.{entries_view, entry_view, marks_view, rows_view, view}
use Rattle.tables.specs.declared.types.Entry.{Entry}
use Rattle.tables.specs.declared.types.Row.{Row}
use Rattle.tables.specs.declared.types.Tables.{Tables}
use Rattle.tables.proofs.Positions.{first-map}
use Rattle.tables.specs.Plans.{begun, vacant}
use Rattle.tables.specs.Writing.{Written, enough, lowest_row, roomy, spare, with_file}
use Rattle.tables.specs.declared.consistent.Consistent.{Consistent}
use Rattle.tables.proofs.Choosing.{front-passed, front_stopped}

-- the checks in parts ----------------------------------------------------------------------------------------

-- the lowest free entry, as the code holds entries
pub entry_found : (es : List Entry) (o : Option ℕ) → o ≡ first (λ e. not (live (entry_view e))) es → o ≡ free_entry (entries_view es)
entry_found es o e = e ∙ sym (first-map (λ x. not (live x)) entry_view es)

module _ (t : Model) (d : ℕ) (p w : List ℕ) where
  abbrev entered : List Check
  entered = check (not (is_some (free_entry t.files))) entries ∷ []

  abbrev Picks : Option Refusal → Type 0
  Picks o = (i : Image) → picked (checks t i (write d p w)) ≡ o

  in_parts : Picks (picked (begun t d p ++ (roomy t w ++ (entered ++ vacant t d p))))
  unfolding spare
  in_parts i = refl

  pub start_refused : (e : Refusal) → picked (begun t d p) ≡ Some e → Picks (Some e)
  start_refused e h i = in_parts i ∙ front_stopped (begun t d p) (roomy t w ++ (entered ++ vacant t d p)) e h

  module _ (began : picked (begun t d p) ≡ None) where
    after_start : Picks (picked (roomy t w ++ (entered ++ vacant t d p)))
    after_start i = in_parts i ∙ front-passed (begun t d p) (roomy t w ++ (entered ++ vacant t d p)) began

    pub data_refused : (e : Refusal) → picked (roomy t w) ≡ Some e → Picks (Some e)
    data_refused e h i = after_start i ∙ front_stopped (roomy t w) (entered ++ vacant t d p) e h

    module _ (fits : picked (roomy t w) ≡ None) where
      after_data : Picks (picked (entered ++ vacant t d p))
      after_data i = after_start i ∙ front-passed (roomy t w) (entered ++ vacant t d p) fits

      pub entry_refused : None ≡ free_entry t.files → Picks (Some entries)
      entry_refused h i = after_data i ∙ front_stopped entered (vacant t d p) entries (ap (λ o. cond (not (is_some o)) (Some entries) None) (sym h))

      after-entry : (k : ℕ) → Some k ≡ free_entry t.files → Picks (picked (vacant t d p))
      after-entry k free i = after_data i ∙ front-passed entered (vacant t d p) (ap (λ o. cond (not (is_some o)) (Some entries) None) (sym free))

      pub name_refused : (k : ℕ) → Some k ≡ free_entry t.files → (e : Refusal) → picked (vacant t d p) ≡ Some e → Picks (Some e)
      name_refused k free e h i = after-entry k free i ∙ h

-- the row ----------------------------------------------------------------------------------------------------

positive : (t : Model) (x : ℕ) → member x (spare t) ≡ true → 0 < x
unfolding spare
positive t x m =
    let q = member-at x (free_sectors t) m in
    let f = sectors_lowest.listed_free t q.0 q.1 in
    low (data_range x (subst (λ y. data_sector y ≡ true) q.2 f.0)).0
  where
    low : 0x0b ≤ x → 0 < x
    low l = omega arith

given_is : (t : Model) (w : List ℕ) → take (length w / 512) (spare t) ≡ given t w
unfolding spare
given_is t w = refl

row-used : (t : Model) (w : List ℕ) → used (lowest_row t (length w / 512)) ≡ given t w
row-used t w =
    let n = length w / 512 in
    used-padded (16 - n) (take n (spare t)) (λ x m. positive t x (take-member n x (spare t) m)) ∙ given_is t w

given-many : (t : Model) (w : List ℕ) → enough t (length w / 512) ≡ true → length (given t w) ≡ length w / 512
given-many t w h = ap length (sym (given_is t w)) ∙ length-take-le (length w / 512) (spare t) (leb-true (length w / 512) (length (spare t)) h)

row_is : (t : Model) (w : List ℕ) → enough t (length w / 512) ≡ true → lowest_row t (length w / 512) ≡ given t w ++ replicate (16 - length (given t w)) 0
row_is t w h = ap (λ ss. ss ++ replicate (16 - length w / 512) 0) (given_is t w) ∙ ap (λ n. given t w ++ replicate (16 - n) 0) (sym (given-many t w h))

-- the tables with the file ------------------------------------------------------------------------------------

-- u is t with an entry and a row put in place, and then that row marked
pub in_place : (t : Tables) (j : ℕ) (e : Entry) (r : Row) (u : Model) → j < length t.rows → u ≡ record { marks = marked (used (get_or (rows_view (set t.rows j r)) j [])) 0xff (marks_view t.marks); dirs = entries_view t.dirs; files = entries_view (set t.files j e); rows = rows_view (set t.rows j r) } → u ≡ with_file (view t) j (entry_view e) r.places
in_place t j e r u l h = h ∙ (λ i. record { marks = marked (used (row_here i)) 0xff (marks_view t.marks); dirs = entries_view t.dirs; files = map-set entry_view t.files j e i; rows = map-set (λ (x : Row). x.places) t.rows j r i })
  where
    row_here : get_or (rows_view (set t.rows j r)) j [] ≡ r.places
    row_here = get_or-map (λ (x : Row). x.places) (set t.rows j r) j r [] (subst (λ n. j < n) (sym (length-set t.rows j r)) l) ∙ ap (λ (x : Row). x.places) (get_or-set_same t.rows j r r l)

-- the sizes
filled : (t : Model) (w : List ℕ) → whole_sectors w ≡ true → enough t (length w / 512) ≡ true → length w ≡ 512 * length (given t w)
filled t w h k = count (length w) (length (given t w)) (eqb-true (length w % 512) 0 (and_parts (eqb (length w % 512) 0) (leb 512 (length w)) (and_parts (eqb (length w % 512) 0 && leb 512 (length w)) (leb (length w) 8192) h).0).0) (given-many t w k)
  where
    count : (l k : ℕ) → l % 512 ≡ 0 → k ≡ l / 512 → l ≡ 512 * k
    count l k p q = omega arith

-- what `write` finds for the data w, the path p and the start d: all checks passed, a number, an entry and a row
pub record Found (t : Model) (d : ℕ) (p w : List ℕ) (k : ℕ) (e : ModelEntry) (r : List ℕ) : Type 0 where
  pub began : picked (begun t d p) ≡ None
  pub fits : picked (roomy t w) ≡ None
  pub free : Some k ≡ free_entry t.files
  pub vacancy : picked (vacant t d p) ≡ None
  pub new : e ≡ new_entry t d p
  pub lowest : r ≡ lowest_row t (length w / 512)

module _ (t : Model) (d : ℕ) (p w : List ℕ) (k : ℕ) (e : ModelEntry) (r : List ℕ) (f : Found t d p w k e r) where
  pub accepted : (i : Image) → picked (checks t i (write d p w)) ≡ None
  accepted i = after-entry t d p w f.began f.fits k f.free i ∙ f.vacancy

  sized : (whole_sectors w ≡ true) × (enough t (length w / 512) ≡ true)
  sized =
      let u = passed-not (whole_sectors w) size (check (not (enough t (length w / 512))) sectors ∷ []) f.fits in
      (u.0, (passed-not (enough t (length w / 512)) sectors [] u.1).0)

  numbered : k ≡ or_zero (free_entry t.files)
  numbered = ap or_zero f.free

  used_is : used r ≡ given t w
  used_is = ap used f.lowest ∙ row-used t w

  whole_row : r ≡ given t w ++ replicate (16 - length (given t w)) 0
  whole_row = f.lowest ∙ row_is t w sized.1

  pub written_is : with_file t k e r ≡ written t d p w
  written_is i = record { marks = marked (used_is i) 0xff t.marks; dirs = t.dirs; files = set t.files (numbered i) (f.new i); rows = set t.rows (numbered i) (whole_row i) }

  pub file_written : Shaped t → (c : Consistent) → view c.tables ≡ with_file t k e r → Written t d p w (record { after = c; number = k })
  file_written shape c put =
      record {
        after = put ∙ written_is;
        number = numbered;
        small = small;
        places = ap (λ (u : Model). used (row u k)) put ∙ ap used (get_or-set_same t.rows k r [] (subst (λ n. k < n) (sym shape.rows_many) small)) ∙ used_is;
        filled = filled t w sized.0 sized.1;
      }
    where
      small : k < 32
      small = subst (λ n. k < n) shape.files_many (free-at t.files k (sym f.free)).0
