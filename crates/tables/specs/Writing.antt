-- The sectors that a new file gets, and what `write` makes.
use Rattle.std.specs.Prelude.{◌≡◌, ℕ, ◌-◌, ◌*◌, ◌/◌, ◌<◌, Bool, not, List, [], ◌∷◌, ◌++◌, length, take, replicate, nat_le, slice_set}
use Rattle.model.specs.History.{whole_sectors}
use Rattle.model.specs.Refusals.{Check, check, write}
use Rattle.model.specs.Sizes.{sector_size, entry_count, row_size, mark_used, blank}
use Rattle.model.specs.Tables.{Tables as Model, Entry, used, row}
use Rattle.model.specs.Volume.{free_entry, free_sectors, given, marked, or_zero}
use Rattle.model.specs.declared.types.Refusal.TheVariants.{Sectors as sectors, Size as size}
use Rattle.tables.specs.Views.{view}
use Rattle.tables.specs.Plans.{After}
use Rattle.tables.specs.declared.outcomes.Placed.{Placed}

-- the free data sectors, rising; shut, since it unfolds to a test of each sector
unfoldable pub spare : Model → List ℕ
spare t = free_sectors t

-- a row of the n lowest free data sectors, filled up with 0x00
abbrev pub lowest_row : Model → ℕ → List ℕ
lowest_row t n = take n (spare t) ++ replicate (row_size - n) blank

-- there are n of them
abbrev pub enough : Model → ℕ → Bool
enough t n = nat_le n (length (spare t))

-- the checks of the data: their size, and sectors for them
abbrev pub roomy : Model → List ℕ → List Check
roomy t w = check (not (whole_sectors w)) size ∷ check (not (enough t (length w / sector_size))) sectors ∷ []

-- the tables with a file in entry j: its row, and the sectors of that row marked as used
abbrev pub with_file : Model → ℕ → Entry → List ℕ → Model
with_file t j e r = record { marks = marked (used r) mark_used t.marks; dirs = t.dirs; files = slice_set t.files j e; rows = slice_set t.rows j r }

-- a file of the data w for the path p from the start d: in the lowest free entry, its row the sectors given, which w fill
pub record Written (t : Model) (d : ℕ) (p w : List ℕ) (m : Placed) : Type 0 where
  pub after : After t (write d p w) m.after
  pub number : m.number ≡ or_zero (free_entry t.files)
  pub small : m.number < entry_count
  pub places : used (row (view m.after.tables) m.number) ≡ given t w
  pub filled : length w ≡ sector_size * length (given t w)
