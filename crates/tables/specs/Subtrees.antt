-- A directory with all directories beneath it, as marks on the places of a table; and what is in marked directories.
use Rattle.std.specs.Prelude.{ℕ, suc, Bool, false, cond, not, ◌&&◌, ◌||◌, List, [], ◌∷◌, ◌++◌, map, length, slice_index_or}
use Rattle.model.specs.Image.{from_to}
use Rattle.model.specs.Sizes.{entry_count, mark_free}
use Rattle.model.specs.Tables.{Tables, Entry, each, live, live_dir, used}
use Rattle.model.specs.Volume.{under, deep, first_bytes, marked, pruned}

-- d is a live directory: top, or one beneath it
unfoldable pub beneath : List Entry → ℕ → ℕ → Bool
beneath ds top d = live_dir ds d && under ds top deep d

abbrev pub is_marked : List Bool → ℕ → Bool
is_marked ms d = slice_index_or ms d false

-- the marks, and those of top and of all directories beneath it
unfoldable pub with_subtree : List Entry → ℕ → List Bool → List Bool
with_subtree ds top ms = from_to 0 (length ms) (λ d. is_marked ms d || beneath ds top d)

-- neither top nor a directory beneath it is marked
unfoldable pub untouched : List Entry → ℕ → List Bool → Bool
untouched ds top ms = each 0 entry_count (λ d. not (is_marked ms d && beneath ds top d))

-- what is in marked directories ----------------------------------------------------------------------------------

-- a live file in a marked directory
abbrev pub goes_in : List Bool → Entry → Bool
goes_in ms e = live e && is_marked ms e.parent

-- the file set free where it goes
abbrev pub file_less : List Bool → Entry → Entry
file_less ms e = cond (goes_in ms e) (first_bytes e) e

-- the used places of the files that go
abbrev pub places_in : List Bool → List Entry → List (List ℕ) → List ℕ
places_in ms [] rs = []
places_in ms (e ∷ es) [] = []
places_in ms (e ∷ es) (r ∷ rs) = cond (goes_in ms e) (used r) [] ++ places_in ms es rs

-- the tables without the files in marked directories
unfoldable pub without_files : List Bool → Tables → Tables
without_files ms t = record { marks = marked (places_in ms t.files t.rows) mark_free t.marks; dirs = t.dirs; files = map (file_less ms) t.files; rows = t.rows }

-- the marked ones set free, from the number n on
abbrev pub dirs_out : List Bool → ℕ → List Entry → List Entry
dirs_out ms n [] = []
dirs_out ms n (e ∷ es) = cond (is_marked ms n) (first_bytes e) e ∷ dirs_out ms (suc n) es

-- the tables without the marked directories
unfoldable pub without_dirs : List Bool → Tables → Tables
without_dirs ms t = record { marks = t.marks; dirs = dirs_out ms 0 t.dirs; files = t.files; rows = t.rows }

-- the tables without top and all that lies beneath it, kept shut
unfoldable pub without_subtree : ℕ → Tables → Tables
without_subtree top t = pruned t top
