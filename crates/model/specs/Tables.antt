-- The four tables, how they lie in sectors, and the test whether they are sound.
use Rattle.std.specs.Prelude.{ℕ, zero, suc, Bool, true, false, cond, not, ◌&&◌, ◌||◌, List, [], ◌∷◌, ◌++◌, map, length, get_or, take, drop, Ok, Err, Result, ◌==◌, nat_eq, nat_le, nat_lt, slice_index, slice_index_or}
pub use Rattle.model.specs.Image.{all}
use Rattle.model.specs.Image.{Image, Fault, look, is_ok}
pub use Rattle.model.specs.Sizes.{root}
use Rattle.model.specs.Sizes.{sector_size, first_data, last_data, map_sector, dirs_sector, files_sector, rows_sector, mark_free, mark_used, mark_dead, entry_count, entry_size, blank}
use Rattle.model.specs.Names.{Name, same_name, proper_name, padded}

-- a directory or a file: the number of the directory that holds it, and fifteen bytes of name
pub record Entry : Type 0 where
  pub parent : ℕ
  pub name : List ℕ

pub record Tables : Type 0 where
  pub marks : List ℕ  -- the allocation map, a byte for each sector number
  pub dirs : List Entry
  pub files : List Entry
  pub rows : List (List ℕ)  -- for each file the numbers of its sectors

-- what stands past the end of a list of entries: a free one
abbrev pub no_entry : Entry
no_entry = record { parent = 0; name = [] }

-- an entry is free where its first name byte is 0x00
abbrev pub live : Entry → Bool
live e = not (slice_index e.name 0 == blank)

-- what stands before the first 0x00
abbrev pub up_to_blank : List ℕ → List ℕ
up_to_blank [] = []
up_to_blank (b ∷ bs) = let rest = up_to_blank bs in cond (b == blank) [] (b ∷ rest)

-- the name that an entry's fifteen bytes hold
abbrev pub trimmed : List ℕ → Name
trimmed bs = up_to_blank bs

-- the used places of a row
abbrev pub used : List ℕ → List ℕ
used r = up_to_blank r

abbrev pub row : Tables → ℕ → List ℕ
row t j = slice_index_or t.rows j []

-- layout ------------------------------------------------------------------------------------------

abbrev pub entries_bytes : List Entry → List ℕ
entries_bytes [] = []
entries_bytes (e ∷ es) = (e.parent ∷ e.name) ++ entries_bytes es

abbrev pub rows_bytes : List (List ℕ) → List ℕ
rows_bytes [] = []
rows_bytes (r ∷ rs) = r ++ rows_bytes rs

-- the first n parts of sixteen bytes
abbrev pub parts : ℕ → List ℕ → List (List ℕ)
parts zero bs = []
parts (suc n) bs = take entry_size bs ∷ parts n (drop entry_size bs)

abbrev pub entry : List ℕ → Entry
entry bs = record { parent = slice_index bs 0; name = drop 1 bs }

abbrev pub entries : List ℕ → List Entry
entries bs = map entry (parts entry_count bs)

-- the tables that four sectors hold
abbrev pub tables : List ℕ → List ℕ → List ℕ → List ℕ → Tables
tables m d f s = record { marks = m; dirs = entries d; files = entries f; rows = parts entry_count s }

abbrev pub after_ok : {A B : Type 0} → Result A Fault → (A → Result B Fault) → Result B Fault
after_ok (Ok a) f = f a
after_ok (Err e) f = Err e

-- the tables that an image holds, or the fault of the first dead table sector
abbrev pub load : Image → Result Tables Fault
load i = after_ok (look i map_sector) (λ m. after_ok (look i dirs_sector) (λ d. after_ok (look i files_sector) (λ f. after_ok (look i rows_sector) (λ s. Ok (tables m d f s)))))

-- rows --------------------------------------------------------------------------------------------

abbrev pub data_sector : ℕ → Bool
data_sector s = nat_le first_data s && nat_le s last_data

-- the used places of all live rows, file by file
abbrev pub live_places : List Entry → List (List ℕ) → List ℕ
live_places [] rs = []
live_places (e ∷ es) [] = []
live_places (e ∷ es) (r ∷ rs) = let rest = live_places es rs in cond (live e) (used r ++ rest) rest

abbrev pub member : ℕ → List ℕ → Bool
member s [] = false
member s (x ∷ xs) = s == x || member s xs

abbrev pub distinct : List ℕ → Bool
distinct [] = true
distinct (x ∷ xs) = not (member x xs) && distinct xs

-- f holds of each number from a, n of them
abbrev pub each : ℕ → ℕ → (ℕ → Bool) → Bool
each a zero f = true
each a (suc n) f = f a && each (suc a) n f

-- soundness ---------------------------------------------------------------------------------------

-- whether s can be read
abbrev pub alive : Image → ℕ → Bool
alive i s = is_ok (look i s)

-- whether s can be read, as the map tells
abbrev pub told_alive : Tables → ℕ → Bool
told_alive t s = not (slice_index t.marks s == mark_dead)

-- the map byte that s should have
abbrev pub mark_of : (ℕ → Bool) → Tables → ℕ → ℕ
mark_of lives t s =
    cond (nat_lt s first_data) mark_used
    (cond (nat_lt last_data s) mark_free
    (cond (not (lives s)) mark_dead
    (cond (member s (live_places t.files t.rows)) mark_used mark_free)))

abbrev pub marks_right : (ℕ → Bool) → Tables → Bool
marks_right lives t = each 0 sector_size (λ s. nat_eq (slice_index_or t.marks s 1) (mark_of lives t s))

abbrev pub live_dir : List Entry → ℕ → Bool
live_dir ds d = nat_lt d entry_count && live (slice_index_or ds d no_entry)

-- a proper name, filled up with 0x00
abbrev pub well_named : Entry → Bool
well_named e = proper_name (trimmed e.name) && same_name e.name (padded (trimmed e.name))

abbrev pub proper_entry : List Entry → Entry → Bool
proper_entry ds e = not (live e) || (well_named e && (e.parent == root || live_dir ds e.parent))

-- the parents lead to the root in at most n steps
abbrev pub climbs : List Entry → ℕ → ℕ → Bool
climbs ds zero d = d == root
climbs ds (suc n) d = d == root || (live_dir ds d && climbs ds n (get_or ds d no_entry).parent)

abbrev pub same_place : Entry → Entry → Bool
same_place e f = live e && live f && e.parent == f.parent && same_name e.name f.name

-- no two live entries share parent and name
abbrev pub unshared : List Entry → Bool
unshared [] = true
unshared (e ∷ es) = all (λ f. not (same_place e f)) es && unshared es

-- 1 to 16 data sectors that are alive, and then only 0x00
abbrev pub proper_row : (ℕ → Bool) → List ℕ → Bool
proper_row lives r = nat_le 1 (length (used r)) && all (λ s. data_sector s && lives s) (used r) && all (λ s. nat_eq s blank) (drop (length (used r)) r)

abbrev pub proper_rows : (ℕ → Bool) → List Entry → List (List ℕ) → Bool
proper_rows lives [] rs = true
proper_rows lives (e ∷ es) [] = true
proper_rows lives (e ∷ es) (r ∷ rs) = (not (live e) || proper_row lives r) && proper_rows lives es rs

-- sound where `lives` says which sectors are alive
abbrev pub sound_by : (ℕ → Bool) → Tables → Bool
sound_by lives t =
    marks_right lives t
    && (all (proper_entry t.dirs) t.dirs && all (proper_entry t.dirs) t.files)
    && each 0 entry_count (λ d. not (live_dir t.dirs d) || climbs t.dirs entry_count d)
    && unshared (t.dirs ++ t.files)
    && (proper_rows lives t.files t.rows && distinct (live_places t.files t.rows))

abbrev pub sound : Image → Tables → Bool
sound i t = sound_by (alive i) t

-- sound as far as the tables alone tell: a data sector counts as dead where its mark says so
abbrev pub consistent : Tables → Bool
consistent t = sound_by (told_alive t) t
