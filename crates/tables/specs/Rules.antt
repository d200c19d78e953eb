-- The rules of soundness in the parts that the code tests one by one.
use Rattle.std.specs.Prelude.{◌≡◌, ℕ, ◌<◌, Bool, true, cond, not, ◌&&◌, ◌||◌, List, ◌++◌, length, drop, nat_eq, nat_le, nat_lt, slice_index_or}
use Rattle.model.specs.Sizes.{sector_size, first_data, last_data, entry_count, mark_free, mark_used, mark_dead, blank}
use Rattle.model.specs.Tables.{Tables, all, each, used, member, distinct, live_places, live_dir, proper_entry, climbs, unshared, proper_rows}

-- what an array with a place for each of the sectors 0x00 to 0xFF tells
abbrev pub told : List Bool → ℕ → Bool
told c s = slice_index_or c s true

abbrev pub alive_by : List Bool → ℕ → Bool
alive_by dead s = not (told dead s)

-- one place or more is used, and those behind are 0x00
abbrev pub filled_up : List ℕ → Bool
filled_up r = nat_le 1 (length (used r)) && all (λ s. nat_eq s blank) (drop (length (used r)) r)

-- none of the sectors is claimed, and none of them stands twice
abbrev pub unclaimed : (ℕ → Bool) → List ℕ → Bool
unclaimed c ss = distinct ss && all (λ s. not (c s)) ss

-- the array tells which sectors the rows of live files name
abbrev pub Claimed : Tables → List Bool → Type 0
Claimed t c = (s : ℕ) → s < 256 → told c s ≡ member s (live_places t.files t.rows)

-- the mark of a sector that no file has, as an array tells which are dead
abbrev pub unused_mark : List Bool → ℕ → ℕ
unused_mark dead s = cond (nat_lt s first_data) mark_used (cond (nat_lt last_data s) mark_free (cond (told dead s) mark_dead mark_free))

-- the mark of a sector, as the two arrays tell
abbrev pub due : List Bool → List Bool → ℕ → ℕ
due dead claimed s = cond (nat_lt s first_data) mark_used (cond (nat_lt last_data s) mark_free (cond (told dead s) mark_dead (cond (told claimed s) mark_used mark_free)))

-- every mark is the one that is due
abbrev pub marks_due : List Bool → List Bool → Tables → Bool
marks_due dead claimed t = each 0 sector_size (λ s. nat_eq (slice_index_or t.marks s 1) (due dead claimed s))

abbrev pub rows_sound : (ℕ → Bool) → Tables → Bool
rows_sound lives t = proper_rows lives t.files t.rows && distinct (live_places t.files t.rows)

-- the parents of each live directory lead to the root
abbrev pub rooted : Tables → Bool
rooted t = each 0 entry_count (λ d. not (live_dir t.dirs d) || climbs t.dirs entry_count d)

-- names and parents
abbrev pub entries_sound : Tables → Bool
entries_sound t = (all (proper_entry t.dirs) t.dirs && all (proper_entry t.dirs) t.files) && rooted t && unshared (t.dirs ++ t.files)
