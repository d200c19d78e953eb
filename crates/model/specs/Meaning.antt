-- Theorems above the definitions, in the subject's words: what a search finds, which sectors a file gets, how the
-- layout and its reading undo each other, and what the test of soundness tells.
use Rattle.std.specs.Prelude.{◌≡◌, ℕ, ◌/◌, ◌<◌, ◌≤◌, Bool, true, false, not, ◌↔◌, List, [], ◌∷◌, length, get_or, Some, None, Ok, slice_index, slice_index_or}
use Rattle.model.specs.Sizes.{sector_size, mark_free, least_sectors, entry_count, root}
use Rattle.model.specs.Image.{Image, whole}
use Rattle.model.specs.Tables.{Tables, Entry, no_entry, live, data_sector, entries_bytes, rows_bytes, tables, load, climbs, sound}
use Rattle.model.specs.Sound.{Shaped, Sound, Live}
use Rattle.model.specs.Tree.{Numbered, is_some, first}
use Rattle.model.specs.Volume.{free_sectors, room_for, given, inspection}

-- the first that passes is the lowest ----------------------------------------------------------------------

pub record Lowest {A : Type 0} (passes : A → Bool) (past_end : A) (xs : List A) (n : ℕ) : Type 0 where
  pub inside : n < length xs
  pub passed : passes (slice_index_or xs n past_end) ≡ true
  pub none_below : (m : ℕ) → m < n → passes (slice_index_or xs m past_end) ≡ false

-- what a search finds is the lowest place that passes, and it finds none exactly where none passes
abbrev pub FindsLowest : {A : Type 0} → (A → Bool) → A → List A → Type 0
FindsLowest passes past_end xs =
    ((n : ℕ) → (first passes xs ≡ Some n) ↔ Lowest passes past_end xs n)
    × ((first passes xs ≡ None) ↔ ((n : ℕ) → n < length xs → passes (slice_index_or xs n past_end) ≡ false))

-- the entry that `mkdir` and `write` fill is the lowest free one
abbrev pub EntriesLowest : Type 0
EntriesLowest = (es : List Entry) → FindsLowest (λ e. not (live e)) no_entry es

-- the number that the history gives is the lowest that is not used
abbrev pub NumbersLowest : Type 0
NumbersLowest = (items : Numbered) → FindsLowest (λ x. not (is_some x)) None items

-- the sectors that `write` gives out -------------------------------------------------------------------------

abbrev pub Free : Tables → ℕ → Type 0
Free t s = (data_sector s ≡ true) × (slice_index_or t.marks s 1 ≡ mark_free)

abbrev pub Rising : List ℕ → Type 0
Rising ss = (a b : ℕ) → a < b → b < length ss → slice_index ss a < slice_index ss b

-- ss are the k lowest free sectors, rising
pub record LowestFree (t : Tables) (k : ℕ) (ss : List ℕ) : Type 0 where
  pub many : length ss ≡ k
  pub rising : Rising ss
  pub free : (a : ℕ) → a < k → Free t (slice_index ss a)
  pub none_skipped : (s a : ℕ) → Free t s → a < k → s < slice_index ss a → (b : ℕ) × (b < a) × (slice_index ss b ≡ s)

pub record SectorsLowest : Type 0 where
  -- the free sectors are listed rising, each once, and no other
  pub listed_rising : (t : Tables) → Rising (free_sectors t)
  pub listed_free : (t : Tables) (a : ℕ) → a < length (free_sectors t) → Free t (slice_index (free_sectors t) a)
  pub free_listed : (t : Tables) (s : ℕ) → Free t s → (a : ℕ) × (a < length (free_sectors t)) × (slice_index (free_sectors t) a ≡ s)
  -- where there are enough of them for the data, `write` gives out the lowest
  pub given_lowest : (t : Tables) (w : List ℕ) → room_for t w ≡ true → LowestFree t (length w / sector_size) (given t w)

-- layout and its reading undo each other ------------------------------------------------------------------------

pub record LayoutUndone : Type 0 where
  -- tables laid out in four sectors are read back
  pub read_back : (t : Tables) → Shaped t → tables t.marks (entries_bytes t.dirs) (entries_bytes t.files) (rows_bytes t.rows) ≡ t
  -- four sectors, read as tables, are laid out again as they were
  pub laid-again :
      (m d f r : List ℕ) → length m ≡ sector_size → length d ≡ sector_size → length f ≡ sector_size → length r ≡ sector_size
      → Shaped (tables m d f r)
      × (entries_bytes (tables m d f r).dirs ≡ d)
      × (entries_bytes (tables m d f r).files ≡ f)
      × (rows_bytes (tables m d f r).rows ≡ r)

-- the test of soundness ---------------------------------------------------------------------------------------

-- the test passes exactly where the five rules hold
abbrev pub SoundTold : Type 0
SoundTold = (i : Image) (t : Tables) → Shaped t → (sound i t ≡ true) ↔ Sound i t

-- the directories of the way up from d: each is live, the next is its parent, and the last one's parent is the root
abbrev pub WayUp : List Entry → ℕ → List ℕ → Type 0
WayUp ds d [] = d ≡ root
WayUp ds d (e ∷ es) = (d ≡ e) × Live ds d × WayUp ds (get_or ds d no_entry).parent es

-- the parents lead to the root, however long the way, exactly where 32 steps tell so
abbrev pub RootedTold : Type 0
RootedTold = (ds : List Entry) (d : ℕ) → (climbs ds entry_count d ≡ true) ↔ ((es : List ℕ) × WayUp ds d es)

-- what a store must be to be let in
pub record Carries (i : Image) : Type 0 where
  pub large : least_sectors ≤ length i
  pub tables : Tables
  pub held : load i ≡ Ok tables
  pub sound : Sound i tables

-- `inspect` accepts exactly the stores that carry sound tables
abbrev pub LetIn : Type 0
LetIn = (i : Image) → whole i ≡ true → (inspection i ≡ None) ↔ Carries i
