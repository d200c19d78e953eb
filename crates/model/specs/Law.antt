-- What holds after every list of calls on a volume that was newly formatted.
use Rattle.std.specs.Prelude.{◌≡◌, ℕ, zero, suc, ◌+◌, Bool, true, false, cond, not, ◌&&◌, ◌↔◌, List, [], ◌∷◌, ◌++◌, take, Some, None, Ok, slice_index, slice_index_or}
pub use Rattle.model.specs.Image.{whole_sector, whole, from_to}
use Rattle.model.specs.Image.{Image, look, is_ok}
use Rattle.model.specs.Refusals.{Call, opening, closing, find, read, write, mkdir, unlink, prune, move, next, book, picked}
use Rattle.model.specs.Sizes.{root, first_data, data_count, mark_used}
use Rattle.model.specs.Names.{Path}
use Rattle.model.specs.Tables.{Tables, data_sector, sound, alive, told_alive, consistent}
use Rattle.model.specs.Tree.{Tree, Numbered, Kind, bare, is_some}
use Rattle.model.specs.History.{history, checks}
use Rattle.model.specs.Sound.{NamesSector, Shaped}
use Rattle.model.specs.Answers.{turned_away, find_answer, book_answer, book_buffer}
pub use Rattle.model.specs.Volume.{blank_mark, format_writes, format_refusal, formatted}
use Rattle.model.specs.Volume.{Volume, opened, after, tree_of, Kept, checks as table_checks, tables_after}

-- a store with no volume on it, or an open volume
pub data Device : Type 0 where
  closed : Image → Device
  standing : Volume → Device

-- `open` and `close` change whether there is a volume; every other call is one of the volume
pub data Use : Type 0 where
  opens closes works : Use

abbrev pub use_of : Call → Use
use_of opening = opens
use_of closing = closes
use_of (find d p) = works
use_of (mkdir d p) = works
use_of (unlink d p) = works
use_of (prune d p) = works
use_of (read d p b) = works
use_of (write d p w) = works
use_of (move d p q) = works
use_of (next d p a) = works
use_of (book b) = works

-- a call that is out of place leaves the device
abbrev pub step : Device → Call → Device
step (closed i) c = elim (use_of c) [ opens ↦ standing (opened i) | closes ↦ closed i | works ↦ closed i ]
step (standing v) c = elim (use_of c) [ opens ↦ standing v | closes ↦ closed v.image | works ↦ standing (after v c) ]

-- one call after another
abbrev pub run : Device → List Call → Device
run u [] = u
run u (c ∷ cs) = run (step u c) cs

-- `open` stands where the volume is closed, and every other call where it is open
abbrev pub in_place : Bool → List Call → Bool
in_place open? [] = true
in_place open? (c ∷ cs) =
    elim (use_of c) [ opens ↦ not open? && in_place true cs | closes ↦ open? && in_place false cs | works ↦ open? && in_place true cs ]

-- on a closed store, the volume that `open` would give
abbrev pub volume : Device → Volume
volume (closed i) = opened i
volume (standing v) = v

-- how many numbers from a, n of them, pass
abbrev pub count : (ℕ → Bool) → ℕ → ℕ → ℕ
count f a zero = 0
count f a (suc n) = cond (f a) 1 0 + count f (suc a) n

-- the count of data sectors that are not dead: all that the history is told of the store
abbrev pub room : Image → ℕ
room i = count (λ s. is_ok (look i s)) first_data data_count

-- the promises --------------------------------------------------------------------------------------

-- `find` accepts the path from the root, and gives the kind and number x
abbrev pub Finds : Volume → List ℕ → Kind × ℕ → Type 0
Finds v p x = find_answer v root p ≡ Ok x

-- the volume after format and a list of calls
abbrev pub reached : Image → List Call → Volume
reached i cs = volume (run (closed (formatted i)) cs)

-- the tree that a volume holds
abbrev pub tree_in : Volume → Tree
tree_in v = elim v.tables [ None ↦ bare | Some t ↦ tree_of t v.image ]

-- what holds of the volume v after format of the image i and the calls cs
pub record Stands (i : Image) (cs : List Call) (v : Volume) : Type 0 where
  -- its own tables are let in, so it is not shut
  pub stays_open : is_some v.tables ≡ true
  pub kept : Kept v
  -- opened again, it is the same volume
  pub again : opened v.image ≡ v
  -- the volume holds the tree of its history, and answers by it
  pub told : tree_in v ≡ history (room i) bare cs
  pub answers : (c : Call) → turned_away v c ≡ picked (checks (room i) (history (room i) bare cs) c)
  -- two paths that are found from the root are equal exactly when they have the same kind and number
  pub paths : (p q : List ℕ) (x y : Kind × ℕ) → Finds v p x → Finds v q y → (p ≡ q) ↔ (x ≡ y)
  -- two used places name the same sector exactly when they are one place
  pub places : (t : Tables) → v.tables ≡ Some t → (f j s g k r : ℕ) → NamesSector t f j s → NamesSector t g k r → (s ≡ r) ↔ ((f ≡ g) × (j ≡ k))
  -- the map marks a data sector used exactly when a used place names it
  pub marks : (t : Tables) → v.tables ≡ Some t → (s : ℕ) → data_sector s ≡ true → (slice_index t.marks s ≡ mark_used) ↔ ∥ ((f : ℕ) × (j : ℕ) × NamesSector t f j s) ∥₁

-- it holds after every list of calls
abbrev pub RunsStand : Type 0
RunsStand = (i : Image) → whole i ≡ true → format_refusal i ≡ None → (cs : List Call) → in_place false cs ≡ true → Stands i cs (reached i cs)

-- paths, kinds and bytes are the same; numbers do not count
abbrev pub StandsIn : Numbered → Path → List ℕ → Type 0
StandsIn items p b = ∥ ((n : ℕ) × (slice_index_or items n None ≡ Some (record { path = p; bytes = b }))) ∥₁

pub record Same (t u : Tree) : Type 0 where
  pub dirs : (p : Path) (b : List ℕ) → StandsIn t.dirs p b ↔ StandsIn u.dirs p b
  pub files : (p : Path) (b : List ℕ) → StandsIn t.files p b ↔ StandsIn u.files p b

-- a list that ends with an accepted `book`, and the bytes of that book: as many of its buffer as it answers
pub record Books (i : Image) (cs : List Call) (it : List ℕ) : Type 0 where
  pub sectors : whole i ≡ true
  pub ready : format_refusal i ≡ None
  pub buffer : List ℕ
  pub placed : in_place false (cs ++ book buffer ∷ []) ≡ true
  pub long : ℕ
  pub accepted : book_answer (reached i cs) buffer ≡ Ok long
  pub given : it ≡ take long (book_buffer (reached i cs) buffer)

-- two books are equal exactly when the two histories give the same tree
abbrev pub BooksTell : Type 0
BooksTell = (i j : Image) (cs ds : List Call) (x y : List ℕ) → Books i cs x → Books j ds y → (x ≡ y) ↔ Same (history (room i) bare cs) (history (room j) bare ds)

-- a volume's tables alone tell that they are sound, and each accepted call leaves them so
pub record TablesStay : Type 0 where
  pub from_sound : (i : Image) (t : Tables) → Shaped t → sound i t ≡ true → consistent t ≡ true
  -- on a store whose dead data sectors are those that the map marks
  pub to_sound : (i : Image) (t : Tables) → Shaped t → consistent t ≡ true → ((s : ℕ) → data_sector s ≡ true → alive i s ≡ told_alive t s) → sound i t ≡ true
  pub after_call : (i : Image) (t : Tables) (c : Call) → Shaped t → consistent t ≡ true → picked (table_checks t i c) ≡ None → Shaped (tables_after t c) × (consistent (tables_after t c) ≡ true)
