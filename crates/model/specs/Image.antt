-- What a store means: for each sector number below its size either 512 bytes or a dead sector.
pub use Rattle.model.specs.declared.types.Cause.{Cause}
pub use Rattle.model.specs.declared.types.Cause.TheVariants.{PastEnd as past_end, Dead as dead_sector}
pub use Rattle.model.specs.declared.types.Fault.{Fault}
use Rattle.std.specs.Prelude.{ℕ, zero, suc, ◌+◌, min, Bool, true, false, cond, ◌&&◌, List, [], ◌∷◌, ◌++◌, length, Some, None, Ok, Err, Option, Result, ◌==◌, nat_le, nat_lt, slice_index_or, slice_set}
use Rattle.model.specs.Sizes.{sector_size, most_sectors, deepest}

pub data Sector : Type 0 where
  bytes : List ℕ → Sector
  dead : ℕ → ℕ → Sector  -- its number in the bottom store, and the count of layers above that store

-- the sectors of a store, from number 0 on; the store's size is their count
abbrev pub Image : Type 0
Image = List Sector

abbrev pub all : {A : Type 0} → (A → Bool) → List A → Bool
all f [] = true
all f (x ∷ xs) = f x && all f xs

-- f at a, at a + 1 and so on, n of them
abbrev pub from_to : {A : Type 0} → ℕ → ℕ → (ℕ → A) → List A
from_to a zero f = []
from_to a (suc n) f = f a ∷ from_to (suc a) n f

abbrev pub whole_sector : Sector → Bool
whole_sector (bytes b) = length b == sector_size
whole_sector (dead p d) = true

-- what every store guarantees: at most 65,535 sectors, and 512 bytes in each that is not dead
abbrev pub whole : Image → Bool
whole i = nat_le (length i) most_sectors && all whole_sector i

-- the two faults ------------------------------------------------------------------------------------

-- no sector has the number s
abbrev pub past_end_at : ℕ → Fault
past_end_at s = record { cause = past_end; place = s; depth = 0 }

-- the sector is dead: its place in the bottom store, and its depth
abbrev pub dead_at : ℕ → ℕ → Fault
dead_at p d = record { cause = dead_sector; place = p; depth = d }

-- reading and writing ---------------------------------------------------------------------------------

abbrev pub seen : Sector → Result (List ℕ) Fault
seen (bytes b) = Ok b
seen (dead p d) = Err (dead_at p d)

-- what stands at s: its bytes, or the fault that a read and a write there meet
abbrev pub look : Image → ℕ → Result (List ℕ) Fault
look i s = cond (nat_lt s (length i)) (seen (slice_index_or i s (dead 0 0))) (Err (past_end_at s))

abbrev pub is_ok : {A B : Type 0} → Result A B → Bool
is_ok (Ok a) = true
is_ok (Err b) = false

abbrev pub done_or_fault : Result (List ℕ) Fault → Result (Unit {0}) Fault
done_or_fault (Ok b) = Ok tt
done_or_fault (Err f) = Err f

-- the answer of a read and of a write at s
abbrev pub access : Image → ℕ → Result (Unit {0}) Fault
access i s = done_or_fault (look i s)

abbrev pub bytes_or : Result (List ℕ) Fault → List ℕ → List ℕ
bytes_or (Ok b) old = b
bytes_or (Err f) old = old

-- the buffer after a read at s; a refused one leaves it
abbrev pub filled : Image → ℕ → List ℕ → List ℕ
filled i s buffer = bytes_or (look i s) buffer

abbrev pub stored : Result (List ℕ) Fault → Image → ℕ → List ℕ → Image
stored (Ok old) i s new = slice_set i s (bytes new)
stored (Err f) i s new = i

-- the image after `new` is written at s; a refused write leaves it
abbrev pub put : Image → ℕ → List ℕ → Image
put i s new = stored (look i s) i s new

-- one after another -------------------------------------------------------------------------------------

pub record Write : Type 0 where
  pub at : ℕ
  pub new : List ℕ

-- writes in their order; they stop at the first that meets a fault
pub record Written : Type 0 where
  pub image : Image
  pub fault : Option Fault

abbrev pub go_on : Result (List ℕ) Fault → Written → Image → Written
go_on (Ok old) rest i = rest
go_on (Err f) rest i = record { image = i; fault = Some f }

abbrev pub writes : List Write → Image → Written
writes [] i = record { image = i; fault = None }
writes (w ∷ ws) i = go_on (look i w.at) (writes ws (put i w.at w.new)) i

-- reads in their order, the bytes one after another; they too stop at the first that meets a fault
pub record Readout : Type 0 where
  pub bytes : List ℕ
  pub fault : Option Fault

abbrev pub read_on : Result (List ℕ) Fault → Readout → Readout
read_on (Ok b) rest = record { bytes = b ++ rest.bytes; fault = rest.fault }
read_on (Err f) rest = record { bytes = []; fault = Some f }

abbrev pub reads : List ℕ → Image → Readout
reads [] i = record { bytes = []; fault = None }
reads (s ∷ ss) i = read_on (look i s) (reads ss i)

-- a layer above -----------------------------------------------------------------------------------------

-- a dead sector one layer up
abbrev pub risen : Sector → Sector
risen (bytes b) = bytes b
risen (dead p d) = dead p (min (d + 1) deepest)
