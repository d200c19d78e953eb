-- Sectors written or read one after another, and what is answered of it.
use Rattle.std.specs.Prelude.{◌≡◌, ℕ, List, Some, None, Ok, Err, Option, Result}
use Rattle.model.specs.Answers.{over}
use Rattle.model.specs.Image.{Image, Write, writes, reads}
use Rattle.model.specs.Tables.{Tables}
use Rattle.model.specs.Volume.{map_write, dirs_write, files_write, rows_write}
use Rattle.model.specs.declared.types.Fault.{Fault}
use Rattle.model.specs.declared.types.Kind.{Kind}
use Rattle.model.specs.declared.types.Kind.TheVariants.{Directory as directory, File as file}
use Rattle.model.specs.declared.types.Refusal.{Refusal}
use Rattle.model.specs.declared.types.Refusal.TheVariants.{Dead as dead}
use Rattle.volume.specs.declared.parts.Part.{Part}
use Rattle.volume.specs.declared.parts.Part.TheVariants.{Map, Dirs, Files, Rows}

-- a table written to its sector
abbrev pub part_write : Tables → Part → Write
part_write t Map = map_write t
part_write t Dirs = dirs_write t
part_write t Files = files_write t
part_write t Rows = rows_write t

-- the table that has the entries of a kind
abbrev pub part_of : Kind → Part
part_of directory = Dirs
part_of file = Files

-- nothing, or the fault as a refusal
abbrev pub unless_fault : Option Fault → Result (Unit {0}) Refusal
unless_fault None = Ok tt
unless_fault (Some f) = Err (dead f)

-- from i the writes led to j, and r says whether they met a fault
pub record Wrote (i : Image) (ws : List Write) (r : Result (Unit {0}) Refusal) (j : Image) : Type 0 where
  pub answer : r ≡ unless_fault (writes ws i).fault
  pub image : j ≡ (writes ws i).image

-- the sectors ss of i were read one after another to the front of the buffer b, which is then c, up to the first fault
pub record Filled (i : Image) (ss : List ℕ) (b : List ℕ) (r : Result (Unit {0}) Refusal) (c : List ℕ) : Type 0 where
  pub answer : r ≡ unless_fault (reads ss i).fault
  pub buffer : c ≡ over (reads ss i).bytes b
