-- Which data sectors are dead, as an array tells, and what a new volume holds.
use Rattle.std.specs.Prelude.{◌≡◌, ℕ, Bool, true, not, List, Ok, slice_index_or}
use Rattle.model.specs.Image.{Image}
use Rattle.model.specs.Tables.{Tables, data_sector, alive, load}
use Rattle.model.specs.Sound.{Sound}
use Rattle.model.specs.Tree.{bare}
use Rattle.model.specs.Volume.{tree_of}

-- the array tells of each data sector whether it is dead
abbrev pub Tells : List Bool → Image → Type 0
Tells dead i = (s : ℕ) → data_sector s ≡ true → slice_index_or dead s true ≡ not (alive i s)

-- the image holds sound tables, and their tree is the bare root
pub record Bare (i : Image) : Type 0 where
  pub tables : Tables
  pub held : load i ≡ Ok tables
  pub sound : Sound i tables
  pub empty : tree_of tables i ≡ bare
