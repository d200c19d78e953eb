use Rattle.std.proofs.Common.{◌≡◌, ◌≤◌, length}
use Rattle.model.specs.Book.{last}
use Rattle.model.specs.Names.{cut, names}
use Rattle.model.specs.Volume.{holder}
use Rattle.tables.specs.Views.{view}
use Rattle.tables.proofs.Descents.{Descents, Walks}
use Rattle.tables.proofs.types.Tables.place.Given as goal

abbrev pub invariant-loop-at : goal.invariant-loop-at
invariant-loop-at l =
    Walks (view l.self) (holder (view l.self) l.start (names l.path)) l.dir l.rest
    × (last (names l.path) ≡ last (cut l.rest))
    × (length l.rest ≤ length l.path)
    × Descents (view l.self) (holder (view l.self) l.start (names l.path)) (last (names l.path))

abbrev pub decreases-loop-at : goal.decreases-loop-at
decreases-loop-at l = length l.rest
