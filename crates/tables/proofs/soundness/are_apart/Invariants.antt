use Rattle.std.proofs.Common.{◌≡◌, length}
use Rattle.model.specs.Tables.{unshared}
use Rattle.tables.specs.Views.{entries_view}
use Rattle.tables.proofs.soundness.are_apart.Given as goal

abbrev pub invariant-loop-left : goal.invariant-loop-left
invariant-loop-left l = unshared (entries_view l.left) ≡ unshared (entries_view l.entries)

abbrev pub decreases-loop-left : goal.decreases-loop-left
decreases-loop-left l = length l.left
