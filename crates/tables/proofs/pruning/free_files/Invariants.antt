use Rattle.std.proofs.Common.{◌≡◌}
use Rattle.tables.specs.Views.{view}
use Rattle.tables.proofs.Freeing.{files-done, Files}
use Rattle.tables.proofs.pruning.free_files.Given as goal

abbrev pub invariant-loop-number : goal.invariant-loop-number
invariant-loop-number l = (view l.tables ≡ files-done l.marked (view l.initial.tables) l.number) × Files l.marked (view l.initial.tables)
