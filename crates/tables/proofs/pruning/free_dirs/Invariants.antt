use Rattle.std.proofs.Common.{◌≡◌, length}
use Rattle.tables.specs.Views.{entries_view}
use Rattle.tables.proofs.Freeing.{dirs-done, Dirs}
use Rattle.tables.proofs.pruning.free_dirs.Given as goal

abbrev pub invariant-loop-number : goal.invariant-loop-number
invariant-loop-number l = (length l.dir-items ≡ 32) × ((entries_view l.dir-items ≡ dirs-done l.marked (entries_view l.fn.tables.dirs) l.number) × Dirs l.marked l.fn.tables)
