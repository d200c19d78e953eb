use Rattle.std.proofs.Common.{◌≡◌}
use Rattle.tables.specs.Views.{entries_view}
use Rattle.tables.proofs.Marking.{unmarked, so_far, Walk}
use Rattle.tables.proofs.consistent.Consistent.+mark_subtree.Given as goal

abbrev pub decreases-mark_subtree : goal.decreases-mark_subtree
decreases-mark_subtree l = unmarked l.marked.now

abbrev pub invariant-loop-child : goal.invariant-loop-child
invariant-loop-child l = (l.marked ≡ so_far (entries_view l.self.tables.dirs) l.dir l.initial.marked l.child) × Walk l.self.tables l.dir l.initial.marked
