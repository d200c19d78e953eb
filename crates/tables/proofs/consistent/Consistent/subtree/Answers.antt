use Rattle.std.proofs.Common.{false, replicate, refl}
use Rattle.tables.specs.Views.{view}
use Rattle.tables.proofs.Prunes.{all_clear, all_gone, nothing_touched}
use Rattle.tables.proofs.consistent.Consistent.subtree.Goals as goal

pub mark_subtree-requires-clause-untouched : goal.mark_subtree-requires-clause-untouched
mark_subtree-requires-clause-untouched c = nothing_touched (view c.args.self.now.tables).dirs c.args.top (replicate 32 false) (all_clear 32 refl)

pub returns : goal.returns
returns c = all_gone c.args.self.now c.args.top c.requires (replicate 32 false) c.mark_subtree.new.marked (all_clear 32 refl) c.mark_subtree.ensures
