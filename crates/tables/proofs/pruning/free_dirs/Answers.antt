use Rattle.tables.proofs.Freeing.{dirs_laws}
use Rattle.tables.proofs.pruning.free_dirs.Goals as goal

pub loop-number-init : goal.loop-number-init
loop-number-init c = (c.args.tables.now.directed, dirs_laws c.args.marked.now c.args.tables.now)
