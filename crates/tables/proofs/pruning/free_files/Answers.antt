use Rattle.tables.proofs.Freeing.{files_laws}
use Rattle.tables.proofs.pruning.free_files.Goals as goal

pub loop-number-init : goal.loop-number-init
loop-number-init c = files_laws c.args.marked.now c.args.tables.now
