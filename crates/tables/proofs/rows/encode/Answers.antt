use Rattle.std.proofs.Common.{refl}
use Rattle.tables.proofs.Bytes.{row-writes}
use Rattle.tables.proofs.rows.encode.Goals as goal

pub loop-i-init : goal.loop-i-init
loop-i-init c = (refl, refl, row-writes c.args.all.now)
