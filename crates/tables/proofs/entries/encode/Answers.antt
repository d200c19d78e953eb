use Rattle.std.proofs.Common.{refl}
use Rattle.tables.proofs.Bytes.{entry-writes}
use Rattle.tables.proofs.entries.encode.Goals as goal

pub loop-i-init : goal.loop-i-init
loop-i-init c = (refl, refl, entry-writes c.args.all.now)
