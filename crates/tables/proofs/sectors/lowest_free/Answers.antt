use Rattle.tables.proofs.Hunts.{held_none, hunts}
use Rattle.tables.proofs.sectors.lowest_free.Goals as goal

pub loop-place-init : goal.loop-place-init
loop-place-init c = (held_none c.args.tables.now c.args.count c.requires, hunts c.args.tables.now c.args.count)
