use Rattle.tables.specs.Rules.{unused_mark}
use Rattle.volume.proofs.Blanks.{whole-map}
use Rattle.volume.proofs.format.blank_map.Goals as goal

pub returns : goal.returns
returns c = whole-map (unused_mark c.args.dead.now) c.loop-sector.byte-items c.loop-sector.sector c.loop-sector.invariant.0 c.loop-sector-test.false c.loop-sector.invariant.1
