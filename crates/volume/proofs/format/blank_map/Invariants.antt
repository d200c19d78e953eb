use Rattle.std.proofs.Common.{◌≡◌, length}
use Rattle.tables.specs.Rules.{unused_mark}
use Rattle.volume.proofs.Blanks.{Below}
use Rattle.volume.proofs.format.blank_map.Given as goal

abbrev pub invariant-loop-sector : goal.invariant-loop-sector
invariant-loop-sector l = (length l.byte-items ≡ 512) × Below l.byte-items (unused_mark l.dead) l.sector
