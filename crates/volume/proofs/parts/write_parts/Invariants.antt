use Rattle.std.proofs.Common.{map, drop}
use Rattle.tables.specs.Views.{view}
use Rattle.volume.specs.Writing.{part_write}
use Rattle.volume.proofs.Writing.{GoesOn}
use Rattle.volume.proofs.parts.write_parts.Given as goal

abbrev pub invariant-loop-part : goal.invariant-loop-part
invariant-loop-part g l = GoesOn (g.S.Store.image l.initial.store) (map (part_write (view l.tables)) l.parts) (g.S.Store.image l.store) (map (part_write (view l.tables)) (drop l.part-index l.parts))
