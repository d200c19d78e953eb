use Rattle.std.proofs.Common.{◌≡◌, ◌*◌, length, drop}
use Rattle.model.specs.Tables.{used}
use Rattle.model.specs.Volume.{data_writes}
use Rattle.volume.proofs.Writing.{GoesOn}
use Rattle.volume.proofs.parts.write_contents.Given as goal

abbrev pub invariant-loop-k : goal.invariant-loop-k
invariant-loop-k g l =
    GoesOn (g.S.Store.image l.initial.store) (data_writes (used l.row.places) l.contents.bytes.now) (g.S.Store.image l.store) (data_writes (drop l.k (used l.row.places)) l.rest)
    × (length l.rest ≡ 512 * length (drop l.k (used l.row.places)))
