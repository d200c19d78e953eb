use Rattle.model.specs.Tables.{used}
use Rattle.volume.proofs.Readouts.{ReadsOn}
use Rattle.volume.proofs.sectors.read_row.Given as goal

abbrev pub invariant-loop-k : goal.invariant-loop-k
invariant-loop-k g l = ReadsOn (g.S.Store.image l.initial.store) (used l.row.places) l.initial.buffer l.k (g.S.Store.image l.store) l.buffer
