use Rattle.tables.proofs.Hunts.{Held, Hunts}
use Rattle.tables.proofs.sectors.lowest_free.Given as goal

abbrev pub invariant-loop-place : goal.invariant-loop-place
invariant-loop-place l = Held l.tables l.count l.place-items l.place-index l.from × Hunts l.tables l.count
