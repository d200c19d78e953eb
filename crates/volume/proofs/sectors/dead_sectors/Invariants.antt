use Rattle.std.proofs.Common.{◌≡◌, length}
use Rattle.volume.proofs.Probes.{Told}
use Rattle.volume.proofs.sectors.dead_sectors.Given as goal

abbrev pub invariant-loop-s : goal.invariant-loop-s
invariant-loop-s g l =
    (g.S.Store.image l.store ≡ g.S.Store.image l.initial.store)
    × (length l.dead ≡ 256)
    × Told l.dead (g.S.Store.image l.initial.store) l.s
