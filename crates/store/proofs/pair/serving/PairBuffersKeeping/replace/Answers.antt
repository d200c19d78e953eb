use Rattle.std.proofs.Common.{◌/◌, true, false, vec_items}
use Rattle.std.specs.Vec.{with_items}
use Rattle.store.specs.Pairs.{is_even, is_odd, pair_room, pair_put}
use Rattle.store.specs.Stretches.{room_at, copied}
use Rattle.store.proofs.pair.serving.PairBuffersKeeping.replace.Goals as goal

pub copy_in-requires : goal.copy_in-requires
copy_in-requires c =
    let s = c.args.self.now in
    room_at c.deref_mut.result.now (vec_items s.even) c.from-k.result (c.args.sector / 2) c.deref_mut.ensures.value c.from-k.ensures (pair_room (vec_items s.even) (vec_items s.odd) c.args.sector c.requires true)

pub copy_in-requires-else-sector-eq0 : goal.copy_in-requires-else-sector-eq0
copy_in-requires-else-sector-eq0 c =
    let s = c.args.self.now in
    room_at c.deref_mut-else-sector-eq0.result.now (vec_items s.odd) c.from-k.result (c.args.sector / 2) c.deref_mut-else-sector-eq0.ensures.value c.from-k.ensures (pair_room (vec_items s.even) (vec_items s.odd) c.args.sector c.requires false)

pub returns-then-sector-eq0 : goal.returns-then-sector-eq0
returns-then-sector-eq0 c =
    let s = c.args.self.now in
    pair_put (vec_items s.even) (vec_items s.odd) c.args.sector c.requires true (vec_items (with_items s.even c.copy_in.new.target)) c.args.bytes.now (is_even c.args.sector c.if-sector-eq0.true)
    (copied s.even c.deref_mut.result.now c.copy_in.new.target c.args.bytes.now c.from-k.result (c.args.sector / 2) c.deref_mut.ensures.value c.copy_in.auto.target c.from-k.ensures c.copy_in.ensures.here c.copy_in.ensures.elsewhere)

pub returns-else-sector-eq0 : goal.returns-else-sector-eq0
returns-else-sector-eq0 c =
    let s = c.args.self.now in
    pair_put (vec_items s.even) (vec_items s.odd) c.args.sector c.requires false (vec_items (with_items s.odd c.copy_in-else-sector-eq0.new.target)) c.args.bytes.now (is_odd c.args.sector c.if-sector-eq0.false)
    (copied s.odd c.deref_mut-else-sector-eq0.result.now c.copy_in-else-sector-eq0.new.target c.args.bytes.now c.from-k.result (c.args.sector / 2) c.deref_mut-else-sector-eq0.ensures.value c.copy_in-else-sector-eq0.auto.target c.from-k.ensures c.copy_in-else-sector-eq0.ensures.here c.copy_in-else-sector-eq0.ensures.elsewhere)
