use Rattle.std.proofs.Common.{◌/◌, true, false, vec_items}
use Rattle.store.specs.Bottoms.{pair_of}
use Rattle.store.specs.Pairs.{is_even, is_odd, pair_room, pair_seen}
use Rattle.store.specs.Stretches.{room_at, filled_from}
use Rattle.store.proofs.pair.serving.PairBuffersKeeping.fill.Goals as goal

pub copy_out-requires : goal.copy_out-requires
copy_out-requires c =
    let s = c.args.self.now in
    room_at c.deref.result.now (vec_items s.even) c.from-k.result (c.args.sector / 2) c.deref.ensures.value c.from-k.ensures (pair_room (vec_items s.even) (vec_items s.odd) c.args.sector c.requires true)

pub copy_out-requires-else-sector-eq0 : goal.copy_out-requires-else-sector-eq0
copy_out-requires-else-sector-eq0 c =
    let s = c.args.self.now in
    room_at c.deref-else-sector-eq0.result.now (vec_items s.odd) c.from-k.result (c.args.sector / 2) c.deref-else-sector-eq0.ensures.value c.from-k.ensures (pair_room (vec_items s.even) (vec_items s.odd) c.args.sector c.requires false)

pub returns-then-sector-eq0 : goal.returns-then-sector-eq0
returns-then-sector-eq0 c =
    let s = c.args.self.now in
    filled_from (pair_of s) c.args.sector (c.args.sector / 2) c.from-k.result c.args.buffer.now (vec_items s.even) c.deref.result.now c.copy_out.new.buffer
    (pair_seen (vec_items s.even) (vec_items s.odd) c.args.sector c.requires true (is_even c.args.sector c.if-sector-eq0.true)) c.deref.ensures.value c.from-k.ensures c.copy_out.ensures

pub returns-else-sector-eq0 : goal.returns-else-sector-eq0
returns-else-sector-eq0 c =
    let s = c.args.self.now in
    filled_from (pair_of s) c.args.sector (c.args.sector / 2) c.from-k.result c.args.buffer.now (vec_items s.odd) c.deref-else-sector-eq0.result.now c.copy_out-else-sector-eq0.new.buffer
    (pair_seen (vec_items s.even) (vec_items s.odd) c.args.sector c.requires false (is_odd c.args.sector c.if-sector-eq0.false)) c.deref-else-sector-eq0.ensures.value c.from-k.ensures c.copy_out-else-sector-eq0.ensures
