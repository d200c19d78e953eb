use Rattle.std.proofs.Common.{vec_items}
use Rattle.store.specs.Bottoms.{flat_of}
use Rattle.store.specs.Flats.{flat_room, flat_seen}
use Rattle.store.specs.Stretches.{room_at, filled_from}
use Rattle.store.proofs.flat.serving.FlatBufferKeeping.fill.Goals as goal

pub copy_out-requires : goal.copy_out-requires
copy_out-requires c =
    let s = c.args.self.now in
    room_at c.deref.result.now (vec_items s.buffer) c.from.result c.args.sector c.deref.ensures.value c.from.ensures (flat_room (vec_items s.buffer) (vec_items s.dead) c.args.sector c.requires)

pub returns : goal.returns
returns c =
    let s = c.args.self.now in
    filled_from (flat_of s) c.args.sector c.args.sector c.from.result c.args.buffer.now (vec_items s.buffer) c.deref.result.now c.copy_out.new.buffer
    (flat_seen (vec_items s.buffer) (vec_items s.dead) c.args.sector c.requires) c.deref.ensures.value c.from.ensures c.copy_out.ensures
