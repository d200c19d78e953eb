use Rattle.std.proofs.Common.{vec_items}
use Rattle.store.specs.Bottoms.{short_of}
use Rattle.store.specs.Stores.{short_place}
use Rattle.store.specs.Shorts.{short_room, short_seen}
use Rattle.store.specs.Stretches.{room_at, filled_from}
use Rattle.store.proofs.short.serving.ShortBufferKeeping.fill.Goals as goal

pub copy_out-requires : goal.copy_out-requires
copy_out-requires c =
    let s = c.args.self.now in
    room_at c.deref.result.now (vec_items s.buffer) c.place.result (short_place c.args.sector) c.deref.ensures.value c.place.ensures (short_room (vec_items s.buffer) c.args.sector c.requires)

pub returns : goal.returns
returns c =
    let s = c.args.self.now in
    filled_from (short_of s) c.args.sector (short_place c.args.sector) c.place.result c.args.buffer.now (vec_items s.buffer) c.deref.result.now c.copy_out.new.buffer
    (short_seen (vec_items s.buffer) c.args.sector c.requires) c.deref.ensures.value c.place.ensures c.copy_out.ensures
