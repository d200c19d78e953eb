use Rattle.std.proofs.Common.{vec_items}
use Rattle.std.specs.Vec.{with_items}
use Rattle.store.specs.Stores.{short_place}
use Rattle.store.specs.Shorts.{short_room, short_put}
use Rattle.store.specs.Stretches.{room_at, copied}
use Rattle.store.proofs.short.serving.ShortBufferKeeping.replace.Goals as goal

pub copy_in-requires : goal.copy_in-requires
copy_in-requires c =
    let s = c.args.self.now in
    room_at c.deref_mut.result.now (vec_items s.buffer) c.place.result (short_place c.args.sector) c.deref_mut.ensures.value c.place.ensures (short_room (vec_items s.buffer) c.args.sector c.requires)

pub returns : goal.returns
returns c =
    let s = c.args.self.now in
    short_put (vec_items s.buffer) c.args.sector c.requires (vec_items (with_items s.buffer c.copy_in.new.target)) c.args.bytes.now
    (copied s.buffer c.deref_mut.result.now c.copy_in.new.target c.args.bytes.now c.place.result (short_place c.args.sector) c.deref_mut.ensures.value c.copy_in.auto.target c.place.ensures c.copy_in.ensures.here c.copy_in.ensures.elsewhere)
