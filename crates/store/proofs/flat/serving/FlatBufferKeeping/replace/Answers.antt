use Rattle.std.proofs.Common.{vec_items}
use Rattle.std.specs.Vec.{with_items}
use Rattle.store.specs.Flats.{flat_room, flat_put}
use Rattle.store.specs.Stretches.{room_at, copied}
use Rattle.store.proofs.flat.serving.FlatBufferKeeping.replace.Goals as goal

pub copy_in-requires : goal.copy_in-requires
copy_in-requires c =
    let s = c.args.self.now in
    room_at c.deref_mut.result.now (vec_items s.buffer) c.from.result c.args.sector c.deref_mut.ensures.value c.from.ensures (flat_room (vec_items s.buffer) (vec_items s.dead) c.args.sector c.requires)

pub returns : goal.returns
returns c =
    let s = c.args.self.now in
    flat_put (vec_items s.buffer) (vec_items s.dead) c.args.sector c.requires (vec_items (with_items s.buffer c.copy_in.new.target)) c.args.bytes.now
    (copied s.buffer c.deref_mut.result.now c.copy_in.new.target c.args.bytes.now c.from.result c.args.sector c.deref_mut.ensures.value c.copy_in.auto.target c.from.ensures c.copy_in.ensures.here c.copy_in.ensures.elsewhere)
