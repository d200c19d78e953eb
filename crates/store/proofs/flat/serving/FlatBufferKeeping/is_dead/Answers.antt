use Rattle.std.proofs.Common.{vec_items, sym, ap, ◌∙◌}
use Rattle.store.specs.Stores.{member}
use Rattle.store.specs.Flats.{contains_member, flat_access}
use Rattle.store.proofs.flat.serving.FlatBufferKeeping.is_dead.Goals as goal

pub returns : goal.returns
returns c =
    let s = c.args.self.now in
    flat_access (vec_items s.buffer) (vec_items s.dead) c.args.sector c.contains.result
    (ap (member c.args.sector) (sym c.deref.ensures.value) ∙ sym (contains_member c.args.sector c.deref.result.now c.contains.result c.contains.ensures.cases))
