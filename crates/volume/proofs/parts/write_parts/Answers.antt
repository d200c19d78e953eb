use Rattle.std.proofs.Common.{map, Err, sym, ap, ◌∙◌}
use Rattle.std.proofs.lemmas.Result.{err_from_is_err_and}
use Rattle.tables.specs.Views.{view}
use Rattle.volume.specs.Writing.{part_write}
use Rattle.volume.proofs.Writing.{broken, here, more}
use Rattle.volume.proofs.parts.write_parts.Goals as goal

pub returns-in_err-write : goal.returns-in_err-write
returns-in_err-write g c =
    let i = g.S.Store.image c.args.store.now in
    let t = view c.args.tables.now in
    let ps = c.args.parts.now in
    let p = err_from_is_err_and c.from_residual.result c.from_residual.ensures.1 in
    broken i (map (part_write t) ps) (g.S.Store.image c.loop-part.store) (g.S.Store.image c.write.new.store) _ _ c.in_err-write.field-0.0 c.from_residual.result (here (part_write t) i (map (part_write t) ps) ps c.loop-part.part-index _ (g.S.Store.image c.loop-part.store) c.loop-part-test.true c.loop-part.invariant) (sym c.write.ensures.answer ∙ c.in_err-write.was) c.write.ensures.image (p.1 ∙ ap Err p.2)

pub loop-part-preserved : goal.loop-part-preserved
loop-part-preserved g c =
    let i = g.S.Store.image c.args.store.now in
    let t = view c.args.tables.now in
    let ps = c.args.parts.now in
    more (part_write t) i (map (part_write t) ps) ps c.loop-part.part-index _ (g.S.Store.image c.loop-part.store) (g.S.Store.image c.write.new.store) c.loop-part-test.true c.loop-part.invariant (sym c.write.ensures.answer ∙ c.in_ok-write.was) c.write.ensures.image
