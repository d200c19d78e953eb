use Rattle.std.proofs.Common.{◌<◌, length, Err, sym, ap, ◌∙◌, arith}
use Rattle.std.proofs.lemmas.Result.{err_from_is_err_and}
use Rattle.model.specs.Tables.{used}
use Rattle.model.specs.Volume.{data_writes}
use Rattle.model.proofs.Tables.Places.{used-at, used-short}
use Rattle.volume.proofs.Writing.{data_more, data_left, data_broken}
use Rattle.volume.proofs.parts.write_contents.Goals as goal

pub bounds-row-k : goal.bounds-row-k
bounds-row-k g c =
    let short = used-short c.args.contents.now.row.places in
    let long = c.args.contents.now.row.sized in
    let e = c.count-k-end.ensures in
    omega arith

pub returns-in_err-write : goal.returns-in_err-write
returns-in_err-write g c =
    let ss = used c.args.contents.now.row.places in
    let e = c.count-k-end.ensures in
    let l : c.loop-k.k < length ss = omega arith in
    let p = err_from_is_err_and c.from_residual.result c.from_residual.ensures.1 in
    data_broken (g.S.Store.image c.args.store.now) (data_writes ss c.args.contents.now.bytes.now) ss c.loop-k.k c.loop-k.rest.now (g.S.Store.image c.loop-k.store) (g.S.Store.image c.write.new.self) c.from.result c.in-Some.sector.now c.in_err-write.field-0.0 c.from_residual.result l c.loop-k.invariant.0
    (c.from.ensures ∙ sym (used-at c.args.contents.now.row.places c.loop-k.k l)) c.in-Some.ensures.cases.0 (sym c.write.ensures.answer ∙ c.in_err-write.was) c.write.ensures.image (p.1 ∙ ap Err p.2)

pub loop-k-preserved : goal.loop-k-preserved
loop-k-preserved g c =
    let ss = used c.args.contents.now.row.places in
    let e = c.count-k-end.ensures in
    let l : c.loop-k.k < length ss = omega arith in (
      data_more (g.S.Store.image c.args.store.now) (data_writes ss c.args.contents.now.bytes.now) ss c.loop-k.k c.loop-k.rest.now (g.S.Store.image c.loop-k.store) (g.S.Store.image c.write.new.self) c.from.result c.in-Some.sector.now c.in-Some.more.now l c.loop-k.invariant.0
          (c.from.ensures ∙ sym (used-at c.args.contents.now.row.places c.loop-k.k l)) c.in-Some.ensures.cases.0 c.in-Some.ensures.cases.1 (sym c.write.ensures.answer ∙ c.in_ok-write.was) c.write.ensures.image,
      data_left ss c.loop-k.k c.loop-k.rest.now c.in-Some.more.now l c.loop-k.invariant.1 c.in-Some.ensures.cases.1,
    )
