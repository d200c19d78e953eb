use Rattle.std.proofs.Common.{◌+◌, ◌-◌, ◌*◌, ◌<◌, length, Err, sym, ap, ◌∙◌, arith}
use Rattle.std.proofs.lemmas.Result.{err_from_is_err_and}
use Rattle.model.specs.Image.{look}
use Rattle.model.specs.Tables.{used}
use Rattle.model.proofs.Tables.Places.{used-at, used-short}
use Rattle.volume.proofs.Readouts.{read_more, read_stops}
use Rattle.volume.proofs.sectors.read_row.Goals as goal

pub bounds-row-k : goal.bounds-row-k
bounds-row-k g c =
    let short = used-short c.args.row.now.places in
    let long = c.args.row.now.sized in
    let e = c.count-k-end.ensures in
    omega arith

pub returns-in_err-sector : goal.returns-in_err-sector
returns-in_err-sector g c =
    let i = g.S.Store.image c.args.store.now in
    let j = g.S.Store.image c.loop-k.store in
    let ss = used c.args.row.now.places in
    let e = c.count-k-end.ensures in
    let l : c.loop-k.k < length ss = omega arith in
    let p = err_from_is_err_and c.from_residual.result c.from_residual.ensures.1 in
    let at = ap (look j) (sym (c.from.ensures ∙ sym (used-at c.args.row.now.places c.loop-k.k l))) in
    record { filled = read_stops i ss c.args.buffer.now c.loop-k.k j c.loop-k.buffer c.requires c.loop-k.invariant l c.in_err-sector.field-0.0 c.from_residual.result (at ∙ sym c.read_sector.ensures.answer ∙ c.in_err-sector.was) (p.1 ∙ ap Err p.2); image = c.read_sector.ensures.image ∙ c.loop-k.invariant.same }

pub loop-k-preserved : goal.loop-k-preserved
loop-k-preserved g c =
    let i = g.S.Store.image c.args.store.now in
    let j = g.S.Store.image c.loop-k.store in
    let ss = used c.args.row.now.places in
    let e = c.count-k-end.ensures in
    let l : c.loop-k.k < length ss = omega arith in
    let at = ap (look j) (sym (c.from.ensures ∙ sym (used-at c.args.row.now.places c.loop-k.k l))) in
    read_more i ss c.args.buffer.now c.loop-k.k j c.loop-k.buffer c.requires c.loop-k.invariant l (g.S.Store.image c.read_sector.new.store) c.in_ok-sector.sector c.copy_from_slice.new.self (512 * c.loop-k.k + 512 - 512 * c.loop-k.k) (at ∙ sym c.read_sector.ensures.answer ∙ c.in_ok-sector.was) c.read_sector.ensures.image c.copy_from_slice.ensures.after (omega arith) c.copy_from_slice.ensures.len
