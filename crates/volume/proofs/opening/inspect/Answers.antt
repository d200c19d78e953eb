use Rattle.std.proofs.Common.{Ok, Err, ap, ◌∙◌}
use Rattle.std.proofs.lemmas.Result.{err_from_is_err_and}
use Rattle.volume.proofs.Admitting.{accepted, turned, exactly_inspected}
use Rattle.volume.proofs.opening.inspect.Goals as goal

pub returns-in_err-admitted : goal.returns-in_err-admitted
returns-in_err-admitted g c =
    let i = g.S.Store.image c.args.store.now in
    let p = err_from_is_err_and c.from_residual.result c.from_residual.ensures.1 in
    let e = turned i c.in_err-admitted.field-0.0 c.from_residual.result (p.1 ∙ ap Err p.2) c.in_err-admitted.ensures.answer in
    record { answer = e; exactly = exactly_inspected i (g.met.S.Store.wholeness c.args.store.now) c.from_residual.result e; image = c.admitted.ensures.image }

pub returns : goal.returns
returns g c =
    let i = g.S.Store.image c.args.store.now in
    let e = accepted i c.in_ok-admitted.ensures.answer.0 in
    record { answer = e; exactly = exactly_inspected i (g.met.S.Store.wholeness c.args.store.now) (Ok tt) e; image = c.admitted.ensures.image }
