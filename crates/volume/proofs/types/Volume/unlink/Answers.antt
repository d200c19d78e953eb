use Rattle.std.proofs.Common.{[], ◌∷◌, Err, refl, ap, ◌∙◌}
use Rattle.std.proofs.lemmas.Result.{err_from_is_err_and}
use Rattle.model.specs.Refusals.{unlink}
use Rattle.model.specs.Tables.{Tables}
use Rattle.model.specs.Volume.{files_write, map_write}
use Rattle.tables.specs.Views.{view}
use Rattle.volume.specs.Views.{kept_view}
use Rattle.volume.proofs.Acting.{refused}
use Rattle.volume.proofs.types.Volume.unlink.Goals as goal

pub returns-in_err-next : goal.returns-in_err-next
returns-in_err-next g c =
    let i = g.S.Store.image c.args.self.now.store in
    let p = err_from_is_err_and c.from_residual-in_err-next.result c.from_residual-in_err-next.ensures.1 in
    refused i (kept_view c.args.self.now.tables) (view c.in_ok-kept.field-0.now.tables) (ap kept_view c.in_ok-kept.ensures.tables) (unlink c.args.start c.args.path.now) tt c.in_err-next.field-0.0 c.from_residual-in_err-next.result (c.in_err-next.ensures i) (p.1 ∙ ap Err p.2)

pub commit-requires-clause-planned : goal.commit-requires-clause-planned
commit-requires-clause-planned g c =
    let plan = c.in_ok-next.ensures (g.S.Store.image c.args.self.now.store) in
    (view c.in_ok-kept.field-0.now.tables, (unlink c.args.start c.args.path.now, record { stands = ap kept_view c.in_ok-kept.ensures.tables; passed = plan.0; quiet = refl; leads = plan.1; makes = ap (λ (u : Tables). files_write u ∷ map_write u ∷ []) plan.1 }))

pub returns : goal.returns
returns g c =
    let plan = c.in_ok-next.ensures (g.S.Store.image c.args.self.now.store) in
    c.commit.ensures (view c.in_ok-kept.field-0.now.tables) (unlink c.args.start c.args.path.now) (record { stands = ap kept_view c.in_ok-kept.ensures.tables; passed = plan.0; quiet = refl; leads = plan.1; makes = ap (λ (u : Tables). files_write u ∷ map_write u ∷ []) plan.1 })
