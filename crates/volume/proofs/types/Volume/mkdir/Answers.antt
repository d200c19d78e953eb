use Rattle.std.proofs.Common.{ℕ, [], ◌∷◌, Err, Option, sym, refl, ap, ◌∙◌, subst}
use Rattle.std.proofs.lemmas.Result.{err_from_is_err_and}
use Rattle.model.specs.Answers.{answer, of_tables, turned_away}
use Rattle.model.specs.Refusals.{mkdir}
use Rattle.model.specs.Tables.{Tables}
use Rattle.model.specs.Volume.{dirs_write, free_entry, or_zero}
use Rattle.tables.specs.Views.{view}
use Rattle.volume.specs.Acts.{Acts}
use Rattle.volume.specs.Views.{kept_view, volume_view}
use Rattle.volume.proofs.Acting.{refused}
use Rattle.volume.proofs.Admitting.{on}
use Rattle.volume.proofs.types.Volume.mkdir.Goals as goal

abbrev lowest : Tables → ℕ
lowest t = or_zero (free_entry t.dirs)

pub returns-in_err-made : goal.returns-in_err-made
returns-in_err-made g c =
    let i = g.S.Store.image c.args.self.now.store in
    let o = kept_view c.args.self.now.tables in
    let p = err_from_is_err_and c.from_residual-in_err-made.result c.from_residual-in_err-made.ensures.1 in
    refused i o (view c.in_ok-kept.field-0.now.tables) (ap kept_view c.in_ok-kept.ensures.tables) (mkdir c.args.start c.args.path.now) (of_tables (on o i) 0 lowest) c.in_err-made.field-0.0 c.from_residual-in_err-made.result (c.in_err-made.ensures i) (p.1 ∙ ap Err p.2)

pub commit-requires-clause-planned : goal.commit-requires-clause-planned
commit-requires-clause-planned g c =
    let plan = c.in_ok-made.ensures (g.S.Store.image c.args.self.now.store) in
    (view c.in_ok-kept.field-0.now.tables, (mkdir c.args.start c.args.path.now, record { stands = ap kept_view c.in_ok-kept.ensures.tables; passed = plan.0; quiet = refl; leads = plan.1.0; makes = ap (λ (u : Tables). dirs_write u ∷ []) plan.1.0 }))

pub returns : goal.returns
returns g c =
    let i = g.S.Store.image c.args.self.now.store in
    let o = kept_view c.args.self.now.tables in
    let is = ap kept_view c.in_ok-kept.ensures.tables in
    let call = mkdir c.args.start c.args.path.now in
    let plan = c.in_ok-made.ensures i in
    let number = plan.1.1 ∙ sym (ap (λ (y : Option Tables). of_tables (on y i) 0 lowest) is) in
    subst (λ (n : ℕ). Acts (on o i) call (answer (turned_away (on o i) call) n) c.commit.result (volume_view c.commit.new.self)) number
    (c.commit.ensures (view c.in_ok-kept.field-0.now.tables) call (record { stands = is; passed = plan.0; quiet = refl; leads = plan.1.0; makes = ap (λ (u : Tables). dirs_write u ∷ []) plan.1.0 }))
