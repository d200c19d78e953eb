use Rattle.std.proofs.Common.{◌≡◌, ℕ, [], ◌∷◌, Some, Err, Option, sym, refl, ap, ◌∙◌, ap₂}
use Rattle.std.proofs.lemmas.Result.{err_from_is_err_and}
use Rattle.model.specs.Refusals.{move}
use Rattle.model.specs.Tables.{Tables}
use Rattle.model.specs.Volume.{entry_write, tables_after}
use Rattle.model.specs.declared.types.Kind.{Kind}
use Rattle.model.specs.declared.types.Kind.TheVariants.{Directory as directory, File as file}
use Rattle.tables.specs.Views.{view}
use Rattle.volume.specs.Views.{kept_view}
use Rattle.volume.specs.Writing.{part_of, part_write}
use Rattle.volume.specs.declared.parts.Part.{Part}
use Rattle.volume.proofs.Acting.{refused}
use Rattle.volume.proofs.types.Volume.rename.Goals as goal

-- the entry's table is the one of its kind
by_kind : (u : Tables) (k : Kind) (n : ℕ) → part_write u (part_of k) ≡ entry_write (Some (k, n)) u
by_kind u directory n = refl
by_kind u file n = refl

pub returns-in_err-renamed : goal.returns-in_err-renamed
returns-in_err-renamed g c =
    let i = g.S.Store.image c.args.self.now.store in
    let p = err_from_is_err_and c.from_residual-in_err-renamed.result c.from_residual-in_err-renamed.ensures.1 in
    refused i (kept_view c.args.self.now.tables) (view c.in_ok-kept.field-0.now.tables) (ap kept_view c.in_ok-kept.ensures.tables) (move c.args.start c.args.from.now c.args.to.now) tt c.in_err-renamed.field-0.0 c.from_residual-in_err-renamed.result (c.in_err-renamed.ensures i) (p.1 ∙ ap Err p.2)

pub commit-requires-clause-planned : goal.commit-requires-clause-planned
commit-requires-clause-planned g c =
    let t = view c.in_ok-kept.field-0.now.tables in
    let call = move c.args.start c.args.from.now c.args.to.now in
    let plan = c.in_ok-renamed.ensures (g.S.Store.image c.args.self.now.store) in
    let item = plan.1.1 in
    let u = tables_after t call in
    let table = ap₂ (λ (x : Tables) (y : Part). part_write x y ∷ []) plan.1.0 c.from.ensures ∙ ap (λ w. w ∷ []) (by_kind u c.in_ok-renamed.renamed.kind item.0) ∙ ap (λ (o : Option (Kind × ℕ)). entry_write o u ∷ []) (sym item.1) in
    (t, (call, record { stands = ap kept_view c.in_ok-kept.ensures.tables; passed = plan.0; quiet = refl; leads = plan.1.0; makes = table }))

pub returns : goal.returns
returns g c =
    let t = view c.in_ok-kept.field-0.now.tables in
    let call = move c.args.start c.args.from.now c.args.to.now in
    let plan = c.in_ok-renamed.ensures (g.S.Store.image c.args.self.now.store) in
    let item = plan.1.1 in
    let u = tables_after t call in
    let table = ap₂ (λ (x : Tables) (y : Part). part_write x y ∷ []) plan.1.0 c.from.ensures ∙ ap (λ w. w ∷ []) (by_kind u c.in_ok-renamed.renamed.kind item.0) ∙ ap (λ (o : Option (Kind × ℕ)). entry_write o u ∷ []) (sym item.1) in
    c.commit.ensures t call (record { stands = ap kept_view c.in_ok-kept.ensures.tables; passed = plan.0; quiet = refl; leads = plan.1.0; makes = table })
