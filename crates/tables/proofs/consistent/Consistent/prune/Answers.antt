use Rattle.std.proofs.Common.{◌∙◌}
use Rattle.model.specs.Refusals.{prune}
use Rattle.model.specs.declared.types.Kind.TheVariants.{Directory as directory}
use Rattle.tables.specs.Views.{view}
use Rattle.tables.specs.Plans.{there}
use Rattle.tables.proofs.Changed.{still_sound}
use Rattle.tables.proofs.Choosing.{handed_on}
use Rattle.tables.proofs.Prunes.{top_lives, prune_after}
use Rattle.tables.proofs.consistent.Consistent.prune.Goals as goal

pub returns-in_err-top : goal.returns-in_err-top
returns-in_err-top c = λ i. handed_on (there directory (view c.args.self.now.tables) c.args.start c.args.path.now) _ c.from_residual.result c.in_err-top.field-0.0 c.from_residual.ensures.1 c.in_err-top.ensures

pub pruned-tables-requires : goal.pruned-tables-requires
pruned-tables-requires c =
    let k = c.args.self.now in
    let there_is = c.in_ok-top.ensures in
    top_lives k c.args.start c.args.path.now c.in_ok-top.top there_is.0 there_is.1.0

pub invariant_of-result : goal.invariant_of-result
invariant_of-result c =
    let k = c.args.self.now in
    let there_is = c.in_ok-top.ensures in
    let d = c.args.start in
    let p = c.args.path.now in
    record { sound = still_sound k (prune d p) c.pruned-tables.result there_is.0 (c.pruned-tables.ensures ∙ prune_after (view k.tables) d p c.in_ok-top.top there_is.1.0) }

pub returns : goal.returns
returns c =
    λ i.
    let there_is = c.in_ok-top.ensures in
    (there_is.0, c.pruned-tables.ensures ∙ prune_after (view c.args.self.now.tables) c.args.start c.args.path.now c.in_ok-top.top there_is.1.0)
