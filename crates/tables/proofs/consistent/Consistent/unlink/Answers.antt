use Rattle.std.proofs.Common.{◌∙◌}
use Rattle.model.specs.Refusals.{unlink}
use Rattle.model.specs.declared.types.Kind.TheVariants.{File as file}
use Rattle.tables.specs.Views.{view}
use Rattle.tables.specs.Plans.{there}
use Rattle.tables.proofs.Changed.{still_sound, unlink_after}
use Rattle.tables.proofs.Choosing.{handed_on}
use Rattle.tables.proofs.consistent.Consistent.unlink.Goals as goal

pub returns-in_err-number : goal.returns-in_err-number
returns-in_err-number c = λ i. handed_on (there file (view c.args.self.now.tables) c.args.start c.args.path.now) _ c.from_residual.result c.in_err-number.field-0.0 c.from_residual.ensures.1 c.in_err-number.ensures

pub invariant_of-result : goal.invariant_of-result
invariant_of-result c =
    let there_is = c.in_ok-number.ensures in
    let d = c.args.start in
    let p = c.args.path.now in
    record { sound = still_sound c.args.self.now (unlink d p) c.remove_file.new.self there_is.0 (c.remove_file.ensures ∙ unlink_after (view c.args.self.now.tables) d p c.in_ok-number.number there_is.1.0) }

pub returns : goal.returns
returns c =
    λ i.
    let there_is = c.in_ok-number.ensures in
    (there_is.0, c.remove_file.ensures ∙ unlink_after (view c.args.self.now.tables) c.args.start c.args.path.now c.in_ok-number.number there_is.1.0)
