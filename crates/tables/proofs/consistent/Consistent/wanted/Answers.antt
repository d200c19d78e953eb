use denote.Enum.Bare.{same_false}
use Rattle.model.specs.contracts.types.Kind.{the_type}
use Rattle.std.proofs.Common.{not, [], ◌∷◌, Some, None, sym, ◌∙◌}
use Rattle.model.specs.Refusals.{check}
use Rattle.model.specs.Volume.{named}
use Rattle.model.specs.declared.types.Refusal.TheVariants.{Lost as lost}
use Rattle.tables.specs.Views.{view}
use Rattle.tables.specs.Plans.{begun, there, is_kind}
use Rattle.tables.proofs.Choosing.{front_stopped, handed_on}
use Rattle.tables.proofs.Items.{kind-other, kind_none, there_lost}
use Rattle.tables.proofs.consistent.Consistent.wanted.Goals as goal

pub returns-in_err-check_start : goal.returns-in_err-check_start
returns-in_err-check_start c =
    let t = view c.args.self.now.tables in
    let d = c.args.start in
    let p = c.args.path.now in
    let e = c.in_err-check_start.field-0.0 in
    handed_on (there c.args.kind t d p) _ c.from_residual.result e c.from_residual.ensures.1 (front_stopped (begun t d p) (check (not (is_kind c.args.kind (named t d p))) lost ∷ []) e c.in_err-check_start.ensures)

pub returns-in_default : goal.returns-in_default
returns-in_default c =
    let t = view c.args.self.now.tables in
    there_lost c.args.kind t c.args.start c.args.path.now (Some (c.in-Some.found, c.in-Some.number)) c.in_ok-check_start.ensures.0 c.in-Some.ensures.value (kind-other c.args.kind c.in-Some.found c.in-Some.number (same_false the_type _ _ (sym c.if-eq.ensures)))

pub returns-in_default-2 : goal.returns-in_default-2
returns-in_default-2 c =
    let t = view c.args.self.now.tables in
    there_lost c.args.kind t c.args.start c.args.path.now None c.in_ok-check_start.ensures.0 (sym c.in_default.is ∙ c.item.ensures.value) (kind_none c.args.kind)
