use Rattle.std.proofs.Common.{◌≡◌, Err, Option, sym, ap, ◌∙◌, subst}
use Rattle.std.proofs.lemmas.Result.{err_from_is_err_and}
use Rattle.std.specs.Option.{option_map}
use Rattle.model.specs.Answers.{least_after, listing}
use Rattle.model.specs.Names.{spelt_or_empty}
use Rattle.model.specs.Refusals.{next}
use Rattle.model.specs.Volume.{checks, named, number_of, starts}
use Rattle.model.specs.declared.types.Kind.TheVariants.{Directory as directory, File as file}
use Rattle.tables.specs.Views.{view}
use Rattle.tables.specs.Plans.{Passes, listed_view}
use Rattle.tables.specs.declared.outcomes.Listed.{Listed}
use Rattle.tables.proofs.Listings.{next_refused, next-found, next-listed}
use Rattle.tables.proofs.consistent.Consistent.next.Goals as goal

pub returns-in_err-dir : goal.returns-in_err-dir
returns-in_err-dir c i =
    let t = view c.args.self.now.tables in
    let d = c.args.start in
    let p = c.args.path.now in
    let a = c.args.after.now in
    let r = c.in_err-dir.field-0.0 in
    let back = err_from_is_err_and c.from_residual.result c.from_residual.ensures.1 in
    subst (λ x. Passes (checks t i (next d p a)) (λ (o : Option Listed). option_map listed_view o ≡ least_after a (listing t (number_of (named t d p)))) x) (sym (back.1 ∙ ap Err back.2))
    (next_refused (spelt_or_empty p) (starts t d) (named t d p) r (c.in_err-dir.ensures i))

pub returns-in-Directory-default : goal.returns-in-Directory-default
returns-in-Directory-default c i =
    let t = view c.args.self.now.tables in
    let d = c.args.start in
    let p = c.args.path.now in
    let x = c.in_ok-dir.field-0 in
    let found = c.in_ok-dir.ensures i in (
      next-found (spelt_or_empty p) (starts t d) (named t d p) x directory found.0 found.1 c.in-Directory-default.is-0,
      next-listed c.args.after.now t (named t d p) x (option_map listed_view c.least_after.result) found.1 c.least_after.ensures,
    )

pub returns-in-File-default : goal.returns-in-File-default
returns-in-File-default c i =
    let t = view c.args.self.now.tables in
    let d = c.args.start in
    let p = c.args.path.now in
    let found = c.in_ok-dir.ensures i in
    next-found (spelt_or_empty p) (starts t d) (named t d p) c.in_ok-dir.field-0 file found.0 found.1 c.in-File-default.is-0
