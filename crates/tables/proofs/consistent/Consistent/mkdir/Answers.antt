use Rattle.std.proofs.Common.{not, [], ◌∷◌, Some, sym, ap, ◌∙◌}
use Rattle.model.specs.Refusals.{mkdir, check}
use Rattle.model.specs.Tree.{is_some}
use Rattle.model.specs.Volume.{checks, free_entry, or_zero}
use Rattle.model.specs.declared.types.Refusal.TheVariants.{Entries as entries}
use Rattle.tables.specs.Views.{view, entry_view}
use Rattle.tables.proofs.Files.{entry_found}
use Rattle.tables.specs.Plans.{begun, vacant}
use Rattle.tables.proofs.Changed.{still_sound, mkdir_full, mkdir_goes, mkdir_after}
use Rattle.tables.proofs.Choosing.{err_none, front_stopped, handed_on, ok_some}
use Rattle.tables.proofs.consistent.Consistent.mkdir.Goals as goal

pub returns-in_err-check_start : goal.returns-in_err-check_start
returns-in_err-check_start c =
    λ i.
    let t = view c.args.self.now.tables in
    let d = c.args.start in
    let p = c.args.path.now in
    let e = c.in_err-check_start.field-0.0 in
    handed_on (checks t i (mkdir d p)) _ c.from_residual.result e c.from_residual.ensures.1 (front_stopped (begun t d p) (check (not (is_some (free_entry t.dirs))) entries ∷ vacant t d p) e c.in_err-check_start.ensures)

pub returns-in_err-number : goal.returns-in_err-number
returns-in_err-number c =
    λ i.
    let t = view c.args.self.now.tables in
    let d = c.args.start in
    let p = c.args.path.now in
    let e = c.in_err-number.field-0.0 in
    let none = err_none c.first_free.result entries e c.in_err-number.ensures.value in
    let full = sym (none.0 ∙ entry_found c.args.self.now.tables.dirs c.first_free.result c.first_free.ensures.value) in
    handed_on (checks t i (mkdir d p)) _ c.from_residual-in_err-number.result e c.from_residual-in_err-number.ensures.1 (mkdir_full t i d p c.in_ok-check_start.ensures.0 full ∙ ap Some none.1)

pub returns-in_err-entry : goal.returns-in_err-entry
returns-in_err-entry c =
    λ i.
    let t = view c.args.self.now.tables in
    let d = c.args.start in
    let p = c.args.path.now in
    let e = c.in_err-entry.field-0.0 in
    let free = sym (ok_some c.first_free.result entries c.in_ok-number.number c.in_ok-number.ensures.value ∙ entry_found c.args.self.now.tables.dirs c.first_free.result c.first_free.ensures.value) in
    handed_on (checks t i (mkdir d p)) _ c.from_residual-in_err-entry.result e c.from_residual-in_err-entry.ensures.1 (mkdir_goes t i d p c.in_ok-check_start.ensures.0 c.in_ok-number.number free ∙ c.in_err-entry.ensures)

pub invariant_of-result : goal.invariant_of-result
invariant_of-result c =
    let t = view c.args.self.now.tables in
    let d = c.args.start in
    let p = c.args.path.now in
    let n = c.in_ok-number.number in
    let free = sym (ok_some c.first_free.result entries c.in_ok-number.number c.in_ok-number.ensures.value ∙ entry_found c.args.self.now.tables.dirs c.first_free.result c.first_free.ensures.value) in
    let entry = c.in_ok-entry.ensures in
    record { sound = still_sound c.args.self.now (mkdir d p) c.put_entry.new.self (mkdir_goes t [] d p c.in_ok-check_start.ensures.0 n free ∙ entry.0) (c.put_entry.ensures ∙ mkdir_after t d p n (entry_view c.in_ok-entry.entry) free entry.1) }

pub returns : goal.returns
returns c =
    λ i.
    let t = view c.args.self.now.tables in
    let d = c.args.start in
    let p = c.args.path.now in
    let n = c.in_ok-number.number in
    let free = sym (ok_some c.first_free.result entries c.in_ok-number.number c.in_ok-number.ensures.value ∙ entry_found c.args.self.now.tables.dirs c.first_free.result c.first_free.ensures.value) in
    let entry = c.in_ok-entry.ensures in (
      mkdir_goes t i d p c.in_ok-check_start.ensures.0 n free ∙ entry.0,
      (c.put_entry.ensures ∙ mkdir_after t d p n (entry_view c.in_ok-entry.entry) free entry.1, sym (ap or_zero free)),
    )
