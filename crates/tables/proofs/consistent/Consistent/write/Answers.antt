use Rattle.std.proofs.Common.{[], Some, ap, ◌∙◌}
use Rattle.model.specs.Refusals.{write}
use Rattle.model.specs.Volume.{checks}
use Rattle.model.specs.declared.types.Refusal.TheVariants.{Entries as entries}
use Rattle.tables.proofs.Shapes.{shaped}
use Rattle.tables.specs.Views.{entry_view, view}
use Rattle.tables.specs.Writing.{Written}
use Rattle.tables.proofs.Changed.{still_sound}
use Rattle.tables.proofs.Files.{Found, accepted, data_refused, entry_found, entry_refused, file_written, name_refused, start_refused, written_is}
use Rattle.tables.proofs.Choosing.{err_none, handed_on, ok_some}
use Rattle.tables.proofs.consistent.Consistent.write.Goals as goal

pub returns-in_err-check_start : goal.returns-in_err-check_start
returns-in_err-check_start c i =
    let t = view c.args.self.now.tables in
    let d = c.args.start in
    let p = c.args.path.now in
    let w = c.args.data.now in
    let e = c.in_err-check_start.field-0.0 in
    handed_on (checks t i (write d p w)) (Written t d p w) c.from_residual.result e c.from_residual.ensures.1 (start_refused t d p w e c.in_err-check_start.ensures i)

pub returns-in_err-row : goal.returns-in_err-row
returns-in_err-row c i =
    let t = view c.args.self.now.tables in
    let d = c.args.start in
    let p = c.args.path.now in
    let w = c.args.data.now in
    let e = c.in_err-row.field-0.0 in
    let began = c.in_ok-check_start.ensures.0 in
    handed_on (checks t i (write d p w)) (Written t d p w) c.from_residual-in_err-row.result e c.from_residual-in_err-row.ensures.1 (data_refused t d p w began e c.in_err-row.ensures i)

pub returns-in_err-number : goal.returns-in_err-number
returns-in_err-number c i =
    let u = c.args.self.now.tables in
    let t = view u in
    let d = c.args.start in
    let p = c.args.path.now in
    let w = c.args.data.now in
    let e = c.in_err-number.field-0.0 in
    let began = c.in_ok-check_start.ensures.0 in
    let fits = c.in_ok-row.ensures.0 in
    let none = err_none c.first_free.result entries e c.in_err-number.ensures.value in
    handed_on (checks t i (write d p w)) (Written t d p w) c.from_residual-in_err-number.result e c.from_residual-in_err-number.ensures.1 (entry_refused t d p w began fits (none.0 ∙ entry_found u.files _ c.first_free.ensures.value) i ∙ ap Some none.1)

pub returns-in_err-entry : goal.returns-in_err-entry
returns-in_err-entry c i =
    let u = c.args.self.now.tables in
    let t = view u in
    let d = c.args.start in
    let p = c.args.path.now in
    let w = c.args.data.now in
    let e = c.in_err-entry.field-0.0 in
    let began = c.in_ok-check_start.ensures.0 in
    let fits = c.in_ok-row.ensures.0 in
    let free = ok_some c.first_free.result entries c.in_ok-number.number c.in_ok-number.ensures.value ∙ entry_found u.files _ c.first_free.ensures.value in
    handed_on (checks t i (write d p w)) (Written t d p w) c.from_residual-in_err-entry.result e c.from_residual-in_err-entry.ensures.1 (name_refused t d p w began fits c.in_ok-number.number free e c.in_err-entry.ensures i)

pub invariant_of-result : goal.invariant_of-result
invariant_of-result c =
    let u = c.args.self.now.tables in
    let t = view u in
    let d = c.args.start in
    let p = c.args.path.now in
    let w = c.args.data.now in
    let k = c.in_ok-number.number in
    let e = entry_view c.in_ok-entry.entry in
    let r = c.in_ok-row.row.places in
    let row = c.in_ok-row.ensures in
    let entry = c.in_ok-entry.ensures in
    let f : Found t d p w k e r = record { began = c.in_ok-check_start.ensures.0; fits = row.0; free = ok_some c.first_free.result entries c.in_ok-number.number c.in_ok-number.ensures.value ∙ entry_found u.files _ c.first_free.ensures.value; vacancy = entry.0; new = entry.1; lowest = row.1 } in
    record { sound = still_sound c.args.self.now (write d p w) c.put_file.new.tables (accepted t d p w k e r f []) (c.put_file.ensures ∙ written_is t d p w k e r f) }

pub returns : goal.returns
returns c i =
    let u = c.args.self.now.tables in
    let t = view u in
    let d = c.args.start in
    let p = c.args.path.now in
    let w = c.args.data.now in
    let k = c.in_ok-number.number in
    let e = entry_view c.in_ok-entry.entry in
    let r = c.in_ok-row.row.places in
    let row = c.in_ok-row.ensures in
    let entry = c.in_ok-entry.ensures in
    let f : Found t d p w k e r = record { began = c.in_ok-check_start.ensures.0; fits = row.0; free = ok_some c.first_free.result entries c.in_ok-number.number c.in_ok-number.ensures.value ∙ entry_found u.files _ c.first_free.ensures.value; vacancy = entry.0; new = entry.1; lowest = row.1 } in
    (accepted t d p w k e r f i, file_written t d p w k e r f (shaped u) _ c.put_file.ensures)
