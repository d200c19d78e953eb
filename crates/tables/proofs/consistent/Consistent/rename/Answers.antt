use Rattle.std.proofs.Common.{ℕ, [], Some, sym, ap, ◌∙◌}
use Rattle.model.specs.Refusals.{move}
use Rattle.model.specs.Volume.{checks}
use Rattle.model.specs.declared.types.Kind.{Kind}
use Rattle.model.specs.declared.types.Refusal.TheVariants.{Lost as lost}
use Rattle.tables.specs.Views.{view, entry_view}
use Rattle.tables.proofs.Changed.{still_sound, move_refused, move_lost, move_placeless, move-inside, move-passed, move-after}
use Rattle.tables.proofs.Choosing.{err_none, handed_on, ok_some}
use Rattle.tables.proofs.consistent.Consistent.rename.Goals as goal

pub returns-in_err-check_start : goal.returns-in_err-check_start
returns-in_err-check_start c =
    λ i.
    let t = view c.args.self.now.tables in
    let d = c.args.start in
    let p = c.args.from.now in
    let q = c.args.to.now in
    let e = c.in_err-check_start.field-0.0 in
    handed_on (checks t i (move d p q)) _ c.from_residual.result e c.from_residual.ensures.1 (move_refused t i d p q (sym c.if-not-is_spelt.ensures) e c.in_err-check_start.ensures)

pub returns-in_err-kind : goal.returns-in_err-kind
returns-in_err-kind c =
    λ i.
    let t = view c.args.self.now.tables in
    let d = c.args.start in
    let p = c.args.from.now in
    let q = c.args.to.now in
    let e = c.in_err-kind.field-0.0 in
    let none = err_none c.item.result lost e c.in_err-kind.ensures.value in
    handed_on (checks t i (move d p q)) _ c.from_residual-in_err-kind.result e c.from_residual-in_err-kind.ensures.1 (move_lost t i d p q (sym c.if-not-is_spelt.ensures) c.in_ok-check_start.ensures.0 (sym (none.0 ∙ c.item.ensures.value)) ∙ ap Some none.1)

pub returns-in_err-entry : goal.returns-in_err-entry
returns-in_err-entry c =
    λ i.
    let t = view c.args.self.now.tables in
    let d = c.args.start in
    let p = c.args.from.now in
    let q = c.args.to.now in
    let e = c.in_err-entry.field-0.0 in
    handed_on (checks t i (move d p q)) _ c.from_residual-in_err-entry.result e c.from_residual-in_err-entry.ensures.1 (move_placeless t i d p q (sym c.if-not-is_spelt.ensures) c.in_ok-check_start.ensures.0 (c.in_ok-kind.kind, c.in_ok-kind.number) (sym (ok_some c.item.result lost (c.in_ok-kind.kind, c.in_ok-kind.number) c.in_ok-kind.ensures.value ∙ c.item.ensures.value)) e c.in_err-entry.ensures)

pub returns-then-goes_inside : goal.returns-then-goes_inside
returns-then-goes_inside c =
    λ i.
    let t = view c.args.self.now.tables in
    let p = c.args.from.now in
    let q = c.args.to.now in
    move-inside t i c.args.start p q (sym c.if-not-is_spelt.ensures) c.in_ok-check_start.ensures.0 (c.in_ok-kind.kind, c.in_ok-kind.number) (sym (ok_some c.item.result lost (c.in_ok-kind.kind, c.in_ok-kind.number) c.in_ok-kind.ensures.value ∙ c.item.ensures.value)) c.in_ok-entry.ensures.0 (sym c.if-goes_inside.ensures)

pub invariant_of-result : goal.invariant_of-result
invariant_of-result c =
    let t = view c.args.self.now.tables in
    let d = c.args.start in
    let p = c.args.from.now in
    let q = c.args.to.now in
    let x : Kind × ℕ = (c.in_ok-kind.kind, c.in_ok-kind.number) in
    let item = sym (ok_some c.item.result lost x c.in_ok-kind.ensures.value ∙ c.item.ensures.value) in
    let entry = c.in_ok-entry.ensures in
    record { sound = still_sound c.args.self.now (move d p q) c.put_entry.new.self (move-passed t [] d p q (sym c.if-not-is_spelt.ensures) c.in_ok-check_start.ensures.0 x item entry.0 (sym c.if-goes_inside.ensures)) (c.put_entry.ensures ∙ move-after t d p q x (entry_view c.in_ok-entry.entry) item entry.1) }

pub returns : goal.returns
returns c =
    λ i.
    let t = view c.args.self.now.tables in
    let d = c.args.start in
    let p = c.args.from.now in
    let q = c.args.to.now in
    let x : Kind × ℕ = (c.in_ok-kind.kind, c.in_ok-kind.number) in
    let item = sym (ok_some c.item.result lost x c.in_ok-kind.ensures.value ∙ c.item.ensures.value) in
    let entry = c.in_ok-entry.ensures in (
      move-passed t i d p q (sym c.if-not-is_spelt.ensures) c.in_ok-check_start.ensures.0 x item entry.0 (sym c.if-goes_inside.ensures),
      (c.put_entry.ensures ∙ move-after t d p q x (entry_view c.in_ok-entry.entry) item entry.1, (c.in_ok-kind.number, item)),
    )
