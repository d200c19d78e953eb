use Rattle.std.proofs.Common.{ℕ, ◌≤◌, List, length, Some, sym, ap, ◌∙◌, subst}
use Rattle.model.specs.Names.{padded}
use Rattle.model.specs.Volume.{item_in}
use Rattle.tables.specs.Views.{view, entry_view}
use Rattle.model.specs.declared.types.Refusal.TheVariants.{Lost as lost}
use Rattle.tables.proofs.Choosing.{ok_some, told_some}
use Rattle.tables.proofs.Items.{vacant_taken, vacant-passed, new_is, last-short}
use Rattle.tables.proofs.consistent.Consistent.new_entry.Goals as goal

pub returns-then-is_some : goal.returns-then-is_some
returns-then-is_some c =
    let t = view c.args.self.now.tables in
    let placed = told_some c.place.result (c.in_ok-dir.dir, c.in_ok-dir.name) _ _ (ok_some c.place.result lost (c.in_ok-dir.dir, c.in_ok-dir.name) c.in_ok-dir.ensures.value) c.place.ensures in
    vacant_taken t c.args.start c.args.path.now c.requires c.in_ok-dir.dir placed.0 c.item_in.result (c.item_in.ensures.value ∙ ap (item_in t (Some c.in_ok-dir.dir)) placed.1) c.if-is_some.ensures

pub returns : goal.returns
returns c =
    let t = view c.args.self.now.tables in
    let p = c.args.path.now in
    let placed = told_some c.place.result (c.in_ok-dir.dir, c.in_ok-dir.name) _ _ (ok_some c.place.result lost (c.in_ok-dir.dir, c.in_ok-dir.name) c.in_ok-dir.ensures.value) c.place.ensures in
    let short : length c.in_ok-dir.name.now ≤ 15 = subst (λ (n : List ℕ). length n ≤ 15) (sym placed.1) (last-short p c.requires) in (
      vacant-passed t c.args.start p c.requires c.in_ok-dir.dir placed.0 c.item_in.result (c.item_in.ensures.value ∙ ap (item_in t (Some c.in_ok-dir.dir)) placed.1) c.if-is_some.ensures,
      new_is t c.args.start p c.in_ok-dir.dir (entry_view c.new.result) placed.0 c.new.ensures.value.0 (c.new.ensures.fits short ∙ ap padded placed.1),
    )
