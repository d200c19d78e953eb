use Rattle.std.proofs.Common.{◌≡◌, ℕ, ◌*◌, List, [], ◌∷◌, ◌++◌, length, get_or, Some, None, Err, Option, sym, refl, ap, ◌∙◌, subst, ap₂, arith}
use Rattle.std.proofs.lemmas.List.{get_or-map}
use Rattle.std.proofs.lemmas.Result.{err_from_is_err_and}
use Rattle.model.specs.Answers.{answer, of_tables, turned_away}
use Rattle.model.specs.Image.{Write}
use Rattle.model.specs.Refusals.{write, picked}
use Rattle.model.specs.Tables.{Tables as Model, used, row}
use Rattle.model.specs.Volume.{data_writes, files_write, map_write, rows_write, free_entry, given, or_zero, checks, Volume}
use Rattle.tables.specs.Writing.{Written}
use Rattle.tables.specs.declared.outcomes.Placed.{Placed}
use Rattle.tables.specs.Views.{view}
use Rattle.tables.specs.declared.types.Row.{Row}
use Rattle.tables.specs.declared.types.Tables.{Tables}
use Rattle.volume.specs.Views.{kept_view, volume_view}
use Rattle.volume.specs.Acts.{Acts, Planned}
use Rattle.volume.proofs.Acting.{refused}
use Rattle.volume.proofs.Admitting.{on}
use Rattle.volume.proofs.types.Volume.write.Goals as goal

abbrev lowest : Model → ℕ
lowest t = or_zero (free_entry t.files)

abbrev table_writes : Model → List Write
table_writes u = rows_write u ∷ map_write u ∷ files_write u ∷ []

-- the row that the code reads has the sectors given
places : (t : Model) (d : ℕ) (p w : List ℕ) (m : Placed) (u : Tables) (r : Row) → Written t d p w m → u ≡ m.after.tables → used (get_or u.rows m.number r).places ≡ given t w
places t d p w m u r h e = ap used (sym (get_or-map (λ (x : Row). x.places) u.rows m.number r [] (let s = h.small in let l = u.rowed in omega arith))) ∙ ap (λ (x : Tables). used (row (view x) m.number)) e ∙ h.places

-- so the call is planned: the data go to those sectors, and the tables follow
plan_of : (v : Volume) (t : Model) (d : ℕ) (p w : List ℕ) (m : Placed) (u : Tables) (r : Row) → v.tables ≡ Some t → picked (checks t v.image (write d p w)) ≡ None → Written t d p w m → u ≡ m.after.tables
    → Planned v t (write d p w) (view m.after.tables) (data_writes (used (get_or u.rows m.number r).places) w ++ table_writes (view m.after.tables))
plan_of v t d p w m u r is passed h e = record { stands = is; passed = passed; quiet = refl; leads = h.after; makes = ap₂ (λ (ss : List ℕ) (x : Model). data_writes ss w ++ table_writes x) (places t d p w m u r h e) h.after }

pub listed : goal.listed
listed g c = let s = (c.in_ok-made.ensures (g.S.Store.image c.args.self.now.store)).1.small in let l = c.tables.result.now.rowed in omega arith

pub bounds-tables-made : goal.bounds-tables-made
bounds-tables-made g c = (c.in_ok-made.ensures (g.S.Store.image c.args.self.now.store)).1.small

pub returns-in_err-made : goal.returns-in_err-made
returns-in_err-made g c =
    let i = g.S.Store.image c.args.self.now.store in
    let o = kept_view c.args.self.now.tables in
    let p = err_from_is_err_and c.from_residual-in_err-made.result c.from_residual-in_err-made.ensures.1 in
    refused i o (view c.in_ok-kept.field-0.now.tables) (ap kept_view c.in_ok-kept.ensures.tables) (write c.args.start c.args.path.now c.args.contents.now) (of_tables (on o i) 0 lowest) c.in_err-made.field-0.0 c.from_residual-in_err-made.result (c.in_err-made.ensures i) (p.1 ∙ ap Err p.2)

pub commit-requires-clause-filled : goal.commit-requires-clause-filled
commit-requires-clause-filled g c =
    let made = (c.in_ok-made.ensures (g.S.Store.image c.args.self.now.store)).1 in
    made.filled ∙ ap (λ (ss : List ℕ). 512 * length ss) (sym (places (view c.in_ok-kept.field-0.now.tables) c.args.start c.args.path.now c.args.contents.now c.in_ok-made.made c.tables.result.now c.index-tables-made.result made c.tables.ensures))

pub commit-requires-clause-planned : goal.commit-requires-clause-planned
commit-requires-clause-planned g c =
    let i = g.S.Store.image c.args.self.now.store in
    let t = view c.in_ok-kept.field-0.now.tables in
    let plan = c.in_ok-made.ensures i in
    (t, (write c.args.start c.args.path.now c.args.contents.now, plan_of (volume_view c.args.self.now) t c.args.start c.args.path.now c.args.contents.now c.in_ok-made.made c.tables.result.now c.index-tables-made.result (ap kept_view c.in_ok-kept.ensures.tables) plan.0 plan.1 c.tables.ensures))

pub returns : goal.returns
returns g c =
    let i = g.S.Store.image c.args.self.now.store in
    let o = kept_view c.args.self.now.tables in
    let t = view c.in_ok-kept.field-0.now.tables in
    let is = ap kept_view c.in_ok-kept.ensures.tables in
    let call = write c.args.start c.args.path.now c.args.contents.now in
    let plan = c.in_ok-made.ensures i in
    let number = plan.1.number ∙ sym (ap (λ (y : Option Model). of_tables (on y i) 0 lowest) is) in
    subst (λ (n : ℕ). Acts (on o i) call (answer (turned_away (on o i) call) n) c.commit.result (volume_view c.commit.new.self)) number
    (c.commit.ensures t call (plan_of (volume_view c.args.self.now) t c.args.start c.args.path.now c.args.contents.now c.in_ok-made.made c.tables.result.now c.index-tables-made.result is plan.0 plan.1 c.tables.ensures))
