use Rattle.std.proofs.Common.{◌≡◌, Bool, true, false, ◌&&◌, List, Option, sym, refl, subst, ◌∙◌}
use Rattle.std.specs.Option.{MatchOption}
use Rattle.std.specs.Iterator.Adapters.{zip_first, zip_second}
use Rattle.std.specs.Slice.Iter.{iter_rest}
use Rattle.std.proofs.lemmas.Slice.Zip.{either_empty_from_Zip}
use Rattle.model.specs.Tables.{used, proper_row}
use Rattle.tables.specs.declared.claims.Claims.{Claims}
use Rattle.tables.specs.declared.types.Row.{Row}
use Rattle.tables.specs.Rules.{told, alive_by, unclaimed, Claimed, rows_sound}
use Rattle.tables.specs.Views.{view, entry_view}
use Rattle.tables.proofs.Gathering.{none_claimed, all_claimed, next_file, row_claims, row_refused}
use Rattle.tables.proofs.types.Tables.claims.Goals as goal

-- the tests of a row, where `d` are the dead sectors
abbrev takes : List Bool → List Bool → Row → Bool → Type 0
takes d cl r b = (proper_row (alive_by d) r.places && unclaimed (told cl) (used r.places)) ≡ b

pub returns-in_err-add : goal.returns-in_err-add
returns-in_err-add c =
    let dead = c.args.dead.now in
    let t = view c.args.self.now in
    let cl = c.loop-file.claims.claimed in
    let f = c.in-Some.file.now in
    let r = c.in-Some.row.now in
    let s = c.in-Some.ensures.steps in
    let k = next_file (alive_by dead) t cl _ _ f _ _ r s.0 s.1 c.loop-file.invariant.3 in
    let h : takes dead cl r false = subst (λ (d : List Bool). takes d cl r false) c.loop-file.invariant.2 c.in_err-add.ensures in
    let no : rows_sound (alive_by dead) t ≡ false = row_refused (alive_by dead) t cl (entry_view f) _ r.places _ k (sym c.if-is_live.ensures) h in
    subst (λ (o : Option Claims). MatchOption o (rows_sound (alive_by dead) t ≡ false) (λ x. (rows_sound (alive_by dead) t ≡ true) × (x.dead.now ≡ dead) × Claimed t x.claimed)) (sym c.from_residual.ensures) no

pub loop-file-preserved-in-Continue-1 : goal.loop-file-preserved-in-Continue-1
loop-file-preserved-in-Continue-1 c =
    let dead = c.args.dead.now in
    let t = view c.args.self.now in
    let cl = c.loop-file.claims.claimed in
    let f = c.in-Some.file.now in
    let r = c.in-Some.row.now in
    let s = c.in-Some.ensures.steps in
    let k = next_file (alive_by dead) t cl _ _ f _ _ r s.0 s.1 c.loop-file.invariant.3 in
    let h : takes dead cl r true = subst (λ (d : List Bool). takes d cl r true) c.loop-file.invariant.2 c.in_ok-add.ensures.0 in (
      (tt, tt),
      tt,
      c.in_ok-add.ensures.1 ∙ c.loop-file.invariant.2,
      row_claims (alive_by dead) t cl (entry_view f) _ r.places _ k (sym c.if-is_live.ensures) h c.add.new.self.claimed c.in_ok-add.ensures.2,
    )

pub returns : goal.returns
returns c =
    let s = c.loop-file.file-iterator in
    let q = all_claimed (alive_by c.args.dead.now) (view c.args.self.now) c.loop-file.claims.claimed (iter_rest (zip_first s)) (iter_rest (zip_second s)) (either_empty_from_Zip s c.next.new.self _ c.in-None.is c.next.ensures.steps) c.loop-file.invariant.3 in
    (q.0, c.loop-file.invariant.2, q.1)

pub loop-file-init : goal.loop-file-init
loop-file-init c =
    let fs : iter_rest (zip_first c.into_iter-file-iterator.result) ≡ c.args.self.now.files = cc in
    let rs : iter_rest (zip_second c.into_iter-file-iterator.result) ≡ c.args.self.now.rows = cc (c.zip-file-items.ensures.second.0) in
    ((tt, tt), tt, refl, none_claimed (alive_by c.args.dead.now) c.args.self.now _ _ fs rs)
