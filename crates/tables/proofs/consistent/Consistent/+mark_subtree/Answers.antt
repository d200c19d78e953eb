use Rattle.std.proofs.Common.{◌≡◌, ◌+◌, Bool, true, false, cond, ◌&&◌, eqb, get_or, set, sym, refl, ap, ◌∙◌, ap₂, arith}
use Rattle.std.proofs.lemmas.Bool.{eq-eqb, ne_eqb}
use Rattle.model.specs.Tables.{live}
use Rattle.model.proofs.Tables.Rules.{live_dir-live}
use Rattle.tables.proofs.Marking.{unmarked, so_far, walk}
use Rattle.tables.specs.Subtrees.{untouched, with_subtree}
use Rattle.tables.specs.Views.{entry_view, entries_view}
use Rattle.tables.proofs.consistent.Consistent.+mark_subtree.Goals as goal
use Rattle.tables.proofs.consistent.Consistent.+mark_subtree.Goals.{then-is_live+then-entry-dir as marks, else-is_live as passes, else-is_live-via-then-is_live+else-entry-dir as elsewhere, else-is_live-via-else-is_live as free}

pub bounds-marked-dir : goal.bounds-marked-dir
bounds-marked-dir t c = (live_dir-live (entries_view c.args.self.now.tables.dirs) c.args.dir c.requires.lives).0

pub loop-child-init : goal.loop-child-init
loop-child-init t c = walk c.args.self.now c.args.dir c.args.marked.now c.requires.lives c.requires.untouched c.told-marked

pub mark_subtree-requires : goal.mark_subtree-requires
mark_subtree-requires t c =
    let ds = entries_view c.args.self.now.tables.dirs in
    let w = c.loop-child.invariant.1 in
    let i = c.loop-child.child in
    let l = c.loop-child-test.true in
    let here : c.loop-child.marked ≡ so_far ds c.args.dir (set c.args.marked.now c.args.dir true) i = c.loop-child.invariant.0 in
    let t_is : unmarked c.args.marked.now ≡ t = c.decreases in
    let fewer = w.fewer i in
    let first = w.first c.args.marked.now refl c.told-marked c.requires.untouched in
    let same : unmarked c.loop-child.marked ≡ unmarked (so_far ds c.args.dir (set c.args.marked.now c.args.dir true) i) = ap unmarked here in
    (omega arith, (w.lives i c.entry-item.result l ∙ sym c.if-is_live.ensures, ap (untouched ds i) here ∙ w.down i c.entry-item.result l (sym c.if-is_live.ensures) c.if-entry-dir.true))

pub loop-child-preserved : goal.loop-child-preserved
loop-child-preserved t c =
    let ds = entries_view c.args.self.now.tables.dirs in
    let i = c.loop-child.child in
    let w = c.loop-child.invariant.1 in
    let e = get_or c.args.self.now.tables.dirs i c.entry-item.result in
    let before = so_far ds c.args.dir (set c.args.marked.now c.args.dir true) i in
    let step = w.step i c.entry-item.result c.loop-child-test.true in
    let turn : (b : Bool) → (live (entry_view e) && eqb e.parent c.args.dir) ≡ b → cond b (with_subtree ds i before) before ≡ so_far ds c.args.dir (set c.args.marked.now c.args.dir true) (i + 1) =
    λ b h. sym (step ∙ ap (λ x. cond x (with_subtree ds i before) before) h) in (
      elim c.if-is_live.branch [
        | marks v ↦ v.marked-is ∙ v.mark_subtree.ensures ∙ ap (with_subtree ds i) c.loop-child.invariant.0 ∙ turn true (ap₂ (λ a b. a && b) (sym v.if-is_live.ensures) (eq-eqb e.parent c.args.dir v.if-entry-dir.true))
        | passes v ↦ v.marked-is ∙ c.loop-child.invariant.0 ∙ turn false (elim v.else-is_live.branch [
          | elsewhere u ↦ ap₂ (λ a b. a && b) (sym u.if-is_live.ensures) (ne_eqb e.parent c.args.dir u.if-entry-dir.false)
          | free u ↦ ap (λ a. a && eqb e.parent c.args.dir) (sym u.if-is_live.ensures)
        ])
      ],
      w,
    )

pub returns : goal.returns
returns t c = let o = c.loop-child.invariant.1.over c.args.marked.now refl c.told-marked in let here = c.loop-child.invariant.0 in let e : c.loop-child.child ≡ 32 = omega arith in c.loop-child.invariant.0 ∙ ap (so_far (entries_view c.args.self.now.tables.dirs) c.args.dir (set c.args.marked.now c.args.dir true)) e ∙ sym o
