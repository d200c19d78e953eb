use Rattle.std.proofs.Common.{◌+◌, ◌-◌, sym, refl, ap, ◌∙◌, arith}
use Rattle.std.proofs.lemmas.List.{get_or-map}
use Rattle.model.specs.Tables.{climbs, no_entry}
use Rattle.model.proofs.Tables.Rules.{live_dir-live}
use Rattle.tables.specs.Views.{entry_view, entries_view}
use Rattle.tables.proofs.Climbing.{climbs_on, strays, arrives, tires}
use Rattle.tables.proofs.types.Tables.climbs.Goals as goal

pub loop-step-init : goal.loop-step-init
loop-step-init c = refl

pub returns-then-at : goal.returns-then-at
returns-then-at c = arrives (entries_view c.args.self.now.dirs) 32 c.args.dir c.loop-step._step c.loop-step.at c.loop-step.invariant c.if-at.true

pub returns-then-not-is_live_dir : goal.returns-then-not-is_live_dir
returns-then-not-is_live_dir c = strays (entries_view c.args.self.now.dirs) 32 c.args.dir c.loop-step._step c.loop-step.at c.loop-step.invariant c.loop-step-test.true c.if-at.false c.if-not-is_live_dir.ensures

pub loop-step-preserved : goal.loop-step-preserved
loop-step-preserved c =
    let dirs = c.args.self.now.dirs in
    let ds = entries_view dirs in
    let i = c.loop-step._step in
    let d = c.loop-step.at in
    let lives = c.if-not-is_live_dir.ensures in
    let in32 = (live_dir-live ds d (sym lives)).0 in
    let at = get_or-map entry_view dirs d c.index-self-at.result no_entry (omega arith) in
    ap (λ e. climbs ds (32 - (i + 1)) e.parent) (sym at) ∙ climbs_on ds 32 c.args.dir i d c.loop-step.invariant c.loop-step-test.true c.if-at.false lives

pub returns : goal.returns
returns c = tires (entries_view c.args.self.now.dirs) 32 c.args.dir c.loop-step._step c.loop-step.at c.loop-step.invariant c.loop-step-test.false
