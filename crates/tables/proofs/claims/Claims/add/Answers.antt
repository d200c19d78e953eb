use Rattle.std.proofs.Common.{◌<◌, Bool, true, List, not, ◌&&◌, ◌||◌, length, get_or, sym, ap, ◌∙◌, arith}
use Rattle.std.proofs.lemmas.List.{length-set}
use Rattle.model.specs.Tables.{data_sector, member, used}
use Rattle.model.proofs.Tables.Places.{used-short}
use Rattle.tables.specs.Rules.{told, alive_by}
use Rattle.tables.proofs.Claiming.{fits, row_test, place_passes, place_fails, place_claims}
use Rattle.tables.proofs.claims.Claims.add.Goals as goal

pub bounds-row-i : goal.bounds-row-i
bounds-row-i c = let short = used-short c.args.row.now.places in let s = c.args.row.now.sized in omega arith

pub returns-then-not-is_claimable : goal.returns-then-not-is_claimable
returns-then-not-is_claimable c =
    let r = c.args.row.now.places in
    let s = get_or r c.loop-i.i 0 in
    let lives = alive_by c.args.self.now.dead.now in
    let claimed = c.args.self.now.claimed in
    let i : c.loop-i.i < length (used r) = omega arith in
    let h = c.if-not-is_claimable.ensures ∙ ap (λ (d : List Bool). data_sector s && alive_by d s && not (told c.loop-i.self.claimed s)) c.loop-i.invariant.1 in
    let fails = place_fails lives c.loop-i.self.claimed r c.loop-i.i i (fits lives (told claimed) (used r)) h c.loop-i.invariant.2 in
    row_test lives (told claimed) r ∙ sym (fails ∙ ap (λ b. b && fits lives (told claimed) (used r)) c.if-not-is_filled_up.ensures)

pub loop-i-preserved : goal.loop-i-preserved
loop-i-preserved c =
    let r = c.args.row.now.places in
    let s = get_or r c.loop-i.i 0 in
    let lives = alive_by c.args.self.now.dead.now in
    let claimed = c.args.self.now.claimed in
    let i : c.loop-i.i < length (used r) = omega arith in
    let h = c.if-not-is_claimable.ensures ∙ ap (λ (d : List Bool). data_sector s && alive_by d s && not (told c.loop-i.self.claimed s)) c.loop-i.invariant.1 in (
      length-set c.loop-i.self.claimed s true ∙ c.loop-i.invariant.0,
      c.loop-i.invariant.1,
      place_passes lives c.loop-i.self.claimed r c.loop-i.i i (fits lives (told claimed) (used r)) h c.loop-i.invariant.2,
      λ x. place_claims lives c.loop-i.self.claimed r c.loop-i.i i x (member x (used r) || told claimed x) (c.loop-i.invariant.3 x),
    )
