use Rattle.std.proofs.Common.{get_or, ◌∙◌, arith}
use Rattle.model.proofs.Tables.Places.{used-short}
use Rattle.tables.proofs.Changing.{mark_more}
use Rattle.tables.proofs.types.Tables.mark_row.Goals as goal

pub loop-k-preserved : goal.loop-k-preserved
loop-k-preserved c =
    let inv = c.loop-k.invariant in
    let r = (get_or c.args.self.now.rows c.args.number c.index-self-i.result).places in
    (mark_more r c.args.mark c.loop-k.self.marks c.loop-k.k (let l = c.loop-k-test.true in let e = c.count-k-end.ensures in omega arith) ∙ inv.0, inv.1, inv.2, inv.3)

pub bounds-row-k : goal.bounds-row-k
bounds-row-k c =
    let r = get_or c.args.self.now.rows c.args.number c.index-self-i.result in
    let s = r.sized in
    let short = used-short r.places in
    let l = c.loop-k-test.true in
    let e = c.count-k-end.ensures in
    omega arith
