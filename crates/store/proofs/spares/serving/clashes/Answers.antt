use Rattle.std.proofs.Common.{rules, ◌==◌, ◌||◌, ◌∙◌}
use Rattle.std.proofs.lemmas.Iterator.{YieldsList-from_slice}
use Rattle.std.proofs.lemmas.Iterator.Search.{any_from_yields_List}
use borrow.Author.Tests.{tests}
use Rattle.store.specs.Sparing.{clash_any}
use Rattle.store.proofs.spares.serving.clashes.Goals as goal

pub returns : goal.returns
returns c =
    let p = c.args.pair.now in
    any_from_yields_List (λ q. p.sector == q.sector || p.spare == q.spare) _ _ c.any.result c.any.ensures.ran (YieldsList-from_slice c.args.others.now cc) (λ x b q k. search (rules, tests))
    ∙ clash_any p c.args.others.now
