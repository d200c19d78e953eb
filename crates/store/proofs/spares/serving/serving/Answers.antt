use Rattle.std.proofs.Common.{rules, ◌==◌}
use Rattle.std.proofs.lemmas.Iterator.{YieldsList-from_slice}
use Rattle.std.proofs.lemmas.Iterator.Search.{find_from_yields_List}
use borrow.Author.Tests.{tests}
use Rattle.store.specs.Sparing.{served_found}
use Rattle.store.proofs.spares.serving.serving.Goals as goal

pub returns : goal.returns
returns c =
    served_found c.args.pairs.now c.args.sector c.map_or.result c.find.result
    (find_from_yields_List (λ p. c.args.sector == p.sector) _ _ _ c.find.ensures.ran (YieldsList-from_slice c.args.pairs.now cc) (λ x b q k. search (rules, tests)))
    (λ x k. search rules) c.map_or.ensures
