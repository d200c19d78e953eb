use Rattle.std.proofs.Common.{rules, nat_lt, sym, ◌∙◌}
use Rattle.std.proofs.lemmas.Iterator.{YieldsList-from_slice}
use Rattle.std.proofs.lemmas.Iterator.Search.{all_from_yields_List}
use borrow.Author.Tests.{tests}
use Rattle.store.specs.Sparing.{suits}
use Rattle.store.proofs.spares.serving.suit.Goals as goal

pub returns-then-visible-below : goal.returns-then-visible-below
returns-then-visible-below c =
    suits c.args.visible c.args.pairs.now c.args.below c.all.result (sym c.agree.ensures ∙ c.if-visible-below.true.0) (search rules)
    (all_from_yields_List (λ p. nat_lt p.spare c.args.below) _ _ _ c.all.ensures.ran (YieldsList-from_slice c.args.pairs.now cc) (λ x b q k. search (rules, tests)))
