use Rattle.std.proofs.Common.{rules, ◌∙◌}
use Rattle.std.proofs.lemmas.Iterator.{YieldsList-from_slice}
use Rattle.std.proofs.lemmas.Iterator.Search.{position_from_yields_List}
use borrow.Author.Tests.{tests}
use Rattle.tables.proofs.Positions.{first_is}
use Rattle.tables.proofs.slots.first_free.Goals as goal

pub returns-clause-value : goal.returns-clause-value
returns-clause-value g c =
    position_from_yields_List g.T.Slot.vacant _ _ _ c.position.ensures.ran (YieldsList-from_slice c.args.slots.now cc) (λ x b q k. search (rules, tests)) ∙ first_is g.T.Slot.vacant c.args.slots.now
