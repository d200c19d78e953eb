use Rattle.std.proofs.Common.{rules, sym, ap, ◌∙◌}
use borrow.Author.Tests.{tests}
use Rattle.std.specs.Option.{unwrap_or}
use Rattle.std.proofs.lemmas.Iterator.{YieldsList-from_slice}
use Rattle.std.proofs.lemmas.Iterator.Search.{position_from_yields_List}
use Rattle.tables.proofs.Positions.{blank_end, is_blank}
use Rattle.tables.proofs.types.Row.count.Goals as goal

pub returns : goal.returns
returns c =
    let r = c.args.self.now.places in
    let found = position_from_yields_List is_blank _ _ _ c.position.ensures.ran (YieldsList-from_slice r cc) (λ x b q k. search (rules, tests)) in
    c.unwrap_or.ensures ∙ ap (unwrap_or c.position.result) (sym c.args.self.now.sized) ∙ sym (blank_end r c.position.result found).1
