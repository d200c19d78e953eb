use Rattle.std.proofs.Common.{take, rules, sym, ap, ◌∙◌}
use Rattle.std.specs.Option.{unwrap_or}
use Rattle.std.proofs.lemmas.Iterator.{YieldsList-from_slice}
use Rattle.std.proofs.lemmas.Iterator.Search.{position_from_yields_List}
use borrow.Author.Tests.{tests}
use Rattle.tables.proofs.Positions.{blank_end, is_blank}
use Rattle.tables.proofs.types.Entry.name.Goals as goal

pub returns : goal.returns
returns c =
    let name = c.args.self.now.name in
    let found = position_from_yields_List is_blank _ _ c.position.result c.position.ensures.ran (YieldsList-from_slice name cc) (λ x b q k. search (rules, tests)) in
    ap (λ n. take n name) (c.unwrap_or-end.ensures ∙ ap (λ n. unwrap_or c.position.result n) (sym c.args.self.now.sized)) ∙ sym (blank_end name c.position.result found).0
