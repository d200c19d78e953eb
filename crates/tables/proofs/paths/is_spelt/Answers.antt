use Rattle.std.proofs.Common.{◌≡◌, rules, sym, ap, ◌∙◌}
use Rattle.std.proofs.lemmas.Iterator.{YieldsList-from_slice}
use borrow.Author.Tests.{tests}
use Rattle.tables.proofs.Spellings.{counts_all, counts_on, ends, spelt_start}
use Rattle.tables.proofs.paths.is_spelt.Goals as goal

pub returns : goal.returns
returns c =
    let path = c.args.path.now in
    let all = counts_all c.try_fold.new.self 0 c.try_fold.result (YieldsList-from_slice path cc) c.try_fold.ensures.ran (λ n x r q k. search (rules, tests)) in
    let last : c.is_some_and.result ≡ ends c.try_fold.result = search (rules, tests) in
    last ∙ ap ends all ∙ counts_on path 0 ∙ sym (spelt_start path)
