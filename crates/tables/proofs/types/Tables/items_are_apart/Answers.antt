use Rattle.std.proofs.Common.{◌≡◌, refl, rules, ◌∙◌, arith}
use borrow.Author.Tests.{tests}
use Rattle.std.proofs.lemmas.Bool.Decides.{nat_tests}
use Rattle.std.proofs.lemmas.Iterator.{YieldsList-from_slice}
use Rattle.std.proofs.lemmas.Iterator.Search.{all_from_yields_List}
use Rattle.model.specs.Tables.{all}
use Rattle.tables.specs.declared.types.Entry.{Entry}
use Rattle.tables.specs.Views.{entry_view, entries_view}
use Rattle.tables.proofs.Apart.{apart, unshared_join}
use Rattle.tables.proofs.Wholes.{all_viewed}
use Rattle.tables.proofs.types.Tables.items_are_apart.Goals as goal

pub returns-then-are_apart-2 : goal.returns-then-are_apart-2
returns-then-are_apart-2 c =
    let ds = c.args.self.now.dirs in
    let fs = entries_view c.args.self.now.files in
    let test = λ (d : Entry). apart fs (entry_view d) in
    let across : c.all.result ≡ all (apart fs) (entries_view ds) =
    all_from_yields_List test _ _ _ c.all.ensures.ran (YieldsList-from_slice ds cc) (λ x b q k. search (rules, tests))
    ∙ all_viewed entry_view (apart fs) test ds (λ x. refl) in
    let join = unshared_join (entries_view ds) fs in
    grind (arith, nat_tests)

pub returns-else-are_apart-2 : goal.returns-else-are_apart-2
returns-else-are_apart-2 c = let join = unshared_join (entries_view c.args.self.now.dirs) (entries_view c.args.self.now.files) in grind (arith, nat_tests)
