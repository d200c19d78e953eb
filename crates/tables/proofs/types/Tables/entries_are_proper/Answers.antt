use Rattle.std.proofs.Common.{rules, refl, ◌∙◌}
use borrow.Author.Tests.{tests}
use Rattle.std.proofs.lemmas.Iterator.{YieldsList-from_slice}
use Rattle.std.proofs.lemmas.Iterator.Search.{all_from_yields_List}
use Rattle.model.specs.Tables.{proper_entry}
use Rattle.tables.specs.declared.types.Entry.{Entry}
use Rattle.tables.specs.Views.{entry_view, view}
use Rattle.tables.proofs.Wholes.{all_viewed}
use Rattle.tables.proofs.types.Tables.entries_are_proper.Goals as goal

pub returns : goal.returns
returns c =
    let ds = (view c.args.self.now).dirs in
    let proper = λ (e : Entry). proper_entry ds (entry_view e) in
    all_from_yields_List proper _ _ _ c.all.ensures.ran (YieldsList-from_slice c.args.entries.now cc) (λ x b q k. search (rules, tests))
    ∙ all_viewed entry_view (proper_entry ds) proper c.args.entries.now (λ x. refl)
