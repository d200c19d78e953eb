use Rattle.std.proofs.Common.{rules, not, refl, ap, ◌∙◌}
use borrow.Author.Tests.{tests}
use Rattle.std.proofs.lemmas.Iterator.{YieldsList-from_slice}
use Rattle.std.proofs.lemmas.Iterator.Search.{any_from_yields_List}
use Rattle.model.specs.Tables.{same_place}
use Rattle.tables.specs.declared.types.Entry.{Entry}
use Rattle.tables.specs.Views.{entry_view}
use Rattle.tables.proofs.Wholes.{none_viewed}
use Rattle.tables.proofs.types.Entry.is_apart_from.Goals as goal

pub returns : goal.returns
returns c =
    let e = entry_view c.args.self.now in
    let shares = λ (o : Entry). same_place e (entry_view o) in
    ap not (any_from_yields_List shares _ _ _ c.any.ensures.ran (YieldsList-from_slice c.args.others.now cc) (λ x b q k. search (rules, tests)))
    ∙ none_viewed entry_view (λ f. not (same_place e f)) shares c.args.others.now (λ x. refl)
