use Rattle.std.proofs.Common.{ℕ, not, ◌||◌, rules, refl, ◌∙◌}
use borrow.Author.Tests.{tests}
use Rattle.std.proofs.lemmas.Iterator.{YieldsList-from_range}
use Rattle.std.proofs.lemmas.Iterator.Search.{all_from_yields_List}
use Rattle.model.specs.Tables.{live_dir, climbs}
use Rattle.tables.specs.Views.{view}
use Rattle.tables.proofs.Wholes.{each_number}
use Rattle.tables.proofs.types.Tables.dirs_climb.Goals as goal

pub returns : goal.returns
returns c =
    let ds = (view c.args.self.now).dirs in
    let rooted = λ (d : ℕ). not (live_dir ds d) || climbs ds 32 d in
    all_from_yields_List rooted _ _ _ c.all.ensures.ran (YieldsList-from_range 0 32 32 (cc) refl) (λ x b q k. search (rules, tests))
    ∙ each_number rooted 0 32
