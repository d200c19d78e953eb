use Rattle.std.proofs.Common.{[], refl}
use Rattle.model.specs.Answers.{children}
use Rattle.model.specs.declared.types.Kind.TheVariants.{Directory as directory}
use Rattle.tables.specs.Views.{entries_view}
use Rattle.tables.proofs.consistent.Consistent.least_after.Goals as goal

-- the directories first, then the files
pub returns : goal.returns
returns c = c.least.ensures (children directory c.args.dir 0 (entries_view c.args.self.now.tables.dirs)) (c.least-best.ensures [] refl)
