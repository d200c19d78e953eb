use Rattle.std.proofs.Common.{arith}
use Rattle.model.specs.Book.{last}
use Rattle.model.specs.Names.{names}
use Rattle.model.specs.Volume.{holder}
use Rattle.tables.specs.Views.{view}
use Rattle.tables.proofs.Cuts.{last-names}
use Rattle.tables.proofs.Descents.{descents, walk_start}
use Rattle.tables.proofs.types.Tables.place.Goals as goal

pub loop-at-init : goal.loop-at-init
loop-at-init c =
    let t = view c.args.self.now in
    let path = c.args.path.now in
    (walk_start t c.args.start path, last-names path, omega arith, descents t (holder t c.args.start (names path)) (last (names path)))
