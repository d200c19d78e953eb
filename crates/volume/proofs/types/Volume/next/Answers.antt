use Rattle.std.proofs.Common.{ap}
use Rattle.tables.specs.Views.{view}
use Rattle.volume.specs.Views.{kept_view}
use Rattle.volume.proofs.Looking.{listed}
use Rattle.volume.proofs.types.Volume.next.Goals as goal

pub returns : goal.returns
returns g c =
    let i = g.S.Store.image c.args.self.now.store in
    listed i (kept_view c.args.self.now.tables) (view c.in_ok-kept.field-0.now.tables) (ap kept_view c.in_ok-kept.ensures.tables) c.args.start c.args.path.now c.args.after.now c.next.result (c.next.ensures i)
