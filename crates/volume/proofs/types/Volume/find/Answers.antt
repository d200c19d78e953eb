use Rattle.std.proofs.Common.{ap}
use Rattle.volume.specs.Views.{kept_view}
use Rattle.volume.proofs.Looking.{found}
use Rattle.volume.proofs.types.Volume.find.Goals as goal

pub returns : goal.returns
returns g c = found (g.S.Store.image c.args.self.now.store) (kept_view c.args.self.now.tables) _ (ap kept_view c.in_ok-kept.ensures.tables) c.args.start c.args.path.now c.find.result (c.find.ensures (g.S.Store.image c.args.self.now.store))
