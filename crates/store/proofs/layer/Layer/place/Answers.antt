use Rattle.std.proofs.Common.{◌<◌, subst}
use Rattle.store.specs.Layered.{layer_found}
use Rattle.store.proofs.layer.Layer.place.Goals as goal

pub returns-then-sector-size : goal.returns-then-sector-size
returns-then-sector-size g c =
    let l = c.args.self.now in
    let s = c.args.sector in
    layer_found (g.P.Placing.fits l.placing) (g.P.Placing.count l.placing) (g.P.Placing.serve l.placing) (g.met.P.Placing.sound l.placing) (g.S.Store.image l.below) s c.place.result (g.met.S.Store.wholeness l.below) c.place.ensures
    (subst (λ n. s < n) c.size.ensures c.if-sector-size.true)
