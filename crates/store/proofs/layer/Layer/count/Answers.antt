use Rattle.std.proofs.Common.{length, ◌∙◌}
use Rattle.store.specs.Layered.{size_fits}
use Rattle.store.proofs.layer.Layer.count.Goals as goal

pub returns-then-fits : goal.returns-then-fits
returns-then-fits g c =
    let p = c.args.placing.now in
    let below = g.S.Store.image c.args.below.now in
    c.count.ensures ∙ size_fits (g.P.Placing.fits p (length below)) below (g.P.Placing.count p) (g.P.Placing.serve p) (cc)
