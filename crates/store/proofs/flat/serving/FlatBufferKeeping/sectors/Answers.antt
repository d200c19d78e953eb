use Rattle.std.proofs.Common.{rules, ◌≡◌, vec_items}
use Rattle.store.specs.Stores.{fit_answer, flat_fits, flat_sector}
use Rattle.store.specs.Laid.{counted}
use Rattle.store.proofs.flat.serving.FlatBufferKeeping.sectors.Goals as goal

pub returns : goal.returns
returns c =
    let buffer = vec_items c.args.self.now.buffer in
    let dead = vec_items c.args.self.now.dead in
    let fit : c.fits.result ≡ fit_answer (flat_fits buffer dead) = cc in
    counted (flat_fits buffer dead) _ _ (flat_sector buffer dead) c.fits.result fit (λ u p. search rules) c.map_or.ensures
