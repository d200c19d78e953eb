use Rattle.std.proofs.Common.{rules, ◌≡◌, vec_items}
use Rattle.store.specs.Stores.{fit_answer, pair_fits, pair_sector}
use Rattle.store.specs.Laid.{counted}
use Rattle.store.proofs.pair.serving.PairBuffersKeeping.sectors.Goals as goal

pub returns : goal.returns
returns c =
    let even = vec_items c.args.self.now.even in
    let odd = vec_items c.args.self.now.odd in
    let fit : c.fits.result ≡ fit_answer (pair_fits even odd) = cc in
    counted (pair_fits even odd) _ _ (pair_sector even odd) c.fits.result fit (λ u p. search rules) c.map_or.ensures
