use Rattle.std.proofs.Common.{rules, ◌≡◌, vec_items, sym, ◌∙◌}
use Rattle.store.specs.Stores.{fit_answer, short_fits, short_sector}
use Rattle.store.specs.Shorts.{size_is}
use Rattle.store.specs.Laid.{counted}
use Rattle.store.proofs.short.serving.ShortBufferKeeping.sectors.Goals as goal

pub returns : goal.returns
returns c =
    let buffer = vec_items c.args.self.now.buffer in
    let fit : c.fits.result ≡ fit_answer (short_fits buffer) = cc in
    counted (short_fits buffer) _ _ (short_sector buffer) c.fits.result fit
    (λ u p. let e : c.map_or.result ≡ 260 = search rules in e ∙ sym size_is) c.map_or.ensures
