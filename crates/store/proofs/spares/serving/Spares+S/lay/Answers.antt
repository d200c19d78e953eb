use Rattle.std.proofs.Common.{vec_items, ap₂}
use Rattle.store.specs.Stores.{spares_image}
use Rattle.store.proofs.spares.serving.Spares+S.lay.Goals as goal

pub returns-clause-image : goal.returns-clause-image
returns-clause-image g c = ap₂ (λ b p. spares_image (g.S.Store.image b) p.visible (vec_items p.pairs)) c.over.ensures.below c.over.ensures.placing
