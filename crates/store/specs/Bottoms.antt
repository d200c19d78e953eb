-- What the buffers of each bottom store mean, and with them the store: an image.
use Rattle.std.specs.Prelude.{vec_items}
use Rattle.model.specs.Image.{Image}
use Rattle.store.specs.Stores.{flat_image, pair_image, short_image}
use Rattle.store.specs.declared.flat.FlatBuffer.{FlatBuffer}
use Rattle.store.specs.declared.pair.PairBuffers.{PairBuffers}
use Rattle.store.specs.declared.short.ShortBuffer.{ShortBuffer}

abbrev pub flat_of : FlatBuffer → Image
flat_of s = flat_image (vec_items s.buffer) (vec_items s.dead)

abbrev pub pair_of : PairBuffers → Image
pair_of s = pair_image (vec_items s.even) (vec_items s.odd)

abbrev pub short_of : ShortBuffer → Image
short_of s = short_image (vec_items s.buffer)
