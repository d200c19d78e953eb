-- The five stores: when their numbers and buffers fit, and which byte of which buffer is which sector.
-- What is laid without fitting is a store with no sector.
use Rattle.std.specs.Prelude.{ℕ, ◌+◌, ◌-◌, ◌*◌, ◌/◌, ◌%◌, Bool, true, false, cond, not, ◌&&◌, ◌||◌, ltb, leb, List, [], ◌∷◌, map, length, take, drop, Ok, Err, Result, ◌==◌, nat_le, nat_lt, slice_index_or}
use Rattle.model.specs.Sizes.{sector_size, most_sectors}
use Rattle.model.specs.Image.{Image, Sector, bytes, dead, all, from_to, risen}
use Rattle.model.specs.declared.types.Refusal.{Refusal}
use Rattle.model.specs.declared.types.Refusal.TheVariants.{Misfit as misfit}
use Rattle.store.specs.declared.spares.Spare.{Spare}

-- the answer to the question whether something fits
abbrev pub fit_answer : Bool → Result (Unit {0}) Refusal
fit_answer true = Ok tt
fit_answer false = Err misfit

abbrev pub laid : Bool → Image → Image
laid true i = i
laid false i = []

abbrev pub member : ℕ → List ℕ → Bool
member s [] = false
member s (x ∷ xs) = s == x || member s xs

abbrev pub distinct : List ℕ → Bool
distinct [] = true
distinct (x ∷ xs) = not (member x xs) && distinct xs

-- the most dead numbers that a flat store takes, and the most pairs that spares take
abbrev pub most_listed : ℕ
most_listed = 8

-- whole sectors, n at most
abbrev pub whole_sectors : ℕ → List ℕ → Bool
whole_sectors n buffer = length buffer % sector_size == 0 && nat_le (length buffer) (sector_size * n)

-- the k-th 512 bytes of a buffer
abbrev pub stretch : List ℕ → ℕ → List ℕ
stretch buffer k = take sector_size (drop (sector_size * k) buffer)

-- flat: sector s lies at byte 512 × s of one buffer; its owner may declare numbers dead ---------------------------

abbrev pub flat_fits : List ℕ → List ℕ → Bool
flat_fits buffer deads = whole_sectors most_sectors buffer && nat_le (length deads) most_listed

abbrev pub flat_sector : List ℕ → List ℕ → ℕ → Sector
flat_sector buffer deads s = cond (member s deads) (dead s 0) (bytes (stretch buffer s))

abbrev pub flat_image : List ℕ → List ℕ → Image
flat_image buffer deads = laid (flat_fits buffer deads) (from_to 0 (length buffer / sector_size) (flat_sector buffer deads))

-- pair: sector s lies in buffer s mod 2, at byte 512 × (s div 2); none is dead ------------------------------------

-- the most sectors of each of the two buffers
abbrev pub most_of_pair : ℕ
most_of_pair = 32767

abbrev pub pair_fits : List ℕ → List ℕ → Bool
pair_fits even odd = length even == length odd && whole_sectors most_of_pair even

abbrev pub pair_sector : List ℕ → List ℕ → ℕ → Sector
pair_sector even odd s = bytes (stretch (cond (s % 2 == 0) even odd) (s / 2))

abbrev pub pair_image : List ℕ → List ℕ → Image
pair_image even odd = laid (pair_fits even odd) (from_to 0 (2 * (length even / sector_size)) (pair_sector even odd))

-- short: sectors 0x00 to 0x3F and then 0x100 to 0x103 follow one another; all others are dead ----------------------

abbrev pub short_bytes : ℕ
short_bytes = 34816

-- shut, so that no proof writes the sectors out
unfoldable pub short_size : ℕ
short_size = 260

abbrev pub short_fits : List ℕ → Bool
short_fits buffer = length buffer == short_bytes

abbrev pub short_lives : ℕ → Bool
short_lives s = nat_lt s 0x40 || nat_le 0x100 s

-- which stretch of the buffer a live sector lies in
abbrev pub short_place : ℕ → ℕ
short_place s = cond (nat_lt s 0x40) s (0x40 + (s - 0x100))

abbrev pub short_sector : List ℕ → ℕ → Sector
short_sector buffer s = cond (short_lives s) (bytes (stretch buffer (short_place s))) (dead s 0)

abbrev pub short_image : List ℕ → Image
short_image buffer = laid (short_fits buffer) (from_to 0 short_size (short_sector buffer))

-- a layer over the store below -------------------------------------------------------------------------------------

-- c sectors: sector s is sector `serve s` below, and dead one layer deeper if that is dead
abbrev pub layered : Image → ℕ → (ℕ → ℕ) → Image
layered below c serve = from_to 0 c (λ s. risen (slice_index_or below (serve s) (dead 0 0)))

-- the layer has them where a store of so many sectors below fits it
abbrev pub placed : (ℕ → Bool) → ℕ → (ℕ → ℕ) → Image → Image
placed fits c serve below = laid (fits (length below)) (layered below c serve)

-- window: sector s is sector a + s below, and there are c of them -------------------------------------------------

abbrev pub window_fits : Image → ℕ → ℕ → Bool
window_fits below a c = nat_le (a + c) (length below)

abbrev pub window_image : Image → ℕ → ℕ → Image
window_image below a c = laid (window_fits below a c) (layered below c (λ s. a + s))

-- spares: v sectors are visible, and a paired one is served by its spare ---------------------------------------------

abbrev pub sectors_of : List Spare → List ℕ
sectors_of ps = map (λ p. p.sector) ps

abbrev pub spares_of : List Spare → List ℕ
spares_of ps = map (λ p. p.spare) ps

-- what is asked of the pairs alone
abbrev pub pairs_fit : ℕ → List Spare → Bool
pairs_fit v ps =
    nat_le (length ps) most_listed
    && distinct (sectors_of ps)
    && all (λ s. ltb s v) (sectors_of ps)
    && distinct (spares_of ps)
    && all (λ s. leb v s) (spares_of ps)

-- and of the store below: it has the visible sectors and the spares
abbrev pub spares_fit : Image → ℕ → List Spare → Bool
spares_fit below v ps = pairs_fit v ps && nat_le v (length below) && all (λ s. ltb s (length below)) (spares_of ps)

-- the sector below that serves s
abbrev pub served : List Spare → ℕ → ℕ
served [] s = s
served (p ∷ ps) s = cond (s == p.sector) p.spare (served ps s)

abbrev pub spares_image : Image → ℕ → List Spare → Image
spares_image below v ps = laid (spares_fit below v ps) (layered below v (served ps))
