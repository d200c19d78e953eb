-- The short store: what stands at a sector, and what a write to its stretch makes of the image.
use Rattle.std.specs.Prelude.{◌≡◌, ℕ, ◌+◌, ◌-◌, ◌*◌, ◌<◌, ◌≤◌, Bool, true, false, cond, not, ◌⊎◌, List, length, Ok, Err, ◌==◌, ◌≢◌, nat_le, nat_lt, refl}
use Rattle.std.proofs.Common.{sym, ap, subst, ◌∙◌, inl, inr, arith}
use Rattle.std.proofs.lemmas.Bool.{eqb-true, eq-eqb, ltb-true, leb-true, lt-ltb, le-ltb, or_cases, cases_Bool}
use Rattle.model.specs.Sizes.{most_sectors}
use Rattle.model.specs.Image.{Image, Sector, bytes, dead, from_to, whole_sector, whole, dead_at, seen, look, done_or_fault, access, put}
use Rattle.store.specs.Stores.{laid, stretch, short_bytes, short_size, short_fits, short_lives, short_place, short_sector, short_image}
use Rattle.store.specs.Laid.{whole_laid, inside_laid, look_laid, put_laid, inside_accepted, never_both}
use Rattle.store.specs.Stretches.{length_stretch, Copied}

pub size_is : short_size ≡ 260
unfolding short_size
size_is = refl

-- the live sectors, and their places
pub low_place : (s : ℕ) → s < 0x40 → short_place s ≡ s
low_place s l = ap (λ b. cond b s (0x40 + (s - 0x100))) (lt-ltb s 0x40 l)

pub high_place : (s : ℕ) → 0x40 ≤ s → short_place s ≡ 0x40 + (s - 0x100)
high_place s l = ap (λ b. cond b s (0x40 + (s - 0x100))) (le-ltb s 0x40 l)

-- a live sector with its place, as plain numbers
abbrev Placed : ℕ → ℕ → Type 0
Placed s k = ((s < 0x40) × (k ≡ s)) ⊎ ((0x100 ≤ s) × (k ≡ 0x40 + (s - 0x100)))

placed : (s : ℕ) → short_lives s ≡ true → Placed s (short_place s)
placed s h = go (or_cases (nat_lt s 0x40) (nat_le 0x100 s) h)
  where
    below : (s : ℕ) → 0x100 ≤ s → 0x40 ≤ s
    below s l = omega arith

    go : (nat_lt s 0x40 ≡ true) ⊎ (nat_le 0x100 s ≡ true) → Placed s (short_place s)
    go (inl e) = let l = ltb-true s 0x40 e in inl (l, low_place s l)
    go (inr e) = let l = leb-true 0x100 s e in inr (l, high_place s (below s l))

room_placed : (s k : ℕ) → Placed s k → s < 260 → 512 * k + 512 ≤ 34816
room_placed s k (inl p) l = let a = p.0 in let b = p.1 in omega arith
room_placed s k (inr p) l = let a = p.0 in let b = p.1 in omega arith

apart_placed : (s t j k : ℕ) → Placed s j → Placed t k → (t ≢ s) → k ≢ j
apart_placed s t j k (inl p) (inl q) ne e = ne (let a = p.1 in let b = q.1 in omega arith)
apart_placed s t j k (inl p) (inr q) ne e = let a = p.0 in let b = p.1 in let d = q.1 in omega arith
apart_placed s t j k (inr p) (inl q) ne e = let a = p.1 in let b = q.0 in let d = q.1 in omega arith
apart_placed s t j k (inr p) (inr q) ne e = ne (let a = p.0 in let b = p.1 in let d = q.0 in let f = q.1 in omega arith)

-- a short image, by the length of its buffer
abbrev by_length : ℕ → (ℕ → Sector) → Image
by_length m f = laid (m == short_bytes) (from_to 0 short_size f)

module _ (buffer : List ℕ) where
  room : (s : ℕ) → short_fits buffer ≡ true → s < short_size → short_lives s ≡ true → 512 * short_place s + 512 ≤ length buffer
  room s h l a = subst (λ n. 512 * short_place s + 512 ≤ n) (sym (eqb-true (length buffer) short_bytes h)) (room_placed s (short_place s) (placed s a) (subst (λ n. s < n) size_is l))

  pub short_whole : whole (short_image buffer) ≡ true
  short_whole = whole_laid (short_fits buffer) short_size (short_sector buffer) few each
    where
      few : short_fits buffer ≡ true → short_size ≤ most_sectors
      few h = subst (λ n. n ≤ most_sectors) (sym size_is) (omega arith)

      each : short_fits buffer ≡ true → (s : ℕ) → s < short_size → whole_sector (short_sector buffer s) ≡ true
      each h s l = go (short_lives s) refl
        where
          go : (b : Bool) → short_lives s ≡ b → whole_sector (cond b (bytes (stretch buffer (short_place s))) (dead s 0)) ≡ true
          go true a = eq-eqb (length (stretch buffer (short_place s))) 512 (length_stretch buffer (short_place s) (room s h l a))
          go false a = refl

  short_look : (s : ℕ) (b : Bool) → s < length (short_image buffer) → short_lives s ≡ b → look (short_image buffer) s ≡ seen (cond b (bytes (stretch buffer (short_place s))) (dead s 0))
  short_look s b l e =
      look_laid (short_fits buffer) short_size (short_sector buffer) s l ∙ ap (λ x. seen (cond x (bytes (stretch buffer (short_place s))) (dead s 0))) e

  pub short_access : (s : ℕ) (b : Bool) → short_lives s ≡ b → s < length (short_image buffer) → access (short_image buffer) s ≡ cond (not b) (Err (dead_at s 0)) (Ok tt)
  short_access s true e l = ap done_or_fault (short_look s true l e)
  short_access s false e l = ap done_or_fault (short_look s false l e)

  -- an accepted sector has room in the buffer, and its stretch stands there
  module _ (s : ℕ) (h : access (short_image buffer) s ≡ Ok tt) where
    inside : s < length (short_image buffer)
    inside = inside_accepted (short_image buffer) s h

    alive : short_lives s ≡ true
    alive = go (cases_Bool (short_lives s))
      where
        go : (short_lives s ≡ true) ⊎ (short_lives s ≡ false) → short_lives s ≡ true
        go (inl e) = e
        go (inr e) = absurd (never_both (dead_at s 0) (sym (short_access s false e inside) ∙ h))

    pub short_room : 512 * short_place s + 512 ≤ length buffer
    short_room = let within = inside_laid (short_fits buffer) short_size (short_sector buffer) s inside in room s within.0 within.1 alive

    pub short_seen : look (short_image buffer) s ≡ Ok (stretch buffer (short_place s))
    short_seen = short_look s true inside alive

    pub short_put : (after new : List ℕ) → Copied buffer (short_place s) new after → short_image after ≡ put (short_image buffer) s new
    short_put after new c =
        ap (λ m. by_length m (short_sector after)) c.long
        ∙ sym (put_laid (short_fits buffer) short_size (short_sector buffer) (short_sector after) s (stretch buffer (short_place s)) new inside (served buffer) (served after ∙ ap bytes c.at) others)
      where
        served : (xs : List ℕ) → short_sector xs s ≡ bytes (stretch xs (short_place s))
        served xs = ap (λ b. cond b (bytes (stretch xs (short_place s))) (dead s 0)) alive

        others : (t : ℕ) → t < short_size → (t ≢ s) → short_sector after t ≡ short_sector buffer t
        others t l ne = go (short_lives t) refl
          where
            go : (b : Bool) → short_lives t ≡ b → cond b (bytes (stretch after (short_place t))) (dead t 0) ≡ cond b (bytes (stretch buffer (short_place t))) (dead t 0)
            go true a = ap bytes (c.others (short_place t) (apart_placed s t (short_place s) (short_place t) (placed s alive) (placed t a) ne))
            go false a = refl
