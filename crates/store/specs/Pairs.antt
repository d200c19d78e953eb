-- The store of two buffers: what stands at a sector, and what a write to its stretch makes of the image.
use Rattle.std.specs.Prelude.{◌≡◌, ℕ, ◌+◌, ◌*◌, ◌/◌, ◌%◌, ◌<◌, ◌≤◌, Bool, true, false, cond, ◌&&◌, List, length, Ok, ◌==◌, ◌≢◌, nat_eq, nat_le, refl}
use Rattle.std.proofs.Common.{sym, ap, subst, ◌∙◌, arith}
use Rattle.std.proofs.lemmas.Bool.{and_parts, eqb-true, eqb-false, eq-eqb, ne_eqb}
use Rattle.model.specs.Sizes.{most_sectors}
use Rattle.model.specs.Image.{Image, Sector, bytes, from_to, whole_sector, whole, look, done_or_fault, access, put}
use Rattle.store.specs.Stores.{laid, whole_sectors, stretch, most_of_pair, pair_fits, pair_sector, pair_image}
use Rattle.store.specs.Laid.{whole_laid, inside_laid, look_laid, put_laid, inside_accepted}
use Rattle.store.specs.Stretches.{count_most, room_for, length_stretch, Copied}

-- an image of two buffers, by their lengths
abbrev by_lengths : ℕ → ℕ → (ℕ → Sector) → Image
by_lengths m n f = laid (m == n && (m % 512 == 0 && nat_le m (512 * most_of_pair))) (from_to 0 (2 * (m / 512)) f)

-- the buffer of a sector, by whether its number is even
abbrev pub half : Bool → List ℕ → List ℕ → List ℕ
half b even odd = cond b even odd

pub is_even : (s : ℕ) → s % 2 ≡ 0 → (s % 2 == 0) ≡ true
is_even s e = eq-eqb (s % 2) 0 e

pub is_odd : (s : ℕ) → (s % 2 ≢ 0) → (s % 2 == 0) ≡ false
is_odd s e = ne_eqb (s % 2) 0 e

parity : (n : ℕ) (b : Bool) → (n % 2 == 0) ≡ b → n % 2 ≡ cond b 0 1
parity n true e = eqb-true (n % 2) 0 e
parity n false e = one n (eqb-false (n % 2) 0 e)
  where
    one : (n : ℕ) → (n % 2 ≢ 0) → n % 2 ≡ 1
    one n h = omega arith

-- two sectors of one buffer lie at two places
apart : (s t : ℕ) (b : Bool) → (t ≢ s) → (t % 2 == 0) ≡ b → (s % 2 == 0) ≡ b → t / 2 ≢ s / 2
apart s t b ne p q e = go s t ne (parity t b p ∙ sym (parity s b q)) e
  where
    go : (s t : ℕ) → (t ≢ s) → t % 2 ≡ s % 2 → t / 2 ≢ s / 2
    go s t ne p q = ne (omega arith)

module _ (even odd : List ℕ) where
  abbrev count : ℕ
  count = 2 * (length even / 512)

  fit_parts : pair_fits even odd ≡ true → ((length even == length odd) ≡ true) × (whole_sectors most_of_pair even ≡ true)
  fit_parts h = and_parts (length even == length odd) (whole_sectors most_of_pair even) h

  -- there is room for a sector's stretch in either buffer
  room : (b : Bool) (s : ℕ) → pair_fits even odd ≡ true → s < count → 512 * (s / 2) + 512 ≤ length (half b even odd)
  room b s h l = subst (λ n. 512 * (s / 2) + 512 ≤ n) (level b) (room_for (length even) (s / 2) (place (length even / 512) s l))
    where
      place : (n s : ℕ) → s < 2 * n → s / 2 < n
      place n s l = omega arith

      level : (b : Bool) → length even ≡ length (half b even odd)
      level true = refl
      level false = eqb-true (length even) (length odd) (fit_parts h).0

  pub pair_whole : whole (pair_image even odd) ≡ true
  pair_whole = whole_laid (pair_fits even odd) count (pair_sector even odd) few each
    where
      twice : (n : ℕ) → n ≤ most_of_pair → 2 * n ≤ most_sectors
      twice n l = omega arith

      few : pair_fits even odd ≡ true → count ≤ most_sectors
      few h = twice (length even / 512) (count_most most_of_pair even (fit_parts h).1)

      each : pair_fits even odd ≡ true → (s : ℕ) → s < count → whole_sector (pair_sector even odd s) ≡ true
      each h s l =
          let b = nat_eq (s % 2) 0 in
          eq-eqb (length (stretch (half b even odd) (s / 2))) 512 (length_stretch (half b even odd) (s / 2) (room b s h l))

  pair_look : (s : ℕ) (b : Bool) → s < length (pair_image even odd) → (s % 2 == 0) ≡ b → look (pair_image even odd) s ≡ Ok (stretch (half b even odd) (s / 2))
  pair_look s b l e = look_laid (pair_fits even odd) count (pair_sector even odd) s l ∙ ap (λ x. Ok (stretch (half x even odd) (s / 2))) e

  pub pair_live : (s : ℕ) → s < length (pair_image even odd) → access (pair_image even odd) s ≡ Ok tt
  pair_live s l = ap done_or_fault (pair_look s (s % 2 == 0) l refl)

  -- an accepted sector has room in its buffer, and its stretch stands there
  module _ (s : ℕ) (h : access (pair_image even odd) s ≡ Ok tt) where
    inside : s < length (pair_image even odd)
    inside = inside_accepted (pair_image even odd) s h

    pub pair_room : (b : Bool) → 512 * (s / 2) + 512 ≤ length (half b even odd)
    pair_room b = let within = inside_laid (pair_fits even odd) count (pair_sector even odd) s inside in room b s within.0 within.1

    pub pair_seen : (b : Bool) → (s % 2 == 0) ≡ b → look (pair_image even odd) s ≡ Ok (stretch (half b even odd) (s / 2))
    pair_seen b e = pair_look s b inside e

    -- `after` takes the place of the buffer that the sector lies in
    pub pair_put : (b : Bool) (after new : List ℕ) → (s % 2 == 0) ≡ b → Copied (half b even odd) (s / 2) new after → pair_image (cond b after even) (cond b odd after) ≡ put (pair_image even odd) s new
    pair_put b after new e c =
        long b (pair_sector (cond b after even) (cond b odd after)) c
        ∙ sym (put_laid (pair_fits even odd) count (pair_sector even odd) (pair_sector (cond b after even) (cond b odd after)) s (stretch (half (s % 2 == 0) even odd) (s / 2)) new inside refl (here b e c) others)
      where
        long : (b : Bool) (f : ℕ → Sector) → Copied (half b even odd) (s / 2) new after → by_lengths (length (cond b after even)) (length (cond b odd after)) f ≡ by_lengths (length even) (length odd) f
        long true f c = ap (λ m. by_lengths m (length odd) f) c.long
        long false f c = ap (λ n. by_lengths (length even) n f) c.long

        here : (b : Bool) → (s % 2 == 0) ≡ b → Copied (half b even odd) (s / 2) new after → pair_sector (cond b after even) (cond b odd after) s ≡ bytes new
        here true e c = ap (λ x. bytes (stretch (half x after odd) (s / 2))) e ∙ ap bytes c.at
        here false e c = ap (λ x. bytes (stretch (half x even after) (s / 2))) e ∙ ap bytes c.at

        same : (t : ℕ) (a b : Bool) → (t ≢ s) → (t % 2 == 0) ≡ a → (s % 2 == 0) ≡ b → Copied (half b even odd) (s / 2) new after → stretch (half a (cond b after even) (cond b odd after)) (t / 2) ≡ stretch (half a even odd) (t / 2)
        same t true true ne p q c = c.others (t / 2) (apart s t true ne p q)
        same t false false ne p q c = c.others (t / 2) (apart s t false ne p q)
        same t true false ne p q c = refl
        same t false true ne p q c = refl

        others : (t : ℕ) → t < count → (t ≢ s) → pair_sector (cond b after even) (cond b odd after) t ≡ pair_sector even odd t
        others t l ne = ap bytes (same t (t % 2 == 0) b ne refl e c)
