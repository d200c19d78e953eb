-- The flat store: what stands at a sector, and what a write to its stretch makes of the image.
use Rattle.std.specs.Prelude.{◌≡◌, ℕ, ◌+◌, ◌*◌, ◌/◌, ◌%◌, ◌<◌, ◌≤◌, Bool, true, false, cond, ◌&&◌, ◌⊎◌, List, length, Ok, Err, ◌==◌, ◌≢◌, nat_eq, nat_le, refl}
use Rattle.std.proofs.Common.{sym, ap, ◌∙◌, inl, inr}
use Rattle.std.proofs.lemmas.List.Elements.{contains_decides}
use Rattle.std.proofs.lemmas.Bool.{and_parts, eq-eqb, cases_Bool}
use Rattle.std.proofs.lemmas.Bool.Decides.{same_from_decides, Decides-eqb, Decides-like, Decides-by_or}
use Rattle.std.specs.List.{IsAnyAnswer}
use Rattle.model.specs.Sizes.{most_sectors}
use Rattle.model.specs.Image.{Image, Sector, bytes, dead, from_to, whole_sector, whole, dead_at, seen, look, done_or_fault, access, put}
use Rattle.store.specs.Stores.{laid, member, most_listed, whole_sectors, stretch, flat_fits, flat_sector, flat_image}
use Rattle.store.specs.Laid.{whole_laid, inside_laid, look_laid, put_laid, inside_accepted, never_both}
use Rattle.store.specs.Stretches.{count_most, room_for, length_stretch, Copied}

-- what `contains` answers
pub contains_member : (s : ℕ) (xs : List ℕ) (r : Bool) → IsAnyAnswer (λ y t. nat_eq y s ≡ t) xs r → r ≡ member s xs
contains_member s xs r h =
    same_from_decides r (member s xs) (contains_decides nat_eq Decides-eqb xs s r h) (Decides-by_or (nat_eq s) (λ x. x ≡ s) (member s) (λ x. Decides-like (s == x) sym sym (Decides-eqb s x)) refl (λ _ _. refl) xs)

-- a flat image, by the length of its buffer
abbrev by_length : List ℕ → ℕ → (ℕ → Sector) → Image
by_length deads m f =
    laid (m % 512 == 0 && nat_le m (512 * most_sectors) && nat_le (length deads) most_listed) (from_to 0 (m / 512) f)

module _ (buffer deads : List ℕ) where
  abbrev count : ℕ
  count = length buffer / 512

  pub flat_whole : whole (flat_image buffer deads) ≡ true
  flat_whole = whole_laid (flat_fits buffer deads) count (flat_sector buffer deads) few each
    where
      few : flat_fits buffer deads ≡ true → count ≤ most_sectors
      few h = count_most most_sectors buffer (and_parts (whole_sectors most_sectors buffer) (nat_le (length deads) most_listed) h).0

      each : flat_fits buffer deads ≡ true → (s : ℕ) → s < count → whole_sector (flat_sector buffer deads s) ≡ true
      each h s l = go (member s deads)
        where
          go : (b : Bool) → whole_sector (cond b (dead s 0) (bytes (stretch buffer s))) ≡ true
          go true = refl
          go false = eq-eqb (length (stretch buffer s)) 512 (length_stretch buffer s (room_for (length buffer) s l))

  flat_look : (s : ℕ) (b : Bool) → s < length (flat_image buffer deads) → member s deads ≡ b → look (flat_image buffer deads) s ≡ seen (cond b (dead s 0) (bytes (stretch buffer s)))
  flat_look s b l e =
      look_laid (flat_fits buffer deads) count (flat_sector buffer deads) s l ∙ ap (λ x. seen (cond x (dead s 0) (bytes (stretch buffer s)))) e

  pub flat_access : (s : ℕ) (b : Bool) → member s deads ≡ b → s < length (flat_image buffer deads) → access (flat_image buffer deads) s ≡ cond b (Err (dead_at s 0)) (Ok tt)
  flat_access s true e l = ap done_or_fault (flat_look s true l e)
  flat_access s false e l = ap done_or_fault (flat_look s false l e)

  -- an accepted sector has room in the buffer, and its stretch stands there
  module _ (s : ℕ) (h : access (flat_image buffer deads) s ≡ Ok tt) where
    inside : s < length (flat_image buffer deads)
    inside = inside_accepted (flat_image buffer deads) s h

    pub flat_room : 512 * s + 512 ≤ length buffer
    flat_room = room_for (length buffer) s (inside_laid (flat_fits buffer deads) count (flat_sector buffer deads) s inside).1

    alive : member s deads ≡ false
    alive = go (cases_Bool (member s deads))
      where
        go : (member s deads ≡ true) ⊎ (member s deads ≡ false) → member s deads ≡ false
        go (inl e) = absurd (never_both (dead_at s 0) (sym (flat_access s true e inside) ∙ h))
        go (inr e) = e

    pub flat_seen : look (flat_image buffer deads) s ≡ Ok (stretch buffer s)
    flat_seen = flat_look s false inside alive

    pub flat_put : (after new : List ℕ) → Copied buffer s new after → flat_image after deads ≡ put (flat_image buffer deads) s new
    flat_put after new c =
        ap (λ m. by_length deads m (flat_sector after deads)) c.long
        ∙ sym (put_laid (flat_fits buffer deads) count (flat_sector buffer deads) (flat_sector after deads) s (stretch buffer s) new inside (served buffer) (served after ∙ ap bytes c.at) others)
      where
        served : (xs : List ℕ) → flat_sector xs deads s ≡ bytes (stretch xs s)
        served xs = ap (λ b. cond b (dead s 0) (bytes (stretch xs s))) alive

        others : (t : ℕ) → t < count → (t ≢ s) → flat_sector after deads t ≡ flat_sector buffer deads t
        others t l ne = ap (λ x. cond (member t deads) (dead t 0) (bytes x)) (c.others t ne)
