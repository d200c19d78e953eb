-- Whole sectors in a buffer, and a write to one stretch: what stands there after it, and that every other stays.
use Rattle.std.specs.Prelude.{◌≡◌, ℕ, ◌+◌, ◌-◌, ◌*◌, ◌/◌, ◌%◌, ◌<◌, ◌≤◌, true, ◌⊎◌, List, ◌++◌, length, Ok, take, drop, vec_items, Vec, ◌==◌, ◌≢◌, nat_le}
use Rattle.std.proofs.Common.{sym, ap, ap₂, subst, ◌∙◌, inl, inr, arith}
use borrow.Rule.Slice.PartMut.{put_mid, post_of}
use Rattle.std.proofs.lemmas.List.{length-take-le, length-drop, take_at, take-take, take-append-le, drop_at, drop-take, drop-append-le, with_items_is}
use Rattle.std.proofs.lemmas.Slice.{drop-put_mid}
use Rattle.std.proofs.lemmas.Bool.{cases_order, and_parts, leb-true}
use Rattle.std.specs.Vec.{with_items}
use Rattle.std.specs.declared.alloc.Global.{Global}
use Rattle.model.specs.Image.{Image, look, filled}
use Rattle.store.specs.Stores.{stretch, whole_sectors}
use Rattle.store.specs.Tabled.{filled_at}

-- a buffer that fits has n stretches at most, and each is whole
pub count_most : (n : ℕ) (buffer : List ℕ) → whole_sectors n buffer ≡ true → length buffer / 512 ≤ n
count_most n buffer h = go (length buffer) (leb-true (length buffer) (512 * n) (and_parts (length buffer % 512 == 0) (nat_le (length buffer) (512 * n)) h).1)
  where
    go : (m : ℕ) → m ≤ 512 * n → m / 512 ≤ n
    go m l = omega arith

pub room_for : (m s : ℕ) → s < m / 512 → 512 * s + 512 ≤ m
room_for m s l = omega arith

-- the same of a slice of the buffer's bytes, at a place of the same value
pub room_at : (was buffer : List ℕ) (k s : ℕ) → was ≡ buffer → k ≡ s → 512 * s + 512 ≤ length buffer → 512 * k + 512 ≤ length was
room_at was buffer k s e q l = subst (λ xs. 512 * k + 512 ≤ length xs) (sym e) (subst (λ n. 512 * n + 512 ≤ length buffer) (sym q) l)

-- what is copied out of a stretch is what stands at the sector that lies there
pub filled_from : (i : Image) (s k j : ℕ) (old buffer was out : List ℕ) → look i s ≡ Ok (stretch buffer k) → was ≡ buffer → j ≡ k → out ≡ stretch was j → out ≡ filled i s old
filled_from i s k j old buffer was out seen e q o = o ∙ (ap₂ stretch e q ∙ sym (filled_at i s old (Ok (stretch buffer k)) seen))

pub length_stretch : (buffer : List ℕ) (s : ℕ) → 512 * s + 512 ≤ length buffer → length (stretch buffer s) ≡ 512
length_stretch buffer s l =
    length-take-le 512 (drop (512 * s) buffer) (subst (λ m. 512 ≤ m) (sym (length-drop (512 * s) buffer)) (go (length buffer) l))
  where
    go : (m : ℕ) → 512 * s + 512 ≤ m → 512 ≤ m - 512 * s
    go m p = omega arith

-- a part of a list that is written over
pub here : {X : Type 0} (a m w : ℕ) (xs ys : List X) → a ≤ length xs → length ys ≡ w → take w (drop a (put_mid a m xs ys)) ≡ ys
here a m w xs ys l e =
    ap (take w) (drop_at (take a xs) (ys ++ post_of a m xs) a (length-take-le a xs l)) ∙ take_at ys (post_of a m xs) w e

pub below : {X : Type 0} (a m w b : ℕ) (xs ys : List X) → b + w ≤ a → a ≤ length xs → take w (drop b (put_mid a m xs ys)) ≡ take w (drop b xs)
below a m w b xs ys p l =
    let front : length (take a xs) ≡ a = length-take-le a xs l in
    let rest = ys ++ post_of a m xs in
    let within : b ≤ length (take a xs) = omega arith in
    let long : w ≤ length (drop b (take a xs)) = subst (λ n. w ≤ n) (sym (length-drop b (take a xs))) (omega arith) in
    let split : b + (a - b) ≡ a = omega arith in
    let short : w ≤ a - b = omega arith in
    ap (take w) (drop-append-le b (take a xs) rest within)
    ∙ (take-append-le w (drop b (take a xs)) rest long
    ∙ (ap (λ n. take w (drop b (take n xs))) (sym split)
    ∙ (ap (take w) (drop-take b (a - b) xs) ∙ take-take w (a - b) (drop b xs) short)))

pub above : {X : Type 0} (a m w b : ℕ) (xs ys : List X) → a + m ≤ b → a ≤ length xs → length ys ≡ m → take w (drop b (put_mid a m xs ys)) ≡ take w (drop b xs)
above a m w b xs ys p l e = ap (take w) (drop-put_mid a m xs ys b p l e)

-- the same in stretches
pub stretch_here : (k m : ℕ) (xs ys : List ℕ) → 512 * k + 512 ≤ length xs → length ys ≡ 512 → stretch (put_mid (512 * k) m xs ys) k ≡ ys
stretch_here k m xs ys l e = here (512 * k) m 512 xs ys (omega arith) e

pub stretch_other : (k m j : ℕ) (xs ys : List ℕ) → 512 * k + 512 ≤ length xs → length ys ≡ m → m ≡ 512 → (j ≢ k) → stretch (put_mid (512 * k) m xs ys) j ≡ stretch xs j
stretch_other k m j xs ys l e w ne = go (cases_order j k)
  where
    go : (j ≡ k) ⊎ ((j < k) ⊎ (k < j)) → stretch (put_mid (512 * k) m xs ys) j ≡ stretch xs j
    go (inl q) = absurd (ne q)
    go (inr (inl q)) = below (512 * k) m 512 (512 * j) xs ys (omega arith) (omega arith)
    go (inr (inr q)) = above (512 * k) m 512 (512 * j) xs ys (omega arith) (omega arith) e

-- ys is xs with the stretch k replaced
pub record Copied (xs : List ℕ) (k : ℕ) (new ys : List ℕ) : Type 0 where
  pub long : length ys ≡ length xs
  pub at : stretch ys k ≡ new
  pub others : (j : ℕ) → (j ≢ k) → stretch ys j ≡ stretch xs j

-- a Vec whose slice `was` had one stretch replaced in place, so that it `is` now another
pub copied : (v : Vec ℕ Global) (was is new : List ℕ) (k s : ℕ) → was ≡ vec_items v → length is ≡ length was → k ≡ s → stretch is k ≡ new → ((j : ℕ) → (j ≢ k) → stretch is j ≡ stretch was j) → Copied (vec_items v) s new (vec_items (with_items v is))
copied v was is new k s e n q p o =
    let items : vec_items (with_items v is) ≡ is = with_items_is v is (n ∙ (ap length e ∙ sym v.ok.0)) in
    subst (λ ys. Copied (vec_items v) s new ys) (sym items)
    (subst (λ xs. Copied xs s new is) e
    (subst (λ m. Copied was m new is) q (record { long = n; at = p; others = o })))
