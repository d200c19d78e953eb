-- A layer over any store: what an access at one of its sectors meets, and what a write there leaves.
use Rattle.std.specs.Prelude.{◌≡◌, ℕ, ◌<◌, ◌≤◌, Bool, true, false, cond, List, length, Ok, slice_index_or, slice_set, refl}
use Rattle.std.proofs.Common.{sym, ap, subst, ◌∙◌, le_trans, arith}
use Rattle.std.proofs.lemmas.List.{get_or-set_same, get_or-set_other}
use Rattle.model.specs.Sizes.{most_sectors}
use Rattle.model.specs.Image.{Image, Sector, bytes, dead, whole, whole_sector, seen, look, done_or_fault, access, bytes_or, filled, put, risen}
use Rattle.store.specs.Stores.{laid, layered, placed}
use Rattle.store.specs.Through.{risen_answer, Leads}
use Rattle.store.specs.Tabled.{length_table, length_put, put_table, put_at, put_refused, look_table, look_inside, whole_table, get_or_whole, length_whole, access_at, filled_at}

-- one sector up ----------------------------------------------------------------------------------------------------

whole_risen : (x : Sector) → whole_sector x ≡ true → whole_sector (risen x) ≡ true
whole_risen (bytes b) h = h
whole_risen (dead p d) h = h

access_risen : (x : Sector) → done_or_fault (seen (risen x)) ≡ risen_answer (done_or_fault (seen x))
access_risen (bytes b) = refl
access_risen (dead p d) = refl

filled_risen : (x : Sector) (old : List ℕ) → bytes_or (seen (risen x)) old ≡ bytes_or (seen x) old
filled_risen (bytes b) old = refl
filled_risen (dead p d) old = refl

-- a layer that fits ------------------------------------------------------------------------------------------------

-- each of the c sectors is served by a sector of its own, of the n that are below
pub record Serves (n c : ℕ) (serve : ℕ → ℕ) : Type 0 where
  pub room : c ≤ n
  pub inside : (s : ℕ) → s < c → serve s < n
  pub apart : (s t : ℕ) → s < c → t < c → serve s ≡ serve t → s ≡ t

module _ (below : Image) (c : ℕ) (serve : ℕ → ℕ) where
  -- what stands at s below, and one layer up
  abbrev under : ℕ → Sector
  under s = slice_index_or below (serve s) (dead 0 0)

  abbrev over : ℕ → Sector
  over s = risen (under s)

  look_over : (s : ℕ) → s < c → look (layered below c serve) s ≡ seen (over s)
  look_over s h = look_table c over s h

  module _ (v : Serves (length below) c serve) where
    whole_layered : whole below ≡ true → whole (layered below c serve) ≡ true
    whole_layered w =
        whole_table c over (le_trans v.room (length_whole below w))
        (λ s l. whole_risen (under s) (get_or_whole below (serve s) w))

    module _ (s : ℕ) (h : s < c) where
      look_under : look below (serve s) ≡ seen (under s)
      look_under = look_inside below (serve s) (v.inside s h)

      access_layered : access (layered below c serve) s ≡ risen_answer (access below (serve s))
      access_layered =
          access_at (layered below c serve) s (seen (over s)) (look_over s h)
          ∙ (access_risen (under s) ∙ ap risen_answer (sym (access_at below (serve s) (seen (under s)) look_under)))

      filled_layered : (old : List ℕ) → filled (layered below c serve) s old ≡ filled below (serve s) old
      filled_layered old =
          filled_at (layered below c serve) s old (seen (over s)) (look_over s h)
          ∙ (filled_risen (under s) old ∙ sym (filled_at below (serve s) old (seen (under s)) look_under))

      -- a write goes to the one sector below that serves s, and so changes no other sector of the layer
      put_layered : (new : List ℕ) → layered (put below (serve s) new) c serve ≡ put (layered below c serve) s new
      put_layered new = go (under s) refl
        where
          go : (x : Sector) → under s ≡ x → layered (put below (serve s) new) c serve ≡ put (layered below c serve) s new
          go (dead p d) e =
              ap (λ i. layered i c serve) (put_refused below (serve s) new _ (look_under ∙ ap seen e))
              ∙ sym (put_refused (layered below c serve) s new _ (look_over s h ∙ ap (λ x. seen (risen x)) e))
          go (bytes old) e =
              ap (λ i. layered i c serve) (put_at below (serve s) new (Ok old) (look_under ∙ ap seen e))
              ∙ sym (put_table c over (λ t. risen (slice_index_or (slice_set below (serve s) (bytes new)) (serve t) (dead 0 0))) s old new h (ap risen e)
              (ap risen (get_or-set_same below (serve s) (bytes new) (dead 0 0) (v.inside s h)))
              (λ t k ne. ap risen (get_or-set_other below (serve s) (serve t) (bytes new) (dead 0 0) (λ q. ne (v.apart t s k h q)))))

-- a layer as it is laid: whether it fits is read off the count of the sectors below --------------------------------------

length_laid : (b : Bool) (below : Image) (c : ℕ) (serve : ℕ → ℕ) → length (laid b (layered below c serve)) ≡ cond b c 0
length_laid true below c serve = length_table c (λ s. risen (slice_index_or below (serve s) (dead 0 0)))
length_laid false below c serve = refl

-- the size that a layer answers
pub size_fits : (b : Bool) (below : Image) (c : ℕ) (serve : ℕ → ℕ) → b ≡ true → c ≡ length (laid b (layered below c serve))
size_fits b below c serve e = sym (length_laid b below c serve ∙ ap (λ x. cond x c 0) e)

module _ (fits : ℕ → Bool) (c : ℕ) (serve : ℕ → ℕ) (sound : (n : ℕ) → fits n ≡ true → Serves n c serve) where
  abbrev up : Image → Image
  up i = placed fits c serve i

  pub layer_whole : (i : Image) → whole i ≡ true → whole (up i) ≡ true
  layer_whole i w = go (fits (length i)) refl
    where
      go : (b : Bool) → fits (length i) ≡ b → whole (laid b (layered i c serve)) ≡ true
      go true e = whole_layered i c serve (sound (length i) e) w
      go false e = refl

  -- a sector of the layer: the layer fits
  has : (i : Image) (s : ℕ) → s < length (up i) → (fits (length i) ≡ true) × (s < c)
  has i s l = go (fits (length i)) (subst (λ n. s < n) (length_laid (fits (length i)) i c serve) l)
    where
      go : (b : Bool) → s < cond b c 0 → (b ≡ true) × (s < c)
      go true k = (refl, k)
      go false k = absurd (omega arith)

  -- an access at a sector of the layer goes on to the one that serves it
  pub layer_leads : (i : Image) (s : ℕ) → s < length (up i) → Leads up i s (serve s)
  layer_leads i s l =
      let h = has i s l in
      let v = sound (length i) h.0 in
      let e : layered i c serve ≡ up i = ap (λ b. laid b (layered i c serve)) (sym h.0) in
      record {
        answer = ap (λ j. access j s) (sym e) ∙ access_layered i c serve v s h.1;
        reads = λ old. ap (λ j. filled j s old) (sym e) ∙ filled_layered i c serve v s h.1 old;
        writes =
            λ new.
            ap (λ j. put j s new) (sym e)
            ∙ (sym (put_layered i c serve v s h.1 new)
            ∙ (ap (λ b. laid b (layered (put i (serve s) new) c serve)) (sym h.0)
            ∙ ap (λ n. laid (fits n) (layered (put i (serve s) new) c serve)) (sym (length_put i (serve s) new))));
      }

  -- and so to the place that was found for it
  pub layer_found : (i : Image) (s p : ℕ) → whole i ≡ true → ((n : ℕ) → n ≤ most_sectors → fits n ≡ true → s < c → p ≡ serve s) → s < length (up i) → Leads up i s p
  layer_found i s p w found l =
      let h = has i s l in
      subst (Leads up i s) (sym (found (length i) (length_whole i w) h.0 h.1)) (layer_leads i s l)
