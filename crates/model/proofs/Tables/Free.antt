-- The free data sectors, those that a write is given, and the bodies that stay.
use Rattle.std.proofs.Common.{◌≡◌, ℕ, zero, suc, ◌+◌, ◌*◌, ◌/◌, ◌%◌, ◌<◌, ◌≤◌, Bool, true, false, cond, not, ◌&&◌, eqb, leb, ◌⊎◌, List, [], ◌∷◌, length, get_or, sym, refl, ap, ◌∙◌, inl, inr, arith}
use Rattle.std.proofs.lemmas.List.{length-take-le}
use Rattle.std.proofs.lemmas.Bool.{and_from, and_parts, eqb-true, false≢true, leb-true, not_from_false, or_cases, false_from_ne_true}
use Rattle.model.specs.Image.{Image, look, is_ok}
use Rattle.model.specs.Tables.{Tables, used, member, distinct}
use Rattle.model.specs.History.{whole_sectors}
use Rattle.model.specs.Volume.{body, free_from, free_sectors, room_for, given}
use Rattle.model.specs.Sound.{Shaped, Live, ProperRow, Sound}
use Rattle.model.proofs.Common.Members.{take-member, take-distinct}
use Rattle.model.proofs.Store.Bodies.{body_same}
use Rattle.model.proofs.Tables.Places.{used-at, named-member}
use Rattle.model.proofs.Tables.Rules.{data_range, data_from}

pub row_same : (i j : Image) (r : List ℕ) → ProperRow i r → ((s : ℕ) → s ≤ 255 → look j s ≡ look i s) → body j (used r) ≡ body i (used r)
row_same i j r p h = body_same i j (used r) (λ k l. ap (look j) (used-at r k l) ∙ h (get_or r k 0) (data_range (get_or r k 0) (p.stored k l).0).1 ∙ ap (look i) (sym (used-at r k l)))

-- free sectors -------------------------------------------------------------------------------------

abbrev Free : List ℕ → ℕ → ℕ → ℕ → Type 0
Free ms s n x = (s ≤ x) × (x < s + n) × (get_or ms x 1 ≡ 0)

free-member : (ms : List ℕ) (n s x : ℕ) → member x (free_from ms s n) ≡ true → Free ms s n x
free-member ms zero s x h = absurd (false≢true h)
free-member ms (suc n) s x h = go (eqb (get_or ms s 1) 0) refl h (free-member ms n (suc s) x)
  where
    wider : Free ms (suc s) n x → Free ms s (suc n) x
    wider f = let a = f.0 in let b = f.1 in (omega arith, omega arith, f.2)

    pick : get_or ms s 1 ≡ 0 → (eqb x s ≡ true) ⊎ (member x (free_from ms (suc s) n) ≡ true) → (member x (free_from ms (suc s) n) ≡ true → Free ms (suc s) n x) → Free ms s (suc n) x
    pick z (inl e) ih = let q = eqb-true x s e in (omega arith, omega arith, ap (λ y. get_or ms y 1) q ∙ z)
    pick z (inr k) ih = wider (ih k)

    go : (b : Bool) → eqb (get_or ms s 1) 0 ≡ b → member x (cond b (s ∷ free_from ms (suc s) n) (free_from ms (suc s) n)) ≡ true → (member x (free_from ms (suc s) n) ≡ true → Free ms (suc s) n x) → Free ms s (suc n) x
    go true z k ih = pick (eqb-true (get_or ms s 1) 0 z) (or_cases (eqb x s) (member x (free_from ms (suc s) n)) k) ih
    go false z k ih = wider (ih k)

free-distinct : (ms : List ℕ) (n s : ℕ) → distinct (free_from ms s n) ≡ true
free-distinct ms zero s = refl
free-distinct ms (suc n) s = go (eqb (get_or ms s 1) 0) (free-distinct ms n (suc s))
  where
    go : (b : Bool) → distinct (free_from ms (suc s) n) ≡ true → distinct (cond b (s ∷ free_from ms (suc s) n) (free_from ms (suc s) n)) ≡ true
    go true ih = and_from (not (member s (free_from ms (suc s) n))) (distinct (free_from ms (suc s) n)) (not_from_false (member s (free_from ms (suc s) n)) (false_from_ne_true (member s (free_from ms (suc s) n)) (λ h. let f = (free-member ms n (suc s) s h).0 in omega arith))) ih
    go false ih = ih

-- the sectors given -------------------------------------------------------------------------------

module _ (i : Image) (t : Tables) (shaped : Shaped t) (s : Sound i t) where
  pub record Spare (x : ℕ) : Type 0 where
    pub least : 11 ≤ x
    pub most : x ≤ 255
    pub alive : is_ok (look i x) ≡ true
    pub unmarked : get_or t.marks x 1 ≡ 0

  spare : (n x : ℕ) → Free t.marks 11 n x → n ≡ 245 → Spare x
  spare n x f e = record { least = f.0; most = b; alive = go (is_ok (look i x)) refl; unmarked = f.2 }
    where
      b : x ≤ 255
      b = let z = f.1 in omega arith

      go : (v : Bool) → is_ok (look i x) ≡ v → is_ok (look i x) ≡ true
      go true h = h
      go false h = let z : ◌≡◌ {A = ℕ} 0xfe 0 = sym (s.dead_marked x (data_from x f.0 b) h) ∙ f.2 in absurd (omega arith)

  pub given-spare : (w : List ℕ) (x : ℕ) → member x (given t w) ≡ true → Spare x
  given-spare w x h = spare 245 x (free-member t.marks 245 11 x (take-member (length w / 512) x (free_sectors t) h)) refl

  pub given-distinct : (w : List ℕ) → distinct (given t w) ≡ true
  given-distinct w = take-distinct (length w / 512) (free_sectors t) (free-distinct t.marks 245 11)

  pub given-length : (w : List ℕ) → whole_sectors w ≡ true → room_for t w ≡ true → length w ≡ 512 * length (given t w)
  given-length w h r =
      let a = eqb-true (length w % 512) 0 (and_parts (eqb (length w % 512) 0) (leb 512 (length w)) (and_parts (eqb (length w % 512) 0 && leb 512 (length w)) (leb (length w) 8192) h).0).0 in
      let b = length-take-le (length w / 512) (free_sectors t) (leb-true (length w / 512) (length (free_sectors t)) r) in
      count (length w) (length (given t w)) a b
    where
      count : (l k : ℕ) → l % 512 ≡ 0 → k ≡ l / 512 → l ≡ 512 * k
      count l k p q = omega arith

  -- no live file names a spare sector
  pub row_elsewhere : (j : Image) (ss : List ℕ) → ((x : ℕ) → member x ss ≡ true → Spare x) → ((r : ℕ) → r ≤ 255 → member r ss ≡ false → look j r ≡ look i r) → (k : ℕ) → Live t.files k → body j (used (get_or t.rows k [])) ≡ body i (used (get_or t.rows k []))
  row_elsewhere j ss sp h k l = body_same i j (used (get_or t.rows k [])) (λ n m. ap (look j) (used-at (get_or t.rows k []) n m) ∙ at n m ∙ ap (look i) (sym (used-at (get_or t.rows k []) n m)))
    where
      proper : ProperRow i (get_or t.rows k [])
      proper = s.rows_proper k l

      at : (n : ℕ) → n < length (used (get_or t.rows k [])) → look j (get_or (get_or t.rows k []) n 0) ≡ look i (get_or (get_or t.rows k []) n 0)
      at n m =
          let x = get_or (get_or t.rows k []) n 0 in
          let o = proper.stored n m in
          h x (data_range x o.0).1 (false_from_ne_true (member x ss) (λ e. clash x (sp x e).unmarked (s.used_marked x o.0 o.1 (named-member t shaped k n x (l.0, l.1, m, refl)))))
        where
          clash : (x : ℕ) → get_or t.marks x 1 ≡ 0 → get_or t.marks x 1 ≡ 0xff → ⊥
          clash x p q = let z : ◌≡◌ {A = ℕ} 0 0xff = sym p ∙ q in omega arith
