-- The blank map, and what the four writes of format leave.
use Rattle.std.proofs.Common.{◌≡◌, ℕ, zero, suc, ◌+◌, ◌<◌, ◌≤◌, Bool, true, false, cond, not, eqb, ltb, leb, List, [], ◌∷◌, length, get_or, set, sym, refl, ap, ◌∙◌, ap₂, arith}
use Rattle.std.proofs.lemmas.List.{get_or-set_same, get_or-set_other}
use Rattle.std.proofs.lemmas.Bool.{eqb-true, eqb-false, and_from, le-leb, ltb-false}
use Rattle.model.specs.Image.{Image, look, is_ok, from_to}
use Rattle.model.specs.Volume.{blank_mark}
use Rattle.tables.specs.Rules.{unused_mark}
use Rattle.volume.specs.Blank.{Tells}

-- the bytes below n are those of f
abbrev pub Below : List ℕ → (ℕ → ℕ) → ℕ → Type 0
Below bs f n = (k : ℕ) → k < n → get_or bs k 0 ≡ f k

pub below_more : (bs : List ℕ) (f : ℕ → ℕ) (n b : ℕ) → n < length bs → b ≡ f n → Below bs f n → Below (set bs n b) f (n + 1)
below_more bs f n b l e h k hi = go (eqb k n) refl
  where
    go : (c : Bool) → eqb k n ≡ c → get_or (set bs n b) k 0 ≡ f k
    go true q = let same = eqb-true k n q in ap (λ (x : ℕ). get_or (set bs n b) x 0) same ∙ get_or-set_same bs n b 0 l ∙ e ∙ ap f (sym same)
    go false q = let ne = eqb-false k n q in get_or-set_other bs n k b 0 ne ∙ h k (omega (arith, ne))

-- a list is the table of the function that it has at each place
pub tabled : (a n : ℕ) (f : ℕ → ℕ) (bs : List ℕ) → length bs ≡ n → ((k : ℕ) → k < n → get_or bs k 0 ≡ f (a + k)) → bs ≡ from_to a n f
tabled a zero f [] l h = refl
tabled a zero f (b ∷ bs) l h = absurd (omega arith)
tabled a (suc n) f [] l h = absurd (omega arith)
tabled a (suc n) f (b ∷ bs) l h =
    let z : a + 0 ≡ a = omega arith in
    ap₂ ◌∷◌ (h 0 (omega arith) ∙ ap f z) (tabled (suc a) n f bs (omega arith) (λ k m. h (suc k) (omega arith) ∙ (let q : a + suc k ≡ suc a + k = omega arith in ap f q)))

pub whole-map : (f : ℕ → ℕ) (bs : List ℕ) (n : ℕ) → length bs ≡ 512 → 512 ≤ n → Below bs f n → bs ≡ from_to 0 512 f
whole-map f bs n l m h = tabled 0 512 f bs l (λ k b. h k (omega arith) ∙ (let q : k ≡ 0 + k = omega arith in ap f q))

-- an array that tells which data sectors are dead gives the map of the image
blank-same : (dead : List Bool) (i : Image) → Tells dead i → (s : ℕ) → unused_mark dead s ≡ blank_mark i s
blank-same dead i tells s = go (ltb s 0x0b) refl (ltb 0xff s) refl
  where
    turned : (b : Bool) → ◌≡◌ {A = ℕ} (cond (not b) 0xfe 0) (cond b 0 0xfe)
    turned true = refl
    turned false = refl

    go : (p : Bool) → ltb s 0x0b ≡ p → (q : Bool) → ltb 0xff s ≡ q → ◌≡◌ {A = ℕ} (cond p 0xff (cond q 0 (cond (get_or dead s true) 0xfe 0))) (cond p 0xff (cond q 0 (cond (is_ok (look i s)) 0 0xfe)))
    go true e q f = refl
    go false e true f = refl
    go false e false f = ap (λ (b : Bool). cond b 0xfe 0) (tells s (and_from (leb 0x0b s) (leb s 0xff) (le-leb 0x0b s (ltb-false s 0x0b e)) (le-leb s 0xff (ltb-false 0xff s f)))) ∙ turned (is_ok (look i s))

table_same : (a n : ℕ) (f g : ℕ → ℕ) → ((s : ℕ) → f s ≡ g s) → from_to a n f ≡ from_to a n g
table_same a zero f g h = refl
table_same a (suc n) f g h = ap₂ ◌∷◌ (h a) (table_same (suc a) n f g h)

pub blank_maps : (dead : List Bool) (i : Image) → Tells dead i → from_to 0 512 (unused_mark dead) ≡ from_to 0 512 (blank_mark i)
blank_maps dead i tells = table_same 0 512 (unused_mark dead) (blank_mark i) (blank-same dead i tells)
