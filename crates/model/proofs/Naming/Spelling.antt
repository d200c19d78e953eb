-- How names are spelt in a path and in an entry, and the last name of a path.
use Rattle.std.proofs.Common.{◌≡◌, ℕ, zero, suc, ◌-◌, ◌<◌, ◌≤◌, Bool, true, false, cond, not, ◌&&◌, eqb, leb, List, [], ◌∷◌, ◌++◌, length, get_or, replicate, sym, refl, ap, ◌∙◌, ap₂, arith, length-append}
use lib.Dec.{eqb-suc-zero}
use lib.ListN.{length-replicate}
use Rattle.std.proofs.lemmas.Bool.{and_from, and_parts, eqb-true, false≢true, leb-true, not_from_false}
use Rattle.model.specs.Names.{names, spelt, Name, Path, proper_byte, all_proper, proper_name, all_names, onto, cut, spelt_or_empty, padded}
use Rattle.model.specs.Tables.{trimmed}
use Rattle.model.specs.Book.{parent, last}

-- names in entries ---------------------------------------------------------------------------------

trimmed_zeros : (k : ℕ) → trimmed (replicate k 0) ≡ []
trimmed_zeros zero = refl
trimmed_zeros (suc k) = refl

proper_not_zero : (b : ℕ) → proper_byte b ≡ true → eqb b 0 ≡ false
proper_not_zero zero e = absurd (false≢true e)
proper_not_zero (suc b) e = eqb-suc-zero b

trimmed-append : (n : List ℕ) (zs : List ℕ) → all_proper n ≡ true → trimmed zs ≡ [] → trimmed (n ++ zs) ≡ n
trimmed-append [] zs e z = z
trimmed-append (b ∷ n) zs e z = let h = and_parts (proper_byte b) (all_proper n) e in let g : eqb b 0 ≡ false = proper_not_zero b h.0 in rw (g, trimmed-append n zs h.1 z)

pub trimmed-padded : (n : List ℕ) → proper_name n ≡ true → trimmed (padded n) ≡ n
trimmed-padded n e = trimmed-append n (replicate (15 - length n) 0) (and_parts (leb 1 (length n) && leb (length n) 15) (all_proper n) e).1 (trimmed_zeros (15 - length n))

-- a name in full is that of a live entry
pub padded-live : (n : List ℕ) → proper_name n ≡ true → not (eqb (get_or (padded n) 0 0) 0) ≡ true
padded-live [] e = absurd (false≢true e)
padded-live (b ∷ n) e = not_from_false (eqb b 0) (proper_not_zero b (and_parts (proper_byte b) (all_proper n) (and_parts (leb 1 (suc (length n)) && leb (suc (length n)) 15) (proper_byte b && all_proper n) e).1).0)

pub proper_parts : (n : Name) → proper_name n ≡ true → (1 ≤ length n) × (length n ≤ 15) × (all_proper n ≡ true)
proper_parts n h =
    let u = and_parts (leb 1 (length n) && leb (length n) 15) (all_proper n) h in
    let v = and_parts (leb 1 (length n)) (leb (length n) 15) u.0 in
    (leb-true 1 (length n) v.0, leb-true (length n) 15 v.1, u.1)

pub length-padded : (n : Name) → length n ≤ 15 → length (padded n) ≡ 15
length-padded n h = omega (arith, length-append n (replicate (15 - length n) 0), length-replicate {A = ℕ} (15 - length n) 0)

pub padded-same : (n m : Name) → proper_name n ≡ true → proper_name m ≡ true → padded n ≡ padded m → n ≡ m
padded-same n m p q e = sym (trimmed-padded n p) ∙ ap trimmed e ∙ trimmed-padded m q

-- paths as bytes ----------------------------------------------------------------------------------

pub spelt-names : (p : List ℕ) → spelt p ≡ true → all_names (names p) ≡ true
spelt-names [] e = refl
spelt-names (b ∷ p) e = e

pub empty-names : (p : List ℕ) → spelt_or_empty p ≡ true → all_names (names p) ≡ true
empty-names [] e = refl
empty-names (b ∷ p) e = e

rest : Path → List ℕ
rest [] = []
rest (n ∷ ns) = 0x2f ∷ (n ++ rest ns)

join : Path → List ℕ
join [] = []
join (n ∷ ns) = n ++ rest ns

onto_some : (b : ℕ) (ns : Path) → onto b ns ≡ [] → ⊥
onto_some b [] e = let z : ◌≡◌ {A = ℕ} 1 0 = ap length e in omega arith
onto_some b (n ∷ ns) e = let z : ◌≡◌ {A = ℕ} (suc (length ns)) 0 = ap length e in omega arith

cut_some : (bs : List ℕ) → cut bs ≡ [] → ⊥
cut_some [] e = let z : ◌≡◌ {A = ℕ} 1 0 = ap length e in omega arith
cut_some (b ∷ bs) e = go (eqb b 0x2f) e
  where
    go : (x : Bool) → cond x ([] ∷ cut bs) (onto b (cut bs)) ≡ [] → ⊥
    go true e = let z : ◌≡◌ {A = ℕ} (suc (length (cut bs))) 0 = ap length e in omega arith
    go false e = onto_some b (cut bs) e

pub spelt_some : (p : List ℕ) → spelt p ≡ true → names p ≡ [] → ⊥
spelt_some [] e h = false≢true e
spelt_some (b ∷ p) e h = cut_some (b ∷ p) h

join_onto : (b : ℕ) (ns : Path) → join (onto b ns) ≡ b ∷ join ns
unfolding join rest
join_onto b [] = refl
join_onto b (n ∷ ns) = refl

join_cut : (bs : List ℕ) → join (cut bs) ≡ bs
unfolding join rest
join_cut [] = refl
join_cut (b ∷ bs) = go (eqb b 0x2f) refl (cut bs) (cut_some bs) (join_cut bs)
  where
    go : (x : Bool) → eqb b 0x2f ≡ x → (ns : Path) → (ns ≡ [] → ⊥) → join ns ≡ bs → join (cond x ([] ∷ ns) (onto b ns)) ≡ b ∷ bs
    go true h [] k e = absurd (k refl)
    go true h (n ∷ ns) k e = ap₂ ◌∷◌ (sym (eqb-true b 0x2f h)) e
    go false h ns k e = join_onto b ns ∙ ap (λ xs. b ∷ xs) e

pub names_tell : (p q : List ℕ) → names p ≡ names q → p ≡ q
names_tell [] [] e = refl
names_tell [] (b ∷ q) e = absurd (cut_some (b ∷ q) (sym e))
names_tell (a ∷ p) [] e = absurd (cut_some (a ∷ p) e)
names_tell (a ∷ p) (b ∷ q) e = sym (join_cut (a ∷ p)) ∙ ap join e ∙ join_cut (b ∷ q)

-- the last name -----------------------------------------------------------------------------------

pub parent-last : (n : Name) (ns : Path) → n ∷ ns ≡ parent (n ∷ ns) ++ last (n ∷ ns) ∷ []
parent-last n [] = refl
parent-last n (m ∷ ns) = ap (λ p. n ∷ p) (parent-last m ns)

pub parent-names : (ns : Path) → all_names ns ≡ true → all_names (parent ns) ≡ true
parent-names [] e = refl
parent-names (n ∷ []) e = refl
parent-names (n ∷ m ∷ ns) e = let a = and_parts (proper_name n) (all_names (m ∷ ns)) e in and_from (proper_name n) (all_names (parent (m ∷ ns))) a.0 (parent-names (m ∷ ns) a.1)

pub last_name : (n : Name) (ns : Path) → all_names (n ∷ ns) ≡ true → proper_name (last (n ∷ ns)) ≡ true
last_name n [] e = (and_parts (proper_name n) true e).0
last_name n (m ∷ ns) e = last_name m ns (and_parts (proper_name n) (all_names (m ∷ ns)) e).1

pub last-spelt : (p : List ℕ) → spelt p ≡ true → proper_name (last (names p)) ≡ true
last-spelt p s = go (names p) (spelt_some p s) (spelt-names p s)
  where
    go : (ns : Path) → (ns ≡ [] → ⊥) → all_names ns ≡ true → proper_name (last ns) ≡ true
    go [] ne a = absurd (ne refl)
    go (n ∷ ns) ne a = last_name n ns a

pub names_push : (p : Path) (m : Name) → all_names p ≡ true → proper_name m ≡ true → all_names (p ++ m ∷ []) ≡ true
names_push [] m h k = and_from (proper_name m) true k refl
names_push (n ∷ p) m h k = let a = and_parts (proper_name n) (all_names p) h in and_from (proper_name n) (all_names (p ++ m ∷ [])) a.0 (names_push p m a.1 k)

pub parent_push : (p : Path) (m : Name) → parent (p ++ m ∷ []) ≡ p
parent_push [] m = refl
parent_push (n ∷ []) m = refl
parent_push (n ∷ x ∷ p) m = ap (λ q. n ∷ q) (parent_push (x ∷ p) m)

-- a path is its parent and its last name
pub rejoin : (p : Path) → 1 ≤ length p → p ≡ parent p ++ last p ∷ []
rejoin [] h = absurd (omega arith)
rejoin (n ∷ ns) h = parent-last n ns

pub length-parent : (p : Path) → 1 ≤ length p → length (parent p) < length p
length-parent p h =
    let e = ap length (rejoin p h) in
    omega (arith, length-append (parent p) (last p ∷ []))

pub last_proper : (p : Path) → 1 ≤ length p → all_names p ≡ true → proper_name (last p) ≡ true
last_proper [] h a = absurd (omega arith)
last_proper (n ∷ ns) h a = last_name n ns a
