-- Pairs: when they fit one another and the store below, and that two visible sectors are never served by one.
use Rattle.std.specs.Prelude.{◌≡◌, ℕ, ◌<◌, ◌≤◌, Bool, true, false, cond, not, ◌&&◌, ◌||◌, ltb, leb, ◌⊎◌, List, [], ◌∷◌, length, Some, None, Option, Result, ◌==◌, ◌≢◌, nat_le, nat_lt, refl}
use Rattle.std.specs.List.{find, list_all, list_any}
use Rattle.std.specs.Option.{MatchOption, option_map}
use denote.Ref.{Bor}
use Rattle.std.proofs.Common.{sym, ap, ◌∙◌, inl, inr, arith}
use Rattle.std.proofs.lemmas.Bool.{ltb-true, leb-true, le-leb, eq-eqb, ne_eqb, cases_eq, and_parts, not-true, both_ways}
use Rattle.model.specs.declared.types.Refusal.{Refusal}
use Rattle.model.specs.Image.{Image, all}
use Rattle.store.specs.declared.spares.Spare.{Spare}
use Rattle.store.specs.Stores.{most_listed, member, distinct, sectors_of, spares_of, pairs_fit, spares_fit, fit_answer, served}
use Rattle.store.specs.Layered.{Serves}

-- the sector that serves s -----------------------------------------------------------------------------------------

pub served_here : (p : Spare) (ps : List Spare) (s : ℕ) → p.sector ≡ s → served (p ∷ ps) s ≡ p.spare
served_here p ps s e = ap (λ b. cond b p.spare (served ps s)) (eq-eqb s p.sector (sym e))

pub served_on : (p : Spare) (ps : List Spare) (s : ℕ) → (p.sector ≢ s) → served (p ∷ ps) s ≡ served ps s
served_on p ps s ne = ap (λ b. cond b p.spare (served ps s)) (ne_eqb s p.sector (λ e. ne (sym e)))

-- as a search finds it
abbrev spare_or : ℕ → Option Spare → ℕ
spare_or s None = s
spare_or s (Some p) = p.spare

served_sought : (ps : List Spare) (s : ℕ) → served ps s ≡ spare_or s (find (λ p. s == p.sector) ps)
served_sought [] s = refl
served_sought (p ∷ ps) s = go (s == p.sector) (served_sought ps s)
  where
    go : (b : Bool) → served ps s ≡ spare_or s (find (λ p. s == p.sector) ps) → cond b p.spare (served ps s) ≡ spare_or s (cond b (Some p) (find (λ p. s == p.sector) ps))
    go true later = refl
    go false later = later

pub served_found : (ps : List Spare) (s m : ℕ) (r : Option (Bor Spare)) {P : Bor Spare → Type 0} → option_map (λ x. x.now) r ≡ find (λ p. s == p.sector) ps → ((x : Bor Spare) → P x → m ≡ x.now.spare) → MatchOption r (m ≡ s) P → m ≡ served ps s
served_found ps s m None e h k = k ∙ sym (served_sought ps s ∙ ap (spare_or s) (sym e))
served_found ps s m (Some x) e h k = h x k ∙ sym (served_sought ps s ∙ ap (spare_or s) (sym e))

-- a pair among others ----------------------------------------------------------------------------------------------

abbrev pub clash : Spare → List Spare → Bool
clash p ps = member p.sector (sectors_of ps) || member p.spare (spares_of ps)

or_true : (x : Bool) → (x || true) ≡ true
or_true true = refl
or_true false = refl

or_across : (a b c d : Bool) → ((a || b) || (c || d)) ≡ ((a || c) || (b || d))
or_across true b c d = refl
or_across false true true d = refl
or_across false true false d = refl
or_across false false c d = refl

pub clash_any : (p : Spare) (ps : List Spare) → list_any (λ q. p.sector == q.sector || p.spare == q.spare) ps ≡ clash p ps
clash_any p [] = refl
clash_any p (q ∷ ps) =
    ap (λ b. (p.sector == q.sector || p.spare == q.spare) || b) (clash_any p ps)
    ∙ or_across (p.sector == q.sector) (p.spare == q.spare) (member p.sector (sectors_of ps)) (member p.spare (spares_of ps))

-- pairs that fit one another ---------------------------------------------------------------------------------------

-- but for their count
abbrev pub agreeing : ℕ → List Spare → Bool
agreeing v ps =
    distinct (sectors_of ps) && all (λ s. ltb s v) (sectors_of ps) && distinct (spares_of ps) && all (λ s. leb v s) (spares_of ps)

-- the store below --------------------------------------------------------------------------------------------------

pub all_spares : (f : ℕ → Bool) (ps : List Spare) → list_all (λ p. f p.spare) ps ≡ all f (spares_of ps)
all_spares f [] = refl
all_spares f (p ∷ ps) = ap (λ b. f p.spare && b) (all_spares f ps)

-- visible sectors and pairs as the layer keeps them
module _ (v : ℕ) (ps : List Spare) where
  abbrev pub serve : ℕ → ℕ
  serve = served ps

  abbrev pub fits : ℕ → Bool
  fits n = pairs_fit v ps && nat_le v n && all (λ s. ltb s n) (spares_of ps)

  pub fits_over : (i : Image) (n : ℕ) (r : Bool) (a : Result (Unit {0}) Refusal) → a ≡ fit_answer r → r ≡ fits n → n ≡ length i → a ≡ fit_answer (spares_fit i v ps)
  fits_over i n r a e h k = e ∙ ap fit_answer (h ∙ ap fits k)

  pub suits : (n : ℕ) (r : Bool) → pairs_fit v ps ≡ true → v ≤ n → r ≡ list_all (λ p. nat_lt p.spare n) ps → r ≡ fits n
  suits n r h k e =
      e
      ∙ (all_spares (λ s. ltb s n) ps
      ∙ sym (ap (λ q. q && nat_le v n && all (λ s. ltb s n) (spares_of ps)) h
      ∙ ap (λ q. q && all (λ s. ltb s n) (spares_of ps)) (le-leb v n k)))

-- no two visible sectors are served by one -------------------------------------------------------------------------

served_member : (ps : List Spare) (s : ℕ) → (served ps s ≡ s) ⊎ (member (served ps s) (spares_of ps) ≡ true)
served_member [] s = inl refl
served_member (p ∷ ps) s = go (cases_eq p.sector s) (served_member ps s)
  where
    here : (x : ℕ) → x ≡ p.spare → member x (spares_of (p ∷ ps)) ≡ true
    here x q = ap (λ y. y || member x (spares_of ps)) (eq-eqb x p.spare q)

    later : (x : ℕ) → member x (spares_of ps) ≡ true → member x (spares_of (p ∷ ps)) ≡ true
    later x q = ap (λ y. (x == p.spare) || y) q ∙ or_true (x == p.spare)

    go : (p.sector ≡ s) ⊎ (p.sector ≢ s) → (served ps s ≡ s) ⊎ (member (served ps s) (spares_of ps) ≡ true) → (served (p ∷ ps) s ≡ s) ⊎ (member (served (p ∷ ps) s) (spares_of (p ∷ ps)) ≡ true)
    go (inl q) r = inr (here (served (p ∷ ps) s) (served_here p ps s q))
    go (inr q) (inl r) = inl (served_on p ps s q ∙ r)
    go (inr q) (inr r) = inr (later (served (p ∷ ps) s) (ap (λ x. member x (spares_of ps)) (served_on p ps s q) ∙ r))

all_member : (f : ℕ → Bool) (xs : List ℕ) (x : ℕ) → all f xs ≡ true → member x xs ≡ true → f x ≡ true
all_member f [] x h k = absurd (both_ways false refl k)
all_member f (y ∷ ys) x h k = go (cases_eq x y) (all_member f ys x parts.1)
  where
    parts : (f y ≡ true) × (all f ys ≡ true)
    parts = and_parts (f y) (all f ys) h

    go : (x ≡ y) ⊎ (x ≢ y) → (member x ys ≡ true → f x ≡ true) → f x ≡ true
    go (inl q) later = ap f q ∙ parts.0
    go (inr q) later = later (ap (λ b. b || member x ys) (sym (ne_eqb x y q)) ∙ k)

-- the spares differ, and are v and more
record Apart (v : ℕ) (ss : List ℕ) : Type 0 where
  differ : distinct ss ≡ true
  past : all (λ s. leb v s) ss ≡ true

served_apart : (v : ℕ) (ps : List Spare) → Apart v (spares_of ps) → (s t : ℕ) → s < v → t < v → served ps s ≡ served ps t → s ≡ t
served_apart v [] h s t l k q = q
served_apart v (p ∷ ps) h s t l k q = go (cases_eq p.sector s) (cases_eq p.sector t) (served_apart v ps rest s t l k)
  where
    fresh : member p.spare (spares_of ps) ≡ false
    fresh = not-true (member p.spare (spares_of ps)) (and_parts (not (member p.spare (spares_of ps))) (distinct (spares_of ps)) h.differ).0

    rest : Apart v (spares_of ps)
    rest =
        record {
          differ = (and_parts (not (member p.spare (spares_of ps))) (distinct (spares_of ps)) h.differ).1;
          past = (and_parts (nat_le v p.spare) (all (λ s. leb v s) (spares_of ps)) h.past).1;
        }

    high : v ≤ p.spare
    high = leb-true v p.spare (and_parts (nat_le v p.spare) (all (λ s. leb v s) (spares_of ps)) h.past).0

    -- the first pair's spare serves no sector of the others
    alone : (u : ℕ) → u < v → served ps u ≢ p.spare
    alone u m r = by (served_member ps u)
      where
        by : (served ps u ≡ u) ⊎ (member (served ps u) (spares_of ps) ≡ true) → ⊥
        by (inl w) = let x = high in let y : u ≡ p.spare = sym w ∙ r in omega arith
        by (inr w) = both_ways (member p.spare (spares_of ps)) fresh (ap (λ x. member x (spares_of ps)) (sym r) ∙ w)

    go : (p.sector ≡ s) ⊎ (p.sector ≢ s) → (p.sector ≡ t) ⊎ (p.sector ≢ t) → (served ps s ≡ served ps t → s ≡ t) → s ≡ t
    go (inl x) (inl y) later = sym x ∙ y
    go (inl x) (inr y) later = absurd (alone t k (sym (served_on p ps t y) ∙ (sym q ∙ served_here p ps s x)))
    go (inr x) (inl y) later = absurd (alone s l (sym (served_on p ps s x) ∙ (q ∙ served_here p ps t y)))
    go (inr x) (inr y) later = later (sym (served_on p ps s x) ∙ (q ∙ served_on p ps t y))

module _ (v : ℕ) (ps : List Spare) (n : ℕ) (h : fits v ps n ≡ true) where
  outer : (pairs_fit v ps && nat_le v n ≡ true) × (all (λ s. ltb s n) (spares_of ps) ≡ true)
  outer = and_parts (pairs_fit v ps && nat_le v n) (all (λ s. ltb s n) (spares_of ps)) h

  inner : (pairs_fit v ps ≡ true) × (nat_le v n ≡ true)
  inner = and_parts (pairs_fit v ps) (nat_le v n) outer.0

  spares_apart : Apart v (spares_of ps)
  spares_apart =
      let x = and_parts (nat_le (length ps) most_listed && distinct (sectors_of ps) && all (λ s. ltb s v) (sectors_of ps) && distinct (spares_of ps)) (all (λ s. leb v s) (spares_of ps)) inner.0 in
      let y = and_parts (nat_le (length ps) most_listed && distinct (sectors_of ps) && all (λ s. ltb s v) (sectors_of ps)) (distinct (spares_of ps)) x.0 in
      record { differ = y.1; past = x.1 }

  pub sound : Serves n v (served ps)
  sound =
      let w : v ≤ n = leb-true v n inner.1 in
      record { room = w; inside = within w; apart = served_apart v ps spares_apart }
    where
      within : v ≤ n → (s : ℕ) → s < v → served ps s < n
      within w s l = go (served_member ps s)
        where
          go : (served ps s ≡ s) ⊎ (member (served ps s) (spares_of ps) ≡ true) → served ps s < n
          go (inl q) = omega arith
          go (inr q) = ltb-true (served ps s) n (all_member (λ s. ltb s n) (spares_of ps) (served ps s) outer.1 q)
