-- The spelling of a path, byte by byte.
use Rattle.std.proofs.Common.{◌≡◌, ℕ, suc, ◌+◌, ◌≤◌, Bool, true, false, cond, ◌&&◌, ltb, leb, ControlFlow, List, [], ◌∷◌, length, Some, None, Option, sym, refl, ap, ◌∙◌, subst, arith}
use Rattle.std.proofs.lemmas.Bool.{lt-leb, le-leb, ltb-true, ltb-false}
use Rattle.std.proofs.lemmas.Iterator.{YieldsList}
use Rattle.std.specs.Fn.{Called}
use Rattle.std.specs.ControlFlow.{continue_value}
use Rattle.std.specs.Iterator.{AlwaysYields, TryFoldsItems, Yields}
use Rattle.std.specs.List.{FoldsTo}
use Rattle.std.specs.Option.{MatchOption}
use denote.Param.Members.{Mut}
use Rattle.model.specs.Names.{Name, Path, all_names, all_proper, cut, onto, proper_byte, spelt}
use Rattle.tables.proofs.Cuts.{is_slash, cut_parts}

-- whether a path goes on well after n bytes of a name
abbrev pub spelt_on : ℕ → List ℕ → Bool
spelt_on n [] = ltb 0 n
spelt_on n (b ∷ bs) = cond (is_slash b) (ltb 0 n && spelt_on 0 bs) (ltb n 15 && proper_byte b && spelt_on (n + 1) bs)

-- the same, name by name
abbrev named_on : ℕ → Path → Bool
named_on n [] = false
named_on n (m ∷ ms) = leb 1 (n + length m) && leb (n + length m) 15 && all_proper m && all_names ms

ended : (n k : ℕ) (b : Bool) → n + 0 ≡ k → k ≤ 15 → (leb 1 k && b) ≡ (leb 1 (n + 0) && leb (n + 0) 15 && true && b)
ended n k b e l = ap (λ t. t && b) (sym (both (leb 1 k) (leb k 15) (le-leb k 15 l))) ∙ ap (λ i. leb 1 i && leb i 15 && true && b) (sym e)
  where
    both : (x y : Bool) → y ≡ true → (x && y && true) ≡ x
    both true y h = ap (λ t. t && true) h
    both false y h = refl

apart : (x y u v w : Bool) → (u && (x && y && v && w)) ≡ (x && y && (u && v) && w)
apart x y true v w = refl
apart true true false v w = refl
apart true false false v w = refl
apart false true false v w = refl
apart false false false v w = refl

too_long : (n m : ℕ) (v w : Bool) → ltb n 15 ≡ false → false ≡ (leb 1 (n + suc m) && leb (n + suc m) 15 && v && w)
too_long n m v w e = let k = ltb-false n 15 e in go (leb 1 (n + suc m)) (leb (n + suc m) 15) (lt-leb (n + suc m) 15 (omega arith))
  where
    go : (x y : Bool) → y ≡ false → false ≡ (x && y && v && w)
    go true y h = sym (ap (λ t. t && v && w) h)
    go false y h = refl

from_none : (ns : Path) → ((m : Name) × (ms : Path) × (ns ≡ m ∷ ms)) → named_on 0 ns ≡ all_names ns
from_none ns h =
    let e : 0 + length h.0 ≡ length h.0 = omega arith in
    ap (named_on 0) h.2 ∙ ap (λ k. leb 1 k && leb k 15 && all_proper h.0 && all_names h.1) e ∙ ap all_names (sym h.2)

spelt-named : (bs : List ℕ) (n : ℕ) → n ≤ 15 → spelt_on n bs ≡ named_on n (cut bs)
spelt-named [] n l = sym (ended' (leb 1 n)) ∙ ended n n true (omega arith) l
  where
    ended' : (x : Bool) → (x && true) ≡ x
    ended' true = refl
    ended' false = refl
spelt-named (b ∷ bs) n l = go (is_slash b) (ltb n 15) refl (cut_parts bs) (spelt-named bs 0 (omega arith)) (spelt-named bs (n + 1))
  where
    go : (x y : Bool) → ltb n 15 ≡ y → ((m : Name) × (ms : Path) × (cut bs ≡ m ∷ ms)) → spelt_on 0 bs ≡ named_on 0 (cut bs) → (n + 1 ≤ 15 → spelt_on (n + 1) bs ≡ named_on (n + 1) (cut bs))
        → cond x (ltb 0 n && spelt_on 0 bs) (y && proper_byte b && spelt_on (n + 1) bs) ≡ named_on n (cond x ([] ∷ cut bs) (onto b (cut bs)))
    go true y e h none one = ap (λ t. leb 1 n && t) (none ∙ from_none (cut bs) h) ∙ ended n n (all_names (cut bs)) (omega arith) l
    go false false e h none one = too_long n (length h.0) (proper_byte b && all_proper h.0) (all_names h.1) e ∙ ap (λ ns. named_on n (onto b ns)) (sym h.2)
    go false true e h none one =
        let less = ltb-true n 15 e in
        let k : n + 1 + length h.0 ≡ n + suc (length h.0) = omega arith in
        ap (λ t. proper_byte b && t) (one (omega arith) ∙ ap (named_on (n + 1)) h.2 ∙ ap (λ i. leb 1 i && leb i 15 && all_proper h.0 && all_names h.1) k)
        ∙ apart (leb 1 (n + suc (length h.0))) (leb (n + suc (length h.0)) 15) (proper_byte b) (all_proper h.0) (all_names h.1)
        ∙ ap (λ ns. named_on n (onto b ns)) (sym h.2)

pub spelt_start : (p : List ℕ) → spelt p ≡ spelt_on 0 p
spelt_start [] = refl
spelt_start (b ∷ bs) = sym (spelt-named (b ∷ bs) 0 (omega arith) ∙ from_none (cut (b ∷ bs)) (cut_parts (b ∷ bs)))

-- a count over the bytes -----------------------------------------------------------------------------

-- the bytes of the name at hand once b has come after n of them; none where no path goes on so
abbrev pub counted : ℕ → ℕ → Option ℕ
counted n b = cond (is_slash b) (cond (ltb 0 n) (Some 0) None) (cond (ltb n 15 && proper_byte b) (Some (n + 1)) None)

abbrev pub counts : Option ℕ → List ℕ → Option ℕ
counts None bs = None
counts (Some n) [] = Some n
counts (Some n) (b ∷ bs) = counts (counted n b) bs

abbrev pub ends : Option ℕ → Bool
ends None = false
ends (Some n) = ltb 0 n

pub counts_on : (bs : List ℕ) (n : ℕ) → ends (counts (Some n) bs) ≡ spelt_on n bs
counts_on [] n = refl
counts_on (b ∷ bs) n = go (is_slash b) (ltb 0 n) (ltb n 15 && proper_byte b) (counts_on bs)
  where
    go : (x y z : Bool) → ((n : ℕ) → ends (counts (Some n) bs) ≡ spelt_on n bs)
        → ends (counts (cond x (cond y (Some 0) None) (cond z (Some (n + 1)) None)) bs) ≡ cond x (y && spelt_on 0 bs) (z && spelt_on (n + 1) bs)
    go true true z h = h 0
    go true false z h = refl
    go false y true h = h (n + 1)
    go false y false h = refl

-- `try_fold` over bytes, with a closure that counts so
module _ {S A F : Type 0} (E : Type 0) (steps : S → Option A → S → Type 0) (v : A → ℕ) (g : Mut F (ℕ × (A × Unit {0})) (Option ℕ)) (f : F)
    (calls : (n : ℕ) (x : A) (r : Option ℕ) (q : F) → Called g f (n, (x, tt)) r q → (q ≡ f) × (r ≡ counted n (v x))) where
  abbrev Turn : F × ℕ → A → F × ℕ → Type 0
  Turn p x q = (r : Option ℕ) × Called g p.0 (p.1, (x, tt)) r q.0 × (r ≡ Some q.1)

  abbrev Ended : F → ℕ → Option ℕ → Option A → Type 0
  Ended q a r o = MatchOption o (r ≡ Some a) (λ x. (w : Option ℕ) × (h : F) × (e : E) × Called g q (a, (x, tt)) w h × (w ≡ None) × (r ≡ None))

  go : (xs : List A) (bs : List ℕ) (s : S) → AlwaysYields steps v s bs → (n : ℕ) (o : Option A) (q : F) (a : ℕ) (j : S) (r : Option ℕ) (u : S)
      → Yields steps s xs j → steps j o u → FoldsTo {P = F × ℕ} Turn (f, n) xs (q, a) → Ended q a r o → r ≡ counts (Some n) bs
  go [] [] s l n None q a j r u y k m e = e ∙ ap (λ (p : F × ℕ). Some p.1) (sym m)
  go [] (b ∷ bs) s l n None q a j r u y k m e = absurd (l.0 u (subst (λ i. steps i None u) (sym y) k))
  go [] [] s l n (Some x) q a j r u y k m e = absurd (l x u (subst (λ i. steps i (Some x) u) (sym y) k))
  go [] (b ∷ bs) s l n (Some x) q a j r u y k m e =
      let called = calls n x e.0 e.1 (subst (λ (p : F × ℕ). Called g p.0 (p.1, (x, tt)) e.0 e.1) (sym m) e.3) in
      let byte = (l.1 x u (subst (λ i. steps i (Some x) u) (sym y) k)).0 in
      e.5 ∙ ap (λ c. counts c bs) (sym e.4 ∙ called.1 ∙ ap (counted n) byte)
  go (x ∷ xs) [] s l n o q a j r u y k m e = absurd (l x y.0 y.1)
  go (x ∷ xs) (b ∷ bs) s l n o q a j r u y k m e =
      let called = calls n x m.1.0 m.0.0 m.1.1 in
      let more = l.1 x y.0 y.1 in
      go xs bs y.0 more.1 m.0.1 o q a j r u y.2 k (subst (λ i. FoldsTo {P = F × ℕ} Turn (i, m.0.1) xs (q, a)) called.0 m.2) e
      ∙ ap (λ c. counts c bs) (sym m.1.2 ∙ called.1 ∙ ap (counted n) more.0)

pub counts_all : {S A F E : Type 0} {steps : S → Option A → S → Type 0} {v : A → ℕ} {g : Mut F (ℕ × (A × Unit {0})) (Option ℕ)} {f : F} {bs : List ℕ} {s : S} (u : S) (n : ℕ) (r : Option ℕ)
    → YieldsList steps v s bs
    → TryFoldsItems steps g (λ r (c : ControlFlow E ℕ). r ≡ continue_value c) (λ e r. r ≡ None) s f n r u
    → ((n : ℕ) (x : A) (r : Option ℕ) (q : F) → Called g f (n, (x, tt)) r q → (q ≡ f) × (r ≡ counted n (v x))) → r ≡ counts (Some n) bs
counts_all {E = E} {steps = steps} {v = v} {g = g} {f = f} {bs = bs} {s = s} u n r l h calls = go E steps v g f calls h.0 bs s l.runs n h.1 h.2 h.3 h.4.0 r u h.4.1 h.4.2 h.5 h.6
