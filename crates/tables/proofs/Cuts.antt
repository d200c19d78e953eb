-- A path cut at each slash: where the first one stands, the last name, a path within another.
use Rattle.std.proofs.Common.{◌≡◌, ℕ, suc, ◌+◌, ◌-◌, ◌<◌, Bool, true, false, cond, ◌&&◌, eqb, List, [], ◌∷◌, ◌++◌, length, get_or, take, drop, Some, None, Option, sym, refl, ap, ◌∙◌, subst, ap₂, arith}
use Rattle.std.proofs.lemmas.List.{get_or-append-add, length-append}
use Rattle.std.proofs.Math.Seq.{get_or-append_seam}
use Rattle.std.specs.Bool.{MatchBool}
use Rattle.std.specs.List.{IsAfterLastMatch}
use Rattle.std.proofs.lemmas.Bool.{cond-false, eq-eqb, eqb-true, eqb-false, ne_eqb}
use Rattle.model.specs.Book.{last}
use Rattle.model.specs.Names.{Name, Path, cut, names, onto, same_name, within}
use Rattle.model.specs.Tree.{first, raised}

abbrev pub is_slash : ℕ → Bool
is_slash b = eqb b 0x2f

-- there is always a first name
abbrev Parts : Path → Type 0
Parts p = (n : Name) × (ns : Path) × (p ≡ n ∷ ns)

pub cut_parts : (bs : List ℕ) → Parts (cut bs)
cut_parts [] = ([], [], refl)
cut_parts (b ∷ bs) = go (is_slash b) (cut_parts bs)
  where
    go : (x : Bool) → Parts (cut bs) → Parts (cond x ([] ∷ cut bs) (onto b (cut bs)))
    go true h = ([], cut bs, refl)
    go false h = (b ∷ h.0, h.1, ap (onto b) h.2)

-- at the first slash ---------------------------------------------------------------------------------

not_none : {A : Type 0} (a : A) → ◌≡◌ {A = Option A} (Some a) None → ⊥
not_none a e = cc

pub cut_at : (p : List ℕ) (k : ℕ) → Some k ≡ first is_slash p → cut p ≡ take k p ∷ cut (drop (k + 1) p)
cut_at [] k e = absurd (not_none k e)
cut_at (b ∷ bs) k e = go (is_slash b) (first is_slash bs) refl (cut_at bs) k e
  where
    go : (x : Bool) (o : Option ℕ) → first is_slash bs ≡ o → ((m : ℕ) → Some m ≡ first is_slash bs → cut bs ≡ take m bs ∷ cut (drop (m + 1) bs))
        → (k : ℕ) → Some k ≡ cond x (Some 0) (raised o) → cond x ([] ∷ cut bs) (onto b (cut bs)) ≡ take k (b ∷ bs) ∷ cut (drop (k + 1) (b ∷ bs))
    go true o h ih k e = let q : 0 ≡ k = cc in subst (λ i. [] ∷ cut bs ≡ take i (b ∷ bs) ∷ cut (drop (i + 1) (b ∷ bs))) q refl
    go false None h ih k e = absurd (not_none k e)
    go false (Some m) h ih k e =
        let q : suc m ≡ k = cc in
        let r : suc (m + 1) ≡ suc m + 1 = omega arith in
        ap (onto b) (ih m (sym h)) ∙ ap (λ i. (b ∷ take m bs) ∷ cut (drop i (b ∷ bs))) r ∙ ap (λ i. take i (b ∷ bs) ∷ cut (drop (i + 1) (b ∷ bs))) q

pub cut-whole : (p : List ℕ) → None ≡ first is_slash p → cut p ≡ p ∷ []
cut-whole [] e = refl
cut-whole (b ∷ bs) e = go (is_slash b) (first is_slash bs) refl (cut-whole bs) e
  where
    go : (x : Bool) (o : Option ℕ) → first is_slash bs ≡ o → (None ≡ first is_slash bs → cut bs ≡ bs ∷ []) → None ≡ cond x (Some 0) (raised o) → cond x ([] ∷ cut bs) (onto b (cut bs)) ≡ (b ∷ bs) ∷ []
    go true o h ih e = absurd (not_none 0 (sym e))
    go false None h ih e = ap (onto b) (ih (sym h))
    go false (Some m) h ih e = absurd (not_none (suc m) (sym e))

-- from the last slash on -----------------------------------------------------------------------------

cut_byte : (b : ℕ) (bs : List ℕ) → (b ≡ 0x2f → ⊥) → cut bs ≡ bs ∷ [] → cut (b ∷ bs) ≡ (b ∷ bs) ∷ []
cut_byte b bs h e = cond-false (is_slash b) ([] ∷ cut bs) (onto b (cut bs)) (ne_eqb b 0x2f h) ∙ ap (onto b) e

cut_join : (p q : List ℕ) → cut (p ++ 0x2f ∷ q) ≡ cut p ++ cut q
cut_join [] q = refl
cut_join (b ∷ p) q = go (is_slash b) (cut_join p q) (cut_parts p)
  where
    go : (x : Bool) → cut (p ++ 0x2f ∷ q) ≡ cut p ++ cut q → Parts (cut p) → cond x ([] ∷ cut (p ++ 0x2f ∷ q)) (onto b (cut (p ++ 0x2f ∷ q))) ≡ cond x ([] ∷ cut p) (onto b (cut p)) ++ cut q
    go true ih h = ap (λ ns. [] ∷ ns) ih
    go false ih h = ap (onto b) (ih ∙ ap (λ ns. ns ++ cut q) h.2) ∙ ap (λ ns. onto b ns ++ cut q) (sym h.2)

last-append : (p : Path) (n : Name) (ns : Path) → last (p ++ n ∷ ns) ≡ last (n ∷ ns)
last-append [] n ns = refl
last-append (x ∷ []) n ns = refl
last-append (x ∷ y ∷ p) n ns = last-append (y ∷ p) n ns

pub last-names : (p : List ℕ) → last (names p) ≡ last (cut p)
last-names [] = refl
last-names (b ∷ bs) = refl

-- where no byte is a slash, all is one name
one_name : (bs : List ℕ) → ((k : ℕ) → k < length bs → is_slash (get_or bs k 0) ≡ false) → cut bs ≡ bs ∷ []
one_name [] h = refl
one_name (b ∷ bs) h = cut_byte b bs (eqb-false b 0x2f (h 0 (omega arith))) (one_name bs (λ k l. h (suc k) (omega arith)))

-- x is what `split` gives last: all, where it is done, and else what follows the last slash
pub cut_last : (p front x : List ℕ) (done : Bool) → MatchBool done (p ≡ x) ((y : ℕ) × (p ≡ front ++ y ∷ x)) → IsAfterLastMatch is_slash p (length p - length x) → cut p ≡ cond done [] (cut front) ++ x ∷ []
cut_last p front x true e h = let n : length p ≡ length x = ap length e in one_name p (λ k l. h.0 k 0 (omega arith) l) ∙ ap (λ bs. bs ∷ []) e
cut_last p front x false e h =
    let long : length p ≡ length front + suc (length x) = ap length e.1 ∙ length-append front (e.0 ∷ x) in
    let i : length p - length x - 1 ≡ length front = omega arith in
    let byte : e.0 ≡ 0x2f = sym (ap (λ k. get_or p k 0) i ∙ ap (λ bs. get_or bs (length front) 0) e.1 ∙ get_or-append_seam front e.0 x 0) ∙ eqb-true (get_or p (length p - length x - 1) 0) 0x2f (h.1 (omega arith) 0) in
    let rest : (k : ℕ) → k < length x → is_slash (get_or x k 0) ≡ false = λ k l. ap is_slash (sym (ap (λ bs. get_or bs (length front + suc k) 0) e.1 ∙ get_or-append-add front (e.0 ∷ x) (suc k) 0)) ∙ h.0 (length front + suc k) 0 (omega arith) (omega arith) in
    ap cut e.1 ∙ ap (λ b. cut (front ++ b ∷ x)) byte ∙ cut_join front x ∙ ap (λ ns. cut front ++ ns) (one_name x rest)

pub last_is : (p front x : List ℕ) (done : Bool) → MatchBool done (p ≡ x) ((y : ℕ) × (p ≡ front ++ y ∷ x)) → IsAfterLastMatch is_slash p (length p - length x) → x ≡ last (names p)
last_is p front x done e h = sym (last-names p ∙ ap last (cut_last p front x done e h) ∙ last-append (cond done [] (cut front)) x [])

-- a path within another ------------------------------------------------------------------------------

-- q goes on after p with nothing or with a slash
abbrev pub ends-name : List ℕ → Bool
ends-name [] = true
ends-name (b ∷ bs) = is_slash b

abbrev begins : List ℕ → List ℕ → Bool
begins [] q = ends-name q
begins (a ∷ p) [] = false
begins (a ∷ p) (b ∷ q) = eqb a b && begins p q

and_assoc : (x y z : Bool) → ((x && y) && z) ≡ (x && (y && z))
and_assoc true y z = refl
and_assoc false y z = refl

-- names and bytes tell the same, also where there is no byte
within-cut : (p q : List ℕ) → within (cut p) (cut q) ≡ begins p q
within-cut [] [] = refl
within-cut [] (b ∷ q) = go (is_slash b) (cut_parts q)
  where
    go : (x : Bool) → Parts (cut q) → within ([] ∷ []) (cond x ([] ∷ cut q) (onto b (cut q))) ≡ x
    go true h = refl
    go false h = ap (λ ns. within ([] ∷ []) (onto b ns)) h.2
within-cut (a ∷ p) [] = go (is_slash a) (cut_parts p)
  where
    go : (x : Bool) → Parts (cut p) → within (cond x ([] ∷ cut p) (onto a (cut p))) ([] ∷ []) ≡ false
    go true h = ap (λ ns. within ns []) h.2
    go false h = ap (λ ns. within (onto a ns) ([] ∷ [])) h.2
within-cut (a ∷ p) (b ∷ q) = go (is_slash a) refl (is_slash b) refl (cut_parts p) (cut_parts q) (within-cut p q)
  where
    go : (x : Bool) → is_slash a ≡ x → (y : Bool) → is_slash b ≡ y → Parts (cut p) → Parts (cut q) → within (cut p) (cut q) ≡ begins p q
        → within (cond x ([] ∷ cut p) (onto a (cut p))) (cond y ([] ∷ cut q) (onto b (cut q))) ≡ (eqb a b && begins p q)
    go true e true f h k ih = let n = eqb-true a 0x2f e in let m = eqb-true b 0x2f f in ih ∙ ap (λ t. t && begins p q) (sym (eq-eqb a b (omega arith)))
    go true e false f h k ih = let n = eqb-true a 0x2f e in let m = eqb-false b 0x2f f in ap (λ ns. within ([] ∷ cut p) (onto b ns)) k.2 ∙ ap (λ t. t && begins p q) (sym (ne_eqb a b (λ d. omega arith)))
    go false e true f h k ih = let n = eqb-false a 0x2f e in let m = eqb-true b 0x2f f in ap (λ ns. within (onto a ns) ([] ∷ cut q)) h.2 ∙ ap (λ t. t && begins p q) (sym (ne_eqb a b (λ d. omega arith)))
    go false e false f h k ih =
        ap₂ (λ ns ms. within (onto a ns) (onto b ms)) h.2 k.2
        ∙ and_assoc (eqb a b) (same_name h.0 k.0) (within h.1 k.1)
        ∙ ap (λ t. eqb a b && t) (ap₂ within (sym h.2) (sym k.2) ∙ ih)

within-names : (p q : List ℕ) → (length p ≡ 0 → ⊥) → within (names p) (names q) ≡ begins p q
within-names [] q h = absurd (h refl)
within-names (a ∷ p) [] h = ap (λ ns. within ns []) (cut_parts (a ∷ p)).2
within-names (a ∷ p) (b ∷ q) h = within-cut (a ∷ p) (b ∷ q)

begins_front : (p rest : List ℕ) → begins p (p ++ rest) ≡ ends-name rest
begins_front [] rest = refl
begins_front (a ∷ p) rest = ap (λ t. t && begins p (p ++ rest)) (eq-eqb a a refl) ∙ begins_front p rest

begins_not : (p q : List ℕ) → ((rest : List ℕ) → q ≡ p ++ rest → ⊥) → begins p q ≡ false
begins_not [] q h = absurd (h q refl)
begins_not (a ∷ p) [] h = refl
begins_not (a ∷ p) (b ∷ q) h = go (eqb a b) refl (begins_not p q)
  where
    go : (x : Bool) → eqb a b ≡ x → (((rest : List ℕ) → q ≡ p ++ rest → ⊥) → begins p q ≡ false) → (x && begins p q) ≡ false
    go true e ih = ih (λ rest d. h rest (ap₂ ◌∷◌ (sym (eqb-true a b e)) d))
    go false e ih = refl

-- what is left of q after p decides
pub within_strip : (p q rest : List ℕ) → (length p ≡ 0 → ⊥) → q ≡ p ++ rest → within (names p) (names q) ≡ ends-name rest
within_strip p q rest h e = within-names p q h ∙ ap (begins p) e ∙ begins_front p rest

pub within-not : (p q : List ℕ) → (length p ≡ 0 → ⊥) → ((rest : List ℕ) → q ≡ p ++ rest → ⊥) → within (names p) (names q) ≡ false
within-not p q h k = within-names p q h ∙ begins_not p q k
