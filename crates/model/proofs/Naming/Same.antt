-- Equal names and paths, a path within another, and a path that is carried along.
use Rattle.std.proofs.Common.{◌≡◌, ℕ, ◌≤◌, Bool, true, false, cond, ◌&&◌, ◌||◌, eqb, List, [], ◌∷◌, ◌++◌, length, drop, sym, refl, ap, ◌∙◌, ap₂, arith}
use Rattle.std.proofs.lemmas.List.{append_assoc, append-nil, drop_all, drop-append-le}
use Rattle.std.proofs.lemmas.Bool.{and_from, and_parts, eq-eqb, eqb-true, false≢true, or_right, false_from_ne_true}
use Rattle.model.specs.Names.{Name, Path, same_name, same_path, within}

-- equality of names and paths ---------------------------------------------------------------------

pub same_name_true : (n m : List ℕ) → same_name n m ≡ true → n ≡ m
same_name_true [] [] e = refl
same_name_true [] (y ∷ ys) e = absurd (false≢true e)
same_name_true (x ∷ xs) [] e = absurd (false≢true e)
same_name_true (x ∷ xs) (y ∷ ys) e = ap₂ ◌∷◌ (eqb-true x y (and_parts (eqb x y) (same_name xs ys) e).0) (same_name_true xs ys (and_parts (eqb x y) (same_name xs ys) e).1)

pub same_name_refl : (n : List ℕ) → same_name n n ≡ true
same_name_refl [] = refl
same_name_refl (x ∷ xs) = and_from (eqb x x) (same_name xs xs) (eq-eqb x x refl) (same_name_refl xs)

pub eq_same_name : (n m : List ℕ) → n ≡ m → same_name n m ≡ true
eq_same_name n m e = rw e (same_name_refl m)

pub same_path_true : (p q : Path) → same_path p q ≡ true → p ≡ q
same_path_true [] [] e = refl
same_path_true [] (m ∷ q) e = absurd (false≢true e)
same_path_true (n ∷ p) [] e = absurd (false≢true e)
same_path_true (n ∷ p) (m ∷ q) e = ap₂ ◌∷◌ (same_name_true n m (and_parts (same_name n m) (same_path p q) e).0) (same_path_true p q (and_parts (same_name n m) (same_path p q) e).1)

pub same_path_refl : (p : Path) → same_path p p ≡ true
same_path_refl [] = refl
same_path_refl (n ∷ p) = and_from (same_name n n) (same_path p p) (same_name_refl n) (same_path_refl p)

pub eq_same_path : (p q : Path) → p ≡ q → same_path p q ≡ true
eq_same_path p q e = rw e (same_path_refl q)

-- a path within another ----------------------------------------------------------------------------

pub within-below : (b p q : Path) → within (b ++ p) (b ++ q) ≡ within p q
within-below [] p q = refl
within-below (n ∷ b) p q = rw (same_name_refl n) (within-below b p q)

within_self : (p q : Path) → within p (p ++ q) ≡ true
within_self [] q = refl
within_self (n ∷ p) q = and_from (same_name n n) (within p (p ++ q)) (same_name_refl n) (within_self p q)

pub within_same : (p : Path) → within p p ≡ true
within_same p = ap (within p) (sym (append-nil p)) ∙ within_self p []

pub within_nil : (r : Path) (x : Name) → within (r ++ x ∷ []) [] ≡ false
within_nil [] x = refl
within_nil (y ∷ r) x = refl

spread : (b x y : Bool) → (b && (x || y)) ≡ ((b && x) || (b && y))
spread true x y = refl
spread false x y = refl

or_nothing : (x : Bool) → x ≡ (x || false)
or_nothing true = refl
or_nothing false = refl

pub within_push : (p q : Path) (m : Name) → within p (q ++ m ∷ []) ≡ (same_path p (q ++ m ∷ []) || within p q)
within_push [] [] m = refl
within_push [] (x ∷ q) m = refl
within_push (n ∷ []) [] m = or_nothing (same_name n m && true)
within_push (n ∷ x ∷ p) [] m = or_nothing (same_name n m && false)
within_push (n ∷ p) (x ∷ q) m = ap (λ z. same_name n x && z) (within_push p q m) ∙ spread (same_name n x) (same_path p (q ++ m ∷ [])) (within p q)

within-length : (p q : Path) → within p q ≡ true → length p ≤ length q
within-length [] q e = omega arith
within-length (n ∷ p) [] e = absurd (false≢true e)
within-length (n ∷ p) (m ∷ q) e = let h = within-length p q (and_parts (same_name n m) (within p q) e).1 in omega arith

pub not_same : (p q : Path) → (p ≡ q → ⊥) → same_path p q ≡ false
not_same p q h = false_from_ne_true (same_path p q) (λ e. h (same_path_true p q e))

-- a path that is not p is within p exactly if its directory is
pub within_deeper : (p q : Path) (m : Name) → (p ≡ q ++ m ∷ [] → ⊥) → within p (q ++ m ∷ []) ≡ within p q
within_deeper p q m h = within_push p q m ∙ ap (λ b. b || within p q) (not_same p (q ++ m ∷ []) h)

pub within-up : (p q : Path) (m : Name) → within p (q ++ m ∷ []) ≡ false → within p q ≡ false
within-up p q m h = false_from_ne_true (within p q) (λ e. let z : true ≡ false = sym (ap (λ b. same_path p (q ++ m ∷ []) || b) e ∙ or_right (same_path p (q ++ m ∷ [])) true refl) ∙ sym (within_push p q m) ∙ h in false≢true (sym z))

-- a path that is carried along ---------------------------------------------------------------------

abbrev pub shift : Path → Path → Path → Path
shift p q r = cond (within p r) (q ++ drop (length p) r) r

pub shift_self : (p q : Path) → shift p q p ≡ q
shift_self p q = ap (λ b. cond b (q ++ drop (length p) p) p) (within_same p) ∙ ap (λ r. q ++ r) (drop_all (length p) p (omega arith)) ∙ append-nil q

pub shift_off : (p q r : Path) → within p r ≡ false → shift p q r ≡ r
shift_off p q r e = ap (λ b. cond b (q ++ drop (length p) r) r) e

pub shift_push : (p q r : Path) (m : Name) → (p ≡ r ++ m ∷ [] → ⊥) → shift p q (r ++ m ∷ []) ≡ shift p q r ++ m ∷ []
shift_push p q r m h = ap (λ b. cond b (q ++ drop (length p) (r ++ m ∷ [])) (r ++ m ∷ [])) (within_deeper p r m h) ∙ go (within p r) refl
  where
    go : (b : Bool) → within p r ≡ b → cond b (q ++ drop (length p) (r ++ m ∷ [])) (r ++ m ∷ []) ≡ cond b (q ++ drop (length p) r) r ++ m ∷ []
    go true e = ap (λ x. q ++ x) (drop-append-le (length p) r (m ∷ []) (within-length p r e)) ∙ sym (append_assoc q (drop (length p) r) (m ∷ []))
    go false e = refl
