-- The subtree of a directory: the directory, and the subtrees of its live children, which have nothing in common.
use Rattle.std.proofs.Common.{◌≡◌, ℕ, zero, suc, ◌<◌, ◌≤◌, Bool, true, false, not, ◌&&◌, ◌||◌, eqb, ltb, ◌⊎◌, List, [], ◌∷◌, ◌++◌, get_or, sym, refl, ap, ◌∙◌, subst, inl, inr, arith}
use Rattle.std.specs.Cmp.{both_ways as same_tests}
use Rattle.std.proofs.lemmas.Bool.{and_from, and_parts, both_ways, cases_eq, eq-eqb, eqb-true, false≢true, lt-ltb, ne_eqb, not_from_false, or_cases, or_left, or_right, false_from_ne_true}
use Rattle.model.specs.Image.{Image}
use Rattle.model.specs.Names.{Name, Path, same_name, within}
use Rattle.model.specs.Sound.{Live, Sound}
use Rattle.model.specs.Tables.{Entry, Tables, root, no_entry, live, live_dir, trimmed, climbs}
use Rattle.model.specs.Volume.{climb, under}
use Rattle.model.proofs.Naming.Same.{same_name_true}
use Rattle.model.proofs.Tables.Climbs.{up, Step, climbs_cases, climbs_zero, climb-live, one_place}
use Rattle.model.proofs.Tables.Rules.{live_dir-live}
use Rattle.model.proofs.Tables.Ways.{under-within}
use Rattle.tables.specs.Subtrees.{beneath}

-- paths -----------------------------------------------------------------------------------------------------

within-front : (p r q : Path) → within (p ++ r) q ≡ true → within p q ≡ true
within-front [] r q h = refl
within-front (n ∷ p) r [] h = h
within-front (n ∷ p) r (m ∷ q) h = let a = and_parts (same_name n m) (within (p ++ r) q) h in and_from (same_name n m) (within p q) a.0 (within-front p r q a.1)

within_itself : (p : Path) (n : Name) → within (p ++ n ∷ []) p ≡ true → ⊥
within_itself [] n h = false≢true h
within_itself (m ∷ p) n h = within_itself p n (and_parts (same_name m m) (within (p ++ n ∷ []) p) h).1

one_name : (p q : Path) (n m : Name) → within (p ++ n ∷ []) q ≡ true → within (p ++ m ∷ []) q ≡ true → n ≡ m
one_name [] [] n m h k = absurd (false≢true h)
one_name [] (x ∷ q) n m h k = same_name_true n x (and_parts (same_name n x) true h).0 ∙ sym (same_name_true m x (and_parts (same_name m x) true k).0)
one_name (y ∷ p) [] n m h k = absurd (false≢true h)
one_name (y ∷ p) (x ∷ q) n m h k = one_name p q n m (and_parts (same_name y x) (within (p ++ n ∷ []) q) h).1 (and_parts (same_name y x) (within (p ++ m ∷ []) q) k).1

-- directories -----------------------------------------------------------------------------------------------

pub live-live_dir : (ds : List Entry) (d : ℕ) → Live ds d → live_dir ds d ≡ true
live-live_dir ds d l = and_from (ltb d 32) (live (get_or ds d no_entry)) (lt-ltb d 32 l.0) l.1

-- k is a live directory in dir
abbrev pub Kid : List Entry → ℕ → ℕ → Type 0
Kid ds dir k = Live ds k × (up ds k ≡ dir)

module _ (i : Image) (t : Tables) (s : Sound i t) where
  path : ℕ → Path
  path d = climb t.dirs 32 d

  way : (top d : ℕ) → Live t.dirs top → Live t.dirs d → under t.dirs top 33 d ≡ within (path top) (path d)
  unfolding path
  way top d l m = under-within i t s top l 32 d (s.rooted d m)

  kid_path : (dir k : ℕ) → Kid t.dirs dir k → path k ≡ path dir ++ trimmed (get_or t.dirs k no_entry).name ∷ []
  unfolding path
  kid_path dir k c = climb-live i t s k c.0 ∙ ap (λ x. climb t.dirs 32 x ++ trimmed (get_or t.dirs k no_entry).name ∷ []) c.1

  kid_within : (dir k d : ℕ) → Kid t.dirs dir k → Live t.dirs d → under t.dirs k 33 d ≡ true → within (path dir ++ trimmed (get_or t.dirs k no_entry).name ∷ []) (path d) ≡ true
  kid_within dir k d c l h = ap (λ p. within p (path d)) (sym (kid_path dir k c)) ∙ sym (way k d c.0 l) ∙ h

  -- what lies under a child lies under the directory
  lower : (dir k d : ℕ) → Live t.dirs dir → Kid t.dirs dir k → Live t.dirs d → under t.dirs k 33 d ≡ true → under t.dirs dir 33 d ≡ true
  lower dir k d l c m h = way dir d l m ∙ within-front (path dir) (trimmed (get_or t.dirs k no_entry).name ∷ []) (path d) (kid_within dir k d c m h)

  -- no directory lies under its child
  no_ring : (dir k : ℕ) → Live t.dirs dir → Kid t.dirs dir k → under t.dirs k 33 dir ≡ true → ⊥
  no_ring dir k l c h = within_itself (path dir) (trimmed (get_or t.dirs k no_entry).name) (kid_within dir k dir c l h)

  -- nothing lies under two children
  one_kid : (dir j k d : ℕ) → Kid t.dirs dir j → Kid t.dirs dir k → Live t.dirs d → under t.dirs j 33 d ≡ true → under t.dirs k 33 d ≡ true → j ≡ k
  unfolding path
  one_kid dir j k d a b l h g =
      one_place i t s j k (inr a.0) (inr b.0)
      (kid_path dir j a ∙ ap (λ n. path dir ++ n ∷ []) (one_name (path dir) (path d) (trimmed (get_or t.dirs j no_entry).name) (trimmed (get_or t.dirs k no_entry).name) (kid_within dir j d a l h) (kid_within dir k d b l g)) ∙ sym (kid_path dir k b))

-- what lies under a directory is the directory, or lies under a child
abbrev UnderKid : List Entry → ℕ → ℕ → ℕ → Type 0
UnderKid ds dir n d = (k : ℕ) × Kid ds dir k × (under ds k n d ≡ true)

under_self : (ds : List Entry) (d n : ℕ) → under ds d (suc n) d ≡ true
under_self ds d n = or_left (eqb d d) (not (eqb d root) && under ds d n (up ds d)) (eq-eqb d d refl)

under_up : (ds : List Entry) (k n d : ℕ) → (d ≡ root → ⊥) → under ds k n (up ds d) ≡ true → under ds k (suc n) d ≡ true
under_up ds k n d e h = or_right (eqb d k) (not (eqb d root) && under ds k n (up ds d)) (and_from (not (eqb d root)) (under ds k n (up ds d)) (not_from_false (eqb d root) (ne_eqb d root e)) h)

cover : (ds : List Entry) (dir : ℕ) → dir < 32 → (n d : ℕ) → climbs ds n d ≡ true → (d ≡ root → ⊥) → under ds dir (suc n) d ≡ true → (d ≡ dir) ⊎ UnderKid ds dir (suc n) d
cover ds dir l zero d c e h = absurd (e (climbs_zero ds d c))
cover ds dir l (suc n) d c e h = go (cover ds dir l n) (climbs_cases ds n d c) (or_cases (eqb d dir) (not (eqb d root) && under ds dir (suc n) (up ds d)) h)
  where
    at-root : (x : ℕ) → x ≡ root → under ds dir (suc n) x ≡ true → ⊥
    at-root x q g = root_out (or_cases (eqb x dir) (not (eqb x root) && under ds dir n (up ds x)) g)
      where
        root_out : (eqb x dir ≡ true) ⊎ ((not (eqb x root) && under ds dir n (up ds x)) ≡ true) → ⊥
        root_out (inl a) = let z = eqb-true x dir a in omega arith
        root_out (inr a) = both_ways (not (eqb x root)) (ap not (eq-eqb x root q)) (and_parts (not (eqb x root)) (under ds dir n (up ds x)) a).0

    go : ((x : ℕ) → climbs ds n x ≡ true → (x ≡ root → ⊥) → under ds dir (suc n) x ≡ true → (x ≡ dir) ⊎ UnderKid ds dir (suc n) x) → Step ds n d → (eqb d dir ≡ true) ⊎ ((not (eqb d root) && under ds dir (suc n) (up ds d)) ≡ true) → (d ≡ dir) ⊎ UnderKid ds dir (suc (suc n)) d
    go ih (inl r) g = absurd (e r)
    go ih (inr r) (inl g) = inl (eqb-true d dir g)
    go ih (inr r) (inr g) = inr (kid (ih (up ds d) r.2 (λ q. at-root (up ds d) q below) below))
      where
        below : under ds dir (suc n) (up ds d) ≡ true
        below = (and_parts (not (eqb d root)) (under ds dir (suc n) (up ds d)) g).1

        kid : (up ds d ≡ dir) ⊎ UnderKid ds dir (suc n) (up ds d) → UnderKid ds dir (suc (suc n)) d
        kid (inl q) = (d, (r.1, q), under_self ds d (suc n))
        kid (inr k) = (k.0, k.1, under_up ds k.0 (suc n) d e k.2)

-- the children one after another ------------------------------------------------------------------------------

-- k is a live directory in dir, as a test
abbrev pub is_kid : List Entry → ℕ → ℕ → Bool
is_kid ds dir k = live_dir ds k && eqb (up ds k) dir

-- d is in the subtree of one of the children of dir below n
abbrev pub below : List Entry → ℕ → ℕ → ℕ → Bool
below ds dir zero d = false
below ds dir (suc n) d = below ds dir n d || (is_kid ds dir n && beneath ds n d)

kid_out : (ds : List Entry) (dir k : ℕ) → is_kid ds dir k ≡ true → Kid ds dir k
kid_out ds dir k h = let a = and_parts (live_dir ds k) (eqb (up ds k) dir) h in (live_dir-live ds k a.0, eqb-true (up ds k) dir a.1)

kid_in : (ds : List Entry) (dir k : ℕ) → Kid ds dir k → is_kid ds dir k ≡ true
kid_in ds dir k c = and_from (live_dir ds k) (eqb (up ds k) dir) (live-live_dir ds k c.0) (eq-eqb (up ds k) dir c.1)

pub beneath_out : (ds : List Entry) (top d : ℕ) → beneath ds top d ≡ true → Live ds d × (under ds top 33 d ≡ true)
unfolding beneath
beneath_out ds top d h = let a = and_parts (live_dir ds d) (under ds top 33 d) h in (live_dir-live ds d a.0, a.1)

beneath_in : (ds : List Entry) (top d : ℕ) → Live ds d → under ds top 33 d ≡ true → beneath ds top d ≡ true
unfolding beneath
beneath_in ds top d l h = and_from (live_dir ds d) (under ds top 33 d) (live-live_dir ds d l) h

below_out : (ds : List Entry) (dir n d : ℕ) → below ds dir n d ≡ true → (k : ℕ) × (k < n) × Kid ds dir k × (beneath ds k d ≡ true)
below_out ds dir zero d h = absurd (false≢true h)
below_out ds dir (suc n) d h = go (below_out ds dir n d) (or_cases (below ds dir n d) (is_kid ds dir n && beneath ds n d) h)
  where
    go : (below ds dir n d ≡ true → (k : ℕ) × (k < n) × Kid ds dir k × (beneath ds k d ≡ true)) → (below ds dir n d ≡ true) ⊎ ((is_kid ds dir n && beneath ds n d) ≡ true) → (k : ℕ) × (k < suc n) × Kid ds dir k × (beneath ds k d ≡ true)
    go ih (inl a) = let q = ih a in (q.0, (let l = q.1 in omega arith), q.2, q.3)
    go ih (inr a) = let b = and_parts (is_kid ds dir n) (beneath ds n d) a in (n, omega arith, kid_out ds dir n b.0, b.1)

below_in : (ds : List Entry) (dir n d k : ℕ) → k < n → Kid ds dir k → beneath ds k d ≡ true → below ds dir n d ≡ true
below_in ds dir zero d k l c h = absurd (omega arith)
below_in ds dir (suc n) d k l c h = go (cases_eq k n) (below_in ds dir n d k)
  where
    go : (k ≡ n) ⊎ (k ≡ n → ⊥) → (k < n → Kid ds dir k → beneath ds k d ≡ true → below ds dir n d ≡ true) → below ds dir (suc n) d ≡ true
    go (inl e) ih = or_right (below ds dir n d) (is_kid ds dir n && beneath ds n d) (subst (λ x. (is_kid ds dir x && beneath ds x d) ≡ true) e (and_from (is_kid ds dir k) (beneath ds k d) (kid_in ds dir k c) h))
    go (inr e) ih = or_left (below ds dir n d) (is_kid ds dir n && beneath ds n d) (ih (omega arith) c h)

module _ (i : Image) (t : Tables) (s : Sound i t) (dir : ℕ) (lives : Live t.dirs dir) where
  pub top_beneath : beneath t.dirs dir dir ≡ true
  top_beneath = beneath_in t.dirs dir dir lives (under_self t.dirs dir 32)

  -- what lies beneath a child
  pub lower_beneath : (k d : ℕ) → Kid t.dirs dir k → beneath t.dirs k d ≡ true → beneath t.dirs dir d ≡ true
  lower_beneath k d c h = let b = beneath_out t.dirs k d h in beneath_in t.dirs dir d b.0 (lower i t s dir k d lives c b.0 b.1)

  pub not_top : (k d : ℕ) → Kid t.dirs dir k → beneath t.dirs k d ≡ true → d ≡ dir → ⊥
  not_top k d c h e = no_ring i t s dir k lives c (subst (λ x. under t.dirs k 33 x ≡ true) e (beneath_out t.dirs k d h).1)

  -- is beneath no earlier child
  pub not-before : (k d : ℕ) → Kid t.dirs dir k → beneath t.dirs k d ≡ true → below t.dirs dir k d ≡ false
  not-before k d c h = false_from_ne_true (below t.dirs dir k d) (λ g.
      let q = below_out t.dirs dir k d g in
      let b = beneath_out t.dirs k d h in
      let e = one_kid i t s dir q.0 k d q.2 c b.0 (beneath_out t.dirs q.0 d q.3).1 b.1 in
      off q.0 k q.1 e)
    where
      off : (j k : ℕ) → j < k → j ≡ k → ⊥
      off j k l e = omega arith

  -- the directory and the subtrees of all children make up the subtree
  pub made_up : (n : ℕ) → 32 ≤ n → (d : ℕ) → (eqb d dir || below t.dirs dir n d) ≡ beneath t.dirs dir d
  made_up n m d = same_tests (eqb d dir || below t.dirs dir n d) (beneath t.dirs dir d) (λ h. there (or_cases (eqb d dir) (below t.dirs dir n d) h)) back
    where
      there : (eqb d dir ≡ true) ⊎ (below t.dirs dir n d ≡ true) → beneath t.dirs dir d ≡ true
      there (inl e) = subst (λ x. beneath t.dirs dir x ≡ true) (sym (eqb-true d dir e)) top_beneath
      there (inr h) = let q = below_out t.dirs dir n d h in lower_beneath q.0 d q.2 q.3

      back : beneath t.dirs dir d ≡ true → (eqb d dir || below t.dirs dir n d) ≡ true
      back h = let b = beneath_out t.dirs dir d h in pick b.0 (cover t.dirs dir lives.0 32 d (s.rooted d b.0) (λ e. root_off d b.0.0 e) b.1)
        where
          root_off : (x : ℕ) → x < 32 → x ≡ root → ⊥
          root_off x l e = omega arith

          kid_below : (k n : ℕ) → k < 32 → 32 ≤ n → k < n
          kid_below k n l m = omega arith

          pick : Live t.dirs d → (d ≡ dir) ⊎ UnderKid t.dirs dir 33 d → (eqb d dir || below t.dirs dir n d) ≡ true
          pick l (inl e) = or_left (eqb d dir) (below t.dirs dir n d) (eq-eqb d dir e)
          pick l (inr k) = or_right (eqb d dir) (below t.dirs dir n d) (below_in t.dirs dir n d k.0 (kid_below k.0 n k.1.0.0 m) k.1 (beneath_in t.dirs k.0 d l k.2))
