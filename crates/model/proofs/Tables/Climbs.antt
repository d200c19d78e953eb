-- Ways up to the root: a directory and the names that lead to it determine each other.
use Rattle.std.proofs.Common.{◌≡◌, ℕ, zero, suc, ◌<◌, ◌≤◌, Bool, true, false, ◌&&◌, ◌||◌, eqb, ltb, ◌⊎◌, List, [], ◌∷◌, ◌++◌, get_or, sym, refl, ap, ◌∙◌, ap₂, inl, inr, arith}
use Rattle.std.specs.Cmp.{both_ways}
use Rattle.std.proofs.lemmas.List.{same_from_push}
use Rattle.std.proofs.lemmas.Bool.{and_from, and_parts, eq-eqb, eqb-false, eqb-true, lt-ltb, ne_eqb, or_left, or_right}
use Rattle.model.specs.Image.{Image}
use Rattle.model.specs.Names.{Name, same_name, same_path, proper_name, padded}
use Rattle.model.specs.Tables.{root, Entry, Tables, no_entry, live, trimmed, live_dir, climbs}
use Rattle.model.specs.Volume.{is_child, climb, item_path}
use Rattle.model.specs.Sound.{Live, Proper, Sound}
use Rattle.model.proofs.Common.Lists.{push_never_nil}
use Rattle.model.proofs.Naming.Same.{same_name_true, eq_same_name, same_path_true, eq_same_path}
use Rattle.model.proofs.Naming.Spelling.{trimmed-padded}
use Rattle.model.proofs.Tables.Rules.{live_dir-live}

-- the root, or a live directory
abbrev pub Place : List Entry → ℕ → Type 0
Place ds d = (d ≡ root) ⊎ Live ds d

pub not_root : (d : ℕ) → d < 32 → eqb d root ≡ false
not_root d l = ne_eqb d root (λ e. omega arith)

-- ways up ---------------------------------------------------------------------------------------------

abbrev pub up : List Entry → ℕ → ℕ
up ds d = (get_or ds d no_entry).parent

abbrev pub Step : List Entry → ℕ → ℕ → Type 0
Step ds n d = (d ≡ root) ⊎ ((d ≡ root → ⊥) × Live ds d × (climbs ds n (up ds d) ≡ true))

pub climbs_cases : (ds : List Entry) (n d : ℕ) → climbs ds (suc n) d ≡ true → Step ds n d
climbs_cases ds n d h = go (eqb d root) refl h
  where
    go : (b : Bool) → eqb d root ≡ b → (b || (live_dir ds d && climbs ds n (up ds d))) ≡ true → Step ds n d
    go true e k = inl (eqb-true d root e)
    go false e k = let u = and_parts (live_dir ds d) (climbs ds n (up ds d)) k in inr (eqb-false d root e, live_dir-live ds d u.0, u.1)

pub climbs-root : (ds : List Entry) (n d : ℕ) → d ≡ root → climbs ds n d ≡ true
climbs-root ds zero d e = eq-eqb d root e
climbs-root ds (suc n) d e = or_left (eqb d root) (live_dir ds d && climbs ds n (up ds d)) (eq-eqb d root e)

pub climbs_more : (ds : List Entry) (n d : ℕ) → Live ds d → climbs ds n (up ds d) ≡ true → climbs ds (suc n) d ≡ true
climbs_more ds n d l h = or_right (eqb d root) (live_dir ds d && climbs ds n (up ds d)) (and_from (live_dir ds d) (climbs ds n (up ds d)) (and_from (ltb d 32) (live (get_or ds d no_entry)) (lt-ltb d 32 l.0) l.1) h)

pub climbs_zero : (ds : List Entry) (d : ℕ) → climbs ds zero d ≡ true → d ≡ root
climbs_zero ds d h = eqb-true d root h

pub climbs_mono : (ds : List Entry) (n m d : ℕ) → n ≤ m → climbs ds n d ≡ true → climbs ds m d ≡ true
climbs_mono ds zero m d l h = climbs-root ds m d (climbs_zero ds d h)
climbs_mono ds (suc n) zero d l h = absurd (omega arith)
climbs_mono ds (suc n) (suc m) d l h = go (λ x k. climbs_mono ds n m x (below l) k) (climbs_cases ds n d h)
  where
    below : suc n ≤ suc m → n ≤ m
    below l = omega arith

    go : ((x : ℕ) → climbs ds n x ≡ true → climbs ds m x ≡ true) → Step ds n d → climbs ds (suc m) d ≡ true
    go ih (inl e) = climbs-root ds (suc m) d e
    go ih (inr s) = climbs_more ds m d s.1 (ih (up ds d) s.2)

-- the names on the way -----------------------------------------------------------------------------

pub climb-root : (ds : List Entry) (n : ℕ) → climb ds n root ≡ []
climb-root ds zero = refl
climb-root ds (suc n) = refl

-- one step up
pub climbs-up : (ds : List Entry) (n d : ℕ) → eqb d root ≡ false → climbs ds (suc n) d ≡ true → Live ds d × (climbs ds n (get_or ds d no_entry).parent ≡ true)
climbs-up ds n d h e =
    let a : (live_dir ds d && climbs ds n (get_or ds d no_entry).parent) ≡ true = rw h at e in
    let b = and_parts (live_dir ds d) (climbs ds n (get_or ds d no_entry).parent) a in
    (live_dir-live ds d b.0, b.1)

pub climb-up : (ds : List Entry) (n d : ℕ) → eqb d root ≡ false → climb ds (suc n) d ≡ climb ds n (get_or ds d no_entry).parent ++ trimmed (get_or ds d no_entry).name ∷ []
climb-up ds n d h = rw h

pub climb_fuel : (ds : List Entry) (n m d : ℕ) → climbs ds n d ≡ true → climbs ds m d ≡ true → climb ds n d ≡ climb ds m d
climb_fuel ds zero m d p q = sym (ap (climb ds m) (climbs_zero ds d p) ∙ climb-root ds m)
climb_fuel ds (suc n) zero d p q = ap (climb ds (suc n)) (climbs_zero ds d q) ∙ climb-root ds (suc n)
climb_fuel ds (suc n) (suc m) d p q = go (λ x a b. climb_fuel ds n m x a b) (climbs_cases ds n d p) (climbs_cases ds m d q)
  where
    go : ((x : ℕ) → climbs ds n x ≡ true → climbs ds m x ≡ true → climb ds n x ≡ climb ds m x) → Step ds n d → Step ds m d → climb ds (suc n) d ≡ climb ds (suc m) d
    go ih (inl e) s = ap (climb ds (suc n)) e ∙ climb-root ds (suc n) ∙ sym (ap (climb ds (suc m)) e ∙ climb-root ds (suc m))
    go ih (inr r) (inl e) = absurd (r.0 e)
    go ih (inr r) (inr s) = climb-up ds n d (ne_eqb d root r.0) ∙ ap (λ p. p ++ trimmed (get_or ds d no_entry).name ∷ []) (ih (up ds d) r.2 s.2) ∙ sym (climb-up ds m d (ne_eqb d root r.0))

climb_nil : (ds : List Entry) (n d : ℕ) → climbs ds n d ≡ true → climb ds n d ≡ [] → d ≡ root
climb_nil ds zero d e h = eqb-true d root e
climb_nil ds (suc n) d e h = go (eqb d root) refl
  where
    go : (b : Bool) → eqb d root ≡ b → d ≡ root
    go true k = eqb-true d root k
    go false k = absurd (push_never_nil (climb ds n (get_or ds d no_entry).parent) (trimmed (get_or ds d no_entry).name) (sym (climb-up ds n d k) ∙ h))

module _ (i : Image) (t : Tables) (s : Sound i t) where
  one_entry : (d e : ℕ) → Live t.dirs d → Live t.dirs e → (get_or t.dirs d no_entry).parent ≡ (get_or t.dirs e no_entry).parent → trimmed (get_or t.dirs d no_entry).name ≡ trimmed (get_or t.dirs e no_entry).name → d ≡ e
  one_entry d e l m p n = s.dirs_apart d e l m p ((s.dirs_proper d l).filled ∙ ap padded n ∙ sym (s.dirs_proper e m).filled)

  pub same-climb : (n m d e : ℕ) → climbs t.dirs n d ≡ true → climbs t.dirs m e ≡ true → climb t.dirs n d ≡ climb t.dirs m e → d ≡ e
  same-climb zero m d e p q h = eqb-true d root p ∙ sym (climb_nil t.dirs m e q (sym h))
  same-climb (suc n) zero d e p q h = climb_nil t.dirs (suc n) d p h ∙ sym (eqb-true e root q)
  same-climb (suc n) (suc m) d e p q h = go (eqb d root) refl (eqb e root) refl (λ a b. same-climb n m (get_or t.dirs d no_entry).parent (get_or t.dirs e no_entry).parent (climbs-up t.dirs n d a p).1 (climbs-up t.dirs m e b q).1)
    where
      go : (x : Bool) → eqb d root ≡ x → (y : Bool) → eqb e root ≡ y → (eqb d root ≡ false → eqb e root ≡ false → climb t.dirs n (get_or t.dirs d no_entry).parent ≡ climb t.dirs m (get_or t.dirs e no_entry).parent → (get_or t.dirs d no_entry).parent ≡ (get_or t.dirs e no_entry).parent) → d ≡ e
      go true a y b ih = let r = eqb-true d root a in r ∙ sym (climb_nil t.dirs (suc m) e q (sym h ∙ ap (climb t.dirs (suc n)) r ∙ climb-root t.dirs (suc n)))
      go false a true b ih = let r = eqb-true e root b in climb_nil t.dirs (suc n) d p (h ∙ ap (climb t.dirs (suc m)) r ∙ climb-root t.dirs (suc m)) ∙ sym r
      go false a false b ih =
          let z = same_from_push (climb t.dirs n (get_or t.dirs d no_entry).parent) (climb t.dirs m (get_or t.dirs e no_entry).parent) (trimmed (get_or t.dirs d no_entry).name) (trimmed (get_or t.dirs e no_entry).name) (sym (climb-up t.dirs n d a) ∙ h ∙ climb-up t.dirs m e b) in
          one_entry d e (climbs-up t.dirs n d a p).0 (climbs-up t.dirs m e b q).0 (ih a b z.0) z.1

  pub place-climbs : (d : ℕ) → Place t.dirs d → climbs t.dirs 32 d ≡ true
  place-climbs d (inl e) = ap (climbs t.dirs 32) e
  place-climbs d (inr l) = s.rooted d l

  -- the names down to a live directory are those down to its parent, and its own
  pub climb-live : (d : ℕ) → Live t.dirs d → climb t.dirs 32 d ≡ item_path t.dirs (get_or t.dirs d no_entry)
  climb-live d l =
      let h = not_root d l.0 in
      let c = (climbs-up t.dirs 31 d h (s.rooted d l)).1 in
      climb-up t.dirs 31 d h ∙ ap (λ p. p ++ trimmed (get_or t.dirs d no_entry).name ∷ []) (climb_fuel t.dirs 31 32 (get_or t.dirs d no_entry).parent c (climbs_mono t.dirs 31 32 (get_or t.dirs d no_entry).parent (omega arith) c))

  pub one_place : (d e : ℕ) → Place t.dirs d → Place t.dirs e → climb t.dirs 32 d ≡ climb t.dirs 32 e → d ≡ e
  one_place d e p q h = same-climb 32 32 d e (place-climbs d p) (place-climbs e q) h

  -- an entry's path is that of n in d exactly if the entry is the child n of d
  pub path-child : (d : ℕ) (n : Name) (e : Entry) → Place t.dirs d → proper_name n ≡ true → Proper t.dirs e → same_path (climb t.dirs 32 d ++ n ∷ []) (item_path t.dirs e) ≡ is_child d n e
  path-child d n e p q x = both_ways (same_path (climb t.dirs 32 d ++ n ∷ []) (item_path t.dirs e)) (is_child d n e) there back
    where
      there : same_path (climb t.dirs 32 d ++ n ∷ []) (item_path t.dirs e) ≡ true → is_child d n e ≡ true
      there h =
          let z = same_from_push (climb t.dirs 32 d) (climb t.dirs 32 e.parent) n (trimmed e.name) (same_path_true (climb t.dirs 32 d ++ n ∷ []) (item_path t.dirs e) h) in
          and_from (eqb e.parent d) (same_name e.name (padded n)) (eq-eqb e.parent d (sym (one_place d e.parent p x.held z.0))) (eq_same_name e.name (padded n) (x.filled ∙ sym (ap padded z.1)))

      back : is_child d n e ≡ true → same_path (climb t.dirs 32 d ++ n ∷ []) (item_path t.dirs e) ≡ true
      back h =
          let a = and_parts (eqb e.parent d) (same_name e.name (padded n)) h in
          let u = eqb-true e.parent d a.0 in
          let v = same_name_true e.name (padded n) a.1 in
          eq_same_path (climb t.dirs 32 d ++ n ∷ []) (item_path t.dirs e) (ap₂ (λ (x : ℕ) (y : Name). climb t.dirs 32 x ++ y ∷ []) (sym u) (sym (ap trimmed v ∙ trimmed-padded n q)))
