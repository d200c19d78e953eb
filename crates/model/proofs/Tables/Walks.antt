-- A walk down the tables arrives where the names say.
use Rattle.std.proofs.Common.{◌≡◌, ℕ, ◌<◌, true, false, not, eqb, List, [], ◌∷◌, ◌++◌, length, get_or, set, Some, None, Option, sym, refl, ap, ◌∙◌, subst, ap₂, inr, arith}
use Rattle.std.proofs.lemmas.Option.{none-some}
use Rattle.std.proofs.lemmas.List.{append_assoc, append-nil}
use Rattle.std.proofs.lemmas.Bool.{and_from, and_parts, both_ways, eq-eqb, eqb-true, false≢true, not-true}
use Rattle.model.specs.Image.{Image}
use Rattle.model.specs.Names.{names, spelt, Name, Path, same_name, within, proper_name, all_names, padded}
use Rattle.model.specs.Tables.{Entry, Tables, no_entry, live, trimmed}
use Rattle.model.specs.Tree.{Kind, directory, file}
use Rattle.model.specs.Book.{parent, last}
use Rattle.model.specs.Volume.{is_child, child, either_kind, walk, item_in, holder, item, is_dir, is_file, named, climb, item_path, leads, free_entry, first_bytes, or_zero, new_entry}
use Rattle.model.specs.Sound.{Shaped, Live, Sound}
use Rattle.model.proofs.Common.Searches.{first_some, first_none}
use Rattle.model.proofs.Common.Tests.{some_out}
use Rattle.model.proofs.Naming.Same.{same_name_true, eq_same_name, within-below, within-up}
use Rattle.model.proofs.Naming.Spelling.{trimmed-padded, padded-live, spelt-names, spelt_some, parent-last, parent-names, last_name}
use Rattle.model.proofs.Tables.Climbs.{Place, climb-live}

-- entries and children -----------------------------------------------------------------------------

pub live_at : (es : List Entry) → length es ≡ 32 → (k : ℕ) → k < length es → live (get_or es k no_entry) ≡ true → Live es k
live_at es many k l e = (subst (λ m. k < m) many l, e)

pub free-at : (es : List Entry) (m : ℕ) → free_entry es ≡ Some m → (m < length es) × (live (get_or es m no_entry) ≡ false)
free-at es m e = let a = first_some (λ e. not (live e)) no_entry es m e in (a.0, not-true (live (get_or es m no_entry)) a.1)

pub freed_gone : (e : Entry) → live (first_bytes e) ≡ false
freed_gone e = go e.name
  where
    go : (n : List ℕ) → live (record { parent = e.parent; name = set n 0 0 }) ≡ false
    go [] = refl
    go (b ∷ n) = refl

pub child-live : (d : ℕ) (n : Name) (e : Entry) → proper_name n ≡ true → is_child d n e ≡ true → live e ≡ true
child-live d n e p h =
    let v = same_name_true e.name (padded n) (and_parts (eqb e.parent d) (same_name e.name (padded n)) h).1 in
    ap (λ x. not (eqb (get_or x 0 0) 0)) v ∙ padded-live n p

pub record Child (es : List Entry) (d : ℕ) (n : Name) (e : ℕ) : Type 0 where
  pub alive : Live es e
  pub under : (get_or es e no_entry).parent ≡ d
  pub called : trimmed (get_or es e no_entry).name ≡ n

pub child_facts : (es : List Entry) → length es ≡ 32 → (d : ℕ) (n : Name) (e : ℕ) → proper_name n ≡ true → child es d n ≡ Some e → Child es d n e
child_facts es l d n e p h =
    let a = first_some (is_child d n) no_entry es e h in
    let b = and_parts (eqb (get_or es e no_entry).parent d) (same_name (get_or es e no_entry).name (padded n)) a.1 in
    record {
      alive = (let m = a.0 in omega arith, child-live d n (get_or es e no_entry) p a.1);
      under = eqb-true (get_or es e no_entry).parent d b.0;
      called = ap trimmed (same_name_true (get_or es e no_entry).name (padded n) b.1) ∙ trimmed-padded n p;
    }

-- the names from the root down to an item
abbrev item-names : Tables → Kind × ℕ → Path
item-names t x = elim x.0 [ directory ↦ climb t.dirs 32 x.1 | file ↦ item_path t.dirs (get_or t.files x.1 no_entry) ]

pub child_none : (es : List Entry) (d : ℕ) (n : Name) → length es ≡ 32 → child es d n ≡ None → (c : ℕ) → Live es c → (get_or es c no_entry).parent ≡ d → (get_or es c no_entry).name ≡ padded n → ⊥
child_none es d n many h c l p q =
    both_ways (is_child d n (get_or es c no_entry)) (first_none (is_child d n) no_entry es h c (subst (λ m. c < m) (sym many) l.0)) (and_from (eqb (get_or es c no_entry).parent d) (same_name (get_or es c no_entry).name (padded n)) (eq-eqb (get_or es c no_entry).parent d p) (eq_same_name (get_or es c no_entry).name (padded n) q))

neither : (a b : Option ℕ) → either_kind a b ≡ None → (a ≡ None) × (b ≡ None)
neither None None h = (refl, refl)
neither None (Some j) h = absurd (none-some (file, j) (sym h))
neither (Some i) b h = absurd (none-some (directory, i) (sym h))

pub untaken : (t : Tables) (d : ℕ) (p : List ℕ) → spelt p ≡ true → (h : ℕ) → holder t d (names p) ≡ Some h → named t d p ≡ None → (child t.dirs h (last (names p)) ≡ None) × (child t.files h (last (names p)) ≡ None)
untaken t d p s h e none = neither (child t.dirs h (last (names p))) (child t.files h (last (names p))) (sym (ap (λ o. item_in t o (last (names p))) e) ∙ sym (as_item (names p) (spelt_some p s)) ∙ none)
  where
    as_item : (ns : Path) → (ns ≡ [] → ⊥) → item t d ns ≡ item_in t (holder t d ns) (last ns)
    as_item [] ne = absurd (ne refl)
    as_item (n ∷ ns) ne = refl

module _ (i : Image) (t : Tables) (shaped : Shaped t) (s : Sound i t) where
  child-path : (es : List Entry) (d : ℕ) (n : Name) (e : ℕ) → Child es d n e → item_path t.dirs (get_or es e no_entry) ≡ climb t.dirs 32 d ++ n ∷ []
  child-path es d n e c = ap₂ (λ (x : ℕ) (y : Name). climb t.dirs 32 x ++ y ∷ []) c.under c.called

  pub dir_facts : (d : ℕ) (n : Name) (e : ℕ) → proper_name n ≡ true → child t.dirs d n ≡ Some e → Live t.dirs e × (climb t.dirs 32 e ≡ climb t.dirs 32 d ++ n ∷ [])
  dir_facts d n e p h = let c = child_facts t.dirs shaped.dirs_many d n e p h in (c.alive, climb-live i t s e c.alive ∙ child-path t.dirs d n e c)

  file_facts : (d : ℕ) (n : Name) (f : ℕ) → proper_name n ≡ true → child t.files d n ≡ Some f → Live t.files f × (item_path t.dirs (get_or t.files f no_entry) ≡ climb t.dirs 32 d ++ n ∷ [])
  file_facts d n e p h = let c = child_facts t.files shaped.files_many d n e p h in (c.alive, child-path t.files d n e c)

  pub walk_facts : (ns : Path) (d e : ℕ) → all_names ns ≡ true → Place t.dirs d → walk t (Some d) ns ≡ Some e → Place t.dirs e × (climb t.dirs 32 e ≡ climb t.dirs 32 d ++ ns)
  walk_facts [] d e a p h = let q : d ≡ e = cc in (subst (Place t.dirs) q p, ap (climb t.dirs 32) (sym q) ∙ sym (append-nil (climb t.dirs 32 d)))
  walk_facts (n ∷ ns) d e a p h = go (child t.dirs d n) refl h (walk_facts ns)
    where
      b : (proper_name n ≡ true) × (all_names ns ≡ true)
      b = and_parts (proper_name n) (all_names ns) a

      go : (o : Option ℕ) → child t.dirs d n ≡ o → walk t o ns ≡ Some e → ((d e : ℕ) → all_names ns ≡ true → Place t.dirs d → walk t (Some d) ns ≡ Some e → Place t.dirs e × (climb t.dirs 32 e ≡ climb t.dirs 32 d ++ ns)) → Place t.dirs e × (climb t.dirs 32 e ≡ climb t.dirs 32 d ++ n ∷ ns)
      go None k h ih = absurd cc
      go (Some c) k h ih =
          let q = dir_facts d n c b.0 k in
          let r = ih c e b.1 (inr q.0) h in
          (r.0, r.1 ∙ ap (λ x. x ++ ns) q.1 ∙ append_assoc (climb t.dirs 32 d) (n ∷ []) ns)

  pub holder-path : (n : Name) (ns : Path) (d e : ℕ) → all_names (n ∷ ns) ≡ true → Place t.dirs d → holder t d (n ∷ ns) ≡ Some e → climb t.dirs 32 e ++ last (n ∷ ns) ∷ [] ≡ climb t.dirs 32 d ++ n ∷ ns
  holder-path n ns d e a p k =
      let r = walk_facts (parent (n ∷ ns)) d e (parent-names (n ∷ ns) a) p k in
      ap (λ q. q ++ last (n ∷ ns) ∷ []) r.1 ∙ append_assoc (climb t.dirs 32 d) (parent (n ∷ ns)) (last (n ∷ ns) ∷ []) ∙ ap (λ q. climb t.dirs 32 d ++ q) (sym (parent-last n ns))

  abbrev pub Found : Path → Kind → ℕ → Type 0
  Found p directory x = Live t.dirs x × (climb t.dirs 32 x ≡ p)
  Found p file x = Live t.files x × (item_path t.dirs (get_or t.files x no_entry) ≡ p)

  found_at : (ns : Path) (d : ℕ) (k : Kind) (x : ℕ) → (ns ≡ [] → ⊥) → all_names ns ≡ true → Place t.dirs d → item t d ns ≡ Some (k, x) → Found (climb t.dirs 32 d ++ ns) k x
  found_at [] d k x ne a p h = absurd (ne refl)
  found_at (n ∷ ns) d k x ne a p h = go (holder t d (n ∷ ns)) refl h
    where
      l : proper_name (last (n ∷ ns)) ≡ true
      l = last_name n ns a

      two : (e : ℕ) → holder t d (n ∷ ns) ≡ Some e → (u : Option ℕ) → child t.dirs e (last (n ∷ ns)) ≡ u → (v : Option ℕ) → child t.files e (last (n ∷ ns)) ≡ v → either_kind u v ≡ Some (k, x) → Found (climb t.dirs 32 d ++ n ∷ ns) k x
      two e q (Some c) f v g h =
          let z : ◌≡◌ {A = Kind × ℕ} (directory, c) (k, x) = cc in
          let r = dir_facts e (last (n ∷ ns)) c l f in
          subst (λ (y : Kind × ℕ). Found (climb t.dirs 32 d ++ n ∷ ns) y.0 y.1) z (r.0, r.1 ∙ holder-path n ns d e a p q)
      two e q None f (Some c) g h =
          let z : ◌≡◌ {A = Kind × ℕ} (file, c) (k, x) = cc in
          let r = file_facts e (last (n ∷ ns)) c l g in
          subst (λ (y : Kind × ℕ). Found (climb t.dirs 32 d ++ n ∷ ns) y.0 y.1) z (r.0, r.1 ∙ holder-path n ns d e a p q)
      two e q None f None g h = absurd cc

      go : (o : Option ℕ) → holder t d (n ∷ ns) ≡ o → item_in t o (last (n ∷ ns)) ≡ Some (k, x) → Found (climb t.dirs 32 d ++ n ∷ ns) k x
      go None q h = absurd cc
      go (Some e) q h = two e q (child t.dirs e (last (n ∷ ns))) refl (child t.files e (last (n ∷ ns))) refl h

  pub found : (d : ℕ) (p : List ℕ) (k : Kind) (x : ℕ) → spelt p ≡ true → Place t.dirs d → named t d p ≡ Some (k, x) → Found (climb t.dirs 32 d ++ names p) k x
  found d p k x sp pl h = found_at (names p) d k x (spelt_some p sp) (spelt-names p sp) pl h

  pub item_facts : (ns : Path) (d : ℕ) (x : Kind × ℕ) → all_names ns ≡ true → Place t.dirs d → item t d ns ≡ Some x → item-names t x ≡ climb t.dirs 32 d ++ ns
  item_facts [] d x a p h = let q : ◌≡◌ {A = Kind × ℕ} (directory, d) x = cc in ap (item-names t) (sym q) ∙ sym (append-nil (climb t.dirs 32 d))
  item_facts (n ∷ ns) d x a p h = go x.0 (found_at (n ∷ ns) d x.0 x.1 (λ e. let z = ap length e in omega arith) a p h)
    where
      go : (k : Kind) → Found (climb t.dirs 32 d ++ n ∷ ns) k x.1 → item-names t (k, x.1) ≡ climb t.dirs 32 d ++ n ∷ ns
      go directory f = f.1
      go file f = f.1

pub dir_out : (o : Option (Kind × ℕ)) → is_dir o ≡ true → (x : ℕ) × (o ≡ Some (directory, x))
dir_out None e = absurd (false≢true e)
dir_out (Some x) e = go x.0 x.1 e
  where
    go : (k : Kind) (n : ℕ) → is_dir (Some (k, n)) ≡ true → (y : ℕ) × (◌≡◌ {A = Option (Kind × ℕ)} (Some (k, n)) (Some (directory, y)))
    go directory n e = (n, refl)
    go file n e = absurd (false≢true e)

pub file_out : (o : Option (Kind × ℕ)) → is_file o ≡ true → (x : ℕ) × (o ≡ Some (file, x))
file_out None e = absurd (false≢true e)
file_out (Some x) e = go x.0 x.1 e
  where
    go : (k : Kind) (n : ℕ) → is_file (Some (k, n)) ≡ true → (y : ℕ) × (◌≡◌ {A = Option (Kind × ℕ)} (Some (k, n)) (Some (file, y)))
    go directory n e = absurd (false≢true e)
    go file n e = (n, refl)

-- an entry that can be put into the tables
pub record Fresh (ds : List Entry) (e : Entry) (p : Path) : Type 0 where
  pub lives : live e ≡ true
  pub placed : Place ds e.parent
  pub path : item_path ds e ≡ p

module _ (i : Image) (t : Tables) (shaped : Shaped t) (s : Sound i t) where
  fresh_at : (ns : Path) (d h : ℕ) → (ns ≡ [] → ⊥) → all_names ns ≡ true → Place t.dirs d → holder t d ns ≡ Some h → Fresh t.dirs (record { parent = h; name = padded (last ns) }) (climb t.dirs 32 d ++ ns)
  fresh_at [] d h ne a p k = absurd (ne refl)
  fresh_at (n ∷ ns) d h ne a p k =
      let l = last_name n ns a in
      let e = ap (λ (x : Name). climb t.dirs 32 h ++ x ∷ []) (trimmed-padded (last (n ∷ ns)) l) ∙ holder-path i t shaped s n ns d h a p k in
      record {
        lives = padded-live (last (n ∷ ns)) l;
        placed = (walk_facts i t shaped s (parent (n ∷ ns)) d h (parent-names (n ∷ ns) a) p k).0;
        path = e;
      }

  pub fresh-entry : (d : ℕ) (p : List ℕ) → spelt p ≡ true → Place t.dirs d → leads t d p ≡ true → Fresh t.dirs (new_entry t d p) (climb t.dirs 32 d ++ names p)
  fresh-entry d p sp pl le =
      let h = some_out (holder t d (names p)) le in
      subst (λ (x : ℕ). Fresh t.dirs (record { parent = x; name = padded (last (names p)) }) (climb t.dirs 32 d ++ names p)) (ap or_zero (sym h.1)) (fresh_at (names p) d h.0 (spelt_some p sp) (spelt-names p sp) pl h.1)

  pub not-inside : (b p q : Path) (e : Entry) → Fresh t.dirs e (b ++ q) → within p q ≡ false → within (b ++ p) (climb t.dirs 32 e.parent) ≡ false
  not-inside b p q e f h = within-up (b ++ p) (climb t.dirs 32 e.parent) (trimmed e.name) (ap (within (b ++ p)) f.path ∙ within-below b p q ∙ h)
