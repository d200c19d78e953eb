-- Ways up that stayed while entries changed, and what lies under a directory.
use Rattle.std.proofs.Common.{◌≡◌, ℕ, zero, suc, true, false, not, ◌&&◌, ◌||◌, eqb, List, [], ◌∷◌, ◌++◌, get_or, sym, refl, ap, ◌∙◌, subst, ap₂, inl, inr, arith}
use Rattle.std.specs.Cmp.{both_ways}
use Rattle.std.proofs.lemmas.Bool.{eq-eqb, eqb-true, ne_eqb, or_from}
use Rattle.model.specs.Image.{Image}
use Rattle.model.specs.Names.{same_path, within}
use Rattle.model.specs.Tables.{root, Entry, Tables, no_entry, live, trimmed, climbs}
use Rattle.model.specs.Volume.{climb, under}
use Rattle.model.specs.Sound.{Live, Sound}
use Rattle.model.proofs.Naming.Same.{same_path_true, eq_same_path, within_nil, within_push}
use Rattle.model.proofs.Tables.Climbs.{up, Step, climbs_cases, climbs-root, climbs_more, climbs_zero, climb-root, climb-up, climb_fuel, same-climb, climb-live}

-- entries on the way that stayed
module _ (ds ds' : List Entry) (Q : ℕ → Type 0) (kept : (k : ℕ) → Live ds k → Q k → (get_or ds' k no_entry ≡ get_or ds k no_entry) × Q (get_or ds k no_entry).parent) where
  pub climb-kept : (n d : ℕ) → climbs ds n d ≡ true → Q d → climb ds' n d ≡ climb ds n d
  climb-kept zero d c q = refl
  climb-kept (suc n) d c q = go (λ x a b. climb-kept n x a b) (climbs_cases ds n d c)
    where
      go : ((x : ℕ) → climbs ds n x ≡ true → Q x → climb ds' n x ≡ climb ds n x) → Step ds n d → climb ds' (suc n) d ≡ climb ds (suc n) d
      go ih (inl e) = ap (climb ds' (suc n)) e ∙ climb-root ds' (suc n) ∙ sym (ap (climb ds (suc n)) e ∙ climb-root ds (suc n))
      go ih (inr r) =
          let k = kept d r.1 q in
          climb-up ds' n d (ne_eqb d root r.0) ∙ ap (λ (e : Entry). climb ds' n e.parent ++ trimmed e.name ∷ []) k.0 ∙ ap (λ p. p ++ trimmed (get_or ds d no_entry).name ∷ []) (ih (up ds d) r.2 k.1) ∙ sym (climb-up ds n d (ne_eqb d root r.0))

  pub climbs-kept : (n d : ℕ) → climbs ds n d ≡ true → Q d → climbs ds' n d ≡ true
  climbs-kept zero d c q = c
  climbs-kept (suc n) d c q = go (λ x a b. climbs-kept n x a b) (climbs_cases ds n d c)
    where
      go : ((x : ℕ) → climbs ds n x ≡ true → Q x → climbs ds' n x ≡ true) → Step ds n d → climbs ds' (suc n) d ≡ true
      go ih (inl e) = climbs-root ds' (suc n) d e
      go ih (inr r) =
          let k = kept d r.1 q in
          climbs_more ds' n d (r.1.0, ap live k.0 ∙ r.1.1) (subst (λ (e : Entry). climbs ds' n e.parent ≡ true) (sym k.0) (ih (up ds d) r.2 k.1))

module _ (i : Image) (t : Tables) (s : Sound i t) where
  pub top_nil : (top : ℕ) → Live t.dirs top → within (climb t.dirs 32 top) [] ≡ false
  top_nil top l = ap (λ p. within p []) (climb-live i t s top l) ∙ within_nil (climb t.dirs 32 (get_or t.dirs top no_entry).parent) (trimmed (get_or t.dirs top no_entry).name)

  under-root : (top : ℕ) → Live t.dirs top → (n d : ℕ) → d ≡ root → under t.dirs top (suc n) d ≡ false
  under-root top l n d e = ap (under t.dirs top (suc n)) e ∙ or_from (eqb root top) false (ne_eqb root top (λ z. omega (arith, l.0))) refl

  pub under-within : (top : ℕ) → Live t.dirs top → (n d : ℕ) → climbs t.dirs n d ≡ true → under t.dirs top (suc n) d ≡ within (climb t.dirs 32 top) (climb t.dirs n d)
  under-within top l zero d c = under-root top l zero d (climbs_zero t.dirs d c) ∙ sym (top_nil top l)
  under-within top l (suc n) d c = go (λ x a. under-within top l n x a) (climbs_cases t.dirs n d c)
    where
      go : ((x : ℕ) → climbs t.dirs n x ≡ true → under t.dirs top (suc n) x ≡ within (climb t.dirs 32 top) (climb t.dirs n x)) → Step t.dirs n d → under t.dirs top (suc (suc n)) d ≡ within (climb t.dirs 32 top) (climb t.dirs (suc n) d)
      go ih (inl e) = under-root top l (suc n) d e ∙ sym (ap (within (climb t.dirs 32 top)) (ap (climb t.dirs (suc n)) e ∙ climb-root t.dirs (suc n)) ∙ top_nil top l)
      go ih (inr r) =
          ap₂ ◌||◌ itself (ap (λ b. not b && under t.dirs top (suc n) (up t.dirs d)) (ne_eqb d root r.0) ∙ ih (up t.dirs d) r.2)
          ∙ sym (within_push (climb t.dirs 32 top) (climb t.dirs n (up t.dirs d)) (trimmed (get_or t.dirs d no_entry).name))
          ∙ ap (within (climb t.dirs 32 top)) (sym one_up)
        where
          one_up : climb t.dirs (suc n) d ≡ climb t.dirs n (up t.dirs d) ++ trimmed (get_or t.dirs d no_entry).name ∷ []
          one_up = climb-up t.dirs n d (ne_eqb d root r.0)

          itself : eqb d top ≡ same_path (climb t.dirs 32 top) (climb t.dirs n (up t.dirs d) ++ trimmed (get_or t.dirs d no_entry).name ∷ [])
          itself = both_ways (eqb d top) (same_path (climb t.dirs 32 top) (climb t.dirs n (up t.dirs d) ++ trimmed (get_or t.dirs d no_entry).name ∷ []))
              (λ e. eq_same_path (climb t.dirs 32 top) (climb t.dirs n (up t.dirs d) ++ trimmed (get_or t.dirs d no_entry).name ∷ []) (climb_fuel t.dirs 32 (suc n) top (s.rooted top l) (subst (λ x. climbs t.dirs (suc n) x ≡ true) (eqb-true d top e) c) ∙ ap (climb t.dirs (suc n)) (sym (eqb-true d top e)) ∙ one_up))
              (λ e. eq-eqb d top (sym (same-climb i t s 32 (suc n) top d (s.rooted top l) c (same_path_true (climb t.dirs 32 top) (climb t.dirs n (up t.dirs d) ++ trimmed (get_or t.dirs d no_entry).name ∷ []) e ∙ sym one_up))))
