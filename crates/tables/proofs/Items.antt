-- The item that a path names, and the place of a new one.
use Rattle.std.proofs.Common.{◌≡◌, ℕ, ◌≤◌, true, false, not, ◌&&◌, leb, List, [], ◌∷◌, length, is_some as option_is_some, Some, None, Option, sym, refl, ap, ◌∙◌}
use Rattle.std.proofs.lemmas.Bool.{and_parts, leb-true}
use Rattle.model.specs.Refusals.{check, picked}
use Rattle.model.specs.Names.{Path, names, spelt, padded}
use Rattle.model.specs.Book.{last}
use Rattle.model.specs.Tables.{Tables, Entry}
use Rattle.model.specs.Tree.{is_some}
use Rattle.model.specs.Volume.{named, item, item_in, holder, leads, new_entry, or_zero}
use Rattle.model.specs.declared.types.Kind.{Kind}
use Rattle.model.specs.declared.types.Kind.TheVariants.{Directory as directory, File as file}
use Rattle.model.specs.declared.types.Refusal.TheVariants.{Lost as lost, Taken as taken}
use Rattle.model.proofs.Naming.Spelling.{spelt_some, last-spelt}
use Rattle.tables.specs.Plans.{begun, there, vacant, is_kind}
use Rattle.tables.proofs.Choosing.{skip, stop, front-passed}

-- of the wanted kind -------------------------------------------------------------------------------------------

pub kind-other : (k f : Kind) (n : ℕ) → (f ≡ k → ⊥) → is_kind k (Some (f, n)) ≡ false
kind-other directory directory n h = absurd (h refl)
kind-other directory file n h = refl
kind-other file directory n h = refl
kind-other file file n h = absurd (h refl)

pub kind_none : (k : Kind) → is_kind k None ≡ false
kind_none directory = refl
kind_none file = refl

pub there_lost : (k : Kind) (t : Tables) (d : ℕ) (p : List ℕ) (o : Option (Kind × ℕ)) → picked (begun t d p) ≡ None → o ≡ named t d p → is_kind k o ≡ false → picked (there k t d p) ≡ Some lost
there_lost k t d p o h e q = front-passed (begun t d p) (check (not (is_kind k (named t d p))) lost ∷ []) h ∙ stop (not (is_kind k (named t d p))) lost None (ap not (ap (is_kind k) (sym e) ∙ q))

-- a path that is well spelt has a name ---------------------------------------------------------------------------

pub named-spelt : (t : Tables) (d : ℕ) (p : List ℕ) → spelt p ≡ true → named t d p ≡ item_in t (holder t d (names p)) (last (names p))
named-spelt t d p h = go (names p) (spelt_some p h)
  where
    go : (ns : Path) → (ns ≡ [] → ⊥) → item t d ns ≡ item_in t (holder t d ns) (last ns)
    go [] none = absurd (none refl)
    go (n ∷ ns) none = refl

-- a last name fits into an entry
pub last-short : (p : List ℕ) → spelt p ≡ true → length (last (names p)) ≤ 15
last-short p h =
    let n = last (names p) in
    let q = and_parts (leb 1 (length n) && leb (length n) 15) _ (last-spelt p h) in
    leb-true (length n) 15 (and_parts (leb 1 (length n)) (leb (length n) 15) q.0).1

-- the place of a new item ----------------------------------------------------------------------------------------

some_same : {A : Type 0} (o : Option A) → option_is_some o ≡ is_some o
some_same None = refl
some_same (Some a) = refl

module _ (t : Tables) (d : ℕ) (p : List ℕ) (sp : spelt p ≡ true) (h : ℕ) (e : holder t d (names p) ≡ Some h) (o : Option (Kind × ℕ)) (q : o ≡ item_in t (Some h) (last (names p))) where
  there_is : named t d p ≡ o
  there_is = named-spelt t d p sp ∙ ap (λ (x : Option ℕ). item_in t x (last (names p))) e ∙ sym q

  led : leads t d p ≡ true
  led = ap is_some e

  pub vacant_taken : true ≡ option_is_some o → picked (vacant t d p) ≡ Some taken
  vacant_taken s = skip (not (leads t d p)) lost _ (ap not led) (stop (is_some (named t d p)) taken None (ap is_some there_is ∙ sym (some_same o) ∙ sym s))

  pub vacant-passed : false ≡ option_is_some o → picked (vacant t d p) ≡ None
  vacant-passed s = skip (not (leads t d p)) lost _ (ap not led) (skip (is_some (named t d p)) taken None (ap is_some there_is ∙ sym (some_same o) ∙ sym s) refl)

pub new_is : (t : Tables) (d : ℕ) (p : List ℕ) (h : ℕ) (e : Entry) → holder t d (names p) ≡ Some h → e.parent ≡ h → e.name ≡ padded (last (names p)) → e ≡ new_entry t d p
new_is t d p h e q a b = λ i. record { parent = (a ∙ sym (ap or_zero q)) i; name = b i }
