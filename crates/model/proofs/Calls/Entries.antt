-- Directories and files: what a new entry and what a removal keep.
use Rattle.std.proofs.Common.{◌≡◌, ℕ, zero, suc, ◌<◌, true, false, ◌⊎◌, List, length, get_or, set, sym, ap, ◌∙◌, subst, inl, inr, arith}
use Rattle.std.proofs.lemmas.List.{get_or-set_other, get_or-set_same}
use Rattle.std.proofs.lemmas.Bool.{both_ways, cases_eq, ne_eqb}
use Rattle.model.specs.Names.{within, proper_name, padded}
use Rattle.model.specs.Tables.{root, Entry, no_entry, live, trimmed, climbs}
use Rattle.model.specs.Volume.{climb}
use Rattle.model.specs.Sound.{Live, Proper}
use Rattle.model.proofs.Naming.Same.{within_same, within-up}
use Rattle.model.proofs.Tables.Climbs.{Place, up, Step, climbs_cases, climbs-root, climbs_more, climbs_zero, climb-up, climb_fuel}
use Rattle.model.proofs.Tables.Ways.{climbs-kept}

abbrev pub at : List Entry → ℕ → Entry
at es n = get_or es n no_entry

pub record Treed (ds fs : List Entry) : Type 0 where
  pub dirs_proper : (d : ℕ) → Live ds d → Proper ds (at ds d)
  pub files_proper : (f : ℕ) → Live fs f → Proper ds (at fs f)
  pub rooted : (d : ℕ) → Live ds d → (k : ℕ) × (climbs ds k d ≡ true)
  pub dirs_apart : (d e : ℕ) → Live ds d → Live ds e → (at ds d).parent ≡ (at ds e).parent → (at ds d).name ≡ (at ds e).name → d ≡ e
  pub files_apart : (f g : ℕ) → Live fs f → Live fs g → (at fs f).parent ≡ (at fs g).parent → (at fs f).name ≡ (at fs g).name → f ≡ g
  pub kinds_apart : (d f : ℕ) → Live ds d → Live fs f → (at ds d).parent ≡ (at fs f).parent → (at ds d).name ≡ (at fs f).name → ⊥

-- the way up from d meets the root, and not x
abbrev pub Avoids : List Entry → ℕ → ℕ → ℕ → Type 0
Avoids ds x zero d = d ≡ root
Avoids ds x (suc k) d = (d ≡ root) ⊎ ((d ≡ x → ⊥) × Live ds d × Avoids ds x k (up ds d))

pub dead_avoids : (ds : List Entry) (x : ℕ) → live (at ds x) ≡ false → (k d : ℕ) → climbs ds k d ≡ true → Avoids ds x k d
dead_avoids ds x e zero d h = climbs_zero ds d h
dead_avoids ds x e (suc k) d h = go (λ y a. dead_avoids ds x e k y a) (climbs_cases ds k d h)
  where
    go : ((y : ℕ) → climbs ds k y ≡ true → Avoids ds x k y) → Step ds k d → Avoids ds x (suc k) d
    go ih (inl q) = inl q
    go ih (inr r) = inr ((λ q. both_ways (live (at ds x)) e (subst (λ y. live (at ds y) ≡ true) q r.1.1)), r.1, ih (up ds d) r.2)

-- a way up from a path that is not within that of x does not meet x
pub avoids_out : (ds : List Entry) (x m : ℕ) → climbs ds m x ≡ true → (k d : ℕ) → climbs ds k d ≡ true → within (climb ds m x) (climb ds k d) ≡ false → Avoids ds x k d
avoids_out ds x m c zero d h w = climbs_zero ds d h
avoids_out ds x m c (suc k) d h w = go (λ y a b. avoids_out ds x m c k y a b) (climbs_cases ds k d h)
  where
    other : d ≡ x → ⊥
    other e = both_ways (within (climb ds m x) (climb ds (suc k) d)) w (ap (within (climb ds m x)) (climb_fuel ds (suc k) m d h (subst (λ y. climbs ds m y ≡ true) (sym e) c) ∙ ap (climb ds m) e) ∙ within_same (climb ds m x))

    go : ((y : ℕ) → climbs ds k y ≡ true → within (climb ds m x) (climb ds k y) ≡ false → Avoids ds x k y) → Step ds k d → Avoids ds x (suc k) d
    go ih (inl e) = inl e
    go ih (inr r) = inr (other, r.1, ih (up ds d) r.2 (within-up (climb ds m x) (climb ds k (up ds d)) (trimmed (at ds d).name) (ap (within (climb ds m x)) (sym (climb-up ds k d (ne_eqb d root r.0))) ∙ w)))

-- what a new live entry has to be
pub record Named (e : Entry) : Type 0 where
  pub is_live : live e ≡ true
  pub is_named : proper_name (trimmed e.name) ≡ true
  pub is_filled : e.name ≡ padded (trimmed e.name)

-- an entry put in ------------------------------------------------------------------------------------

module _ (es : List Entry) (n : ℕ) (e : Entry) (in_List : n < length es) (small : n < 32) (fresh : Named e) where
  at_new : at (set es n e) n ≡ e
  at_new = get_or-set_same es n e no_entry in_List

  at_old : (d : ℕ) → (d ≡ n → ⊥) → at (set es n e) d ≡ at es d
  at_old d ne = get_or-set_other es n d e no_entry ne

  at_same : (d : ℕ) → d ≡ n → at (set es n e) d ≡ e
  at_same d q = ap (at (set es n e)) q ∙ at_new

  -- a live entry after is the new one, or an old one
  abbrev Which : ℕ → Type 0
  Which d = ((d ≡ n) × (at (set es n e) d ≡ e)) ⊎ ((d ≡ n → ⊥) × Live es d × (at (set es n e) d ≡ at es d))

  which : (d : ℕ) → Live (set es n e) d → Which d
  which d l = go (cases_eq d n)
    where
      go : (d ≡ n) ⊎ (d ≡ n → ⊥) → Which d
      go (inl q) = inl (q, at_same d q)
      go (inr q) = inr (q, (l.0, ap live (sym (at_old d q)) ∙ l.1), at_old d q)

  live_still : (d : ℕ) → Live es d → Live (set es n e) d
  live_still d l = go (cases_eq d n)
    where
      go : (d ≡ n) ⊎ (d ≡ n → ⊥) → Live (set es n e) d
      go (inl q) = (l.0, ap live (at_same d q) ∙ fresh.is_live)
      go (inr q) = (l.0, ap live (at_old d q) ∙ l.1)

  live-new : Live (set es n e) n
  live-new = (small, ap live at_new ∙ fresh.is_live)

  -- no two entries share parent and name, if the new one shares them with no other
  apart-after : ((d c : ℕ) → Live es d → Live es c → (at es d).parent ≡ (at es c).parent → (at es d).name ≡ (at es c).name → d ≡ c) → ((d : ℕ) → (d ≡ n → ⊥) → Live es d → (at es d).parent ≡ e.parent → (at es d).name ≡ e.name → ⊥) → (d c : ℕ) → Live (set es n e) d → Live (set es n e) c → (at (set es n e) d).parent ≡ (at (set es n e) c).parent → (at (set es n e) d).name ≡ (at (set es n e) c).name → d ≡ c
  apart-after apart alone d c l m p q = go (which d l) (which c m)
    where
      go : Which d → Which c → d ≡ c
      go (inl a) (inl b) = a.0 ∙ sym b.0
      go (inl a) (inr b) = absurd (alone c b.0 b.1 (ap (λ x. x.parent) (sym b.2) ∙ (sym p ∙ ap (λ x. x.parent) a.1)) (ap (λ x. x.name) (sym b.2) ∙ (sym q ∙ ap (λ x. x.name) a.1)))
      go (inr a) (inl b) = absurd (alone d a.0 a.1 (ap (λ x. x.parent) (sym a.2) ∙ (p ∙ ap (λ x. x.parent) b.1)) (ap (λ x. x.name) (sym a.2) ∙ (q ∙ ap (λ x. x.name) b.1)))
      go (inr a) (inr b) = apart d c a.1 b.1 (ap (λ x. x.parent) (sym a.2) ∙ (p ∙ ap (λ x. x.parent) b.2)) (ap (λ x. x.name) (sym a.2) ∙ (q ∙ ap (λ x. x.name) b.2))

  -- nor with one of the other kind
  cross_after : (os : List Entry) → ((d f : ℕ) → Live es d → Live os f → (at es d).parent ≡ (at os f).parent → (at es d).name ≡ (at os f).name → ⊥) → ((f : ℕ) → Live os f → (at os f).parent ≡ e.parent → (at os f).name ≡ e.name → ⊥) → (d f : ℕ) → Live (set es n e) d → Live os f → (at (set es n e) d).parent ≡ (at os f).parent → (at (set es n e) d).name ≡ (at os f).name → ⊥
  cross_after os apart alone d f l m p q = go (which d l)
    where
      go : Which d → ⊥
      go (inl a) = alone f m (sym p ∙ ap (λ x. x.parent) a.1) (sym q ∙ ap (λ x. x.name) a.1)
      go (inr a) = apart d f a.1 m (ap (λ x. x.parent) (sym a.2) ∙ p) (ap (λ x. x.name) (sym a.2) ∙ q)

  proper_new : (ds : List Entry) → Place ds e.parent → Proper ds e
  proper_new ds h = record { named = fresh.is_named; filled = fresh.is_filled; held = h }

  -- as the directories
  held_still : (p : ℕ) → Place es p → Place (set es n e) p
  held_still p (inl q) = inl q
  held_still p (inr l) = inr (live_still p l)

  proper_still : (x : Entry) → Proper es x → Proper (set es n e) x
  proper_still x p = record { named = p.named; filled = p.filled; held = held_still x.parent p.held }

  avoids_climbs : (k d : ℕ) → Avoids es n k d → climbs (set es n e) k d ≡ true
  avoids_climbs zero d a = climbs-root (set es n e) zero d a
  avoids_climbs (suc k) d a = go (λ x b. avoids_climbs k x b) a
    where
      go : ((x : ℕ) → Avoids es n k x → climbs (set es n e) k x ≡ true) → Avoids es n (suc k) d → climbs (set es n e) (suc k) d ≡ true
      go ih (inl q) = climbs-root (set es n e) (suc k) d q
      go ih (inr b) = climbs_more (set es n e) k d (live_still d b.1) (subst (λ x. climbs (set es n e) k x.parent ≡ true) (sym (at_old d b.0)) (ih (up es d) b.2))

  module _ (k₀ : ℕ) (away : Avoids es n k₀ e.parent) where
    new-climbs : climbs (set es n e) (suc k₀) n ≡ true
    new-climbs = climbs_more (set es n e) k₀ n live-new (subst (λ x. climbs (set es n e) k₀ x.parent ≡ true) (sym at_new) (avoids_climbs k₀ e.parent away))

    abbrev Up : ℕ → Type 0
    Up d = (m : ℕ) × (climbs (set es n e) m d ≡ true)

    all-climb : (k d : ℕ) → climbs es k d ≡ true → Up d
    all-climb zero d h = (zero, h)
    all-climb (suc k) d h = go (λ x a. all-climb k x a) (climbs_cases es k d h) (cases_eq d n)
      where
        go : ((x : ℕ) → climbs es k x ≡ true → Up x) → Step es k d → (d ≡ n) ⊎ (d ≡ n → ⊥) → Up d
        go ih (inl q) c = (zero, climbs-root (set es n e) zero d q)
        go ih (inr r) (inl q) = (suc k₀, subst (λ x. climbs (set es n e) (suc k₀) x ≡ true) (sym q) new-climbs)
        go ih (inr r) (inr q) = let u = ih (up es d) r.2 in (suc u.0, climbs_more (set es n e) u.0 d (live_still d r.1) (subst (λ x. climbs (set es n e) u.0 x.parent ≡ true) (sym (at_old d q)) u.1))

    held_new : (k : ℕ) → Avoids es n k e.parent → Place (set es n e) e.parent
    held_new zero a = inl a
    held_new (suc k) (inl q) = inl q
    held_new (suc k) (inr b) = inr (live_still e.parent b.1)

    pub dir_placed : (fs : List Entry) → Treed es fs → ((d : ℕ) → (d ≡ n → ⊥) → Live es d → (at es d).parent ≡ e.parent → (at es d).name ≡ e.name → ⊥) → ((f : ℕ) → Live fs f → (at fs f).parent ≡ e.parent → (at fs f).name ≡ e.name → ⊥) → Treed (set es n e) fs
    dir_placed fs s no-dir no-file =
        record {
          dirs_proper = λ d l. proper d (which d l);
          files_proper = λ f l. proper_still (at fs f) (s.files_proper f l);
          rooted = λ d l. reach d (which d l);
          dirs_apart = apart-after s.dirs_apart no-dir;
          files_apart = s.files_apart;
          kinds_apart = cross_after fs s.kinds_apart no-file;
        }
      where
        proper : (d : ℕ) → Which d → Proper (set es n e) (at (set es n e) d)
        proper d (inl a) = subst (Proper (set es n e)) (sym a.1) (proper_new (set es n e) (held_new k₀ away))
        proper d (inr a) = subst (Proper (set es n e)) (sym a.2) (proper_still (at es d) (s.dirs_proper d a.1))

        reach : (d : ℕ) → Which d → (k : ℕ) × (climbs (set es n e) k d ≡ true)
        reach d (inl a) = (suc k₀, subst (λ x. climbs (set es n e) (suc k₀) x ≡ true) (sym a.0) new-climbs)
        reach d (inr a) = let r = s.rooted d a.1 in all-climb r.0 d r.1

  -- as the files
  pub file_placed : (ds : List Entry) → Treed ds es → ((e.parent ≡ root) ⊎ Live ds e.parent) → ((d : ℕ) → Live ds d → (at ds d).parent ≡ e.parent → (at ds d).name ≡ e.name → ⊥) → ((f : ℕ) → (f ≡ n → ⊥) → Live es f → (at es f).parent ≡ e.parent → (at es f).name ≡ e.name → ⊥) → Treed ds (set es n e)
  file_placed ds s held no-dir no-file =
      record {
        dirs_proper = s.dirs_proper;
        files_proper = λ f l. proper f (which f l);
        rooted = s.rooted;
        dirs_apart = s.dirs_apart;
        files_apart = apart-after s.files_apart no-file;
        kinds_apart = λ d f l m p q. cross_after ds (λ f d l m p q. s.kinds_apart d f m l (sym p) (sym q)) no-dir f d m l (sym p) (sym q);
      }
    where
      proper : (f : ℕ) → Which f → Proper ds (at (set es n e) f)
      proper f (inl a) = subst (Proper ds) (sym a.1) (proper_new ds held)
      proper f (inr a) = subst (Proper ds) (sym a.2) (s.files_proper f a.1)

-- entries taken out -----------------------------------------------------------------------------------

abbrev pub Rest : List Entry → List Entry → Type 0
Rest es less = (d : ℕ) → Live less d → Live es d × (at less d ≡ at es d)

module _ (ds fs ds' fs' : List Entry) (s : Treed ds fs) (rest_d : Rest ds ds') (rest_f : Rest fs fs')
    (closed_d : (d : ℕ) → Live ds' d → ((at ds d).parent ≡ root) ⊎ Live ds' (at ds d).parent)
    (closed_f : (f : ℕ) → Live fs' f → ((at fs f).parent ≡ root) ⊎ Live ds' (at fs f).parent) where
  still_climbs : (k d : ℕ) → climbs ds k d ≡ true → Place ds' d → climbs ds' k d ≡ true
  still_climbs = climbs-kept ds ds' (Place ds') kept
    where
      kept : (k : ℕ) → Live ds k → Place ds' k → (at ds' k ≡ at ds k) × Place ds' (at ds k).parent
      kept k l (inl e) = absurd (far k l.0 e)
        where
          far : (k : ℕ) → k < 32 → k ≡ root → ⊥
          far k l e = omega arith
      kept k l (inr m) = ((rest_d k m).1, closed_d k m)

  pub thinned : Treed ds' fs'
  thinned =
      record {
        dirs_proper = λ d l. let r = rest_d d l in let p = s.dirs_proper d r.0 in subst (Proper ds') (sym r.1) (record { named = p.named; filled = p.filled; held = closed_d d l });
        files_proper = λ f l. let r = rest_f f l in let p = s.files_proper f r.0 in subst (Proper ds') (sym r.1) (record { named = p.named; filled = p.filled; held = closed_f f l });
        rooted = λ d l. let r = s.rooted d (rest_d d l).0 in (r.0, still_climbs r.0 d r.1 (inr l));
        dirs_apart = λ d e l m p q. let a = rest_d d l in let b = rest_d e m in s.dirs_apart d e a.0 b.0 (ap (λ x. x.parent) (sym a.1) ∙ (p ∙ ap (λ x. x.parent) b.1)) (ap (λ x. x.name) (sym a.1) ∙ (q ∙ ap (λ x. x.name) b.1));
        files_apart = λ d e l m p q. let a = rest_f d l in let b = rest_f e m in s.files_apart d e a.0 b.0 (ap (λ x. x.parent) (sym a.1) ∙ (p ∙ ap (λ x. x.parent) b.1)) (ap (λ x. x.name) (sym a.1) ∙ (q ∙ ap (λ x. x.name) b.1));
        kinds_apart = λ d e l m p q. let a = rest_d d l in let b = rest_f e m in s.kinds_apart d e a.0 b.0 (ap (λ x. x.parent) (sym a.1) ∙ (p ∙ ap (λ x. x.parent) b.1)) (ap (λ x. x.name) (sym a.1) ∙ (q ∙ ap (λ x. x.name) b.1));
      }
