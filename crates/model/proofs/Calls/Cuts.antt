-- What unlink and prune leave: entries are freed.
use Rattle.std.proofs.Common.{◌≡◌, ℕ, zero, suc, ◌+◌, ◌<◌, Bool, true, false, cond, ◌&&◌, eqb, ◌⊎◌, List, [], ◌∷◌, length, None, sym, refl, ap, ◌∙◌, subst, inl, inr, zero-add, arith}
use Rattle.std.proofs.lemmas.List.{get_or-set_other, get_or-set_same, length-set}
use Rattle.std.proofs.lemmas.Bool.{and_from, and_parts, and_right, both_ways, cases_eq, eq-eqb, eqb-true, ne_eqb}
use Rattle.model.specs.Image.{Image, is_ok, writes}
use Rattle.model.specs.Refusals.{lost, misspelt, start, prune, unlink, picked}
use Rattle.model.specs.Names.{spelt, within}
use Rattle.model.specs.Tables.{root, Entry, Tables, no_entry, live, trimmed, used, entries_bytes, member}
use Rattle.model.specs.Tree.{directory, file}
use Rattle.model.specs.Volume.{row, is_dir, is_file, number_of, named, climb, checks, starts, first_bytes, freed, marked, unlinked, under, dirs_less, goes, files_less, places_under, pruned, tables_after, map_write, dirs_write, files_write, sector_writes}
use Rattle.model.specs.Sound.{Shaped, Live, Sound}
use Rattle.model.proofs.Common.Members.{member-at, at-member}
use Rattle.model.proofs.Store.Writes.{Able}
use Rattle.model.proofs.Naming.Same.{within-up}
use Rattle.model.proofs.Tables.Climbs.{up, climb-live}
use Rattle.model.proofs.Tables.Loads.{Holds, holds_after, dirs_back, files_back, dirs_512, files_512, Next}
use Rattle.model.proofs.Tables.Places.{used-at, places_under_is, member-places, places-member, length_marked}
use Rattle.model.proofs.Tables.Rules.{held-from}
use Rattle.model.proofs.Tables.Walks.{freed_gone, found, dir_out, file_out}
use Rattle.model.proofs.Tables.Ways.{under-within}
use Rattle.model.proofs.Calls.Checks.{pass_not}
use Rattle.model.proofs.Calls.Entries.{at, Treed, Rest, thinned}
use Rattle.model.proofs.Calls.Rows.{Site, treed_from, rowed_from, sound-from, rowed_less}

first-long : (e : Entry) → length e.name ≡ 15 → length (first_bytes e).name ≡ 15
first-long e h = length-set e.name 0 0 ∙ h

-- an entry that is freed where b holds
abbrev Cut : Entry → Entry → Bool → Type 0
Cut e e' b = e' ≡ cond (live e && b) (first_bytes e) e

cut_stays : (e e' : Entry) (b : Bool) → Cut e e' b → live e' ≡ true → (live e ≡ true) × (e' ≡ e) × (b ≡ false)
cut_stays e e' b c l = go (live e) refl b refl c
  where
    go : (v : Bool) → live e ≡ v → (w : Bool) → b ≡ w → e' ≡ cond (v && w) (first_bytes e) e → (live e ≡ true) × (e' ≡ e) × (b ≡ false)
    go true p true q r = absurd (both_ways (live e') (ap live r ∙ freed_gone e) l)
    go true p false q r = (p, r, q)
    go false p w q r = absurd (both_ways (live e') (ap live (r ∙ cond_same w) ∙ p) l)
      where
        cond_same : (w : Bool) → cond (false && w) (first_bytes e) e ≡ e
        cond_same w = refl

cut-kept : (e e' : Entry) (b : Bool) → Cut e e' b → live e ≡ true → b ≡ false → live e' ≡ true
cut-kept e e' b c l q = ap live (c ∙ (ap (λ w. cond (live e && w) (first_bytes e) e) q ∙ ap (λ v. cond (v && false) (first_bytes e) e) l)) ∙ l

cut_gone : (e e' : Entry) (b : Bool) → Cut e e' b → live e ≡ true → b ≡ true → live e' ≡ false
cut_gone e e' b c l q = ap live (c ∙ (ap (λ w. cond (live e && w) (first_bytes e) e) q ∙ ap (λ v. cond (v && true) (first_bytes e) e) l)) ∙ freed_gone e

cut_why : (e e' : Entry) (b : Bool) → Cut e e' b → live e ≡ true → live e' ≡ false → b ≡ true
cut_why e e' b c l d = go b refl
  where
    go : (w : Bool) → b ≡ w → w ≡ true
    go true q = refl
    go false q = absurd (both_ways (live e') d (cut-kept e e' b c l q))

cut-long : (e e' : Entry) (b : Bool) → Cut e e' b → length e.name ≡ 15 → length e'.name ≡ 15
cut-long e e' b c h = go (live e && b) c
  where
    go : (w : Bool) → e' ≡ cond w (first_bytes e) e → length e'.name ≡ 15
    go true r = ap (λ x. length x.name) r ∙ first-long e h
    go false r = ap (λ x. length x.name) r ∙ h

-- entries are freed where g holds of their numbers ----------------------------------------------------------

module _ (i : Image) (t : Tables) (shaped : Shaped t) (facts : Sound i t)
    (ds fs : List Entry) (gd gf : ℕ → Bool) (out : List ℕ)
    (many_d : length ds ≡ 32) (many_f : length fs ≡ 32)
    (cut-d : (d : ℕ) → Cut (at t.dirs d) (at ds d) (gd d)) (cut-f : (f : ℕ) → Cut (at t.files f) (at fs f) (gf f))
    (up-d : (d : ℕ) → Live t.dirs d → gd d ≡ false → Live t.dirs (at t.dirs d).parent → gd (at t.dirs d).parent ≡ false)
    (up-f : (f : ℕ) → Live t.files f → gf f ≡ false → Live t.dirs (at t.files f).parent → gd (at t.files f).parent ≡ false)
    (out-from : (s : ℕ) → member s out ≡ true → (f : ℕ) × (j : ℕ) × Site t.files t.rows f j s × (gf f ≡ true))
    (out-has : (f j s : ℕ) → Site t.files t.rows f j s → gf f ≡ true → member s out ≡ true) where
  abbrev less : Tables
  less = record { marks = marked out 0 t.marks; dirs = ds; files = fs; rows = t.rows }

  tree : Treed t.dirs t.files
  tree = treed_from i t shaped facts

  rest_d : Rest t.dirs ds
  rest_d d l = let c = cut_stays (at t.dirs d) (at ds d) (gd d) (cut-d d) l.1 in ((l.0, c.0), c.1)

  rest_f : Rest t.files fs
  rest_f f l = let c = cut_stays (at t.files f) (at fs f) (gf f) (cut-f f) l.1 in ((l.0, c.0), c.1)

  stays_d : (d : ℕ) → Live t.dirs d → gd d ≡ false → Live ds d
  stays_d d l q = (l.0, cut-kept (at t.dirs d) (at ds d) (gd d) (cut-d d) l.1 q)

  closed_d : (d : ℕ) → Live ds d → ((at t.dirs d).parent ≡ root) ⊎ Live ds (at t.dirs d).parent
  closed_d d l = go (tree.dirs_proper d (rest_d d l).0).held
    where
      go : ((at t.dirs d).parent ≡ root) ⊎ Live t.dirs (at t.dirs d).parent → ((at t.dirs d).parent ≡ root) ⊎ Live ds (at t.dirs d).parent
      go (inl e) = inl e
      go (inr m) = inr (stays_d (at t.dirs d).parent m (up-d d (rest_d d l).0 (cut_stays (at t.dirs d) (at ds d) (gd d) (cut-d d) l.1).2 m))

  closed_f : (f : ℕ) → Live fs f → ((at t.files f).parent ≡ root) ⊎ Live ds (at t.files f).parent
  closed_f f l = go (tree.files_proper f (rest_f f l).0).held
    where
      go : ((at t.files f).parent ≡ root) ⊎ Live t.dirs (at t.files f).parent → ((at t.files f).parent ≡ root) ⊎ Live ds (at t.files f).parent
      go (inl e) = inl e
      go (inr m) = inr (stays_d (at t.files f).parent m (up-f f (rest_f f l).0 (cut_stays (at t.files f) (at fs f) (gf f) (cut-f f) l.1).2 m))

  less_shaped : Shaped less
  less_shaped =
      record {
        marks_long = length_marked out 0 t.marks ∙ shaped.marks_long;
        dirs_many = many_d;
        files_many = many_f;
        rows_many = shaped.rows_many;
        dirs_named = λ d b. cut-long (at t.dirs d) (at ds d) (gd d) (cut-d d) (shaped.dirs_named d b);
        files_named = λ f b. cut-long (at t.files f) (at fs f) (gf f) (cut-f f) (shaped.files_named f b);
        rows_long = shaped.rows_long;
      }

  less_sound : Sound i less
  less_sound =
      sound-from i less less_shaped
      (thinned t.dirs t.files ds fs tree rest_d rest_f closed_d closed_f)
      (rowed_less i t.marks t.files fs t.rows shaped.marks_long (rowed_from i t shaped facts) rest_f out
      (λ s m. let q = out-from s m in (q.0, q.1, q.2, cut_gone (at t.files q.0) (at fs q.0) (gf q.0) (cut-f q.0) q.2.1 q.3))
      (λ f j s n d. out-has f j s n (cut_why (at t.files f) (at fs f) (gf f) (cut-f f) n.1 d)))

  less_stays : Shaped less × Sound i less
  less_stays = (less_shaped, less_sound)

-- unlink -------------------------------------------------------------------------------------------------

module _ (i : Image) (t : Tables) (shaped : Shaped t) (holds : Holds i t) (facts : Sound i t) where
  freed-cut : (es : List Entry) (j : ℕ) → Live es j → length es ≡ 32 → (f : ℕ) → Cut (at es f) (at (freed es j) f) (eqb f j)
  freed-cut es j l many f = go (cases_eq f j)
    where
      in_list : j < length es
      in_list = subst (λ m. j < m) (sym many) l.0

      go : (f ≡ j) ⊎ (f ≡ j → ⊥) → Cut (at es f) (at (freed es j) f) (eqb f j)
      go (inl e) =
          let a : at (freed es j) f ≡ first_bytes (at es f) = ap (at (freed es j)) e ∙ (get_or-set_same es j (first_bytes (at es j)) no_entry in_list ∙ ap (λ x. first_bytes (at es x)) (sym e)) in
          let b : (live (at es f) && eqb f j) ≡ true = and_from (live (at es f)) (eqb f j) (ap (λ x. live (at es x)) e ∙ l.1) (eq-eqb f j e) in
          a ∙ ap (λ w. cond w (first_bytes (at es f)) (at es f)) (sym b)
      go (inr ne) =
          let b : (live (at es f) && eqb f j) ≡ false = and_right (live (at es f)) (eqb f j) (ne_eqb f j ne) in
          get_or-set_other es j f (first_bytes (at es j)) no_entry ne ∙ ap (λ w. cond w (first_bytes (at es f)) (at es f)) (sym b)

  all-kept : (e : Entry) → Cut e e false
  all-kept e = go (live e)
    where
      go : (b : Bool) → e ≡ cond (b && false) (first_bytes e) e
      go true = refl
      go false = refl

  unlinked_stays : (j : ℕ) → Live t.files j → Shaped (unlinked t j) × Sound i (unlinked t j)
  unlinked_stays j l = less_stays i t shaped facts t.dirs (freed t.files j) (λ d. false) (λ f. eqb f j) (used (row t j)) shaped.dirs_many many (λ d. all-kept (at t.dirs d)) (freed-cut t.files j l shaped.files_many) (λ d l q m. refl) (λ f l q m. refl) from has
    where
      many : length (freed t.files j) ≡ 32
      many = length-set t.files j (first_bytes (at t.files j)) ∙ shaped.files_many

      from : (s : ℕ) → member s (used (row t j)) ≡ true → (f : ℕ) × (k : ℕ) × Site t.files t.rows f k s × (eqb f j ≡ true)
      from s m = let q = member-at s (used (row t j)) m in (j, q.0, (l.0, l.1, q.1, sym (used-at (row t j) q.0 q.1) ∙ q.2), eq-eqb j j refl)

      has : (f k s : ℕ) → Site t.files t.rows f k s → eqb f j ≡ true → member s (used (row t j)) ≡ true
      has f k s n e = subst (λ x. member s (used (row t x)) ≡ true) (eqb-true f j e) (at-member (used (row t f)) k s n.2 (used-at (row t f) k n.2 ∙ n.3))

  unlinked-next : (j : ℕ) → Live t.files j → Next i (unlinked t j) (files_write (unlinked t j) ∷ map_write (unlinked t j) ∷ [])
  unlinked-next j l = record { able = ok; holds = after; shaped = s.0; facts = s.1 }
    where
      s : Shaped (unlinked t j) × Sound i (unlinked t j)
      s = unlinked_stays j l

      ok : Able i (files_write (unlinked t j) ∷ map_write (unlinked t j) ∷ [])
      ok = (ap is_ok holds.files-at.1, files_512 (unlinked t j) s.0, (ap is_ok holds.map_at, s.0.marks_long, tt))

      after : Holds (writes (files_write (unlinked t j) ∷ map_write (unlinked t j) ∷ []) i).image (unlinked t j)
      after = holds_after i t (unlinked t j) (files_write (unlinked t j) ∷ map_write (unlinked t j) ∷ []) ok holds holds.dirs-at.0 (entries_bytes (unlinked t j).files) holds.rows_at.0 refl refl holds.dirs-at.2 refl (files_back (unlinked t j) s.0) refl holds.rows_at.2

  pub unlink_next : (d : ℕ) (p : List ℕ) → picked (checks t i (unlink d p)) ≡ None → Next i (tables_after t (unlink d p)) (sector_writes t (unlink d p) (tables_after t (unlink d p)))
  unlink_next d p h =
      let c₁ = pass_not (spelt p) misspelt _ h in
      let c₂ = pass_not (starts t d) start _ c₁.1 in
      let c₃ = pass_not (is_file (named t d p)) lost _ c₂.1 in
      let x = file_out (named t d p) c₃.0 in
      let l = (found i t shaped facts d p file x.0 c₁.0 (held-from t.dirs d c₂.0) x.1).0 in
      subst (λ j. Next i (unlinked t j) (files_write (unlinked t j) ∷ map_write (unlinked t j) ∷ [])) (sym (ap number_of x.1)) (unlinked-next x.0 l)

-- prune --------------------------------------------------------------------------------------------

pub dirs-length : (ds : List Entry) (top n : ℕ) (es : List Entry) → length (dirs_less ds top n es) ≡ length es
dirs-length ds top n [] = refl
dirs-length ds top n (e ∷ es) = ap suc (dirs-length ds top (suc n) es)

pub dirs-cut : (ds : List Entry) (top n : ℕ) (es : List Entry) (k m : ℕ) → m ≡ n + k → Cut (at es k) (at (dirs_less ds top n es) k) (under ds top 33 m)
dirs-cut ds top n [] k m e = refl
dirs-cut ds top n (x ∷ es) zero m e = let q : m ≡ n = omega arith in ap (λ y. cond (live x && under ds top 33 y) (first_bytes x) x) (sym q)
dirs-cut ds top n (x ∷ es) (suc k) m e = dirs-cut ds top (suc n) es k m (omega arith)

pub files-length : (ds : List Entry) (top : ℕ) (es : List Entry) → length (files_less ds top es) ≡ length es
files-length ds top [] = refl
files-length ds top (e ∷ es) = ap suc (files-length ds top es)

pub files-cut : (ds : List Entry) (top : ℕ) (es : List Entry) (k : ℕ) → Cut (at es k) (at (files_less ds top es) k) (under ds top 33 (at es k).parent)
files-cut ds top [] k = refl
files-cut ds top (e ∷ es) zero = refl
files-cut ds top (e ∷ es) (suc k) = files-cut ds top es k

module _ (i : Image) (t : Tables) (shaped : Shaped t) (holds : Holds i t) (facts : Sound i t) (top : ℕ) (live-top : Live t.dirs top) where
  abbrev gd : ℕ → Bool
  gd = under t.dirs top 33

  abbrev gf : ℕ → Bool
  gf f = under t.dirs top 33 (at t.files f).parent

  cut-here : (d : ℕ) → Cut (at t.dirs d) (at (dirs_less t.dirs top 0 t.dirs) d) (under t.dirs top 33 d)
  cut-here d = dirs-cut t.dirs top 0 t.dirs d d (sym (zero-add d))

  dirs-up : (d : ℕ) → Live t.dirs d → under t.dirs top 33 d ≡ false → Live t.dirs (at t.dirs d).parent → under t.dirs top 33 (at t.dirs d).parent ≡ false
  dirs-up d l h m =
      under-within i t facts top live-top 32 (up t.dirs d) (facts.rooted (up t.dirs d) m)
      ∙ within-up (climb t.dirs 32 top) (climb t.dirs 32 (up t.dirs d)) (trimmed (at t.dirs d).name) (ap (within (climb t.dirs 32 top)) (sym (climb-live i t facts d l)) ∙ sym (under-within i t facts top live-top 32 d (facts.rooted d l)) ∙ h)

  from : (s : ℕ) → member s (places_under t.dirs top t.files t.rows) ≡ true → (f : ℕ) × (j : ℕ) × Site t.files t.rows f j s × (under t.dirs top 33 (at t.files f).parent ≡ true)
  from s m =
      let q = member-places (goes t.dirs top) t.files t.rows s (subst (λ x. member s x ≡ true) (places_under_is t.dirs top t.files t.rows) m) in
      let n = q.2 in
      let g = and_parts (live (at t.files q.0)) (under t.dirs top 33 (at t.files q.0).parent) n.1 in
      (q.0, q.1, (subst (λ x. q.0 < x) shaped.files_many n.0, g.0, n.2, n.3), g.1)

  has : (f j s : ℕ) → Site t.files t.rows f j s → under t.dirs top 33 (at t.files f).parent ≡ true → member s (places_under t.dirs top t.files t.rows) ≡ true
  has f j s n g =
      subst (λ x. member s x ≡ true) (sym (places_under_is t.dirs top t.files t.rows))
      (places-member (goes t.dirs top) t.files t.rows f j s
      (subst (λ x. f < x) (sym shaped.files_many) n.0, and_from (live (at t.files f)) (under t.dirs top 33 (at t.files f).parent) n.1 g, n.2, n.3))

  many_d : length (dirs_less t.dirs top 0 t.dirs) ≡ 32
  many_d = dirs-length t.dirs top 0 t.dirs ∙ shaped.dirs_many

  many_f : length (files_less t.dirs top t.files) ≡ 32
  many_f = files-length t.dirs top t.files ∙ shaped.files_many

  pruned_stays : Shaped (pruned t top) × Sound i (pruned t top)
  pruned_stays = less_stays i t shaped facts (dirs_less t.dirs top 0 t.dirs) (files_less t.dirs top t.files) gd gf (places_under t.dirs top t.files t.rows) many_d many_f cut-here (files-cut t.dirs top t.files) dirs-up (λ f l h m. h) from has

  pruned-next : Next i (pruned t top) (files_write (pruned t top) ∷ dirs_write (pruned t top) ∷ map_write (pruned t top) ∷ [])
  pruned-next = record { able = ok; holds = after; shaped = pruned_stays.0; facts = pruned_stays.1 }
    where
      ok : Able i (files_write (pruned t top) ∷ dirs_write (pruned t top) ∷ map_write (pruned t top) ∷ [])
      ok = (ap is_ok holds.files-at.1, files_512 (pruned t top) pruned_stays.0, (ap is_ok holds.dirs-at.1, dirs_512 (pruned t top) pruned_stays.0, (ap is_ok holds.map_at, pruned_stays.0.marks_long, tt)))

      after : Holds (writes (files_write (pruned t top) ∷ dirs_write (pruned t top) ∷ map_write (pruned t top) ∷ []) i).image (pruned t top)
      after = holds_after i t (pruned t top) (files_write (pruned t top) ∷ dirs_write (pruned t top) ∷ map_write (pruned t top) ∷ []) ok holds (entries_bytes (pruned t top).dirs) (entries_bytes (pruned t top).files) holds.rows_at.0 refl refl (dirs_back (pruned t top) pruned_stays.0) refl (files_back (pruned t top) pruned_stays.0) refl holds.rows_at.2

module _ (i : Image) (t : Tables) (shaped : Shaped t) (holds : Holds i t) (facts : Sound i t) where
  pub prune_next : (d : ℕ) (p : List ℕ) → picked (checks t i (prune d p)) ≡ None → Next i (tables_after t (prune d p)) (sector_writes t (prune d p) (tables_after t (prune d p)))
  prune_next d p h =
      let c₁ = pass_not (spelt p) misspelt _ h in
      let c₂ = pass_not (starts t d) start _ c₁.1 in
      let c₃ = pass_not (is_dir (named t d p)) lost _ c₂.1 in
      let x = dir_out (named t d p) c₃.0 in
      let l = (found i t shaped facts d p directory x.0 c₁.0 (held-from t.dirs d c₂.0) x.1).0 in
      subst (λ j. Next i (pruned t j) (files_write (pruned t j) ∷ dirs_write (pruned t j) ∷ map_write (pruned t j) ∷ [])) (sym (ap number_of x.1)) (pruned-next i t shaped holds facts x.0 l)
