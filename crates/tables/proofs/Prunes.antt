-- The tables without what is marked are those after the call, where the subtree of its directory is marked.
use Rattle.std.proofs.Common.{◌≡◌, ℕ, zero, suc, ◌+◌, ◌<◌, Bool, true, false, cond, not, ◌&&◌, ◌||◌, eqb, List, [], ◌∷◌, ◌++◌, map, length, get_or, replicate, Some, None, sym, refl, ap, ◌∙◌, ap₂, inl, inr, arith}
use Rattle.std.proofs.lemmas.List.{length-replicate}
use Rattle.std.proofs.lemmas.Bool.{eq-eqb, le-ltb, lt-ltb, ne_eqb, or_from}
use Rattle.model.specs.Image.{Image}
use Rattle.model.specs.Names.{spelt}
use Rattle.model.specs.Refusals.{prune, picked}
use Rattle.model.specs.Sound.{Shaped, Live, Sound}
use Rattle.model.specs.Tables.{Tables, Entry, root, no_entry, live, live_dir, used}
use Rattle.model.specs.Volume.{named, number_of, starts, first_bytes, marked, under, dirs_less, goes, files_less, places_under, pruned, tables_after}
use Rattle.model.specs.declared.types.Kind.TheVariants.{Directory as directory}
use Rattle.model.specs.declared.types.Refusal.TheVariants.{Misspelt as misspelt, Start as start}
use Rattle.model.proofs.Calls.Checks.{pass_not}
use Rattle.model.proofs.Tables.Climbs.{Place}
use Rattle.model.proofs.Tables.Rules.{held-from, live_dir-live}
use Rattle.model.proofs.Tables.Walks.{found, live_at}
use Rattle.tables.specs.Views.{view}
use Rattle.tables.proofs.Shapes.{shaped}
use Rattle.tables.specs.declared.consistent.Consistent.{Consistent}
use Rattle.tables.specs.Plans.{there}
use Rattle.tables.specs.Subtrees.{beneath, is_marked, with_subtree, untouched, goes_in, file_less, places_in, without_files, dirs_out, without_dirs, without_subtree}
use Rattle.tables.proofs.Marking.{with-marks, at-untouched}
use Rattle.tables.proofs.Subtrees.{live-live_dir}
use Rattle.tables.proofs.Told.{told}

-- where marks and subtree agree ------------------------------------------------------------------------------------

same-places : (ms : List Bool) (ds : List Entry) (top : ℕ) (es : List Entry) (rs : List (List ℕ)) → ((k : ℕ) → k < length es → goes_in ms (get_or es k no_entry) ≡ goes ds top (get_or es k no_entry)) → places_in ms es rs ≡ places_under ds top es rs
same-places ms ds top [] rs h = refl
same-places ms ds top (e ∷ es) [] h = refl
same-places ms ds top (e ∷ es) (r ∷ rs) h = ap₂ (λ b x. cond b (used r) [] ++ x) (h 0 (omega arith)) (same-places ms ds top es rs (λ k l. h (suc k) (omega arith))) ∙ go (goes ds top e)
  where
    go : (b : Bool) → cond b (used r) [] ++ places_under ds top es rs ≡ cond b (used r ++ places_under ds top es rs) (places_under ds top es rs)
    go true = refl
    go false = refl

same-files : (ms : List Bool) (ds : List Entry) (top : ℕ) (es : List Entry) → ((k : ℕ) → k < length es → goes_in ms (get_or es k no_entry) ≡ goes ds top (get_or es k no_entry)) → map (file_less ms) es ≡ files_less ds top es
same-files ms ds top [] h = refl
same-files ms ds top (e ∷ es) h = ap₂ (λ b x. cond b (first_bytes e) e ∷ x) (h 0 (omega arith)) (same-files ms ds top es (λ k l. h (suc k) (omega arith)))

same-dirs : (ms : List Bool) (ds : List Entry) (top n : ℕ) (es : List Entry) → ((k m : ℕ) → k < length es → m ≡ n + k → is_marked ms m ≡ (live (get_or es k no_entry) && under ds top 33 m)) → dirs_out ms n es ≡ dirs_less ds top n es
same-dirs ms ds top n [] h = refl
same-dirs ms ds top n (e ∷ es) h = ap₂ (λ b x. cond b (first_bytes e) e ∷ x) (h 0 n (omega arith) (omega arith)) (same-dirs ms ds top (suc n) es (λ k m l q. h (suc k) m (omega arith) (omega arith)))

-- the subtree, marked ----------------------------------------------------------------------------------------------

-- no place is marked
abbrev pub Clear : List Bool → Type 0
Clear ms = (length ms ≡ 32) × ((d : ℕ) → is_marked ms d ≡ false)

none_marked : (n d : ℕ) → is_marked (replicate n false) d ≡ false
none_marked zero d = refl
none_marked (suc n) zero = refl
none_marked (suc n) (suc d) = none_marked n d

pub all_clear : (n : ℕ) → n ≡ 32 → Clear (replicate n false)
all_clear n e = (length-replicate n false ∙ e, none_marked n)

module _ (i : Image) (t : Tables) (sized : Shaped t) (s : Sound i t) (top : ℕ) (lives : Live t.dirs top) (none : List Bool) (clear : Clear none) where
  abbrev ms : List Bool
  ms = with_subtree t.dirs top none

  mark_at : (d : ℕ) → is_marked ms d ≡ (live_dir t.dirs d && under t.dirs top 33 d)
  unfolding beneath
  mark_at d = with-marks t.dirs top none clear.0 d ∙ ap (λ b. b || beneath t.dirs top d) (clear.1 d)

  under-root : (n d : ℕ) → d ≡ root → under t.dirs top (suc n) d ≡ false
  under-root n d e =
      let z = lives.0 in
      or_from (eqb d top) (not (eqb d root) && under t.dirs top n (get_or t.dirs d no_entry).parent) (ne_eqb d top (λ q. omega arith))
      (ap (λ b. not b && under t.dirs top n (get_or t.dirs d no_entry).parent) (eq-eqb d root e))

  place_mark : (d : ℕ) → Place t.dirs d → is_marked ms d ≡ under t.dirs top 33 d
  place_mark d (inl e) = mark_at d ∙ ap (λ b. (b && live (get_or t.dirs d no_entry)) && under t.dirs top 33 d) (le-ltb d 32 (omega arith)) ∙ sym (under-root 32 d e)
  place_mark d (inr l) = mark_at d ∙ ap (λ b. b && under t.dirs top 33 d) (live-live_dir t.dirs d l)

  goes_alike : (k : ℕ) → k < length t.files → goes_in ms (get_or t.files k no_entry) ≡ goes t.dirs top (get_or t.files k no_entry)
  goes_alike k l = go (live (get_or t.files k no_entry)) refl
    where
      go : (b : Bool) → live (get_or t.files k no_entry) ≡ b → (b && is_marked ms (get_or t.files k no_entry).parent) ≡ (b && under t.dirs top 33 (get_or t.files k no_entry).parent)
      go true v = place_mark (get_or t.files k no_entry).parent (s.files_proper k (live_at t.files sized.files_many k l v)).held
      go false v = refl

  dir_alike : (k m : ℕ) → k < length t.dirs → m ≡ 0 + k → is_marked ms m ≡ (live (get_or t.dirs k no_entry) && under t.dirs top 33 m)
  dir_alike k m l q =
      let many = sized.dirs_many in
      let e : k ≡ m = omega arith in
      mark_at m ∙ ap (λ b. (b && live (get_or t.dirs m no_entry)) && under t.dirs top 33 m) (lt-ltb m 32 (omega arith)) ∙ ap (λ j. live (get_or t.dirs j no_entry) && under t.dirs top 33 m) (sym e)

  pub pruned_is : without_dirs ms (without_files ms t) ≡ pruned t top
  unfolding without_dirs without_files
  pruned_is = λ j. record {
    marks = marked (same-places ms t.dirs top t.files t.rows goes_alike j) 0 t.marks;
    dirs = same-dirs ms t.dirs top 0 t.dirs dir_alike j;
    files = same-files ms t.dirs top t.files goes_alike j;
    rows = t.rows;
  }

-- the call ---------------------------------------------------------------------------------------------------------

pub nothing_touched : (ds : List Entry) (top : ℕ) (none : List Bool) → Clear none → untouched ds top none ≡ true
nothing_touched ds top none clear = at-untouched ds top none (λ d h. clear.1 d)

pub all_gone : (k : Consistent) (top : ℕ) → live_dir (view k.tables).dirs top ≡ true → (none marks : List Bool) → Clear none → marks ≡ with_subtree (view k.tables).dirs top none → without_dirs marks (without_files marks (view k.tables)) ≡ without_subtree top (view k.tables)
unfolding without_subtree
all_gone k top lives none marks clear e =
    let t = view k.tables in
    let sized = shaped k.tables in
    let q = told t sized k.sound in
    ap (λ m. without_dirs m (without_files m t)) e ∙ pruned_is q.0 t sized q.1 top (live_dir-live t.dirs top lives) none clear

pub top_lives : (k : Consistent) (d : ℕ) (p : List ℕ) (top : ℕ) → picked (there directory (view k.tables) d p) ≡ None → named (view k.tables) d p ≡ Some (directory, top) → live_dir (view k.tables).dirs top ≡ true
top_lives k d p top passed names =
    let t = view k.tables in
    let q = told t (shaped k.tables) k.sound in
    let a = pass_not (spelt p) misspelt _ passed in
    let b = pass_not (starts t d) start _ a.1 in
    live-live_dir t.dirs top (found q.0 t (shaped k.tables) q.1 d p directory top a.0 (held-from t.dirs d b.0) names).0

pub prune_after : (t : Tables) (d : ℕ) (p : List ℕ) (top : ℕ) → named t d p ≡ Some (directory, top) → without_subtree top t ≡ tables_after t (prune d p)
unfolding without_subtree
prune_after t d p top e = ap (λ o. pruned t (number_of o)) (sym e)
