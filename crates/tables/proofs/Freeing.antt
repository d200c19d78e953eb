-- Files in marked directories, and the marked directories, set free one after another.
use Rattle.std.proofs.Common.{◌≡◌, ℕ, suc, ◌+◌, ◌<◌, ◌≤◌, Bool, true, false, cond, ◌&&◌, List, [], ◌∷◌, ◌++◌, map, length, get_or, take, drop, set, sym, refl, ap, ◌∙◌, ap₂, arith}
use Rattle.std.proofs.lemmas.List.{append_assoc, append-nil, drop_all, drop_more, get_or_at, get_or-map, length-map, length-take-le, map_more, set_at, take_all, take_more}
use Rattle.model.specs.Tables.{Tables as Model, Entry as ModelEntry, no_entry, live, used}
use Rattle.model.specs.Volume.{first_bytes, freed, marked, unlinked}
use Rattle.tables.specs.Views.{entry_view, entries_view, view}
use Rattle.tables.specs.declared.types.Entry.{Entry}
use Rattle.tables.specs.declared.types.Row.{Row}
use Rattle.tables.specs.declared.types.Tables.{Tables}
use Rattle.tables.proofs.Changing.{freed-at}
use Rattle.tables.specs.Subtrees.{is_marked, goes_in, file_less, places_in, without_files, dirs_out, without_dirs}

-- sectors --------------------------------------------------------------------------------------------------------

marked_append : (xs ys : List ℕ) (m : ℕ) (ms : List ℕ) → marked (xs ++ ys) m ms ≡ marked ys m (marked xs m ms)
marked_append [] ys m ms = refl
marked_append (x ∷ xs) ys m ms = marked_append xs ys m (set ms x m)

places-append : (ms : List Bool) (es fs : List ModelEntry) (rs ss : List (List ℕ)) → length es ≡ length rs → places_in ms (es ++ fs) (rs ++ ss) ≡ places_in ms es rs ++ places_in ms fs ss
places-append ms [] fs [] ss n = refl
places-append ms [] fs (r ∷ rs) ss n = absurd (omega arith)
places-append ms (e ∷ es) fs [] ss n = absurd (omega arith)
places-append ms (e ∷ es) fs (r ∷ rs) ss n = ap (λ x. cond (goes_in ms e) (used r) [] ++ x) (places-append ms es fs rs ss (omega arith)) ∙ sym (append_assoc (cond (goes_in ms e) (used r) []) (places_in ms es rs) (places_in ms fs ss))

-- files ----------------------------------------------------------------------------------------------------------

abbrev with-files : Model → List ℕ → List ModelEntry → Model
with-files t ms fs = record { marks = ms; dirs = t.dirs; files = fs; rows = t.rows }

-- the tables once the files below n are done
unfoldable pub files-done : List Bool → Model → ℕ → Model
files-done ms t n = with-files t (marked (places_in ms (take n t.files) (take n t.rows)) 0 t.marks) (map (file_less ms) (take n t.files) ++ drop n t.files)

module _ (ms : List Bool) (t : Model) (i : ℕ) (in_files : i < length t.files) (in_rows : i < length t.rows) where
  abbrev e : ModelEntry
  e = get_or t.files i no_entry

  abbrev r : List ℕ
  r = get_or t.rows i []

  abbrev front : List ModelEntry
  front = map (file_less ms) (take i t.files)

  front_long : length front ≡ i
  front_long = length-map (take i t.files) (file_less ms) ∙ length-take-le i t.files (omega arith)

  here : front ++ drop i t.files ≡ front ++ e ∷ drop (i + 1) t.files
  here = ap (λ xs. front ++ xs) (drop_more t.files i no_entry in_files)

  at_here : get_or (front ++ drop i t.files) i no_entry ≡ e
  at_here = ap (λ xs. get_or xs i no_entry) here ∙ get_or_at front e (drop (i + 1) t.files) no_entry i front_long

  files_on : map (file_less ms) (take (i + 1) t.files) ++ drop (i + 1) t.files ≡ front ++ file_less ms e ∷ drop (i + 1) t.files
  files_on = ap (λ xs. xs ++ drop (i + 1) t.files) (map_more (file_less ms) t.files i no_entry in_files) ∙ append_assoc front (file_less ms e ∷ []) (drop (i + 1) t.files)

  places_on : places_in ms (take (i + 1) t.files) (take (i + 1) t.rows) ≡ places_in ms (take i t.files) (take i t.rows) ++ cond (goes_in ms e) (used r) []
  places_on =
      ap₂ (places_in ms) (take_more t.files i no_entry in_files) (take_more t.rows i [] in_rows)
      ∙ places-append ms (take i t.files) (e ∷ []) (take i t.rows) (r ∷ []) (length-take-le i t.files (omega arith) ∙ sym (length-take-le i t.rows (omega arith)))
      ∙ ap (λ xs. places_in ms (take i t.files) (take i t.rows) ++ xs) (append-nil (cond (goes_in ms e) (used r) []))

  abbrev marks-here : List ℕ
  marks-here = marked (places_in ms (take i t.files) (take i t.rows)) 0 t.marks

  marks_on : marked (places_in ms (take (i + 1) t.files) (take (i + 1) t.rows)) 0 t.marks ≡ marked (cond (goes_in ms e) (used r) []) 0 marks-here
  marks_on = ap (λ xs. marked xs 0 t.marks) places_on ∙ marked_append (places_in ms (take i t.files) (take i t.rows)) (cond (goes_in ms e) (used r) []) 0 t.marks

  done_on : files-done ms t (i + 1) ≡ with-files t (marked (cond (goes_in ms e) (used r) []) 0 marks-here) (front ++ file_less ms e ∷ drop (i + 1) t.files)
  unfolding files-done
  done_on = ap₂ (with-files t) marks_on files_on

  done-step : files-done ms t (i + 1) ≡ cond (goes_in ms (get_or (files-done ms t i).files i no_entry)) (unlinked (files-done ms t i) i) (files-done ms t i)
  unfolding files-done
  done-step = done_on ∙ go (goes_in ms e) ∙ ap (λ x. cond (goes_in ms x) (unlinked (files-done ms t i) i) (files-done ms t i)) (sym at_here)
    where
      go : (b : Bool) → with-files t (marked (cond b (used r) []) 0 marks-here) (front ++ cond b (first_bytes e) e ∷ drop (i + 1) t.files) ≡ cond b (unlinked (files-done ms t i) i) (files-done ms t i)
      go true = ap (with-files t (marked (used r) 0 marks-here)) (sym (ap (λ x. set (front ++ drop i t.files) i (first_bytes x)) at_here ∙ ap (λ xs. set xs i (first_bytes e)) here ∙ set_at front e (drop (i + 1) t.files) (first_bytes e) i front_long))
      go false = ap (with-files t marks-here) (sym here)

-- The laws that the loop over the files brings along. It starts from the tables t.
pub record Files (ms : List Bool) (t : Model) : Type 0 where
  pub step : (u : Tables) (i : ℕ) (e : Entry) → i < 32 → view u ≡ files-done ms t i → files-done ms t (i + 1) ≡ cond (live (entry_view (get_or u.files i e)) && is_marked ms (get_or u.files i e).parent) (unlinked (files-done ms t i) i) (files-done ms t i)
  pub over : files-done ms t 32 ≡ without_files ms t

files_start : (ms : List Bool) (t : Model) → t ≡ files-done ms t 0
unfolding files-done
files_start ms t = refl

files-over : (ms : List Bool) (t : Model) (n : ℕ) → length t.files ≡ n → length t.rows ≡ n → files-done ms t n ≡ without_files ms t
unfolding files-done without_files
files-over ms t n p q =
    let f = take_all n t.files (omega arith) in
    ap₂ (λ (es : List ModelEntry) (rs : List (List ℕ)). with-files t (marked (places_in ms es rs) 0 t.marks) (map (file_less ms) (take n t.files) ++ drop n t.files)) f (take_all n t.rows (omega arith))
    ∙ ap₂ (λ (xs ys : List ModelEntry). with-files t (marked (places_in ms t.files t.rows) 0 t.marks) (map (file_less ms) xs ++ ys)) f (drop_all n t.files (omega arith))
    ∙ ap (with-files t (marked (places_in ms t.files t.rows) 0 t.marks)) (append-nil (map (file_less ms) t.files))

pub files_laws : (ms : List Bool) (t : Tables) → (view t ≡ files-done ms (view t) 0) × Files ms (view t)
files_laws ms t =
    let long = length-map t.files entry_view ∙ t.filed in
    let rows = length-map t.rows (λ (r : Row). r.places) ∙ t.rowed in (
      files_start ms (view t),
      record {
        step = λ u i e l h. done-step ms (view t) i (omega arith) (omega arith) ∙ ap (λ x. cond (goes_in ms x) (unlinked (files-done ms (view t) i) i) (files-done ms (view t) i)) (sym (ap (λ (v : Model). get_or v.files i no_entry) h) ∙ (let f = u.filed in get_or-map entry_view u.files i e no_entry (omega arith)));
        over = files-over ms (view t) 32 long rows;
      },
    )

-- directories ----------------------------------------------------------------------------------------------------

dirs-append : (ms : List Bool) (k m : ℕ) (es fs : List ModelEntry) → m ≡ k + length es → dirs_out ms k (es ++ fs) ≡ dirs_out ms k es ++ dirs_out ms m fs
dirs-append ms k m [] fs n = let q : k ≡ m = omega arith in ap (λ j. dirs_out ms j fs) q
dirs-append ms k m (e ∷ es) fs n = ap (λ x. cond (is_marked ms k) (first_bytes e) e ∷ x) (dirs-append ms (suc k) m es fs (omega arith))

dirs-long : (ms : List Bool) (k : ℕ) (es : List ModelEntry) → length (dirs_out ms k es) ≡ length es
dirs-long ms k [] = refl
dirs-long ms k (e ∷ es) = ap suc (dirs-long ms (suc k) es)

-- the directories once those below n are done
unfoldable pub dirs-done : List Bool → List ModelEntry → ℕ → List ModelEntry
dirs-done ms ds n = dirs_out ms 0 (take n ds) ++ drop n ds

module _ (ms : List Bool) (ds : List ModelEntry) (i : ℕ) (inside : i < length ds) where
  abbrev before : List ModelEntry
  before = dirs_out ms 0 (take i ds)

  abbrev dir : ModelEntry
  dir = get_or ds i no_entry

  before-long : length before ≡ i
  before-long = dirs-long ms 0 (take i ds) ∙ length-take-le i ds (omega arith)

  dirs-here : dirs-done ms ds i ≡ before ++ dir ∷ drop (i + 1) ds
  unfolding dirs-done
  dirs-here = ap (λ xs. before ++ xs) (drop_more ds i no_entry inside)

  dirs_on : dirs-done ms ds (i + 1) ≡ before ++ cond (is_marked ms i) (first_bytes dir) dir ∷ drop (i + 1) ds
  unfolding dirs-done
  dirs_on =
      ap (λ xs. dirs_out ms 0 xs ++ drop (i + 1) ds) (take_more ds i no_entry inside)
      ∙ ap (λ xs. xs ++ drop (i + 1) ds) (dirs-append ms 0 i (take i ds) (dir ∷ []) (let l = length-take-le i ds (omega arith) in omega arith))
      ∙ append_assoc before (cond (is_marked ms i) (first_bytes dir) dir ∷ []) (drop (i + 1) ds)

  dirs-freed : is_marked ms i ≡ true → dirs-done ms ds (i + 1) ≡ freed (dirs-done ms ds i) i
  dirs-freed h =
      dirs_on
      ∙ ap (λ b. before ++ cond b (first_bytes dir) dir ∷ drop (i + 1) ds) h
      ∙ sym (ap (λ xs. set xs i (first_bytes (get_or xs i no_entry))) dirs-here ∙ ap (λ x. set (before ++ dir ∷ drop (i + 1) ds) i (first_bytes x)) (get_or_at before dir (drop (i + 1) ds) no_entry i before-long) ∙ set_at before dir (drop (i + 1) ds) (first_bytes dir) i before-long)

  dirs_left : is_marked ms i ≡ false → dirs-done ms ds (i + 1) ≡ dirs-done ms ds i
  dirs_left h = dirs_on ∙ ap (λ b. before ++ cond b (first_bytes dir) dir ∷ drop (i + 1) ds) h ∙ sym dirs-here

-- the laws that the loop over the directories brings along; it starts from the tables t
pub record Dirs (ms : List Bool) (t : Tables) : Type 0 where
  pub frees : (es : List Entry) (i : ℕ) (e f : Entry) → i < 32 → length es ≡ 32 → entries_view es ≡ dirs-done ms (entries_view t.dirs) i → is_marked ms i ≡ true → f.parent ≡ (get_or es i e).parent → f.name ≡ set (get_or es i e).name 0 0 → entries_view (set es i f) ≡ dirs-done ms (entries_view t.dirs) (i + 1)
  pub leaves : (i : ℕ) → i < 32 → is_marked ms i ≡ false → dirs-done ms (entries_view t.dirs) (i + 1) ≡ dirs-done ms (entries_view t.dirs) i
  pub over : (es : List Entry) (i : ℕ) → 32 ≤ i → i ≤ 32 → entries_view es ≡ dirs-done ms (entries_view t.dirs) i → record { marks = (view t).marks; dirs = entries_view es; files = (view t).files; rows = (view t).rows } ≡ without_dirs ms (view t)

dirs_start : (ms : List Bool) (ds : List ModelEntry) → ds ≡ dirs-done ms ds 0
unfolding dirs-done
dirs_start ms ds = refl

dirs-over : (ms : List Bool) (ds : List ModelEntry) (n : ℕ) → length ds ≡ n → dirs-done ms ds n ≡ dirs_out ms 0 ds
unfolding dirs-done
dirs-over ms ds n p = ap₂ (λ xs ys. dirs_out ms 0 xs ++ ys) (take_all n ds (omega arith)) (drop_all n ds (omega arith)) ∙ append-nil (dirs_out ms 0 ds)

pub dirs_laws : (ms : List Bool) (t : Tables) → (entries_view t.dirs ≡ dirs-done ms (entries_view t.dirs) 0) × Dirs ms t
unfolding without_dirs
dirs_laws ms t =
    let long = length-map t.dirs entry_view ∙ t.directed in
    let ds = entries_view t.dirs in (
      dirs_start ms ds,
      record {
        frees = λ es i e f l n h m p q. freed-at es i e f (omega arith) (λ j. record { parent = p j; name = q j }) ∙ ap (λ xs. freed xs i) h ∙ sym (dirs-freed ms ds i (omega arith) m);
        leaves = λ i l m. dirs_left ms ds i (omega arith) m;
        over = λ es i l m d. let n : i ≡ 32 = omega arith in ap (λ (xs : List ModelEntry). record { marks = (view t).marks; dirs = xs; files = (view t).files; rows = (view t).rows }) (d ∙ ap (dirs-done ms ds) n ∙ dirs-over ms ds 32 long);
      },
    )
