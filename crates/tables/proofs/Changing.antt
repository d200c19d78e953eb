-- One row's sectors marked, and one entry set free.
use Rattle.std.proofs.Common.{◌≡◌, ℕ, ◌+◌, ◌<◌, List, length, get_or, drop, set, Some, sym, ap, ◌∙◌}
use Rattle.std.proofs.lemmas.List.{at_drop_more, get_or-map, map-set}
use Rattle.model.specs.Tables.{Tables as Model, Entry as ModelEntry, no_entry, used}
use Rattle.model.specs.declared.types.Kind.{Kind}
use Rattle.model.specs.declared.types.Kind.TheVariants.{Directory as directory, File as file}
use Rattle.model.specs.Volume.{marked, freed, first_bytes, renamed}
use Rattle.model.proofs.Tables.Places.{used-at}
use Rattle.tables.specs.Views.{entry_view, entries_view, marks_view, view}
use Rattle.tables.specs.declared.types.Entry.{Entry}
use Rattle.tables.specs.declared.types.Mark.{Mark}
use Rattle.tables.specs.declared.types.Tables.{Tables}

-- the sectors from place k on, marked
abbrev pub marked_from : ℕ → List ℕ → ℕ → List Mark → List ℕ
marked_from k r m ms = marked (drop k (used r)) m (marks_view ms)

pub mark_more : (r : List ℕ) (m : Mark) (ms : List Mark) (k : ℕ) → k < length (used r) → marked_from (k + 1) r m.0 (set ms (get_or r k 0) m) ≡ marked_from k r m.0 ms
mark_more r m ms k l =
    ap (λ (xs : List ℕ). marked (drop (k + 1) (used r)) m.0 xs) (map-set (λ (x : Mark). x.0) ms (get_or r k 0) m ∙ ap (λ (s : ℕ). set (marks_view ms) s m.0) (sym (used-at r k l)))
    ∙ sym (at_drop_more (λ (ss : List ℕ). marked ss m.0 (marks_view ms)) (used r) k 0 l)

-- the first byte of a name cleared
pub freed-at : (es : List Entry) (i : ℕ) (e f : Entry) → i < length es → entry_view f ≡ first_bytes (entry_view (get_or es i e)) → entries_view (set es i f) ≡ freed (entries_view es) i
freed-at es i e f l h = map-set entry_view es i f ∙ ap (λ (x : ModelEntry). set (entries_view es) i x) (h ∙ ap first_bytes (sym (get_or-map entry_view es i e no_entry l)))

-- an entry put into its table ------------------------------------------------------------------------

abbrev with-dirs : Model → List ModelEntry → Model
with-dirs t ds = record { marks = t.marks; dirs = ds; files = t.files; rows = t.rows }

abbrev with-files : Model → List ModelEntry → Model
with-files t fs = record { marks = t.marks; dirs = t.dirs; files = fs; rows = t.rows }

-- whichever table it is, the entries that stand in it are set at n
pub put_dir : (t : Tables) (u : Model) (k : Kind) (n : ℕ) (e : Entry) → k ≡ directory → u ≡ with-dirs (view t) (entries_view (set t.dirs n e)) → u ≡ renamed (view t) (Some (k, n)) (entry_view e)
put_dir t u k n e h q = q ∙ ap (with-dirs (view t)) (map-set entry_view t.dirs n e) ∙ sym (ap (λ (x : Kind). renamed (view t) (Some (x, n)) (entry_view e)) h)

pub put_file : (t : Tables) (u : Model) (k : Kind) (n : ℕ) (e : Entry) → k ≡ file → u ≡ with-files (view t) (entries_view (set t.files n e)) → u ≡ renamed (view t) (Some (k, n)) (entry_view e)
put_file t u k n e h q = q ∙ ap (with-files (view t)) (map-set entry_view t.files n e) ∙ sym (ap (λ (x : Kind). renamed (view t) (Some (x, n)) (entry_view e)) h)
