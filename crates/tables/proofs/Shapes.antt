-- The code's tables have the sizes that the layout gives.
use Rattle.std.proofs.Common.{◌≡◌, ℕ, zero, suc, ◌<◌, List, [], ◌∷◌, length, get_or, sym, ◌∙◌, subst, arith}
use Rattle.std.proofs.lemmas.List.{length-map}
use Rattle.model.specs.Tables.{no_entry}
use Rattle.model.specs.Sound.{Shaped}
use Rattle.tables.specs.declared.types.Entry.{Entry}
use Rattle.tables.specs.declared.types.Mark.{Mark}
use Rattle.tables.specs.declared.types.Row.{Row}
use Rattle.tables.specs.declared.types.Tables.{Tables}
use Rattle.tables.specs.Views.{entry_view, entries_view, rows_view, view}

named : (es : List Entry) (i : ℕ) → i < length es → length (get_or (entries_view es) i no_entry).name ≡ 15
named [] i l = absurd (omega arith)
named (e ∷ es) zero l = e.sized
named (e ∷ es) (suc i) l = named es i (omega arith)

long : (rs : List Row) (i : ℕ) → i < length rs → length (get_or (rows_view rs) i []) ≡ 16
long [] i l = absurd (omega arith)
long (r ∷ rs) zero l = r.sized
long (r ∷ rs) (suc i) l = long rs i (omega arith)

pub shaped : (t : Tables) → Shaped (view t)
shaped t = record {
  marks_long = length-map t.marks (λ (m : Mark). m.0) ∙ t.marked;
  dirs_many = length-map t.dirs entry_view ∙ t.directed;
  files_many = length-map t.files entry_view ∙ t.filed;
  rows_many = length-map t.rows (λ (r : Row). r.places) ∙ t.rowed;
  dirs_named = λ d l. named t.dirs d (subst (λ n. d < n) (sym t.directed) l);
  files_named = λ f l. named t.files f (subst (λ n. f < n) (sym t.filed) l);
  rows_long = λ f l. long t.rows f (subst (λ n. f < n) (sym t.rowed) l);
}
