-- The code's tables, viewed as those of the model.
use Rattle.std.specs.Prelude.{ℕ, List, map}
use Rattle.model.specs.Tables.{Tables as Model, Entry as ModelEntry}
use Rattle.tables.specs.declared.types.Entry.{Entry}
use Rattle.tables.specs.declared.types.Mark.{Mark}
use Rattle.tables.specs.declared.types.Row.{Row}
use Rattle.tables.specs.declared.types.Tables.{Tables}

abbrev pub entry_view : Entry → ModelEntry
entry_view e = record { parent = e.parent; name = e.name }

abbrev pub entries_view : List Entry → List ModelEntry
entries_view es = map entry_view es

abbrev pub marks_view : List Mark → List ℕ
marks_view ms = map (λ (m : Mark). m.0) ms

abbrev pub rows_view : List Row → List (List ℕ)
rows_view rs = map (λ (r : Row). r.places) rs

abbrev pub view : Tables → Model
view t = record { marks = marks_view t.marks; dirs = entries_view t.dirs; files = entries_view t.files; rows = rows_view t.rows }
