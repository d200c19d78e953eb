use Rattle.std.proofs.Common.{◌≡◌, drop}
use Rattle.model.specs.Tables.{used}
use Rattle.model.specs.Volume.{marked}
use Rattle.tables.specs.Views.{marks_view}
use Rattle.tables.proofs.types.Tables.mark_row.Given as goal

-- what is left of the row makes of the marks what the whole row makes of those at the start
abbrev pub invariant-loop-k : goal.invariant-loop-k
invariant-loop-k l =
    (marked (drop l.k (used l.row.places)) l.mark.0 (marks_view l.self.marks) ≡ marked (used l.row.places) l.mark.0 (marks_view l.initial.self.marks))
    × (l.self.dirs ≡ l.initial.self.dirs)
    × (l.self.files ≡ l.initial.self.files)
    × (l.self.rows ≡ l.initial.self.rows)
