use Rattle.std.proofs.Common.{◌≡◌}
use Rattle.std.specs.Iterator.Adapters.{zip_first, zip_second}
use Rattle.std.specs.Slice.Iter.{iter_rest}
use Rattle.tables.specs.Rules.{alive_by}
use Rattle.tables.specs.Views.{view, entries_view, rows_view}
use Rattle.tables.proofs.Gathering.{Gathers}
use Rattle.tables.proofs.types.Tables.claims.Given as goal

abbrev pub invariant-loop-file : goal.invariant-loop-file
invariant-loop-file l =
    (goal.iterator-loop-file).can_next l.file-iterator
    × (goal.iterator-loop-file).is_finite l.file-iterator
    × (l.claims.dead.now ≡ l.dead)
    × Gathers (alive_by l.dead) (view l.self) l.claims.claimed (entries_view (iter_rest (zip_first l.file-iterator))) (rows_view (iter_rest (zip_second l.file-iterator)))
