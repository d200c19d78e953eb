use Rattle.std.proofs.Common.{◌≡◌, ltb, length}
use Rattle.std.specs.Slice.Iter.{iter_rest}
use Rattle.std.specs.Iterator.Adapters.{zip_first, zip_second}
use Rattle.model.specs.Names.{before}
use Rattle.tables.proofs.names.precedes.Given as goal

abbrev pub invariant-loop-x : goal.invariant-loop-x
invariant-loop-x l =
    (goal.iterator-loop-x).can_next l.x-iterator × (goal.iterator-loop-x).is_finite l.x-iterator
    × (before l.a l.b ≡ before (iter_rest (zip_first l.x-iterator)) (iter_rest (zip_second l.x-iterator)))
    × (ltb (length l.a) (length l.b) ≡ ltb (length (iter_rest (zip_first l.x-iterator))) (length (iter_rest (zip_second l.x-iterator))))
