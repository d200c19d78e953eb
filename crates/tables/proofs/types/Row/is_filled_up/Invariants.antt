use Rattle.std.proofs.Common.{◌≡◌, eqb, drop}
use Rattle.model.specs.Tables.{all}
use Rattle.tables.proofs.types.Row.is_filled_up.Given as goal

abbrev pub invariant-loop-i : goal.invariant-loop-i
invariant-loop-i l = all (λ s. eqb s 0) (drop l.i l.self.places) ≡ all (λ s. eqb s 0) (drop l.count l.self.places)
