use Rattle.std.proofs.Common.{◌≡◌, length}
use Rattle.store.specs.Sparing.{agreeing}
use Rattle.store.proofs.spares.serving.agree.Given as goal

-- every pair that was passed agrees with those after it
abbrev pub invariant-loop-rest : goal.invariant-loop-rest
invariant-loop-rest l = agreeing l.visible l.rest ≡ agreeing l.visible l.pairs

abbrev pub decreases-loop-rest : goal.decreases-loop-rest
decreases-loop-rest l = length l.rest
