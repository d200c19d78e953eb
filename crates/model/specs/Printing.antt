-- How a fault and a refusal read in print.
use Rattle.std.specs.Prelude.{ℕ, List, ◌++◌, codes}
use Rattle.std.specs.Fmt.{decimal}
use Rattle.model.specs.declared.types.Cause.{Cause}
use Rattle.model.specs.declared.types.Cause.TheVariants.{PastEnd as past_end, Dead as dead_sector}
use Rattle.model.specs.declared.types.Fault.{Fault}
use Rattle.model.specs.Refusals.{Refusal, number, word}

abbrev pub cause_text : Cause → List ℕ
cause_text past_end = codes "past the end"
cause_text dead_sector = codes "dead"

-- the cause, the sector's number in the bottom store, and the count of layers above it
abbrev pub fault_text : Fault → List ℕ
fault_text f = cause_text f.cause ++ codes ", place " ++ decimal f.place ++ codes ", depth " ++ decimal f.depth

-- the number that a crew sees, and the word beside it
abbrev pub refusal_text : Refusal → List ℕ
refusal_text r = decimal (number r) ++ codes " " ++ word r
