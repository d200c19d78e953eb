-- What a layer computes on the way to the store below.
use Rattle.std.specs.Prelude.{◌≡◌, ℕ, ◌+◌, min, List, Ok, Err, Result}
use Rattle.model.specs.Sizes.{deepest}
use Rattle.model.specs.Image.{Image, access, filled, put}
use Rattle.model.specs.declared.types.Fault.{Fault}

-- an answer of the store below, one layer up: a dead sector keeps its place
abbrev pub risen_answer : Result (Unit {0}) Fault → Result (Unit {0}) Fault
risen_answer (Ok done) = Ok done
risen_answer (Err f) = Err (record { cause = f.cause; place = f.place; depth = min (f.depth + 1) deepest })

-- An access at s of the layer goes on to p below: it meets the same fault, one layer deeper, or reads the same bytes, and
-- writes no other sector of the layer.
pub record Leads (layer : Image → Image) (below : Image) (s p : ℕ) : Type 0 where
  pub answer : access (layer below) s ≡ risen_answer (access below p)
  pub reads : (old : List ℕ) → filled (layer below) s old ≡ filled below p old
  pub writes : (new : List ℕ) → put (layer below) s new ≡ layer (put below p new)

-- an access at s ends in the layer: it meets the fault f, and neither reads nor writes
pub record Ends (i : Image) (s : ℕ) (f : Fault) : Type 0 where
  pub answer : access i s ≡ Err f
  pub reads : (old : List ℕ) → filled i s old ≡ old
  pub writes : (new : List ℕ) → put i s new ≡ i

-- where an access at s goes
abbrev pub Led : (Image → Image) → Image → ℕ → Result ℕ Fault → Type 0
Led layer below s (Ok p) = Leads layer below s p
Led layer below s (Err f) = Ends (layer below) s f
