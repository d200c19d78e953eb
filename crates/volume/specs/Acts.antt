-- What a call of a volume gives and leaves.
use Rattle.std.specs.Prelude.{◌≡◌, List, [], Some, None, Result}
use Rattle.model.specs.Answers.{answer, turned_away, sector_reads}
use Rattle.model.specs.Image.{Write}
use Rattle.model.specs.Refusals.{Call, picked}
use Rattle.model.specs.Tables.{Tables}
use Rattle.model.specs.Volume.{Volume, checks, tables_after, sector_writes, after}
use Rattle.model.specs.declared.types.Refusal.{Refusal}

-- r is the given answer and w the volume after the call c of the volume v
pub record Acts {A : Type 0} (v : Volume) (c : Call) (given : Result A Refusal) (r : Result A Refusal) (w : Volume) : Type 0 where
  pub answer : r ≡ given
  pub after : w ≡ after v c

-- c is accepted on the tables t of v, reads no sector, leads to the tables u, and makes the writes ws
pub record Planned (v : Volume) (t : Tables) (c : Call) (u : Tables) (ws : List Write) : Type 0 where
  pub stands : v.tables ≡ Some t
  pub passed : picked (checks t v.image c) ≡ None
  pub quiet : sector_reads t c ≡ []
  pub leads : u ≡ tables_after t c
  pub makes : ws ≡ sector_writes t c (tables_after t c)

-- r is the answer of every call that was so planned, and w what it leaves
abbrev pub Commits : {A : Type 0} → Volume → Tables → List Write → A → Result A Refusal → Volume → Type 0
Commits v u ws a r w = (t : Tables) (c : Call) → Planned v t c u ws → Acts v c (answer (turned_away v c) a) r w
