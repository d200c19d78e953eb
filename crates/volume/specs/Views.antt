-- An open volume, viewed as the model's, by what its store means.
use Rattle.std.specs.Option.{option_map}
use Rattle.std.specs.Prelude.{ℕ, List, Some, None, Ok, Err, Option, Result}
use Rattle.model.specs.declared.types.Refusal.{Refusal}
use Rattle.model.specs.declared.types.Refusal.TheVariants.{Shut as shut}
use Rattle.model.specs.Answers.{Listed as ModelListed}
use Rattle.model.specs.Tables.{Tables as Model}
use Rattle.model.specs.Volume.{Volume as ModelVolume}
use Rattle.store.specs.declared.Store.{Ghosts}
use Rattle.tables.specs.Plans.{listed_view}
use Rattle.tables.specs.Views.{view}
use Rattle.tables.specs.declared.consistent.Consistent.{Consistent}
use Rattle.tables.specs.declared.outcomes.Listed.{Listed}
use Rattle.volume.specs.declared.types.Volume.{Volume}

abbrev pub kept_view : Option Consistent → Option Model
kept_view None = None
kept_view (Some c) = Some (view c.tables)

abbrev pub volume_view : {S : Type 0} {g : Ghosts S} → Volume S g → ModelVolume
volume_view {S} {g} v = record { tables = kept_view v.tables; image = g.image v.store }

-- the allocation map, as an open volume shows it
abbrev pub map_answer : ModelVolume → Result (List ℕ) Refusal
map_answer v = elim v.tables [ None ↦ Err shut | Some t ↦ Ok t.marks ]

-- an item of a directory, or the end, as `next` answers it
abbrev pub listed_answer : Result (Option Listed) Refusal → Result (Option ModelListed) Refusal
listed_answer (Ok o) = Ok (option_map listed_view o)
listed_answer (Err e) = Err e
