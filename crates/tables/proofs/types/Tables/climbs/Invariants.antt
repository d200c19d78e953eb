use Rattle.std.proofs.Common.{◌≡◌, ◌-◌}
use Rattle.model.specs.Tables.{climbs}
use Rattle.tables.specs.Views.{entries_view}
use Rattle.tables.proofs.types.Tables.climbs.Given as goal

abbrev pub invariant-loop-step : goal.invariant-loop-step
invariant-loop-step l = climbs (entries_view l.self.dirs) (32 - l._step) l.at ≡ climbs (entries_view l.self.dirs) 32 l.dir
