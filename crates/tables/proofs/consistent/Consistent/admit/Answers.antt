use Rattle.std.proofs.Common.{sym}
use Rattle.tables.specs.Views.{view}
use Rattle.tables.proofs.Admission.{admitted}
use Rattle.tables.proofs.Shapes.{shaped}
use Rattle.tables.proofs.consistent.Consistent.admit.Goals as goal

pub invariant_of-result : goal.invariant_of-result
invariant_of-result c = let t = c.args.tables in record { sound = admitted c.args.dead.now (view t) (shaped t) (sym c.if-not-is_sound.ensures) }
