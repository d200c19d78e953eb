use Rattle.std.proofs.Common.{◌≡◌, Ok, Err, Option, Result, sym, subst}
use Rattle.std.specs.Result.{result_ok}
use Rattle.model.specs.Image.{Image}
use Rattle.model.specs.Volume.{opened, Kept}
use Rattle.model.specs.declared.types.Refusal.{Refusal}
use Rattle.tables.specs.Views.{view}
use Rattle.tables.specs.declared.consistent.Consistent.{Consistent}
use Rattle.volume.specs.Views.{kept_view}
use Rattle.volume.proofs.Acting.{is_held}
use Rattle.volume.proofs.Admitting.{Admits, on, opened_is, shut_is, kept_is, exactly_opened}
use Rattle.volume.proofs.types.Volume.open.Goals as goal

-- what is open on a store that was let in, or not
record Opened (i j : Image) (o : Option Consistent) : Type 0 where
  is : on (kept_view o) j ≡ opened i
  kept : Kept (on (kept_view o) j)

open_by : (i : Image) (r : Result Consistent Refusal) → Admits i r → Opened i i (result_ok r)
open_by i (Ok k) h = record { is = opened_is i (view k.tables) h.0 h.1; kept = kept_is i (view k.tables) h.0 h.1 }
open_by i (Err e) h = record { is = shut_is i e h; kept = tt }

moved : (i j : Image) (r : Result Consistent Refusal) (o : Option Consistent) → Admits i r → j ≡ i → o ≡ result_ok r → Opened i j o
moved i j r o h e is = subst (λ (k : Image). Opened i k o) (sym e) (subst (Opened i i) (sym is) (open_by i r h))

pub invariant_of-result : goal.invariant_of-result
invariant_of-result g c =
    let i = g.S.Store.image c.args.store in
    let j = g.S.Store.image c.admitted.new.store in
    let done = moved i j c.admitted.result c.ok-tables.result c.admitted.ensures.answer c.admitted.ensures.image c.ok-tables.ensures.value in
    record { kept = is_held c.ok-tables.result j done.kept }

pub returns : goal.returns
returns g c =
    let i = g.S.Store.image c.args.store in
    let j = g.S.Store.image c.admitted.new.store in
    let done = moved i j c.admitted.result c.ok-tables.result c.admitted.ensures.answer c.admitted.ensures.image c.ok-tables.ensures.value in
    record { opened = done.is; exactly = exactly_opened i (g.met.S.Store.wholeness c.args.store) (on (kept_view c.ok-tables.result) j) done.is }
