use Rattle.std.proofs.Common.{◌≡◌, Some, None, Option, Result, Bor, MatchResult, not, sym, refl, subst}
use Rattle.std.specs.Option.{option_copied, ok_or}
use Rattle.std.specs.Result.{is_err}
use Rattle.model.specs.Tree.{is_some}
use Rattle.model.specs.declared.types.Refusal.{Refusal}
use Rattle.model.specs.declared.types.Refusal.TheVariants.{Shut as shut}
use Rattle.tables.specs.declared.consistent.Consistent.{Consistent}
use Rattle.volume.specs.Views.{kept_view}
use Rattle.volume.proofs.types.Volume.kept.Goals as goal

-- the tables as they are lent, or the refusal
record Lent (o : Option Consistent) (r : Result (Bor Consistent) Refusal) : Type 0 where
  tables : MatchResult r (λ c. o ≡ Some c.now) (λ e. (o ≡ None) × (e ≡ shut))
  shut_where_none : is_err r ≡ not (is_some (kept_view o))

lent : (b : Option (Bor Consistent)) → Lent (option_copied b) (ok_or b shut)
lent None = record { tables = (refl, refl); shut_where_none = refl }
lent (Some c) = record { tables = refl; shut_where_none = refl }

pub returns : goal.returns
returns g c =
    let b = c.as_ref.result in
    let all = subst (λ r. Lent c.args.self.now.tables r) (sym c.ok_or.ensures.value) (subst (λ o. Lent o (ok_or b shut)) c.as_ref.ensures.value (lent b)) in
    record { tables = all.tables; shut = all.shut_where_none }
