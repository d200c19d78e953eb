use Rattle.std.proofs.Common.{◌≡◌, false, ◌&&◌, rules}
use borrow.Author.Tests.{tests}
use Rattle.std.specs.Option.{MatchOption}
use Rattle.tables.specs.declared.claims.Claims.{Claims}
use Rattle.tables.specs.Rules.{marks_due, entries_sound}
use Rattle.tables.specs.Views.{view}
use Rattle.tables.proofs.Verdict.{judged}
use Rattle.tables.proofs.types.Tables.is_sound.Goals as goal

pub returns : goal.returns
returns c =
    let t = view c.args.self.now in
    let h : MatchOption c.claims.result (c.is_some_and.result ≡ false) (λ (x : Claims). c.is_some_and.result ≡ (marks_due x.dead.now x.claimed t && entries_sound t)) = search (rules, tests) in
    judged c.args.dead.now t c.claims.result c.is_some_and.result h c.claims.ensures
