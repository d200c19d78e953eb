use Rattle.std.proofs.Common.{◌≡◌, ℕ, ◌||◌, length, drop}
use Rattle.model.specs.Tables.{member, used}
use Rattle.tables.specs.Rules.{told, alive_by}
use Rattle.tables.proofs.Claiming.{fits}
use Rattle.tables.proofs.claims.Claims.add.Given as goal

-- what is left of the row gives the answer, and adds what is still to be claimed
abbrev pub invariant-loop-i : goal.invariant-loop-i
invariant-loop-i l =
    (length l.self.claimed ≡ 256)
    × (l.self.dead.now ≡ l.initial.self.dead.now)
    × (fits (alive_by l.initial.self.dead.now) (told l.self.claimed) (drop l.i (used l.row.places)) ≡ fits (alive_by l.initial.self.dead.now) (told l.initial.self.claimed) (used l.row.places))
    × ((s : ℕ) → (member s (drop l.i (used l.row.places)) || told l.self.claimed s) ≡ (member s (used l.row.places) || told l.initial.self.claimed s))
