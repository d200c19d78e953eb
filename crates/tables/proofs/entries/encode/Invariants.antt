use Rattle.std.proofs.Common.{◌≡◌, length}
use Rattle.tables.proofs.Bytes.{EntryWrites, EntriesIn}
use Rattle.tables.proofs.entries.encode.Given as goal

abbrev pub invariant-loop-i : goal.invariant-loop-i
invariant-loop-i l = (length l.sector ≡ 512) × EntriesIn l.all l.i l.sector × EntryWrites l.all
