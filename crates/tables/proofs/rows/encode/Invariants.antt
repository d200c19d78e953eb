use Rattle.std.proofs.Common.{◌≡◌, length}
use Rattle.tables.proofs.Bytes.{RowWrites, RowsIn}
use Rattle.tables.proofs.rows.encode.Given as goal

abbrev pub invariant-loop-i : goal.invariant-loop-i
invariant-loop-i l = (length l.sector ≡ 512) × RowsIn l.all l.i l.sector × RowWrites l.all
