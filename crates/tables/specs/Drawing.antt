-- How a byte of the allocation map is drawn.
use Rattle.std.specs.Prelude.{ℕ, cond, List, codes, ◌==◌}
use Rattle.model.specs.Sizes.{mark_free, mark_used, mark_dead}

abbrev pub mark_text : ℕ → List ℕ
mark_text m = cond (m == mark_free) (codes ".") (cond (m == mark_used) (codes "#") (cond (m == mark_dead) (codes "x") (codes "?")))
