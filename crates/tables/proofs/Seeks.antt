-- The first entry with a parent and a name.
use Rattle.std.proofs.Common.{◌≡◌, ℕ, ◌<◌, Bool, eqb, List, length, None, sym, ◌∙◌}
use Rattle.std.proofs.lemmas.Bool.{and_right}
use Rattle.model.specs.Names.{padded, same_name}
use Rattle.model.specs.Tree.{first}
use Rattle.model.specs.Volume.{child, is_child}
use Rattle.tables.specs.Views.{entry_view, entries_view}
use Rattle.tables.specs.declared.types.Entry.{Entry}
use Rattle.tables.proofs.Blanks.{long-name}
use Rattle.tables.proofs.Positions.{first-map, first_never}

-- as the code holds entries
abbrev pub is_wanted : ℕ → List ℕ → Entry → Bool
is_wanted d n e = is_child d n (entry_view e)

pub child-first : (es : List Entry) (d : ℕ) (n : List ℕ) → first (is_wanted d n) es ≡ child (entries_view es) d n
child-first es d n = sym (first-map (is_child d n) entry_view es)

pub child-long : (es : List Entry) (d : ℕ) (n : List ℕ) → 15 < length n → None ≡ child (entries_view es) d n
child-long es d n l = sym (first_never (is_wanted d n) es (λ e. and_right (eqb e.parent d) (same_name e.name (padded n)) (long-name e.name n e.sized l))) ∙ child-first es d n
