use Rattle.std.proofs.Common.{◌≡◌, ◌<◌, ◌≤◌, ℕ, List, ◌&&◌, length, rules, sym, ◌∙◌, ap₂, arith}
use Rattle.std.proofs.lemmas.Bool.{le-leb, eqb-false}
use Rattle.std.proofs.lemmas.Iterator.{YieldsList-from_slice}
use Rattle.std.proofs.lemmas.Iterator.Search.{all_from_yields_List}
use borrow.Author.Tests.{tests}
use Rattle.model.specs.Names.{all_proper, proper_byte, proper_name}
use Rattle.tables.proofs.Positions.{all_is}
use Rattle.tables.proofs.names.is_proper.Goals as goal

-- of a length that fits, the bytes alone decide
by_bytes : (n : List ℕ) → 0 < length n → length n ≤ 15 → all_proper n ≡ proper_name n
by_bytes n l m = sym (ap₂ (λ a b. a && b && all_proper n) (le-leb 1 (length n) (omega arith)) (le-leb (length n) 15 m))

pub returns-then-name-le-NAME : goal.returns-then-name-le-NAME
returns-then-name-le-NAME c =
    let name = c.args.name.now in
    let test = c.if-name-le-NAME.true in
    let some = eqb-false (length name) 0 (sym c.is_empty.ensures ∙ test.0) in
    all_from_yields_List proper_byte _ _ c.all.result c.all.ensures.ran (YieldsList-from_slice name cc) (λ x b q k. search (rules, tests))
    ∙ all_is proper_byte name
    ∙ by_bytes name (omega arith) test.1
