use Rattle.std.proofs.Common.{◌≡◌, ◌&&◌, ℕ, Bool, eqb, cond, List, [], ◌∷◌, Some, rules, ◌∙◌, refl, ap, ap₂}
use lib.Pointwise.{pointwise}
use Rattle.std.proofs.lemmas.Iterator.{YieldsList-from_slice}
use Rattle.std.proofs.lemmas.Iterator.Search.{position_from_yields_List}
use borrow.Author.Tests.{tests}
use Rattle.model.specs.Names.{padded, same_name}
use Rattle.model.specs.Tree.{first, raised}
use Rattle.tables.specs.declared.types.Entry.{Entry}
use Rattle.tables.proofs.Positions.{first_is}
use Rattle.tables.proofs.Seeks.{child-first, child-long, is_wanted}
use Rattle.tables.proofs.lookup.child.Goals as goal

-- as `==` of entries asks
abbrev is_entry : ℕ → List ℕ → Entry → Bool
is_entry d n e = eqb e.parent d && pointwise (λ x y. eqb x y) e.name n

same : (n m : List ℕ) → pointwise (λ x y. eqb x y) n m ≡ same_name n m
same [] [] = refl
same [] (y ∷ m) = refl
same (x ∷ n) [] = refl
same (x ∷ n) (y ∷ m) = ap (λ b. eqb x y && b) (same n m)

first_same : (d : ℕ) (n : List ℕ) (es : List Entry) → first (is_entry d (padded n)) es ≡ first (is_wanted d n) es
first_same d n [] = refl
first_same d n (e ∷ es) = ap₂ (λ b o. cond (eqb e.parent d && b) (Some 0) (raised o)) (same e.name (padded n)) (first_same d n es)

pub returns-then-name-gt-NAME-clause-value : goal.returns-then-name-gt-NAME-clause-value
returns-then-name-gt-NAME-clause-value c = child-long c.args.entries.now c.args.parent c.args.name.now c.if-name-gt-NAME.true

pub returns-clause-value : goal.returns-clause-value
returns-clause-value c =
    let es = c.args.entries.now in
    let d = c.args.parent in
    let n = c.args.name.now in
    let w = c.new-wanted.result in
    let cast : c.map.result ≡ c.position.result = search (rules, tests) in
    cast
    ∙ position_from_yields_List (is_entry w.parent w.name) _ _ c.position.result c.position.ensures.ran (YieldsList-from_slice es cc) (λ x b q k. search (rules, tests))
    ∙ first_is (is_entry w.parent w.name) es
    ∙ ap₂ (λ p m. first (is_entry p m) es) c.new-wanted.ensures.value.0 (c.new-wanted.ensures.fits c.if-name-gt-NAME.false)
    ∙ first_same d n es
    ∙ child-first es d n
