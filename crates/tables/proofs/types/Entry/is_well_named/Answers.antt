use Rattle.std.proofs.Common.{◌≡◌, ◌-◌, ◌&&◌, length, take, drop, rules, sym, ap, ◌∙◌, arith}
use Rattle.std.proofs.lemmas.List.{length-drop, take_all}
use Rattle.std.proofs.lemmas.Iterator.{YieldsList-from_slice}
use Rattle.std.proofs.lemmas.Iterator.Search.{all_from_yields_List}
use borrow.Author.Tests.{tests}
use Rattle.model.specs.Image.{all}
use Rattle.model.specs.Names.{proper_name, same_name, padded}
use Rattle.model.specs.Tables.{trimmed}
use Rattle.tables.proofs.Blanks.{is_blank, same-padded}
use Rattle.tables.proofs.Positions.{all_is}
use Rattle.tables.proofs.types.Entry.is_well_named.Goals as goal

pub returns-then-is_proper : goal.returns-then-is_proper
returns-then-is_proper c =
    let name = c.args.self.now.name in
    let rest = drop (length c.name-name.result.now) name in
    let h = c.if-is_proper.true in
    let k = length c.name-name.result.now in
    let whole : take (15 - k) (drop k name) ≡ drop k name = take_all (15 - k) (drop k name) (let l = length-drop k name in let m = c.args.self.now.sized in omega arith) in
    let blank : c.all.result ≡ all is_blank rest = all_from_yields_List is_blank _ _ c.all.result c.all.ensures.ran (YieldsList-from_slice rest (c.iter.ensures.rest ∙ whole)) (λ x b q k. search (rules, tests)) ∙ all_is is_blank rest in
    blank
    ∙ ap (λ n. all is_blank (drop (length n) name)) c.name-name.ensures
    ∙ sym (same-padded name c.args.self.now.sized)
    ∙ ap (λ b. b && same_name name (padded (trimmed name))) (sym (ap proper_name (sym c.name-name.ensures) ∙ sym c.is_proper.ensures ∙ h))
