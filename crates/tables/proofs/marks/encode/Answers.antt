use Rattle.std.proofs.Common.{rules, sym, ◌∙◌}
use Rattle.std.proofs.lemmas.List.{map-id}
use Rattle.tables.proofs.Wholes.{made}
use Rattle.tables.specs.declared.types.Mark.{Mark}
use Rattle.tables.proofs.marks.encode.Goals as goal

pub returns : goal.returns
returns c = sym (map-id c.from_fn.result) ∙ made (λ b. b) (λ (m : Mark). m.0) (record { 0 = 0 }) c.args.all.now c.from_fn.result (λ i y q l k. (search rules, search rules)) c.from_fn.ensures.items c.told-all
