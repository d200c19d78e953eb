use Rattle.std.proofs.Common.{rules, ◌∙◌}
use Rattle.std.proofs.lemmas.List.{map-id}
use Rattle.tables.proofs.Wholes.{made}
use Rattle.tables.specs.declared.types.Mark.{Mark}
use Rattle.tables.proofs.marks.decode.Goals as goal

pub returns : goal.returns
returns c = made (λ (m : Mark). m.0) (λ b. b) 0 c.args.sector.now c.from_fn.result (λ i y q l k. (search rules, search rules)) c.from_fn.ensures.items c.told-sector ∙ map-id c.args.sector.now
