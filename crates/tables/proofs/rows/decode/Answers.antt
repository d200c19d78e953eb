use Rattle.std.proofs.Common.{[], length, rules, ap, ◌∙◌}
use Rattle.std.proofs.lemmas.List.{map-id}
use Rattle.tables.specs.declared.types.Row.{Row}
use Rattle.tables.proofs.Bytes.{parts-length}
use Rattle.tables.proofs.Wholes.{made}
use Rattle.tables.proofs.rows.decode.Goals as goal

pub returns : goal.returns
returns c = made (λ (r : Row). r.places) (λ bs. bs) [] c.cut-pieces.result.now c.from_fn.result (λ i y q l k. (search rules, search rules)) c.from_fn.ensures.items (ap length c.cut-pieces.ensures ∙ parts-length 32 c.args.sector.now) ∙ map-id c.cut-pieces.result.now ∙ c.cut-pieces.ensures
