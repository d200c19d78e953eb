use Rattle.std.proofs.Common.{[], map, length, rules, ap, ◌∙◌}
use Rattle.model.specs.Tables.{entry}
use Rattle.tables.specs.Views.{entry_view}
use Rattle.tables.proofs.Bytes.{parts-length}
use Rattle.tables.proofs.Wholes.{made}
use Rattle.tables.proofs.entries.decode.Goals as goal

pub returns : goal.returns
returns c = made entry_view entry [] c.cut-pieces.result.now c.from_fn.result (λ i y q l k. (search rules, search rules)) c.from_fn.ensures.items (ap length c.cut-pieces.ensures ∙ parts-length 32 c.args.sector.now) ∙ ap (map entry) c.cut-pieces.ensures
