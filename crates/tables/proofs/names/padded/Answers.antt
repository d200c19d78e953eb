use Rattle.std.proofs.Common.{◌≡◌, ◌-◌, ◌++◌, take, drop, replicate, ap, ◌∙◌, arith}
use Rattle.model.specs.Names.{padded}
use Rattle.tables.proofs.Blanks.{fill_up, fits-padded}
use Rattle.tables.proofs.names.padded.Goals as goal

pub returns : goal.returns
returns c =
    let name = c.args.name.now in
    let k = c.min-long.result in
    let whole : k - 0 ≡ k = omega arith in
    let value : c.copy_from_slice.new.self ++ drop (k - 0) (replicate 15 0) ≡ take 15 (padded name) =
    ap (λ xs. xs ++ drop (k - 0) (replicate 15 0)) c.copy_from_slice.ensures.after
    ∙ ap (λ i. take i name ++ drop i (replicate 15 0)) whole
    ∙ fill_up 15 k name c.min-long.ensures
    in
    record { value = value; fits = λ l. value ∙ fits-padded name l }
