use Rattle.std.proofs.Common.{◌<◌, length, arith}
use Rattle.tables.specs.Views.{view}
use Rattle.tables.proofs.Files.{in_place}
use Rattle.tables.proofs.writing.put_file.Goals as goal

pub returns : goal.returns
returns c =
    let t = c.args.tables.now in
    let inside : c.args.number < length t.rows = (let l = t.rowed in let m = c.requires in omega arith) in
    in_place t c.args.number c.args.entry c.args.row (view c.mark_row.new.self) inside c.mark_row.ensures
