use Rattle.std.proofs.Common.{List, refl, ap, ◌∙◌, arith}
use Rattle.model.specs.Tables.{Tables as Model, Entry as ModelEntry}
use Rattle.model.specs.Volume.{freed}
use Rattle.tables.specs.Views.{view}
use Rattle.tables.proofs.Changing.{freed-at}
use Rattle.tables.proofs.types.Tables.remove_file.Goals as goal

abbrev with-files : Model → List ModelEntry → Model
with-files t fs = record { marks = t.marks; dirs = t.dirs; files = fs; rows = t.rows }

pub returns-then-i-lt-ENTRIES : goal.returns-then-i-lt-ENTRIES
returns-then-i-lt-ENTRIES c =
    let t = c.mark_row.new.self in
    ap (with-files (view t)) (freed-at t.files c.args.number c.index-self-i.result _ (let f = t.filed in let l = c.if-i-lt-ENTRIES.true in omega arith) refl)
    ∙ ap (λ (u : Model). with-files u (freed u.files c.args.number)) c.mark_row.ensures
