use Rattle.std.proofs.Common.{refl}
use Rattle.tables.proofs.Changing.{put_dir, put_file}
use Rattle.tables.proofs.types.Tables.put_entry.Goals as goal

pub returns-in-Directory : goal.returns-in-Directory
returns-in-Directory c = put_dir c.args.self.now _ c.args.kind c.args.number c.args.entry c.in-Directory.is refl

pub returns-in-File : goal.returns-in-File
returns-in-File c = put_file c.args.self.now _ c.args.kind c.args.number c.args.entry c.in-File.is refl
