-- The contents of a new file, as writes to its sectors.
use Rattle.std.specs.Prelude.{List, ◌++◌, map}
use Rattle.model.specs.Image.{Write}
use Rattle.model.specs.Tables.{Tables, used}
use Rattle.model.specs.Volume.{data_writes}
use Rattle.volume.specs.Writing.{part_write}
use Rattle.volume.specs.declared.parts.Contents.{Contents}
use Rattle.volume.specs.declared.parts.Part.{Part}

abbrev pub contents_writes : Contents → List Write
contents_writes c = data_writes (used c.row.places) c.bytes.now

-- what a call writes: the contents of a new file, and then tables
abbrev pub all_writes : Tables → Contents → List Part → List Write
all_writes t c ps = contents_writes c ++ map (part_write t) ps
