-- The numbers of the format, each of them once.
use Rattle.std.specs.Prelude.{ℕ}

-- a store ----------------------------------------------------------------------------------------

-- the bytes of a sector
abbrev pub sector_size : ℕ
sector_size = 512

-- the largest count of sectors in a store
abbrev pub most_sectors : ℕ
most_sectors = 65535

-- the depth at which a dead sector stays, however many layers are laid above it
abbrev pub deepest : ℕ
deepest = 255

-- where things lie in a volume ---------------------------------------------------------------------

-- 0x00 to 0x0A are reserved; the data sectors are 0x0B to 0xFF
abbrev pub first_data : ℕ
first_data = 0x0b

abbrev pub last_data : ℕ
last_data = 0xff

abbrev pub data_count : ℕ
data_count = 245

-- the sectors of the four tables: the allocation map, the directory entries, the file entries, the files' sectors
abbrev pub map_sector : ℕ
map_sector = 0x100

abbrev pub dirs_sector : ℕ
dirs_sector = 0x101

abbrev pub files_sector : ℕ
files_sector = 0x102

abbrev pub rows_sector : ℕ
rows_sector = 0x103

-- the sectors that a store must have to carry a volume
abbrev pub least_sectors : ℕ
least_sectors = 260

-- the tables ------------------------------------------------------------------------------------

-- a map byte: free, used or reserved, dead
abbrev pub mark_free : ℕ
mark_free = 0x00

abbrev pub mark_used : ℕ
mark_used = 0xff

abbrev pub mark_dead : ℕ
mark_dead = 0xfe

-- the entries of a table of directories or of files, and so the rows of the table of sectors
abbrev pub entry_count : ℕ
entry_count = 32

-- the items that a volume holds at most: directories and files
abbrev pub most_items : ℕ
most_items = 64

-- the bytes of an entry: one for the parent, and the name's
abbrev pub entry_size : ℕ
entry_size = 16

abbrev pub name_size : ℕ
name_size = 15

-- the places of a row, each for the number of one sector, and the bytes of the largest file
abbrev pub row_size : ℕ
row_size = 16

abbrev pub most_bytes : ℕ
most_bytes = 8192

-- the number of the root as a parent and as a start
abbrev pub root : ℕ
root = 0xff

-- the byte that fills a name and a row up, and that begins the name of a free entry
abbrev pub blank : ℕ
blank = 0x00

-- names and paths ---------------------------------------------------------------------------------

-- the bytes of a name lie between these, and none is the slash
abbrev pub lowest_byte : ℕ
lowest_byte = 0x21

abbrev pub highest_byte : ℕ
highest_byte = 0x7e

abbrev pub slash : ℕ
slash = 0x2f
