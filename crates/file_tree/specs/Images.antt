-- The names that the entries of an image stand for, with the sizes and change counts of files.
use Rattle.std.specs.Prelude.{List, length, map, Option, option_map}
use Rattle.apex_model.specs.Image as image
use Rattle.file_tree.specs.declared.entries.Entry.{Entry}
use Rattle.file_tree.specs.Entries.{TreeValue}
use Rattle.file_tree.specs.Table.{value_of}

-- the name and parent of an entry of an image
abbrev pub named_entry : image.Entry → Entry
named_entry e = record { parent = record { 0 = e.parent }; name = e.name; stored = (length e.stored.content, e.stored.changes) }

abbrev pub named : List (Option image.Entry) → List (Option Entry)
named entries = map (option_map named_entry) entries

-- what stands at each path, the path of each entry, and the size and change count of each file
abbrev pub names_of : image.Entries → TreeValue
names_of entries = value_of (named entries.files) (named entries.directories)
