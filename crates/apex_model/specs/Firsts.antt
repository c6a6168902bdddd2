-- A tree with each file at its synchronised content: one of the trees that a cut may leave.
use Rattle.std.specs.Prelude.{List, [], ◌∷◌, map}
use Rattle.apex_model.specs.Durable.{StoredFile}
use Rattle.apex_model.specs.Files.{Content, File}
use Rattle.apex_model.specs.Trees.{Name, Node, directory, file, Tree}

-- the oldest of some contents, where the last one is given apart
abbrev pub oldest : List Content → Content → Content
oldest [] last = last
oldest (content ∷ contents) last = content

-- the synchronised content with its change count
abbrev pub first_file : File → StoredFile
first_file f = record { content = oldest f.earlier f.content; changes = f.first }

-- a directory as it is, and a file as it was synchronised
abbrev pub first_node : Node File → Node StoredFile
first_node directory = directory
first_node (file f) = file (first_file f)

-- under the same path
abbrev pub first_entry : List Name × Node File → List Name × Node StoredFile
first_entry entry = (entry.0, first_node entry.1)

-- each file as it was synchronised
abbrev pub first_tree : Tree File → Tree StoredFile
first_tree tree = map first_entry tree
