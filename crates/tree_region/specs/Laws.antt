-- What is proved of the definitions: records change the entries of an image as they change the names that these stand for.
use Rattle.std.specs.Prelude.{◌≡◌, ℕ, ◌≤◌, List, length, Some, option_map}
use Rattle.apex_model.specs.Durable.{StoredFile}
use Rattle.apex_model.specs.Image as image
use Rattle.apex_model.specs.Trees.{Tree}
use Rattle.file_tree.specs.Images.{names_of}
use Rattle.tree_region.specs.Replay.{replayed}

-- for the entries of an image that make a tree: the names after the records are those of the image's entries after the same records, and there are none of the one where there are none of the other
abbrev pub ReplayAgreesWithImage : Type 0
ReplayAgreesWithImage = (version : ℕ) (entries : image.Entries) (tree : Tree StoredFile) (records : List (List ℕ)) → image.tree_of_entries entries ≡ Some tree
    → length entries.files ≤ 255 → length entries.directories ≤ 255 → replayed version (Some (names_of entries)) records ≡ option_map names_of (image.replayed version records (Some entries))
