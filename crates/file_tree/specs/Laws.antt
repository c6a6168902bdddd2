-- What is proved of the definitions: the tree that a body spells is the one that its entries in the image stand for.
use Rattle.std.specs.Prelude.{◌≡◌, ℕ, false, ◌+◌, ◌*◌, List, length, drop, map, Some, None}
use Rattle.std.specs.List.{range_with_len}
use Rattle.apex_types.specs.declared.fields.FileEntryField.{FileEntryField}
use Rattle.apex_types.specs.declared.rows.TreeRow.{TreeRow}
use Rattle.apex_model.specs.Fields.{entry_of_bytes}
use Rattle.apex_model.specs.Image as image
use Rattle.file_tree.specs.Bodies.{named_tree, tree_in_version}
use Rattle.file_tree.specs.Entries.{TreeValue}

-- where an image gives entries for a body, the tree that is read in it is theirs, with the sizes of their contents; and there is none of the one where there is none of the other
abbrev pub BodyAgreesWithImage : Type 0
BodyAgreesWithImage = (version : ℕ) (row : TreeRow) (body blocks : List ℕ) (entries : image.Entries) → length blocks ≡ 1024 * row.quota → image.entries_of_body version row body blocks ≡ Some entries
    → tree_in_version version row.files row.directories body ≡ named_tree entries

-- where a tree is read and the image gives no entries, only the blocks are bad: their numbers, their sum or the padding behind them
abbrev pub OnlyBlocksAreLeft : Type 0
OnlyBlocksAreLeft = (version : ℕ) (row : TreeRow) (body blocks : List ℕ) (v : TreeValue) (files : List FileEntryField) → tree_in_version version row.files row.directories body ≡ Some v
    → image.entries_of_body version row body blocks ≡ None → image.all_answers (λ k. entry_of_bytes version (image.entry_bytes body k)) (range_with_len 0 row.files) ≡ Some files
    → image.has_good_blocks row files (map (image.block_number body (row.files + row.directories)) (range_with_len 0 row.quota)) (drop (64 + 128 * (row.files + row.directories) + 4 * row.quota) body) ≡ false
