-- Which blocks of a tree's present contents are in memory alone.
use Rattle.std.specs.Prelude.{ℕ, Bool, not, List, ◌*◌, ◌&&◌, length, take, drop, sum_by, count_by, bytes_eq}
use Rattle.std.specs.Map.{values_of}
use Rattle.std.specs.List.{list_any, range_with_len}
use Rattle.apex_types.specs.declared.rows.TreeRow.{TreeRow}
use Rattle.apex_model.specs.Fields.{part, is_padding}
use Rattle.apex_model.specs.Files.{Content, File, blocks_of}
use Rattle.apex_model.specs.Image.{data_block}
use Rattle.apex_model.specs.Layout.{slot_blocks}
use Rattle.apex_model.specs.Trees.{Node, directory, file, Tree}

-- block k of a content, up to the content's end
abbrev pub block_of : Content → ℕ → List ℕ
block_of content k = part content (512 * k) 512

-- the data blocks of a tree's region
abbrev pub data_of : TreeRow → List ℕ → List ℕ
data_of row region = drop (512 * (2 * slot_blocks row)) region

-- whether a data block of a tree's region begins with these bytes
abbrev pub is_stored : TreeRow → List ℕ → List ℕ → Bool
is_stored row region bytes =
    list_any (λ n. bytes_eq (take (length bytes) (data_block (data_of row region) n)) bytes)
    (range_with_len 1 (2 * row.quota))

-- whether bytes of a block are neither zeros alone nor stored
abbrev pub is_unwritten : TreeRow → List ℕ → List ℕ → Bool
is_unwritten row region bytes = not (is_padding bytes) && not (is_stored row region bytes)

-- how many blocks of a content are in memory alone
abbrev pub unwritten_of : TreeRow → List ℕ → Content → ℕ
unwritten_of row region content =
    count_by (λ k. is_unwritten row region (block_of content k))
    (range_with_len 0 (blocks_of (length content)))

-- and of a node's present content
abbrev pub unwritten_in : TreeRow → List ℕ → Node File → ℕ
unwritten_in row region directory = 0
unwritten_in row region (file f) = unwritten_of row region f.content

-- how many blocks of a tree's present contents are in memory alone, where this is its region
abbrev pub unwritten : TreeRow → List ℕ → Tree File → ℕ
unwritten row region tree = sum_by (unwritten_in row region) (values_of tree)
