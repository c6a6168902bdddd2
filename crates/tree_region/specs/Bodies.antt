-- The names and the block numbers that a slot's body stands for.
use Rattle.std.specs.Prelude.{◌≡◌, ℕ, ◌*◌, List, [], length, take, Option, Some, None, slice_index_or}
use Rattle.apex_types.specs.declared.rows.TreeRow.{TreeRow}
use Rattle.apex_model.specs.Durable.{StoredFile}
use Rattle.apex_model.specs.Fields.{header_of}
use Rattle.apex_model.specs.Image.{Entry, Entries, tree_of_entries, entries_of_body, joined}
use Rattle.apex_model.specs.Trees.{Tree}
use Rattle.file_tree.specs.Entries.{TreeValue, slot}
use Rattle.file_tree.specs.Images.{names_of}
use Rattle.tree_region.specs.Numbers.{AreUsed, numbers_in}
use Rattle.tree_region.specs.declared.body.SlotBody.{SlotBody}

-- the entries that make a tree
abbrev pub if_tree : Option Entries → Option Entries
if_tree entries = elim entries [ None ↦ None | Some e ↦ elim (tree_of_entries e) [ None ↦ None | Some tree ↦ Some e ] ]

-- the entries that a body spells over data blocks, where they make a tree
abbrev pub entries_in_body : TreeRow → List ℕ → List ℕ → Option Entries
entries_in_body row body blocks = elim (header_of (take 64 body)) [ None ↦ None | Some header ↦ if_tree (entries_of_body header.1 row body blocks) ]

-- each file's content is that of the blocks of its numbers, cut at its size
abbrev pub HasContents : List ℕ → List (List ℕ) → List (Option Entry) → Type 0
HasContents blocks numbers files = (f : ℕ) (entry : Entry) → slot files f ≡ Some entry → entry.stored.content ≡ joined blocks (slice_index_or numbers f []) (length entry.stored.content)

-- Entries of an image are these names with their sizes and change counts, and these block numbers.
pub record HasEntries (blocks : List ℕ) (v : TreeValue) (numbers : List (List ℕ)) (entries : Entries) : Type 0 where
  pub tree : Tree StoredFile
  pub made : tree_of_entries entries ≡ Some tree
  pub names : names_of entries ≡ v
  pub contents : HasContents blocks numbers entries.files

-- A body has this version and the entries that were read.
pub record HasBody (row : TreeRow) (bytes blocks : List ℕ) (body : SlotBody) : Type 0 where
  pub sequence : ℕ
  pub header : header_of (take 64 bytes) ≡ Some (sequence, body.version)
  pub entries : Entries
  pub spelled : entries_of_body body.version row bytes blocks ≡ Some entries
  pub read : HasEntries blocks body.tree body.table.files.items entries

-- a body was read, or there is none, over all data blocks
abbrev pub IsBody : TreeRow → List ℕ → Option SlotBody → Type 0
IsBody row bytes None = (blocks : List ℕ) → length blocks ≡ 1024 * row.quota → entries_in_body row bytes blocks ≡ None
IsBody row bytes (Some body) = ((blocks : List ℕ) → length blocks ≡ 1024 * row.quota → HasBody row bytes blocks body) × AreUsed row.quota (numbers_in row bytes) body.table.used
