-- The tree that the content of a slot stands for: a body with the journal behind it.
use Rattle.std.specs.Prelude.{◌≡◌, ℕ, ◌*◌, ◌≤◌, ◌++◌, replicate, List, [], take, drop, Option, Some, None}
use Rattle.apex_types.specs.declared.rows.TreeRow.{TreeRow}
use Rattle.apex_model.specs.Durable.{StoredFile}
use Rattle.apex_model.specs.Fields.{header_of}
use Rattle.apex_model.specs.Image as image
use Rattle.apex_model.specs.Layout.{body_blocks}
use Rattle.apex_model.specs.Trees.{Tree}
use Rattle.gate_slots.specs.Place.{newest_slot}
use Rattle.meta_journal.specs.Leading.{records, HasNoneOpen}
use Rattle.tree_region.specs.Region.{slots_at, body_of, journal_of}

-- the tree of a body's entries, once the records behind it were applied
abbrev pub tree_after_records : ℕ → List (List ℕ) → image.Entries → Option (Tree StoredFile) → Option (Tree StoredFile)
tree_after_records version recs entries made =
    elim made [ None ↦ None | Some tree ↦ elim (image.replayed version recs (Some entries)) [ None ↦ None | Some after ↦ image.tree_of_entries after ] ]

abbrev pub tree_by_entries : ℕ → List (List ℕ) → Option image.Entries → Option (Tree StoredFile)
tree_by_entries version recs spelled = elim spelled [ None ↦ None | Some entries ↦ tree_after_records version recs entries (image.tree_of_entries entries) ]

-- the tree of a body with a header and of the records behind it, over data blocks
abbrev pub tree_by_header : TreeRow → List ℕ → List (List ℕ) → List ℕ → Option (ℕ × ℕ) → Option (Tree StoredFile)
tree_by_header row body recs blocks header =
    elim header [ None ↦ None | Some h ↦ tree_by_entries h.1 recs (image.entries_of_body h.1 row body blocks) ]

abbrev pub tree_of_body : TreeRow → List ℕ → List (List ℕ) → List ℕ → Option (Tree StoredFile)
tree_of_body row body recs blocks = tree_by_header row body recs blocks (header_of (take 64 body))

-- the tree that a slot's content stands for, over data blocks
unfoldable pub tree_of_content : TreeRow → List ℕ → List ℕ → Option (Tree StoredFile)
tree_of_content row content blocks =
    tree_of_body row (take (512 * body_blocks row) content) (image.leading_records 32 (drop (512 * body_blocks row) content)) blocks

-- the tree of the newest slot's content, if there is one
abbrev pub tree_of_newest : TreeRow → Option (List ℕ) → List ℕ → Option (Tree StoredFile)
tree_of_newest row newest blocks = elim newest [ None ↦ None | Some content ↦ tree_of_content row content blocks ]

-- a body with a journal of zeros behind it
abbrev pub with_empty_journal : List ℕ → List ℕ
with_empty_journal body = body ++ replicate 32768 0

-- The newest slot has this body and a journal in which no gate is open.
pub record HasNewSlot (row : TreeRow) (at : ℕ) (image : List ℕ) (body : List ℕ) : Type 0 where
  pub newest : ℕ
  pub low : newest ≤ 1
  pub is_newest : newest_slot (slots_at row at) image ≡ Some newest
  pub body_is : body_of row at newest image ≡ body
  pub no_records : records (journal_of row at newest) image ≡ []
  pub none_open : HasNoneOpen (journal_of row at newest) 0 image
