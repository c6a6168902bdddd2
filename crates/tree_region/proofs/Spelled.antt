-- What a body and its records spell: the tree of the region, its blocks, and one more record.
use Rattle.std.proofs.Common.{◌≡◌, ℕ, suc, ◌+◌, ◌*◌, ◌≤◌, List, [], ◌∷◌, ◌++◌, length, take, refl, ap, ◌∙◌, Option, Some, None}
use Rattle.std.specs.Prelude.{flat_map, map, slice_index_or}
use Rattle.apex_types.specs.declared.fields.RecordField.{RecordField}
use Rattle.apex_types.specs.declared.rows.TreeRow.{TreeRow}
use Rattle.apex_model.specs.Durable.{StoredFile}
use Rattle.apex_model.specs.Fields.{header_of, record_of}
use Rattle.apex_model.specs.Image as image
use Rattle.apex_model.specs.Layout.{tree_blocks}
use Rattle.apex_model.specs.Trees.{Name, Node, directory, file, Tree}
use Rattle.gate_slots.specs.Place.{newest_slot}
use Rattle.meta_journal.specs.Leading.{records}
use Rattle.file_tree.specs.Entries.{TreeValue, stored_of}
use Rattle.file_tree.specs.Records.{applied}
use Rattle.tree_region.specs.Replay as replay
use Rattle.tree_region.specs.Region.{Spells, stored_node, tree_over, slots_at, body_of, journal_of}
use Rattle.tree_region.proofs.Overlaid.{tree-is}
use Rattle.tree_region.proofs.Places.{slot-low, some-newest, data-long, body-there, records-there}
use Rattle.tree_region.proofs.Replaying.{replayed-some, replayed-append}
use Rattle.tree_region.specs.InStep.{SameNamed, IsTree, data_at}

-- ---- blocks that are the same

joined-same : (a b numbers : List ℕ) → ((k : ℕ) → image.data_block b (slice_index_or numbers k 0) ≡ image.data_block a (slice_index_or numbers k 0)) → flat_map (image.data_block b) numbers ≡ flat_map (image.data_block a) numbers
joined-same a b [] same = refl
joined-same a b (n ∷ numbers) same = (λ i. same 0 i ++ joined-same a b numbers (λ k. same (suc k)) i)

module _ (numbers : List (List ℕ)) (a b : List ℕ) (same : SameNamed numbers a b) (v : TreeValue) where
  node-same : (n : Node ℕ) → stored_node b v numbers n ≡ stored_node a v numbers n
  node-same directory = refl
  node-same (file f) = ap (λ (bytes : List ℕ). file (record { content = take (stored_of v f).0 bytes; changes = (stored_of v f).1 })) (joined-same a b (slice_index_or numbers f []) (same f))

  -- they make the same tree
  pub over-same : tree_over b v numbers ≡ tree_over a v numbers
  over-same = λ i. map (λ (p : List Name × Node ℕ). let q : List Name × Node StoredFile = (p.0, node-same p.1 i) in q) v.nodes

-- ---- one more record

replay-one : (version : ℕ) (v : TreeValue) (bytes : List ℕ) (change : RecordField) → record_of version bytes ≡ Some change → replay.replayed version (Some v) (bytes ∷ []) ≡ applied v change
unfolding replay.replayed
replay-one version v bytes change is = ap (replay.after_record v) is

pub spelled-more : (row : TreeRow) (body : List ℕ) (recs : List (List ℕ)) (version : ℕ) (v w : TreeValue) (numbers : List (List ℕ)) (bytes : List ℕ) (change : RecordField) → length v.files ≤ 255 → length v.directories ≤ 255
    → record_of version bytes ≡ Some change → applied v change ≡ Some w → Spells row body recs version v numbers → Spells row body (recs ++ bytes ∷ []) version w numbers
spelled-more row body recs version v w numbers bytes change few_files few_directories is after spells = λ blocks long.
    let s = spells blocks long in
    let more = replayed-some blocks numbers version (bytes ∷ []) s.entries v s.has few_files few_directories w (replay-one version v bytes change is ∙ after) in
    record {
      sequence = s.sequence;
      header = s.header;
      written = s.written;
      spelled = s.spelled;
      tree = s.tree;
      made = s.made;
      entries = more.0;
      changed = replayed-append version recs (bytes ∷ []) (Some s.written) ∙ ap (image.replayed version (bytes ∷ [])) s.changed ∙ more.1;
      has = more.2;
    }

-- ---- the tree of a region

module _ (row : TreeRow) (at : ℕ) (img : List ℕ) (fits : at + 512 * tree_blocks row ≤ length img) (slot : ℕ) (newest : newest_slot (slots_at row at) img ≡ Some slot) (version : ℕ) (v : TreeValue) (numbers : List (List ℕ)) where
  abbrev blocks : List ℕ
  blocks = data_at row at img

  abbrev recs : List (List ℕ)
  recs = records (journal_of row at slot) img

  abbrev after-tree : ℕ → List (List ℕ) → image.Entries → Option (Tree StoredFile) → Option (Tree StoredFile)
  after-tree n rs entries o = elim o [ None ↦ None | Some tree ↦ elim (image.replayed n rs (Some entries)) [ None ↦ None | Some after ↦ image.tree_of_entries after ] ]

  abbrev after-entries : ℕ → List (List ℕ) → Option image.Entries → Option (Tree StoredFile)
  after-entries n rs o = elim o [ None ↦ None | Some entries ↦ after-tree n rs entries (image.tree_of_entries entries) ]

  abbrev tree-by : List ℕ → List (List ℕ) → Option (ℕ × ℕ) → Option (Tree StoredFile)
  tree-by bytes rs o = elim o [ None ↦ None | Some header ↦ after-entries header.1 rs (image.entries_of_body header.1 row bytes blocks) ]

  pub tree-there : Spells row (body_of row at slot img) recs version v numbers → IsTree row at blocks numbers v img
  tree-there spells =
      let low = slot-low row at img fits slot newest in
      let s = spells blocks (data-long row at img fits) in
      some-newest row at img fits slot newest
      ∙ (λ i. tree-by (body-there row at img fits slot low i) (records-there row at img fits slot low i) (header_of (take 64 (body-there row at img fits slot low i))))
      ∙ ap (tree-by (body_of row at slot img) recs) s.header
      ∙ ap (after-entries version recs) s.spelled
      ∙ ap (after-tree version recs s.written) s.made
      ∙ ap (λ (o : Option image.Entries). elim o [ None ↦ None | Some after ↦ image.tree_of_entries after ]) s.changed
      ∙ tree-is blocks v numbers s.entries s.has
