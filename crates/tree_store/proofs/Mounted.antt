-- A stored tree that was just mounted holds a value that stands for the tree that a run starts from.
use Rattle.std.proofs.Common.{◌≡◌, inl, inr, ⊎_elim, ℕ, zero, suc, ◌+◌, ◌*◌, ◌<◌, ◌≤◌, List, [], ◌∷◌, ◌++◌, map, length, take, get_or, refl, sym, ap, subst, ◌∙◌, T, Option, Some, None, arith, length-append}
use Rattle.std.proofs.lemmas.Bool.{cases_lt}
use Rattle.std.proofs.lemmas.List.{get_or_past, length-take-le}
use Rattle.std.proofs.lemmas.List.FromFn.{get_or-map-range_with_len, length-map-range_with_len}
use Rattle.std.specs.List.{flat_map, range_with_len}
use Rattle.std.specs.Prelude.{slice_index_or}
use Rattle.std.specs.FinMap.Entries.{find, is_sorted}
use Rattle.apex_types.specs.declared.numbers.FileNode.{FileNode}
use Rattle.apex_types.specs.declared.rows.TreeRow.{TreeRow}
use Rattle.apex_model.specs.Durable.{StoredFile, loaded_tree}
use Rattle.apex_model.specs.Files.{Content, blocks_of}
use Rattle.apex_model.specs.Image.{data_block, joined}
use Rattle.apex_model.specs.Layout.{tree_blocks}
use Rattle.apex_model.specs.Trees.{Name, Node, directory, file, Tree, path_cmp}
use Rattle.file_tree.specs.Entries.{TreeValue, slot, stored_of, IsConsistent}
use Rattle.file_tree.proofs.Changes.{is_some, slot-within}
use Rattle.file_tree.proofs.Paths.{sorted_nodes}
use Rattle.present_files.specs.Present.{never_changed, room_bytes}
use Rattle.present_files.specs.declared.present.PresentSize.{PresentSize}
use Rattle.present_files.proofs.DataBlocks.{block-long}
use Rattle.rig_core.specs.Outside.{Outside}
use Rattle.tree_state.specs.Mounted.{AreStoredCharges, AreStoredSizes}
use Rattle.store_model.proofs.Names.{path-of-file}
use Rattle.tree_region.specs.InStep.{data_at}
use Rattle.tree_region.specs.Region.{stored_file, stored_node, tree_over}
use Rattle.tree_state.specs.Stored.{present_file}
use Rattle.store_model.specs.Stores.{KeptFile, StoreValue, nothing_kept, kept_at, charge_at, durable_node, durable_of, synchronised_kept, IsSound}
use Rattle.tree_store.specs.Stored.{row_of, start_of, site_of, names_of, size_at, changes_at, charges_of, content_over, durable_over, IsStored, Holds, IsLoaded}
use Rattle.tree_store.specs.declared.store.TreeStore.{TreeStore}
use Rattle.tree_store.proofs.Loaded.{IsAsStored, stands-loaded, valid-loaded}
use Rattle.tree_store.proofs.Over.{same-over}

-- blocks one behind the other
length-blocks : (blocks numbers : List ℕ) → ((k : ℕ) → length (data_block blocks (get_or numbers k 0)) ≡ 512) → length (flat_map (data_block blocks) numbers) ≡ 512 * length numbers
length-blocks blocks [] whole = refl
length-blocks blocks (n ∷ numbers) whole =
    let here = whole 0 in
    let rest = length-blocks blocks numbers (λ k. whole (suc k)) in
    let both = length-append (data_block blocks n) (flat_map (data_block blocks) numbers) in
    omega (arith, here, rest, both)

pub length-joined : (blocks numbers : List ℕ) (size most : ℕ) → ((k : ℕ) → length (data_block blocks (get_or numbers k 0)) ≡ 512) → length numbers ≡ most → blocks_of size ≤ most
    → length (joined blocks numbers size) ≡ size
length-joined blocks numbers size most whole long fits =
    let all = length-blocks blocks numbers whole in
    length-take-le size (flat_map (data_block blocks) numbers) (omega (arith, all, long, fits))

-- the present content with its change count, as what a cut leaves too
abbrev pub kept_of : TreeStore → List ℕ → ℕ → KeptFile
kept_of s view f = record { content = content_over s view f; changes = changes_at s f; durable = record { content = content_over s view f; changes = changes_at s f } }

-- what a store holds whose files have their durable contents, over a view
abbrev pub value_over : TreeStore → List ℕ → StoreValue
value_over s view = record { tree = names_of s; files = map (kept_of s view) (range_with_len 0 (row_of s).files); charges = charges_of s; quota = (row_of s).quota }

module _ (V : Type 0) (o : Outside) (s : TreeStore) (stored : IsStored V o s) (sizes : AreStoredSizes (names_of s) (row_of s).files s.state.present.sizes.items)
    (charges : AreStoredCharges (row_of s) (names_of s) (row_of s).files s.state.charges)
    (contents : (view : List ℕ) (f : FileNode) → present_file (row_of s) (start_of s) view s.state f ≡ stored_file (data_at (row_of s) (start_of s) view) (names_of s) s.state.kept.table.files.items f.0)
    (view : List ℕ) (long : length view ≡ o.size) (is : V → view ≡ o.view) where
  abbrev value : StoreValue
  value = value_over s view

  present-is : (f : ℕ) → present_file (row_of s) (start_of s) view s.state (record { 0 = f }) ≡ stored_file (data_at (row_of s) (start_of s) view) (names_of s) s.state.kept.table.files.items f
  present-is f = contents view (record { 0 = f })

  -- ---- behind the files there is nothing

  none-present : (f : ℕ) → (row_of s).files ≤ f → slice_index_or s.state.present.sizes.items f never_changed ≡ never_changed
  none-present f far = let many = sizes.many in get_or_past s.state.present.sizes.items f never_changed (omega (arith, far, many))

  empty-kept : (f : ℕ) → size_at s f ≡ 0 → changes_at s f ≡ 0 → kept_of s view f ≡ nothing_kept
  empty-kept f no_bytes no_changes =
      let content : content_over s view f ≡ [] = ap (λ (n : ℕ). take n (room_bytes (data_at (row_of s) (start_of s) view) s.state.present (record { 0 = f }))) no_bytes in
      λ i. record { content = content i; changes = no_changes i; durable = record { content = content i; changes = no_changes i } }

  kept-is : (f : ℕ) → kept_at value f ≡ kept_of s view f
  kept-is f = elim (cases_lt f (row_of s).files) [
    | inl less ↦ get_or-map-range_with_len (kept_of s view) 0 (row_of s).files f f nothing_kept less (omega arith)
    | inr far ↦
        let many = length-map-range_with_len (kept_of s view) 0 (row_of s).files in
        let none = none-present f far in
        get_or_past value.files f nothing_kept (omega (arith, many, far)) ∙ sym (empty-kept f (ap (λ (p : PresentSize). p.size) none) (ap (λ (p : PresentSize). p.changes) none))
  ]

  -- ---- sizes and charges

  number-fits : (f k : ℕ) → length (data_block (data_at (row_of s) (start_of s) view) (get_or (slice_index_or s.state.kept.table.files.items f []) k 0)) ≡ 512
  number-fits f k =
      let fits = stored.fits in
      block-long (row_of s) (start_of s) (get_or (slice_index_or s.state.kept.table.files.items f []) k 0) view (omega (arith, fits, long)) (stored.state.in_step.numbers.within f k)

  size-is : (f : ℕ) → f < (row_of s).files → size_at s f ≡ (stored_of (names_of s) f).0
  size-is f less = ap (λ (p : PresentSize). p.size) (sizes.stored f less)

  content-long : (f : ℕ) → length (content_over s view f) ≡ size_at s f
  content-long f = elim (cases_lt f (row_of s).files) [
    | inl less ↦
        let step = stored.state.in_step in
        ap (λ (p : StoredFile). length p.content) (present-is f)
        ∙ length-joined (data_at (row_of s) (start_of s) view) (slice_index_or s.state.kept.table.files.items f []) (stored_of (names_of s) f).0 _ (number-fits f) (step.limits.rooms f less) (step.good.fits f less)
        ∙ sym (size-is f less)
    | inr far ↦ let none = ap (λ (p : PresentSize). p.size) (none-present f far) in
        ap (λ (k : KeptFile). length k.content) (empty-kept f none (ap (λ (p : PresentSize). p.changes) (none-present f far))) ∙ sym none
  ]

  size-kept : (f : ℕ) → length (kept_at value f).content ≡ size_at s f
  size-kept f = ap (λ (k : KeptFile). length k.content) (kept-is f) ∙ content-long f

  charge-is : (f : ℕ) → charge_at value f ≡ blocks_of (size_at s f)
  charge-is f = elim (cases_lt f (row_of s).files) [
    | inl less ↦ charges.before f less ∙ ap blocks_of (sym (size-is f less))
    | inr far ↦ charges.behind f far ∙ ap blocks_of (sym (ap (λ (p : PresentSize). p.size) (none-present f far)))
  ]

  sound-value : IsSound value
  sound-value = let state = stored.state in record {
    names = stored.names;
    files = length-map-range_with_len (kept_of s view) 0 (row_of s).files ∙ sym state.in_step.limits.files;
    charges = state.charged.files ∙ sym state.in_step.limits.files;
    unused = λ f none. (kept-is f ∙ empty-kept f (state.unused.size f none) (state.unused.changes f none), state.unused.charge f none);
    within_quota = state.charged.total_within;
  }

  -- ---- what a cut leaves

  node-is : (path : List Name) (n : Node ℕ) → find path_cmp path (names_of s).nodes ≡ Some n
      → durable_node value n ≡ stored_node (data_at (row_of s) (start_of s) view) (names_of s) s.state.kept.table.files.items n
  node-is path directory found = refl
  node-is path (file f) found =
      ap (λ (k : KeptFile). file k.durable) (kept-is f) ∙ ap (λ (p : StoredFile). file p) (present-is f)

  durable-is : durable_of value ≡ durable_over s view
  durable-is =
      same-over (durable_node value) (stored_node (data_at (row_of s) (start_of s) view) (names_of s) s.state.kept.table.files.items) (names_of s).nodes
      (subst (λ (nodes : Tree ℕ). T (is_sorted path_cmp nodes)) (sym stored.names.nodes_are) (sorted_nodes (names_of s).files (names_of s).directories)) node-is

  holds-value : Holds V o s value
  holds-value = record {
    sound = sound-value;
    names = refl;
    sizes = size-kept;
    changes = λ f. ap (λ (k : KeptFile). k.changes) (kept-is f);
    charges = refl;
    quota = refl;
    contents = λ tells f. ap (λ (k : KeptFile). k.content) (kept-is f) ∙ ap (λ (bytes : List ℕ). content_over s bytes f) (is tells);
    durable = λ tells. durable-is ∙ ap (durable_over s) (is tells);
  }

  as_stored : (f : ℕ) → IsAsStored (kept_at value f)
  as_stored f = kept-is f ∙ sym (ap synchronised_kept (kept-is f))

  charged : (f : ℕ) → charge_at value f ≡ blocks_of (length (kept_at value f).content)
  charged f = charge-is f ∙ ap blocks_of (sym (size-kept f))

  short : (f : ℕ) → size_at s f ≤ 1048576
  short f = elim (cases_lt f (row_of s).files) [
    | inl less ↦ stored.state.present.short f less
    | inr far ↦ let none = ap (λ (p : PresentSize). p.size) (none-present f far) in omega (arith, none)
  ]

  counted : (f : ℕ) → changes_at s f ≤ 4294967295
  counted f = elim (cases_lt f (row_of s).files) [
    | inl less ↦ let same = ap (λ (p : PresentSize). p.changes) (sizes.stored f less) in let few = sizes.counted f less in omega (arith, same, few)
    | inr far ↦ let none = ap (λ (p : PresentSize). p.changes) (none-present f far) in omega (arith, none)
  ]

  pub is-loaded : IsLoaded V o s (durable_of value)
  is-loaded = let step = stored.state.in_step in record {
    value = value;
    holds = holds-value;
    stands = stands-loaded value sound-value as_stored charged;
    valid = valid-loaded value sound-value as_stored charged (row_of s) stored.spelled step.limits.files step.limits.directories refl
        (λ f. record { fits = let size = size-kept f in let few = short f in omega (arith, size, few) })
        (λ f. let same = ap (λ (k : KeptFile). k.changes) (kept-is f) in let few = counted f in omega (arith, same, few));
    region = λ tells. (step.stands tells).tree ∙ ap (λ (tree : Tree StoredFile). Some tree) (sym (holds-value.durable tells));
  }
