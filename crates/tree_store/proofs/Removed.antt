-- What the removal of a file makes of what a store holds.
use Rattle.std.proofs.Common.{◌≡◌, ◌≢◌, ⊎_elim, ℕ, ◌<◌, T, List, [], length, take, refl, sym, ap, subst, ◌∙◌, Option, Some, None, arith}
use Rattle.std.proofs.lemmas.Bool.{cases_eq}
use Rattle.std.proofs.lemmas.List.{get_or-set_other, get_or-set_same, length-set}
use Rattle.std.specs.FinMap.Entries.{find, is_sorted}
use Rattle.std.specs.Prelude.{slice_index_or, slice_set, sum_by}
use Rattle.apex_types.specs.declared.numbers.FileNode.{FileNode}
use Rattle.apex_model.specs.Durable.{StoredFile}
use Rattle.apex_model.specs.Trees.{Name, Node, Tree, directory, file, path_cmp, without_node}
use Rattle.block_quota.specs.Quota.{with_charge}
use Rattle.file_tree.specs.Entries.{IsConsistent, Place, TreeValue, in_directory, in_file, node_at, path_at, slot, without_file}
use Rattle.file_tree.proofs.Changes.{is_some, slot-within}
use Rattle.file_tree.proofs.Paths.{found_stands, sorted_nodes}
use Rattle.present_files.specs.Present.{changes_in, content_of, never_changed, size_in}
use Rattle.present_files.specs.declared.present.PresentSize.{PresentSize}
use Rattle.rig_core.specs.Outside.{Outside}
use Rattle.tree_region.specs.InStep.{data_at}
use Rattle.tree_state.specs.State.{IsState}
use Rattle.tree_state.specs.Stored.{durable_tree}
use Rattle.tree_state.specs.declared.state.TreeState.{TreeState}
use Rattle.store_model.specs.Stores.{IsSound, KeptFile, StoreValue, durable_node, durable_of, kept_at, nothing_kept, removed_store}
use Rattle.tree_store.specs.Answers.{removed_file}
use Rattle.tree_store.specs.Stored.{Holds, IsStored, names_of, row_of, start_of}
use Rattle.tree_store.specs.declared.store.TreeStore.{TreeStore}
use Rattle.tree_store.proofs.Naming.{with_state}
use Rattle.tree_store.proofs.Over.{over-lost}

gone : StoreValue → ℕ → Option (List Name) → StoreValue
gone v f None = v
gone v f (Some path) = removed_store v f path

-- the entry of a file's node
file-place : (a : Place) (g : ℕ) → file g ≡ node_at a → a ≡ in_file g
file-place (in_file h) g is = let same : g ≡ h = cc in ap in_file (sym same)
file-place (in_directory d) g is = absurd (let wrong : ◌≡◌ {A = Node ℕ} (file g) directory = is in cc)

each : (P : ℕ → Type 0) (f : ℕ) → P f → ((g : ℕ) → g ≢ f → P g) → (g : ℕ) → P g
each P f here there g = ⊎_elim (λ same. subst P (sym same) here) (λ other. there g other) (cases_eq g f)

no-bytes : (n : ℕ) (bytes : List ℕ) → n ≡ 0 → take n bytes ≡ []
no-bytes n bytes none = ap (λ (k : ℕ). take k bytes) none

module _ (v : StoreValue) (sound : IsSound v) (f : ℕ) (path : List Name) (there : slot v.tree.files f ≡ Some path) where
  abbrev now : StoreValue
  now = removed_store v f path

  low : f < length v.files
  low = let within = slot-within v.tree.files f (is_some there) in let long = sound.files in omega (arith, within, long)

  charged : f < length v.charges
  charged = let within = slot-within v.tree.files f (is_some there) in let long = sound.charges in omega (arith, within, long)

  kept-here : kept_at now f ≡ nothing_kept
  kept-here = get_or-set_same v.files f nothing_kept nothing_kept low

  kept-there : (g : ℕ) → g ≢ f → kept_at now g ≡ kept_at v g
  kept-there g other = get_or-set_other v.files f g nothing_kept nothing_kept other

  pub removed-is : removed_file v f ≡ now
  unfolding gone
  removed-is = ap (gone v f) there

  -- no other path has this entry
  other-file : (q : List Name) (g : ℕ) → q ≢ path → find path_cmp q v.tree.nodes ≡ Some (file g) → g ≢ f
  other-file q g differs found same =
      let s = found_stands v.tree.files v.tree.directories q (file g) (ap (find path_cmp q) (sym sound.names.nodes_are) ∙ found) in
      let here : slot v.tree.files g ≡ Some q = ap (path_at v.tree.files v.tree.directories) (sym (file-place s.place g s.node_is)) ∙ s.is in
      let both : ◌≡◌ {A = Option (List Name)} (Some q) (Some path) = sym here ∙ ap (slot v.tree.files) same ∙ there in
      differs (let e : q ≡ path = cc in e)

  others-stay : (q : List Name) (n : Node ℕ) → q ≢ path → find path_cmp q v.tree.nodes ≡ Some n → durable_node now n ≡ durable_node v n
  others-stay q directory differs found = refl
  others-stay q (file g) differs found = ap (λ (k : KeptFile). file k.durable) (kept-there g (other-file q g differs found))

  -- a cut leaves the tree before without the file
  pub removed-durable : durable_of now ≡ without_node (durable_of v) path
  removed-durable =
      over-lost (durable_node v) (durable_node now) path v.tree.nodes
      (subst (λ (nodes : Tree ℕ). T (is_sorted path_cmp nodes)) (sym sound.names.nodes_are) (sorted_nodes v.tree.files v.tree.directories)) others-stay

module _ (V : Type 0) (o e : Outside) (s : TreeStore) (t : TreeState) (before : IsStored V o s) (v : StoreValue) (holds : Holds V o s v) (f : FileNode) (path : List Name) (there : slot (names_of s).files f.0 ≡ Some path) where
  there-held : slot v.tree.files f.0 ≡ Some path
  there-held = ap (λ (names : TreeValue). slot names.files f.0) holds.names ∙ there

  abbrev next : StoreValue
  next = removed_store v f.0 path

  pub removed-file-tree : V → durable_of (removed_file v f.0) ≡ without_node (durable_tree (row_of s) (start_of s) o.view s.state) path
  removed-file-tree tells =
      ap durable_of (removed-is v holds.sound f.0 path there-held)
      ∙ removed-durable v holds.sound f.0 path there-held
      ∙ ap (λ (tree : Tree StoredFile). without_node tree path) (holds.durable tells)

  module _ (names : t.kept.tree ≡ without_file (names_of s) f.0 path) (consistent : IsConsistent t.kept.tree) (sizes : t.present.sizes.items ≡ slice_set s.state.present.sizes.items f.0 never_changed)
      (charges : t.charges ≡ with_charge s.state.charges f.0 0)
      (contents : V → (g : FileNode) → g.0 ≢ f.0 → content_of (data_at (row_of s) (start_of s) e.view) t.present g ≡ content_of (data_at (row_of s) (start_of s) o.view) s.state.present g)
      (state : IsState V (row_of s) (start_of s) e t)
      (durable : V → durable_tree (row_of s) (start_of s) e.view t ≡ without_node (durable_tree (row_of s) (start_of s) o.view s.state) path) where
    size-low : f.0 < length s.state.present.sizes.items
    size-low =
        let within = slot-within (names_of s).files f.0 (is_some there) in
        let rows = before.state.in_step.limits.files in
        let many = before.state.present.sizes_length in
        omega (arith, within, rows, many)

    entry-here : slice_index_or t.present.sizes.items f.0 never_changed ≡ never_changed
    entry-here = ap (λ (all : List PresentSize). slice_index_or all f.0 never_changed) sizes ∙ get_or-set_same s.state.present.sizes.items f.0 never_changed never_changed size-low

    entry-there : (g : ℕ) → g ≢ f.0 → slice_index_or t.present.sizes.items g never_changed ≡ slice_index_or s.state.present.sizes.items g never_changed
    entry-there g other = ap (λ (all : List PresentSize). slice_index_or all g never_changed) sizes ∙ get_or-set_other s.state.present.sizes.items f.0 g never_changed never_changed other

    kept-now : kept_at next f.0 ≡ nothing_kept
    kept-now = kept-here v holds.sound f.0 path there-held

    kept-other : (g : ℕ) → g ≢ f.0 → kept_at next g ≡ kept_at v g
    kept-other g other = kept-there v holds.sound f.0 path there-held g other

    names-are : next.tree ≡ t.kept.tree
    names-are = ap (λ (tree : TreeValue). without_file tree f.0 path) holds.names ∙ sym names

    charges-are : next.charges ≡ t.charges.by_file
    charges-are = ap (λ (all : List ℕ). slice_set all f.0 0) holds.charges ∙ sym (ap (λ c. c.by_file) charges)

    entry-unused : (g : ℕ) → g ≢ f.0 → slot next.tree.files g ≡ None → slot v.tree.files g ≡ None
    entry-unused g other none = sym (get_or-set_other v.tree.files f.0 g None None other) ∙ none

    unused-now : (g : ℕ) → slot next.tree.files g ≡ None → (kept_at next g ≡ nothing_kept) × (slice_index_or next.charges g 0 ≡ 0)
    unused-now = each (λ g. slot next.tree.files g ≡ None → (kept_at next g ≡ nothing_kept) × (slice_index_or next.charges g 0 ≡ 0)) f.0
        (λ none. (kept-now, get_or-set_same v.charges f.0 0 0 (charged v holds.sound f.0 path there-held)))
        (λ g other none. let was = holds.sound.unused g (entry-unused g other none) in (kept-other g other ∙ was.0, get_or-set_other v.charges f.0 g 0 0 other ∙ was.1))

    holds-removed : Holds V e (with_state s t) next
    holds-removed = record {
      sound = record {
        names = subst IsConsistent (sym names-are) consistent;
        files = length-set v.files f.0 nothing_kept ∙ holds.sound.files ∙ sym (length-set v.tree.files f.0 None);
        charges = length-set v.charges f.0 0 ∙ holds.sound.charges ∙ sym (length-set v.tree.files f.0 None);
        unused = unused-now;
        within_quota =
            let total : sum_by (λ blocks. blocks) next.charges ≡ sum_by (λ blocks. blocks) t.charges.by_file = ap (λ (all : List ℕ). sum_by (λ blocks. blocks) all) charges-are in
            let within = state.charged.total_within in
            let quota = holds.quota in
            omega (arith, total, within, quota);
      };
      names = names-are;
      sizes = each (λ g. length (kept_at next g).content ≡ size_in t.present.sizes.items g) f.0
          (ap (λ (k : KeptFile). length k.content) kept-now ∙ sym (ap (λ (p : PresentSize). p.size) entry-here))
          (λ g other. ap (λ (k : KeptFile). length k.content) (kept-other g other) ∙ holds.sizes g ∙ sym (ap (λ (p : PresentSize). p.size) (entry-there g other)));
      changes = each (λ g. (kept_at next g).changes ≡ changes_in t.present.sizes.items g) f.0
          (ap (λ (k : KeptFile). k.changes) kept-now ∙ sym (ap (λ (p : PresentSize). p.changes) entry-here))
          (λ g other. ap (λ (k : KeptFile). k.changes) (kept-other g other) ∙ holds.changes g ∙ sym (ap (λ (p : PresentSize). p.changes) (entry-there g other)));
      charges = charges-are;
      quota = holds.quota;
      contents = λ tells. each (λ g. (kept_at next g).content ≡ content_of (data_at (row_of s) (start_of s) e.view) t.present (record { 0 = g })) f.0
          (ap (λ (k : KeptFile). k.content) kept-now ∙ sym (no-bytes (size_in t.present.sizes.items f.0) _ (ap (λ (p : PresentSize). p.size) entry-here)))
          (λ g other. ap (λ (k : KeptFile). k.content) (kept-other g other) ∙ holds.contents tells g ∙ sym (contents tells (record { 0 = g }) other));
      durable = λ tells. ap durable_of (sym (removed-is v holds.sound f.0 path there-held)) ∙ removed-file-tree tells ∙ sym (durable tells);
    }

    pub holds-removed-file : Holds V e (with_state s t) (removed_file v f.0)
    holds-removed-file = subst (λ (w : StoreValue). Holds V e (with_state s t) w) (sym (removed-is v holds.sound f.0 path there-held)) holds-removed
