-- What a synchronisation makes of what a store holds.
use Rattle.std.proofs.Common.{◌≡◌, ◌≢◌, inl, inr, ⊎_elim, ◌⊎◌, ℕ, ◌+◌, ◌<◌, ◌≤◌, T, List, [], ◌∷◌, length, refl, sym, ap, subst, ◌∙◌, Option, Some, None, arith}
use Rattle.std.proofs.lemmas.Bool.{cases_eq}
use Rattle.std.proofs.lemmas.List.{get_or-set_same, get_or-set_other, length-set}
use Rattle.std.specs.FinMap.Entries.{find, is_sorted}
use Rattle.std.specs.Prelude.{slice_set, slice_index_or, map, sum_by}
use Rattle.apex_types.specs.declared.numbers.FileNode.{FileNode}
use Rattle.apex_model.specs.Durable.{StoredFile}
use Rattle.apex_model.specs.Files.{Content, blocks_of}
use Rattle.apex_model.specs.Trees.{Name, Node, directory, file, Tree, path_cmp, with_node}
use Rattle.block_quota.specs.Quota.{with_charge}
use Rattle.file_tree.specs.Entries.{TreeValue, slot, with_stored, Place, in_file, in_directory, node_at, path_at, IsConsistent}
use Rattle.file_tree.proofs.Changes.{is_some, slot-within}
use Rattle.file_tree.proofs.Paths.{sorted_nodes, found_stands, at_found}
use Rattle.file_tree.proofs.Ways.{not_some}
use Rattle.present_files.specs.Present.{size_of, changes_of, size_in, changes_in}
use Rattle.rig_core.specs.Leaves.{Leaves}
use Rattle.rig_core.specs.Outside.{Outside}
use Rattle.rig_core.proofs.Moments.{leaves_weaker}
use Rattle.tree_state.specs.State.{IsState}
use Rattle.tree_state.specs.Stored.{IsTreeOf, SameContents, durable_tree, present_file, synchronised_tree}
use Rattle.tree_state.specs.declared.state.TreeState.{TreeState}
use Rattle.store_model.specs.Stores.{KeptFile, StoreValue, nothing_kept, kept_at, charge_at, total, durable_node, durable_of, synchronised_kept, synchronised_store, IsSound}
use Rattle.tree_store.specs.Answers.{Passes}
use Rattle.tree_store.specs.Stored.{row_of, start_of, site_of, names_of, IsStored, Holds, IsBetween}
use Rattle.tree_store.specs.declared.store.TreeStore.{TreeStore}
use Rattle.tree_store.proofs.Mapped.{mapped-with}

-- the entry of a file's node
file-place : (a : Place) (f : ℕ) → node_at a ≡ file f → a ≡ in_file f
file-place (in_file g) f is = let same : g ≡ f = cc in ap in_file same
file-place (in_directory d) f is = absurd (let wrong : ◌≡◌ {A = Node ℕ} directory (file f) = is in cc)

module _ (v : StoreValue) (sound : IsSound v) (f : ℕ) (path : List Name) (there : slot v.tree.files f ≡ Some path) where
  abbrev now : StoreValue
  now = synchronised_store v f

  low : f < length v.files
  low = let within = slot-within v.tree.files f (is_some there) in let long = sound.files in omega (arith, within, long)

  kept-here : kept_at now f ≡ synchronised_kept (kept_at v f)
  kept-here = get_or-set_same v.files f (synchronised_kept (kept_at v f)) nothing_kept low

  kept-there : (g : ℕ) → g ≢ f → kept_at now g ≡ kept_at v g
  kept-there g other = get_or-set_other v.files f g (synchronised_kept (kept_at v f)) nothing_kept other

  pub content-kept : (g : ℕ) → (kept_at now g).content ≡ (kept_at v g).content
  content-kept g = ⊎_elim (λ same. ap (λ (n : ℕ). (kept_at now n).content) same ∙ ap (λ (k : KeptFile). k.content) kept-here ∙ ap (λ (n : ℕ). (kept_at v n).content) (sym same))
      (λ other. ap (λ (k : KeptFile). k.content) (kept-there g other)) (cases_eq g f)

  pub changes-kept : (g : ℕ) → (kept_at now g).changes ≡ (kept_at v g).changes
  changes-kept g = ⊎_elim (λ same. ap (λ (n : ℕ). (kept_at now n).changes) same ∙ ap (λ (k : KeptFile). k.changes) kept-here ∙ ap (λ (n : ℕ). (kept_at v n).changes) (sym same))
      (λ other. ap (λ (k : KeptFile). k.changes) (kept-there g other)) (cases_eq g f)

  found-file : find path_cmp path v.tree.nodes ≡ Some (file f)
  found-file = ap (find path_cmp path) sound.names.nodes_are ∙ at_found v.tree.files v.tree.directories sound.names.distinct (in_file f) path there

  not-file : (q : List Name) (m : Node ℕ) → find path_cmp q v.tree.nodes ≡ Some m → q ≢ path → m ≢ file f
  not-file q m found differs same =
      let s = found_stands v.tree.files v.tree.directories q m (ap (find path_cmp q) (sym sound.names.nodes_are) ∙ found) in
      let place : s.place ≡ in_file f = file-place s.place f (sym s.node_is ∙ same) in
      let both : ◌≡◌ {A = Option (List Name)} (Some q) (Some path) = sym s.is ∙ ap (path_at v.tree.files v.tree.directories) place ∙ there in
      let wrong : q ≡ path = cc in
      differs wrong

  other-node : (m : Node ℕ) → m ≢ file f → durable_node now m ≡ durable_node v m
  other-node directory differs = refl
  other-node (file g) differs = ap (λ (k : KeptFile). file k.durable) (kept-there g (λ same. differs (ap file same)))

  -- a cut leaves the tree before with the file's present content at its path
  pub durable-synchronised : durable_of now ≡ with_node (durable_of v) path (file (record { content = (kept_at v f).content; changes = (kept_at v f).changes }))
  durable-synchronised =
      mapped-with (durable_node v) (durable_node now) v.tree.nodes path (file f)
      (subst (λ (nodes : Tree ℕ). T (is_sorted path_cmp nodes)) (sym sound.names.nodes_are) (sorted_nodes v.tree.files v.tree.directories)) found-file
      (λ q m found differs. other-node m (not-file q m found differs))
      ∙ ap (λ (k : KeptFile). with_node (durable_of v) path (file k.durable)) kept-here

module _ (V : Type 0) (o e : Outside) (s : TreeStore) (t : TreeState) (before : IsStored V o s) (v : StoreValue) (holds : Holds V o s v) (f : FileNode) (path : List Name) (there : slot (names_of s).files f.0 ≡ Some path) where
  there-held : slot v.tree.files f.0 ≡ Some path
  there-held = ap (λ (tree : TreeValue). slot tree.files f.0) holds.names ∙ there

  -- the tree that the clauses of a synchronisation name
  pub tree-named : V → durable_of (synchronised_store v f.0) ≡ synchronised_tree (row_of s) (start_of s) o.view s.state f path
  tree-named tells = durable-synchronised v holds.sound f.0 path there-held
      ∙ ap (λ (tree : Tree StoredFile). with_node tree path (file (record { content = (kept_at v f.0).content; changes = (kept_at v f.0).changes }))) (holds.durable tells)
      ∙ ap (λ (content : Content). with_node (durable_tree (row_of s) (start_of s) o.view s.state) path (file (record { content = content; changes = (kept_at v f.0).changes }))) (holds.contents tells f.0)
      ∙ ap (λ (n : ℕ). with_node (durable_tree (row_of s) (start_of s) o.view s.state) path (file (record { content = (present_file (row_of s) (start_of s) o.view s.state f).content; changes = n }))) (holds.changes f.0)

  abbrev after : TreeStore
  after = record { row = s.row; start = s.start; state = t }

  abbrev Either : List ℕ → Type 0
  Either image = IsTreeOf (row_of s) (start_of s) (durable_tree (row_of s) (start_of s) o.view s.state) image ⊎ IsTreeOf (row_of s) (start_of s) (synchronised_tree (row_of s) (start_of s) o.view s.state f path) image

  named : V → (image : List ℕ) → Either image → IsBetween (site_of s) v (synchronised_store v f.0) image
  named tells image has = ⊎_elim
      (λ old. inl (old ∙ ap (λ (t : Tree StoredFile). Some t) (sym (holds.durable tells))))
      (λ new. inr (new ∙ ap (λ (t : Tree StoredFile). Some t) (sym (tree-named tells)))) has

  -- the trees that the region passes
  pub passes-synchronised : (V → Leaves Either o e) → (V → Either e.view) → Passes V s v (synchronised_store v f.0) o e
  passes-synchronised any_moment shown = record {
    any_moment = λ tells. leaves_weaker Either (IsBetween (site_of s) v (synchronised_store v f.0)) o e (λ image has. named tells image has) (any_moment tells);
    shown = λ tells. named tells e.view (shown tells);
  }

  module _ (names : IsConsistent (names_of after)) (state : IsState V (row_of s) (start_of s) e t)
      (tree : names_of after ≡ with_stored (names_of s) f.0 (size_of s.state.present f) (changes_of s.state.present f)) (sizes : t.present.sizes ≡ s.state.present.sizes)
      (charges : t.charges ≡ with_charge s.state.charges f.0 (blocks_of (size_of s.state.present f)))
      (contents : V → SameContents (row_of s) (start_of s) o.view e.view s.state t) (durable : V → durable_tree (row_of s) (start_of s) e.view t ≡ synchronised_tree (row_of s) (start_of s) o.view s.state f path) where
    abbrev next : StoreValue
    next = synchronised_store v f.0

    names-are : next.tree ≡ names_of after
    names-are = ap (λ (tree : TreeValue). with_stored tree f.0 (length (kept_at v f.0).content) (kept_at v f.0).changes) holds.names
        ∙ ap (λ (n : ℕ). with_stored (names_of s) f.0 n (kept_at v f.0).changes) (holds.sizes f.0)
        ∙ ap (λ (n : ℕ). with_stored (names_of s) f.0 (size_of s.state.present f) n) (holds.changes f.0) ∙ sym tree

    charges-are : next.charges ≡ t.charges.by_file
    charges-are = ap (λ (charges : List ℕ). slice_set charges f.0 (blocks_of (length (kept_at v f.0).content))) holds.charges
        ∙ ap (λ (n : ℕ). slice_set s.state.charges.by_file f.0 (blocks_of n)) (holds.sizes f.0) ∙ sym (ap (λ charges. charges.by_file) charges)

    pub holds-synchronised : Holds V e after next
    holds-synchronised = record {
      sound = record {
        names = subst IsConsistent (sym names-are) names;
        files = length-set v.files f.0 _ ∙ holds.sound.files;
        charges = length-set v.charges f.0 _ ∙ holds.sound.charges;
        unused = λ g none.
            let other : g ≢ f.0 = λ same. not_some (sym none ∙ ap (slot v.tree.files) same ∙ there-held) in
            let was = holds.sound.unused g none in
            (kept-there v holds.sound f.0 path there-held g other ∙ was.0, get_or-set_other v.charges f.0 g _ 0 other ∙ was.1);
        within_quota =
            let total : sum_by (λ blocks. blocks) next.charges ≡ sum_by (λ blocks. blocks) t.charges.by_file = ap (λ (charges : List ℕ). sum_by (λ blocks. blocks) charges) charges-are in
            let within = state.charged.total_within in
            let quota = holds.quota in
            omega (arith, total, within, quota);
      };
      names = names-are;
      sizes = λ g. ap length (content-kept v holds.sound f.0 path there-held g) ∙ holds.sizes g ∙ sym (ap (λ sizes. size_in sizes.items g) sizes);
      changes = λ g. changes-kept v holds.sound f.0 path there-held g ∙ holds.changes g ∙ sym (ap (λ sizes. changes_in sizes.items g) sizes);
      charges = charges-are;
      quota = holds.quota;
      contents = λ tells g. content-kept v holds.sound f.0 path there-held g ∙ holds.contents tells g ∙ sym (contents tells (record { 0 = g }));
      durable = λ tells. tree-named tells ∙ sym (durable tells);
    }
