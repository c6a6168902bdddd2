-- What another name of a file makes of what a store holds.
use Rattle.std.proofs.Common.{◌≡◌, ℕ, List, [], ◌∷◌, sym, ap, subst, ◌∙◌, Option, Some, None, arith}
use Rattle.std.proofs.lemmas.List.{length-set}
use Rattle.std.specs.Prelude.{option_map}
use Rattle.std.specs.FinMap.Entries.{find}
use Rattle.apex_types.specs.declared.numbers.FileNode.{FileNode}
use Rattle.apex_model.specs.Durable.{StoredFile}
use Rattle.apex_model.specs.Trees.{Name, Node, Tree, file, path_cmp, standing_at, with_node, without_node}
use Rattle.file_tree.specs.Entries.{IsConsistent, TreeValue, in_file, path_in, slot, with_file_at}
use Rattle.file_tree.proofs.Paths.{at_found}
use Rattle.rig_core.specs.Outside.{Outside}
use Rattle.tree_state.proofs.Applies.{moved-kept}
use Rattle.tree_state.specs.Names.{durable_file}
use Rattle.tree_state.specs.Stored.{SameContents, durable_tree}
use Rattle.tree_state.specs.declared.state.TreeState.{TreeState}
use Rattle.store_model.specs.Stores.{IsSound, StoreValue, durable_node, durable_of, kept_at, with_names}
use Rattle.tree_store.specs.Answers.{renamed_file}
use Rattle.tree_store.specs.Stored.{Holds, names_of, row_of, start_of}
use Rattle.tree_store.specs.declared.store.TreeStore.{TreeStore}
use Rattle.tree_store.proofs.Named.{renamed-durable}
use Rattle.tree_store.proofs.Naming.{holds-named, with_state}
use Rattle.tree_store.proofs.Over.{find-over}

-- what a cut now leaves at the path of a file's entry
pub file-held : (v : StoreValue) → IsSound v → (f : ℕ) (path : List Name) → slot v.tree.files f ≡ Some path → standing_at (durable_of v) path ≡ Some (file (kept_at v f).durable)
file-held v sound f [] is = absurd (let some = sound.names.some (in_file f) [] is in omega (arith, some))
file-held v sound f (name ∷ names) is =
    find-over (durable_node v) (name ∷ names) v.tree.nodes
    ∙ ap (λ (nodes : Tree ℕ). option_map (durable_node v) (find path_cmp (name ∷ names) nodes)) sound.names.nodes_are
    ∙ ap (option_map (durable_node v)) (at_found v.tree.files v.tree.directories sound.names.distinct (in_file f) (name ∷ names) is)

same-file : (o : Option (Node StoredFile)) (a b : StoredFile) → o ≡ Some (file a) → o ≡ Some (file b) → a ≡ b
same-file o a b first second = let both : ◌≡◌ {A = Option (Node StoredFile)} (Some (file a)) (Some (file b)) = sym first ∙ second in cc

moved : StoreValue → TreeValue → ℕ → List Name → Option (List Name) → StoreValue
moved v names f to None = v
moved v names f to (Some from) = with_names v (with_file_at names f from to)

module _ (V : Type 0) (o : Outside) (s : TreeStore) (v : StoreValue) (holds : Holds V o s v) (f : FileNode) (parent : ℕ) (name : Name) (from : List Name) (there : slot (names_of s).files f.0 ≡ Some from) where
  there-held : slot v.tree.files f.0 ≡ Some from
  there-held = ap (λ (names : TreeValue). slot names.files f.0) holds.names ∙ there

  pub renamed-is : renamed_file v f.0 parent name ≡ with_names v (with_file_at v.tree f.0 from (path_in v.tree parent name))
  unfolding moved
  renamed-is = ap (moved v v.tree f.0 (path_in v.tree parent name)) there-held

  pub renamed-names : with_file_at (names_of s) f.0 from (path_in (names_of s) parent name) ≡ with_file_at v.tree f.0 from (path_in v.tree parent name)
  renamed-names = sym (ap (λ (names : TreeValue). with_file_at names f.0 from (path_in names parent name)) holds.names)

  module _ (stands : standing_at (durable_tree (row_of s) (start_of s) o.view s.state) from ≡ Some (file (durable_file (row_of s) (start_of s) o.view s.state f))) where
    durable-same : V → (kept_at v f.0).durable ≡ durable_file (row_of s) (start_of s) o.view s.state f
    durable-same tells = same-file (standing_at (durable_tree (row_of s) (start_of s) o.view s.state) from) (kept_at v f.0).durable (durable_file (row_of s) (start_of s) o.view s.state f)
        (sym (ap (λ (tree : Tree StoredFile). standing_at tree from) (holds.durable tells)) ∙ file-held v holds.sound f.0 from there-held) stands

    pub renamed-tree : V → durable_of (renamed_file v f.0 parent name)
        ≡ with_node (without_node (durable_tree (row_of s) (start_of s) o.view s.state) from) (path_in (names_of s) parent name) (file (durable_file (row_of s) (start_of s) o.view s.state f))
    renamed-tree tells =
        ap durable_of renamed-is
        ∙ renamed-durable v f.0 from (path_in v.tree parent name)
        ∙ (λ i. with_node (without_node (holds.durable tells i) from) (path_in (holds.names i) parent name) (file (durable-same tells i)))

    module _ (e : Outside) (t : TreeState) (names : t.kept.tree ≡ with_file_at (names_of s) f.0 from (path_in (names_of s) parent name)) (consistent : IsConsistent t.kept.tree)
        (present : t.present ≡ s.state.present) (charges : t.charges ≡ s.state.charges) (contents : V → SameContents (row_of s) (start_of s) o.view e.view s.state t)
        (durable : V → durable_tree (row_of s) (start_of s) e.view t
        ≡ with_node (without_node (durable_tree (row_of s) (start_of s) o.view s.state) from) (path_in (names_of s) parent name) (file (durable_file (row_of s) (start_of s) o.view s.state f))) where
      pub renamed-holds : Holds V e (with_state s t) (renamed_file v f.0 parent name)
      renamed-holds = subst (λ (w : StoreValue). Holds V e (with_state s t) w) (sym renamed-is)
          (holds-named V o e s t v holds (with_file_at v.tree f.0 from (path_in v.tree parent name)) (names ∙ renamed-names) consistent
          (length-set v.tree.files f.0 (Some (path_in v.tree parent name))) (moved-kept v.tree f.0 from (path_in v.tree parent name)).unused present charges contents
          (λ tells. ap durable_of (sym renamed-is) ∙ renamed-tree tells ∙ sym (durable tells)))
