-- What changes of names make of what a cut leaves of a value.
use Rattle.std.proofs.Common.{◌≡◌, ℕ, List, [], ap, ◌∙◌, None}
use Rattle.apex_model.specs.Durable.{StoredFile}
use Rattle.apex_model.specs.Trees.{Name, directory, file, Tree, with_node, without_node}
use Rattle.file_tree.specs.Entries.{slot, with_file, with_directory, without_directory, with_file_at}
use Rattle.store_model.specs.Stores.{KeptFile, StoreValue, kept_at, durable_node, durable_of, with_names, IsSound}
use Rattle.tree_store.proofs.Over.{over-put, over-without}

-- a file that was never written
abbrev empty_file : StoredFile
empty_file = record { content = []; changes = 0 }

-- a new file
pub made-durable : (v : StoreValue) → IsSound v → (f : ℕ) (path : List Name) → slot v.tree.files f ≡ None → durable_of (with_names v (with_file v.tree f path)) ≡ with_node (durable_of v) path (file empty_file)
made-durable v sound f path free = over-put (durable_node v) path (file f) v.tree.nodes
    ∙ ap (λ (k : KeptFile). with_node (durable_of v) path (file k.durable)) ((sound.unused f free).0)

-- a new directory, and one less
pub made_directory-durable : (v : StoreValue) (d : ℕ) (path : List Name) → durable_of (with_names v (with_directory v.tree d path)) ≡ with_node (durable_of v) path directory
made_directory-durable v d path = over-put (durable_node v) path directory v.tree.nodes

pub removed_directory-durable : (v : StoreValue) (d : ℕ) (path : List Name) → durable_of (with_names v (without_directory v.tree d path)) ≡ without_node (durable_of v) path
removed_directory-durable v d path = over-without (durable_node v) path v.tree.nodes

-- another name
pub renamed-durable : (v : StoreValue) (f : ℕ) (from to : List Name) → durable_of (with_names v (with_file_at v.tree f from to)) ≡ with_node (without_node (durable_of v) from) to (file (kept_at v f).durable)
renamed-durable v f from to = over-put (durable_node v) to (file f) (without_node v.tree.nodes from)
    ∙ ap (λ (tree : Tree StoredFile). with_node tree to (file (kept_at v f).durable)) (over-without (durable_node v) from v.tree.nodes)
