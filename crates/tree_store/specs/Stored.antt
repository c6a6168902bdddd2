-- A stored tree: when it is in step with a device, and which value it holds.
use Rattle.std.specs.Prelude.{◌≡◌, ◌⊎◌, ℕ, ◌+◌, ◌≤◌, ◌==◌, ◌&&◌, Bool, List, length, nat_lt}
use Rattle.apex_types.specs.declared.numbers.FileNode.{FileNode}
use Rattle.apex_types.specs.declared.rows.TreeRow.{TreeRow}
use Rattle.apex_model.specs.Durable.{StoredFile, loaded_tree}
use Rattle.apex_model.specs.Files.{Content}
use Rattle.apex_model.specs.Trees.{Tree}
use Rattle.apex_model.specs.Validity.{IsValidTree}
use Rattle.file_tree.specs.Entries.{TreeValue, IsConsistent}
pub use Rattle.file_tree.specs.Entries.{AreSpelled}
use Rattle.meta_journal.specs.Journal as journal
use Rattle.present_files.specs.Present.{size_in, changes_in, content_of, free_buffers}
use Rattle.rig_core.specs.Outside.{Outside}
use Rattle.tree_region.specs.InStep.{data_at}
use Rattle.tree_state.specs.State.{IsState}
use Rattle.tree_state.specs.Stored.{durable_tree}
use Rattle.store_model.specs.Betweens.{TreeSite, IsTreeAt, tree_long}
use Rattle.store_model.specs.Standing.{IsTree}
use Rattle.store_model.specs.Stores.{StoreValue, kept_at, durable_of, IsSound}
use Rattle.tree_store.specs.declared.store.TreeStore.{TreeStore}

-- ---- what is in memory

-- its row of the table, and the first byte of its region
abbrev pub row_of : TreeStore → TreeRow
row_of s = s.row

abbrev pub start_of : TreeStore → ℕ
start_of s = s.start

abbrev pub site_of : TreeStore → TreeSite
site_of s = (row_of s, start_of s)

-- the names, with the durable size and change count of each entry
abbrev pub names_of : TreeStore → TreeValue
names_of s = s.state.kept.tree

-- the present size of a file, how often it was changed, and the blocks that all files are charged for
abbrev pub size_at : TreeStore → ℕ → ℕ
size_at s f = size_in s.state.present.sizes.items f

abbrev pub changes_at : TreeStore → ℕ → ℕ
changes_at s f = changes_in s.state.present.sizes.items f

abbrev pub charges_of : TreeStore → List ℕ
charges_of s = s.state.charges.by_file

-- how many buffers there are: as many as the tree may have unwritten blocks
abbrev pub buffers_of : TreeStore → ℕ
buffers_of s = (row_of s).dirty

-- how many of them hold no block
abbrev pub free_of : TreeStore → ℕ
free_of s = free_buffers s.state.present

-- whether a change of names is one record of the journal
abbrev pub has_room : TreeStore → Bool
has_room s = (s.state.kept.version == 2) && nat_lt 0 (journal.room_of s.state.kept.journal)

-- ---- what is on the device

-- the present content of a file, and the durable tree, over the bytes that reads give
abbrev pub content_over : TreeStore → List ℕ → ℕ → Content
content_over s view f = content_of (data_at (row_of s) (start_of s) view) s.state.present (record { 0 = f })

abbrev pub durable_over : TreeStore → List ℕ → Tree StoredFile
durable_over s view = durable_tree (row_of s) (start_of s) view s.state

-- The store is in step with the device. What is said of the bytes that reads give stands where the rig tells them, in IsState.
pub record IsStored (tells_view : Type 0) (o : Outside) (s : TreeStore) : Type 0 where
  pub fits : start_of s + tree_long (site_of s) ≤ o.size
  -- a write has as many buffers as it may need
  pub buffers : 9 ≤ (row_of s).dirty
  pub names : IsConsistent (names_of s)
  pub spelled : AreSpelled (names_of s)
  pub state : IsState tells_view (row_of s) (start_of s) o s.state

-- The store holds this value: names, sizes, change counts and charges for every rig, and contents where the rig tells its view.
pub record Holds (tells_view : Type 0) (o : Outside) (s : TreeStore) (v : StoreValue) : Type 0 where
  pub sound : IsSound v
  pub names : v.tree ≡ names_of s
  pub sizes : (f : ℕ) → length (kept_at v f).content ≡ size_at s f
  pub changes : (f : ℕ) → (kept_at v f).changes ≡ changes_at s f
  pub charges : v.charges ≡ charges_of s
  pub quota : v.quota ≡ (row_of s).quota
  pub contents : tells_view → (f : ℕ) → (kept_at v f).content ≡ content_over s o.view f
  pub durable : tells_view → durable_of v ≡ durable_over s o.view

-- It holds a value that stands for the tree that a run starts from where this one is stored, a valid one; where the rig tells its
-- view, the region stands for what is stored.
pub record IsLoaded (tells_view : Type 0) (o : Outside) (s : TreeStore) (stored : Tree StoredFile) : Type 0 where
  pub value : StoreValue
  pub holds : Holds tells_view o s value
  pub stands : IsTree value (loaded_tree stored)
  pub valid : IsValidTree (row_of s) (loaded_tree stored)
  pub region : tells_view → IsTreeAt (site_of s) stored o.view

-- the region of an image stands for what a cut leaves of one value or of the other
abbrev pub IsBetween : TreeSite → StoreValue → StoreValue → List ℕ → Type 0
IsBetween site v w image = IsTreeAt site (durable_of v) image ⊎ IsTreeAt site (durable_of w) image
