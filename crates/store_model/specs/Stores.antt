-- What callers see of a tree's store: its names, and of each file the present content, how often it was changed, and its charge.
use Rattle.std.specs.Prelude.{◌≡◌, ℕ, ◌+◌, ◌≤◌, List, [], length, max, Option, Some, None, sum_by, nat_lt, ◌==◌, if◌then◌else◌, map, slice_set, slice_index_or}
use Rattle.apex_types.specs.declared.codes.Errno.{Errno}
use Rattle.apex_types.specs.declared.codes.Errno.TheVariants.{Efbig, Enospc, Eoverflow}
use Rattle.apex_model.specs.Durable.{StoredFile}
use Rattle.apex_model.specs.Files.{Content, blocks_of}
use Rattle.apex_model.specs.Trees.{Name, Node, directory, file, Tree}
use Rattle.file_tree.specs.Entries.{TreeValue, slot, no_entries, without_file, with_stored, IsConsistent}

-- what is kept of a file: its present content, how often it was changed, and what a cut now leaves of it
pub record KeptFile : Type 0 where
  pub content : Content
  pub changes : ℕ
  pub durable : StoredFile

-- what is kept at an entry that no file uses
abbrev pub nothing_kept : KeptFile
nothing_kept = record { content = []; changes = 0; durable = record { content = []; changes = 0 } }

-- the names of a tree, what is kept of the file of each entry, the blocks that it is charged for, and the blocks that all files together may be charged for
pub record StoreValue : Type 0 where
  pub tree : TreeValue
  pub files : List KeptFile
  pub charges : List ℕ
  pub quota : ℕ

-- what is kept of the file of an entry
abbrev pub kept_at : StoreValue → ℕ → KeptFile
kept_at v f = slice_index_or v.files f nothing_kept

-- the blocks that the file of an entry is charged for
abbrev pub charge_at : StoreValue → ℕ → ℕ
charge_at v f = slice_index_or v.charges f 0

-- the blocks of all files together
abbrev pub total : List ℕ → ℕ
total charges = sum_by (λ blocks. blocks) charges

-- a store with nothing in it
abbrev pub empty_store : ℕ → ℕ → ℕ → List KeptFile → List ℕ → StoreValue
empty_store files directories quota kept charges = record { tree = no_entries files directories; files = kept; charges = charges; quota = quota }

-- with other names
abbrev pub with_names : StoreValue → TreeValue → StoreValue
with_names v tree = record { tree = tree; files = v.files; charges = v.charges; quota = v.quota }

-- the charge of a file that gets a content of this size too: that of the largest since the last synchronisation
abbrev pub charge_with : StoreValue → ℕ → ℕ → ℕ
charge_with v f size = max (charge_at v f) (blocks_of size)

-- why a file can't get a content of this size, in the order of the reasons
abbrev pub change_refusal : StoreValue → ℕ → ℕ → Option Errno
change_refusal v f size =
    if nat_lt 1048576 size then Some Efbig
    else if nat_lt v.quota (total (slice_set v.charges f (charge_with v f size))) then Some Enospc
    else if (kept_at v f).changes == 4294967295 then Some Eoverflow
    else None

-- the file of an entry gets a content, as one change
abbrev pub changed_store : StoreValue → ℕ → Content → StoreValue
changed_store v f content = record {
  tree = v.tree;
  files = slice_set v.files f (record { content = content; changes = (kept_at v f).changes + 1; durable = (kept_at v f).durable });
  charges = slice_set v.charges f (charge_with v f (length content));
  quota = v.quota;
}

-- the present content of a file, with its change count, becomes what a cut leaves
abbrev pub synchronised_kept : KeptFile → KeptFile
synchronised_kept kept = record { content = kept.content; changes = kept.changes; durable = record { content = kept.content; changes = kept.changes } }

-- the file of an entry is synchronised: its present content is what a cut leaves, it is charged for that alone, and the
-- stored body has its size and change count
abbrev pub synchronised_store : StoreValue → ℕ → StoreValue
synchronised_store v f = record {
  tree = with_stored v.tree f (length (kept_at v f).content) (kept_at v f).changes;
  files = slice_set v.files f (synchronised_kept (kept_at v f));
  charges = slice_set v.charges f (blocks_of (length (kept_at v f).content));
  quota = v.quota;
}

-- the file of an entry, which stood at this path, is removed
abbrev pub removed_store : StoreValue → ℕ → List Name → StoreValue
removed_store v f path = record {
  tree = without_file v.tree f path;
  files = slice_set v.files f nothing_kept;
  charges = slice_set v.charges f 0;
  quota = v.quota;
}

-- what a cut now leaves of a node
abbrev pub durable_node : StoreValue → Node ℕ → Node StoredFile
durable_node v directory = directory
durable_node v (file f) = file (kept_at v f).durable

-- of an entry: its path, with what is durable there
abbrev pub durable_entry : StoreValue → List Name × Node ℕ → List Name × Node StoredFile
durable_entry v entry = (entry.0, durable_node v entry.1)

-- what a cut now leaves of the tree: its names, with what is durable of each file
abbrev pub durable_of : StoreValue → Tree StoredFile
durable_of v = map (durable_entry v) v.tree.nodes

-- what holds of every store
pub record IsSound (v : StoreValue) : Type 0 where
  pub names : IsConsistent v.tree
  pub files : length v.files ≡ length v.tree.files
  pub charges : length v.charges ≡ length v.tree.files
  -- nothing is kept at an unused entry, and nothing charged for it
  pub unused : (f : ℕ) → slot v.tree.files f ≡ None → (kept_at v f ≡ nothing_kept) × (charge_at v f ≡ 0)
  pub within_quota : total v.charges ≤ v.quota
