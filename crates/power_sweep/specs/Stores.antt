-- The files of a mounted tree.
use Rattle.std.specs.Prelude.{ℕ}
use Rattle.apex_model.specs.Trees.{file_count}
use Rattle.tree_store.specs.Stored.{names_of}
use Rattle.tree_store.specs.declared.store.TreeStore.{TreeStore}

-- how many files a mounted tree has
abbrev pub files_in : TreeStore → ℕ
files_in store = file_count (names_of store).nodes
