-- When a store stands for a tree of files: no store keeps the contents before the present one.
use Rattle.std.specs.Prelude.{◌≡◌, ℕ, List, ⊤}
use Rattle.std.specs.List.{AllZip}
use Rattle.apex_model.specs.Files.{File, change_count, charge}
use Rattle.apex_model.specs.Firsts.{first_file}
use Rattle.apex_model.specs.Trees.{Name, Node, directory, file, Tree, tree_charge}
use Rattle.store_model.specs.Stores.{KeptFile, StoreValue, kept_at, charge_at, total, IsSound}

-- what is kept of a file, and its charge
pub record IsFile (kept : KeptFile) (charged : ℕ) (f : File) : Type 0 where
  pub content : kept.content ≡ f.content
  pub changes : kept.changes ≡ change_count f
  pub charge : charged ≡ charge f
  -- a cut leaves the synchronised content, which is one that the definitions allow
  pub durable : kept.durable ≡ first_file f

-- an entry's number stands for the file of that entry
abbrev pub IsNode : StoreValue → Node ℕ → Node File → Type 0
IsNode v directory directory = ⊤
IsNode v directory (file f) = ⊥
IsNode v (file n) directory = ⊥
IsNode v (file n) (file f) = IsFile (kept_at v n) (charge_at v n) f

-- the same path, with what stands there
abbrev pub IsEntry : StoreValue → List Name × Node ℕ → List Name × Node File → Type 0
IsEntry v entry of_tree = (entry.0 ≡ of_tree.0) × IsNode v entry.1 of_tree.1

-- the same paths and directories, and of each file the present content, the change count and the charge
pub record IsTree (v : StoreValue) (tree : Tree File) : Type 0 where
  pub sound : IsSound v
  pub entries : AllZip (IsEntry v) v.tree.nodes tree
  pub charge : tree_charge tree ≡ total v.charges
