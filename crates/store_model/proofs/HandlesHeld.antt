-- Handles on an entry are the handles on its path.
use Rattle.std.proofs.Common.{◌≡◌, ◌≢◌, ℕ, zero, suc, ◌≤◌, Bool, true, false, List, [], ◌∷◌, length, refl, sym, ap, ◌∙◌, Option, Some, None, inl, inr, arith}
use Rattle.std.specs.Prelude.{◌==◌, ◌&&◌, option_and_then}
use Rattle.std.specs.List.{AllZip}
use Rattle.std.proofs.lemmas.Bool.{cases_eq, and_right}
use Rattle.std.proofs.lemmas.Bool.Decides.{nat_tests}
use Rattle.apex_types.specs.declared.fields.DirHandle.{DirHandle}
use Rattle.apex_types.specs.declared.fields.FileHandle.{FileHandle}
use Rattle.apex_types.specs.declared.numbers.DirNode.{DirNode}
use Rattle.apex_types.specs.declared.numbers.FileNode.{FileNode}
use Rattle.apex_model.specs.Files.{File}
use Rattle.apex_model.specs.FileSystem.{FileSystem, handles_in}
use Rattle.apex_model.specs.Handles.{Handles, is_path, leads_to, any_open, is_file_handle_to, is_directory_handle_to, is_writer_of, may_write}
use Rattle.apex_model.specs.Trees.{Name, Tree}
use Rattle.apex_model.proofs.Trees.{same_path}
use Rattle.file_tree.specs.Entries.{TreeValue, slot, way_of, no_entries, Place, in_file, in_directory, path_at, IsConsistent}
use Rattle.file_tree.proofs.Paths.{same_is}
use Rattle.file_tree.proofs.Ways.{not_some}
use Rattle.open_handles.specs.NodeHandles.{AllHandles, handles_of}
use Rattle.open_handles.specs.Nodes.{is_file, is_directory, holds_file, holds_directory, writes_file}
use Rattle.store_model.proofs.Handles.{each_place, any_open-map}
use Rattle.store_model.proofs.Systems.{handles-are}
use Rattle.store_model.specs.Standing.{IsTree}
use Rattle.store_model.specs.Stores.{StoreValue}
use Rattle.store_model.specs.Systems.{store_at, file_path, directory_path, opened_file, opened_directory, HoldsFile, HoldsDirectory, Stands}

-- ---- entries in use have different paths

no_path : (a : Place) (path : List Name) → path_at [] [] a ≢ Some path
no_path (in_file f) path e = not_some e
no_path (in_directory d) path e = not_some e

-- a tree without entries
pub consistent_empty : IsConsistent (no_entries 0 0)
consistent_empty = record {
  nodes_are = refl;
  distinct = λ a b path e f. absurd (no_path a path e);
  some = λ a path e. absurd (no_path a path e);
  few = λ a path e. absurd (no_path a path e);
  parent = λ a path e. absurd (no_path a path e);
  stored = λ f path e. absurd (no_path (in_file f) path e);
}

-- the names of each store are consistent
pub consistent_at : (stores : List StoreValue) (trees : List (Tree File)) → AllZip IsTree stores trees → (t : ℕ) → IsConsistent (store_at stores t).tree
consistent_at [] trees z t = consistent_empty
consistent_at (v ∷ stores) [] z t = absurd z
consistent_at (v ∷ stores) (tree ∷ trees) z zero = z.0.sound.names
consistent_at (v ∷ stores) (tree ∷ trees) z (suc t) = consistent_at stores trees z.1 t

-- a test that is true exactly where two numbers are the same is the test of numbers
same_test : (test : Bool) (a b : ℕ) → (a ≡ b → test ≡ true) → (test ≡ true → a ≡ b) → test ≡ (a == b)
same_test test a b from to = elim (cases_eq a b) [
  | inl same ↦ (let is : (a == b) ≡ true = grind (arith, nat_tests) in from same ∙ sym is)
  | inr differ ↦ (let is : (a == b) ≡ false = grind (arith, nat_tests) in not_true test (λ e. differ (to e)) ∙ sym is)
]
  where
    not_true : (b : Bool) → b ≢ true → b ≡ false
    not_true true n = absurd (n refl)
    not_true false n = refl

-- the paths of two files' entries are the same exactly where the entries are
file_same : (v : TreeValue) → IsConsistent v → (f g : ℕ) (names path : List Name) → slot v.files f ≡ Some names → slot v.files g ≡ Some path → is_path path names ≡ (g == f)
file_same v consistent f g names path at_f at_g = same_test (is_path path names) g f
    (λ same. let is : path ≡ names = (let e : ◌≡◌ {A = Option (List Name)} (Some path) (Some names) = sym at_g ∙ ap (slot v.files) same ∙ at_f in cc) in ap (λ (p : List Name). is_path p names) is ∙ same_is names)
    (λ tie. let is : in_file g ≡ in_file f = consistent.distinct (in_file g) (in_file f) names (at_g ∙ ap Some (same_path path names tie)) at_f in cc)

-- no two directories have the same path
pub way_of-distinct : (v : TreeValue) → IsConsistent v → (a b : ℕ) (path : List Name) → way_of v a ≡ Some path → way_of v b ≡ Some path → a ≡ b
way_of-distinct v consistent zero zero path at_a at_b = refl
way_of-distinct v consistent zero (suc b) path at_a at_b = absurd (let long : 1 ≤ length path = consistent.some (in_directory b) path at_b in let is : path ≡ [] = cc in let none : length path ≡ 0 = ap length is in omega arith)
way_of-distinct v consistent (suc a) zero path at_a at_b = absurd (let long : 1 ≤ length path = consistent.some (in_directory a) path at_a in let is : path ≡ [] = cc in let none : length path ≡ 0 = ap length is in omega arith)
way_of-distinct v consistent (suc a) (suc b) path at_a at_b =
    let is : in_directory a ≡ in_directory b = consistent.distinct (in_directory a) (in_directory b) path at_a at_b in
    let same : a ≡ b = cc in ap suc same

directory_same : (v : TreeValue) → IsConsistent v → (d g : ℕ) (names path : List Name) → way_of v d ≡ Some names → way_of v g ≡ Some path → is_path path names ≡ (g == d)
directory_same v consistent d g names path at_d at_g = same_test (is_path path names) g d
    (λ same. let is : path ≡ names = (let e : ◌≡◌ {A = Option (List Name)} (Some path) (Some names) = sym at_g ∙ ap (way_of v) same ∙ at_d in cc) in ap (λ (p : List Name). is_path p names) is ∙ same_is names)
    (λ tie. way_of-distinct v consistent g d names (at_g ∙ ap Some (same_path path names tie)) at_d)

-- ---- handles

and_under : (a b c : Bool) → (a ≡ true → b ≡ c) → (a && b) ≡ (a && c)
and_under true b c h = h refl
and_under false b c h = refl

module _ (stores : List StoreValue) (t : ℕ) (consistent : IsConsistent (store_at stores t).tree) where
  file_leads : (at : ℕ) (o : Option FileNode) (f : FileNode) (names : List Name) → file_path stores t f ≡ Some names → ((g : FileNode) → o ≡ Some g → (path : List Name) × (file_path stores at g ≡ Some path))
      → leads_to at (option_and_then (file_path stores at) o) t names ≡ ((at == t) && is_file o f)
  file_leads at None f names e holds = sym (and_right (at == t) false refl)
  file_leads at (Some g) f names e holds =
      let held = holds g refl in
      ap (λ (path : Option (List Name)). leads_to at path t names) held.1
      ∙ and_under (at == t) (is_path held.0 names) (g.0 == f.0) (λ same. let is : at ≡ t = grind (arith, nat_tests) in
      file_same (store_at stores t).tree consistent f.0 g.0 names held.0 e (ap (λ (u : ℕ). file_path stores u g) (sym is) ∙ held.1))

  directory_leads : (at : ℕ) (o : Option DirNode) (d : DirNode) (names : List Name) → directory_path stores t d ≡ Some names → ((g : DirNode) → o ≡ Some g → (path : List Name) × (directory_path stores at g ≡ Some path))
      → leads_to at (option_and_then (directory_path stores at) o) t names ≡ ((at == t) && is_directory o d)
  directory_leads at None d names e holds = sym (and_right (at == t) false refl)
  directory_leads at (Some g) d names e holds =
      let held = holds g refl in
      ap (λ (path : Option (List Name)). leads_to at path t names) held.1
      ∙ and_under (at == t) (is_path held.0 names) (g.0 == d.0) (λ same. let is : at ≡ t = grind (arith, nat_tests) in
      directory_same (store_at stores t).tree consistent d.0 g.0 names held.0 e (ap (λ (u : ℕ). directory_path stores u g) (sym is) ∙ held.1))

  -- a handle is on the path of an entry exactly where it holds the entry
  pub holds-file : (f : FileNode) (names : List Name) → file_path stores t f ≡ Some names → (h : FileHandle) → HoldsFile stores h → is_file_handle_to t names (opened_file stores h) ≡ holds_file t f h
  holds-file f names e h holds = file_leads h.tree h.file f names e holds

  pub holds-directory : (d : DirNode) (names : List Name) → directory_path stores t d ≡ Some names → (h : DirHandle) → HoldsDirectory stores h
      → is_directory_handle_to t names (opened_directory stores h) ≡ holds_directory t d h
  holds-directory d names e h holds = directory_leads h.tree h.directory d names e holds

  pub writes-file : (f : FileNode) (names : List Name) → file_path stores t f ≡ Some names → (h : FileHandle) → HoldsFile stores h → is_writer_of t names (opened_file stores h) ≡ writes_file t f h
  writes-file f names e h holds = ap (λ (b : Bool). may_write h.mode && b) (holds-file f names e h holds)

module _ (stores : List StoreValue) (handles : AllHandles) (fs : FileSystem) (s : Stands stores handles fs) (t : ℕ) where
  -- whether a partition has a handle on a file
  pub holds-same : (f : FileNode) (names : List Name) → file_path stores t f ≡ Some names → (p : ℕ)
      → any_open (is_file_handle_to t names) (handles_in fs p).files ≡ any_open (holds_file t f) (handles_of handles p).files
  holds-same f names e p =
      ap (λ (hs : Handles). any_open (is_file_handle_to t names) hs.files) (handles-are stores handles fs s p)
      ∙ any_open-map (opened_file stores) (is_file_handle_to t names) (holds_file t f) (handles_of handles p).files
      (each_place (λ (h : FileHandle). is_file_handle_to t names (opened_file stores h) ≡ holds_file t f h) (handles_of handles p).files
      (λ id h at. holds-file stores t (consistent_at stores fs.trees s.trees t) f names e h (s.files p id h at)))

  -- whether it has one that may write to it
  pub writes-same : (f : FileNode) (names : List Name) → file_path stores t f ≡ Some names → (p : ℕ)
      → any_open (is_writer_of t names) (handles_in fs p).files ≡ any_open (writes_file t f) (handles_of handles p).files
  writes-same f names e p =
      ap (λ (hs : Handles). any_open (is_writer_of t names) hs.files) (handles-are stores handles fs s p)
      ∙ any_open-map (opened_file stores) (is_writer_of t names) (writes_file t f) (handles_of handles p).files
      (each_place (λ (h : FileHandle). is_writer_of t names (opened_file stores h) ≡ writes_file t f h) (handles_of handles p).files
      (λ id h at. writes-file stores t (consistent_at stores fs.trees s.trees t) f names e h (s.files p id h at)))

  -- whether it has a handle on a directory
  pub holds_directory-same : (d : DirNode) (names : List Name) → directory_path stores t d ≡ Some names → (p : ℕ)
      → any_open (is_directory_handle_to t names) (handles_in fs p).directories ≡ any_open (holds_directory t d) (handles_of handles p).directories
  holds_directory-same d names e p =
      ap (λ (hs : Handles). any_open (is_directory_handle_to t names) hs.directories) (handles-are stores handles fs s p)
      ∙ any_open-map (opened_directory stores) (is_directory_handle_to t names) (holds_directory t d) (handles_of handles p).directories
      (each_place (λ (h : DirHandle). is_directory_handle_to t names (opened_directory stores h) ≡ holds_directory t d h) (handles_of handles p).directories
      (λ id h at. holds-directory stores t (consistent_at stores fs.trees s.trees t) d names e h (s.directories p id h at)))
