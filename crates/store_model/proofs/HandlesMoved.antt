-- Handles after their entry got another path, or none.
use Rattle.std.proofs.Common.{◌≡◌, ℕ, Bool, true, false, List, refl, sym, ap, ◌∙◌, Option, Some, None, arith}
use Rattle.std.specs.Prelude.{◌==◌, ◌&&◌, if◌then◌else◌, option_and_then}
use Rattle.std.proofs.lemmas.Bool.{and_right, and_parts}
use Rattle.std.proofs.lemmas.Bool.Decides.{nat_tests}
use Rattle.apex_types.specs.declared.fields.DirHandle.{DirHandle}
use Rattle.apex_types.specs.declared.fields.FileHandle.{FileHandle}
use Rattle.apex_types.specs.declared.numbers.DirNode.{DirNode}
use Rattle.apex_types.specs.declared.numbers.FileNode.{FileNode}
use Rattle.apex_model.specs.Handles.{OpenedFile, OpenedDirectory, file_moved, directory_gone}
use Rattle.apex_model.specs.Trees.{Name}
use Rattle.file_tree.specs.Entries.{slot, IsConsistent}
use Rattle.file_tree.proofs.Ways.{not_some}
use Rattle.open_handles.specs.Nodes.{is_file, is_directory, holds_file, holds_directory, without_file, without_directory}
use Rattle.store_model.proofs.HandlesHeld.{holds-file, holds-directory}
use Rattle.store_model.specs.Stores.{StoreValue}
use Rattle.store_model.specs.Systems.{store_at, file_path, directory_path, opened_file, opened_directory, HoldsFile, HoldsDirectory}

-- ---- files

module _ (stores new : List StoreValue) (t : ℕ) (f : FileNode) (names : List Name) (consistent : IsConsistent (store_at stores t).tree) (at : file_path stores t f ≡ Some names)
    (elsewhere : (u : ℕ) (g : FileNode) → ((u == t) && (g.0 == f.0)) ≡ false → file_path new u g ≡ file_path stores u g) where
  path_elsewhere : (u : ℕ) (o : Option FileNode) → ((u == t) && is_file o f) ≡ false → option_and_then (file_path new u) o ≡ option_and_then (file_path stores u) o
  path_elsewhere u None e = refl
  path_elsewhere u (Some g) e = elsewhere u g e

  -- a handle that does not hold the entry
  pub file-elsewhere : (h : FileHandle) → holds_file t f h ≡ false → opened_file new h ≡ opened_file stores h
  file-elsewhere h e = λ i. record { tree = h.tree; path = path_elsewhere h.tree h.file e i; mode = h.mode; position = h.position }

  pub file_held-elsewhere : (h : FileHandle) → holds_file t f h ≡ false → HoldsFile stores h → HoldsFile new h
  file_held-elsewhere h e holds g is =
      let held = holds g is in
      (held.0, elsewhere h.tree g (ap (λ (o : Option FileNode). (h.tree == t) && is_file o f) (sym is) ∙ e) ∙ held.1)

  -- the file of the entry was removed
  pub file-gone : (h : FileHandle) → HoldsFile stores h → file_moved t names None (opened_file stores h) ≡ opened_file new (without_file t f h)
  file-gone h holds =
      let stale : FileHandle = record { tree = h.tree; file = None; mode = h.mode; position = h.position } in
      let gone : OpenedFile = record { tree = h.tree; path = None; mode = h.mode; position = h.position } in
      ap (λ (b : Bool). if b then gone else opened_file stores h) (holds-file stores t consistent f names at h holds)
      ∙ (elim (holds_file t f h) as (λ b. holds_file t f h ≡ b → (if b then gone else opened_file stores h) ≡ opened_file new (if b then stale else h)) [
        | true ↦ λ e. refl
        | false ↦ λ e. sym (file-elsewhere h e)
      ]) refl

  pub file_held-gone : (h : FileHandle) → HoldsFile stores h → HoldsFile new (without_file t f h)
  file_held-gone h holds =
      let stale : FileHandle = record { tree = h.tree; file = None; mode = h.mode; position = h.position } in
      (elim (holds_file t f h) as (λ b. holds_file t f h ≡ b → HoldsFile new (if b then stale else h)) [
        | true ↦ λ e g is. absurd (not_some is)
        | false ↦ λ e. file_held-elsewhere h e holds
      ]) refl

  -- ---- the file of the entry stands at another path

  module _ (to : List Name) (there : file_path new t f ≡ Some to) where
    node_here : (u : ℕ) (g : FileNode) → ((u == t) && (g.0 == f.0)) ≡ true → file_path new u g ≡ Some to
    node_here u g e =
        let parts = and_parts (u == t) (g.0 == f.0) e in
        let of_tree : (u == t) ≡ true = parts.0 in
        let of_node : (g.0 == f.0) ≡ true = parts.1 in
        let tree : u ≡ t = grind (arith, nat_tests) in
        let node : g.0 ≡ f.0 = grind (arith, nat_tests) in
        (λ i. slot (store_at new (tree i)).tree.files (node i)) ∙ there

    path_here : (u : ℕ) (o : Option FileNode) → ((u == t) && is_file o f) ≡ true → option_and_then (file_path new u) o ≡ Some to
    path_here u None e = absurd (let none : ((u == t) && false) ≡ false = and_right (u == t) false refl in let w : false ≡ true = sym none ∙ e in cc)
    path_here u (Some g) e = node_here u g e

    pub file-renamed : (h : FileHandle) → HoldsFile stores h → file_moved t names (Some to) (opened_file stores h) ≡ opened_file new h
    file-renamed h holds =
        let moved : OpenedFile = record { tree = h.tree; path = Some to; mode = h.mode; position = h.position } in
        ap (λ (b : Bool). if b then moved else opened_file stores h) (holds-file stores t consistent f names at h holds)
        ∙ (elim (holds_file t f h) as (λ b. holds_file t f h ≡ b → (if b then moved else opened_file stores h) ≡ opened_file new h) [
          | true ↦ λ e i. record { tree = h.tree; path = sym (path_here h.tree h.file e) i; mode = h.mode; position = h.position }
          | false ↦ λ e. sym (file-elsewhere h e)
        ]) refl

    pub file_held-renamed : (h : FileHandle) → HoldsFile stores h → HoldsFile new h
    file_held-renamed h holds g is =
        (elim (holds_file t f h) as (λ b. holds_file t f h ≡ b → (path : List Name) × (file_path new h.tree g ≡ Some path)) [
          | true ↦ λ e. (to, node_here h.tree g (ap (λ (o : Option FileNode). (h.tree == t) && is_file o f) (sym is) ∙ e))
          | false ↦ λ e. file_held-elsewhere h e holds g is
        ]) refl

-- ---- directories

module _ (stores new : List StoreValue) (t : ℕ) (d : DirNode) (names : List Name) (consistent : IsConsistent (store_at stores t).tree) (at : directory_path stores t d ≡ Some names)
    (elsewhere : (u : ℕ) (g : DirNode) → ((u == t) && (g.0 == d.0)) ≡ false → directory_path new u g ≡ directory_path stores u g) where
  way_elsewhere : (u : ℕ) (o : Option DirNode) → ((u == t) && is_directory o d) ≡ false → option_and_then (directory_path new u) o ≡ option_and_then (directory_path stores u) o
  way_elsewhere u None e = refl
  way_elsewhere u (Some g) e = elsewhere u g e

  pub directory-elsewhere : (h : DirHandle) → holds_directory t d h ≡ false → opened_directory new h ≡ opened_directory stores h
  directory-elsewhere h e = λ i. record { tree = h.tree; path = way_elsewhere h.tree h.directory e i; last = h.last }

  pub directory_held-elsewhere : (h : DirHandle) → holds_directory t d h ≡ false → HoldsDirectory stores h → HoldsDirectory new h
  directory_held-elsewhere h e holds g is =
      let held = holds g is in
      (held.0, elsewhere h.tree g (ap (λ (o : Option DirNode). (h.tree == t) && is_directory o d) (sym is) ∙ e) ∙ held.1)

  -- the directory of the entry was removed
  pub directory-gone : (h : DirHandle) → HoldsDirectory stores h → directory_gone t names (opened_directory stores h) ≡ opened_directory new (without_directory t d h)
  directory-gone h holds =
      let stale : DirHandle = record { tree = h.tree; directory = None; last = h.last } in
      let gone : OpenedDirectory = record { tree = h.tree; path = None; last = h.last } in
      ap (λ (b : Bool). if b then gone else opened_directory stores h) (holds-directory stores t consistent d names at h holds)
      ∙ (elim (holds_directory t d h) as (λ b. holds_directory t d h ≡ b → (if b then gone else opened_directory stores h) ≡ opened_directory new (if b then stale else h)) [
        | true ↦ λ e. refl
        | false ↦ λ e. sym (directory-elsewhere h e)
      ]) refl

  pub directory_held-gone : (h : DirHandle) → HoldsDirectory stores h → HoldsDirectory new (without_directory t d h)
  directory_held-gone h holds =
      let stale : DirHandle = record { tree = h.tree; directory = None; last = h.last } in
      (elim (holds_directory t d h) as (λ b. holds_directory t d h ≡ b → HoldsDirectory new (if b then stale else h)) [
        | true ↦ λ e g is. absurd (not_some is)
        | false ↦ λ e. directory_held-elsewhere h e holds
      ]) refl
