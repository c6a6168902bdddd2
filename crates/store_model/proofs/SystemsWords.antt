-- The words of the services about handles, where stores and handles stand for the file system.
use Rattle.std.proofs.Common.{◌≡◌, ℕ, List, ap, ◌∙◌, Option, Some, None}
use Rattle.apex_types.specs.declared.codes.Errno.TheVariants.{Ebadf, Estale, Emfile}
use Rattle.apex_types.specs.declared.fields.DirHandle.{DirHandle}
use Rattle.apex_types.specs.declared.fields.FileHandle.{FileHandle}
use Rattle.apex_model.specs.Files.{File}
use Rattle.apex_model.specs.FileSystem.{FileSystem, tree_in, file_of, given, on_file_handle, on_file, on_directory_handle, on_directory, on_free_file, on_free_directory}
use Rattle.apex_model.specs.Handles.{OpenedFile, OpenedDirectory, handle_at, least_free}
use Rattle.apex_model.specs.Outcomes.{Outcome, refuse}
use Rattle.apex_model.specs.Trees.{Name, Node, file, standing_at}
use Rattle.open_handles.specs.NodeHandles.{AllHandles, handles_of}
use Rattle.store_model.proofs.Systems.{handle-there, handle-absent, directory_handle-there, directory_handle-absent, least-same, least_directory-same}
use Rattle.store_model.proofs.SystemsHeld.{stale-file, stale-directory}
use Rattle.store_model.specs.Stores.{StoreValue}
use Rattle.store_model.specs.Systems.{opened_file, opened_directory, Stands}

module _ {S : Type 0} (stores : List StoreValue) (handles : AllHandles) (fs : FileSystem) (s : Stands stores handles fs) where
  -- ---- files

  -- a number that is open
  pub on_file_handle-there : (p id : ℕ) (h : FileHandle) (rest : OpenedFile → Outcome S) → handle_at (handles_of handles p).files id ≡ Some h → on_file_handle fs p id rest ≡ rest (opened_file stores h)
  on_file_handle-there p id h rest e = ap (λ (o : Option OpenedFile). given o Ebadf rest) (handle-there stores handles fs s p id h e)

  -- one that is not
  pub on_file_handle-absent : (p id : ℕ) (rest : OpenedFile → Outcome S) → handle_at (handles_of handles p).files id ≡ None → on_file_handle fs p id rest ≡ refuse Ebadf
  on_file_handle-absent p id rest e = ap (λ (o : Option OpenedFile). given o Ebadf rest) (handle-absent stores handles fs s p id e)

  -- a stale handle
  pub on_file-stale : (h : FileHandle) (rest : List Name → File → Outcome S) → h.file ≡ None → on_file fs (opened_file stores h) rest ≡ refuse Estale
  on_file-stale h rest e =
      ap (λ (path : Option (List Name)). given path Estale (λ names. given (file_of (standing_at (tree_in fs h.tree) names)) Estale (rest names))) (stale-file stores h e)

  -- one that holds a file
  pub on_file-there : (h : FileHandle) (names : List Name) (g : File) (rest : List Name → File → Outcome S) → (opened_file stores h).path ≡ Some names → standing_at (tree_in fs h.tree) names ≡ Some (file g)
      → on_file fs (opened_file stores h) rest ≡ rest names g
  on_file-there h names g rest path stands =
      ap (λ (o : Option (List Name)). given o Estale (λ names. given (file_of (standing_at (tree_in fs h.tree) names)) Estale (rest names))) path
      ∙ ap (λ (node : Option (Node File)). given (file_of node) Estale (rest names)) stands

  pub on_free_file-found : (p id : ℕ) (rest : ℕ → Outcome S) → least_free (handles_of handles p).files ≡ Some id → on_free_file fs p rest ≡ rest id
  on_free_file-found p id rest e = ap (λ (o : Option ℕ). given o Emfile rest) (least-same stores handles fs s p ∙ e)

  pub on_free_file-none : (p : ℕ) (rest : ℕ → Outcome S) → least_free (handles_of handles p).files ≡ None → on_free_file fs p rest ≡ refuse Emfile
  on_free_file-none p rest e = ap (λ (o : Option ℕ). given o Emfile rest) (least-same stores handles fs s p ∙ e)

  -- ---- directories

  pub on_directory_handle-there : (p id : ℕ) (h : DirHandle) (rest : OpenedDirectory → Outcome S) → handle_at (handles_of handles p).directories id ≡ Some h
      → on_directory_handle fs p id rest ≡ rest (opened_directory stores h)
  on_directory_handle-there p id h rest e = ap (λ (o : Option OpenedDirectory). given o Ebadf rest) (directory_handle-there stores handles fs s p id h e)

  pub on_directory_handle-absent : (p id : ℕ) (rest : OpenedDirectory → Outcome S) → handle_at (handles_of handles p).directories id ≡ None → on_directory_handle fs p id rest ≡ refuse Ebadf
  on_directory_handle-absent p id rest e = ap (λ (o : Option OpenedDirectory). given o Ebadf rest) (directory_handle-absent stores handles fs s p id e)

  pub on_free_directory-found : (p id : ℕ) (rest : ℕ → Outcome S) → least_free (handles_of handles p).directories ≡ Some id → on_free_directory fs p rest ≡ rest id
  on_free_directory-found p id rest e = ap (λ (o : Option ℕ). given o Emfile rest) (least_directory-same stores handles fs s p ∙ e)

  pub on_free_directory-none : (p : ℕ) (rest : ℕ → Outcome S) → least_free (handles_of handles p).directories ≡ None → on_free_directory fs p rest ≡ refuse Emfile
  on_free_directory-none p rest e = ap (λ (o : Option ℕ). given o Emfile rest) (least_directory-same stores handles fs s p ∙ e)

module _ {S : Type 0} (stores : List StoreValue) (h : DirHandle) (rest : List Name → Outcome S) where
  -- a stale directory handle
  pub on_directory-stale : h.directory ≡ None → on_directory (opened_directory stores h) rest ≡ refuse Estale
  on_directory-stale e = ap (λ (o : Option (List Name)). given o Estale rest) (stale-directory stores h e)

  -- one that holds a directory
  pub on_directory-there : (names : List Name) → (opened_directory stores h).path ≡ Some names → on_directory (opened_directory stores h) rest ≡ rest names
  on_directory-there names path = ap (λ (o : Option (List Name)). given o Estale rest) path
