-- Contents are no part of what records change, nor of whether entries make a tree: a function of contents commutes with both.
use Rattle.std.proofs.Common.{◌≡◌, ℕ, Bool, true, false, ◌&&◌, cond, List, [], ◌∷◌, Option, Some, None, option_map, refl, sym, ◌∙◌, ap}
use Rattle.std.proofs.lemmas.List.{map-set}
use Rattle.std.proofs.lemmas.Option.{slice_get-map}
use Rattle.std.specs.declared.cmp.Ordering.TheVariants.{Less, Equal, Greater}
use Rattle.std.specs.FinMap.Entries.{find, put, by_order}
use Rattle.std.specs.Option.{option_flatten}
use Rattle.std.specs.Ordering.{eq_by_cmp}
use Rattle.std.specs.Prelude.{if◌then◌else◌, ◌==◌, slice_get, slice_set, map, bytes_eq}
use Rattle.apex_types.specs.declared.fields.RecordField.{RecordField}
use Rattle.apex_model.specs.Durable.{StoredFile}
use Rattle.apex_model.specs.Fields.{record_of}
use Rattle.apex_model.specs.Files.{Content}
use Rattle.apex_model.specs.Image.{Entry, Entries, path_of_entry, put_new, placed, tree_of_entries, with_new, without_entry, with_renamed, changed_by, applied, replayed}
use Rattle.apex_model.specs.Trees.{Name, Node, directory, file, Tree, path_cmp}

abbrev pub mapped_stored : (Content → Content) → StoredFile → StoredFile
mapped_stored g stored = record { content = g stored.content; changes = stored.changes }

abbrev pub mapped_entry : (Content → Content) → Entry → Entry
mapped_entry g entry = record { name = entry.name; parent = entry.parent; stored = mapped_stored g entry.stored }

abbrev pub mapped_files : (Content → Content) → List (Option Entry) → List (Option Entry)
mapped_files g files = map (option_map (mapped_entry g)) files

-- directories have no content
abbrev pub mapped : (Content → Content) → Entries → Entries
mapped g entries = record { files = mapped_files g entries.files; directories = entries.directories }

abbrev pub mapped_node : (Content → Content) → Node StoredFile → Node StoredFile
mapped_node g directory = directory
mapped_node g (file stored) = file (mapped_stored g stored)

abbrev pub mapped_tree : (Content → Content) → Tree StoredFile → Tree StoredFile
mapped_tree g tree = map (λ (x : List Name × Node StoredFile). let y : List Name × Node StoredFile = (x.0, mapped_node g x.1) in y) tree

abbrev choose : {A B : Type 0} → Option A → B → (A → B) → B
choose o b f = elim o [ None ↦ b | Some a ↦ f a ]

module _ (g : Content → Content) where
  -- ---- trees

  find_mapped : (path : List Name) (tree : Tree StoredFile) → find path_cmp path (mapped_tree g tree) ≡ option_map (mapped_node g) (find path_cmp path tree)
  find_mapped path [] = refl
  find_mapped path (x ∷ tree) = found (eq_by_cmp path_cmp path x.0) (mapped_node g x.1) x.1 (find path_cmp path (mapped_tree g tree)) (find path_cmp path tree) refl (find_mapped path tree)
    where
      found : (b : Bool) (m n : Node StoredFile) (o p : Option (Node StoredFile)) → m ≡ mapped_node g n → o ≡ option_map (mapped_node g) p
          → cond b (Some m) o ≡ option_map (mapped_node g) (cond b (Some n) p)
      found true m n o p e f = ap (λ (k : Node StoredFile). Some k) e
      found false m n o p e f = f

  put_mapped : (path : List Name) (node : Node StoredFile) (tree : Tree StoredFile) → put path_cmp path (mapped_node g node) (mapped_tree g tree) ≡ mapped_tree g (put path_cmp path node tree)
  put_mapped path node [] = refl
  put_mapped path node (x ∷ tree) =
      elim (path_cmp path x.0) as (λ r. by_order r ((path, mapped_node g node) ∷ (x.0, mapped_node g x.1) ∷ mapped_tree g tree) ((x.0, mapped_node g node) ∷ mapped_tree g tree)
      ((x.0, mapped_node g x.1) ∷ put path_cmp path (mapped_node g node) (mapped_tree g tree))
      ≡ mapped_tree g (by_order r ((path, node) ∷ x ∷ tree) ((x.0, node) ∷ tree) (x ∷ put path_cmp path node tree))) [
        | Less ↦ refl
        | Equal ↦ refl
        | Greater ↦ ap (λ (rest : Tree StoredFile). (x.0, mapped_node g x.1) ∷ rest) (put_mapped path node tree)
      ]

  new_mapped : (found : Option (Node StoredFile)) (path : List Name) (node : Node StoredFile) (tree : Tree StoredFile)
      → choose (option_map (mapped_node g) found) (Some (put path_cmp path (mapped_node g node) (mapped_tree g tree))) (λ other. None)
      ≡ option_map (mapped_tree g) (choose found (Some (put path_cmp path node tree)) (λ other. None))
  new_mapped None path node tree = ap (λ (t : Tree StoredFile). Some t) (put_mapped path node tree)
  new_mapped (Some other) path node tree = refl

  put_new_mapped : (path : List Name) (node : Node StoredFile) (tree : Tree StoredFile) → put_new path (mapped_node g node) (mapped_tree g tree) ≡ option_map (mapped_tree g) (put_new path node tree)
  put_new_mapped path node tree =
      ap (λ (o : Option (Node StoredFile)). choose o (Some (put path_cmp path (mapped_node g node) (mapped_tree g tree))) (λ other. None)) (find_mapped path tree)
      ∙ new_mapped (find path_cmp path tree) path node tree

  abbrev one_placed : Option (List Name) → Node StoredFile → Option (Tree StoredFile) → Option (Tree StoredFile)
  one_placed way node tree = elim tree [ None ↦ None | Some t ↦ elim way [ None ↦ None | Some path ↦ put_new path node t ] ]

  one_mapped : (way : Option (List Name)) (node : Node StoredFile) (tree : Option (Tree StoredFile))
      → one_placed way (mapped_node g node) (option_map (mapped_tree g) tree) ≡ option_map (mapped_tree g) (one_placed way node tree)
  one_mapped way node None = refl
  one_mapped None node (Some t) = refl
  one_mapped (Some path) node (Some t) = put_new_mapped path node t

  files_placed : (directories files : List (Option Entry)) (tree : Option (Tree StoredFile))
      → placed (λ entry. file entry.stored) directories (mapped_files g files) (option_map (mapped_tree g) tree) ≡ option_map (mapped_tree g) (placed (λ entry. file entry.stored) directories files tree)
  files_placed directories [] tree = refl
  files_placed directories (None ∷ files) tree = files_placed directories files tree
  files_placed directories (Some entry ∷ files) tree =
      ap (placed (λ e. file e.stored) directories (mapped_files g files)) (one_mapped (path_of_entry directories entry) (file entry.stored) tree)
      ∙ files_placed directories files (one_placed (path_of_entry directories entry) (file entry.stored) tree)

  directories_placed : (directories entries : List (Option Entry)) (tree : Option (Tree StoredFile))
      → placed (λ entry. directory) directories entries (option_map (mapped_tree g) tree) ≡ option_map (mapped_tree g) (placed (λ entry. directory) directories entries tree)
  directories_placed directories [] tree = refl
  directories_placed directories (None ∷ entries) tree = directories_placed directories entries tree
  directories_placed directories (Some entry ∷ entries) tree =
      ap (placed (λ e. directory) directories entries) (one_mapped (path_of_entry directories entry) directory tree)
      ∙ directories_placed directories entries (one_placed (path_of_entry directories entry) directory tree)

  pub tree_mapped : (entries : Entries) → tree_of_entries (mapped g entries) ≡ option_map (mapped_tree g) (tree_of_entries entries)
  tree_mapped entries =
      ap (placed (λ entry. file entry.stored) entries.directories (mapped_files g entries.files)) (directories_placed entries.directories entries.directories (Some []))
      ∙ files_placed entries.directories entries.files (placed (λ entry. directory) entries.directories entries.directories (Some []))
  -- ---- records

module _ (g : Content → Content) (none : g [] ≡ []) where
  abbrev empty_entry : List ℕ → ℕ → Entry
  empty_entry name parent = record { name = name; parent = parent; stored = record { content = []; changes = 0 } }

  abbrev with_empty : List (Option Entry) → ℕ → List ℕ → ℕ → Option (Option Entry) → Option (List (Option Entry))
  with_empty files index name parent place = elim place [ Some None ↦ Some (slice_set files index (Some (empty_entry name parent))) | _ ↦ None ]

  empty_mapped : (files : List (Option Entry)) (index : ℕ) (name : List ℕ) (parent : ℕ) (place : Option (Option Entry))
      → with_empty (mapped_files g files) index name parent (option_map (option_map (mapped_entry g)) place) ≡ option_map (mapped_files g) (with_empty files index name parent place)
  empty_mapped files index name parent None = refl
  empty_mapped files index name parent (Some None) =
      let same : mapped_entry g (empty_entry name parent) ≡ empty_entry name parent = ap (λ (c : Content). let e : Entry = record { name = name; parent = parent; stored = record { content = c; changes = 0 } } in e) none in
      ap (λ (e : Entry). Some (slice_set (mapped_files g files) index (Some e))) (sym same)
      ∙ ap (λ (fs : List (Option Entry)). Some fs) (sym (map-set (option_map (mapped_entry g)) files index (Some (empty_entry name parent))))
  empty_mapped files index name parent (Some (Some entry)) = refl

  with_new_mapped : (files : List (Option Entry)) (index : ℕ) (name : Option (List ℕ)) (parent : ℕ) → with_new (mapped_files g files) index name parent ≡ option_map (mapped_files g) (with_new files index name parent)
  with_new_mapped files index None parent = refl
  with_new_mapped files index (Some name) parent =
      ap (with_empty (mapped_files g files) index name parent) (slice_get-map (option_map (mapped_entry g)) files index)
      ∙ empty_mapped files index name parent (slice_get files index)

  flat_mapped : (o : Option (Option Entry)) → option_flatten (option_map (option_map (mapped_entry g)) o) ≡ option_map (mapped_entry g) (option_flatten o)
  flat_mapped None = refl
  flat_mapped (Some o) = refl

  entry_at : (files : List (Option Entry)) (index : ℕ) → option_flatten (slice_get (mapped_files g files) index) ≡ option_map (mapped_entry g) (option_flatten (slice_get files index))
  entry_at files index = ap option_flatten (slice_get-map (option_map (mapped_entry g)) files index) ∙ flat_mapped (slice_get files index)

  abbrev removed : List (Option Entry) → ℕ → Option Entry → Option (List (Option Entry))
  removed files index o = elim o [ None ↦ None | Some entry ↦ Some (slice_set files index None) ]

  removed_mapped : (files : List (Option Entry)) (index : ℕ) (o : Option Entry) → removed (mapped_files g files) index (option_map (mapped_entry g) o) ≡ option_map (mapped_files g) (removed files index o)
  removed_mapped files index None = refl
  removed_mapped files index (Some entry) = ap (λ (fs : List (Option Entry)). Some fs) (sym (map-set (option_map (mapped_entry g)) files index None))

  without_mapped : (files : List (Option Entry)) (index : ℕ) → without_entry (mapped_files g files) index ≡ option_map (mapped_files g) (without_entry files index)
  without_mapped files index = ap (removed (mapped_files g files) index) (entry_at files index) ∙ removed_mapped files index (option_flatten (slice_get files index))

  abbrev renamed : List (Option Entry) → ℕ → List ℕ → ℕ → Option Entry → Option (List (Option Entry))
  renamed files index name parent o = elim o [
    | None ↦ None
    | Some entry ↦ if bytes_eq entry.name name && (entry.parent == parent) then None
        else Some (slice_set files index (Some (record { name = name; parent = parent; stored = entry.stored })))
  ]

  renamed_as : (files : List (Option Entry)) (index : ℕ) (entry : Entry) (same : Bool)
      → (let o : Option (List (Option Entry)) = if same then None else Some (slice_set (mapped_files g files) index (Some (mapped_entry g entry))) in o)
      ≡ option_map (mapped_files g) (let o : Option (List (Option Entry)) = if same then None else Some (slice_set files index (Some entry)) in o)
  renamed_as files index entry true = refl
  renamed_as files index entry false = ap (λ (fs : List (Option Entry)). Some fs) (sym (map-set (option_map (mapped_entry g)) files index (Some entry)))

  renamed_mapped : (files : List (Option Entry)) (index : ℕ) (name : List ℕ) (parent : ℕ) (o : Option Entry)
      → renamed (mapped_files g files) index name parent (option_map (mapped_entry g) o) ≡ option_map (mapped_files g) (renamed files index name parent o)
  renamed_mapped files index name parent None = refl
  renamed_mapped files index name parent (Some entry) = renamed_as files index (record { name = name; parent = parent; stored = entry.stored }) (bytes_eq entry.name name && (entry.parent == parent))

  with_renamed_mapped : (files : List (Option Entry)) (index : ℕ) (name : Option (List ℕ)) (parent : ℕ)
      → with_renamed (mapped_files g files) index name parent ≡ option_map (mapped_files g) (with_renamed files index name parent)
  with_renamed_mapped files index None parent = refl
  with_renamed_mapped files index (Some name) parent =
      ap (renamed (mapped_files g files) index name parent) (entry_at files index) ∙ renamed_mapped files index name parent (option_flatten (slice_get files index))

  abbrev of_files : List (Option Entry) → Option (List (Option Entry)) → Option Entries
  of_files directories o = option_map (λ files. record { files = files; directories = directories }) o

  abbrev of_directories : List (Option Entry) → Option (List (Option Entry)) → Option Entries
  of_directories files o = option_map (λ directories. record { files = files; directories = directories }) o

  files_changed : (directories : List (Option Entry)) (o p : Option (List (Option Entry))) → p ≡ option_map (mapped_files g) o → of_files directories p ≡ option_map (mapped g) (of_files directories o)
  files_changed directories None p e = ap (of_files directories) e
  files_changed directories (Some files) p e = ap (of_files directories) e

  directories_changed : (files : List (Option Entry)) (o : Option (List (Option Entry))) → of_directories (mapped_files g files) o ≡ option_map (mapped g) (of_directories files o)
  directories_changed files None = refl
  directories_changed files (Some directories) = refl

  abbrev by_kind : {X : Type 0} → (one two three four : Bool) → X → X → X → X → X → X
  by_kind one two three four a b c d e = if one then a else if two then b else if three then c else if four then d else e

  kind_mapped : (one two three four : Bool) (a b c d e a' b' c' d' e' : Option Entries)
      → a' ≡ option_map (mapped g) a → b' ≡ option_map (mapped g) b → c' ≡ option_map (mapped g) c → d' ≡ option_map (mapped g) d → e' ≡ option_map (mapped g) e
      → by_kind one two three four a' b' c' d' e' ≡ option_map (mapped g) (by_kind one two three four a b c d e)
  kind_mapped true two three four a b c d e a' b' c' d' e' p q r s t = p
  kind_mapped false true three four a b c d e a' b' c' d' e' p q r s t = q
  kind_mapped false false true four a b c d e a' b' c' d' e' p q r s t = r
  kind_mapped false false false true a b c d e a' b' c' d' e' p q r s t = s
  kind_mapped false false false false a b c d e a' b' c' d' e' p q r s t = t

  changed_mapped : (entries : Entries) (change : RecordField) → changed_by (mapped g entries) change ≡ option_map (mapped g) (changed_by entries change)
  changed_mapped entries change =
      kind_mapped (change.kind == 1) (change.kind == 2) (change.kind == 3) (change.kind == 4)
      (of_files entries.directories (with_new entries.files change.index change.name change.parent.0))
      (of_directories entries.files (with_new entries.directories change.index change.name change.parent.0))
      (of_files entries.directories (without_entry entries.files change.index))
      (of_directories entries.files (without_entry entries.directories change.index))
      (of_files entries.directories (with_renamed entries.files change.index change.name change.parent.0))
      (of_files entries.directories (with_new (mapped_files g entries.files) change.index change.name change.parent.0))
      (of_directories (mapped_files g entries.files) (with_new entries.directories change.index change.name change.parent.0))
      (of_files entries.directories (without_entry (mapped_files g entries.files) change.index))
      (of_directories (mapped_files g entries.files) (without_entry entries.directories change.index))
      (of_files entries.directories (with_renamed (mapped_files g entries.files) change.index change.name change.parent.0))
      (files_changed entries.directories (with_new entries.files change.index change.name change.parent.0) (with_new (mapped_files g entries.files) change.index change.name change.parent.0)
      (with_new_mapped entries.files change.index change.name change.parent.0))
      (directories_changed entries.files (with_new entries.directories change.index change.name change.parent.0))
      (files_changed entries.directories (without_entry entries.files change.index) (without_entry (mapped_files g entries.files) change.index) (without_mapped entries.files change.index))
      (directories_changed entries.files (without_entry entries.directories change.index))
      (files_changed entries.directories (with_renamed entries.files change.index change.name change.parent.0) (with_renamed (mapped_files g entries.files) change.index change.name change.parent.0)
      (with_renamed_mapped entries.files change.index change.name change.parent.0))

  -- the entries that still make a tree
  abbrev with_tree : Option (Tree StoredFile) → Entries → Option Entries
  with_tree o after = elim o [ None ↦ None | Some tree ↦ Some after ]

  abbrev if_tree : Option Entries → Option Entries
  if_tree o = elim o [ None ↦ None | Some after ↦ elim (tree_of_entries after) [ None ↦ None | Some tree ↦ Some after ] ]

  with_tree_mapped : (o : Option (Tree StoredFile)) (after : Entries) → with_tree (option_map (mapped_tree g) o) (mapped g after) ≡ option_map (mapped g) (with_tree o after)
  with_tree_mapped None after = refl
  with_tree_mapped (Some tree) after = refl

  if_tree_mapped : (o : Option Entries) → if_tree (option_map (mapped g) o) ≡ option_map (mapped g) (if_tree o)
  if_tree_mapped None = refl
  if_tree_mapped (Some after) = ap (λ (t : Option (Tree StoredFile)). with_tree t (mapped g after)) (tree_mapped g after) ∙ with_tree_mapped (tree_of_entries after) after

  applied_mapped : (entries : Entries) (change : RecordField) → applied (mapped g entries) change ≡ option_map (mapped g) (applied entries change)
  applied_mapped entries change = ap if_tree (changed_mapped entries change) ∙ if_tree_mapped (changed_by entries change)

  abbrev one_replayed : Option RecordField → Option Entries → Option Entries
  one_replayed change entries = elim entries [ None ↦ None | Some e ↦ elim change [ None ↦ None | Some c ↦ applied e c ] ]

  one_replayed_mapped : (change : Option RecordField) (entries : Option Entries) → one_replayed change (option_map (mapped g) entries) ≡ option_map (mapped g) (one_replayed change entries)
  one_replayed_mapped change None = refl
  one_replayed_mapped None (Some entries) = refl
  one_replayed_mapped (Some change) (Some entries) = applied_mapped entries change

  pub replayed_mapped : (version : ℕ) (bodies : List (List ℕ)) (entries : Option Entries) → replayed version bodies (option_map (mapped g) entries) ≡ option_map (mapped g) (replayed version bodies entries)
  replayed_mapped version [] entries = refl
  replayed_mapped version (body ∷ bodies) entries =
      ap (replayed version bodies) (one_replayed_mapped (record_of version body) entries) ∙ replayed_mapped version bodies (one_replayed (record_of version body) entries)
