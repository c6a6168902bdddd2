-- What holds of a tree after each kind of record holds of it after a record.
use Rattle.std.proofs.Common.{◌≡◌, ℕ, Bool, true, false, cond, List, subst, Option, Some, None}
use Rattle.std.specs.Prelude.{◌==◌}
use Rattle.apex_types.specs.declared.fields.RecordField.{RecordField}
use Rattle.apex_model.specs.Trees.{Name, entries_within}
use Rattle.file_tree.specs.Entries.{TreeValue, slot, path_in, with_file, with_directory, without_file, without_directory, with_file_at}
use Rattle.file_tree.specs.Records.{applied, is_unused, takes, has_none, new_file, new_directory, gone_file, gone_directory_at, moved_file, moved_file_at}

none-some : {P : Type 0} (w : TreeValue) → ◌≡◌ {A = Option TreeValue} None (Some w) → P
none-some w h = absurd (let e : ◌≡◌ {A = Option TreeValue} None (Some w) = h in cc)

some-is : (a w : TreeValue) → ◌≡◌ {A = Option TreeValue} (Some a) (Some w) → a ≡ w
some-is a w h = cc

module _ (v w : TreeValue) (P : TreeValue → Type 0) where
  is-so : (a : TreeValue) → P a → Some a ≡ Some w → P w
  is-so a so h = subst P (some-is a w h) so

  if-so : (b : Bool) (x : Option TreeValue) → (x ≡ Some w → P w) → cond b x None ≡ Some w → P w
  if-so true x p h = p h
  if-so false x p h = none-some w h

  either : (b : Bool) (x y : Option TreeValue) → (x ≡ Some w → P w) → (y ≡ Some w → P w) → cond b x y ≡ Some w → P w
  either true x y p q h = p h
  either false x y p q h = q h

  new-file : ((f : ℕ) (path : List Name) → P (with_file v f path)) → (f parent : ℕ) (name : Option Name) → new_file v f parent name ≡ Some w → P w
  new-file so f parent None h = none-some w h
  new-file so f parent (Some name) h = if-so (is_unused v.files f) _ (if-so (takes v parent name) _ (is-so (with_file v f (path_in v parent name)) (so f _))) h

  new-directory : ((d : ℕ) (path : List Name) → P (with_directory v d path)) → (d parent : ℕ) (name : Option Name) → new_directory v d parent name ≡ Some w → P w
  new-directory so d parent None h = none-some w h
  new-directory so d parent (Some name) h = if-so (is_unused v.directories d) _ (if-so (takes v parent name) _ (is-so (with_directory v d (path_in v parent name)) (so d _))) h

  gone-file : ((f : ℕ) (path : List Name) → P (without_file v f path)) → (f : ℕ) → gone_file v f ≡ Some w → P w
  gone-file so f h =
      (elim (slot v.files f) as (λ o. elim o [ None ↦ None | Some path ↦ Some (without_file v f path) ] ≡ Some w → P w) [
        | None ↦ λ k. none-some w k
        | Some path ↦ λ k. is-so (without_file v f path) (so f path) k
      ]) h

  gone-at : ((d : ℕ) (path : List Name) → P (without_directory v d path)) → (d : ℕ) (o : Option (List Name)) → gone_directory_at v d o ≡ Some w → P w
  gone-at so d None h = none-some w h
  gone-at so d (Some path) h = if-so (has_none (entries_within v.nodes path)) _ (is-so (without_directory v d path) (so d path)) h

  moved-at : ((f : ℕ) (from to : List Name) → P (with_file_at v f from to)) → (f parent : ℕ) (name : Name) (o : Option (List Name)) → moved_file_at v f parent name o ≡ Some w → P w
  moved-at so f parent name None h = none-some w h
  moved-at so f parent name (Some from) h = if-so (takes v parent name) _ (is-so (with_file_at v f from (path_in v parent name)) (so f from _)) h

  moved : ((f : ℕ) (from to : List Name) → P (with_file_at v f from to)) → (f parent : ℕ) (name : Option Name) → moved_file v f parent name ≡ Some w → P w
  moved so f parent None h = none-some w h
  moved so f parent (Some name) h = moved-at so f parent name (slot v.files f) h

  pub of-applied : ((f : ℕ) (path : List Name) → P (with_file v f path)) → ((d : ℕ) (path : List Name) → P (with_directory v d path)) → ((f : ℕ) (path : List Name) → P (without_file v f path))
      → ((d : ℕ) (path : List Name) → P (without_directory v d path)) → ((f : ℕ) (from to : List Name) → P (with_file_at v f from to)) → (change : RecordField) → applied v change ≡ Some w → P w
  of-applied made made_directory gone gone_directory at change =
      either (change.kind == 1) _ _ (new-file made change.index change.parent.0 change.name)
      (either (change.kind == 2) _ _ (new-directory made_directory change.index change.parent.0 change.name)
      (either (change.kind == 3) _ _ (gone-file gone change.index)
      (either (change.kind == 4) _ _ (gone-at gone_directory change.index (slot v.directories change.index))
      (moved at change.index change.parent.0 change.name))))
