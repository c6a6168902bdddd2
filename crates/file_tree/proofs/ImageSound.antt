-- The entries of an image stay sound where a record applies.
use Rattle.std.proofs.Common.{◌≡◌, ℕ, ◌≤◌, Bool, true, false, cond, List, [], length, length-set, refl, sym, ap, subst, ◌∙◌, Option, Some, None}
use Rattle.std.proofs.lemmas.List.{length-map}
use Rattle.std.specs.Prelude.{option_map, slice_get, slice_set, ◌==◌, ◌&&◌, bytes_eq}
use Rattle.std.specs.Option.{option_flatten}
use Rattle.apex_types.specs.declared.fields.RecordField.{RecordField}
use Rattle.apex_model.specs.Durable.{StoredFile}
use Rattle.apex_model.specs.Image as image
use Rattle.apex_model.specs.Trees.{Name, Tree}
use Rattle.file_tree.specs.Images.{named_entry, named}
use Rattle.file_tree.specs.Table.{AreSound}
use Rattle.file_tree.proofs.ImageEntries.{tree-good}
use Rattle.file_tree.proofs.ImageRecords.{if_tree}

-- ---- as many entries as before

new-length : (entries : List (Option image.Entry)) (k : ℕ) (o : Option Name) (parent : ℕ) (after : List (Option image.Entry)) → image.with_new entries k o parent ≡ Some after → length after ≡ length entries
new-length entries k None parent after h = absurd (let e : ◌≡◌ {A = Option (List (Option image.Entry))} None (Some after) = h in cc)
new-length entries k (Some name) parent after h =
    (elim (slice_get entries k) as (λ o. elim o [ Some None ↦ Some (slice_set entries k (Some (record { name = name; parent = parent; stored = record { content = []; changes = 0 } }))) | _ ↦ None ] ≡ Some after
    → length after ≡ length entries) [
      | None ↦ λ is. absurd (let e : ◌≡◌ {A = Option (List (Option image.Entry))} None (Some after) = is in cc)
      | Some (Some e) ↦ λ is. absurd (let e : ◌≡◌ {A = Option (List (Option image.Entry))} None (Some after) = is in cc)
      | Some None ↦ λ is. taken _ is
    ]) h
  where
    taken : (e : Option image.Entry) → Some (slice_set entries k e) ≡ Some after → length after ≡ length entries
    taken e is = let same : slice_set entries k e ≡ after = cc in ap length (sym same) ∙ length-set entries k e

without-length : (entries : List (Option image.Entry)) (k : ℕ) (after : List (Option image.Entry)) → image.without_entry entries k ≡ Some after → length after ≡ length entries
without-length entries k after h =
    (elim (option_flatten (slice_get entries k)) as (λ o. elim o [ None ↦ None | Some entry ↦ Some (slice_set entries k None) ] ≡ Some after → length after ≡ length entries) [
      | None ↦ λ is. absurd (let e : ◌≡◌ {A = Option (List (Option image.Entry))} None (Some after) = is in cc)
      | Some e ↦ λ is. let same : slice_set entries k None ≡ after = cc in ap length (sym same) ∙ length-set entries k None
    ]) h

renamed-length : (entries : List (Option image.Entry)) (k : ℕ) (o : Option Name) (parent : ℕ) (after : List (Option image.Entry)) → image.with_renamed entries k o parent ≡ Some after → length after ≡ length entries
renamed-length entries k None parent after h = absurd (let e : ◌≡◌ {A = Option (List (Option image.Entry))} None (Some after) = h in cc)
renamed-length entries k (Some name) parent after h =
    (elim (option_flatten (slice_get entries k)) as (λ o. elim o [
      | None ↦ None
      | Some entry ↦ cond (bytes_eq entry.name name && (entry.parent == parent)) None (Some (slice_set entries k (Some (record { name = name; parent = parent; stored = entry.stored }))))
    ] ≡ Some after → length after ≡ length entries) [
      | None ↦ λ is. absurd (let e : ◌≡◌ {A = Option (List (Option image.Entry))} None (Some after) = is in cc)
      | Some e ↦ λ is. moved (bytes_eq e.name name && (e.parent == parent)) _ is
    ]) h
  where
    moved : (own : Bool) (e : Option image.Entry) → cond own None (Some (slice_set entries k e)) ≡ Some after → length after ≡ length entries
    moved true e is = absurd (let e : ◌≡◌ {A = Option (List (Option image.Entry))} None (Some after) = is in cc)
    moved false e is = let same : slice_set entries k e ≡ after = cc in ap length (sym same) ∙ length-set entries k e

-- as many entries of both kinds
pub record SameLengths (entries after : image.Entries) : Type 0 where
  pub files : length after.files ≡ length entries.files
  pub directories : length after.directories ≡ length entries.directories

module _ (entries after : image.Entries) where
  files-changed : (o : Option (List (Option image.Entry))) → ((xs : List (Option image.Entry)) → o ≡ Some xs → length xs ≡ length entries.files)
      → option_map (λ files. record { files = files; directories = entries.directories }) o ≡ Some after → SameLengths entries after
  files-changed None same h = absurd (let e : ◌≡◌ {A = Option image.Entries} None (Some after) = h in cc)
  files-changed (Some xs) same h =
      let changed : image.Entries = record { files = xs; directories = entries.directories } in
      let is : changed ≡ after = cc in
      subst (λ (e : image.Entries). SameLengths entries e) is (record { files = same xs refl; directories = refl })

  directories-changed : (o : Option (List (Option image.Entry))) → ((xs : List (Option image.Entry)) → o ≡ Some xs → length xs ≡ length entries.directories)
      → option_map (λ directories. record { files = entries.files; directories = directories }) o ≡ Some after → SameLengths entries after
  directories-changed None same h = absurd (let e : ◌≡◌ {A = Option image.Entries} None (Some after) = h in cc)
  directories-changed (Some xs) same h =
      let changed : image.Entries = record { files = entries.files; directories = xs } in
      let is : changed ≡ after = cc in
      subst (λ (e : image.Entries). SameLengths entries e) is (record { files = refl; directories = same xs refl })

  either : (b : Bool) (x y : Option image.Entries) → (x ≡ Some after → SameLengths entries after) → (y ≡ Some after → SameLengths entries after) → cond b x y ≡ Some after → SameLengths entries after
  either true x y p q h = p h
  either false x y p q h = q h

  same-lengths : (change : RecordField) → image.changed_by entries change ≡ Some after → SameLengths entries after
  same-lengths change =
      either (change.kind == 1) _ _ (files-changed _ (new-length entries.files change.index change.name change.parent.0))
      (either (change.kind == 2) _ _ (directories-changed _ (new-length entries.directories change.index change.name change.parent.0))
      (either (change.kind == 3) _ _ (files-changed _ (without-length entries.files change.index))
      (either (change.kind == 4) _ _ (directories-changed _ (without-length entries.directories change.index))
      (files-changed _ (renamed-length entries.files change.index change.name change.parent.0)))))

-- ---- sound entries

-- entries that make a tree are sound, where they are few
pub sound-tree : (entries : image.Entries) (t : Tree StoredFile) → image.tree_of_entries entries ≡ Some t → length entries.files ≤ 255 → length entries.directories ≤ 255
    → AreSound (named entries.files) (named entries.directories)
sound-tree entries t h few_files few_directories =
    let g = tree-good entries t h in
    record {
      few_files = subst (λ n. n ≤ 255) (sym (length-map entries.files (option_map named_entry))) few_files;
      few_directories = subst (λ n. n ≤ 255) (sym (length-map entries.directories (option_map named_entry))) few_directories;
      file_parents = g.file_parents;
      directory_parents = g.directory_parents;
      distinct = g.distinct;
    }

-- what is known of changed entries that make a tree
pub record MakesTree (changed : Option image.Entries) (after : image.Entries) : Type 0 where
  pub is : changed ≡ Some after
  pub tree : Tree StoredFile
  pub made : image.tree_of_entries after ≡ Some tree

makes_tree : (changed : Option image.Entries) (after : image.Entries) → if_tree changed ≡ Some after → MakesTree changed after
makes_tree None after h = absurd (let e : ◌≡◌ {A = Option image.Entries} None (Some after) = h in cc)
makes_tree (Some entries) after h =
    (elim (image.tree_of_entries entries) as (λ o. image.tree_of_entries entries ≡ o → elim o [ None ↦ None | Some tree ↦ Some entries ] ≡ Some after → MakesTree (Some entries) after) [
      | None ↦ λ none is. absurd (let e : ◌≡◌ {A = Option image.Entries} None (Some after) = is in cc)
      | Some t ↦ λ some is. let same : entries ≡ after = cc in record { is = is; tree = t; made = ap image.tree_of_entries (sym same) ∙ some }
    ]) refl h

-- behind a record that applies, entries make a tree
pub record-tree : (entries : image.Entries) (change : RecordField) (after : image.Entries) → image.applied entries change ≡ Some after → MakesTree (image.changed_by entries change) after
record-tree entries change after h = makes_tree (image.changed_by entries change) after h

-- and as many
pub record-lengths : (entries : image.Entries) (change : RecordField) (after : image.Entries) → image.applied entries change ≡ Some after → SameLengths entries after
record-lengths entries change after h = same-lengths entries after change (record-tree entries change after h).is
