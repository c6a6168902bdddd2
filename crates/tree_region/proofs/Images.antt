-- Records that are replayed on the entries of an image.
use Rattle.std.proofs.Common.{◌≡◌, ℕ, ◌≤◌, List, [], ◌∷◌, length, refl, sym, ap, subst, ◌∙◌, Option, Some, None}
use Rattle.std.specs.Prelude.{option_map}
use Rattle.apex_model.specs.Durable.{StoredFile}
use Rattle.apex_model.specs.Fields.{record_of}
use Rattle.apex_model.specs.Image as image
use Rattle.apex_model.specs.Trees.{Tree}
use Rattle.file_tree.specs.Entries.{TreeValue}
use Rattle.file_tree.specs.Images.{names_of}
use Rattle.file_tree.proofs.ImageRecords.{record-seen}
use Rattle.file_tree.proofs.ImageSound.{sound-tree, record-tree, record-lengths}
use Rattle.tree_region.specs.Replay.{after_record, replayed}
use Rattle.tree_region.proofs.Records.{replayed-none, replayed-step, replayed-end}

-- once a record was not replayed, none is
image-none : (version : ℕ) (records : List (List ℕ)) → image.replayed version records None ≡ None
image-none version [] = refl
image-none version (bytes ∷ records) = image-none version records

pub replay-agrees : (version : ℕ) (records : List (List ℕ)) (entries : image.Entries) (tree : Tree StoredFile) → image.tree_of_entries entries ≡ Some tree → length entries.files ≤ 255 → length entries.directories ≤ 255
    → replayed version (Some (names_of entries)) records ≡ option_map names_of (image.replayed version records (Some entries))
replay-agrees version [] entries tree is few_files few_directories = replayed-end version (Some (names_of entries))
replay-agrees version (bytes ∷ records) entries tree is few_files few_directories =
    replayed-step version (names_of entries) bytes records
    ∙ (elim (record_of version bytes) as (λ o. replayed version (after_record (names_of entries) o) records
    ≡ option_map names_of (image.replayed version records (elim o [ None ↦ None | Some change ↦ image.applied entries change ]))) [
      | None ↦ replayed-none version records ∙ ap (option_map names_of) (sym (image-none version records))
      | Some change ↦
          ap (λ (o : Option TreeValue). replayed version o records) (sym (record-seen entries (sound-tree entries tree is few_files few_directories) change))
          ∙ (elim (image.applied entries change) as (λ o. image.applied entries change ≡ o
          → replayed version (option_map names_of o) records ≡ option_map names_of (image.replayed version records o)) [
            | None ↦ λ none. replayed-none version records ∙ ap (option_map names_of) (sym (image-none version records))
            | Some after ↦ λ some.
                let made = record-tree entries change after some in
                let same = record-lengths entries change after some in
                replay-agrees version records after made.tree made.made
                (subst (λ n. n ≤ 255) (sym same.files) few_files) (subst (λ n. n ≤ 255) (sym same.directories) few_directories)
          ]) refl
    ])
