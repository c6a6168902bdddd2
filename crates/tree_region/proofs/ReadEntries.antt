-- A body that was read, by what the image gives for it.
use Rattle.std.proofs.Common.{◌≡◌, ℕ, zero, suc, ◌*◌, Bool, true, false, cond, List, [], ◌∷◌, length, take, drop, refl, sym, ap, subst, ◌∙◌, Option, Some, None, ◌++◌, ◌-◌, ◌≤◌, replicate, arith}
use Rattle.std.proofs.lemmas.Bool.{false≢true}
use Rattle.std.proofs.lemmas.Grind.{flat_map-append}
use Rattle.std.proofs.lemmas.List.{length-take, take-append-le}
use Rattle.std.specs.Prelude.{option_map, flat_map}
use Rattle.std.specs.List.{range_with_len}
use Rattle.apex_types.specs.declared.fields.FileEntryField.{FileEntryField}
use Rattle.apex_types.specs.declared.fields.FileEntryField.TheVariants.{Unused, Used}
use Rattle.apex_types.specs.declared.rows.TreeRow.{TreeRow}
use Rattle.apex_model.specs.Durable.{StoredFile}
use Rattle.apex_model.specs.Fields.{header_of, entry_of_bytes}
use Rattle.apex_model.specs.Files.{blocks_of}
use Rattle.apex_model.specs.Image as image
use Rattle.apex_model.specs.Trees.{Tree}
use Rattle.file_tree.specs.Bodies.{tree_in_version, tree_by, tree_in_body}
use Rattle.file_tree.specs.Entries.{TreeValue}
use Rattle.file_tree.specs.Images.{names_of}
use Rattle.file_tree.proofs.BodyImages.{body-agrees, blocks-left}
use Rattle.file_tree.proofs.ReadBodies.{mapped, mapped-none}
use Rattle.tree_region.specs.Bodies.{if_tree, entries_in_body, HasContents, HasEntries}
use Rattle.tree_region.specs.Numbers.{fields_in, numbers_in, rest_of, numbers_by_file, most_blocks, with_room, HasNoTable}

-- ---- the contents of files

take-own : {A : Type 0} (n : ℕ) (xs : List A) → take n xs ≡ take (length (take n xs)) xs
take-own zero xs = refl
take-own (suc n) [] = refl
take-own (suc n) (x ∷ xs) = ap (λ ys. x ∷ ys) (take-own n xs)

-- each file of a body has the content of its filled
contents-are : (room : ℕ) (blocks numbers : List ℕ) (fields : List FileEntryField) → HasContents blocks (numbers_by_file room fields numbers) (image.file_entries blocks numbers fields)
unfolding numbers_by_file
contents-are room blocks numbers [] f entry h = absurd (let e : ◌≡◌ {A = Option image.Entry} None (Some entry) = h in cc)
contents-are room blocks numbers (Unused ∷ fields) zero entry h = absurd (let e : ◌≡◌ {A = Option image.Entry} None (Some entry) = h in cc)
contents-are room blocks numbers (Unused ∷ fields) (suc f) entry h = contents-are room blocks (drop (blocks_of 0) numbers) fields f entry h
contents-are room blocks numbers (Used name parent size changes ∷ fields) zero entry h =
    let own_numbers : List ℕ = take (blocks_of size) numbers in
    let zeros : List ℕ = replicate (room - length own_numbers) 0 in
    let filled : List ℕ = flat_map (image.data_block blocks) own_numbers in
    let own : image.Entry = record { name = name; parent = parent.0; stored = record { content = take size filled; changes = changes } } in
    let same : own ≡ entry = cc in
    let all : flat_map (image.data_block blocks) (with_room room own_numbers) ≡ filled ++ flat_map (image.data_block blocks) zeros = flat_map-append (image.data_block blocks) own_numbers zeros in
    let short : length (take size filled) ≤ length filled = omega (arith, length-take size filled) in
    let is : take size filled ≡ take (length (take size filled)) (flat_map (image.data_block blocks) (with_room room own_numbers))
    = take-own size filled ∙ sym (take-append-le (length (take size filled)) filled (flat_map (image.data_block blocks) zeros) short) ∙ ap (take (length (take size filled))) (sym all) in
    subst (λ (e : image.Entry). e.stored.content ≡ take (length e.stored.content) (flat_map (image.data_block blocks) (with_room room own_numbers))) same is
contents-are room blocks numbers (Used name parent size changes ∷ fields) (suc f) entry h = contents-are room blocks (drop (blocks_of size) numbers) fields f entry h

module _ (version : ℕ) (row : TreeRow) (body blocks : List ℕ) where
  -- the entries, where those of files are known
  abbrev behind_files : List FileEntryField → Option image.Entries
  behind_files files = elim (image.all_answers (λ k. entry_of_bytes version (image.entry_bytes body k)) (range_with_len row.files row.directories)) [
    | None ↦ None
    | Some directories ↦ image.entries_of_fields row blocks (numbers_in row body) (rest_of row body) files directories
  ]

  behind-is : (fields : List FileEntryField) → fields_in version body row.files ≡ Some fields → image.entries_of_body version row body blocks ≡ behind_files fields
  behind-is fields h = ap (λ (o : Option (List FileEntryField)). elim o [ None ↦ None | Some files ↦ behind_files files ]) h

  -- they are those of the fields
  pub files-are : (fields : List FileEntryField) (entries : image.Entries) → fields_in version body row.files ≡ Some fields → image.entries_of_body version row body blocks ≡ Some entries
      → image.file_entries blocks (numbers_in row body) fields ≡ entries.files
  files-are fields entries spelled h =
      (elim (image.all_answers (λ k. entry_of_bytes version (image.entry_bytes body k)) (range_with_len row.files row.directories)) as (λ o. elim o [
        | None ↦ None
        | Some directories ↦ image.entries_of_fields row blocks (numbers_in row body) (rest_of row body) fields directories
      ] ≡ Some entries → image.file_entries blocks (numbers_in row body) fields ≡ entries.files) [
        | None ↦ λ k. absurd (let e : ◌≡◌ {A = Option image.Entries} None (Some entries) = k in cc)
        | Some directories ↦ λ k. good-files directories (image.has_good_blocks row fields (numbers_in row body) (rest_of row body)) k
      ]) (sym (behind-is fields spelled) ∙ h)
    where
      made : List (Option image.Entry) → image.Entries
      made ds = record { files = image.file_entries blocks (numbers_in row body) fields; directories = ds }

      good-files : (directories : List FileEntryField) (b : Bool) → cond b (option_map made (image.all_answers image.directory_entry directories)) None ≡ Some entries
          → image.file_entries blocks (numbers_in row body) fields ≡ entries.files
      good-files directories false k = absurd (let e : ◌≡◌ {A = Option image.Entries} None (Some entries) = k in cc)
      good-files directories true k = let m = mapped made (image.all_answers image.directory_entry directories) entries k in ap (λ (e : image.Entries). e.files) m.2

  -- there are none where the blocks are bad
  bad-behind : (fields : List FileEntryField) → image.has_good_blocks row fields (numbers_in row body) (rest_of row body) ≡ false → behind_files fields ≡ None
  bad-behind fields bad =
      (elim (image.all_answers (λ k. entry_of_bytes version (image.entry_bytes body k)) (range_with_len row.files row.directories)) as (λ o. elim o [
        | None ↦ None
        | Some directories ↦ image.entries_of_fields row blocks (numbers_in row body) (rest_of row body) fields directories
      ] ≡ None) [
        | None ↦ refl
        | Some directories ↦ ap (λ b. cond b (option_map (λ ds. record { files = image.file_entries blocks (numbers_in row body) fields; directories = ds }) (image.all_answers image.directory_entry directories)) None) bad
      ])

  no-entries : HasNoTable version row body → image.entries_of_body version row body blocks ≡ None
  no-entries none =
      (elim (fields_in version body row.files) as (λ o. fields_in version body row.files ≡ o → elim o [ None ↦ None | Some files ↦ behind_files files ] ≡ None) [
        | None ↦ λ is. refl
        | Some fields ↦ λ is. bad-behind fields (none.bad fields is)
      ]) refl

  -- a tree and good blocks make entries
  pub entries-read : (v : TreeValue) (fields : List FileEntryField) → length blocks ≡ 1024 * row.quota → tree_in_version version row.files row.directories body ≡ Some v → fields_in version body row.files ≡ Some fields
      → image.has_good_blocks row fields (numbers_in row body) (rest_of row body) ≡ true
      → (entries : image.Entries) × (image.entries_of_body version row body blocks ≡ Some entries) × HasEntries blocks v (numbers_by_file (most_blocks row) fields (numbers_in row body)) entries
  entries-read v fields long read spelled good =
      (elim (image.entries_of_body version row body blocks) as (λ o. image.entries_of_body version row body blocks ≡ o
      → (entries : image.Entries) × (o ≡ Some entries) × HasEntries blocks v (numbers_by_file (most_blocks row) fields (numbers_in row body)) entries) [
        | None ↦ λ is. absurd (false≢true (sym (blocks-left version row body blocks v fields read is spelled) ∙ good))
        | Some entries ↦ λ is.
            let m = mapped (λ (tree : Tree StoredFile). names_of entries) (image.tree_of_entries entries) v (sym (body-agrees version row body blocks entries long is) ∙ read) in (
              entries,
              refl,
              record {
                tree = m.0;
                made = m.1;
                names = m.2;
                contents = subst (λ (files : List (Option image.Entry)). HasContents blocks (numbers_by_file (most_blocks row) fields (numbers_in row body)) files) (files-are fields entries spelled is)
                    (contents-are (most_blocks row) blocks (numbers_in row body) fields);
              },
            )
      ]) refl

  -- where no tree is read, entries make none
  no-tree : length blocks ≡ 1024 * row.quota → tree_in_version version row.files row.directories body ≡ None → if_tree (image.entries_of_body version row body blocks) ≡ None
  no-tree long none =
      (elim (image.entries_of_body version row body blocks) as (λ o. image.entries_of_body version row body blocks ≡ o → if_tree o ≡ None) [
        | None ↦ λ is. refl
        | Some entries ↦ λ is.
            let lost = mapped-none (λ (tree : Tree StoredFile). names_of entries) (image.tree_of_entries entries) (sym (body-agrees version row body blocks entries long is) ∙ none) in
            ap (λ (o : Option (Tree StoredFile)). elim o [ None ↦ None | Some tree ↦ Some entries ]) lost
      ]) refl

-- ---- by the header

module _ (row : TreeRow) (body blocks : List ℕ) where
  abbrev by_header : Option (ℕ × ℕ) → Option image.Entries
  by_header header = elim header [ None ↦ None | Some h ↦ if_tree (image.entries_of_body h.1 row body blocks) ]

  pub no-header : header_of (take 64 body) ≡ None → entries_in_body row body blocks ≡ None
  no-header h = ap by_header h

  pub no-tree-there : length blocks ≡ 1024 * row.quota → tree_in_body row.files row.directories body ≡ None → entries_in_body row body blocks ≡ None
  no-tree-there long =
      (elim (header_of (take 64 body)) as (λ o. tree_by o row.files row.directories body ≡ None → by_header o ≡ None) [
        | None ↦ λ none. refl
        | Some h ↦ λ none. no-tree h.1 row body blocks long none
      ])

  pub no-table-there : (sequence version : ℕ) → header_of (take 64 body) ≡ Some (sequence, version) → HasNoTable version row body → entries_in_body row body blocks ≡ None
  no-table-there sequence version h none = ap by_header h ∙ ap if_tree (no-entries version row body blocks none)
