-- The region of an empty tree stands for an empty tree.
use Rattle.std.proofs.Common.{◌≡◌, ◌≢◌, ℕ, zero, suc, ◌+◌, ◌-◌, ◌*◌, ◌<◌, ◌≤◌, Bool, true, ◌&&◌, List, [], ◌∷◌, length, take, drop, Option, Some, None, option_map, refl, sym, ◌∙◌, ap, arith, replicate}
use Rattle.std.proofs.lemmas.Bool.Decides.{nat_tests}
use Rattle.std.proofs.lemmas.List.{ext_get_or, get_or-take, length-take-le, get_or-replicate}
use Rattle.std.specs.Prelude.{slice_index, if◌then◌else◌, nat_le, sum_by, map}
use Rattle.std.specs.List.{range_with_len, list_all}
use Rattle.apex_types.specs.declared.fields.FileEntryField.{FileEntryField}
use Rattle.apex_types.specs.declared.fields.FileEntryField.TheVariants.{Unused}
use Rattle.apex_types.specs.declared.rows.TreeRow.{TreeRow}
use Rattle.apex_model.specs.Durable.{StoredFile}
use Rattle.apex_model.specs.Fields.{part, header_of, entry_of_bytes, number_of, is_padding}
use Rattle.apex_model.specs.Files.{blocks_of}
use Rattle.apex_model.specs.Image.{Slot, closed, numbered, newest, slot_at, blocks_at, all_answers, Entry, Entries, placed, tree_of_entries, size_of_field, file_entries, directory_entry, entry_bytes, block_number, are_distinct, has_good_blocks, entries_of_fields, entries_of_body, leading_records, replayed, tree_in_version, tree_in_slot, tree_of_region}
use Rattle.apex_model.specs.Layout.{body_blocks, slot_blocks, tree_blocks}
use Rattle.apex_model.specs.Trees.{Node, Tree}
use Rattle.image_laws.specs.EmptyImage.{IsEmptyTree, AreZeros}
use Rattle.image_laws.proofs.Zeros.{byte-part, length-part, part_zeros, drop_zeros, padding_zeros, slot_open, slot_closed, not_open, same_answers, same_values}

abbrev no_entry : Option Entry
no_entry = None

-- the entries of a body that has none
abbrev no_entries : TreeRow → Entries
no_entries row = record { files = replicate row.files no_entry; directories = replicate row.directories no_entry }

-- ---- what fields that are not used make

no_blocks : (n : ℕ) → sum_by (λ field. blocks_of (size_of_field field)) (replicate n Unused) ≡ 0
no_blocks zero = refl
no_blocks (suc n) = no_blocks n

small_sizes : (n : ℕ) → list_all (λ field. nat_le (size_of_field field) 1048576) (replicate n Unused) ≡ true
small_sizes zero = refl
small_sizes (suc n) = small_sizes n

small_numbers : (limit n : ℕ) → list_all (λ m. nat_le m limit) (replicate n 0) ≡ true
small_numbers limit zero = refl
small_numbers limit (suc n) =
    let low : nat_le 0 limit ≡ true = grind (arith, nat_tests) in
    ap (λ (b : Bool). b && list_all (λ m. nat_le m limit) (replicate n 0)) low ∙ small_numbers limit n

distinct_zeros : (n : ℕ) → are_distinct (replicate n 0) ≡ true
distinct_zeros zero = refl
distinct_zeros (suc n) = distinct_zeros n

no_files : (blocks numbers : List ℕ) (n : ℕ) → file_entries blocks numbers (replicate n Unused) ≡ replicate n no_entry
no_files blocks numbers zero = refl
no_files blocks numbers (suc n) = ap (λ (es : List (Option Entry)). None ∷ es) (no_files blocks numbers n)

abbrev with_directory : Option (Option Entry) → Option (List (Option Entry)) → Option (List (Option Entry))
with_directory o later = elim o [ None ↦ None | Some x ↦ option_map (λ xs. x ∷ xs) later ]

no_directories : (n : ℕ) → all_answers directory_entry (replicate n Unused) ≡ Some (replicate n no_entry)
no_directories zero = refl
no_directories (suc n) = ap (with_directory (Some None)) (no_directories n)

nothing_placed : (node : Entry → Node StoredFile) (directories : List (Option Entry)) (n : ℕ) (tree : Option (Tree StoredFile)) → placed node directories (replicate n no_entry) tree ≡ tree
nothing_placed node directories zero tree = refl
nothing_placed node directories (suc n) tree = nothing_placed node directories n tree

six : (a b c d e f : Bool) → a ≡ true → b ≡ true → c ≡ true → d ≡ true → e ≡ true → f ≡ true → (a && b && c && d && e && f) ≡ true
six a b c d e f p q r s t u = grind (arith, nat_tests)

module _ (row : TreeRow) where
  abbrev unused : List FileEntryField
  unused = replicate row.files Unused

  abbrev zero_numbers : List ℕ
  zero_numbers = replicate row.quota 0

  good_blocks : (n : ℕ) → has_good_blocks row unused zero_numbers (replicate n 0) ≡ true
  good_blocks n =
      let none = no_blocks row.files in
      let room : nat_le (sum_by (λ field. blocks_of (size_of_field field)) unused) row.quota ≡ true = grind (arith, nat_tests) in
      let behind : is_padding (drop (sum_by (λ field. blocks_of (size_of_field field)) unused) zero_numbers) ≡ true =
      ap (λ (m : ℕ). is_padding (drop m zero_numbers)) none ∙ padding_zeros row.quota in
      six (list_all (λ field. nat_le (size_of_field field) 1048576) unused) (nat_le (sum_by (λ field. blocks_of (size_of_field field)) unused) row.quota) (list_all (λ m. nat_le m (2 * row.quota)) zero_numbers) (are_distinct zero_numbers)
      (is_padding (drop (sum_by (λ field. blocks_of (size_of_field field)) unused) zero_numbers)) (is_padding (replicate n 0))
      (small_sizes row.files) room (small_numbers (2 * row.quota) row.quota) (distinct_zeros row.quota) behind (padding_zeros n)

  -- fields that are not used make no entries
  no_fields : (blocks : List ℕ) (n : ℕ) → entries_of_fields row blocks zero_numbers (replicate n 0) unused (replicate row.directories Unused) ≡ Some (no_entries row)
  no_fields blocks n =
      let made : Option (List (Option Entry)) → Option Entries = λ o. option_map (λ entries. record { files = file_entries blocks zero_numbers unused; directories = entries }) o in
      ap (λ (b : Bool). if b then made (all_answers directory_entry (replicate row.directories Unused)) else None) (good_blocks n)
      ∙ ap made (no_directories row.directories)
      ∙ ap (λ (files : List (Option Entry)). let o : Option Entries = Some (record { files = files; directories = replicate row.directories no_entry }) in o) (no_files blocks zero_numbers row.files)

  -- and these no tree
  no_tree : tree_of_entries (no_entries row) ≡ Some []
  no_tree =
      let none : List (Option Entry) = replicate row.directories no_entry in
      nothing_placed (λ entry. Node.file entry.stored) none row.files (placed (λ entry. Node.directory) none none (Some [])) ∙ nothing_placed (λ entry. Node.directory) none row.directories (Some [])

-- ---- a body of zeros behind its sequence number and version

zero_entry : entry_of_bytes 2 (replicate 128 0) ≡ Some Unused
zero_entry = refl

zero_number : number_of (replicate 4 0) ≡ 0
zero_number = refl

empty_header : header_of (0 ∷ 2 ∷ replicate 62 0) ≡ Some (0, 2)
empty_header = refl

-- the body's first two bytes, and zeros behind
record IsEmptyBody (row : TreeRow) (body : List ℕ) : Type 0 where
  long : length body ≡ 512 * body_blocks row
  sequence : slice_index body 0 ≡ 0
  version : slice_index body 1 ≡ 2
  rest : AreZeros 2 (512 * body_blocks row) body

-- an entry of a body by its bytes
abbrev by_files : TreeRow → List ℕ → List ℕ → Option (List FileEntryField) → Option Entries
by_files row body blocks o = elim o [
  | None ↦ None
  | Some files ↦ elim (all_answers (λ k. entry_of_bytes 2 (entry_bytes body k)) (range_with_len row.files row.directories)) [
    | None ↦ None
    | Some directories ↦ entries_of_fields row blocks
        (map (block_number body (row.files + row.directories)) (range_with_len 0 row.quota))
        (drop (64 + 128 * (row.files + row.directories) + 4 * row.quota) body)
        files directories
  ]
]

abbrev by_directories : TreeRow → List ℕ → List ℕ → Option (List FileEntryField) → Option Entries
by_directories row body blocks o = elim o [
  | None ↦ None
  | Some directories ↦ entries_of_fields row blocks
      (map (block_number body (row.files + row.directories)) (range_with_len 0 row.quota))
      (drop (64 + 128 * (row.files + row.directories) + 4 * row.quota) body)
      (replicate row.files Unused) directories
]

module _ (row : TreeRow) (body : List ℕ) (empty : IsEmptyBody row body) where
  abbrev spelled : ℕ
  spelled = 64 + 128 * (row.files + row.directories) + 4 * row.quota

  has_room : spelled ≤ 512 * body_blocks row
  has_room = omega arith

  header_byte : (k : ℕ) → k < 64 → slice_index (take 64 body) k ≡ slice_index (0 ∷ 2 ∷ replicate 62 0) k
  header_byte zero low = get_or-take 64 body 0 0 low ∙ empty.sequence
  header_byte (suc zero) low = get_or-take 64 body 1 0 low ∙ empty.version
  header_byte (suc (suc j)) low =
      let room = has_room in
      get_or-take 64 body (suc (suc j)) 0 low ∙ empty.rest (suc (suc j)) (omega arith) (omega arith) ∙ sym (get_or-replicate 62 j 0 0 (omega arith))

  header_is : header_of (take 64 body) ≡ Some (0, 2)
  header_is =
      let room = has_room in
      let long = empty.long in
      let short : length (take 64 body) ≡ 64 = length-take-le 64 body (omega arith) in
      ap header_of (ext_get_or 0 (take 64 body) (0 ∷ 2 ∷ replicate 62 0) short (λ k low. header_byte k (omega (arith, low, short)))) ∙ empty_header

  unused_entry : (k : ℕ) → k < row.files + row.directories → entry_of_bytes 2 (entry_bytes body k) ≡ Some Unused
  unused_entry k low =
      let room = has_room in
      let long = empty.long in
      ap (entry_of_bytes 2) (part_zeros body (64 + 128 * k) 128 (omega arith) (λ j from to. empty.rest j (omega arith) (omega arith))) ∙ zero_entry

  zero_block : (k : ℕ) → k < row.quota → block_number body (row.files + row.directories) k ≡ 0
  zero_block k low =
      let room = has_room in
      let long = empty.long in
      ap number_of (part_zeros body (64 + 128 * (row.files + row.directories) + 4 * k) 4 (omega arith) (λ j from to. empty.rest j (omega arith) (omega arith))) ∙ zero_number

  zero_rest : drop spelled body ≡ replicate (length body - spelled) 0
  zero_rest = drop_zeros body spelled (λ j from to. empty.rest j (omega arith) (omega (arith, to, empty.long)))

  body_is : (blocks : List ℕ) → entries_of_body 2 row body blocks ≡ Some (no_entries row)
  body_is blocks =
      ap (by_files row body blocks) (same_answers (λ k. entry_of_bytes 2 (entry_bytes body k)) Unused 0 row.files (λ k from to. unused_entry k (omega (arith, to))))
      ∙ ap (by_directories row body blocks) (same_answers (λ k. entry_of_bytes 2 (entry_bytes body k)) Unused row.files row.directories (λ k from to. unused_entry k (omega (arith, to))))
      ∙ ap (λ (numbers : List ℕ). entries_of_fields row blocks numbers (drop spelled body) (replicate row.files Unused) (replicate row.directories Unused))
      (same_values (block_number body (row.files + row.directories)) 0 0 row.quota (λ k from to. zero_block k (omega (arith, to))))
      ∙ ap (λ (rest : List ℕ). entries_of_fields row blocks (replicate row.quota 0) rest (replicate row.files Unused) (replicate row.directories Unused)) zero_rest
      ∙ no_fields row blocks (length body - spelled)

-- ---- the region

abbrev by_slot : TreeRow → List ℕ → Option ℕ → Option (Tree StoredFile)
by_slot row region o = elim o [ None ↦ None | Some slot ↦ tree_in_slot row region (slot * slot_blocks row) ]

abbrev by_header : TreeRow → List ℕ → ℕ → Option (ℕ × ℕ) → Option (Tree StoredFile)
by_header row region gate o = elim o [ None ↦ None | Some header ↦ tree_in_version header.1 row region gate ]

-- the tree of some entries, which must make a tree, once records are replayed
abbrev replayed_tree : ℕ → List (List ℕ) → Entries → Option (Tree StoredFile) → Option (Tree StoredFile)
replayed_tree version bodies entries o = elim o [
  | None ↦ None
  | Some tree ↦ elim (replayed version bodies (Some entries)) [
    | None ↦ None
    | Some after ↦ tree_of_entries after
  ]
]

abbrev by_entries : ℕ → List (List ℕ) → Option Entries → Option (Tree StoredFile)
by_entries version bodies o = elim o [
  | None ↦ None
  | Some entries ↦ elim (tree_of_entries entries) [
    | None ↦ None
    | Some tree ↦ elim (replayed version bodies (Some entries)) [
      | None ↦ None
      | Some after ↦ tree_of_entries after
    ]
  ]
]

abbrev after_records : Option Entries → Option (Tree StoredFile)
after_records o = elim o [ None ↦ None | Some after ↦ tree_of_entries after ]

-- no record leads where the first gate is closed
no_records : (journal : List ℕ) → slice_index journal 0 ≢ 165 → leading_records 32 journal ≡ []
no_records journal shut = ap (λ (b : Bool). if b then blocks_at journal 1 1 ∷ leading_records 31 (drop 1024 journal) else []) (not_open journal 0 shut)

module _ (row : TreeRow) (first : ℕ) (image : List ℕ) (fits : first + 512 * tree_blocks row ≤ length image) (empty : IsEmptyTree row first image) where
  abbrev region : List ℕ
  region = part image first (512 * tree_blocks row)

  abbrev body : List ℕ
  body = blocks_at region 1 (body_blocks row)

  there : (k : ℕ) → k < 512 * tree_blocks row → slice_index region k ≡ slice_index image (first + k)
  there k low = byte-part image first (512 * tree_blocks row) k low

  some_body : 0 < body_blocks row
  some_body = omega arith

  first_slot : slot_at region 0 ≡ numbered 0
  first_slot =
      let some = some_body in
      slot_open region 0 0 (there 0 (omega arith) ∙ ap (slice_index image) (omega arith) ∙ empty.opened) (there 512 (omega arith) ∙ empty.sequence)

  second_slot : slot_at region (slot_blocks row) ≡ closed
  second_slot =
      let some = some_body in
      slot_closed region (slot_blocks row) (λ opened. empty.other (sym (there (512 * slot_blocks row) (omega arith)) ∙ opened))

  empty_body : IsEmptyBody row body
  empty_body =
      let some = some_body in
      let long = length-part image first (512 * tree_blocks row) fits in
      record {
        long = length-part region 512 (512 * body_blocks row) (omega arith);
        sequence = byte-part region 512 (512 * body_blocks row) 0 (omega arith) ∙ there 512 (omega arith) ∙ empty.sequence;
        version = byte-part region 512 (512 * body_blocks row) 1 (omega arith) ∙ there 513 (omega arith) ∙ empty.version;
        rest = λ k from to. byte-part region 512 (512 * body_blocks row) k to ∙ there (512 + k) (omega arith) ∙ empty.body (first + (512 + k)) (omega arith) (omega arith);
      }

  -- its tree
  pub empty_tree : tree_of_region row region ≡ Some []
  unfolding tree_of_region
  empty_tree =
      let some = some_body in
      let blocks = drop (512 * (2 * slot_blocks row)) region in
      let journal = blocks_at region (1 + body_blocks row) 64 in
      let shut : slice_index journal 0 ≢ 165 = λ opened. empty.journal 0 (omega arith)
      (ap (slice_index image) (omega arith) ∙ sym (there (512 * (1 + body_blocks row) + 0) (omega arith)) ∙ sym (byte-part region (512 * (1 + body_blocks row)) 32768 0 (omega arith)) ∙ opened) in
      let none : 0 * slot_blocks row ≡ 0 = omega arith in
      ap (λ (s : Slot). by_slot row region (newest s (slot_at region (slot_blocks row)))) first_slot
      ∙ ap (λ (s : Slot). by_slot row region (newest (numbered 0) s)) second_slot
      ∙ ap (tree_in_slot row region) none
      ∙ ap (by_header row region 0) (header_is row body empty_body)
      ∙ ap (by_entries 2 (leading_records 32 journal)) (body_is row body empty_body blocks)
      ∙ ap (replayed_tree 2 (leading_records 32 journal) (no_entries row)) (no_tree row)
      ∙ ap (λ (bodies : List (List ℕ)). after_records (replayed 2 bodies (Some (no_entries row)))) (no_records journal shut)
      ∙ no_tree row
