-- Data blocks that no file of the newest slot has are no part of the tree.
use Rattle.std.proofs.Common.{◌≡◌, ℕ, zero, suc, ◌+◌, ◌-◌, ◌*◌, ◌<◌, ◌≤◌, Bool, true, false, ◌||◌, List, [], ◌∷◌, ◌++◌, length, take, drop, Option, Some, None, option_map, refl, sym, ◌∙◌, ap, subst, arith, replicate, inl, inr}
use Rattle.std.proofs.lemmas.Bool.{cases_eq}
use Rattle.std.proofs.lemmas.Bool.Decides.{nat_tests}
use Rattle.std.proofs.lemmas.List.{places, ext_get_or, length-drop, get_or-drop}
use Rattle.std.specs.Prelude.{slice_index, if◌then◌else◌, ◌==◌, nat_lt, map, flat_map, Contains}
use Rattle.std.specs.List.{range_with_len, AllByRecursion}
use Rattle.apex_types.specs.declared.fields.FileEntryField.{FileEntryField}
use Rattle.apex_types.specs.declared.fields.FileEntryField.TheVariants.{Unused, Used}
use Rattle.apex_types.specs.declared.rows.TreeRow.{TreeRow}
use Rattle.apex_model.specs.Durable.{StoredFile}
use Rattle.apex_model.specs.Fields.{part, header_of, entry_of_bytes}
use Rattle.apex_model.specs.Files.{Content, blocks_of}
use Rattle.apex_model.specs.Image.{Slot, closed, numbered, newest, follows, slot_at, blocks_at, all_answers, Entry, Entries, tree_of_entries, data_block, joined, file_entries, directory_entry, entry_bytes, block_number, has_good_blocks, entries_of_fields, entries_of_body, leading_records, replayed, tree_in_version, tree_in_slot, tree_of_region}
use Rattle.apex_model.specs.Layout.{body_blocks, slot_blocks}
use Rattle.apex_model.specs.Trees.{Tree}
use Rattle.image_laws.specs.Laws.{UnnamedBlocksDontMatter}
use Rattle.image_laws.specs.NamedBlocks.{listed_files, listed_of_fields, listed_of_body, numbers_of_entry, numbers_of, listed_in_version, named_in_slot, named_blocks, SameButUnnamed}
use Rattle.image_laws.proofs.MappedEntries.{mapped_entry, mapped_files, mapped, mapped_tree, tree_mapped, replayed_mapped}
use Rattle.image_laws.proofs.Zeros.{byte-part}

-- ---- listed contents stand for bytes

-- the bytes of a content by its size and the numbers of its blocks
abbrev spelled : List ℕ → Content → Content
spelled blocks [] = []
spelled blocks (size ∷ numbers) = joined blocks numbers size

files_spelled : (blocks numbers : List ℕ) (fields : List FileEntryField) → file_entries blocks numbers fields ≡ mapped_files (spelled blocks) (listed_files numbers fields)
files_spelled blocks numbers [] = refl
files_spelled blocks numbers (Unused ∷ fields) = ap (λ (es : List (Option Entry)). None ∷ es) (files_spelled blocks numbers fields)
files_spelled blocks numbers (Used name parent size changes ∷ fields) =
    let entry : Entry = record { name = name; parent = parent.0; stored = record { content = joined blocks (take (blocks_of size) numbers) size; changes = changes } } in
    ap (λ (es : List (Option Entry)). Some entry ∷ es) (files_spelled blocks (drop (blocks_of size) numbers) fields)

module _ (g : Content → Content) where
  abbrev if_good : Bool → List (Option Entry) → Option (List (Option Entry)) → Option Entries
  if_good good files o = if good then option_map (λ entries. record { files = files; directories = entries }) o else None

  good_mapped : (good : Bool) (files listed : List (Option Entry)) (o : Option (List (Option Entry))) → files ≡ mapped_files g listed
      → if_good good files o ≡ option_map (mapped g) (if_good good listed o)
  good_mapped false files listed o e = refl
  good_mapped true files listed None e = refl
  good_mapped true files listed (Some directories) e = ap (λ (fs : List (Option Entry)). if_good true fs (Some directories)) e

fields_spelled : (row : TreeRow) (blocks numbers rest : List ℕ) (files directories : List FileEntryField)
    → entries_of_fields row blocks numbers rest files directories ≡ option_map (mapped (spelled blocks)) (listed_of_fields row numbers rest files directories)
fields_spelled row blocks numbers rest files directories =
    good_mapped (spelled blocks) (has_good_blocks row files numbers rest) (file_entries blocks numbers files) (listed_files numbers files) (all_answers directory_entry directories) (files_spelled blocks numbers files)

answers_spelled : (row : TreeRow) (blocks numbers rest : List ℕ) (p q : Option (List FileEntryField))
    → (let o : Option Entries = elim p [ None ↦ None | Some files ↦ elim q [ None ↦ None | Some directories ↦ entries_of_fields row blocks numbers rest files directories ] ] in o)
    ≡ option_map (mapped (spelled blocks)) (let o : Option Entries = elim p [ None ↦ None | Some files ↦ elim q [ None ↦ None | Some directories ↦ listed_of_fields row numbers rest files directories ] ] in o)
answers_spelled row blocks numbers rest None q = refl
answers_spelled row blocks numbers rest (Some files) None = refl
answers_spelled row blocks numbers rest (Some files) (Some directories) = fields_spelled row blocks numbers rest files directories

body_spelled : (version : ℕ) (row : TreeRow) (body blocks : List ℕ) → entries_of_body version row body blocks ≡ option_map (mapped (spelled blocks)) (listed_of_body version row body)
body_spelled version row body blocks =
    answers_spelled row blocks (map (block_number body (row.files + row.directories)) (range_with_len 0 row.quota)) (drop (64 + 128 * (row.files + row.directories) + 4 * row.quota) body)
    (all_answers (λ k. entry_of_bytes version (entry_bytes body k)) (range_with_len 0 row.files)) (all_answers (λ k. entry_of_bytes version (entry_bytes body k)) (range_with_len row.files row.directories))

-- ---- the tree of listed entries

module _ (version : ℕ) (bodies : List (List ℕ)) where
  abbrev tree_by : (Entries → Option (Tree StoredFile)) → Option Entries → Option (Tree StoredFile)
  tree_by last o = elim o [
    | None ↦ None
    | Some entries ↦ elim (tree_of_entries entries) [
      | None ↦ None
      | Some tree ↦ elim (replayed version bodies (Some entries)) [
        | None ↦ None
        | Some after ↦ last after
      ]
    ]
  ]

  abbrev last_by : (Entries → Option (Tree StoredFile)) → Option Entries → Option (Tree StoredFile) → Option (Tree StoredFile)
  last_by last after o = elim o [ None ↦ None | Some tree ↦ elim after [ None ↦ None | Some e ↦ last e ] ]

  last_mapped : (g : Content → Content) (after listed : Option Entries) (o : Option (Tree StoredFile)) → after ≡ option_map (mapped g) listed
      → last_by tree_of_entries after (option_map (mapped_tree g) o) ≡ last_by (λ e. tree_of_entries (mapped g e)) listed o
  last_mapped g after listed None e = refl
  last_mapped g after None (Some tree) e = ap (λ (a : Option Entries). last_by tree_of_entries a (Some (mapped_tree g tree))) e
  last_mapped g after (Some listed) (Some tree) e = ap (λ (a : Option Entries). last_by tree_of_entries a (Some (mapped_tree g tree))) e

  tree_by_mapped : (g : Content → Content) → g [] ≡ [] → (o : Option Entries) → tree_by tree_of_entries (option_map (mapped g) o) ≡ tree_by (λ e. tree_of_entries (mapped g e)) o
  tree_by_mapped g none None = refl
  tree_by_mapped g none (Some entries) =
      ap (last_by tree_of_entries (replayed version bodies (Some (mapped g entries)))) (tree_mapped g entries)
      ∙ last_mapped g (replayed version bodies (Some (mapped g entries))) (replayed version bodies (Some entries)) (tree_of_entries entries) (replayed_mapped g none version bodies (Some entries))

  last_same : (f h : Entries → Option (Tree StoredFile)) (after : Option Entries) (o : Option (Tree StoredFile)) → ((e : Entries) → after ≡ Some e → f e ≡ h e) → last_by f after o ≡ last_by h after o
  last_same f h after None same = refl
  last_same f h None (Some tree) same = refl
  last_same f h (Some e) (Some tree) same = same e refl

  tree_by_same : (f h : Entries → Option (Tree StoredFile)) (o : Option Entries) → ((e : Entries) → replayed version bodies o ≡ Some e → f e ≡ h e) → tree_by f o ≡ tree_by h o
  tree_by_same f h None same = refl
  tree_by_same f h (Some entries) same = last_same f h (replayed version bodies (Some entries)) (tree_of_entries entries) same

-- ---- the contents of named blocks

all_left : {A : Type 0} (P : A → Type 0) (xs ys : List A) → AllByRecursion P (xs ++ ys) → AllByRecursion P xs
all_left P [] ys all = tt
all_left P (x ∷ xs) ys all = (all.0, all_left P xs ys all.1)

all_right : {A : Type 0} (P : A → Type 0) (xs ys : List A) → AllByRecursion P (xs ++ ys) → AllByRecursion P ys
all_right P [] ys all = all
all_right P (x ∷ xs) ys all = all_right P xs ys all.1

all_contained : (P : ℕ → Type 0) (xs : List ℕ) → ((n : ℕ) → Contains xs n → P n) → AllByRecursion P xs
all_contained P [] each = tt
all_contained P (x ∷ xs) each = (each x (0, omega arith, refl), all_contained P xs (λ n there. each n (suc there.0, omega (arith, there.1), there.2)))

module _ (a b : List ℕ) where
  abbrev IsSameBlock : ℕ → Type 0
  IsSameBlock n = data_block a n ≡ data_block b n

  blocks_same : (numbers : List ℕ) → AllByRecursion IsSameBlock numbers → flat_map (data_block a) numbers ≡ flat_map (data_block b) numbers
  blocks_same [] same = refl
  blocks_same (n ∷ numbers) same =
      ap (λ (front : List ℕ). front ++ flat_map (data_block a) numbers) same.0
      ∙ ap (λ (rest : List ℕ). data_block b n ++ rest) (blocks_same numbers same.1)

  content_same : (content : Content) → AllByRecursion IsSameBlock (drop 1 content) → spelled a content ≡ spelled b content
  content_same [] same = refl
  content_same (size ∷ numbers) same = ap (take size) (blocks_same numbers same)

  files_same : (files : List (Option Entry)) → AllByRecursion IsSameBlock (flat_map numbers_of_entry files) → mapped_files (spelled a) files ≡ mapped_files (spelled b) files
  files_same [] same = refl
  files_same (None ∷ files) same = ap (λ (es : List (Option Entry)). None ∷ es) (files_same files same)
  files_same (Some entry ∷ files) same =
      ap (λ (content : Content). let e : Entry = record { name = entry.name; parent = entry.parent; stored = record { content = content; changes = entry.stored.changes } } in Some e ∷ mapped_files (spelled a) files)
      (content_same entry.stored.content (all_left IsSameBlock (drop 1 entry.stored.content) (flat_map numbers_of_entry files) same))
      ∙ ap (λ (es : List (Option Entry)). Some (mapped_entry (spelled b) entry) ∷ es) (files_same files (all_right IsSameBlock (drop 1 entry.stored.content) (flat_map numbers_of_entry files) same))

  mapped_same : (entries : Entries) → AllByRecursion IsSameBlock (numbers_of (Some entries)) → mapped (spelled a) entries ≡ mapped (spelled b) entries
  mapped_same entries same = ap (λ (files : List (Option Entry)). let e : Entries = record { files = files; directories = entries.directories } in e) (files_same entries.files same)

  -- the tree of a version by the same body and journal over other blocks
  over_same_blocks : (version : ℕ) (bodies : List (List ℕ)) (row : TreeRow) (body : List ℕ)
      → AllByRecursion IsSameBlock (numbers_of (replayed version bodies (listed_of_body version row body)))
      → tree_by version bodies tree_of_entries (entries_of_body version row body a) ≡ tree_by version bodies tree_of_entries (entries_of_body version row body b)
  over_same_blocks version bodies row body same =
      let listed = listed_of_body version row body in
      let P : Option Entries → Type 0 = λ o. AllByRecursion IsSameBlock (numbers_of o) in
      ap (tree_by version bodies tree_of_entries) (body_spelled version row body a)
      ∙ tree_by_mapped version bodies (spelled a) refl listed
      ∙ tree_by_same version bodies (λ e. tree_of_entries (mapped (spelled a) e)) (λ e. tree_of_entries (mapped (spelled b) e)) listed
      (λ e is. ap tree_of_entries (mapped_same e (subst P is same)))
      ∙ sym (tree_by_mapped version bodies (spelled b) refl listed)
      ∙ sym (ap (tree_by version bodies tree_of_entries) (body_spelled version row body b))

-- ---- places

part_same : (a b : List ℕ) (at n : ℕ) → length a ≡ length b → ((k : ℕ) → k < n → slice_index a (at + k) ≡ slice_index b (at + k)) → part a at n ≡ part b at n
part_same a b at n long same =
    ext_get_or 0 (part a at n) (part b at n) (grind (arith, places)) (λ k low.
    let within : k < n = grind (arith, places) in
    byte-part a at n k within ∙ same k within ∙ sym (byte-part b at n k within))

if_some : (b : Bool) (n s : ℕ) → (let o : Option ℕ = if b then None else Some n in o) ≡ Some s → n ≡ s
if_some true n s e = absurd cc
if_some false n s e = cc

newer_low : (a b c : Bool) (s : ℕ) → (let o : Option ℕ = if a then None else if b then Some 0 else if c then Some 1 else None in o) ≡ Some s → s ≤ 1
newer_low true b c s e = absurd cc
newer_low false true c s e = let is : 0 ≡ s = cc in omega arith
newer_low false false true s e = let is : 1 ≡ s = cc in omega arith
newer_low false false false s e = absurd cc

newest_low : (a b : Slot) (s : ℕ) → newest a b ≡ Some s → s ≤ 1
newest_low closed closed s e = absurd cc
newest_low (numbered m) closed s e = let is = if_some (nat_lt 2 m) 0 s e in omega arith
newest_low closed (numbered n) s e = let is = if_some (nat_lt 2 n) 1 s e in omega arith
newest_low (numbered m) (numbered n) s e = newer_low (nat_lt 2 m || nat_lt 2 n) (follows m n) (follows n m) s e

abbrev chosen : {A X : Type 0} → (A → Option X) → Option A → Option X
chosen f o = elim o [ None ↦ None | Some a ↦ f a ]

chosen_same : {A X : Type 0} (o : Option A) (f g : A → Option X) → ((a : A) → o ≡ Some a → f a ≡ g a) → chosen f o ≡ chosen g o
chosen_same None f g same = refl
chosen_same (Some a) f g same = same a refl

-- the names by the newest slot, and by a body and a journal
abbrev listed : {A : Type 0} → (A → List ℕ) → Option A → List ℕ
listed f o = elim o [ None ↦ [] | Some a ↦ f a ]

listed_same : {A : Type 0} (o : Option A) (f g : A → List ℕ) → ((a : A) → o ≡ Some a → f a ≡ g a) → listed f o ≡ listed g o
listed_same None f g same = refl
listed_same (Some a) f g same = same a refl

abbrev named_by : TreeRow → List ℕ → List ℕ → List ℕ
named_by row body journal = elim (header_of (take 64 body)) [ None ↦ [] | Some header ↦ numbers_of (replayed header.1 (leading_records 32 journal) (listed_of_body header.1 row body)) ]

low_gate : (s m : ℕ) → s ≤ 1 → s * m ≤ m
low_gate zero m low = omega arith
low_gate (suc zero) m low = omega arith
low_gate (suc (suc s)) m low = absurd (omega (arith, low))

-- the names of the newest slot
named_of_slot : (row : TreeRow) (region : List ℕ) (s : ℕ) → newest (slot_at region 0) (slot_at region (slot_blocks row)) ≡ Some s → named_blocks row region ≡ named_in_slot row region (s * slot_blocks row)
unfolding named_blocks
named_of_slot row region s is = ap (λ (o : Option ℕ). let ns : List ℕ = elim o [ None ↦ [] | Some slot ↦ named_in_slot row region (slot * slot_blocks row) ] in ns) is

-- the bytes of both slots are the same
module _ (row : TreeRow) (old new : List ℕ) (long : length new ≡ length old) (slots : (k : ℕ) → k < 512 * (2 * slot_blocks row) → slice_index new k ≡ slice_index old k) where
  slots_part : (block count : ℕ) → block + count ≤ 2 * slot_blocks row → blocks_at new block count ≡ blocks_at old block count
  slots_part block count fits = part_same new old (512 * block) (512 * count) long (λ k low. slots (512 * block + k) (omega (arith, low, fits)))

  gates_same : (block : ℕ) → block ≤ slot_blocks row → slot_at new block ≡ slot_at old block
  gates_same block low =
      ap (λ (g : ℕ). if g == 165 then numbered (slice_index new (512 * (block + 1))) else closed) (slots (512 * block) (omega (arith, low)))
      ∙ ap (λ (n : ℕ). if slice_index old (512 * block) == 165 then numbered n else closed) (slots (512 * (block + 1)) (omega (arith, low)))

  module _ (gate : ℕ) (low : gate ≤ slot_blocks row) where
    body_same : blocks_at new (gate + 1) (body_blocks row) ≡ blocks_at old (gate + 1) (body_blocks row)
    body_same = slots_part (gate + 1) (body_blocks row) (omega (arith, low))

    journal_same : blocks_at new (gate + 1 + body_blocks row) 64 ≡ blocks_at old (gate + 1 + body_blocks row) 64
    journal_same = slots_part (gate + 1 + body_blocks row) 64 (omega (arith, low))

    slot_names : named_in_slot row new gate ≡ named_in_slot row old gate
    slot_names =
        ap (λ (b : List ℕ). named_by row b (blocks_at new (gate + 1 + body_blocks row) 64)) body_same
        ∙ ap (named_by row (blocks_at old (gate + 1) (body_blocks row))) journal_same

  -- what the newest slot names is told by the slots
  pub names_same : named_blocks row new ≡ named_blocks row old
  unfolding named_blocks
  names_same =
      let first = slot_at old 0 in
      let second = slot_at old (slot_blocks row) in
      let after : List ℕ → ℕ → List ℕ = λ region slot. named_in_slot row region (slot * slot_blocks row) in
      ap (λ (s : Slot). listed (after new) (newest s (slot_at new (slot_blocks row)))) (gates_same 0 (omega arith))
      ∙ ap (λ (s : Slot). listed (after new) (newest first s)) (gates_same (slot_blocks row) (omega arith))
      ∙ listed_same (newest first second) (after new) (after old) (λ slot is. slot_names (slot * slot_blocks row) (low_gate slot (slot_blocks row) (newest_low first second slot is)))

module _ (row : TreeRow) (old new : List ℕ) (same : SameButUnnamed row old new) where
  abbrev data_of : List ℕ → List ℕ
  data_of region = drop (512 * (2 * slot_blocks row)) region

  abbrev named_from : List ℕ → Type 0
  named_from numbers = (n : ℕ) → Contains numbers n → Contains (named_blocks row old) n

  block_same : (n : ℕ) → Contains (named_blocks row old) n → data_block (data_of new) n ≡ data_block (data_of old) n
  block_same n named = elim (cases_eq n 0) [
    | inl none ↦ ap (data_block (data_of new)) none ∙ sym (ap (data_block (data_of old)) none)
    | inr some ↦
        let long : length (data_of new) ≡ length (data_of old) = length-drop (512 * (2 * slot_blocks row)) new ∙ ap (λ (m : ℕ). m - 512 * (2 * slot_blocks row)) same.long ∙ sym (length-drop (512 * (2 * slot_blocks row)) old) in
        let bytes : part (data_of new) (512 * (n - 1)) 512 ≡ part (data_of old) (512 * (n - 1)) 512 = part_same (data_of new) (data_of old) (512 * (n - 1)) 512 long (λ k low.
        get_or-drop (512 * (2 * slot_blocks row)) new (512 * (n - 1) + k) 0 ∙ ap (slice_index new) (omega arith)
        ∙ same.named n named some k low ∙ ap (slice_index old) (omega arith) ∙ sym (get_or-drop (512 * (2 * slot_blocks row)) old (512 * (n - 1) + k) 0)) in
        let test : (n == 0) ≡ false = grind (arith, nat_tests) in
        ap (λ (b : Bool). if b then replicate 512 0 else part (data_of new) (512 * (n - 1)) 512) test
        ∙ bytes
        ∙ sym (ap (λ (b : Bool). if b then replicate 512 0 else part (data_of old) (512 * (n - 1)) 512) test)
  ]

  module _ (gate : ℕ) (low : gate ≤ slot_blocks row) where
    version_same : (version : ℕ) → named_from (numbers_of (listed_in_version version row old gate)) → tree_in_version version row new gate ≡ tree_in_version version row old gate
    version_same version named =
        let body = blocks_at old (gate + 1) (body_blocks row) in
        let bodies = leading_records 32 (blocks_at old (gate + 1 + body_blocks row) 64) in
        ap (λ (b : List ℕ). tree_by version (leading_records 32 (blocks_at new (gate + 1 + body_blocks row) 64)) tree_of_entries (entries_of_body version row b (data_of new))) (body_same row old new same.long same.slots gate low)
        ∙ ap (λ (j : List ℕ). tree_by version (leading_records 32 j) tree_of_entries (entries_of_body version row body (data_of new))) (journal_same row old new same.long same.slots gate low)
        ∙ over_same_blocks (data_of new) (data_of old) version bodies row body
        (all_contained (IsSameBlock (data_of new) (data_of old)) (numbers_of (listed_in_version version row old gate)) (λ n there. block_same n (named n there)))

    slot_same : named_from (named_in_slot row old gate) → tree_in_slot row new gate ≡ tree_in_slot row old gate
    slot_same named =
        let header = header_of (take 64 (blocks_at old (gate + 1) (body_blocks row))) in
        ap (λ (b : List ℕ). chosen (λ h. tree_in_version h.1 row new gate) (header_of (take 64 b))) (body_same row old new same.long same.slots gate low)
        ∙ chosen_same header (λ h. tree_in_version h.1 row new gate) (λ h. tree_in_version h.1 row old gate) (λ h is.
        let numbers : named_in_slot row old gate ≡ numbers_of (listed_in_version h.1 row old gate) =
        ap (λ (o : Option (ℕ × ℕ)). let ns : List ℕ = elim o [ None ↦ [] | Some x ↦ numbers_of (listed_in_version x.1 row old gate) ] in ns) is in
        version_same h.1 (subst named_from numbers named))

  region_same : tree_of_region row new ≡ tree_of_region row old
  unfolding tree_of_region
  region_same =
      let first = slot_at old 0 in
      let second = slot_at old (slot_blocks row) in
      let after : List ℕ → ℕ → Option (Tree StoredFile) = λ region slot. tree_in_slot row region (slot * slot_blocks row) in
      ap (λ (s : Slot). chosen (after new) (newest s (slot_at new (slot_blocks row)))) (gates_same row old new same.long same.slots 0 (omega arith))
      ∙ ap (λ (s : Slot). chosen (after new) (newest first s)) (gates_same row old new same.long same.slots (slot_blocks row) (omega arith))
      ∙ chosen_same (newest first second) (after new) (after old) (λ slot is.
      slot_same (slot * slot_blocks row) (low_gate slot (slot_blocks row) (newest_low first second slot is)) (λ n there.
      let P : List ℕ → Type 0 = λ ns. Contains ns n in
      subst P (sym (named_of_slot row old slot is)) there))

-- the trees of two regions that differ in unnamed data blocks alone
pub unnamed_blocks : UnnamedBlocksDontMatter
unnamed_blocks row old new same = region_same row old new same
