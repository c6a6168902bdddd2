-- The tree that a body spells, and the entries that an image gives for it.
use Rattle.std.proofs.Common.{◌≡◌, ◌≢◌, ℕ, zero, suc, ◌+◌, ◌-◌, ◌*◌, ◌≤◌, Bool, true, false, cond, ◌&&◌, ◌==◌, List, [], ◌∷◌, length, map, take, drop, replicate, refl, sym, ap, subst, ◌∙◌, Option, Some, None, inl, inr, arith, length-append, nat_le}
use Rattle.std.proofs.lemmas.Bool.{cases_eq, eq-eqb}
use Rattle.std.proofs.lemmas.Bool.Decides.{nat_tests}
use Rattle.std.proofs.lemmas.List.{length-replicate, length-take, length-drop}
use Rattle.std.proofs.lemmas.List.FromFn.{length-map-range_with_len}
use Rattle.std.proofs.lemmas.List.Sums.{sum_by-cons}
use Rattle.std.specs.Prelude.{option_map, flat_map, sum_by}
use Rattle.std.specs.List.{list_all, range_with_len}
use Rattle.apex_types.specs.declared.fields.FileEntryField.{FileEntryField}
use Rattle.apex_types.specs.declared.fields.FileEntryField.TheVariants.{Unused, Used}
use Rattle.apex_types.specs.declared.rows.TreeRow.{TreeRow}
use Rattle.apex_model.specs.Durable.{StoredFile}
use Rattle.apex_model.specs.Fields.{entry_of_bytes}
use Rattle.apex_model.specs.Files.{blocks_of}
use Rattle.apex_model.specs.Image as image
use Rattle.apex_model.specs.Trees.{Tree}
use Rattle.file_tree.specs.declared.entries.Entry.{Entry}
use Rattle.file_tree.specs.declared.kind.Kind.TheVariants.{File, Directory}
use Rattle.file_tree.specs.Bodies.{file_entry, entry_by, entries_in, named_tree, tree_of_lists, tree_in_version}
use Rattle.file_tree.specs.Entries.{TreeValue, AreDistinct}
use Rattle.file_tree.specs.Images.{named, names_of}
use Rattle.file_tree.specs.Table.{paths, value_of, HaveParents}
use Rattle.file_tree.proofs.Children.{and-first, and-second}
use Rattle.file_tree.proofs.ImageEntries.{AreGood, tree-good, good-tree}
use Rattle.file_tree.proofs.ReadBodies.{mapped, mapped-none}

-- ---- answers to answers

record Step {A X : Type 0} (f : A → Option X) (a : A) (rest : List A) (xs : List X) : Type 0 where
  x : X
  ys : List X
  here : f a ≡ Some x
  behind : image.all_answers f rest ≡ Some ys
  is : x ∷ ys ≡ xs

answers-step : {A X : Type 0} (f : A → Option X) (a : A) (rest : List A) (xs : List X) → image.all_answers f (a ∷ rest) ≡ Some xs → Step f a rest xs
answers-step {A} {X} f a rest xs h =
    (elim (f a) as (λ o. f a ≡ o → elim o [ None ↦ None | Some x ↦ option_map (λ ys. x ∷ ys) (image.all_answers f rest) ] ≡ Some xs → Step f a rest xs) [
      | None ↦ λ here k. absurd (let e : ◌≡◌ {A = Option (List X)} None (Some xs) = k in cc)
      | Some x ↦ λ here k. let m = mapped (λ (ys : List X). x ∷ ys) (image.all_answers f rest) xs k in record { x = x; ys = m.0; here = here; behind = m.1; is = m.2 }
    ]) refl h

-- what is read of all answers
answers-through : {A X Y : Type 0} (read : Option X → Option Y) (g : X → Option Y) → ((x : X) → read (Some x) ≡ g x) → (f : A → Option X) (rest : List A) (xs : List X) → image.all_answers f rest ≡ Some xs
    → image.all_answers (λ a. read (f a)) rest ≡ image.all_answers g xs
answers-through {A} {X} {Y} read g same f [] xs h = let e : [] ≡ xs = cc in ap (image.all_answers g) e
answers-through {A} {X} {Y} read g same f (a ∷ rest) xs h =
    let s = answers-step f a rest xs h in
    ap (λ (o : Option Y). elim o [ None ↦ None | Some y ↦ option_map (λ ys. y ∷ ys) (image.all_answers (λ b. read (f b)) rest) ]) (ap read s.here ∙ same s.x)
    ∙ ap (λ (r : Option (List Y)). elim (g s.x) [ None ↦ None | Some y ↦ option_map (λ ys. y ∷ ys) r ]) (answers-through read g same f rest s.ys s.behind)
    ∙ ap (image.all_answers g) s.is

-- an answer in front of others
abbrev in_front : {X : Type 0} → Option X → Option (List X) → Option (List X)
in_front o rest = elim o [ None ↦ None | Some x ↦ option_map (λ xs. x ∷ xs) rest ]

-- where there are none, none is read
answers-lost : {A X Y : Type 0} (read : Option X → Option Y) → read None ≡ None → (f : A → Option X) (rest : List A) → image.all_answers f rest ≡ None → image.all_answers (λ a. read (f a)) rest ≡ None
answers-lost {A} {X} {Y} read none f [] h = absurd (let e : ◌≡◌ {A = Option (List X)} (Some []) None = h in cc)
answers-lost {A} {X} {Y} read none f (a ∷ rest) h =
    (elim (f a) as (λ o. in_front o (image.all_answers f rest) ≡ None → in_front (read o) (image.all_answers (λ b. read (f b)) rest) ≡ None) [
      | None ↦ λ k. ap (λ (o : Option Y). in_front o (image.all_answers (λ b. read (f b)) rest)) none
      | Some x ↦ λ k.
          let behind = answers-lost read none f rest (mapped-none (λ (ys : List X). x ∷ ys) (image.all_answers f rest) k) in
          (elim (read (Some x)) as (λ o. in_front o (image.all_answers (λ b. read (f b)) rest) ≡ None) [
            | None ↦ refl
            | Some y ↦ ap (option_map (λ ys. y ∷ ys)) behind
          ])
    ]) h

-- ---- the contents of files

all-take : (test : ℕ → Bool) (k : ℕ) (xs : List ℕ) → list_all test xs ≡ true → list_all test (take k xs) ≡ true
all-take test zero xs h = refl
all-take test (suc k) [] h = refl
all-take test (suc k) (x ∷ xs) h =
    ap (λ b. b && list_all test (take k xs)) (and-first (test x) (list_all test xs) h) ∙ all-take test k xs (and-second (test x) (list_all test xs) h)

all-drop : (test : ℕ → Bool) (k : ℕ) (xs : List ℕ) → list_all test xs ≡ true → list_all test (drop k xs) ≡ true
all-drop test zero xs h = h
all-drop test (suc k) [] h = refl
all-drop test (suc k) (x ∷ xs) h = all-drop test k xs (and-second (test x) (list_all test xs) h)

le-holds : (m n : ℕ) → nat_le m n ≡ true → m ≤ n
le-holds m n h = grind (arith, nat_tests)

not-zero : (n : ℕ) → n ≢ 0 → (n == 0) ≡ false
not-zero n h = grind (arith, nat_tests)

module _ (blocks : List ℕ) (quota : ℕ) (long : length blocks ≡ 1024 * quota) where
  -- a data block has 512 bytes
  block-long : (n : ℕ) → n ≤ 2 * quota → length (image.data_block blocks n) ≡ 512
  block-long n few = elim (cases_eq n 0) [
    | inl e ↦ ap (λ b. length (cond b (replicate 512 0) (take 512 (drop (512 * (n - 1)) blocks)))) (eq-eqb n 0 e) ∙ length-replicate {A = ℕ} 512 0
    | inr other ↦ ap (λ b. length (cond b (replicate 512 0) (take 512 (drop (512 * (n - 1)) blocks)))) (not-zero n other)
        ∙ omega (arith, few, other, long, length-take 512 (drop (512 * (n - 1)) blocks), length-drop (512 * (n - 1)) blocks)
  ]

  blocks-long : (numbers : List ℕ) → list_all (λ n. nat_le n (2 * quota)) numbers ≡ true → length (flat_map (image.data_block blocks) numbers) ≡ 512 * length numbers
  blocks-long [] h = omega arith
  blocks-long (n ∷ numbers) h =
      let here = block-long n (le-holds n (2 * quota) (and-first (nat_le n (2 * quota)) (list_all (λ n. nat_le n (2 * quota)) numbers) h)) in
      let behind = blocks-long numbers (and-second (nat_le n (2 * quota)) (list_all (λ n. nat_le n (2 * quota)) numbers) h) in
      omega (arith, here, behind, length-append (image.data_block blocks n) (flat_map (image.data_block blocks) numbers))

  -- a content has its size
  content-long : (numbers : List ℕ) (size : ℕ) → list_all (λ n. nat_le n (2 * quota)) numbers ≡ true → blocks_of size ≤ length numbers → length (image.joined blocks (take (blocks_of size) numbers) size) ≡ size
  content-long numbers size within room =
      let all = blocks-long (take (blocks_of size) numbers) (all-take (λ n. nat_le n (2 * quota)) (blocks_of size) numbers within) in
      omega (arith, all, room, length-take (blocks_of size) numbers, length-take size (flat_map (image.data_block blocks) (take (blocks_of size) numbers)))

-- a file's entry with so many zeros
abbrev zero_entry : FileEntryField → Option image.Entry
zero_entry Unused = None
zero_entry (Used name parent size changes) = Some (record { name = name; parent = parent.0; stored = record { content = replicate size 0; changes = changes } })

-- files with sizes within the limit give entries
files-given : (files : List FileEntryField) → list_all (λ field. nat_le (image.size_of_field field) 1048576) files ≡ true → image.all_answers file_entry files ≡ Some (map zero_entry files)
files-given [] h = refl
files-given (Unused ∷ files) h =
    ap (option_map (λ (xs : List (Option image.Entry)). None ∷ xs)) (files-given files (and-second (nat_le 0 1048576) (list_all (λ field. nat_le (image.size_of_field field) 1048576) files) h))
files-given (Used name parent size changes ∷ files) h =
    let e : Option image.Entry = Some (record { name = name; parent = parent.0; stored = record { content = replicate size 0; changes = changes } }) in
    ap (λ b. elim (cond b (Some e) None) [ None ↦ None | Some x ↦ option_map (λ xs. x ∷ xs) (image.all_answers file_entry files) ])
    (and-first (nat_le size 1048576) (list_all (λ field. nat_le (image.size_of_field field) 1048576) files) h)
    ∙ ap (option_map (λ (xs : List (Option image.Entry)). e ∷ xs)) (files-given files (and-second (nat_le size 1048576) (list_all (λ field. nat_le (image.size_of_field field) 1048576) files) h))

-- which stand for the same as those with their contents
files-named : (blocks : List ℕ) (quota : ℕ) → length blocks ≡ 1024 * quota → (numbers : List ℕ) (files : List FileEntryField) → list_all (λ n. nat_le n (2 * quota)) numbers ≡ true
    → sum_by (λ field. blocks_of (image.size_of_field field)) files ≤ length numbers → named (map zero_entry files) ≡ named (image.file_entries blocks numbers files)
files-named blocks quota long numbers [] within room = refl
files-named blocks quota long numbers (Unused ∷ files) within room =
    let more = sum_by-cons (λ field. blocks_of (image.size_of_field field)) Unused files in
    ap (λ (rest : List (Option Entry)). None ∷ rest) (files-named blocks quota long numbers files within (omega (arith, more, room)))
files-named blocks quota long numbers (Used name parent size changes ∷ files) within room =
    let more = sum_by-cons (λ field. blocks_of (image.size_of_field field)) (Used name parent size changes) files in
    let own : blocks_of size ≤ length numbers = omega (arith, more, room) in
    let content : size ≡ length (image.joined blocks (take (blocks_of size) numbers) size) = sym (content-long blocks quota long numbers size within own) in
    let zeros : length (replicate size 0) ≡ size = length-replicate {A = ℕ} size 0 in
    let rest = files-named blocks quota long (drop (blocks_of size) numbers) files (all-drop (λ n. nat_le n (2 * quota)) (blocks_of size) numbers within) (omega (arith, more, room, length-drop (blocks_of size) numbers)) in
    λ i. Some (record { parent = record { 0 = parent.0 }; name = name; stored = ((zeros ∙ content) i, changes) }) ∷ rest i

-- ---- the tree

good-same : (fs other ds : List (Option image.Entry)) → named fs ≡ named other → AreGood fs ds → AreGood other ds
good-same fs other ds same g = record {
  file_parents = subst (λ (xs : List (Option Entry)). HaveParents (named ds) xs) same g.file_parents;
  directory_parents = g.directory_parents;
  distinct = subst (λ (xs : List (Option Entry)). AreDistinct (paths (named ds) xs) (paths (named ds) (named ds))) same g.distinct;
}

-- entries that stand for the same make the same tree
tree-same : (fs other ds : List (Option image.Entry)) → named fs ≡ named other → named_tree (record { files = fs; directories = ds }) ≡ named_tree (record { files = other; directories = ds })
tree-same fs other ds same =
    let one : image.Entries = record { files = fs; directories = ds } in
    let two : image.Entries = record { files = other; directories = ds } in
    (elim (image.tree_of_entries one) as (λ o. image.tree_of_entries one ≡ o → option_map (λ (tree : Tree StoredFile). names_of one) o ≡ named_tree two) [
      | None ↦ λ is.
          (elim (image.tree_of_entries two) as (λ o. image.tree_of_entries two ≡ o → None ≡ option_map (λ (tree : Tree StoredFile). names_of two) o) [
            | None ↦ λ k. refl
            | Some t ↦ λ k. absurd (let made = good-tree one (good-same other fs ds (sym same) (tree-good two t k)) in let e : ◌≡◌ {A = Option (Tree StoredFile)} None (Some made.0) = sym is ∙ made.1 in cc)
          ]) refl
      | Some t ↦ λ is.
          let made = good-tree two (good-same fs other ds same (tree-good one t is)) in
          ap Some (λ i. value_of (same i) (named ds)) ∙ sym (ap (option_map (λ (tree : Tree StoredFile). names_of two)) made.1)
    ]) refl

-- the fields of entries
abbrev pub fields_in : ℕ → List ℕ → ℕ → ℕ → Option (List FileEntryField)
fields_in version body start count = image.all_answers (λ k. entry_of_bytes version (image.entry_bytes body k)) (range_with_len start count)

abbrev pub numbers_in : TreeRow → List ℕ → List ℕ
numbers_in row body = map (image.block_number body (row.files + row.directories)) (range_with_len 0 row.quota)

abbrev pub rest_of : TreeRow → List ℕ → List ℕ
rest_of row body = drop (64 + 128 * (row.files + row.directories) + 4 * row.quota) body

module _ (version : ℕ) (row : TreeRow) (body blocks : List ℕ) where
  -- where fields are good, they are the entries of an image
  fields-agree : (entries : image.Entries) (files directories : List FileEntryField) → length blocks ≡ 1024 * row.quota → fields_in version body 0 row.files ≡ Some files → fields_in version body row.files row.directories ≡ Some directories
      → image.entries_of_fields row blocks (numbers_in row body) (rest_of row body) files directories ≡ Some entries → tree_in_version version row.files row.directories body ≡ named_tree entries
  unfolding tree_in_version
  fields-agree entries files directories long f d h =
      let numbers = numbers_in row body in
      let A = list_all (λ field. nat_le (image.size_of_field field) 1048576) files in
      let B = nat_le (sum_by (λ field. blocks_of (image.size_of_field field)) files) row.quota in
      let C = list_all (λ n. nat_le n (2 * row.quota)) numbers in
      (elim (image.has_good_blocks row files numbers (rest_of row body)) as (λ b. image.has_good_blocks row files numbers (rest_of row body) ≡ b
      → cond b (option_map (λ ds. record { files = image.file_entries blocks numbers files; directories = ds }) (image.all_answers image.directory_entry directories)) None ≡ Some entries
      → tree_of_lists (entries_in File version body 0 row.files) (entries_in Directory version body row.files row.directories) ≡ named_tree entries) [
        | false ↦ λ good k. absurd (let e : ◌≡◌ {A = Option image.Entries} None (Some entries) = k in cc)
        | true ↦ λ good k.
            let m = mapped (λ (ds : List (Option image.Entry)). record { files = image.file_entries blocks numbers files; directories = ds }) (image.all_answers image.directory_entry directories) entries k in
            let three : (A && B && C) ≡ true = and-first _ _ (and-first _ _ (and-first _ _ good)) in
            let two : (A && B) ≡ true = and-first (A && B) C three in
            let many : length numbers ≡ row.quota = length-map-range_with_len (image.block_number body (row.files + row.directories)) 0 row.quota in
            let room : sum_by (λ field. blocks_of (image.size_of_field field)) files ≤ row.quota = le-holds _ _ (and-second A B two) in
            let fs : entries_in File version body 0 row.files ≡ Some (map zero_entry files)
            = answers-through (entry_by File) file_entry (λ x. refl) (λ k. entry_of_bytes version (image.entry_bytes body k)) (range_with_len 0 row.files) files f ∙ files-given files (and-first A B two) in
            let ds : entries_in Directory version body row.files row.directories ≡ Some m.0
            = answers-through (entry_by Directory) image.directory_entry (λ x. refl) (λ k. entry_of_bytes version (image.entry_bytes body k)) (range_with_len row.files row.directories) directories d ∙ m.1 in
            (λ i. tree_of_lists (fs i) (ds i))
            ∙ tree-same (map zero_entry files) (image.file_entries blocks numbers files) m.0 (files-named blocks row.quota long numbers files (and-second (A && B) C three) (omega (arith, many, room)))
            ∙ ap named_tree m.2
      ]) refl h

  -- the same by the bytes
  pub body-agrees : (entries : image.Entries) → length blocks ≡ 1024 * row.quota → image.entries_of_body version row body blocks ≡ Some entries → tree_in_version version row.files row.directories body ≡ named_tree entries
  body-agrees entries long h =
      (elim (fields_in version body 0 row.files) as (λ o. fields_in version body 0 row.files ≡ o → elim o [
        | None ↦ None
        | Some files ↦ elim (fields_in version body row.files row.directories) [
          | None ↦ None
          | Some directories ↦ image.entries_of_fields row blocks (numbers_in row body) (rest_of row body) files directories
        ]
      ] ≡ Some entries → tree_in_version version row.files row.directories body ≡ named_tree entries) [
        | None ↦ λ f k. absurd (let e : ◌≡◌ {A = Option image.Entries} None (Some entries) = k in cc)
        | Some files ↦ λ f k.
            (elim (fields_in version body row.files row.directories) as (λ o. fields_in version body row.files row.directories ≡ o → elim o [
              | None ↦ None
              | Some directories ↦ image.entries_of_fields row blocks (numbers_in row body) (rest_of row body) files directories
            ] ≡ Some entries → tree_in_version version row.files row.directories body ≡ named_tree entries) [
              | None ↦ λ d l. absurd (let e : ◌≡◌ {A = Option image.Entries} None (Some entries) = l in cc)
              | Some directories ↦ λ d l. fields-agree entries files directories long f d l
            ]) refl k
      ]) refl h

  -- where a tree is read, its directories are spelled
  spelled-directories : (v : TreeValue) → tree_in_version version row.files row.directories body ≡ Some v → (ds : List (Option image.Entry)) × (entries_in Directory version body row.files row.directories ≡ Some ds)
  unfolding tree_in_version
  spelled-directories v h =
      (elim (entries_in File version body 0 row.files) as (λ o. tree_of_lists o (entries_in Directory version body row.files row.directories) ≡ Some v
      → (ds : List (Option image.Entry)) × (entries_in Directory version body row.files row.directories ≡ Some ds)) [
        | None ↦ λ k. absurd (let e : ◌≡◌ {A = Option TreeValue} None (Some v) = k in cc)
        | Some fs ↦ λ k.
            (elim (entries_in Directory version body row.files row.directories) as (λ o. entries_in Directory version body row.files row.directories ≡ o → tree_of_lists (Some fs) o ≡ Some v
            → (ds : List (Option image.Entry)) × (entries_in Directory version body row.files row.directories ≡ Some ds)) [
              | None ↦ λ d l. absurd (let e : ◌≡◌ {A = Option TreeValue} None (Some v) = l in cc)
              | Some ds ↦ λ d l. (ds, d)
            ]) refl k
      ]) h

  pub blocks-left : (v : TreeValue) (files : List FileEntryField) → tree_in_version version row.files row.directories body ≡ Some v → image.entries_of_body version row body blocks ≡ None
      → fields_in version body 0 row.files ≡ Some files → image.has_good_blocks row files (numbers_in row body) (rest_of row body) ≡ false
  blocks-left v files read none f =
      let s = spelled-directories v read in
      (elim (fields_in version body row.files row.directories) as (λ o. fields_in version body row.files row.directories ≡ o → elim o [
        | None ↦ None
        | Some directories ↦ image.entries_of_fields row blocks (numbers_in row body) (rest_of row body) files directories
      ] ≡ None → image.has_good_blocks row files (numbers_in row body) (rest_of row body) ≡ false) [
        | None ↦ λ d k. absurd (
            let lost = answers-lost (entry_by Directory) refl (λ k. entry_of_bytes version (image.entry_bytes body k)) (range_with_len row.files row.directories) d in
            let e : ◌≡◌ {A = Option (List (Option image.Entry))} None (Some s.0) = sym lost ∙ s.1 in cc)
        | Some directories ↦ λ d k.
            let there : image.all_answers image.directory_entry directories ≡ Some s.0
            = sym (answers-through (entry_by Directory) image.directory_entry (λ x. refl) (λ k. entry_of_bytes version (image.entry_bytes body k)) (range_with_len row.files row.directories) directories d) ∙ s.1 in
            let made : List (Option image.Entry) → image.Entries = λ ds. record { files = image.file_entries blocks (numbers_in row body) files; directories = ds } in
            (elim (image.has_good_blocks row files (numbers_in row body) (rest_of row body)) as (λ b.
            cond b (option_map made (image.all_answers image.directory_entry directories)) None ≡ None → b ≡ false) [
              | true ↦ λ l. absurd (
                  let e : ◌≡◌ {A = Option image.Entries} (Some (made s.0)) None = sym (ap (option_map made) there) ∙ l in cc)
              | false ↦ λ l. refl
            ]) k
      ]) refl
      (sym (ap (λ (o : Option (List FileEntryField)). elim o [
        | None ↦ None
        | Some files ↦ elim (fields_in version body row.files row.directories) [
          | None ↦ None
          | Some directories ↦ image.entries_of_fields row blocks (numbers_in row body) (rest_of row body) files directories
        ]
      ]) f) ∙ none)
