-- The entries of a body, as they are read, and the tree that they make.
use Rattle.std.proofs.Common.{◌≡◌, ℕ, zero, suc, ◌+◌, ◌<◌, ◌≤◌, Bool, true, false, List, [], ◌∷◌, length, map, set, refl, sym, ap, subst, ◌∙◌, Option, Some, None, inl, inr, arith, get_or-set_same, get_or-set_other}
use Rattle.std.proofs.lemmas.Bool.{cases_eq}
use Rattle.std.proofs.lemmas.List.{length-map}
use Rattle.std.specs.Prelude.{option_map, MatchBool}
use Rattle.std.specs.List.{range_with_len}
use Rattle.apex_model.specs.Durable.{StoredFile}
use Rattle.apex_model.specs.Image as image
use Rattle.apex_model.specs.Trees.{Tree}
use Rattle.file_tree.specs.declared.entries.Entry.{Entry}
use Rattle.file_tree.specs.declared.kind.Kind.TheVariants.{File, Directory}
use Rattle.file_tree.specs.Bodies.{entries_in, named_tree, tree_of_lists, tree_in_version}
use Rattle.file_tree.specs.Entries.{slot}
use Rattle.file_tree.specs.Images.{named_entry, named, names_of}
use Rattle.file_tree.specs.Table.{value_of, AreSound}
use Rattle.file_tree.proofs.ImageEntries.{good-tree}
use Rattle.file_tree.proofs.ImageRecords.{sound-good}
use Rattle.file_tree.proofs.ImageSound.{sound-tree}

-- ---- answers one after the other

-- what an option has that is mapped to something
pub mapped : {A B : Type 0} (f : A → B) (o : Option A) (y : B) → option_map f o ≡ Some y → (x : A) × (o ≡ Some x) × (f x ≡ y)
mapped {A} {B} f None y h = absurd (let e : ◌≡◌ {A = Option B} None (Some y) = h in cc)
mapped {A} {B} f (Some x) y h = (x, refl, let e : ◌≡◌ {A = Option B} (Some (f x)) (Some y) = h in cc)

pub mapped-none : {A B : Type 0} (f : A → B) (o : Option A) → option_map f o ≡ None → o ≡ None
mapped-none {A} {B} f None h = refl
mapped-none {A} {B} f (Some x) h = absurd (let e : ◌≡◌ {A = Option B} (Some (f x)) None = h in cc)

-- where one has no answer, there are none
pub answers-none : {X : Type 0} (f : ℕ → Option X) (start count k : ℕ) → k < count → f (start + k) ≡ None → image.all_answers f (range_with_len start count) ≡ None
answers-none {X} f start zero k less h = absurd (omega (arith, less))
answers-none {X} f start (suc count) zero less h =
    let e : start ≡ start + 0 = omega arith in
    ap (λ (o : Option X). elim o [ None ↦ None | Some x ↦ option_map (λ xs. x ∷ xs) (image.all_answers f (range_with_len (start + 1) count)) ]) (ap f e ∙ h)
answers-none {X} f start (suc count) (suc k) less h =
    let e : (start + 1) + k ≡ start + suc k = omega arith in
    let rest : image.all_answers f (range_with_len (start + 1) count) ≡ None = answers-none f (start + 1) count k (omega (arith, less)) (ap f e ∙ h) in
    (elim (f start) as (λ o. elim o [ None ↦ None | Some x ↦ option_map (λ xs. x ∷ xs) (image.all_answers f (range_with_len (start + 1) count)) ] ≡ None) [
      | None ↦ refl
      | Some x ↦ ap (option_map (λ xs. x ∷ xs)) rest
    ])

-- the answers where each gives a place of a list
pub answers-all : {X B : Type 0} (g : X → Option B) (f : ℕ → Option X) (start : ℕ) (entries : List (Option B)) → ((j : ℕ) → j < length entries → option_map g (f (start + j)) ≡ Some (slot entries j))
    → option_map (map g) (image.all_answers f (range_with_len start (length entries))) ≡ Some entries
answers-all {X} {B} g f start [] h = refl
answers-all {X} {B} g f start (place ∷ entries) h =
    let e : start ≡ start + 0 = omega arith in
    let here = mapped g (f start) place (ap (λ n. option_map g (f n)) e ∙ h 0 (omega arith)) in
    let behind = mapped (map g) (image.all_answers f (range_with_len (start + 1) (length entries))) entries
    (answers-all g f (start + 1) entries (λ j less. let n : (start + 1) + j ≡ start + suc j = omega arith in ap (λ n. option_map g (f n)) n ∙ h (suc j) (omega (arith, less)))) in
    ap (λ (o : Option X). option_map (map g) (elim o [ None ↦ None | Some x ↦ option_map (λ xs. x ∷ xs) (image.all_answers f (range_with_len (start + 1) (length entries))) ])) here.1
    ∙ ap (λ (o : Option (List X)). option_map (map g) (option_map (λ xs. here.0 ∷ xs) o)) behind.1
    ∙ (λ i. Some (here.2 i ∷ behind.2 i))

-- one more place that was read
pub read-next : (read : ℕ → Option (Option Entry)) (entries : List (Option Entry)) (k : ℕ) (entry : Option Entry) → k < length entries → ((j : ℕ) → j < k → read j ≡ Some (slot entries j)) → read k ≡ Some entry
    → (j : ℕ) → j < k + 1 → read j ≡ Some (slot (set entries k entry) j)
read-next read entries k entry room before here j less = elim (cases_eq j k) [
  | inl e ↦ ap read e ∙ here ∙ ap Some (sym (get_or-set_same entries k entry None room)) ∙ ap (λ n. Some (slot (set entries k entry) n)) (sym e)
  | inr other ↦ before j (omega (arith, less, other)) ∙ ap Some (sym (get_or-set_other entries k j entry None other))
]

-- ---- the tree of the lists

-- where files are not spelled, there is none
pub no-files : (version files directories : ℕ) (body : List ℕ) → entries_in File version body 0 files ≡ None → tree_in_version version files directories body ≡ None
unfolding tree_in_version
no-files version files directories body h = ap (λ (o : Option (List (Option image.Entry))). tree_of_lists o (entries_in Directory version body files directories)) h

-- nor where directories are not
pub no-directories : (version files directories : ℕ) (body : List ℕ) → entries_in Directory version body files directories ≡ None → tree_in_version version files directories body ≡ None
unfolding tree_in_version
no-directories version files directories body h =
    ap (tree_of_lists (entries_in File version body 0 files)) h
    ∙ (elim (entries_in File version body 0 files) as (λ o. tree_of_lists o None ≡ None) [ None ↦ refl | Some fs ↦ refl ])

module _ (F D : Option (List (Option image.Entry))) (files directories : List (Option Entry)) (f : option_map named F ≡ Some files) (d : option_map named D ≡ Some directories) where
  abbrev fs : List (Option image.Entry)
  fs = (mapped named F files f).0

  abbrev ds : List (Option image.Entry)
  ds = (mapped named D directories d).0

  listed : tree_of_lists F D ≡ named_tree (record { files = fs; directories = ds })
  listed = λ i. tree_of_lists ((mapped named F files f).1 i) ((mapped named D directories d).1 i)

  fs-are : named fs ≡ files
  fs-are = (mapped named F files f).2

  ds-are : named ds ≡ directories
  ds-are = (mapped named D directories d).2

  -- sound entries are the tree
  pub lists-sound : AreSound files directories → tree_of_lists F D ≡ Some (value_of files directories)
  lists-sound sound =
      let back : AreSound (named fs) (named ds) = subst (λ (xs : List (Option Entry)). AreSound xs (named ds)) (sym fs-are) (subst (λ (ys : List (Option Entry)). AreSound files ys) (sym ds-are) sound) in
      let t = good-tree (record { files = fs; directories = ds }) (sound-good fs ds back) in
      listed ∙ ap (option_map (λ (tree : Tree StoredFile). names_of (record { files = fs; directories = ds }))) t.1 ∙ ap Some (λ i. value_of (fs-are i) (ds-are i))

  -- others are none
  pub lists-unsound : length files ≤ 255 → length directories ≤ 255 → (AreSound files directories → ⊥) → tree_of_lists F D ≡ None
  lists-unsound few_files few_directories unsound =
      listed
      ∙ (elim (image.tree_of_entries (record { files = fs; directories = ds })) as
      (λ o. image.tree_of_entries (record { files = fs; directories = ds }) ≡ o → option_map (λ (tree : Tree StoredFile). names_of (record { files = fs; directories = ds })) o ≡ None) [
        | None ↦ λ is. refl
        | Some t ↦ λ is. absurd (unsound (
            let few : length fs ≤ 255 = subst (λ n. n ≤ 255) (ap length (sym fs-are) ∙ length-map fs (option_map named_entry)) few_files in
            let less : length ds ≤ 255 = subst (λ n. n ≤ 255) (ap length (sym ds-are) ∙ length-map ds (option_map named_entry)) few_directories in
            subst (λ (xs : List (Option Entry)). AreSound xs directories) fs-are (subst (λ (ys : List (Option Entry)). AreSound (named fs) ys) ds-are (sound-tree (record { files = fs; directories = ds }) t is few less))))
      ]) refl

-- the tree where all was spelled
pub tree-tested : (version n m : ℕ) (body : List ℕ) (files directories : List (Option Entry)) → option_map named (entries_in File version body 0 n) ≡ Some files → option_map named (entries_in Directory version body n m) ≡ Some directories
    → length files ≤ 255 → length directories ≤ 255 → (b : Bool) → MatchBool b (AreSound files directories) (AreSound files directories → ⊥)
    → MatchBool b (tree_in_version version n m body ≡ Some (value_of files directories)) (tree_in_version version n m body ≡ None)
unfolding tree_in_version
tree-tested version n m body files directories f d few_files few_directories true sound = lists-sound (entries_in File version body 0 n) (entries_in Directory version body n m) files directories f d sound
tree-tested version n m body files directories f d few_files few_directories false unsound =
    lists-unsound (entries_in File version body 0 n) (entries_in Directory version body n m) files directories f d few_files few_directories unsound
