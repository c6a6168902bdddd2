-- Changes of names that apply, and what they leave of the entries of files.
use Rattle.std.proofs.Common.{◌≡◌, ◌≢◌, ◌⊎◌, inl, inr, ℕ, zero, suc, ◌+◌, ◌-◌, ◌<◌, ◌≤◌, true, false, cond, List, [], ◌∷◌, length, refl, sym, ap, ◌∙◌, Option, Some, None, IsSome, nat_le, arith}
use Rattle.std.specs.Prelude.{is_some, is_none, unwrap_or, slice_index_or, slice_set}
use Rattle.std.proofs.lemmas.Bool.Decides.{nat_tests}
use Rattle.apex_types.specs.declared.fields.RecordField.{RecordField}
use Rattle.apex_types.specs.declared.numbers.DirNode.{DirNode}
use Rattle.apex_model.specs.Handles.{free_from}
use Rattle.apex_model.specs.Trees.{Name, Node, standing_at, entries_within}
use Rattle.file_tree.specs.Entries.{TreeValue, slot, way_of, path_in, stored_of, with_file, with_directory, without_directory, with_file_at}
use Rattle.file_tree.specs.Records.{is_unused, takes, has_none, gone_directory_at, gone_directory, moved_file_at, applied}
use Rattle.file_tree.proofs.Ways.{free-some}
use Rattle.tree_state.specs.Entries.{KeepsEntries}

pub is-not-some : {A : Type 0} {x : A} → None ≢ Some x
is-not-some e = cc

-- the record of a change
abbrev pub change_of : ℕ → ℕ → DirNode → Option Name → RecordField
change_of kind index parent name = record { kind = kind; index = index; parent = parent; name = name }

-- what another place of a list has once one was set: what it had, or what was set
pub set-either : {A : Type 0} (xs : List A) (i : ℕ) (x d : A) (j : ℕ) → (slice_index_or (slice_set xs i x) j d ≡ slice_index_or xs j d) ⊎ ((j ≡ i) × (slice_index_or (slice_set xs i x) j d ≡ x))
set-either [] i x d j = inl refl
set-either (y ∷ xs) zero x d zero = inr (refl, refl)
set-either (y ∷ xs) zero x d (suc j) = inl refl
set-either (y ∷ xs) (suc i) x d zero = inl refl
set-either (y ∷ xs) (suc i) x d (suc j) = elim (set-either xs i x d j) [
  | inl same ↦ inl same
  | inr own ↦ inr (ap suc own.0, own.1)
]

-- ---- what stays of the entries

unused-set : (files : List (Option (List Name))) (f : ℕ) (path : List Name) (g : ℕ) → slot (slice_set files f (Some path)) g ≡ None → slot files g ≡ None
unused-set files f path g none = elim (set-either files f (Some path) None g) [
  | inl same ↦ sym same ∙ none
  | inr own ↦ absurd (is-not-some (sym none ∙ own.1))
]

-- a new file's entry had nothing stored before
pub file-kept : (v : TreeValue) (f : ℕ) (path : List Name) → stored_of v f ≡ (0, 0) → KeepsEntries v (with_file v f path)
file-kept v f path nothing = record {
  stored = λ g. elim (set-either v.stored f (Some (0, 0)) None g) [
    | inl same ↦ ap (λ (o : Option (ℕ × ℕ)). unwrap_or o (0, 0)) same
    | inr own ↦ ap (λ (o : Option (ℕ × ℕ)). unwrap_or o (0, 0)) own.1 ∙ sym (ap (stored_of v) own.0 ∙ nothing)
  ];
  unused = unused-set v.files f path;
}

pub directory-kept : (v : TreeValue) (d : ℕ) (path : List Name) → KeepsEntries v (with_directory v d path)
directory-kept v d path = record { stored = λ g. refl; unused = λ g none. none }

pub gone-directory-kept : (v : TreeValue) (d : ℕ) (path : List Name) → KeepsEntries v (without_directory v d path)
gone-directory-kept v d path = record { stored = λ g. refl; unused = λ g none. none }

pub moved-kept : (v : TreeValue) (f : ℕ) (from to : List Name) → KeepsEntries v (with_file_at v f from to)
moved-kept v f from to = record { stored = λ g. refl; unused = unused-set v.files f to }

-- ---- changes that apply

le-is : (m n : ℕ) → m ≤ n → nat_le m n ≡ true
le-is m n h = grind (arith, nat_tests)

unused-place : {A : Type 0} (entries : List (Option A)) (i : ℕ) → i < length entries → slot entries i ≡ None → is_unused entries i ≡ true
unused-place [] i low none = absurd (let wrong : i < 0 = low in omega (arith, wrong))
unused-place (None ∷ entries) zero low none = refl
unused-place (Some place ∷ entries) zero low none = absurd (is-not-some (sym none))
unused-place (place ∷ entries) (suc i) low none = unused-place entries i (let e : suc i < suc (length entries) = low in omega (arith, e)) none

-- the least unused entry is one, where the first has this number
least-unused : {A : Type 0} (entries : List (Option A)) (n f : ℕ) → free_from n entries ≡ Some (n + f) → is_unused entries f ≡ true
least-unused entries n f least =
    let l = free-some entries n (n + f) least in
    let same : l.0 ≡ f = omega (arith, l.1) in
    ap (is_unused entries) (sym same) ∙ unused-place entries l.0 l.2 l.3

pub unused-slot : (v : TreeValue) (f : ℕ) → free_from 0 v.files ≡ Some f → slot v.files f ≡ None
unused-slot v f least =
    let l = free-some v.files 0 f least in
    let same : f ≡ l.0 = omega (arith, l.1) in
    ap (slot v.files) same ∙ l.3

module _ (v : TreeValue) (parent : DirNode) (name : Name) (used : IsSome (way_of v parent.0)) (few : length (path_in v parent.0 name) ≤ 6) (free : standing_at v.nodes (path_in v parent.0 name) ≡ None) where
  taken : takes v parent.0 name ≡ true
  taken =
      let first : is_some (way_of v parent.0) ≡ true = used in
      let second : nat_le (length (path_in v parent.0 name)) 6 ≡ true = le-is (length (path_in v parent.0 name)) 6 few in
      λ i. cond (first i) (cond (second i) (is_none (free i)) false) false

  pub file-applies : (f : ℕ) → free_from 0 v.files ≡ Some f → applied v (change_of 1 f parent (Some name)) ≡ Some (with_file v f (path_in v parent.0 name))
  file-applies f least =
      let there : free_from 0 v.files ≡ Some (0 + f) = least ∙ ap Some (omega arith) in
      let unused = least-unused v.files 0 f there in
      λ i. cond (unused i) (cond (taken i) (Some (with_file v f (path_in v parent.0 name))) None) None

  pub directory-applies : (d : ℕ) → free_from 1 v.directories ≡ Some d → applied v (change_of 2 (d - 1) parent (Some name)) ≡ Some (with_directory v (d - 1) (path_in v parent.0 name))
  directory-applies d least =
      let l = free-some v.directories 1 d least in
      let there : free_from 1 v.directories ≡ Some (1 + (d - 1)) = least ∙ ap Some (omega (arith, l.1)) in
      let unused = least-unused v.directories 1 (d - 1) there in
      λ i. cond (unused i) (cond (taken i) (Some (with_directory v (d - 1) (path_in v parent.0 name))) None) None

  pub move-applies : (f : ℕ) (from : List Name) → slot v.files f ≡ Some from → applied v (change_of 5 f parent (Some name)) ≡ Some (with_file_at v f from (path_in v parent.0 name))
  move-applies f from is =
      ap (moved_file_at v f parent.0 name) is ∙ ap (λ b. cond b (Some (with_file_at v f from (path_in v parent.0 name))) None) taken

-- a directory other than the root
pub gone-applies : (v : TreeValue) (d : ℕ) (parent : DirNode) → d ≢ 0 → IsSome (way_of v d) → entries_within v.nodes (unwrap_or (way_of v d) []) ≡ []
    → applied v (change_of 4 (d - 1) parent None) ≡ Some (without_directory v (d - 1) (unwrap_or (way_of v d) []))
gone-applies v zero parent below used empty = absurd (below refl)
gone-applies v (suc d) parent below used empty =
    let number : suc d - 1 ≡ d = omega arith in
    ap (gone_directory v) number ∙ gone (slot v.directories d) used empty ∙ ap (λ n. Some (without_directory v n (unwrap_or (slot v.directories d) []))) (sym number)
  where
    gone : (o : Option (List Name)) → IsSome o → entries_within v.nodes (unwrap_or o []) ≡ [] → gone_directory_at v d o ≡ Some (without_directory v d (unwrap_or o []))
    gone None used empty = absurd (let e : false ≡ true = used in cc)
    gone (Some path) used empty = ap (λ (es : List (Name × Node ℕ)). cond (has_none es) (Some (without_directory v d path)) None) empty

-- a directory's number is that of its entry and one more
pub some-number : {A : Type 0} (entries : List (Option A)) (d : ℕ) → free_from 1 entries ≡ Some d → 1 ≤ d
some-number entries d least = let l = free-some entries 1 d least in omega (arith, l.1)
