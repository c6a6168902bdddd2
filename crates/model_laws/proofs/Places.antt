-- What is known of a place that bytes lead to, and of the way there.
use Rattle.std.proofs.Common.{◌≡◌, ℕ, zero, suc, ◌+◌, ◌≤◌, ◌<◌, Bool, true, false, not, ◌&&◌, List, [], ◌∷◌, refl, sym, ap, subst, ◌∙◌, Option, Some, None, length, take, arith}
use Rattle.std.specs.Prelude.{◌-◌, if◌then◌else◌, nat_le, nat_lt, slice_get, IsTrue, Result, Ok, Err, position}
use Rattle.std.specs.List.{list_all, range_with_len, AllByRecursion}
use Rattle.std.specs.Option.{option_map_or, option_or}
use Rattle.apex_types.specs.Naming.{is_name, is_spelled_as_name}
use Rattle.apex_types.specs.Paths.{path_of, path_after_slash, path_from_parts, parts_of, have_room}
use Rattle.apex_types.specs.Rows.{Rows}
use Rattle.apex_types.specs.declared.codes.Errno.{Errno}
use Rattle.apex_types.specs.declared.codes.Errno.TheVariants.{Enametoolong, Einval, Enoent, Enotdir, Eacces}
use Rattle.apex_types.specs.declared.paths.Path.{Path}
use Rattle.apex_model.specs.Tables.{Place, Right, has_right, place_of, place_of_path, place_in, is_tree_of}
use Rattle.apex_model.specs.Trees.{Name, Node, directory, file, Tree, standing_at, first_answer, obstacle, walk}
use Rattle.apex_model.specs.Validity.{Has, parent_of}
use Rattle.apex_model.proofs.AcceptedTables.{and-left, and-right}
use Rattle.apex_model.proofs.Keeps.{le-true, lt-true, lt-false}

-- names that a path may have
pub record AreNames (names : List Name) : Type 0 where
  pub few : length names ≤ 6
  pub spelled : AllByRecursion (λ name. IsTrue (is_name name)) names

pub record IsPlace (table : Rows) (right : Right) (p : ℕ) (place : Place) : Type 0 where
  pub allowed : Has table right p place.tree
  pub names : AreNames place.names

-- ---- results that are there

past-refusal : {X E : Type 0} (test : Bool) (e : E) (rest : Result X E) (x : X) → (if test then Err e else rest) ≡ Ok x → (test ≡ false) × (rest ≡ Ok x)
past-refusal {X} {E} true e rest x h = absurd (let wrong : ◌≡◌ {A = Result X E} (Err e) (Ok x) = h in cc)
past-refusal false e rest x h = (refl, h)

passed-test : {X E : Type 0} (test : Bool) (e : E) (rest : Result X E) (x : X) → (if test then rest else Err e) ≡ Ok x → (test ≡ true) × (rest ≡ Ok x)
passed-test true e rest x h = (refl, h)
passed-test {X} {E} false e rest x h = absurd (let wrong : ◌≡◌ {A = Result X E} (Err e) (Ok x) = h in cc)

not-false : (b : Bool) → not b ≡ false → b ≡ true
not-false true h = refl
not-false false h = absurd cc

-- ---- names

are_spelled : (names : List Name) → list_all is_spelled_as_name names ≡ true → list_all (λ part. nat_le (length part) 56) names ≡ true → AllByRecursion (λ name. IsTrue (is_name name)) names
are_spelled [] h k = tt
are_spelled (name ∷ names) h k =
    let short : nat_le (length name) 56 ≡ true = and-left (nat_le (length name) 56) (list_all (λ part. nat_le (length part) 56) names) k in (
      ap (λ b. b && is_spelled_as_name name) short ∙ and-left (is_spelled_as_name name) (list_all is_spelled_as_name names) h,
      are_spelled names (and-right (is_spelled_as_name name) _ h) (and-right (nat_le (length name) 56) _ k),
    )

parts-names : (parts : List (List ℕ)) (path : Path) → path_from_parts parts ≡ Ok path → AreNames path.names
parts-names [] path h = absurd (let wrong : ◌≡◌ {A = Result Path Errno} (Err Einval) (Ok path) = h in cc)
parts-names (volume ∷ []) path h = absurd (let wrong : ◌≡◌ {A = Result Path Errno} (Err Einval) (Ok path) = h in cc)
parts-names (volume ∷ owner ∷ names) path h =
    let made : Path = record { volume = volume; owner = owner; names = names } in
    let one = past-refusal (not (list_all is_spelled_as_name (volume ∷ owner ∷ names))) Einval _ path h in
    let two = past-refusal (not (nat_le (length volume) 24 && nat_le (length owner) 24 && have_room 0 names)) Enametoolong (Ok made) path one.1 in
    let spelled : list_all is_spelled_as_name (volume ∷ owner ∷ names) ≡ true = not-false _ one.0 in
    let below : list_all is_spelled_as_name names ≡ true = and-right (is_spelled_as_name owner) _ (and-right (is_spelled_as_name volume) _ spelled) in
    let room : have_room 0 names ≡ true = and-right (nat_le (length volume) 24 && nat_le (length owner) 24) _ (not-false _ two.0) in
    let same : made ≡ path = (let e : ◌≡◌ {A = Result Path Errno} (Ok made) (Ok path) = two.1 in cc) in
    let P : Path → Type 0 = λ x. AreNames x.names in
    subst P same (record {
      few = let few : 0 + length names ≤ 6 = le-true _ _ (and-right (list_all (λ part. nat_le (length part) 56) names) _ room) in omega (arith, few);
      spelled = are_spelled names below (and-left (list_all (λ part. nat_le (length part) 56) names) (nat_le (0 + length names) 6) room);
    })

slash-names : (bytes : List ℕ) (path : Path) → path_after_slash bytes ≡ Ok path → AreNames path.names
slash-names [] path h = absurd (let wrong : ◌≡◌ {A = Result Path Errno} (Err Einval) (Ok path) = h in cc)
slash-names (b ∷ bytes) path h = parts-names (parts_of bytes) path (passed-test _ Einval (path_from_parts (parts_of bytes)) path h).1

-- the names of a path that is read are names
pub path-names : (bytes : List ℕ) (path : Path) → path_of bytes ≡ Ok path → AreNames path.names
path-names bytes path h = slash-names bytes path (past-refusal (nat_lt 392 (length bytes)) Enametoolong (path_after_slash bytes) path h).1

-- ---- places

-- the place by the tree that was found, and by the path that was read
abbrev place_by : Rows → Right → ℕ → List Name → Option ℕ → Result Place Errno
place_by table right p names tree = elim tree [ None ↦ Err Enoent | Some t ↦ place_in table right p names t ]

abbrev place_by_path : Rows → Right → ℕ → Result Path Errno → Result Place Errno
place_by_path table right p path = elim path [ Err errno ↦ Err errno | Ok q ↦ place_of_path table right p q ]

module _ (table : Rows) (right : Right) (p : ℕ) (place : Place) where
  in-place : (names : List Name) (tree : ℕ) → AreNames names → place_in table right p names tree ≡ Ok place → IsPlace table right p place
  in-place names tree good h =
      let made : Place = record { tree = tree; names = names } in
      let passed = passed-test (option_map_or (has_right right p) (slice_get table.trees tree) false) Eacces (Ok made) place h in
      let same : made ≡ place = (let e : ◌≡◌ {A = Result Place Errno} (Ok made) (Ok place) = passed.1 in cc) in
      let P : Place → Type 0 = λ x. IsPlace table right p x in
      subst P same (record { allowed = passed.0; names = good })

  in-tree : (names : List Name) (tree : Option ℕ) → AreNames names → place_by table right p names tree ≡ Ok place → IsPlace table right p place
  in-tree names None good h = absurd (let wrong : ◌≡◌ {A = Result Place Errno} (Err Enoent) (Ok place) = h in cc)
  in-tree names (Some t) good h = in-place names t good h

  on-path : (path : Result Path Errno) → ((q : Path) → path ≡ Ok q → AreNames q.names)
      → place_by_path table right p path ≡ Ok place → IsPlace table right p place
  on-path (Err errno) good h = absurd (let wrong : ◌≡◌ {A = Result Place Errno} (Err errno) (Ok place) = h in cc)
  on-path (Ok q) good h = in-tree q.names (position (is_tree_of table q) table.trees) (good q refl) h

  -- what is known of the place that bytes lead to
  pub place-known : (bytes : List ℕ) → place_of table right p bytes ≡ Ok place → IsPlace table right p place
  place-known bytes h = on-path (path_of bytes) (path-names bytes) h

-- ---- the way to a place

none-or : {X : Type 0} (a b : Option X) → option_or a b ≡ None → (a ≡ None) × (b ≡ None)
none-or None b h = (refl, h)
none-or {X} (Some x) b h = absurd (let wrong : ◌≡◌ {A = Option X} (Some x) None = h in cc)

first-none : {X : Type 0} (f : ℕ → Option X) (a n k : ℕ) → first_answer f (range_with_len a n) ≡ None → a ≤ k → k < a + n → f k ≡ None
first-none f a zero k h low high = absurd (omega arith)
first-none f a (suc n) k h low high =
    let both = none-or (f a) (first_answer f (range_with_len (a + 1) n)) h in
    elim (nat_lt a k) as (λ b. nat_lt a k ≡ b → f k ≡ None) [
      | true ↦ λ less. first-none f (a + 1) n k both.1 (let l = lt-true a k less in omega arith) (omega arith)
      | false ↦ λ no. let l = lt-false a k no in let same : a ≡ k = omega arith in ap f (sym same) ∙ both.0
    ] refl

obstacle-none : {F : Type 0} (o : Option (Node F)) → obstacle o ≡ None → o ≡ Some directory
obstacle-none None h = absurd (let wrong : ◌≡◌ {A = Option Errno} (Some Enoent) None = h in cc)
obstacle-none (Some directory) h = refl
obstacle-none (Some (file f)) h = absurd (let wrong : ◌≡◌ {A = Option Errno} (Some Enotdir) None = h in cc)

walked-to : {F : Type 0} (tree : Tree F) (names : List Name) (n : ℕ) → first_answer (λ k. obstacle (standing_at tree (take k names))) (range_with_len 1 n) ≡ None
    → standing_at tree (take n names) ≡ Some directory
walked-to tree names zero h = refl
walked-to tree names (suc n) h = obstacle-none _ (first-none (λ k. obstacle (standing_at tree (take k names))) 1 (suc n) (suc n) h (omega arith) (omega arith))

-- where the way was walked with no obstacle the parent is a directory
pub walked : {F : Type 0} (tree : Tree F) (names : List Name) → walk tree names ≡ None → standing_at tree (parent_of names) ≡ Some directory
walked tree names h = walked-to tree names (length names - 1) h
