-- The tree in a body whose header and entries were written.
use Rattle.std.proofs.Common.{◌≡◌, ℕ, zero, suc, ◌+◌, ◌*◌, ◌<◌, ◌≤◌, List, [], ◌∷◌, ◌++◌, length, map, take, set, refl, sym, ap, subst, ◌∙◌, Option, Some, None, IsSome, arith}
use Rattle.std.proofs.lemmas.List.{length-map, drop-set-lt}
use Rattle.std.specs.Prelude.{option_map}
use Rattle.apex_model.specs.Fields.{header_of, entry_of_bytes}
use Rattle.apex_model.specs.Image.{entry_bytes}
use Rattle.apex_model.specs.Trees.{Name}
use Rattle.file_tree.specs.declared.entries.Entry.{Entry}
use Rattle.file_tree.specs.declared.kind.Kind.{Kind}
use Rattle.file_tree.specs.declared.kind.Kind.TheVariants.{File, Directory}
use Rattle.file_tree.specs.Bodies.{entry_by, entries_in, tree_in_version, tree_by, tree_in_body}
use Rattle.file_tree.specs.Checks.{kept}
use Rattle.file_tree.specs.Entries.{TreeValue, slot, nodes_of, AreDistinct}
use Rattle.file_tree.specs.Images.{named, named_entry}
use Rattle.file_tree.specs.Table.{path_of, way, paths, stored_in, entry_with, value_of, HaveParents, AreSound}
use Rattle.file_tree.proofs.Ways.{not_some}
use Rattle.file_tree.proofs.ReadBodies.{answers-all, lists-sound}
use Rattle.file_tree.proofs.Written.{part-same}

-- ---- what is stored of directories doesn't matter

-- of no directory anything is stored
abbrev pub plain : List (Option Entry) → List (Option Entry)
plain directories = map (option_map (entry_with (0, 0))) directories

pub slot-plain : (directories : List (Option Entry)) (i : ℕ) → slot (plain directories) i ≡ option_map (entry_with (0, 0)) (slot directories i)
slot-plain [] i = refl
slot-plain (place ∷ directories) zero = refl
slot-plain (place ∷ directories) (suc i) = slot-plain directories i

path-plain : (ways : ℕ → Option (List Name)) (place : Option Entry) → path_of ways (option_map (entry_with (0, 0)) place) ≡ path_of ways place
path-plain ways None = refl
path-plain ways (Some entry) = refl

same-ways : (ways other : ℕ → Option (List Name)) → ((d : ℕ) → ways d ≡ other d) → (place : Option Entry) → path_of ways place ≡ path_of other place
same-ways ways other h None = refl
same-ways ways other h (Some entry) = ap (option_map (λ names. names ++ entry.name ∷ [])) (h entry.parent.0)

way-plain : (directories : List (Option Entry)) (n d : ℕ) → way (plain directories) n d ≡ way directories n d
unfolding way
way-plain directories zero zero = refl
way-plain directories zero (suc d) = refl
way-plain directories (suc n) zero = refl
way-plain directories (suc n) (suc d) =
    ap (path_of (way (plain directories) n)) (slot-plain directories d) ∙ path-plain (way (plain directories) n) (slot directories d)
    ∙ same-ways (way (plain directories) n) (way directories n) (way-plain directories n) (slot directories d)

ways-plain : (directories : List (Option Entry)) → way (plain directories) 5 ≡ way directories 5
ways-plain directories = λ i d. way-plain directories 5 d i

paths-plain : (ways : ℕ → Option (List Name)) (directories : List (Option Entry)) → map (path_of ways) (plain directories) ≡ map (path_of ways) directories
paths-plain ways [] = refl
paths-plain ways (place ∷ directories) = λ i. path-plain ways place i ∷ paths-plain ways directories i

files-plain : (directories files : List (Option Entry)) → paths (plain directories) files ≡ paths directories files
files-plain directories files = λ i. map (path_of (ways-plain directories i)) files

directories-plain : (directories : List (Option Entry)) → paths (plain directories) (plain directories) ≡ paths directories directories
directories-plain directories = paths-plain (way (plain directories) 5) directories ∙ files-plain directories directories

parents-plain : (directories : List (Option Entry)) → HaveParents directories directories → HaveParents (plain directories) (plain directories)
parents-plain directories parents i entry h =
    (elim (slot directories i) as (λ o. slot directories i ≡ o → option_map (entry_with (0, 0)) o ≡ Some entry → IsSome (way (plain directories) 5 entry.parent.0)) [
      | None ↦ λ is k. absurd (not_some k)
      | Some e ↦ λ is k.
          let same : entry_with (0, 0) e ≡ entry = cc in
          subst (λ (x : Entry). IsSome (way (plain directories) 5 x.parent.0)) same (subst IsSome (sym (way-plain directories 5 e.parent.0)) (parents i e is))
    ]) refl (sym (slot-plain directories i) ∙ h)

pub sound-plain : (files directories : List (Option Entry)) → AreSound files directories → AreSound files (plain directories)
sound-plain files directories s = record {
  few_files = s.few_files;
  few_directories = subst (λ n. n ≤ 255) (sym (length-map directories (option_map (entry_with (0, 0))))) s.few_directories;
  file_parents = λ i entry h. subst IsSome (sym (way-plain directories 5 entry.parent.0)) (s.file_parents i entry h);
  directory_parents = parents-plain directories s.directory_parents;
  distinct = subst (λ (xs : List (Option (List Name))). AreDistinct xs (paths (plain directories) (plain directories))) (sym (files-plain directories files))
      (subst (λ (ys : List (Option (List Name))). AreDistinct (paths directories files) ys) (sym (directories-plain directories)) s.distinct);
}

pub value-plain : (files directories : List (Option Entry)) → value_of files (plain directories) ≡ value_of files directories
unfolding value_of
value-plain files directories = λ i. record {
  nodes = nodes_of (files-plain directories files i) (directories-plain directories i);
  files = files-plain directories files i;
  directories = directories-plain directories i;
  stored = stored_in files;
}

-- as many places as entries
pub file-count : (files directories : List (Option Entry)) (v : TreeValue) → value_of files directories ≡ v → length v.files ≡ length files
unfolding value_of
file-count files directories v is = ap (λ (v : TreeValue). length v.files) (sym is) ∙ length-map files (path_of (way directories 5))

pub directory-count : (files directories : List (Option Entry)) (v : TreeValue) → value_of files directories ≡ v → length v.directories ≡ length directories
unfolding value_of
directory-count files directories v is = ap (λ (v : TreeValue). length v.directories) (sym is) ∙ length-map directories (path_of (way directories 5))

-- ---- the first byte

take-first : (n : ℕ) (xs : List ℕ) (x : ℕ) → 0 < n → take n (set xs 0 x) ≡ set (take n xs) 0 x
take-first zero xs x more = absurd (omega (arith, more))
take-first (suc n) [] x more = refl
take-first (suc n) (y ∷ xs) x more = refl

-- a header that is still there, with a sequence number
pub header-there : (q h : List ℕ) (sequence : ℕ) → take 64 q ≡ take 64 h → header_of (take 64 (set h 0 sequence)) ≡ Some (sequence, 2) → header_of (take 64 (set q 0 sequence)) ≡ Some (sequence, 2)
header-there q h sequence same header =
    ap header_of (take-first 64 q sequence (omega arith) ∙ ap (λ xs. set xs 0 sequence) same ∙ sym (take-first 64 h sequence (omega arith))) ∙ header

-- the first byte is of no entry
entry-there : (body : List ℕ) (sequence k : ℕ) → entry_bytes (set body 0 sequence) k ≡ entry_bytes body k
entry-there body sequence k = ap (take 128) (drop-set-lt (64 + 128 * k) body 0 sequence (omega arith))

-- the entry that is read at a place
abbrev pub read_at : Kind → List ℕ → ℕ → Option (Option Entry)
read_at kind body k = option_map (option_map named_entry) (entry_by kind (entry_of_bytes 2 (entry_bytes body k)))

-- ---- all entries

-- files written before the directories stay
pub files-there : (p q : List ℕ) (files : List (Option Entry)) (sequence : ℕ) → ((k : ℕ) → k < length files → read_at File p (0 + k) ≡ Some (kept File (slot files k)))
    → take (64 + 128 * length files) q ≡ take (64 + 128 * length files) p → option_map named (entries_in File 2 (set q 0 sequence) 0 (length files)) ≡ Some files
files-there p q files sequence written same =
    answers-all (option_map named_entry) (λ k. entry_by File (entry_of_bytes 2 (entry_bytes (set q 0 sequence) k))) 0 files
    (λ j less. ap (λ xs. option_map (option_map named_entry) (entry_by File (entry_of_bytes 2 xs)))
    (entry-there q sequence (0 + j) ∙ part-same (64 + 128 * (0 + j)) 128 (64 + 128 * length files) q p (omega (arith, less)) same)
    ∙ written j less)

pub directories-there : (q : List ℕ) (n : ℕ) (directories : List (Option Entry)) (sequence : ℕ) → ((k : ℕ) → k < length directories → read_at Directory q (n + k) ≡ Some (kept Directory (slot directories k)))
    → option_map named (entries_in Directory 2 (set q 0 sequence) n (length directories)) ≡ Some (plain directories)
directories-there q n directories sequence written =
    let many : length (plain directories) ≡ length directories = length-map directories (option_map (entry_with (0, 0))) in
    ap (λ m. option_map named (entries_in Directory 2 (set q 0 sequence) n m)) (sym many)
    ∙ answers-all (option_map named_entry) (λ k. entry_by Directory (entry_of_bytes 2 (entry_bytes (set q 0 sequence) k))) n (plain directories)
    (λ j less. ap (λ xs. option_map (option_map named_entry) (entry_by Directory (entry_of_bytes 2 xs))) (entry-there q sequence (n + j))
    ∙ written j (omega (arith, less, many)) ∙ ap Some (sym (slot-plain directories j)))

-- the tree in the whole body
pub tree-put : (files directories : List (Option Entry)) (v : TreeValue) (body : List ℕ) (sequence : ℕ) → value_of files directories ≡ v → AreSound files directories
    → header_of (take 64 body) ≡ Some (sequence, 2) → option_map named (entries_in File 2 body 0 (length files)) ≡ Some files
    → option_map named (entries_in Directory 2 body (length files) (length directories)) ≡ Some (plain directories) → tree_in_body (length v.files) (length v.directories) body ≡ Some v
unfolding tree_in_version
tree-put files directories v body sequence is sound header f d =
    (λ i. tree_by (header i) (file-count files directories v is i) (directory-count files directories v is i) body)
    ∙ lists-sound (entries_in File 2 body 0 (length files)) (entries_in Directory 2 body (length files) (length directories)) files (plain directories) f d (sound-plain files directories sound)
    ∙ ap Some (value-plain files directories ∙ is)
