-- The entries of an image: they make a tree where they are the sound entries of one.
use Rattle.std.proofs.Common.{◌≡◌, ◌≢◌, ℕ, zero, suc, ◌-◌, true, false, cond, List, [], ◌∷◌, ◌++◌, refl, sym, ap, subst, ◌∙◌, Option, Some, None, IsSome, arith}
use Rattle.std.proofs.lemmas.Bool.Decides.{nat_tests}
use Rattle.std.specs.Prelude.{option_map, slice_get, ◌==◌}
use Rattle.std.specs.Option.{option_flatten}
use Rattle.std.specs.FinMap.Entries.{find, put, find-put}
use Rattle.std.specs.Ordering.{eq_by_cmp}
use Rattle.apex_model.specs.Durable.{StoredFile}
use Rattle.apex_model.specs.Image as image
use Rattle.apex_model.specs.Trees.{Name, Node, directory, file, Tree, path_cmp}
use Rattle.apex_model.proofs.Trees.{path_cmp_total, same_path}
use Rattle.file_tree.specs.declared.entries.Entry.{Entry}
use Rattle.file_tree.specs.Entries.{slot, in_file, in_directory, AreDistinct}
use Rattle.file_tree.specs.Images.{named_entry, named}
use Rattle.file_tree.specs.Table.{path_of, way, paths, HaveParents}
use Rattle.file_tree.proofs.Paths.{same_is, file_number, directory_number, not_both}
use Rattle.file_tree.proofs.Ways.{not_some, slot-paths}

-- the path of a place of an image
abbrev pub path_if : List (Option image.Entry) → Option image.Entry → Option (List Name)
path_if directories None = None
path_if directories (Some e) = image.path_of_entry directories e

-- ---- paths

pub slot-named : (entries : List (Option image.Entry)) (i : ℕ) → slot (named entries) i ≡ option_map named_entry (slot entries i)
slot-named [] i = refl
slot-named (e ∷ entries) zero = refl
slot-named (e ∷ entries) (suc i) = slot-named entries i

pub flat-slot : {A : Type 0} (entries : List (Option A)) (i : ℕ) → option_flatten (slice_get entries i) ≡ slot entries i
flat-slot [] i = refl
flat-slot (e ∷ entries) zero = (elim e as (λ o. option_flatten (Some o) ≡ o) [ None ↦ refl | Some x ↦ refl ])
flat-slot (e ∷ entries) (suc i) = flat-slot entries i

not-zero : (d : ℕ) → (suc d == 0) ≡ false
not-zero d = grind (arith, nat_tests)

at-place : (ways other : ℕ → Option (List Name)) → ((p : ℕ) → ways p ≡ other p) → (o : Option image.Entry)
    → elim o [ None ↦ None | Some entry ↦ option_map (λ way. way ++ entry.name ∷ []) (ways entry.parent) ] ≡ path_of other (option_map named_entry o)
at-place ways other h None = refl
at-place ways other h (Some e) = ap (option_map (λ way. way ++ e.name ∷ [])) (h e.parent)

pub way-named : (directories : List (Option image.Entry)) (n d : ℕ) → image.way_to n directories d ≡ way (named directories) n d
unfolding way
way-named directories zero zero = refl
way-named directories zero (suc d) = ap (λ b. cond b (Some []) None) (not-zero d)
way-named directories (suc n) zero = refl
way-named directories (suc n) (suc d) =
    let number : suc d - 1 ≡ d = omega arith in
    ap (λ b. cond b (Some [])
    (elim (option_flatten (slice_get directories (suc d - 1))) [ None ↦ None | Some entry ↦ option_map (λ way. way ++ entry.name ∷ []) (image.way_to n directories entry.parent) ])) (not-zero d)
    ∙ ap (λ (o : Option image.Entry). elim o [ None ↦ None | Some entry ↦ option_map (λ way. way ++ entry.name ∷ []) (image.way_to n directories entry.parent) ])
    (ap (λ m. option_flatten (slice_get directories m)) number ∙ flat-slot directories d)
    ∙ at-place (image.way_to n directories) (way (named directories) n) (way-named directories n) (slot directories d)
    ∙ ap (path_of (way (named directories) n)) (sym (slot-named directories d))

path-is : (directories : List (Option image.Entry)) (o : Option image.Entry) → path_if directories o ≡ path_of (way (named directories) 5) (option_map named_entry o)
path-is directories None = refl
path-is directories (Some e) = ap (option_map (λ way. way ++ e.name ∷ [])) (way-named directories 5 e.parent)

pub slot-path : (directories entries : List (Option image.Entry)) (i : ℕ) → slot (paths (named directories) (named entries)) i ≡ path_if directories (slot entries i)
slot-path directories entries i =
    slot-paths (named directories) (named entries) i ∙ ap (path_of (way (named directories) 5)) (slot-named entries i) ∙ sym (path-is directories (slot entries i))

-- ---- entries that are placed one after the other

-- entries with paths that differ, and at which nothing stands in a tree
pub record IsGood (directories entries : List (Option image.Entry)) (t : Tree StoredFile) : Type 0 where
  pub parents : (i : ℕ) (e : image.Entry) → slot entries i ≡ Some e → IsSome (image.path_of_entry directories e)
  pub places : (i j : ℕ) (q : List Name) → path_if directories (slot entries i) ≡ Some q → path_if directories (slot entries j) ≡ Some q → i ≡ j
  pub apart : (i : ℕ) (q : List Name) → path_if directories (slot entries i) ≡ Some q → find path_cmp q t ≡ None

-- what is known where all were placed in a tree
pub record IsPlaced (directories entries : List (Option image.Entry)) (t after : Tree StoredFile) : Type 0 where
  pub good : IsGood directories entries t
  pub kept : (q : List Name) → find path_cmp q after ≡ None → find path_cmp q t ≡ None
  pub found : (i : ℕ) (q : List Name) → path_if directories (slot entries i) ≡ Some q → find path_cmp q after ≡ None → ⊥

put-none : (q p : List Name) (n : Node StoredFile) (t : Tree StoredFile) → find path_cmp q (put path_cmp p n t) ≡ None → find path_cmp q t ≡ None
put-none q p n t h =
    (elim (eq_by_cmp path_cmp q p) as (λ b. cond b (Some n) (find path_cmp q t) ≡ None → find path_cmp q t ≡ None) [
      | true ↦ λ k. absurd (let e : ◌≡◌ {A = Option (Node StoredFile)} (Some n) None = k in cc)
      | false ↦ λ k. k
    ]) (sym (find-put path_cmp path_cmp_total q p n t) ∙ h)

put-found : (q p : List Name) (n : Node StoredFile) (t : Tree StoredFile) → p ≡ q → find path_cmp q (put path_cmp p n t) ≢ None
put-found q p n t same h =
    let tie : eq_by_cmp path_cmp q p ≡ true = ap (eq_by_cmp path_cmp q) same ∙ same_is q in
    let e : ◌≡◌ {A = Option (Node StoredFile)} (Some n) None = sym (ap (λ b. cond b (Some n) (find path_cmp q t)) tie) ∙ sym (find-put path_cmp path_cmp_total q p n t) ∙ h in cc

put-stays : (q p : List Name) (n : Node StoredFile) (t : Tree StoredFile) → p ≢ q → find path_cmp q t ≡ None → find path_cmp q (put path_cmp p n t) ≡ None
put-stays q p n t other h =
    find-put path_cmp path_cmp_total q p n t
    ∙ (elim (eq_by_cmp path_cmp q p) as (λ b. eq_by_cmp path_cmp q p ≡ b → cond b (Some n) (find path_cmp q t) ≡ None) [
      | true ↦ λ tie. absurd (other (sym (same_path q p tie)))
      | false ↦ λ tie. h
    ]) refl

placed-none : (node : image.Entry → Node StoredFile) (directories entries : List (Option image.Entry)) → image.placed node directories entries None ≡ None
placed-none node directories [] = refl
placed-none node directories (None ∷ entries) = placed-none node directories entries
placed-none node directories (Some e ∷ entries) = placed-none node directories entries

module _ (directories entries : List (Option image.Entry)) (t : Tree StoredFile) (after : Tree StoredFile) where
  -- an unused entry in front
  unused_placed : IsPlaced directories entries t after → IsPlaced directories (None ∷ entries) t after
  unused_placed r = record {
    good = record { parents = parents; places = places; apart = apart };
    kept = r.kept;
    found = found;
  }
    where
      parents : (i : ℕ) (e : image.Entry) → slot (None ∷ entries) i ≡ Some e → IsSome (image.path_of_entry directories e)
      parents zero e h = absurd (not_some h)
      parents (suc i) e h = r.good.parents i e h

      places : (i j : ℕ) (q : List Name) → path_if directories (slot (None ∷ entries) i) ≡ Some q → path_if directories (slot (None ∷ entries) j) ≡ Some q → i ≡ j
      places zero j q h k = absurd (not_some h)
      places (suc i) zero q h k = absurd (not_some k)
      places (suc i) (suc j) q h k = ap suc (r.good.places i j q h k)

      apart : (i : ℕ) (q : List Name) → path_if directories (slot (None ∷ entries) i) ≡ Some q → find path_cmp q t ≡ None
      apart zero q h = absurd (not_some h)
      apart (suc i) q h = r.good.apart i q h

      found : (i : ℕ) (q : List Name) → path_if directories (slot (None ∷ entries) i) ≡ Some q → find path_cmp q after ≡ None → ⊥
      found zero q h none = not_some h
      found (suc i) q h none = r.found i q h none

  -- a used one in front, of which the others are apart
  module _ (e : image.Entry) (p : List Name) (is : image.path_of_entry directories e ≡ Some p) (n : Node StoredFile) (free : find path_cmp p t ≡ None) where
    same-path : (q : List Name) → image.path_of_entry directories e ≡ Some q → p ≡ q
    same-path q h = let both : Some p ≡ Some q = sym is ∙ h in cc

    used_placed : IsPlaced directories entries (put path_cmp p n t) after → IsPlaced directories (Some e ∷ entries) t after
    used_placed r = record {
      good = record { parents = parents; places = places; apart = apart };
      kept = λ q h. put-none q p n t (r.kept q h);
      found = found;
    }
      where
        parents : (i : ℕ) (x : image.Entry) → slot (Some e ∷ entries) i ≡ Some x → IsSome (image.path_of_entry directories x)
        parents zero x h = let same : e ≡ x = cc in subst (λ (y : image.Entry). IsSome (image.path_of_entry directories y)) same (subst IsSome (sym is) refl)
        parents (suc i) x h = r.good.parents i x h

        places : (i j : ℕ) (q : List Name) → path_if directories (slot (Some e ∷ entries) i) ≡ Some q → path_if directories (slot (Some e ∷ entries) j) ≡ Some q → i ≡ j
        places zero zero q h k = refl
        places zero (suc j) q h k = absurd (put-found q p n t (same-path q h) (r.good.apart j q k))
        places (suc i) zero q h k = absurd (put-found q p n t (same-path q k) (r.good.apart i q h))
        places (suc i) (suc j) q h k = ap suc (r.good.places i j q h k)

        apart : (i : ℕ) (q : List Name) → path_if directories (slot (Some e ∷ entries) i) ≡ Some q → find path_cmp q t ≡ None
        apart zero q h = ap (λ (w : List Name). find path_cmp w t) (sym (same-path q h)) ∙ free
        apart (suc i) q h = put-none q p n t (r.good.apart i q h)

        found : (i : ℕ) (q : List Name) → path_if directories (slot (Some e ∷ entries) i) ≡ Some q → find path_cmp q after ≡ None → ⊥
        found zero q h none = put-found q p n t (same-path q h) (r.kept q none)
        found (suc i) q h none = r.found i q h none

-- where all were placed, they are good
pub all_placed : (node : image.Entry → Node StoredFile) (directories entries : List (Option image.Entry)) (t after : Tree StoredFile) → image.placed node directories entries (Some t) ≡ Some after
    → IsPlaced directories entries t after
all_placed node directories [] t after h =
    let same : t ≡ after = cc in
    record {
      good = record { parents = λ i e k. absurd (not_some k); places = λ i j q k l. absurd (not_some k); apart = λ i q k. absurd (not_some k) };
      kept = λ q k. ap (find path_cmp q) same ∙ k;
      found = λ i q k none. not_some k;
    }
all_placed node directories (None ∷ entries) t after h = unused_placed directories entries t after (all_placed node directories entries t after h)
all_placed node directories (Some e ∷ entries) t after h =
    (elim (image.path_of_entry directories e) as (λ o. image.path_of_entry directories e ≡ o
    → image.placed node directories entries (elim o [ None ↦ None | Some path ↦ image.put_new path (node e) t ]) ≡ Some after → IsPlaced directories (Some e ∷ entries) t after) [
      | None ↦ λ is k. absurd (let wrong : ◌≡◌ {A = Option (Tree StoredFile)} None (Some after) = sym (placed-none node directories entries) ∙ k in cc)
      | Some p ↦ λ is k.
          (elim (find path_cmp p t) as (λ o. find path_cmp p t ≡ o
          → image.placed node directories entries (elim o [ Some other ↦ None | None ↦ Some (put path_cmp p (node e) t) ]) ≡ Some after → IsPlaced directories (Some e ∷ entries) t after) [
            | None ↦ λ free l. used_placed directories entries t after e p is (node e) free (all_placed node directories entries (put path_cmp p (node e) t) after l)
            | Some other ↦ λ taken l. absurd (let wrong : ◌≡◌ {A = Option (Tree StoredFile)} None (Some after) = sym (placed-none node directories entries) ∙ l in cc)
          ]) refl k
    ]) refl h

-- where they are good, all can be placed, and nothing stands at other paths
pub record CanPlace (node : image.Entry → Node StoredFile) (directories entries : List (Option image.Entry)) (t : Tree StoredFile) : Type 0 where
  pub after : Tree StoredFile
  pub is : image.placed node directories entries (Some t) ≡ Some after
  pub others : (q : List Name) → find path_cmp q t ≡ None → ((i : ℕ) → path_if directories (slot entries i) ≢ Some q) → find path_cmp q after ≡ None

good-behind : (directories entries : List (Option image.Entry)) (o : Option image.Entry) (t : Tree StoredFile) → IsGood directories (o ∷ entries) t → IsGood directories entries t
good-behind directories entries o t g = record {
  parents = λ i. g.parents (suc i);
  places = λ i j q h k. let e : suc i ≡ suc j = g.places (suc i) (suc j) q h k in omega arith;
  apart = λ i. g.apart (suc i);
}

good-next : (directories entries : List (Option image.Entry)) (e : image.Entry) (p : List Name) (n : Node StoredFile) (t : Tree StoredFile) → image.path_of_entry directories e ≡ Some p
    → IsGood directories (Some e ∷ entries) t → IsGood directories entries (put path_cmp p n t)
good-next directories entries e p n t is g = record {
  parents = λ i. g.parents (suc i);
  places = λ i j q h k. let e : suc i ≡ suc j = g.places (suc i) (suc j) q h k in omega arith;
  apart = λ i q h. put-stays q p n t (λ same. let e : 0 ≡ suc i = g.places 0 (suc i) q (is ∙ ap Some same) h in omega arith) (g.apart (suc i) q h);
}

pub can_place : (node : image.Entry → Node StoredFile) (directories entries : List (Option image.Entry)) (t : Tree StoredFile) → IsGood directories entries t → CanPlace node directories entries t
can_place node directories [] t g = record { after = t; is = refl; others = λ q h n. h }
can_place node directories (None ∷ entries) t g =
    let r = can_place node directories entries t (good-behind directories entries None t g) in
    record { after = r.after; is = r.is; others = λ q h n. r.others q h (λ i. n (suc i)) }
can_place node directories (Some e ∷ entries) t g =
    (elim (image.path_of_entry directories e) as (λ o. image.path_of_entry directories e ≡ o → IsSome o → CanPlace node directories (Some e ∷ entries) t) [
      | None ↦ λ is s. absurd (let wrong : false ≡ true = s in cc)
      | Some p ↦ λ is s.
          let free : find path_cmp p t ≡ None = g.apart 0 p is in
          let r = can_place node directories entries (put path_cmp p (node e) t) (good-next directories entries e p (node e) t is g) in
          let step : elim (image.path_of_entry directories e) [ None ↦ None | Some path ↦ image.put_new path (node e) t ] ≡ Some (put path_cmp p (node e) t)
          = ap (λ (o : Option (List Name)). elim o [ None ↦ None | Some path ↦ image.put_new path (node e) t ]) is
          ∙ ap (λ (o : Option (Node StoredFile)). elim o [ Some other ↦ None | None ↦ Some (put path_cmp p (node e) t) ]) free in
          record {
            after = r.after;
            is = ap (image.placed node directories entries) step ∙ r.is;
            others = λ q h n. r.others q (put-stays q p (node e) t (λ same. n 0 (is ∙ ap Some same)) h) (λ i. n (suc i));
          }
    ]) refl (g.parents 0 e refl)

-- ---- the entries that make a tree

-- what the named entries of an image have that make a tree
pub record AreGood (files directories : List (Option image.Entry)) : Type 0 where
  pub file_parents : HaveParents (named directories) (named files)
  pub directory_parents : HaveParents (named directories) (named directories)
  pub distinct : AreDistinct (paths (named directories) (named files)) (paths (named directories) (named directories))

some-mapped : {A B : Type 0} (f : A → B) (o : Option A) → IsSome (option_map f o) → IsSome o
some-mapped f None h = h
some-mapped f (Some x) h = refl

mapped-some : {A B : Type 0} (f : A → B) (o : Option A) → IsSome o → IsSome (option_map f o)
mapped-some f None h = h
mapped-some f (Some x) h = refl

have_parents : (directories entries : List (Option image.Entry)) (t : Tree StoredFile) → IsGood directories entries t → HaveParents (named directories) (named entries)
have_parents directories entries t g i entry h =
    (elim (slot entries i) as (λ o. slot entries i ≡ o → option_map named_entry o ≡ Some entry → IsSome (way (named directories) 5 entry.parent.0)) [
      | None ↦ λ is k. absurd (not_some k)
      | Some e ↦ λ is k.
          let same : named_entry e ≡ entry = cc in
          let used : IsSome (image.way_to 5 directories e.parent) = some-mapped (λ way. way ++ e.name ∷ []) (image.way_to 5 directories e.parent) (g.parents i e is) in
          subst (λ (x : Entry). IsSome (way (named directories) 5 x.parent.0)) same (subst IsSome (way-named directories 5 e.parent) used)
    ]) refl (sym (slot-named entries i) ∙ h)

parents_good : (directories entries : List (Option image.Entry)) → HaveParents (named directories) (named entries) → (i : ℕ) (e : image.Entry) → slot entries i ≡ Some e → IsSome (image.path_of_entry directories e)
parents_good directories entries parents i e h =
    let used : IsSome (way (named directories) 5 e.parent) = parents i (named_entry e) (slot-named entries i ∙ ap (option_map named_entry) h) in
    mapped-some (λ way. way ++ e.name ∷ []) (image.way_to 5 directories e.parent) (subst IsSome (sym (way-named directories 5 e.parent)) used)

-- the entries that make a tree are good
pub tree-good : (entries : image.Entries) (t : Tree StoredFile) → image.tree_of_entries entries ≡ Some t → AreGood entries.files entries.directories
tree-good entries t h =
    (elim (image.placed (λ entry. directory) entries.directories entries.directories (Some [])) as
    (λ o. image.placed (λ entry. directory) entries.directories entries.directories (Some []) ≡ o
    → image.placed (λ entry. file entry.stored) entries.directories entries.files o ≡ Some t → AreGood entries.files entries.directories) [
      | None ↦ λ is k. absurd (let wrong : ◌≡◌ {A = Option (Tree StoredFile)} None (Some t) = sym (placed-none (λ entry. file entry.stored) entries.directories entries.files) ∙ k in cc)
      | Some below ↦ λ is k.
          made below (all_placed (λ entry. directory) entries.directories entries.directories [] below is) (all_placed (λ entry. file entry.stored) entries.directories entries.files below t k)
    ]) refl h
  where
    made : (below : Tree StoredFile) → IsPlaced entries.directories entries.directories [] below → IsPlaced entries.directories entries.files below t → AreGood entries.files entries.directories
    made below d f = record {
      file_parents = have_parents entries.directories entries.files below f.good;
      directory_parents = have_parents entries.directories entries.directories [] d.good;
      distinct = distinct;
    }
      where
        distinct : AreDistinct (paths (named entries.directories) (named entries.files)) (paths (named entries.directories) (named entries.directories))
        distinct (in_file a) (in_file b) path h k =
            ap in_file (f.good.places a b path (sym (slot-path entries.directories entries.files a) ∙ h) (sym (slot-path entries.directories entries.files b) ∙ k))
        distinct (in_directory a) (in_directory b) path h k =
            ap in_directory (d.good.places a b path (sym (slot-path entries.directories entries.directories a) ∙ h) (sym (slot-path entries.directories entries.directories b) ∙ k))
        distinct (in_file a) (in_directory b) path h k =
            absurd (d.found b path (sym (slot-path entries.directories entries.directories b) ∙ k) (f.good.apart a path (sym (slot-path entries.directories entries.files a) ∙ h)))
        distinct (in_directory a) (in_file b) path h k =
            absurd (d.found a path (sym (slot-path entries.directories entries.directories a) ∙ h) (f.good.apart b path (sym (slot-path entries.directories entries.files b) ∙ k)))

-- good entries make a tree
pub good-tree : (entries : image.Entries) → AreGood entries.files entries.directories → (t : Tree StoredFile) × (image.tree_of_entries entries ≡ Some t)
good-tree entries g =
    let below = can_place (λ entry. directory) entries.directories entries.directories [] (record {
      parents = parents_good entries.directories entries.directories g.directory_parents;
      places = λ i j q h k. directory_number i j (g.distinct (in_directory i) (in_directory j) q (slot-path entries.directories entries.directories i ∙ h) (slot-path entries.directories entries.directories j ∙ k));
      apart = λ i q h. refl;
    }) in
    let all = can_place (λ entry. file entry.stored) entries.directories entries.files below.after (record {
      parents = parents_good entries.directories entries.files g.file_parents;
      places = λ i j q h k. file_number i j (g.distinct (in_file i) (in_file j) q (slot-path entries.directories entries.files i ∙ h) (slot-path entries.directories entries.files j ∙ k));
      apart = λ i q h. below.others q refl (λ j k. not_both i j (g.distinct (in_file i) (in_directory j) q (slot-path entries.directories entries.files i ∙ h) (slot-path entries.directories entries.directories j ∙ k)));
    }) in
    (all.after, ap (image.placed (λ entry. file entry.stored) entries.directories entries.files) below.is ∙ all.is)
