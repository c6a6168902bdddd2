-- Records applied to the entries of an image, and to the tree that these stand for.
use Rattle.std.proofs.Common.{◌≡◌, ◌≢◌, ℕ, zero, suc, ◌<◌, Bool, true, false, cond, List, [], ◌∷◌, ◌++◌, length, set, get_or-set_same, get_or-set_other, length-append, arith, ◌≤◌, ◌+◌, refl, sym, ap, subst, ◌∙◌, Option, Some, None, IsSome, ◌⊎◌, inl, inr}
use Rattle.std.proofs.lemmas.List.{map-set, length-map}
use Rattle.std.specs.Prelude.{option_map, is_some, is_none, slice_get, slice_set, ◌==◌, ◌&&◌, bytes_eq}
use Rattle.std.specs.Cmp.Lexicographic.{same_text}
use Rattle.std.specs.FinMap.Entries.{find}
use Rattle.std.proofs.lemmas.Bool.{cases_eq, eq-eqb, eqb-true}
use Rattle.apex_types.specs.declared.fields.RecordField.{RecordField}
use Rattle.apex_model.specs.Durable.{StoredFile}
use Rattle.apex_model.specs.Image as image
use Rattle.apex_model.specs.Trees.{Name, Node, file, Tree, path_cmp, standing_at, entries_within}
use Rattle.file_tree.specs.declared.entries.Entry.{Entry}
use Rattle.file_tree.specs.Entries.{TreeValue, slot, path_in, stored_of, without_directory, without_file, with_directory, with_file, with_file_at, AreDistinct, Place, in_file, in_directory, path_at, nodes_of}
use Rattle.file_tree.specs.Images.{named_entry, named, names_of}
use Rattle.file_tree.specs.Table.{path_of, way, paths, value_of, HaveParents, AreSound}
use Rattle.file_tree.specs.Records.{is_unused, has_none, takes, new_file, new_directory, gone_file, gone_directory_at, gone_directory, moved_file_at, moved_file, applied}
use Rattle.file_tree.proofs.Paths.{changed_file, Stands, found_stands, at_found, sorted_nodes}
use Rattle.file_tree.proofs.Ways.{not_some, path-made, path-some, slot-paths, way-root, way-none, way-few, way-higher, way-directory, way-grown}
use Rattle.file_tree.proofs.Changes.{some_is, standing-below, is_some as some_from, has_room, slot-within, Becomes, removed_file, renamed_file, stored-here}
use Rattle.file_tree.proofs.Applied.{directories-used, directories-unused, no-new_directory, one-new_directory, put_directory, no-gone_directory, files-used, files-unused, unused-is, no-gone_file, no-new_file, one-new_file, no-moved_file, not-moved_file, takes-free, taking, way-room, put_file}
use Rattle.file_tree.proofs.Children.{ChildOf, path-child, child-path, inside, and-first, and-second, same-bytes}
use Rattle.file_tree.proofs.Listing.{next-none, nothing-within}
use Rattle.file_tree.proofs.LeastNames.{removed_directory}
use Rattle.file_tree.proofs.ImageEntries.{slot-named, flat-slot, AreGood, tree-good, good-tree}

-- changed entries, if they make a tree
abbrev pub if_tree : Option image.Entries → Option image.Entries
if_tree changed = elim changed [ None ↦ None | Some after ↦ elim (image.tree_of_entries after) [ None ↦ None | Some tree ↦ Some after ] ]

pub sound-good : (files directories : List (Option image.Entry)) → AreSound (named files) (named directories) → AreGood files directories
sound-good files directories s = record { file_parents = s.file_parents; directory_parents = s.directory_parents; distinct = s.distinct }

-- changed entries that stand for these names
becomes-seen : (after : image.Entries) (files : List (Option Entry)) (directories : List (Option Entry)) (w : TreeValue) → named after.files ≡ files → named after.directories ≡ directories → Becomes files directories w
    → option_map names_of (if_tree (Some after)) ≡ Some w
becomes-seen after files directories w f d b =
    let sound : AreSound (named after.files) (named after.directories) = subst (λ (xs : List (Option Entry)). AreSound xs (named after.directories)) (sym f) (subst (λ (ys : List (Option Entry)). AreSound files ys) (sym d) b.sound) in
    let tree = good-tree after (sound-good after.files after.directories sound) in
    ap (λ (o : Option (Tree StoredFile)). option_map names_of (elim o [ None ↦ None | Some tree ↦ Some after ])) tree.1 ∙ ap Some ((λ i. value_of (f i) (d i)) ∙ b.is)

-- ---- no file at an entry

pub gone-file-seen : (entries : image.Entries) → AreSound (named entries.files) (named entries.directories) → (k : ℕ)
    → option_map names_of (if_tree (option_map (λ files. record { files = files; directories = entries.directories }) (image.without_entry entries.files k))) ≡ gone_file (names_of entries) k
gone-file-seen entries sound k =
    let v = names_of entries in
    let used : is_some (slot v.files k) ≡ is_some (option_map named_entry (slot entries.files k)) = files-used (named entries.files) (named entries.directories) v refl sound k ∙ ap is_some (slot-named entries.files k) in
    ap (λ (o : Option image.Entry). option_map names_of (if_tree (option_map (λ files. record { files = files; directories = entries.directories }) (elim o [ None ↦ None | Some entry ↦ Some (slice_set entries.files k None) ]))))
    (flat-slot entries.files k)
    ∙ (elim (slot entries.files k) as (λ o. slot entries.files k ≡ o
    → option_map names_of (if_tree (option_map (λ files. record { files = files; directories = entries.directories }) (elim o [ None ↦ None | Some entry ↦ Some (slice_set entries.files k None) ]))) ≡ gone_file v k) [
      | None ↦ λ is. sym (no-gone_file v k (used ∙ ap (λ (o : Option image.Entry). is_some (option_map named_entry o)) is))
      | Some e ↦ λ is.
          let s = some_is (slot v.files k) (used ∙ ap (λ (o : Option image.Entry). is_some (option_map named_entry o)) is) in
          becomes-seen (record { files = slice_set entries.files k None; directories = entries.directories }) (set (named entries.files) k None) (named entries.directories) (without_file v k s.0)
          (map-set (option_map named_entry) entries.files k None) refl
          (removed_file (named entries.files) (named entries.directories) v refl sound k s.0 s.1)
          ∙ sym (ap (option_map (without_file v k)) s.1)
    ]) refl

-- ---- a file at an entry

unused-named : (entries : List (Option image.Entry)) (k : ℕ) → is_unused (named entries) k ≡ is_unused entries k
unused-named [] k = refl
unused-named (None ∷ entries) zero = refl
unused-named (Some e ∷ entries) zero = refl
unused-named (e ∷ entries) (suc k) = unused-named entries k

-- where the entries with a file at an entry that had another name make a tree, the parent takes its name
made-takes : (files directories : List (Option Entry)) (k : ℕ) (entry : Entry) → AreSound files directories → k < length files → (ChildOf entry.parent.0 entry.name (slot files k) → ⊥)
    → IsSome (way directories 5 entry.parent.0)
    → ((b : Place) (path : List Name) → path_at (paths directories (set files k (Some entry))) (paths directories directories) (in_file k) ≡ Some path
    → path_at (paths directories (set files k (Some entry))) (paths directories directories) b ≡ Some path → in_file k ≡ b)
    → takes (value_of files directories) entry.parent.0 entry.name ≡ true
unfolding value_of
made-takes files directories k entry sound room not_own used only =
    takes-free files directories (value_of files directories) refl entry.parent.0 entry.name used
    ((elim (standing_at (value_of files directories).nodes (path_in (value_of files directories) entry.parent.0 entry.name)) as
    (λ o. standing_at (value_of files directories).nodes (path_in (value_of files directories) entry.parent.0 entry.name) ≡ o → o ≡ None) [
      | None ↦ λ is. refl
      | Some n ↦ λ is. absurd (stands n is)
    ]) refl)
  where
    stands : (n : Node ℕ) → standing_at (value_of files directories).nodes (path_in (value_of files directories) entry.parent.0 entry.name) ≡ Some n → ⊥
    stands n is =
        let F : List (Option (List Name)) = paths directories files in
        let D : List (Option (List Name)) = paths directories directories in
        let w = way-room files directories (value_of files directories) refl entry.parent.0 entry.name used in
        let r = has_room files directories entry.parent.0 entry.name w.0 w.1 in
        let p : List Name = r.before ++ entry.name ∷ [] in
        let there : find path_cmp p (nodes_of F D) ≡ Some n = sym (standing-below (nodes_of F D) r.before entry.name) ∙ ap (standing_at (nodes_of F D)) (sym r.path_is) ∙ is in
        let st = found_stands F D p n there in
        let made : path_of (way directories 5) (Some entry) ≡ Some p = path-made (way directories 5) entry r.before r.way_is in
        let listed : paths directories (set files k (Some entry)) ≡ set F k (Some p) = map-set (path_of (way directories 5)) files k (Some entry) ∙ ap (set F k) made in
        let within : k < length F = subst (λ n. k < n) (sym (length-map files (path_of (way directories 5)))) room in
        let ch = changed_file F D k (Some p) within in
        let short : length r.before ≤ 5 = way-few directories 5 entry.parent.0 r.before r.way_is in
        let more : length r.before ≤ 6 = omega arith in
        let deep : way directories 6 entry.parent.0 ≡ Some r.before = way-higher directories 5 6 entry.parent.0 r.before r.way_is more in
        let other : st.place ≢ in_file k = λ e. not_own (path-child files directories sound files entry.parent.0 r.before deep entry.name k (ap (path_at F D) (sym e) ∙ st.is)) in
        let here : path_at (paths directories (set files k (Some entry))) D (in_file k) ≡ Some p = ap (λ (xs : List (Option (List Name))). path_at xs D (in_file k)) listed ∙ ch.here in
        let again : path_at (paths directories (set files k (Some entry))) D st.place ≡ Some p = ap (λ (xs : List (Option (List Name))). path_at xs D st.place) listed ∙ ch.there st.place other ∙ st.is in
        other (sym (only st.place p here again))

module _ (entries : image.Entries) (sound : AreSound (named entries.files) (named entries.directories)) (k parent : ℕ) (name : Name) where
  taken-file : slice_get entries.files k ≡ Some None → (t : Tree StoredFile)
      → image.tree_of_entries (record { files = slice_set entries.files k (Some (record { name = name; parent = parent; stored = record { content = []; changes = 0 } })); directories = entries.directories }) ≡ Some t
      → takes (names_of entries) parent name ≡ true
  taken-file unused t h =
      let new : image.Entry = record { name = name; parent = parent; stored = record { content = []; changes = 0 } } in
      let g = tree-good (record { files = slice_set entries.files k (Some new); directories = entries.directories }) t h in
      let listed : named (slice_set entries.files k (Some new)) ≡ set (named entries.files) k (Some (named_entry new)) = map-set (option_map named_entry) entries.files k (Some new) in
      let u = unused-is (named entries.files) k (unused-named entries.files k ∙ ap (λ (o : Option (Option image.Entry)). elim o [ None ↦ false | Some place ↦ is_none place ]) unused) in
      made-takes (named entries.files) (named entries.directories) k (named_entry new) sound u.0 (λ own. not_some (sym u.1 ∙ own.is))
      (g.file_parents k (named_entry new) (ap (λ (xs : List (Option Entry)). slot xs k) listed ∙ get_or-set_same (named entries.files) k (Some (named_entry new)) None u.0))
      (subst (λ (xs : List (Option Entry)). (b : Place) (path : List Name) → path_at (paths (named entries.directories) xs) (paths (named entries.directories) (named entries.directories)) (in_file k) ≡ Some path
      → path_at (paths (named entries.directories) xs) (paths (named entries.directories) (named entries.directories)) b ≡ Some path → in_file k ≡ b) listed (λ b path. g.distinct (in_file k) b path))

  pub new-file-seen : option_map names_of (if_tree (option_map (λ files. record { files = files; directories = entries.directories }) (image.with_new entries.files k (Some name) parent)))
      ≡ new_file (names_of entries) k parent (Some name)
  new-file-seen =
      let v = names_of entries in
      let test : is_unused v.files k ≡ is_unused entries.files k = files-unused (named entries.files) (named entries.directories) v refl sound k ∙ unused-named entries.files k in
      (elim (slice_get entries.files k) as (λ o. slice_get entries.files k ≡ o
      → option_map names_of (if_tree (option_map (λ files. record { files = files; directories = entries.directories })
      (elim o [ Some None ↦ Some (slice_set entries.files k (Some (record { name = name; parent = parent; stored = record { content = []; changes = 0 } }))) | _ ↦ None ]))) ≡ new_file v k parent (Some name)) [
        | None ↦ λ is. sym (no-new_file v k parent (Some name) (test ∙ ap (λ (o : Option (Option image.Entry)). elim o [ None ↦ false | Some place ↦ is_none place ]) is))
        | Some (Some e) ↦ λ is. sym (no-new_file v k parent (Some name) (test ∙ ap (λ (o : Option (Option image.Entry)). elim o [ None ↦ false | Some place ↦ is_none place ]) is))
        | Some None ↦ λ is.
            let free : is_unused v.files k ≡ true = test ∙ ap (λ (o : Option (Option image.Entry)). elim o [ None ↦ false | Some place ↦ is_none place ]) is in
            let after : image.Entries = record { files = slice_set entries.files k (Some (record { name = name; parent = parent; stored = record { content = []; changes = 0 } })); directories = entries.directories } in
            (elim (takes v parent name) as (λ b. takes v parent name ≡ b → option_map names_of (if_tree (Some after)) ≡ new_file v k parent (Some name)) [
              | true ↦ λ taken.
                  becomes-seen after (set (named entries.files) k (Some (record { parent = record { 0 = parent }; name = name; stored = (0, 0) }))) (named entries.directories) (with_file v k (path_in v parent name))
                  (map-set (option_map named_entry) entries.files k (Some (record { name = name; parent = parent; stored = record { content = []; changes = 0 } }))) refl
                  (put_file (named entries.files) (named entries.directories) v refl sound (record { 0 = parent }) name taken k (sym (files-unused (named entries.files) (named entries.directories) v refl sound k) ∙ free))
                  ∙ sym (one-new_file v k parent (Some name) name refl free taken)
              | false ↦ λ not_taken.
                  (elim (image.tree_of_entries after) as (λ o. image.tree_of_entries after ≡ o → option_map names_of (elim o [ None ↦ None | Some tree ↦ Some after ]) ≡ None) [
                    | None ↦ λ h. refl
                    | Some t ↦ λ h. absurd (let wrong : true ≡ false = sym (taken-file is t h) ∙ not_taken in cc)
                  ]) refl
                  ∙ sym ((λ i. cond (free i) (cond (not_taken i) (Some (with_file v k (path_in v parent name))) None) None))
            ]) refl
      ]) refl

-- ---- records of these kinds

first : {A : Type 0} (b : Bool) (x y : A) → b ≡ true → cond b x y ≡ x
first b x y h = ap (λ c. cond c x y) h

-- a record that makes a file
pub made-file-seen : (entries : image.Entries) → AreSound (named entries.files) (named entries.directories) → (change : RecordField) → change.kind ≡ 1
    → option_map names_of (image.applied entries change) ≡ applied (names_of entries) change
made-file-seen entries sound change kind =
    let one : (change.kind == 1) ≡ true = eq-eqb change.kind 1 kind in
    ap (λ (o : Option image.Entries). option_map names_of (if_tree o)) (first (change.kind == 1) (option_map (λ files. record { files = files; directories = entries.directories }) (image.with_new entries.files change.index change.name change.parent.0)) _ one)
    ∙ any change.name
    ∙ sym (first (change.kind == 1) (new_file (names_of entries) change.index change.parent.0 change.name) _ one)
  where
    any : (o : Option Name) → option_map names_of (if_tree (option_map (λ files. record { files = files; directories = entries.directories }) (image.with_new entries.files change.index o change.parent.0)))
        ≡ new_file (names_of entries) change.index change.parent.0 o
    any None = refl
    any (Some name) = new-file-seen entries sound change.index change.parent.0 name

second : {A : Type 0} (b : Bool) (x y : A) → b ≡ false → cond b x y ≡ y
second b x y h = ap (λ c. cond c x y) h

-- a record that removes a file
pub gone-file-record-seen : (entries : image.Entries) → AreSound (named entries.files) (named entries.directories) → (change : RecordField) → change.kind ≡ 3
    → option_map names_of (image.applied entries change) ≡ applied (names_of entries) change
gone-file-record-seen entries sound change kind =
    let one : (change.kind == 1) ≡ false = ap (λ n. n == 1) kind in
    let two : (change.kind == 2) ≡ false = ap (λ n. n == 2) kind in
    let three : (change.kind == 3) ≡ true = eq-eqb change.kind 3 kind in
    ap (λ (o : Option image.Entries). option_map names_of (if_tree o)) (second (change.kind == 1) _ _ one ∙ second (change.kind == 2) _ _ two
    ∙ first (change.kind == 3) (option_map (λ files. record { files = files; directories = entries.directories }) (image.without_entry entries.files change.index)) _ three)
    ∙ gone-file-seen entries sound change.index
    ∙ sym (second (change.kind == 1) _ _ one ∙ second (change.kind == 2) _ _ two ∙ first (change.kind == 3) (gone_file (names_of entries) change.index) _ three)

-- ---- a file under another name

module _ (entries : image.Entries) (sound : AreSound (named entries.files) (named entries.directories)) (k parent : ℕ) (name : Name) (old : image.Entry) (was : slot entries.files k ≡ Some old) where
  old-named : slot (named entries.files) k ≡ Some (named_entry old)
  old-named = slot-named entries.files k ∙ ap (option_map named_entry) was

  -- where a parent takes a name, it is not the file's own
  own-not-taken : takes (names_of entries) parent name ≡ true → (bytes_eq old.name name && (old.parent == parent)) ≡ true → ⊥
  unfolding value_of
  own-not-taken taken own =
      let v = names_of entries in
      let t = taking v parent name taken in
      let r = inside (named entries.files) (named entries.directories) v refl parent name t.used in
      let child : ChildOf parent name (slot (named entries.files) k) = record {
        entry = named_entry old;
        is = old-named;
        parent_is = eqb-true old.parent parent (and-second (bytes_eq old.name name) (old.parent == parent) own);
        name_is = same_text old.name name (sym (and-first (bytes_eq old.name name) (old.parent == parent) own));
      } in
      let F = paths (named entries.directories) (named entries.files) in
      let D = paths (named entries.directories) (named entries.directories) in
      let path : slot F k ≡ Some (r.before ++ name ∷ []) = child-path (named entries.files) (named entries.directories) sound (named entries.files) sound.file_parents parent r.before r.way_is name k child in
      let stands : standing_at v.nodes (path_in v parent name) ≡ Some (file k)
      = ap (standing_at (nodes_of F D)) r.path_is ∙ standing-below (nodes_of F D) r.before name ∙ at_found F D sound.distinct (in_file k) (r.before ++ name ∷ []) path in
      not_some (sym t.free ∙ stands)

  taken-name : (bytes_eq old.name name && (old.parent == parent)) ≡ false → (t : Tree StoredFile)
      → image.tree_of_entries (record { files = slice_set entries.files k (Some (record { name = name; parent = parent; stored = old.stored })); directories = entries.directories }) ≡ Some t
      → takes (names_of entries) parent name ≡ true
  taken-name other t h =
      let new : image.Entry = record { name = name; parent = parent; stored = old.stored } in
      let g = tree-good (record { files = slice_set entries.files k (Some new); directories = entries.directories }) t h in
      let listed : named (slice_set entries.files k (Some new)) ≡ set (named entries.files) k (Some (named_entry new)) = map-set (option_map named_entry) entries.files k (Some new) in
      let room : k < length (named entries.files) = slot-within (named entries.files) k (some_from old-named) in
      made-takes (named entries.files) (named entries.directories) k (named_entry new) sound room
      (λ c. let same : c.entry ≡ named_entry old = (let both : Some c.entry ≡ Some (named_entry old) = sym c.is ∙ old-named in cc) in
      let one : old.name ≡ name = ap (λ (x : Entry). x.name) (sym same) ∙ c.name_is in
      let two : old.parent ≡ parent = ap (λ (x : Entry). x.parent.0) (sym same) ∙ c.parent_is in
      let own : (bytes_eq old.name name && (old.parent == parent)) ≡ true
      = ap (λ b. b && (old.parent == parent)) (ap (bytes_eq old.name) (sym one) ∙ same-bytes old.name) ∙ eq-eqb old.parent parent two in
      let wrong : true ≡ false = sym own ∙ other in absurd (let e : true ≡ false = wrong in cc))
      (g.file_parents k (named_entry new) (ap (λ (xs : List (Option Entry)). slot xs k) listed ∙ get_or-set_same (named entries.files) k (Some (named_entry new)) None room))
      (subst (λ (xs : List (Option Entry)). (b : Place) (path : List Name) → path_at (paths (named entries.directories) xs) (paths (named entries.directories) (named entries.directories)) (in_file k) ≡ Some path
      → path_at (paths (named entries.directories) xs) (paths (named entries.directories) (named entries.directories)) b ≡ Some path → in_file k ≡ b) listed (λ b path. g.distinct (in_file k) b path))

  moved-seen : option_map names_of (if_tree (option_map (λ files. record { files = files; directories = entries.directories })
      (cond (bytes_eq old.name name && (old.parent == parent)) None (Some (slice_set entries.files k (Some (record { name = name; parent = parent; stored = old.stored })))))))
      ≡ moved_file (names_of entries) k parent (Some name)
  moved-seen =
      let v = names_of entries in
      let own = bytes_eq old.name name && (old.parent == parent) in
      let after : image.Entries = record { files = slice_set entries.files k (Some (record { name = name; parent = parent; stored = old.stored })); directories = entries.directories } in
      let outcome : Bool → Option TreeValue = λ b. option_map names_of (if_tree (option_map (λ files. record { files = files; directories = entries.directories })
      (cond b None (Some (slice_set entries.files k (Some (record { name = name; parent = parent; stored = old.stored }))))))) in
      let used : IsSome (slot v.files k) = files-used (named entries.files) (named entries.directories) v refl sound k ∙ ap is_some old-named in
      let s = some_is (slot v.files k) used in
      (elim (takes v parent name) as (λ b. takes v parent name ≡ b → outcome own ≡ moved_file v k parent (Some name)) [
        | true ↦ λ taken.
            let t = taking v parent name taken in
            (elim own as (λ b. own ≡ b → outcome b ≡ moved_file v k parent (Some name)) [
              | true ↦ λ o. absurd (own-not-taken taken o)
              | false ↦ λ o.
                  becomes-seen after (set (named entries.files) k (Some (record { parent = record { 0 = parent }; name = name; stored = stored_of v k }))) (named entries.directories) (with_file_at v k s.0 (path_in v parent name))
                  (map-set (option_map named_entry) entries.files k (Some (record { name = name; parent = parent; stored = old.stored }))
                  ∙ ap (λ (st : ℕ × ℕ). set (named entries.files) k (Some (record { parent = record { 0 = parent }; name = name; stored = st })))
                  (sym (stored-here (named entries.files) (named entries.directories) v refl k (named_entry old) old-named))) refl
                  (renamed_file (named entries.files) (named entries.directories) v refl sound k s.0 s.1 (record { 0 = parent }) name t.used t.few t.free)
                  ∙ sym (ap (moved_file_at v k parent name) s.1 ∙ first (takes v parent name) (Some (with_file_at v k s.0 (path_in v parent name))) None taken)
            ]) refl
        | false ↦ λ not_taken.
            (elim own as (λ b. own ≡ b → outcome b ≡ None) [
              | true ↦ λ o. refl
              | false ↦ λ o.
                  (elim (image.tree_of_entries after) as (λ t. image.tree_of_entries after ≡ t → option_map names_of (elim t [ None ↦ None | Some tree ↦ Some after ]) ≡ None) [
                    | None ↦ λ h. refl
                    | Some t ↦ λ h. absurd (let wrong : true ≡ false = sym (taken-name o t h) ∙ not_taken in cc)
                  ]) refl
            ]) refl
            ∙ sym (not-moved_file v k parent (Some name) name refl not_taken)
      ]) refl

moved-file-seen : (entries : image.Entries) → AreSound (named entries.files) (named entries.directories) → (k parent : ℕ) (o : Option Name)
    → option_map names_of (if_tree (option_map (λ files. record { files = files; directories = entries.directories }) (image.with_renamed entries.files k o parent))) ≡ moved_file (names_of entries) k parent o
moved-file-seen entries sound k parent None = refl
moved-file-seen entries sound k parent (Some name) =
    let v = names_of entries in
    let outcome : Option image.Entry → Option TreeValue = λ o. option_map names_of (if_tree (option_map (λ files. record { files = files; directories = entries.directories })
    (elim o [ None ↦ None | Some entry ↦ cond (bytes_eq entry.name name && (entry.parent == parent)) None (Some (slice_set entries.files k (Some (record { name = name; parent = parent; stored = entry.stored })))) ]))) in
    let used : is_some (slot v.files k) ≡ is_some (option_map named_entry (slot entries.files k)) = files-used (named entries.files) (named entries.directories) v refl sound k ∙ ap is_some (slot-named entries.files k) in
    ap outcome (flat-slot entries.files k)
    ∙ (elim (slot entries.files k) as (λ o. slot entries.files k ≡ o → outcome o ≡ moved_file v k parent (Some name)) [
      | None ↦ λ is. sym (no-moved_file v k parent (Some name) (used ∙ ap (λ (o : Option image.Entry). is_some (option_map named_entry o)) is))
      | Some old ↦ λ is. moved-seen entries sound k parent name old is
    ]) refl

-- a record that gives a file another name, which one of another kind does too
pub moved-file-record-seen : (entries : image.Entries) → AreSound (named entries.files) (named entries.directories) → (change : RecordField)
    → (change.kind == 1) ≡ false → (change.kind == 2) ≡ false → (change.kind == 3) ≡ false → (change.kind == 4) ≡ false
    → option_map names_of (image.applied entries change) ≡ applied (names_of entries) change
moved-file-record-seen entries sound change one two three four =
    ap (λ (o : Option image.Entries). option_map names_of (if_tree o)) (second (change.kind == 1) _ _ one ∙ second (change.kind == 2) _ _ two ∙ second (change.kind == 3) _ _ three
    ∙ second (change.kind == 4) _ (option_map (λ files. record { files = files; directories = entries.directories }) (image.with_renamed entries.files change.index change.name change.parent.0)) four)
    ∙ moved-file-seen entries sound change.index change.parent.0 change.name
    ∙ sym (second (change.kind == 1) _ _ one ∙ second (change.kind == 2) _ _ two ∙ second (change.kind == 3) _ _ three
    ∙ second (change.kind == 4) _ (moved_file (names_of entries) change.index change.parent.0 change.name) four)

-- ---- no directory at an entry

longer : (p : List Name) (m : Name) → p ≢ p ++ m ∷ []
longer p m h = absurd (let e : length p ≡ length p + 1 = ap length h ∙ length-append p (m ∷ []) in omega arith)

gone-slot : {A : Type 0} (xs : List (Option A)) (k : ℕ) → slot (set xs k None) k ≡ None
gone-slot [] zero = refl
gone-slot [] (suc k) = refl
gone-slot (x ∷ xs) zero = refl
gone-slot (x ∷ xs) (suc k) = gone-slot xs k

-- where the entries without a directory still have parents, nothing stood in it
none-within : (files directories : List (Option Entry)) → AreSound files directories → (k : ℕ) (p : List Name) → slot (paths directories directories) k ≡ Some p
    → HaveParents (set directories k None) files → HaveParents (set directories k None) (set directories k None)
    → entries_within (nodes_of (paths directories files) (paths directories directories)) p ≡ []
none-within files directories sound k p was file_parents directory_parents =
    nothing-within (entries_within (nodes_of F D) p) (next-none (nodes_of F D) p None (sorted_nodes F D) (λ m y h. absurd (nowhere m (found_stands F D (p ++ m ∷ []) y h))))
  where
    F : List (Option (List Name))
    F = paths directories files

    D : List (Option (List Name))
    D = paths directories directories

    deep : way directories 6 (suc k) ≡ Some p
    deep = way-directory directories 5 k ∙ sym (slot-paths directories directories k) ∙ was

    lost : (n : ℕ) → n ≡ suc k → IsSome (way (set directories k None) 5 n) → ⊥
    lost n e used =
        let none : way (set directories k None) 5 n ≡ None = ap (way (set directories k None) 5) e ∙ way-directory (set directories k None) 4 k ∙ ap (path_of (way (set directories k None) 4)) (gone-slot directories k) in
        not_some (sym none ∙ (some_is (way (set directories k None) 5 n) used).1)

    nowhere : (m : Name) {y : Node ℕ} → Stands F D (p ++ m ∷ []) y → ⊥
    nowhere m s = at s.place s.is
      where
        at : (b : Place) → path_at F D b ≡ Some (p ++ m ∷ []) → ⊥
        at (in_file i) is =
            let c = path-child files directories sound files (suc k) p deep m i is in
            lost c.entry.parent.0 c.parent_is (file_parents i c.entry c.is)
        at (in_directory i) is =
            let c = path-child files directories sound directories (suc k) p deep m i is in
            let other : i ≢ k = λ e. longer p m (let both : Some p ≡ Some (p ++ m ∷ []) = sym was ∙ ap (slot D) (sym e) ∙ is in cc) in
            lost c.entry.parent.0 c.parent_is (directory_parents i c.entry (get_or-set_other directories k i None None other ∙ c.is))

pub gone-directory-seen : (entries : image.Entries) → AreSound (named entries.files) (named entries.directories) → (k : ℕ)
    → option_map names_of (if_tree (option_map (λ directories. record { files = entries.files; directories = directories }) (image.without_entry entries.directories k))) ≡ gone_directory (names_of entries) k
unfolding value_of
gone-directory-seen entries sound k =
    let v = names_of entries in
    let after : image.Entries = record { files = entries.files; directories = slice_set entries.directories k None } in
    let outcome : Option image.Entry → Option TreeValue = λ o. option_map names_of (if_tree (option_map (λ directories. record { files = entries.files; directories = directories })
    (elim o [ None ↦ None | Some entry ↦ Some (slice_set entries.directories k None) ]))) in
    let used : is_some (slot v.directories k) ≡ is_some (option_map named_entry (slot entries.directories k))
    = directories-used (named entries.files) (named entries.directories) v refl sound k ∙ ap is_some (slot-named entries.directories k) in
    let listed : named (slice_set entries.directories k None) ≡ set (named entries.directories) k None = map-set (option_map named_entry) entries.directories k None in
    ap outcome (flat-slot entries.directories k)
    ∙ (elim (slot entries.directories k) as (λ o. slot entries.directories k ≡ o → outcome o ≡ gone_directory v k) [
      | None ↦ λ is. sym (no-gone_directory v k (used ∙ ap (λ (o : Option image.Entry). is_some (option_map named_entry o)) is))
      | Some e ↦ λ is.
          let s = some_is (slot v.directories k) (used ∙ ap (λ (o : Option image.Entry). is_some (option_map named_entry o)) is) in
          (elim (has_none (entries_within v.nodes s.0)) as (λ b. has_none (entries_within v.nodes s.0) ≡ b → option_map names_of (if_tree (Some after)) ≡ gone_directory v k) [
            | true ↦ λ h.
                becomes-seen after (named entries.files) (set (named entries.directories) k None) (without_directory v k s.0) refl listed
                (removed_directory (named entries.files) (named entries.directories) v refl sound (suc k) k refl s.0 s.1 (none-there (entries_within v.nodes s.0) h))
                ∙ sym (ap (gone_directory_at v k) s.1 ∙ first (has_none (entries_within v.nodes s.0)) (Some (without_directory v k s.0)) None h)
            | false ↦ λ h.
                (elim (image.tree_of_entries after) as (λ t. image.tree_of_entries after ≡ t → option_map names_of (elim t [ None ↦ None | Some tree ↦ Some after ]) ≡ None) [
                  | None ↦ λ _. refl
                  | Some t ↦ λ is_tree.
                      let g = tree-good after t is_tree in
                      let empty : entries_within v.nodes s.0 ≡ [] = none-within (named entries.files) (named entries.directories) sound k s.0 s.1
                      (subst (λ (xs : List (Option Entry)). HaveParents xs (named entries.files)) listed g.file_parents)
                      (subst (λ (xs : List (Option Entry)). HaveParents xs xs) listed g.directory_parents) in
                      absurd (let wrong : true ≡ false = sym (ap has_none empty) ∙ h in cc)
                ]) refl
                ∙ sym (ap (gone_directory_at v k) s.1 ∙ second (has_none (entries_within v.nodes s.0)) (Some (without_directory v k s.0)) None h)
          ]) refl
    ]) refl
  where
    none-there : {A : Type 0} (xs : List A) → has_none xs ≡ true → xs ≡ []
    none-there [] h = refl
    none-there (x ∷ xs) h = absurd (let e : false ≡ true = h in cc)

-- a record that removes a directory
pub gone-directory-record-seen : (entries : image.Entries) → AreSound (named entries.files) (named entries.directories) → (change : RecordField) → change.kind ≡ 4
    → option_map names_of (image.applied entries change) ≡ applied (names_of entries) change
gone-directory-record-seen entries sound change kind =
    let one : (change.kind == 1) ≡ false = ap (λ n. n == 1) kind in
    let two : (change.kind == 2) ≡ false = ap (λ n. n == 2) kind in
    let three : (change.kind == 3) ≡ false = ap (λ n. n == 3) kind in
    let four : (change.kind == 4) ≡ true = eq-eqb change.kind 4 kind in
    ap (λ (o : Option image.Entries). option_map names_of (if_tree o)) (second (change.kind == 1) _ _ one ∙ second (change.kind == 2) _ _ two ∙ second (change.kind == 3) _ _ three
    ∙ first (change.kind == 4) (option_map (λ directories. record { files = entries.files; directories = directories }) (image.without_entry entries.directories change.index)) _ four)
    ∙ gone-directory-seen entries sound change.index
    ∙ sym (second (change.kind == 1) _ _ one ∙ second (change.kind == 2) _ _ two ∙ second (change.kind == 3) _ _ three
    ∙ first (change.kind == 4) (gone_directory (names_of entries) change.index) _ four)

-- ---- a directory at an entry

-- a directory that another one lies in
record LiesIn (directories : List (Option Entry)) (k : ℕ) (w : List Name) : Type 0 where
  pub depth : ℕ
  pub above : List Name
  pub is : way directories depth (suc k) ≡ Some above
  pub few : length above ≤ length w

-- where an unused entry is taken, a path is the same as before or leads through it
way-back : (directories : List (Option Entry)) (k : ℕ) (entry : Entry) (depth d : ℕ) (w : List Name) → way (set directories k (Some entry)) depth d ≡ Some w
    → (way directories depth d ≡ Some w) ⊎ LiesIn (set directories k (Some entry)) k w
way-back directories k entry depth zero w h = inl (way-root directories depth ∙ sym (way-root (set directories k (Some entry)) depth) ∙ h)
way-back directories k entry zero (suc d) w h = absurd (way-none (set directories k (Some entry)) d w h)
way-back directories k entry (suc depth) (suc d) w h = elim (cases_eq d k) [
  | inl e ↦ inr (record { depth = suc depth; above = w; is = ap (λ m. way (set directories k (Some entry)) (suc depth) (suc m)) (sym e) ∙ h; few = omega arith })
  | inr other ↦
      let n = path-some (way (set directories k (Some entry)) depth) (slot (set directories k (Some entry)) d) w (sym (way-directory (set directories k (Some entry)) depth d) ∙ h) in
      let long : length w ≡ length n.before + 1 = ap length n.path_is ∙ length-append n.before (n.entry.name ∷ []) in
      let here : slot directories d ≡ Some n.entry = sym (get_or-set_other directories k d (Some entry) None other) ∙ n.is in
      elim (way-back directories k entry depth n.entry.parent.0 n.before n.way_is) [
        | inl before ↦ inl (way-directory directories depth d ∙ ap (path_of (way directories depth)) here ∙ path-made (way directories depth) n.entry n.before before ∙ ap Some (sym n.path_is))
        | inr l ↦ inr (record { depth = l.depth; above = l.above; is = l.is; few = (let few = l.few in omega arith) })
      ]
]

module _ (files directories : List (Option Entry)) (k : ℕ) (entry : Entry) (sound : AreSound files directories) (room : k < length directories) (unused : slot directories k ≡ None) where
  -- the parent of a directory at an unused entry was there before
  parent-before : (before : List Name) → way (set directories k (Some entry)) 5 entry.parent.0 ≡ Some before → way directories 5 entry.parent.0 ≡ Some before
  parent-before before h = elim (way-back directories k entry 5 entry.parent.0 before h) [
    | inl same ↦ same
    | inr l ↦
        let after : List (Option Entry) = set directories k (Some entry) in
        let short : length before ≤ 5 = way-few after 5 entry.parent.0 before h in
        let deep : way after 6 (suc k) ≡ Some (before ++ entry.name ∷ [])
        = way-directory after 5 k ∙ ap (path_of (way after 5)) (get_or-set_same directories k (Some entry) None room) ∙ path-made (way after 5) entry before h in
        let few = l.few in
        let less : length l.above ≤ 6 = omega arith in
        let same : Some l.above ≡ Some (before ++ entry.name ∷ []) = sym (way-higher after l.depth 6 (suc k) l.above l.is less) ∙ deep in
        let is : l.above ≡ before ++ entry.name ∷ [] = cc in
        let long : length l.above ≡ length before + 1 = ap length is ∙ length-append before (entry.name ∷ []) in
        absurd (omega arith)
  ]

  -- a path stays where the entry is taken
  path-stays : (place : Option Entry) (p : List Name) → path_of (way directories 5) place ≡ Some p → path_of (way (set directories k (Some entry)) 5) place ≡ Some p
  path-stays place p h =
      let n = path-some (way directories 5) place p h in
      ap (path_of (way (set directories k (Some entry)) 5)) n.is
      ∙ path-made (way (set directories k (Some entry)) 5) n.entry n.before (way-grown directories k entry unused 5 n.entry.parent.0 n.before n.way_is) ∙ ap Some (sym n.path_is)

  all-stay : (b : Place) (p : List Name) → path_at (paths directories files) (paths directories directories) b ≡ Some p
      → path_at (paths (set directories k (Some entry)) files) (paths (set directories k (Some entry)) (set directories k (Some entry))) b ≡ Some p
  all-stay (in_file i) p h = slot-paths (set directories k (Some entry)) files i ∙ path-stays (slot files i) p (sym (slot-paths directories files i) ∙ h)
  all-stay (in_directory d) p h =
      let was : path_of (way directories 5) (slot directories d) ≡ Some p = sym (slot-paths directories directories d) ∙ h in
      let other : d ≢ k = λ e. not_some (sym (ap (path_of (way directories 5)) (ap (slot directories) e ∙ unused)) ∙ was) in
      slot-paths (set directories k (Some entry)) (set directories k (Some entry)) d
      ∙ ap (path_of (way (set directories k (Some entry)) 5)) (get_or-set_other directories k d (Some entry) None other) ∙ path-stays (slot directories d) p was

  -- where the entries with the directory make a tree, its parent takes its name
  directory-takes : IsSome (way (set directories k (Some entry)) 5 entry.parent.0)
      → AreDistinct (paths (set directories k (Some entry)) files) (paths (set directories k (Some entry)) (set directories k (Some entry)))
      → takes (value_of files directories) entry.parent.0 entry.name ≡ true
  unfolding value_of
  directory-takes used_after distinct =
      let s = some_is (way (set directories k (Some entry)) 5 entry.parent.0) used_after in
      let used : IsSome (way directories 5 entry.parent.0) = some_from (parent-before s.0 s.1) in
      takes-free files directories (value_of files directories) refl entry.parent.0 entry.name used
      ((elim (standing_at (value_of files directories).nodes (path_in (value_of files directories) entry.parent.0 entry.name)) as
      (λ o. standing_at (value_of files directories).nodes (path_in (value_of files directories) entry.parent.0 entry.name) ≡ o → o ≡ None) [
        | None ↦ λ is. refl
        | Some n ↦ λ is. absurd (stands used n is)
      ]) refl)
    where
      stands : IsSome (way directories 5 entry.parent.0) → (n : Node ℕ) → standing_at (value_of files directories).nodes (path_in (value_of files directories) entry.parent.0 entry.name) ≡ Some n → ⊥
      stands used n is =
          let F : List (Option (List Name)) = paths directories files in
          let D : List (Option (List Name)) = paths directories directories in
          let after : List (Option Entry) = set directories k (Some entry) in
          let w = way-room files directories (value_of files directories) refl entry.parent.0 entry.name used in
          let r = has_room files directories entry.parent.0 entry.name w.0 w.1 in
          let p : List Name = r.before ++ entry.name ∷ [] in
          let there : find path_cmp p (nodes_of F D) ≡ Some n = sym (standing-below (nodes_of F D) r.before entry.name) ∙ ap (standing_at (nodes_of F D)) (sym r.path_is) ∙ is in
          let st = found_stands F D p n there in
          let here : path_at (paths after files) (paths after after) (in_directory k) ≡ Some p
          = slot-paths after after k ∙ ap (path_of (way after 5)) (get_or-set_same directories k (Some entry) None room)
          ∙ path-made (way after 5) entry r.before (way-grown directories k entry unused 5 entry.parent.0 r.before r.way_is) in
          let same : in_directory k ≡ st.place = distinct (in_directory k) st.place p here (all-stay st.place p st.is) in
          not_some (sym (slot-paths directories directories k ∙ ap (path_of (way directories 5)) unused) ∙ ap (path_at F D) same ∙ st.is)

module _ (entries : image.Entries) (sound : AreSound (named entries.files) (named entries.directories)) (k parent : ℕ) (name : Name) where
  taken-directory : slice_get entries.directories k ≡ Some None → (t : Tree StoredFile)
      → image.tree_of_entries (record { files = entries.files; directories = slice_set entries.directories k (Some (record { name = name; parent = parent; stored = record { content = []; changes = 0 } })) }) ≡ Some t
      → takes (names_of entries) parent name ≡ true
  taken-directory unused t h =
      let new : image.Entry = record { name = name; parent = parent; stored = record { content = []; changes = 0 } } in
      let D : List (Option Entry) = named entries.directories in
      let g = tree-good (record { files = entries.files; directories = slice_set entries.directories k (Some new) }) t h in
      let listed : named (slice_set entries.directories k (Some new)) ≡ set D k (Some (named_entry new)) = map-set (option_map named_entry) entries.directories k (Some new) in
      let u = unused-is D k (unused-named entries.directories k ∙ ap (λ (o : Option (Option image.Entry)). elim o [ None ↦ false | Some place ↦ is_none place ]) unused) in
      let parents : HaveParents (set D k (Some (named_entry new))) (set D k (Some (named_entry new))) = subst (λ (xs : List (Option Entry)). HaveParents xs xs) listed g.directory_parents in
      directory-takes (named entries.files) D k (named_entry new) sound u.0 u.1
      (parents k (named_entry new) (get_or-set_same D k (Some (named_entry new)) None u.0))
      (subst (λ (xs : List (Option Entry)). AreDistinct (paths xs (named entries.files)) (paths xs xs)) listed g.distinct)

  pub new-directory-seen : option_map names_of (if_tree (option_map (λ directories. record { files = entries.files; directories = directories }) (image.with_new entries.directories k (Some name) parent)))
      ≡ new_directory (names_of entries) k parent (Some name)
  new-directory-seen =
      let v = names_of entries in
      let test : is_unused v.directories k ≡ is_unused entries.directories k
      = directories-unused (named entries.files) (named entries.directories) v refl sound k ∙ unused-named entries.directories k in
      (elim (slice_get entries.directories k) as (λ o. slice_get entries.directories k ≡ o
      → option_map names_of (if_tree (option_map (λ directories. record { files = entries.files; directories = directories })
      (elim o [ Some None ↦ Some (slice_set entries.directories k (Some (record { name = name; parent = parent; stored = record { content = []; changes = 0 } }))) | _ ↦ None ])))
      ≡ new_directory v k parent (Some name)) [
        | None ↦ λ is. sym (no-new_directory v k parent (Some name) (test ∙ ap (λ (o : Option (Option image.Entry)). elim o [ None ↦ false | Some place ↦ is_none place ]) is))
        | Some (Some e) ↦ λ is. sym (no-new_directory v k parent (Some name) (test ∙ ap (λ (o : Option (Option image.Entry)). elim o [ None ↦ false | Some place ↦ is_none place ]) is))
        | Some None ↦ λ is.
            let free : is_unused v.directories k ≡ true = test ∙ ap (λ (o : Option (Option image.Entry)). elim o [ None ↦ false | Some place ↦ is_none place ]) is in
            let after : image.Entries = record { files = entries.files; directories = slice_set entries.directories k (Some (record { name = name; parent = parent; stored = record { content = []; changes = 0 } })) } in
            (elim (takes v parent name) as (λ b. takes v parent name ≡ b → option_map names_of (if_tree (Some after)) ≡ new_directory v k parent (Some name)) [
              | true ↦ λ taken.
                  becomes-seen after (named entries.files) (set (named entries.directories) k (Some (record { parent = record { 0 = parent }; name = name; stored = (0, 0) }))) (with_directory v k (path_in v parent name)) refl
                  (map-set (option_map named_entry) entries.directories k (Some (record { name = name; parent = parent; stored = record { content = []; changes = 0 } })))
                  (put_directory (named entries.files) (named entries.directories) v refl sound (record { 0 = parent }) name taken k
                  (sym (directories-unused (named entries.files) (named entries.directories) v refl sound k) ∙ free))
                  ∙ sym (one-new_directory v k parent (Some name) name refl free taken)
              | false ↦ λ not_taken.
                  (elim (image.tree_of_entries after) as (λ o. image.tree_of_entries after ≡ o → option_map names_of (elim o [ None ↦ None | Some tree ↦ Some after ]) ≡ None) [
                    | None ↦ λ h. refl
                    | Some t ↦ λ h. absurd (let wrong : true ≡ false = sym (taken-directory is t h) ∙ not_taken in cc)
                  ]) refl
                  ∙ sym ((λ i. cond (free i) (cond (not_taken i) (Some (with_directory v k (path_in v parent name))) None) None))
            ]) refl
      ]) refl

-- a record that makes a directory
pub made-directory-seen : (entries : image.Entries) → AreSound (named entries.files) (named entries.directories) → (change : RecordField) → change.kind ≡ 2
    → option_map names_of (image.applied entries change) ≡ applied (names_of entries) change
made-directory-seen entries sound change kind =
    let one : (change.kind == 1) ≡ false = ap (λ n. n == 1) kind in
    let two : (change.kind == 2) ≡ true = eq-eqb change.kind 2 kind in
    ap (λ (o : Option image.Entries). option_map names_of (if_tree o)) (second (change.kind == 1) _ _ one
    ∙ first (change.kind == 2) (option_map (λ directories. record { files = entries.files; directories = directories }) (image.with_new entries.directories change.index change.name change.parent.0)) _ two)
    ∙ any change.name
    ∙ sym (second (change.kind == 1) _ _ one ∙ first (change.kind == 2) (new_directory (names_of entries) change.index change.parent.0 change.name) _ two)
  where
    any : (o : Option Name) → option_map names_of (if_tree (option_map (λ directories. record { files = entries.files; directories = directories }) (image.with_new entries.directories change.index o change.parent.0)))
        ≡ new_directory (names_of entries) change.index change.parent.0 o
    any None = refl
    any (Some name) = new-directory-seen entries sound change.index change.parent.0 name

-- ---- any record

-- what a record changes in the entries of an image, it changes in the names that they stand for
pub record-seen : (entries : image.Entries) → AreSound (named entries.files) (named entries.directories) → (change : RecordField)
    → option_map names_of (image.applied entries change) ≡ applied (names_of entries) change
record-seen entries sound change =
    (elim (change.kind == 1) as (λ b. (change.kind == 1) ≡ b → option_map names_of (image.applied entries change) ≡ applied (names_of entries) change) [
      | true ↦ λ one. made-file-seen entries sound change (eqb-true change.kind 1 one)
      | false ↦ λ one. (elim (change.kind == 2) as (λ b. (change.kind == 2) ≡ b → option_map names_of (image.applied entries change) ≡ applied (names_of entries) change) [
        | true ↦ λ two. made-directory-seen entries sound change (eqb-true change.kind 2 two)
        | false ↦ λ two. (elim (change.kind == 3) as (λ b. (change.kind == 3) ≡ b → option_map names_of (image.applied entries change) ≡ applied (names_of entries) change) [
          | true ↦ λ three. gone-file-record-seen entries sound change (eqb-true change.kind 3 three)
          | false ↦ λ three. (elim (change.kind == 4) as (λ b. (change.kind == 4) ≡ b → option_map names_of (image.applied entries change) ≡ applied (names_of entries) change) [
            | true ↦ λ four. gone-directory-record-seen entries sound change (eqb-true change.kind 4 four)
            | false ↦ λ four. moved-file-record-seen entries sound change one two three four
          ]) refl
        ]) refl
      ]) refl
    ]) refl
