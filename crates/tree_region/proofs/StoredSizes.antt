-- The entries of files in a body where a tree is read: each is spelled, with the size that the tree has of it.
use Rattle.std.proofs.Common.{◌≡◌, ℕ, zero, suc, Bool, true, false, cond, ◌&&◌, List, [], ◌∷◌, replicate, refl, sym, ap, subst, ◌∙◌, Option, Some, None, nat_le, slice_index_or, unwrap_or}
use Rattle.std.proofs.lemmas.List.{length-replicate}
use Rattle.std.specs.Prelude.{option_map}
use Rattle.std.specs.List.{list_all, range_with_len}
use Rattle.apex_types.specs.declared.fields.FileEntryField.{FileEntryField}
use Rattle.apex_types.specs.declared.fields.FileEntryField.TheVariants.{Unused, Used}
use Rattle.apex_model.specs.Durable.{StoredFile}
use Rattle.apex_model.specs.Fields.{entry_of_bytes}
use Rattle.apex_model.specs.Image as image
use Rattle.apex_model.specs.Trees.{Tree}
use Rattle.file_tree.specs.declared.kind.Kind.TheVariants.{File, Directory}
use Rattle.file_tree.specs.Bodies.{entry_by, entries_in, named_tree, tree_of_lists, tree_in_version}
use Rattle.file_tree.specs.Entries.{TreeValue, slot, stored_of}
use Rattle.file_tree.specs.Images.{named, names_of}
use Rattle.file_tree.specs.Table.{stored_in, value_of}
use Rattle.file_tree.proofs.ReadBodies.{mapped}
use Rattle.tree_region.specs.Numbers.{fields_in}

-- what is noted of a place of entries: a size and a change count
abbrev noted : List (Option image.Entry) → ℕ → ℕ × ℕ
noted entries j = unwrap_or (slot (stored_in (named entries)) j) (0, 0)

-- the size that a field of a place has
abbrev pub size_at : List FileEntryField → ℕ → ℕ
size_at fields j = image.size_of_field (slice_index_or fields j Unused)

-- the fields that give these entries
pub record AreRead (field_at : ℕ → Option FileEntryField) (places : List ℕ) (entries : List (Option image.Entry)) : Type 0 where
  pub fields : List FileEntryField
  pub spelled : image.all_answers field_at places ≡ Some fields
  pub small : list_all (λ field. nat_le (image.size_of_field field) 1048576) fields ≡ true
  pub sizes : (j : ℕ) → (noted entries j).0 ≡ size_at fields j

-- an answer in front of others
abbrev in_front : {X : Type 0} → Option X → Option (List X) → Option (List X)
in_front o rest = elim o [ None ↦ None | Some x ↦ option_map (λ xs. x ∷ xs) rest ]

module _ (field_at : ℕ → Option FileEntryField) (place : ℕ) (places : List ℕ) (behind : List (Option image.Entry)) (rest : AreRead field_at places behind) where
  unused-read : field_at place ≡ Some Unused → AreRead field_at (place ∷ places) (None ∷ behind)
  unused-read is = record {
    fields = Unused ∷ rest.fields;
    spelled = (λ i. in_front (is i) (rest.spelled i));
    small = rest.small;
    sizes = sizes;
  }
    where
      sizes : (j : ℕ) → (noted (None ∷ behind) j).0 ≡ size_at (Unused ∷ rest.fields) j
      sizes zero = refl
      sizes (suc j) = rest.sizes j

  module _ (name : List ℕ) (parent size changes : ℕ) where
    used-read : (field : FileEntryField) → image.size_of_field field ≡ size → field_at place ≡ Some field → nat_le size 1048576 ≡ true
        → AreRead field_at (place ∷ places) (Some (record { name = name; parent = parent; stored = record { content = replicate size 0; changes = changes } }) ∷ behind)
    used-read field sized is few = record {
      fields = field ∷ rest.fields;
      spelled = (λ i. in_front (is i) (rest.spelled i));
      small = (λ i. nat_le (sized i) 1048576 && rest.small i) ∙ ap (λ b. b && true) few;
      sizes = sizes;
    }
      where
        own : image.Entry
        own = record { name = name; parent = parent; stored = record { content = replicate size 0; changes = changes } }

        sizes : (j : ℕ) → (noted (Some own ∷ behind) j).0 ≡ size_at (field ∷ rest.fields) j
        sizes zero = length-replicate {A = ℕ} size 0 ∙ sym sized
        sizes (suc j) = rest.sizes j

module _ (field_at : ℕ → Option FileEntryField) where
  abbrev entry_at : ℕ → Option (Option image.Entry)
  entry_at k = entry_by File (field_at k)

  module _ (place : ℕ) (places : List ℕ) (entries : List (Option image.Entry)) (all : (behind : List (Option image.Entry)) → image.all_answers entry_at places ≡ Some behind → AreRead field_at places behind) where
    by-size : (name : List ℕ) (parent size changes : ℕ) (field : FileEntryField) → image.size_of_field field ≡ size → field_at place ≡ Some field → (b : Bool) → nat_le size 1048576 ≡ b
        → in_front (cond b (Some (Some (record { name = name; parent = parent; stored = record { content = replicate size 0; changes = changes } }))) None) (image.all_answers entry_at places) ≡ Some entries
        → AreRead field_at (place ∷ places) entries
    by-size name parent size changes field sized is false few h = absurd (let e : ◌≡◌ {A = Option (List (Option image.Entry))} None (Some entries) = h in cc)
    by-size name parent size changes field sized is true few h =
        let own : Option image.Entry = Some (record { name = name; parent = parent; stored = record { content = replicate size 0; changes = changes } }) in
        let m = mapped (λ (xs : List (Option image.Entry)). own ∷ xs) (image.all_answers entry_at places) entries h in
        subst (λ (xs : List (Option image.Entry)). AreRead field_at (place ∷ places) xs) m.2 (used-read field_at place places m.0 (all m.0 m.1) name parent size changes field sized is few)

    by-field : (o : Option FileEntryField) → field_at place ≡ o → in_front (entry_by File o) (image.all_answers entry_at places) ≡ Some entries → AreRead field_at (place ∷ places) entries
    by-field None is h = absurd (let e : ◌≡◌ {A = Option (List (Option image.Entry))} None (Some entries) = h in cc)
    by-field (Some Unused) is h =
        let m = mapped (λ (xs : List (Option image.Entry)). None ∷ xs) (image.all_answers entry_at places) entries h in
        subst (λ (xs : List (Option image.Entry)). AreRead field_at (place ∷ places) xs) m.2 (unused-read field_at place places m.0 (all m.0 m.1) is)
    by-field (Some (Used name parent size changes)) is h = by-size name parent.0 size changes (Used name parent size changes) refl is (nat_le size 1048576) refl h

  all-read : (places : List ℕ) (entries : List (Option image.Entry)) → image.all_answers entry_at places ≡ Some entries → AreRead field_at places entries
  all-read [] entries h =
      let none : ◌≡◌ {A = List (Option image.Entry)} [] entries = cc in
      subst (λ (xs : List (Option image.Entry)). AreRead field_at [] xs) none (record { fields = []; spelled = refl; small = refl; sizes = λ j. refl })
  all-read (place ∷ places) entries h = by-field place places entries (all-read places) (field_at place) refl h

-- ---- where a tree is read

module _ (version files directories : ℕ) (body : List ℕ) (v : TreeValue) where
  record AreListed : Type 0 where
    in_files : List (Option image.Entry)
    in_directories : List (Option image.Entry)
    spelled : entries_in File version body 0 files ≡ Some in_files
    made : named_tree (record { files = in_files; directories = in_directories }) ≡ Some v

  by-lists : (fs ds : Option (List (Option image.Entry))) → entries_in File version body 0 files ≡ fs → tree_of_lists fs ds ≡ Some v → AreListed
  by-lists None ds is h = absurd (let e : ◌≡◌ {A = Option TreeValue} None (Some v) = h in cc)
  by-lists (Some fs) None is h = absurd (let e : ◌≡◌ {A = Option TreeValue} None (Some v) = h in cc)
  by-lists (Some fs) (Some ds) is h = record { in_files = fs; in_directories = ds; spelled = is; made = h }

  are-listed : tree_in_version version files directories body ≡ Some v → AreListed
  unfolding tree_in_version
  are-listed h = by-lists (entries_in File version body 0 files) (entries_in Directory version body files directories) refl h

  stored-is : (l : AreListed) → v.stored ≡ stored_in (named l.in_files)
  unfolding value_of
  stored-is l =
      let entries : image.Entries = record { files = l.in_files; directories = l.in_directories } in
      let m = mapped (λ (tree : Tree StoredFile). names_of entries) (image.tree_of_entries entries) v l.made in
      ap (λ (w : TreeValue). w.stored) (sym m.2)

  -- the fields of a tree's files, with its sizes
  pub record HasFields : Type 0 where
    pub fields : List FileEntryField
    pub spelled : fields_in version body files ≡ Some fields
    pub small : list_all (λ field. nat_le (image.size_of_field field) 1048576) fields ≡ true
    pub sizes : (j : ℕ) → (stored_of v j).0 ≡ size_at fields j

  pub fields-read : tree_in_version version files directories body ≡ Some v → HasFields
  fields-read h =
      let l = are-listed h in
      let r = all-read (λ k. entry_of_bytes version (image.entry_bytes body k)) (range_with_len 0 files) l.in_files l.spelled in
      record {
        fields = r.fields;
        spelled = r.spelled;
        small = r.small;
        sizes = λ j. ap (λ (xs : List (Option (ℕ × ℕ))). (unwrap_or (slot xs j) (0, 0)).0) (stored-is l) ∙ r.sizes j;
      }
