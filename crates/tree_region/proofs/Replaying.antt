-- Records leave each file the content of its blocks.
use Rattle.std.proofs.Common.{◌≡◌, ℕ, zero, suc, ◌≤◌, ◌⊎◌, inl, inr, Bool, true, false, cond, ◌&&◌, List, [], ◌∷◌, ◌++◌, length, set, refl, sym, ap, subst, ◌∙◌, Option, Some, None, arith}
use Rattle.std.proofs.lemmas.List.{length-map}
use Rattle.std.specs.Prelude.{option_map, slice_get, slice_set, slice_index_or, bytes_eq, ◌==◌}
use Rattle.std.specs.Option.{option_flatten}
use Rattle.apex_types.specs.declared.fields.RecordField.{RecordField}
use Rattle.apex_model.specs.Durable.{StoredFile}
use Rattle.apex_model.specs.Fields.{record_of}
use Rattle.apex_model.specs.Image as image
use Rattle.apex_model.specs.Trees.{Tree}
use Rattle.file_tree.specs.Entries.{TreeValue, slot}
use Rattle.file_tree.specs.Images.{named, named_entry, names_of}
use Rattle.file_tree.specs.Table.{value_of}
use Rattle.file_tree.proofs.ImageEntries.{flat-slot}
use Rattle.file_tree.proofs.ImageSound.{record-tree, record-lengths}
use Rattle.file_tree.proofs.ReadBodies.{mapped, mapped-none}
use Rattle.tree_region.specs.Replay as replay
use Rattle.tree_region.proofs.Images.{replay-agrees}
use Rattle.tree_region.specs.Bodies.{HasEntries}

-- an entry after one was set
slot-set : {A : Type 0} (entries : List (Option A)) (k f : ℕ) (o : Option A) (e : A) → slot (set entries k o) f ≡ Some e → ((k ≡ f) × (o ≡ Some e)) ⊎ (slot entries f ≡ Some e)
slot-set [] k f o e h = inr h
slot-set (x ∷ entries) zero zero o e h = inl (refl, h)
slot-set (x ∷ entries) zero (suc f) o e h = inr h
slot-set (x ∷ entries) (suc k) zero o e h = inr h
slot-set (x ∷ entries) (suc k) (suc f) o e h = elim (slot-set entries k f o e h) [
  | inl p ↦ inl (ap suc p.0, p.1)
  | inr q ↦ inr q
]

pub none-replayed : (version : ℕ) (records : List (List ℕ)) → image.replayed version records None ≡ None
none-replayed version [] = refl
none-replayed version (bytes ∷ records) = none-replayed version records

module _ (P : ℕ → StoredFile → Type 0) (empty-is : (k : ℕ) → P k (record { content = []; changes = 0 })) where
  -- what is so of each file by its entry's number
  abbrev IsOwn : ℕ → image.Entry → Type 0
  IsOwn f entry = P f entry.stored

  abbrev HasAll : List (Option image.Entry) → Type 0
  HasAll files = (f : ℕ) (entry : image.Entry) → slot files f ≡ Some entry → IsOwn f entry

  set-contents : (files : List (Option image.Entry)) (k : ℕ) (o : Option image.Entry) → HasAll files → ((e : image.Entry) → o ≡ Some e → IsOwn k e) → HasAll (set files k o)
  set-contents files k o has own f entry h = elim (slot-set files k f o entry h) [
    | inl p ↦ subst (λ n. IsOwn n entry) p.0 (own entry p.1)
    | inr q ↦ has f entry q
  ]

  abbrev empty : List ℕ → ℕ → image.Entry
  empty name parent = record { name = name; parent = parent; stored = record { content = []; changes = 0 } }

  new-contents : (files after : List (Option image.Entry)) (k : ℕ) (name : Option (List ℕ)) (parent : ℕ) → HasAll files → image.with_new files k name parent ≡ Some after → HasAll after
  new-contents files after k None parent has h = absurd (let e : ◌≡◌ {A = Option (List (Option image.Entry))} None (Some after) = h in cc)
  new-contents files after k (Some name) parent has h = place (slice_get files k) h
    where
      own : (e : image.Entry) → Some (empty name parent) ≡ Some e → IsOwn k e
      own e is = let same : empty name parent ≡ e = cc in subst (IsOwn k) same (empty-is k)

      place : (o : Option (Option image.Entry)) → elim o [ Some None ↦ Some (slice_set files k (Some (empty name parent))) | _ ↦ None ] ≡ Some after → HasAll after
      place None is = absurd (let e : ◌≡◌ {A = Option (List (Option image.Entry))} None (Some after) = is in cc)
      place (Some None) is =
          let same : slice_set files k (Some (empty name parent)) ≡ after = cc in
          subst (λ (fs : List (Option image.Entry)). HasAll fs) same (set-contents files k (Some (empty name parent)) has own)
      place (Some (Some other)) is = absurd (let e : ◌≡◌ {A = Option (List (Option image.Entry))} None (Some after) = is in cc)

  without-contents : (files after : List (Option image.Entry)) (k : ℕ) → HasAll files → image.without_entry files k ≡ Some after → HasAll after
  without-contents files after k has h = gone (option_flatten (slice_get files k)) h
    where
      gone : (o : Option image.Entry) → elim o [ None ↦ None | Some entry ↦ Some (slice_set files k None) ] ≡ Some after → HasAll after
      gone None is = absurd (let e : ◌≡◌ {A = Option (List (Option image.Entry))} None (Some after) = is in cc)
      gone (Some entry) is =
          let same : slice_set files k None ≡ after = cc in
          subst (λ (fs : List (Option image.Entry)). HasAll fs) same
          (set-contents files k None has (λ e wrong. absurd (let w : ◌≡◌ {A = Option image.Entry} None (Some e) = wrong in cc)))

  renamed-contents : (files after : List (Option image.Entry)) (k : ℕ) (name : Option (List ℕ)) (parent : ℕ) → HasAll files → image.with_renamed files k name parent ≡ Some after → HasAll after
  renamed-contents files after k None parent has h = absurd (let e : ◌≡◌ {A = Option (List (Option image.Entry))} None (Some after) = h in cc)
  renamed-contents files after k (Some name) parent has h = moved (option_flatten (slice_get files k)) (flat-slot files k) h
    where
      other : image.Entry → image.Entry
      other entry = record { name = name; parent = parent; stored = entry.stored }

      free : (entry : image.Entry) → slot files k ≡ Some entry → (b : Bool) → cond b None (Some (slice_set files k (Some (other entry)))) ≡ Some after → HasAll after
      free entry there true is = absurd (let e : ◌≡◌ {A = Option (List (Option image.Entry))} None (Some after) = is in cc)
      free entry there false is =
          let same : slice_set files k (Some (other entry)) ≡ after = cc in
          subst (λ (fs : List (Option image.Entry)). HasAll fs) same
          (set-contents files k (Some (other entry)) has (λ e its. let own : other entry ≡ e = cc in subst (IsOwn k) own (has k entry there)))

      moved : (o : Option image.Entry) → o ≡ slot files k
          → elim o [ None ↦ None | Some entry ↦ cond (bytes_eq entry.name name && (entry.parent == parent)) None (Some (slice_set files k (Some (other entry)))) ] ≡ Some after → HasAll after
      moved None there is = absurd (let e : ◌≡◌ {A = Option (List (Option image.Entry))} None (Some after) = is in cc)
      moved (Some entry) there is = free entry (sym there) (bytes_eq entry.name name && (entry.parent == parent)) is

  -- ---- a record

  module _ (entries after : image.Entries) (has : HasAll entries.files) where
    files-changed : (o : Option (List (Option image.Entry))) → ((fs : List (Option image.Entry)) → o ≡ Some fs → HasAll fs)
        → option_map (λ files. record { files = files; directories = entries.directories }) o ≡ Some after → HasAll after.files
    files-changed None all h = absurd (let e : ◌≡◌ {A = Option image.Entries} None (Some after) = h in cc)
    files-changed (Some fs) all h =
        let changed : image.Entries = record { files = fs; directories = entries.directories } in
        let is : changed ≡ after = cc in
        subst (λ (e : image.Entries). HasAll e.files) is (all fs refl)

    directories-changed : (o : Option (List (Option image.Entry))) → option_map (λ directories. record { files = entries.files; directories = directories }) o ≡ Some after → HasAll after.files
    directories-changed None h = absurd (let e : ◌≡◌ {A = Option image.Entries} None (Some after) = h in cc)
    directories-changed (Some ds) h =
        let changed : image.Entries = record { files = entries.files; directories = ds } in
        let is : changed ≡ after = cc in
        subst (λ (e : image.Entries). HasAll e.files) is has

    either : (b : Bool) (x y : Option image.Entries) → (x ≡ Some after → HasAll after.files) → (y ≡ Some after → HasAll after.files) → cond b x y ≡ Some after
        → HasAll after.files
    either true x y p q h = p h
    either false x y p q h = q h

    changed-contents : (change : RecordField) → image.changed_by entries change ≡ Some after → HasAll after.files
    changed-contents change =
        either (change.kind == 1) _ _ (files-changed _ (λ fs. new-contents entries.files fs change.index change.name change.parent.0 has))
        (either (change.kind == 2) _ _ (directories-changed _)
        (either (change.kind == 3) _ _ (files-changed _ (λ fs. without-contents entries.files fs change.index has))
        (either (change.kind == 4) _ _ (directories-changed _)
        (files-changed _ (λ fs. renamed-contents entries.files fs change.index change.name change.parent.0 has)))))

  -- ---- all records

  pub all-replayed : (version : ℕ) (records : List (List ℕ)) (entries after : image.Entries) → HasAll entries.files → image.replayed version records (Some entries) ≡ Some after → HasAll after.files
  all-replayed version [] entries after has h = let same : entries ≡ after = cc in subst (λ (e : image.Entries). HasAll e.files) same has
  all-replayed version (bytes ∷ records) entries after has h =
      (elim (record_of version bytes) as (λ o. image.replayed version records (elim o [ None ↦ None | Some change ↦ image.applied entries change ]) ≡ Some after → HasAll after.files) [
        | None ↦ λ k. absurd (let e : ◌≡◌ {A = Option image.Entries} None (Some after) = sym (none-replayed version records) ∙ k in cc)
        | Some change ↦ λ k.
            (elim (image.applied entries change) as (λ o. image.applied entries change ≡ o → image.replayed version records o ≡ Some after → HasAll after.files) [
              | None ↦ λ is l. absurd (let e : ◌≡◌ {A = Option image.Entries} None (Some after) = sym (none-replayed version records) ∙ l in cc)
              | Some next ↦ λ is l. all-replayed version records next after (changed-contents entries next has change (record-tree entries change next is).is) l
            ]) refl k
      ]) h

-- the first records, and then the others
pub replayed-append : (version : ℕ) (xs ys : List (List ℕ)) (o : Option image.Entries) → image.replayed version (xs ++ ys) o ≡ image.replayed version ys (image.replayed version xs o)
replayed-append version [] ys o = refl
replayed-append version (x ∷ xs) ys o = replayed-append version xs ys (elim o [ None ↦ None | Some e ↦ elim (record_of version x) [ None ↦ None | Some change ↦ image.applied e change ] ])

-- as many entries as before, which make a tree
pub record AreMade (files directories : ℕ) (entries : image.Entries) : Type 0 where
  pub tree : Tree StoredFile
  pub made : image.tree_of_entries entries ≡ Some tree
  pub files_long : length entries.files ≡ files
  pub directories_long : length entries.directories ≡ directories

pub made-replayed : (files directories version : ℕ) (records : List (List ℕ)) (entries after : image.Entries) → AreMade files directories entries → image.replayed version records (Some entries) ≡ Some after
    → AreMade files directories after
made-replayed files directories version [] entries after made h = let same : entries ≡ after = cc in subst (AreMade files directories) same made
made-replayed files directories version (bytes ∷ records) entries after made h =
    (elim (record_of version bytes) as (λ o. image.replayed version records (elim o [ None ↦ None | Some change ↦ image.applied entries change ]) ≡ Some after → AreMade files directories after) [
      | None ↦ λ k. absurd (let e : ◌≡◌ {A = Option image.Entries} None (Some after) = sym (none-replayed version records) ∙ k in cc)
      | Some change ↦ λ k.
          (elim (image.applied entries change) as (λ o. image.applied entries change ≡ o → image.replayed version records o ≡ Some after → AreMade files directories after) [
            | None ↦ λ is l. absurd (let e : ◌≡◌ {A = Option image.Entries} None (Some after) = sym (none-replayed version records) ∙ l in cc)
            | Some next ↦ λ is l.
                let tree = record-tree entries change next is in
                let same = record-lengths entries change next is in
                made-replayed files directories version records next after
                (record { tree = tree.tree; made = tree.made; files_long = same.files ∙ made.files_long; directories_long = same.directories ∙ made.directories_long }) l
          ]) refl k
    ]) h

-- what is kept of entries and what the image gives, after the same records
module _ (blocks : List ℕ) (numbers : List (List ℕ)) (version : ℕ) (records : List (List ℕ)) (entries : image.Entries) (v : TreeValue) (has : HasEntries blocks v numbers entries)
    (few_files : length v.files ≤ 255) (few_directories : length v.directories ≤ 255) where
  files-long : (e : image.Entries) (w : TreeValue) → names_of e ≡ w → length w.files ≡ length e.files
  unfolding value_of
  files-long e w names = ap (λ (u : TreeValue). length u.files) (sym names) ∙ length-map (named e.files) _ ∙ length-map e.files (option_map named_entry)

  directories-long : (e : image.Entries) (w : TreeValue) → names_of e ≡ w → length w.directories ≡ length e.directories
  unfolding value_of
  directories-long e w names = ap (λ (u : TreeValue). length u.directories) (sym names) ∙ length-map (named e.directories) _ ∙ length-map e.directories (option_map named_entry)

  few-of : length entries.files ≤ 255
  few-of = omega (arith, few_files, files-long entries v has.names)

  few-directories-of : length entries.directories ≤ 255
  few-directories-of = omega (arith, few_directories, directories-long entries v has.names)

  agrees : replay.replayed version (Some v) records ≡ option_map names_of (image.replayed version records (Some entries))
  agrees = ap (λ (w : TreeValue). replay.replayed version (Some w) records) (sym has.names) ∙ replay-agrees version records entries has.tree has.made few-of few-directories-of

  pub replayed-none : replay.replayed version (Some v) records ≡ None → image.replayed version records (Some entries) ≡ None
  replayed-none h = mapped-none names_of (image.replayed version records (Some entries)) (sym agrees ∙ h)

  after-made : (after : image.Entries) → image.replayed version records (Some entries) ≡ Some after → AreMade (length entries.files) (length entries.directories) after
  after-made after h = made-replayed (length entries.files) (length entries.directories) version records entries after (record { tree = has.tree; made = has.made; files_long = refl; directories_long = refl }) h

  pub replayed-some : (w : TreeValue) → replay.replayed version (Some v) records ≡ Some w → (after : image.Entries) × (image.replayed version records (Some entries) ≡ Some after) × HasEntries blocks w numbers after
  replayed-some w h =
      let m = mapped names_of (image.replayed version records (Some entries)) w (sym agrees ∙ h) in
      let made = after-made m.0 m.1 in
      let contents = all-replayed (λ f stored. stored.content ≡ image.joined blocks (slice_index_or numbers f []) (length stored.content)) (λ f. refl) version records entries m.0 has.contents m.1 in
      (m.0, m.1, record { tree = made.tree; made = made.made; names = m.2; contents = contents })
