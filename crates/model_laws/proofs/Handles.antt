-- Handles after one of them, or each of them, is another.
use Rattle.std.proofs.Common.{◌≡◌, ◌≢◌, ℕ, zero, suc, ◌+◌, ◌-◌, ◌≤◌, ◌⊎◌, inl, inr, Bool, true, false, List, [], ◌∷◌, map, refl, sym, ap, subst, ◌∙◌, Option, Some, None, replicate, arith}
use Rattle.std.specs.Prelude.{◌==◌, slice_get, slice_set, slice_index_or, option_map, if◌then◌else◌}
use Rattle.std.specs.List.{AllByRecursion}
use Rattle.std.specs.Option.{option_flatten}
use Rattle.std.proofs.lemmas.Bool.Decides.{nat_tests}
use Rattle.std.proofs.lemmas.List.{length-set}
use Rattle.apex_types.specs.Rows.{Rows}
use Rattle.apex_types.specs.declared.calls.OpenMode.TheVariants.{ReadWrite}
use Rattle.apex_model.specs.FileSystem.{FileSystem, handles_in, with_file_handle, with_directory_handle}
use Rattle.apex_model.specs.Handles.{Handles, OpenedFile, OpenedDirectory, no_handles, handle_at, with_slot, free_from, least_free, any_open}
use Rattle.apex_model.specs.Validity.{IsValidFileHandle, IsValidDirectoryHandle, HasAllSlots, IsValidFileSystem}

-- ---- slots

module _ {H : Type 0} where
  slot-set : (slots : List (Option H)) (i j : ℕ) (o : Option H) (h : H) → option_flatten (slice_get (slice_set slots i o) j) ≡ Some h
      → ((o ≡ Some h) × (i ≡ j)) ⊎ ((option_flatten (slice_get slots j) ≡ Some h) × (i ≢ j))
  slot-set [] i j o h e = absurd (let wrong : ◌≡◌ {A = Option H} None (Some h) = e in cc)
  slot-set (s ∷ slots) zero zero o h e = inl (e, refl)
  slot-set (s ∷ slots) zero (suc j) o h e = inr (e, λ same. omega (arith, same))
  slot-set (s ∷ slots) (suc i) zero o h e = inr (e, λ same. omega (arith, same))
  slot-set (s ∷ slots) (suc i) (suc j) o h e = elim (slot-set slots i j o h e) [ inl p ↦ inl (p.0, ap suc p.1) | inr q ↦ inr (q.0, λ same. q.1 (omega (arith, same))) ]

  pub handle-suc : (slots : List (Option H)) (k : ℕ) → handle_at slots (suc k) ≡ option_flatten (slice_get slots (suc k - 1))
  handle-suc slots k = let none : Option H = None in let e : (suc k == 0) ≡ false = grind (arith, nat_tests) in ap (λ b. if b then none else option_flatten (slice_get slots (suc k - 1))) e

  -- a number's handle after another, or none, was put at one: the new one, or that of before at another number
  handle-set : (slots : List (Option H)) (id other : ℕ) (o : Option H) (h : H) → 1 ≤ id → handle_at (with_slot slots id o) other ≡ Some h
      → ((o ≡ Some h) × (id ≡ other)) ⊎ ((handle_at slots other ≡ Some h) × (id ≢ other))
  handle-set slots zero other o h some e = absurd (omega arith)
  handle-set slots (suc id) zero o h some e = inr (e, λ same. omega (arith, same))
  handle-set slots (suc id) (suc other) o h some e = elim (slot-set slots (suc id - 1) (suc other - 1) o h (sym (handle-suc (slice_set slots (suc id - 1) o) other) ∙ e)) [
    | inl p ↦ inl (p.0, let q : suc id - 1 ≡ suc other - 1 = p.1 in omega arith)
    | inr q ↦ inr (handle-suc slots other ∙ q.0, λ same. q.1 (omega (arith, same)))
  ]

  pub id_some : (slots : List (Option H)) (id : ℕ) (h : H) → handle_at slots id ≡ Some h → 1 ≤ id
  id_some slots zero h e = absurd cc
  id_some slots (suc id) h e = omega arith

  free-from : (slots : List (Option H)) (first id : ℕ) → free_from first slots ≡ Some id → first ≤ id
  free-from [] first id e = absurd cc
  free-from (None ∷ slots) first id e = let same : first ≡ id = cc in omega (arith, same)
  free-from (Some h ∷ slots) first id e = let ih = free-from slots (first + 1) id e in omega (arith, ih)

  pub free_some : (slots : List (Option H)) (id : ℕ) → least_free slots ≡ Some id → 1 ≤ id
  free_some slots id e = free-from slots 1 id e

  open-slot : (test : H → Bool) (slots : List (Option H)) (i : ℕ) (h : H) → any_open test slots ≡ false → option_flatten (slice_get slots i) ≡ Some h → test h ≡ false
  open-slot test [] i h none e = absurd (let wrong : ◌≡◌ {A = Option H} None (Some h) = e in cc)
  open-slot test (None ∷ slots) zero h none e = absurd (let wrong : ◌≡◌ {A = Option H} None (Some h) = e in cc)
  open-slot test (None ∷ slots) (suc i) h none e = open-slot test slots i h none e
  open-slot test (Some k ∷ slots) zero h none e = let same : k ≡ h = cc in ap test (sym same) ∙ passed (test k) (any_open test slots) none
    where
      passed : (b rest : Bool) → (if b then true else rest) ≡ false → b ≡ false
      passed true rest h = h
      passed false rest h = refl
  open-slot test (Some k ∷ slots) (suc i) h none e = open-slot test slots i h (passed (test k) (any_open test slots) none) e
    where
      passed : (b rest : Bool) → (if b then true else rest) ≡ false → rest ≡ false
      passed true rest h = absurd cc
      passed false rest h = h

  -- no handle passes a test that none passes
  pub open-none : (test : H → Bool) (slots : List (Option H)) (id : ℕ) (h : H) → any_open test slots ≡ false → handle_at slots id ≡ Some h → test h ≡ false
  open-none test slots zero h none e = absurd cc
  open-none test slots (suc id) h none e = open-slot test slots (suc id - 1) h none (sym (handle-suc slots id) ∙ e)

  slot-map : (f : H → H) (slots : List (Option H)) (i : ℕ) (k : H) → option_flatten (slice_get (map (option_map f) slots) i) ≡ Some k
      → (h : H) × (option_flatten (slice_get slots i) ≡ Some h) × (f h ≡ k)
  slot-map f [] i k e = absurd (let wrong : ◌≡◌ {A = Option H} None (Some k) = e in cc)
  slot-map f (None ∷ slots) zero k e = absurd (let wrong : ◌≡◌ {A = Option H} None (Some k) = e in cc)
  slot-map f (Some h ∷ slots) zero k e = (h, refl, let same : f h ≡ k = cc in same)
  slot-map f (s ∷ slots) (suc i) k e = slot-map f slots i k e

  -- a handle after each was changed is one of before, changed
  pub handle-map : (f : H → H) (slots : List (Option H)) (id : ℕ) (k : H) → handle_at (map (option_map f) slots) id ≡ Some k
      → (h : H) × (handle_at slots id ≡ Some h) × (f h ≡ k)
  handle-map f slots zero k e = absurd cc
  handle-map f slots (suc id) k e = let m = slot-map f slots (suc id - 1) k (sym (handle-suc (map (option_map f) slots) id) ∙ e) in (m.0, handle-suc slots id ∙ m.1, m.2)

  none_there : (n k : ℕ) → option_flatten (slice_get (replicate n (let o : Option H = None in o)) k) ≡ None
  none_there zero k = refl
  none_there (suc n) zero = refl
  none_there (suc n) (suc k) = none_there n k

  none_at : (n id : ℕ) → handle_at (replicate n (let o : Option H = None in o)) id ≡ None
  none_at n id = elim (id == 0) as (λ b. (let o : Option H = if b then None else option_flatten (slice_get (replicate n (let o : Option H = None in o)) (id - 1)) in o) ≡ None) [ true ↦ refl | false ↦ none_there n (id - 1) ]

pub no_file : (id : ℕ) (h : OpenedFile) → handle_at no_handles.files id ≡ Some h → ⊥
no_file id h e = let a : handle_at no_handles.files id ≡ None = none_at 24 id in cc

pub no_directory : (id : ℕ) (h : OpenedDirectory) → handle_at no_handles.directories id ≡ Some h → ⊥
no_directory id h e = let a : handle_at no_handles.directories id ≡ None = none_at 8 id in cc

-- ---- lists after one place is set

index-set : {A : Type 0} (xs : List A) (i j : ℕ) (x d : A) → ((slice_index_or (slice_set xs i x) j d ≡ x) × (i ≡ j))
    ⊎ ((slice_index_or (slice_set xs i x) j d ≡ slice_index_or xs j d) × ((slice_index_or xs j d ≡ d) ⊎ (i ≢ j)))
index-set [] i j x d = inr (refl, inl refl)
index-set (y ∷ xs) zero zero x d = inl (refl, refl)
index-set (y ∷ xs) zero (suc j) x d = inr (refl, inr (λ same. omega (arith, same)))
index-set (y ∷ xs) (suc i) zero x d = inr (refl, inr (λ same. omega (arith, same)))
index-set (y ∷ xs) (suc i) (suc j) x d = elim (index-set xs i j x d) [
  | inl p ↦ inl (p.0, ap suc p.1)
  | inr q ↦ inr (q.0, elim q.1 [ inl none ↦ inl none | inr other ↦ inr (λ same. other (omega (arith, same))) ])
]

pub all-set : {A : Type 0} (P : A → Type 0) (xs : List A) (i : ℕ) (x : A) → AllByRecursion P xs → P x → AllByRecursion P (slice_set xs i x)
all-set P [] i x h p = tt
all-set P (y ∷ xs) zero x h p = (p, h.1)
all-set P (y ∷ xs) (suc i) x h p = (h.0, all-set P xs i x h.1 p)

pub all-index : {A : Type 0} (P : A → Type 0) (xs : List A) (i : ℕ) (d : A) → AllByRecursion P xs → P d → P (slice_index_or xs i d)
all-index P [] i d h p = p
all-index P (y ∷ xs) zero d h p = h.0
all-index P (y ∷ xs) (suc i) d h p = all-index P xs i d h.1 p

pub index-map : {A : Type 0} (f : A → A) (xs : List A) (i : ℕ) (d : A) → f d ≡ d → slice_index_or (map f xs) i d ≡ f (slice_index_or xs i d)
index-map f [] i d e = sym e
index-map f (x ∷ xs) zero d e = refl
index-map f (x ∷ xs) (suc i) d e = index-map f xs i d e

-- ---- the handles of all partitions, of which one partition's are others

module _ {H : Type 0} (part : Handles → List (Option H)) (none : (id : ℕ) (h : H) → handle_at (part no_handles) id ≡ Some h → ⊥)
    (handles : List Handles) (p : ℕ) (new : Handles) where
  -- where one number has another handle, or none: a handle is the new one, or was there before at another place
  pub handle-with : (id : ℕ) (o : Option H) → part new ≡ with_slot (part (slice_index_or handles p no_handles)) id o → 1 ≤ id
      → (q other : ℕ) (h : H) → handle_at (part (slice_index_or (slice_set handles p new) q no_handles)) other ≡ Some h
      → ((o ≡ Some h) × (p ≡ q) × (id ≡ other)) ⊎ ((handle_at (part (slice_index_or handles q no_handles)) other ≡ Some h) × (p ≡ q → id ≡ other → ⊥))
  handle-with id o made some q other h e = elim (index-set handles p q new no_handles) [
    | inl is ↦ elim (handle-set (part (slice_index_or handles p no_handles)) id other o h some
        (sym (ap (λ slots. handle_at slots other) made) ∙ sym (ap (λ hs. handle_at (part hs) other) is.0) ∙ e)) [
          | inl it ↦ inl (it.0, is.1, it.1)
          | inr old ↦ inr (let P : ℕ → Type 0 = λ r. handle_at (part (slice_index_or handles r no_handles)) other ≡ Some h in subst P is.1 old.0, λ _ same. old.1 same)
        ]
    | inr is ↦
        let was : handle_at (part (slice_index_or handles q no_handles)) other ≡ Some h = sym (ap (λ hs. handle_at (part hs) other) is.0) ∙ e in
        inr (
          was,
          λ same _. elim is.1 [
            | inl empty ↦ none other h (sym (ap (λ hs. handle_at (part hs) other) empty) ∙ was)
            | inr apart ↦ apart same
          ],
        )
  ]

  -- where the part is as before
  pub handle-beside : part new ≡ part (slice_index_or handles p no_handles) → (q other : ℕ)
      → handle_at (part (slice_index_or (slice_set handles p new) q no_handles)) other ≡ handle_at (part (slice_index_or handles q no_handles)) other
  handle-beside same q other = elim (index-set handles p q new no_handles) [
    | inl is ↦ ap (λ hs. handle_at (part hs) other) is.0 ∙ ap (λ slots. handle_at slots other) same ∙ ap (λ r. handle_at (part (slice_index_or handles r no_handles)) other) is.1
    | inr is ↦ ap (λ hs. handle_at (part hs) other) is.0
  ]

-- ---- a valid file system with another handle

pub slots_all : (handles : List Handles) (p : ℕ) → AllByRecursion HasAllSlots handles → HasAllSlots (slice_index_or handles p no_handles)
slots_all handles p h = all-index HasAllSlots handles p no_handles h (record { files = refl; directories = refl })

module _ (table : Rows) (fs : FileSystem) (p id : ℕ) (v : IsValidFileSystem table fs) (some : 1 ≤ id) where
  -- a valid handle of a file in place of one, or none, where no other handle may write to its file
  pub with_file_handle-valid : (o : Option OpenedFile) → ((h : OpenedFile) → o ≡ Some h → IsValidFileHandle table fs.trees p h)
      → ((h k : OpenedFile) (other : ℕ) → o ≡ Some h → h.mode ≡ ReadWrite → handle_at (handles_in fs p).files other ≡ Some k → k.mode ≡ ReadWrite → h.tree ≡ k.tree → h.path ≡ k.path → id ≡ other)
      → IsValidFileSystem table (with_file_handle fs p id o)
  with_file_handle-valid o good alone =
      let new : Handles = record { files = with_slot (handles_in fs p).files id o; directories = (handles_in fs p).directories } in
      let found = handle-with (λ hs. hs.files) no_file fs.handles p new id o refl some in
      let beside = handle-beside (λ hs. hs.directories) no_directory fs.handles p new refl in
      record {
        trees = v.trees;
        partitions = length-set fs.handles p new ∙ v.partitions;
        slots = all-set HasAllSlots fs.handles p new v.slots (let s = slots_all fs.handles p v.slots in record { files = length-set (handles_in fs p).files (id - 1) o ∙ s.files; directories = s.directories });
        files = λ q other h e. elim (found q other h e) [
          | inl it ↦ let P : ℕ → Type 0 = λ r. IsValidFileHandle table fs.trees r h in subst P it.1 (good h it.0)
          | inr old ↦ v.files q other h old.0
        ];
        directories = λ q other h e. v.directories q other h (sym (beside q other) ∙ e);
        one_writer = λ q a b h k e f hm km ht hp. elim (found q a h e) [
          | inl it ↦ elim (found q b k f) [
            | inl other ↦ sym it.2 ∙ other.2
            | inr old ↦ sym it.2 ∙ alone h k b it.0 hm (let P : ℕ → Type 0 = λ r. handle_at (handles_in fs r).files b ≡ Some k in subst P (sym it.1) old.0) km ht hp
          ]
          | inr was ↦ elim (found q b k f) [
            | inl other ↦ sym (sym other.2 ∙ alone k h a other.0 km (let P : ℕ → Type 0 = λ r. handle_at (handles_in fs r).files a ≡ Some h in subst P (sym other.1) was.0) hm (sym ht) (sym hp))
            | inr old ↦ v.one_writer q a b h k was.0 old.0 hm km ht hp
          ]
        ];
      }

  -- a valid handle of a directory in place of one, or none
  pub with_directory_handle-valid : (o : Option OpenedDirectory) → ((h : OpenedDirectory) → o ≡ Some h → IsValidDirectoryHandle table fs.trees p h)
      → IsValidFileSystem table (with_directory_handle fs p id o)
  with_directory_handle-valid o good =
      let new : Handles = record { files = (handles_in fs p).files; directories = with_slot (handles_in fs p).directories id o } in
      let found = handle-with (λ hs. hs.directories) no_directory fs.handles p new id o refl some in
      let beside = handle-beside (λ hs. hs.files) no_file fs.handles p new refl in
      record {
        trees = v.trees;
        partitions = length-set fs.handles p new ∙ v.partitions;
        slots = all-set HasAllSlots fs.handles p new v.slots (let s = slots_all fs.handles p v.slots in record { files = s.files; directories = length-set (handles_in fs p).directories (id - 1) o ∙ s.directories });
        files = λ q other h e. v.files q other h (sym (beside q other) ∙ e);
        directories = λ q other h e. elim (found q other h e) [
          | inl it ↦ let P : ℕ → Type 0 = λ r. IsValidDirectoryHandle table fs.trees r h in subst P it.1 (good h it.0)
          | inr old ↦ v.directories q other h old.0
        ];
        one_writer = λ q a b h k e f. v.one_writer q a b h k (sym (beside q a) ∙ e) (sym (beside q b) ∙ f);
      }
