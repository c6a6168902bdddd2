-- What a change of a file's present content makes of what a store holds.
use Rattle.std.proofs.Common.{◌≡◌, ◌≢◌, inl, inr, ⊎_elim, ◌⊎◌, ℕ, ◌+◌, ◌-◌, ◌*◌, ◌<◌, ◌≤◌, max, take, replicate, List, [], ◌∷◌, length, refl, sym, ap, subst, ◌∙◌, Option, Some, None, arith}
use Rattle.std.proofs.lemmas.Bool.{cases_eq}
use Rattle.std.proofs.lemmas.List.{get_or-set_same, get_or-set_other, length-set, length-append, length-take, length-replicate}
use Rattle.std.specs.Prelude.{slice_set, slice_index_or, map, nat_lt, ◌==◌, if◌then◌else◌, sum_by, IsSome}
use Rattle.std.proofs.lemmas.Bool.{false≢true}
use Rattle.apex_types.specs.declared.codes.Errno.{Errno}
use Rattle.apex_types.specs.declared.codes.Errno.TheVariants.{Efbig, Enospc, Eoverflow}
use Rattle.file_tree.proofs.Changes.{is_some, slot-within}
use Rattle.file_tree.proofs.Ways.{not_some}
use Rattle.present_files.specs.declared.present.PresentSize.{PresentSize}
use Rattle.tree_state.specs.ContentRefusals.{content_refusal}
use Rattle.apex_types.specs.declared.numbers.FileNode.{FileNode}
use Rattle.apex_types.specs.declared.rows.TreeRow.{TreeRow}
use Rattle.apex_model.specs.Durable.{StoredFile}
use Rattle.apex_model.specs.Files.{Content, blocks_of, resized}
use Rattle.apex_model.specs.Image.{tree_of_region}
use Rattle.apex_model.specs.Layout.{slot_blocks, tree_blocks}
use Rattle.apex_model.specs.Trees.{Name, Node, directory, file, Tree}
use Rattle.file_tree.specs.Entries.{TreeValue, slot, IsConsistent}
use Rattle.present_files.specs.Present.{size_in, changes_in, changes_of, content_of, never_changed}
use Rattle.rig_core.specs.Outside.{Outside, Sound}
use Rattle.rig_core.proofs.Moments.{elsewhere_wider, leaves_elsewhere_wider, leaves_weaker}
use Rattle.tree_region.specs.InStep.{data_at, slots_long}
use Rattle.tree_region.specs.Region.{region_at}
use Rattle.tree_state.specs.declared.state.TreeState.{TreeState}
use Rattle.tree_state.specs.Changes.{StaysDurable, IsChanged, IsUnchanged}
use Rattle.rig_core.specs.Runs.{Runs, Shows}
use Rattle.store_model.specs.Betweens.{IsTreeAt, tree_long}
use Rattle.store_model.specs.Stores.{KeptFile, StoreValue, nothing_kept, kept_at, charge_at, total, durable_of, durable_entry, change_refusal, changed_store, IsSound}
use Rattle.tree_store.specs.Answers.{Acts, Passes}
use Rattle.tree_store.specs.Stored.{row_of, start_of, site_of, names_of, AreSpelled, IsStored, Holds, IsBetween}
use Rattle.tree_store.specs.declared.store.TreeStore.{TreeStore}

pub some_of : {A : Type 0} (o : Option A) → IsSome o → (x : A) × (o ≡ Some x)
some_of None is = absurd (false≢true is)
some_of (Some x) is = (x, refl)

-- ---- why a content is refused

by_counts : ℕ → ℕ → List ℕ → ℕ → ℕ → Option Errno
by_counts f size charges quota changes =
    if nat_lt 1048576 size then Some Efbig
    else if nat_lt quota (sum_by (λ blocks. blocks) (slice_set charges f (max (slice_index_or charges f 0) (blocks_of size)))) then Some Enospc
    else if changes == 4294967295 then Some Eoverflow
    else None

-- it is refused for what is known in memory
pub refusal-same : (V : Type 0) (o : Outside) (s : TreeStore) (before : IsStored V o s) (v : StoreValue) (holds : Holds V o s v) (f : FileNode) (size : ℕ)
    → change_refusal v f.0 size ≡ content_refusal s.state.charges f.0 (changes_of s.state.present f) size
unfolding by_counts
refusal-same V o s before v holds f size =
    ap (λ (charges : List ℕ). by_counts f.0 size charges v.quota (kept_at v f.0).changes) holds.charges
    ∙ ap (λ (quota : ℕ). by_counts f.0 size s.state.charges.by_file quota (kept_at v f.0).changes) (holds.quota ∙ sym before.state.charged.quota)
    ∙ ap (λ (changes : ℕ). by_counts f.0 size s.state.charges.by_file s.state.charges.quota changes) (holds.changes f.0)

-- ---- what is kept where one file changes

module _ (v : StoreValue) (f : ℕ) (content : Content) (low : f < length v.files) where
  kept-here : kept_at (changed_store v f content) f ≡ record { content = content; changes = (kept_at v f).changes + 1; durable = (kept_at v f).durable }
  kept-here = get_or-set_same v.files f (record { content = content; changes = (kept_at v f).changes + 1; durable = (kept_at v f).durable }) nothing_kept low

  kept-there : (g : ℕ) → g ≢ f → kept_at (changed_store v f content) g ≡ kept_at v g
  kept-there g other = get_or-set_other v.files f g (record { content = content; changes = (kept_at v f).changes + 1; durable = (kept_at v f).durable }) nothing_kept other

  durable-kept : (g : ℕ) → (kept_at (changed_store v f content) g).durable ≡ (kept_at v g).durable
  durable-kept g = ⊎_elim (λ same. ap (λ (n : ℕ). (kept_at (changed_store v f content) n).durable) same ∙ ap (λ (k : KeptFile). k.durable) kept-here ∙ ap (λ (n : ℕ). (kept_at v n).durable) (sym same))
      (λ other. ap (λ (k : KeptFile). k.durable) (kept-there g other)) (cases_eq g f)

  nodes-kept : (nodes : Tree ℕ) → map (durable_entry (changed_store v f content)) nodes ≡ map (durable_entry v) nodes
  nodes-kept [] = refl
  nodes-kept ((path, directory) ∷ nodes) = ap (λ (rest : Tree StoredFile). (path, directory) ∷ rest) (nodes-kept nodes)
  nodes-kept ((path, file g) ∷ nodes) = ap (λ (d : StoredFile). (path, file d) ∷ map (durable_entry (changed_store v f content)) nodes) (durable-kept g)
      ∙ ap (λ (rest : Tree StoredFile). (path, file (kept_at v g).durable) ∷ rest) (nodes-kept nodes)

-- a content that is cut or filled up has that size
pub length-resized : (content : Content) (size : ℕ) → length (resized content size) ≡ size
length-resized content size =
    let both = length-append (take size content) (replicate (size - length content) 0) in
    let front = length-take size content in
    let zeros = length-replicate {A = ℕ} (size - length content) 0 in
    omega (arith, both, front, zeros)

-- the end of the data blocks is that of the region
ends : (start a b : ℕ) → start + 512 * (2 * a) + 1024 * b ≤ start + 512 * (2 * a + 2 * b)
ends start a b = omega arith

module _ (V K : Type 0) (o e : Outside) (sound : Sound V K o) (s : TreeStore) (t : TreeState) (before : IsStored V o s) (stays : StaysDurable V (row_of s) (start_of s) o e s.state t) where
  abbrev after : TreeStore
  after = record { row = s.row; start = s.start; state = t }

  pub stored-after : IsStored V e after
  stored-after = record {
    fits = let size = stays.later.size in let fits = before.fits in omega (arith, fits, size);
    buffers = before.buffers;
    names = subst IsConsistent (sym stays.kept.tree) before.names;
    spelled = subst AreSpelled (sym stays.kept.tree) before.spelled;
    state = stays.state;
  }

  pub acts-after : Acts V (row_of s).dirty 0 o e s after
  acts-after = record {
    site = refl;
    runs = record {
      outside = leaves_elsewhere_wider (start_of s + slots_long (row_of s)) (1024 * (row_of s).quota) (start_of s) (tree_long (site_of s)) o e (omega arith) (ends (start_of s) (slot_blocks (row_of s)) (row_of s).quota) stays.outside;
      outside_view = λ tells. elsewhere_wider (start_of s + slots_long (row_of s)) (1024 * (row_of s).quota) (start_of s) (tree_long (site_of s)) o.view e.view (omega arith) (ends (start_of s) (slot_blocks (row_of s)) (row_of s).quota) (stays.outside_view tells);
      later = stays.later;
      made = stays.made;
    };
  }

  module _ (v : StoreValue) (holds : Holds V o s v) where
    -- the view stands for what is durable, before and after
    view-is : V → tree_of_region (row_of s) (region_at (row_of s) (start_of s) o.view) ≡ Some (durable_of v)
    view-is tells = (before.state.in_step.stands tells).tree ∙ ap (λ (tree : Tree StoredFile). Some tree) (sym (holds.durable tells))

    view-stays : V → IsTreeAt (site_of s) (durable_of v) e.view
    view-stays tells = (stays.state.in_step.stands tells).tree ∙ ap (λ (tree : Tree StoredFile). Some tree) (stays.durable tells ∙ sym (holds.durable tells))

    pub passes-after : Passes V s v v o e
    passes-after = record {
      any_moment = λ tells. leaves_weaker (λ image. tree_of_region (row_of s) (region_at (row_of s) (start_of s) image) ≡ tree_of_region (row_of s) (region_at (row_of s) (start_of s) o.view)) (IsBetween (site_of s) v v) o e
          (λ image same. inl (same ∙ view-is tells)) stays.any_moment;
      shown = λ tells. inl (view-stays tells);
    }

    -- no content changed
    pub holds-same : IsUnchanged V (row_of s) (start_of s) o.view e.view s.state t → Holds V e after v
    holds-same same = record {
      sound = holds.sound;
      names = holds.names ∙ sym stays.kept.tree;
      sizes = λ f. holds.sizes f ∙ sym (ap (λ sizes. size_in sizes.items f) same.files.sizes);
      changes = λ f. holds.changes f ∙ sym (ap (λ sizes. changes_in sizes.items f) same.files.sizes);
      charges = holds.charges ∙ sym (ap (λ charges. charges.by_file) same.files.charges);
      quota = holds.quota;
      contents = λ tells f. holds.contents tells f ∙ sym (same.contents tells (record { 0 = f }));
      durable = λ tells. holds.durable tells ∙ sym (stays.durable tells);
    }

    -- the content of one file changed
    module _ (f : FileNode) (names : List Name) (used : slot (names_of s).files f.0 ≡ Some names) (content : Content) (size : ℕ) (long : length content ≡ size) (change : Content → Content)
        (is : content ≡ change (kept_at v f.0).content) (changed : IsChanged V (row_of s) (start_of s) o.view e.view f change size s.state t) where
      used-here : slot v.tree.files f.0 ≡ Some names
      used-here = ap (λ (tree : TreeValue). slot tree.files f.0) holds.names ∙ used

      in-files : f.0 < length v.files
      in-files = let low = slot-within v.tree.files f.0 (is_some used-here) in let long = holds.sound.files in omega (arith, low, long)

      in-sizes : f.0 < length s.state.present.sizes.items
      in-sizes =
          let low = slot-within v.tree.files f.0 (is_some used-here) in
          let many : length v.tree.files ≡ length (names_of s).files = ap (λ (tree : TreeValue). length tree.files) holds.names in
          let rows = before.state.in_step.limits.files in
          let sizes = before.state.present.sizes_length in
          omega (arith, low, many, rows, sizes)

      abbrev now : StoreValue
      now = changed_store v f.0 content

      size-here : size_in t.present.sizes.items f.0 ≡ size
      size-here = ap (λ sizes. size_in sizes f.0) changed.sizes ∙ ap (λ (p : PresentSize). p.size) (get_or-set_same s.state.present.sizes.items f.0 (record { size = size; changes = changes_of s.state.present f + 1 }) never_changed in-sizes)

      changes-here : changes_in t.present.sizes.items f.0 ≡ changes_of s.state.present f + 1
      changes-here = ap (λ sizes. changes_in sizes f.0) changed.sizes ∙ ap (λ (p : PresentSize). p.changes) (get_or-set_same s.state.present.sizes.items f.0 (record { size = size; changes = changes_of s.state.present f + 1 }) never_changed in-sizes)

      entry-there : (g : ℕ) → g ≢ f.0 → slice_index_or t.present.sizes.items g never_changed ≡ slice_index_or s.state.present.sizes.items g never_changed
      entry-there g other = ap (λ (sizes : List PresentSize). slice_index_or sizes g never_changed) changed.sizes ∙ get_or-set_other s.state.present.sizes.items f.0 g (record { size = size; changes = changes_of s.state.present f + 1 }) never_changed other

      by-entry : (P : ℕ → Type 0) → P f.0 → ((g : ℕ) → g ≢ f.0 → P g) → (g : ℕ) → P g
      by-entry P here there g = ⊎_elim (λ same. subst P (sym same) here) (λ other. there g other) (cases_eq g f.0)

      charges-are : now.charges ≡ t.charges.by_file
      charges-are = ap (λ (charges : List ℕ). slice_set charges f.0 (max (slice_index_or charges f.0 0) (blocks_of (length content)))) holds.charges
          ∙ ap (λ (n : ℕ). slice_set s.state.charges.by_file f.0 (max (slice_index_or s.state.charges.by_file f.0 0) (blocks_of n))) long
          ∙ sym (ap (λ charges. charges.by_file) changed.charges)

      sound-now : IsSound now
      sound-now = record {
        names = holds.sound.names;
        files = length-set v.files f.0 _ ∙ holds.sound.files;
        charges = length-set v.charges f.0 _ ∙ holds.sound.charges;
        unused = λ g none.
            let other : g ≢ f.0 = λ same. not_some (sym none ∙ ap (slot v.tree.files) same ∙ used-here) in
            let was = holds.sound.unused g none in
            (kept-there v f.0 content in-files g other ∙ was.0, get_or-set_other v.charges f.0 g _ 0 other ∙ was.1);
        within_quota =
            let total : sum_by (λ blocks. blocks) now.charges ≡ sum_by (λ blocks. blocks) t.charges.by_file = ap (λ (charges : List ℕ). sum_by (λ blocks. blocks) charges) charges-are in
            let within = stays.state.charged.total_within in
            let quota = holds.quota in
            omega (arith, total, within, quota);
      }

      pub holds-changed : Holds V e after now
      holds-changed = record {
        sound = sound-now;
        names = holds.names ∙ sym stays.kept.tree;
        sizes = by-entry (λ g. length (kept_at now g).content ≡ size_in t.present.sizes.items g)
            (ap (λ (k : KeptFile). length k.content) (kept-here v f.0 content in-files) ∙ long ∙ sym size-here)
            (λ g other. ap (λ (k : KeptFile). length k.content) (kept-there v f.0 content in-files g other) ∙ holds.sizes g ∙ sym (ap (λ (p : PresentSize). p.size) (entry-there g other)));
        changes = by-entry (λ g. (kept_at now g).changes ≡ changes_in t.present.sizes.items g)
            (ap (λ (k : KeptFile). k.changes) (kept-here v f.0 content in-files) ∙ ap (λ (n : ℕ). n + 1) (holds.changes f.0) ∙ sym changes-here)
            (λ g other. ap (λ (k : KeptFile). k.changes) (kept-there v f.0 content in-files g other) ∙ holds.changes g ∙ sym (ap (λ (p : PresentSize). p.changes) (entry-there g other)));
        charges = charges-are;
        quota = holds.quota;
        contents = λ tells. by-entry (λ g. (kept_at now g).content ≡ content_of (data_at (row_of s) (start_of s) e.view) t.present (record { 0 = g }))
            (ap (λ (k : KeptFile). k.content) (kept-here v f.0 content in-files) ∙ is ∙ ap change (holds.contents tells f.0) ∙ sym (changed.content tells))
            (λ g other. ap (λ (k : KeptFile). k.content) (kept-there v f.0 content in-files g other) ∙ holds.contents tells g ∙ sym (changed.others tells (record { 0 = g }) other));
        durable = λ tells. nodes-kept v f.0 content in-files v.tree.nodes ∙ holds.durable tells ∙ sym (stays.durable tells);
      }
