-- What a change of a store does to the tree of files that it stands for.
use Rattle.std.proofs.Common.{◌≡◌, ◌≢◌, ℕ, zero, suc, ◌+◌, ◌≤◌, ◌<◌, Bool, true, false, cond, not, max, T, List, [], ◌∷◌, ◌++◌, length, set, replicate, refl, sym, ap, subst, ◌∙◌, Option, Some, None, inl, inr, arith, length-append, length-set, get_or-set_same, get_or-set_other}
use Rattle.std.proofs.lemmas.Bool.{cases_eq}
use Rattle.std.proofs.lemmas.List.{length-replicate}
use Rattle.std.proofs.lemmas.List.Sums.{sum_by-cons, sum_by-set}
use Rattle.std.specs.Prelude.{option_map, unwrap_or, nat_lt, ◌==◌, slice_set, slice_index_or}
use Rattle.std.specs.List.{AllZip}
use Rattle.std.specs.Ordering.{eq_by_cmp}
use Rattle.std.specs.FinMap.Entries.{find, is_sorted, find-put, is_sorted-put, same_entries}
use Rattle.apex_types.specs.declared.codes.Errno.{Errno}
use Rattle.apex_types.specs.declared.codes.Errno.TheVariants.{Efbig, Enospc, Eoverflow}
use Rattle.apex_model.specs.Durable.{StoredFile}
use Rattle.apex_model.specs.Files.{File, Content, past, change_count, blocks_of, longest, charge, new_file, changed, synchronised}
use Rattle.apex_model.specs.Firsts.{oldest, first_file}
use Rattle.apex_model.specs.Handles.{free_from}
use Rattle.apex_model.specs.Outcomes.{Outcome, refuse_if, refuse_for}
use Rattle.apex_model.specs.Trees.{Name, Node, directory, file, Tree, path_cmp, standing_at, with_node, without_node, node_charge, tree_charge}
use Rattle.apex_model.proofs.Keeps.{lt-false}
use Rattle.apex_model.proofs.Maps.{sum_by-put}
use Rattle.apex_model.proofs.Trees.{path_cmp_total, path_cmp-IsAntisymmetric, same_path, charge-changed as charge-raised}
use Rattle.file_tree.specs.Entries.{TreeValue, slot, in_directory, with_file, with_directory, without_file, without_directory, with_file_at, stored_of, with_stored, IsConsistent}
use Rattle.file_tree.proofs.Changes.{is_some, slot-within, nothing_stands}
use Rattle.file_tree.proofs.Children.{consistent}
use Rattle.file_tree.proofs.Paths.{same_is}
use Rattle.file_tree.proofs.Ways.{not_some, free-some}
use Rattle.store_model.specs.Stores.{KeptFile, nothing_kept, StoreValue, kept_at, charge_at, total, empty_store, with_names, charge_with, change_refusal, changed_store, synchronised_kept, synchronised_store, removed_store, IsSound}
use Rattle.store_model.specs.Standing.{IsFile, IsEntry, IsTree}
use Rattle.store_model.proofs.Entries.{SameKept, is-true, find-without, sorted-without, zip-sorted, zip-put, zip-without, zip-changed, zip-removed}
use Rattle.store_model.proofs.Names.{sorted-names, file-at, path-of-file, file-found, file-kept, nothing-standing, directory-found}

-- ---- charges of trees

sorted-tree : (v : StoreValue) (tree : Tree File) → IsTree v tree → T (is_sorted path_cmp tree)
sorted-tree v tree t = subst T (zip-sorted v v.tree.nodes tree t.entries) (sorted-names v.tree t.sound.names)

-- what stands at a path, as a charge
abbrev charge_of : Option (Node File) → ℕ
charge_of found = unwrap_or (option_map node_charge found) 0

tree_charge-put : (tree : Tree File) (k : List Name) (n : Node File) → T (is_sorted path_cmp tree) → tree_charge (with_node tree k n) + charge_of (find path_cmp k tree) ≡ tree_charge tree + node_charge n
tree_charge-put tree k n sorted = sum_by-put path_cmp path_cmp_total node_charge k n tree (is-true (is_sorted path_cmp tree) sorted)

found-here : (tree : Tree File) (k : List Name) → find path_cmp k (without_node tree k) ≡ None
found-here tree k = find-without k k tree ∙ ap (λ b. cond (not b) (find path_cmp k tree) None) (same_is k)

-- what was taken away, put back
put-back : (tree : Tree File) (k : List Name) (n : Node File) → T (is_sorted path_cmp tree) → find path_cmp k tree ≡ Some n → with_node (without_node tree k) k n ≡ tree
put-back tree k n sorted h =
    same_entries path_cmp path_cmp_total path_cmp-IsAntisymmetric (with_node (without_node tree k) k n) tree (is_sorted-put path_cmp path_cmp_total k n (without_node tree k) (sorted-without k tree sorted)) sorted
    (λ q. find-put path_cmp path_cmp_total q k n (without_node tree k)
    ∙ (elim (eq_by_cmp path_cmp q k) as (λ b. eq_by_cmp path_cmp q k ≡ b → cond b (Some n) (find path_cmp q (without_node tree k)) ≡ find path_cmp q tree) [
      | true ↦ λ t. sym h ∙ ap (λ (k : List Name). find path_cmp k tree) (sym (same_path q k t))
      | false ↦ λ t. find-without q k tree ∙ (elim (eq_by_cmp path_cmp k q) as (λ b. eq_by_cmp path_cmp k q ≡ b → cond (not b) (find path_cmp q tree) None ≡ find path_cmp q tree) [
        | true ↦ λ s. absurd (let wrong : true ≡ false = sym (ap (λ (k : List Name). eq_by_cmp path_cmp q k) (same_path k q s) ∙ same_is q) ∙ t in cc)
        | false ↦ λ s. refl
      ]) refl
    ]) refl)

tree_charge-without : (tree : Tree File) (k : List Name) (n : Node File) → T (is_sorted path_cmp tree) → find path_cmp k tree ≡ Some n → tree_charge (without_node tree k) + node_charge n ≡ tree_charge tree
tree_charge-without tree k n sorted h =
    let sum = ap (λ (found : Option (Node File)). tree_charge (with_node (without_node tree k) k n) + charge_of found) (sym (found-here tree k)) ∙ tree_charge-put (without_node tree k) k n (sorted-without k tree sorted) in
    let back = ap tree_charge (put-back tree k n sorted h) in
    omega (arith, sum, back)

found-file : (tree : Tree File) (names : List Name) (g : File) → standing_at tree names ≡ Some (file g) → find path_cmp names tree ≡ Some (file g)
found-file tree [] g h = absurd (let e : ◌≡◌ {A = Option (Node File)} (Some directory) (Some (file g)) = h in cc)
found-file tree (name ∷ names) g h = h

found-nothing : {F : Type 0} (tree : Tree F) (names : List Name) → standing_at tree names ≡ None → find path_cmp names tree ≡ None
found-nothing tree [] h = absurd (let e : ◌≡◌ {A = Option _} (Some directory) None = h in cc)
found-nothing tree (name ∷ names) h = h

-- ---- one entry changes

-- of all entries but one the same is kept
pub record ChangedAt (v w : StoreValue) (f : ℕ) : Type 0 where
  pub elsewhere : (g : ℕ) → g ≢ f → SameKept v w g
  pub files : length w.files ≡ length v.files
  pub charges : length w.charges ≡ length v.charges

module _ (v : StoreValue) (s : IsSound v) (f : ℕ) (names : List Name) (used : slot v.tree.files f ≡ Some names) where
  pub within-entries : f < length v.tree.files
  within-entries = slot-within v.tree.files f (is_some used)

  pub within-files : f < length v.files
  within-files = let a = within-entries in let b = s.files in omega (arith, a, b)

  pub within-charges : f < length v.charges
  within-charges = let a = within-entries in let b = s.charges in omega (arith, a, b)

  -- the blocks of all after this entry's have changed
  pub total-set : (blocks : ℕ) → total (slice_set v.charges f blocks) + charge_at v f ≡ total v.charges + blocks
  total-set blocks = sum_by-set (λ (blocks : ℕ). blocks) v.charges f blocks 0 within-charges

  -- another path is another entry's
  other-entry : (q : List Name) (n : ℕ) → q ≢ names → find path_cmp q v.tree.nodes ≡ Some (file n) → n ≢ f
  other-entry q n apart found same =
      let at : slot v.tree.files f ≡ Some q = ap (slot v.tree.files) (sym same) ∙ path-of-file v.tree s.names n q found in
      let both : Some q ≡ Some names = sym at ∙ used in
      apart (let e : q ≡ names = cc in e)

  -- what is kept nowhere is still so where another entry changed
  unused-kept : (w : StoreValue) → ChangedAt v w f → (g : ℕ) → slot v.tree.files g ≡ None → (kept_at w g ≡ nothing_kept) × (charge_at w g ≡ 0)
  unused-kept w ch g h =
      let other : g ≢ f = λ same. not_some (sym h ∙ ap (slot v.tree.files) same ∙ used) in
      let same = ch.elsewhere g other in
      let u = s.unused g h in
      (sym same.kept ∙ u.0, sym same.charge ∙ u.1)

  -- sound with the same names, where the quota is kept
  sound-changed : (files : List KeptFile) (charges : List ℕ) → ChangedAt v (record { tree = v.tree; files = files; charges = charges; quota = v.quota }) f → total charges ≤ v.quota
      → IsSound (record { tree = v.tree; files = files; charges = charges; quota = v.quota })
  sound-changed files charges ch within = record {
    names = s.names;
    files = ch.files ∙ s.files;
    charges = ch.charges ∙ s.charges;
    unused = unused-kept (record { tree = v.tree; files = files; charges = charges; quota = v.quota }) ch;
    within_quota = within;
  }

set-elsewhere : (v : StoreValue) (tree : TreeValue) (f : ℕ) (kept : KeptFile) (blocks : ℕ)
    → ChangedAt v (record { tree = tree; files = slice_set v.files f kept; charges = slice_set v.charges f blocks; quota = v.quota }) f
set-elsewhere v tree f kept blocks = record {
  elsewhere = λ g n. record { kept = sym (get_or-set_other v.files f g kept nothing_kept n); charge = sym (get_or-set_other v.charges f g blocks 0 n) };
  files = length-set v.files f kept;
  charges = length-set v.charges f blocks;
}

-- what the stored body has of a used entry may be anything
stored-consistent : (v : TreeValue) (f : ℕ) (names : List Name) (size changes : ℕ) → IsConsistent v → slot v.files f ≡ Some names → IsConsistent (with_stored v f size changes)
stored-consistent v f names size changes c used =
    let within : f < length v.stored = slot-within v.stored f (is_some (c.stored f names used)) in
    let here : slot (slice_set v.stored f (Some (size, changes))) f ≡ Some (size, changes) = get_or-set_same v.stored f (Some (size, changes)) None within in
    record {
      nodes_are = c.nodes_are;
      distinct = c.distinct;
      some = c.some;
      few = c.few;
      parent = c.parent;
      stored = λ g path at. elim (cases_eq g f) [
        | inl same ↦ subst (λ (g : ℕ). slot (slice_set v.stored f (Some (size, changes))) g ≡ Some (stored_of (with_stored v f size changes) g)) (sym same)
            (here ∙ ap (λ (o : Option (ℕ × ℕ)). Some (unwrap_or o (0, 0))) (sym here))
        | inr other ↦
            let kept : slot (slice_set v.stored f (Some (size, changes))) g ≡ slot v.stored g = get_or-set_other v.stored f g (Some (size, changes)) None other in
            kept ∙ c.stored g path at ∙ ap (λ (o : Option (ℕ × ℕ)). Some (unwrap_or o (0, 0))) (sym kept)
      ];
    }

-- a content more leaves the oldest one
oldest-more : (contents : List Content) (last more : Content) → oldest contents last ≡ oldest (contents ++ last ∷ []) more
oldest-more [] last more = refl
oldest-more (content ∷ contents) last more = refl

-- a change leaves what is synchronised
first-changed : (g : File) (content : Content) → first_file g ≡ first_file (changed g content)
first-changed g content = let stored : Content → StoredFile = λ first. record { content = first; changes = g.first } in ap stored (oldest-more g.earlier g.content content)

-- the change count of a file after a change
changes-more : (g : File) (content : Content) → change_count g + 1 ≡ change_count (changed g content)
changes-more g content = omega (arith, length-append g.earlier (g.content ∷ []))

longest-last : (contents : List Content) (content : Content) → length content ≤ longest (contents ++ content ∷ [])
longest-last [] content = omega arith
longest-last (c ∷ contents) content = let r = longest-last contents content in omega (arith, r)

blocks-more : (a b : ℕ) → a ≤ b → blocks_of a ≤ blocks_of b
blocks-more a b h = omega arith

-- three reasons, each a test, as one refusal
three-refusals : {S : Type 0} (large full often : Bool) (rest : Outcome S)
    → refuse_if large Efbig (refuse_if full Enospc (refuse_if often Eoverflow rest)) ≡ refuse_for (cond large (Some Efbig) (cond full (Some Enospc) (cond often (Some Eoverflow) None))) rest
three-refusals true full often rest = refl
three-refusals false true often rest = refl
three-refusals false false true rest = refl
three-refusals false false false rest = refl

second-passed : (large full often : Bool) → ◌≡◌ {A = Option Errno} (cond large (Some Efbig) (cond full (Some Enospc) (cond often (Some Eoverflow) None))) None → full ≡ false
second-passed true full often h = absurd (let e : ◌≡◌ {A = Option Errno} (Some Efbig) None = h in cc)
second-passed false true often h = absurd (let e : ◌≡◌ {A = Option Errno} (Some Enospc) None = h in cc)
second-passed false false often h = refl

module _ (v : StoreValue) (tree : Tree File) (t : IsTree v tree) (f : ℕ) (names : List Name) (g : File) (used : slot v.tree.files f ≡ Some names) (stands : standing_at tree names ≡ Some (file g)) where
  -- what is kept of the file
  pub kept-file : IsFile (kept_at v f) (charge_at v f) g
  kept-file = file-kept v tree t f names g used stands

  pub changes-same : (kept_at v f).changes ≡ change_count g
  changes-same = kept-file.changes

  pub content-same : (kept_at v f).content ≡ g.content
  content-same = kept-file.content

  -- the charge of the tree with another file at the path
  charge-replaced : (h : File) → tree_charge (with_node tree names (file h)) ≡ total (slice_set v.charges f (charge h))
  charge-replaced h =
      let put = ap (λ (found : Option (Node File)). tree_charge (with_node tree names (file h)) + charge_of found) (sym (found-file tree names g stands)) ∙ tree_charge-put tree names (file h) (sorted-tree v tree t) in
      let set = total-set v t.sound f names used (charge h) in
      let whole = t.charge in
      let own = kept-file.charge in
      omega (arith, put, set, whole, own)

  charge-with : (content : Content) → charge_with v f (length content) ≡ charge (changed g content)
  charge-with content = ap (λ blocks. max blocks (blocks_of (length content))) kept-file.charge ∙ sym (charge-raised g content)

  -- the charge of the tree after a change is that of the store
  pub charge-changed : (content : Content) → tree_charge (with_node tree names (file (changed g content))) ≡ total (slice_set v.charges f (charge_with v f (length content)))
  charge-changed content = charge-replaced (changed g content) ∙ ap (λ blocks. total (slice_set v.charges f blocks)) (sym (charge-with content))

  entries-replaced : (w : StoreValue) (h : File) → ChangedAt v w f → IsFile (kept_at w f) (charge_at w f) h → AllZip (IsEntry w) v.tree.nodes (with_node tree names (file h))
  entries-replaced w h ch is =
      zip-changed v w names (file f) (file h) v.tree.nodes tree (sorted-names v.tree t.sound.names) t.entries (file-at v.tree t.sound.names f names used) is
      (λ q n apart found. ch.elsewhere n (other-entry v t.sound f names used q n apart found))

  -- a change of the file
  pub changed-stands : (content : Content) → total (slice_set v.charges f (charge_with v f (length content))) ≤ v.quota → IsTree (changed_store v f content) (with_node tree names (file (changed g content)))
  changed-stands content within =
      let kept : KeptFile = record { content = content; changes = (kept_at v f).changes + 1; durable = (kept_at v f).durable } in
      let blocks = charge_with v f (length content) in
      let ch = set-elsewhere v v.tree f kept blocks in
      let here : kept_at (changed_store v f content) f ≡ kept = get_or-set_same v.files f kept nothing_kept (within-files v t.sound f names used) in
      let charged : charge_at (changed_store v f content) f ≡ blocks = get_or-set_same v.charges f blocks 0 (within-charges v t.sound f names used) in
      record {
        sound = sound-changed v t.sound f names used (slice_set v.files f kept) (slice_set v.charges f blocks) ch within;
        entries = entries-replaced (changed_store v f content) (changed g content) ch (record {
          content = ap (λ (k : KeptFile). k.content) here;
          changes = ap (λ (k : KeptFile). k.changes) here ∙ ap (λ n. n + 1) changes-same ∙ changes-more g content;
          charge = charged ∙ charge-with content;
          durable = ap (λ (k : KeptFile). k.durable) here ∙ kept-file.durable ∙ first-changed g content;
        });
        charge = charge-changed content;
      }

  synchronised-charge : blocks_of (length (kept_at v f).content) ≡ charge (synchronised g)
  synchronised-charge = ap (λ (c : Content). blocks_of (length c)) content-same ∙ ap blocks_of (let e : length g.content ≡ max (length g.content) 0 = omega arith in e)

  synchronised-less : charge (synchronised g) ≤ charge g
  synchronised-less = blocks-more (max (length g.content) 0) (longest (past g)) (let e = longest-last g.earlier g.content in omega (arith, e))

  -- a synchronisation of the file
  pub synchronised-stands : IsTree (synchronised_store v f) (with_node tree names (file (synchronised g)))
  synchronised-stands =
      let kept = synchronised_kept (kept_at v f) in
      let blocks = blocks_of (length (kept_at v f).content) in
      let w = synchronised_store v f in
      let ch = set-elsewhere v w.tree f kept blocks in
      let here : kept_at w f ≡ kept = get_or-set_same v.files f kept nothing_kept (within-files v t.sound f names used) in
      let charged : charge_at w f ≡ blocks = get_or-set_same v.charges f blocks 0 (within-charges v t.sound f names used) in
      let stored : kept.durable ≡ first_file (synchronised g) = λ i. record { content = content-same i; changes = changes-same i } in
      let set = total-set v t.sound f names used blocks in
      let less = synchronised-less in
      let same = synchronised-charge in
      let own = kept-file.charge in
      let quota = t.sound.within_quota in
      record {
        sound = record {
          names = stored-consistent v.tree f names (length (kept_at v f).content) (kept_at v f).changes t.sound.names used;
          files = ch.files ∙ t.sound.files;
          charges = ch.charges ∙ t.sound.charges;
          unused = unused-kept v t.sound f names used w ch;
          within_quota = omega (arith, set, less, same, own, quota);
        };
        entries = entries-replaced w (synchronised g) ch (record {
          content = ap (λ (k : KeptFile). k.content) here ∙ content-same;
          changes = ap (λ (k : KeptFile). k.changes) here ∙ changes-same ∙ (let e : change_count g ≡ change_count g + 0 = omega arith in e);
          charge = charged ∙ same;
          durable = ap (λ (k : KeptFile). k.durable) here ∙ stored;
        });
        charge = charge-replaced (synchronised g) ∙ ap (λ blocks. total (slice_set v.charges f blocks)) (sym same);
      }

  -- a store refuses a change for the reasons that the tree gives, in their order
  pub change-refused : {S : Type 0} (content : Content) (rest : Outcome S)
      → refuse_if (nat_lt 1048576 (length content)) Efbig (refuse_if (nat_lt v.quota (tree_charge (with_node tree names (file (changed g content))))) Enospc (refuse_if (change_count g == 4294967295) Eoverflow rest))
      ≡ refuse_for (change_refusal v f (length content)) rest
  change-refused content rest =
      let count = sym changes-same in
      (λ i. refuse_if (nat_lt 1048576 (length content)) Efbig (refuse_if (nat_lt v.quota (charge-changed content i)) Enospc (refuse_if (count i == 4294967295) Eoverflow rest)))
      ∙ three-refusals (nat_lt 1048576 (length content)) (nat_lt v.quota (total (slice_set v.charges f (charge_with v f (length content))))) ((kept_at v f).changes == 4294967295) rest

-- what isn't refused is within the quota
pub change-within : (v : StoreValue) (f size : ℕ) → change_refusal v f size ≡ None → total (slice_set v.charges f (charge_with v f size)) ≤ v.quota
change-within v f size h = lt-false v.quota (total (slice_set v.charges f (charge_with v f size)))
    (second-passed (nat_lt 1048576 size) (nat_lt v.quota (total (slice_set v.charges f (charge_with v f size)))) ((kept_at v f).changes == 4294967295) h)

-- ---- files made, removed and renamed

-- an entry unused after a file got a path was unused before
unused-before : (files : List (Option (List Name))) (f : ℕ) (path : List Name) → f < length files → (g : ℕ) → slot (set files f (Some path)) g ≡ None → (g ≢ f) × (slot files g ≡ None)
unused-before files f path within g h =
    let other : g ≢ f = λ same. not_some (sym h ∙ ap (slot (set files f (Some path))) same ∙ get_or-set_same files f (Some path) None within) in
    (other, sym (get_or-set_other files f g (Some path) None other) ∙ h)

free-within : (v : StoreValue) (f : ℕ) → free_from 0 v.tree.files ≡ Some f → (f < length v.tree.files) × (slot v.tree.files f ≡ None)
free-within v f least =
    let l = free-some v.tree.files 0 f least in
    let same : f ≡ l.0 = omega (arith, l.1) in
    (omega (arith, l.1, l.2), ap (slot v.tree.files) same ∙ l.3)

-- a store in which a file of an entry got a path
placed-sound : (v : StoreValue) (f : ℕ) (path : List Name) (nodes : Tree ℕ) (stored : List (Option (ℕ × ℕ))) → IsSound v → f < length v.tree.files
    → IsConsistent (record { nodes = nodes; files = slice_set v.tree.files f (Some path); directories = v.tree.directories; stored = stored })
    → IsSound (with_names v (record { nodes = nodes; files = slice_set v.tree.files f (Some path); directories = v.tree.directories; stored = stored }))
placed-sound v f path nodes stored s within names = record {
  names = names;
  files = s.files ∙ sym (length-set v.tree.files f (Some path));
  charges = s.charges ∙ sym (length-set v.tree.files f (Some path));
  unused = λ g h. s.unused g (unused-before v.tree.files f path within g h).1;
  within_quota = s.within_quota;
}

pub made-sound : (v : StoreValue) (f : ℕ) (names : List Name) → IsSound v → free_from 0 v.tree.files ≡ Some f → IsConsistent (with_file v.tree f names) → IsSound (with_names v (with_file v.tree f names))
made-sound v f names s least c = placed-sound v f names (with_node v.tree.nodes names (file f)) (slice_set v.tree.stored f (Some (0, 0))) s (free-within v f least).0 c

new-kept : (v : StoreValue) (f : ℕ) → (kept_at v f ≡ nothing_kept) × (charge_at v f ≡ 0) → IsFile (kept_at v f) (charge_at v f) new_file
new-kept v f u = record { content = ap (λ (k : KeptFile). k.content) u.0; changes = ap (λ (k : KeptFile). k.changes) u.0; charge = u.1; durable = ap (λ (k : KeptFile). k.durable) u.0 }

-- the charge of a tree with one more node
charge-added : (v : StoreValue) (tree : Tree File) (t : IsTree v tree) (names : List Name) (n : Node File) → standing_at v.tree.nodes names ≡ None → node_charge n ≡ 0 → tree_charge (with_node tree names n) ≡ total v.charges
charge-added v tree t names n free none =
    let put = ap (λ (found : Option (Node File)). tree_charge (with_node tree names n) + charge_of found) (sym (found-nothing tree names (nothing-standing v tree t names free)))
    ∙ tree_charge-put tree names n (sorted-tree v tree t) in
    let whole = t.charge in
    omega (arith, put, whole, none)

-- a file is made
pub made-stands : (v : StoreValue) (tree : Tree File) (f : ℕ) (names : List Name) → IsTree v tree → free_from 0 v.tree.files ≡ Some f → standing_at v.tree.nodes names ≡ None → IsConsistent (with_file v.tree f names)
    → IsTree (with_names v (with_file v.tree f names)) (with_node tree names (file new_file))
made-stands v tree f names t least free c = record {
  sound = made-sound v f names t.sound least c;
  entries = zip-put v names (file f) (file new_file) v.tree.nodes tree (sorted-names v.tree t.sound.names) t.entries (new-kept v f (t.sound.unused f (free-within v f least).1));
  charge = charge-added v tree t names (file new_file) free refl;
}

total-less : (v : StoreValue) (s : IsSound v) (f : ℕ) (names : List Name) → slot v.tree.files f ≡ Some names → total (slice_set v.charges f 0) ≤ v.quota
total-less v s f names used = let set = total-set v s f names used 0 in let quota = s.within_quota in omega (arith, set, quota)

pub removed-sound : (v : StoreValue) (f : ℕ) (names : List Name) → IsSound v → slot v.tree.files f ≡ Some names → IsConsistent (without_file v.tree f names) → IsSound (removed_store v f names)
removed-sound v f names s used c =
    let ch = set-elsewhere v (without_file v.tree f names) f nothing_kept 0 in
    record {
      names = c;
      files = length-set v.files f nothing_kept ∙ s.files ∙ sym (length-set v.tree.files f None);
      charges = length-set v.charges f 0 ∙ s.charges ∙ sym (length-set v.tree.files f None);
      unused = λ g h. elim (cases_eq g f) [
        | inl e ↦ (
          ap (kept_at (removed_store v f names)) e ∙ get_or-set_same v.files f nothing_kept nothing_kept (within-files v s f names used),
          ap (charge_at (removed_store v f names)) e ∙ get_or-set_same v.charges f 0 0 (within-charges v s f names used),
        )
        | inr n ↦ unused-kept v s f names used (removed_store v f names) ch g (sym (get_or-set_other v.tree.files f g None None n) ∙ h)
      ];
      within_quota = total-less v s f names used;
    }

-- a file is removed
pub removed-stands : (v : StoreValue) (tree : Tree File) (f : ℕ) (names : List Name) → IsTree v tree → slot v.tree.files f ≡ Some names → IsConsistent (without_file v.tree f names)
    → IsTree (removed_store v f names) (without_node tree names)
removed-stands v tree f names t used c =
    let s = t.sound in
    let found = file-found v tree t f names used in
    let ch = set-elsewhere v (without_file v.tree f names) f nothing_kept 0 in
    let less = tree_charge-without tree names (file found.0) (sorted-tree v tree t) (found-file tree names found.0 found.1) in
    let set = total-set v s f names used 0 in
    let whole = t.charge in
    let own = found.2.charge in
    record {
      sound = removed-sound v f names s used c;
      entries = zip-removed v (removed_store v f names) names v.tree.nodes tree (sorted-names v.tree s.names) t.entries
          (λ q n apart at. ch.elsewhere n (other-entry v s f names used q n apart at));
      charge = omega (arith, less, set, whole, own);
    }

pub renamed-sound : (v : StoreValue) (f : ℕ) (from to : List Name) → IsSound v → slot v.tree.files f ≡ Some from → IsConsistent (with_file_at v.tree f from to) → IsSound (with_names v (with_file_at v.tree f from to))
renamed-sound v f from to s used c = placed-sound v f to (with_node (without_node v.tree.nodes from) to (file f)) v.tree.stored s (within-entries v s f from used) c

-- a file gets another path
pub renamed-stands : (v : StoreValue) (tree : Tree File) (f : ℕ) (from to : List Name) (g : File) → IsTree v tree → slot v.tree.files f ≡ Some from → standing_at v.tree.nodes to ≡ None → standing_at tree from ≡ Some (file g)
    → IsConsistent (with_file_at v.tree f from to) → IsTree (with_names v (with_file_at v.tree f from to)) (with_node (without_node tree from) to (file g))
renamed-stands v tree f from to g t used free stands c =
    let s = t.sound in
    let sorted = sorted-names v.tree s.names in
    let left = sorted-tree v tree t in
    let nothing : find path_cmp to tree ≡ None = found-nothing tree to (nothing-standing v tree t to free) in
    let free_then : find path_cmp to (without_node tree from) ≡ None = find-without to from tree
    ∙ (elim (not (eq_by_cmp path_cmp from to)) as (λ b. cond b (find path_cmp to tree) None ≡ None) [ true ↦ nothing | false ↦ refl ]) in
    let less = tree_charge-without tree from (file g) left (found-file tree from g stands) in
    let put = ap (λ (found : Option (Node File)). tree_charge (with_node (without_node tree from) to (file g)) + charge_of found) (sym free_then)
    ∙ tree_charge-put (without_node tree from) to (file g) (sorted-without from tree left) in
    let whole = t.charge in
    record {
      sound = renamed-sound v f from to s used c;
      entries = zip-put v to (file f) (file g) (without_node v.tree.nodes from) (without_node tree from) (sorted-without from v.tree.nodes sorted)
          (zip-without v from v.tree.nodes tree sorted t.entries) (file-kept v tree t f from g used stands);
      charge = omega (arith, less, put, whole);
    }

-- ---- directories made and removed

pub made_directory-sound : (v : StoreValue) (d : ℕ) (names : List Name) → IsSound v → IsConsistent (with_directory v.tree d names) → IsSound (with_names v (with_directory v.tree d names))
made_directory-sound v d names s c = record { names = c; files = s.files; charges = s.charges; unused = s.unused; within_quota = s.within_quota }

-- a directory is made
pub made_directory-stands : (v : StoreValue) (tree : Tree File) (d : ℕ) (names : List Name) → IsTree v tree → standing_at v.tree.nodes names ≡ None → IsConsistent (with_directory v.tree d names)
    → IsTree (with_names v (with_directory v.tree d names)) (with_node tree names directory)
made_directory-stands v tree d names t free c = record {
  sound = made_directory-sound v d names t.sound c;
  entries = zip-put v names directory directory v.tree.nodes tree (sorted-names v.tree t.sound.names) t.entries tt;
  charge = charge-added v tree t names directory free refl;
}

pub removed_directory-sound : (v : StoreValue) (d : ℕ) (names : List Name) → IsSound v → IsConsistent (without_directory v.tree d names) → IsSound (with_names v (without_directory v.tree d names))
removed_directory-sound v d names s c = record { names = c; files = s.files; charges = s.charges; unused = s.unused; within_quota = s.within_quota }

found-directory : (tree : Tree File) (names : List Name) → 1 ≤ length names → standing_at tree names ≡ Some directory → find path_cmp names tree ≡ Some directory
found-directory tree [] h k = absurd (omega arith)
found-directory tree (name ∷ names) h k = k

-- a directory is removed
pub removed_directory-stands : (v : StoreValue) (tree : Tree File) (d : ℕ) (names : List Name) → IsTree v tree → slot v.tree.directories d ≡ Some names → IsConsistent (without_directory v.tree d names)
    → IsTree (with_names v (without_directory v.tree d names)) (without_node tree names)
removed_directory-stands v tree d names t used c =
    let s = t.sound in
    let at : find path_cmp names tree ≡ Some directory = found-directory tree names (s.names.some (in_directory d) names used) (directory-found v tree t (suc d) names used) in
    let less = tree_charge-without tree names directory (sorted-tree v tree t) at in
    let whole = t.charge in
    record {
      sound = removed_directory-sound v d names s c;
      entries = zip-without v names v.tree.nodes tree (sorted-names v.tree s.names) t.entries;
      charge = omega (arith, less, whole);
    }

-- ---- a store with nothing in it

total-none : (charges : List ℕ) → ((i : ℕ) → slice_index_or charges i 0 ≡ 0) → 0 ≡ total charges
total-none [] h = refl
total-none (blocks ∷ charges) h =
    let rest = total-none charges (λ i. h (suc i)) in
    let first = h 0 in
    let sum = sum_by-cons (λ (blocks : ℕ). blocks) blocks charges in
    omega (arith, rest, first, sum)

slot-none : (n i : ℕ) → slot {A = List Name} (replicate n None) i ≡ None
slot-none zero i = refl
slot-none (suc n) zero = refl
slot-none (suc n) (suc i) = slot-none n i

-- an empty store stands for the tree with nothing in it
pub empty-stands : (files directories quota : ℕ) (kept : List KeptFile) (charges : List ℕ) → IsSound (empty_store files directories quota kept charges) → IsTree (empty_store files directories quota kept charges) []
empty-stands files directories quota kept charges s = record {
  sound = s;
  entries = tt;
  charge = total-none charges (λ i. (s.unused i (slot-none files i)).1);
}

kept-none : (n i : ℕ) → slice_index_or (replicate n nothing_kept) i nothing_kept ≡ nothing_kept
kept-none zero i = refl
kept-none (suc n) zero = refl
kept-none (suc n) (suc i) = kept-none n i

charged-none : (n i : ℕ) → ◌≡◌ {A = ℕ} (slice_index_or (replicate n 0) i 0) 0
charged-none zero i = refl
charged-none (suc n) zero = refl
charged-none (suc n) (suc i) = charged-none n i

-- a store that keeps nothing is sound
pub empty-sound : (files directories quota : ℕ) → files ≤ 255 → directories ≤ 255 → IsSound (empty_store files directories quota (replicate files nothing_kept) (replicate files 0))
empty-sound files directories quota few_files few_directories =
    let b = nothing_stands files directories few_files few_directories in
    let sum = total-none (replicate files 0) (charged-none files) in
    record {
      names = subst IsConsistent b.is (consistent (replicate files None) (replicate directories None) b.sound);
      files = length-replicate files nothing_kept ∙ sym (length-replicate files None);
      charges = length-replicate files 0 ∙ sym (length-replicate files None);
      unused = λ f h. (kept-none files f, charged-none files f);
      within_quota = omega (arith, sum);
    }
