-- All that is kept stays in step where the name of a file is removed, and all that is present of it.
use Rattle.std.proofs.Common.{◌≡◌, ◌≢◌, inl, inr, ℕ, zero, suc, ◌<◌, ◌≤◌, Bool, true, false, List, [], ◌∷◌, length, refl, sym, ap, subst, ◌∙◌, Option, Some, None, IsSome, arith, length-set, get_or-set_same, get_or-set_other}
use Rattle.std.specs.Prelude.{unwrap_or, slice_index_or, slice_set}
use Rattle.std.proofs.lemmas.Bool.{cases_eq}
use Rattle.apex_types.specs.declared.numbers.FileNode.{FileNode}
use Rattle.apex_types.specs.declared.rows.TreeRow.{TreeRow}
use Rattle.apex_model.specs.Durable.{StoredFile}
use Rattle.apex_model.specs.Files.{blocks_of}
use Rattle.apex_model.specs.Trees.{Name, Tree, without_node}
use Rattle.block_pool.specs.Lists.{node_count}
use Rattle.block_quota.specs.Blocks.{is_used}
use Rattle.block_quota.specs.Quota.{ChargesValue, charge_of, total, with_charge}
use Rattle.file_tree.specs.Entries.{TreeValue, slot, stored_of, without_file, IsConsistent}
use Rattle.file_tree.proofs.Changes.{slot-within}
use Rattle.tree_region.specs.OwnedRows.{AreApart, AreNamedUsed, is_new, is_fresh, number_at}
use Rattle.present_files.specs.Present.{IsPresent, never_changed, size_in, changes_in}
use Rattle.present_files.specs.declared.present.PresentSize.{PresentSize}
use Rattle.rig_core.specs.Outside.{Outside}
use Rattle.tree_region.specs.InStep.{InStep, data_at}
use Rattle.tree_region.specs.GoodNumbers.{size_blocks}
use Rattle.tree_region.specs.Region.{tree_over}
use Rattle.tree_state.specs.Numbers.{AreZeroBehind}
use Rattle.tree_state.specs.State.{IsState, AreCharged, AreUnusedEmpty}
use Rattle.tree_state.specs.Stored.{durable_tree}
use Rattle.tree_state.specs.declared.state.TreeState.{TreeState}
use Rattle.tree_state.specs.Names.{ChangesTree}
use Rattle.tree_state.proofs.Trees.{file-gone}

none-at : {A : Type 0} (xs : List (Option A)) (f : ℕ) → slot (slice_set xs f None) f ≡ None
none-at [] f = refl
none-at (x ∷ xs) zero = refl
none-at (x ∷ xs) (suc f) = none-at xs f

-- what holds of one number and of all others
each : (P : ℕ → Type 0) (f : ℕ) → P f → ((g : ℕ) → g ≢ f → P g) → (g : ℕ) → P g
each P f here other g = elim (cases_eq g f) [ inl same ↦ subst P (sym same) here | inr differs ↦ other g differs ]

-- ---- fresh numbers

zero-not-new : (d p : ℕ) → p ≡ 0 → is_new d p ≡ false
zero-not-new d p none = ap (is_new d) none

new-not-zero : (d p : ℕ) → is_new d p ≡ true → p ≢ 0
new-not-zero d p new none = let wrong : true ≡ false = sym new ∙ zero-not-new d p none in absurd cc

-- ---- the change of the durable tree

pub gone-step : (V : Type 0) (row : TreeRow) (at : ℕ) (o e : Outside) (s : TreeState) (f : FileNode) (path : List Name) → IsConsistent s.kept.tree → slot s.kept.tree.files f.0 ≡ Some path
    → ChangesTree V row at (durable_tree row at o.view s) (tree_over (data_at row at o.view) (without_file s.kept.tree f.0 path) s.kept.table.files.items) o e
    → ChangesTree V row at (durable_tree row at o.view s) (without_node (durable_tree row at o.view s) path) o e
gone-step V row at o e s f path stands there step =
    let v = s.kept.tree in
    let rows = s.kept.table.files.items in
    subst (λ (t : Tree StoredFile). ChangesTree V row at (durable_tree row at o.view s) t o e)
    (file-gone (data_at row at o.view) rows v stands f.0 path there (without_file v f.0 path) rows refl
    (λ g differs. ap (λ (p : Option (ℕ × ℕ)). unwrap_or p (0, 0)) (get_or-set_other v.stored f.0 g None None differs)) (λ g differs. refl)) step

-- ---- what is kept

module _ (V : Type 0) (row : TreeRow) (at : ℕ) (o e : Outside) (s new : TreeState) (is : IsState V row at o s) (f : FileNode) (path : List Name)
    (there : slot s.kept.tree.files f.0 ≡ Some path) (tree : new.kept.tree ≡ without_file s.kept.tree f.0 path)
    (rows : (g : ℕ) → g ≢ f.0 → slice_index_or new.kept.table.files.items g [] ≡ slice_index_or s.kept.table.files.items g []) where
  stored-other : (g : ℕ) → g ≢ f.0 → stored_of new.kept.tree g ≡ stored_of s.kept.tree g
  stored-other g differs = ap (λ (v : TreeValue). stored_of v g) tree ∙ ap (λ (o : Option (ℕ × ℕ)). unwrap_or o (0, 0)) (get_or-set_other s.kept.tree.stored f.0 g None None differs)

  -- the durable tree, over the same data blocks
  pub tree-gone : IsConsistent s.kept.tree → (a b : List ℕ) → data_at row at b ≡ data_at row at a → durable_tree row at b new ≡ without_node (durable_tree row at a s) path
  tree-gone stands a b same =
      ap (λ (blocks : List ℕ). tree_over blocks new.kept.tree new.kept.table.files.items) same
      ∙ file-gone (data_at row at a) s.kept.table.files.items s.kept.tree stands f.0 path there new.kept.tree new.kept.table.files.items (ap (λ (v : TreeValue). v.nodes) tree) stored-other rows

  module _ (step : InStep V row at e new.kept) (none : (k : ℕ) → number_at new.kept.table.files.items f.0 k ≡ 0) (used : new.kept.table.used ≡ s.kept.table.used)
      (sizes : new.present.sizes.items ≡ slice_set s.present.sizes.items f.0 never_changed) (numbers : (k : ℕ) → number_at new.present.numbers.items f.0 k ≡ 0)
      (present_rows : (g : ℕ) → g ≢ f.0 → slice_index_or new.present.numbers.items g [] ≡ slice_index_or s.present.numbers.items g [])
      (present : IsPresent row new.present) (buffers : node_count new.present.pool.lists ≡ node_count s.present.pool.lists)
      (charges : new.charges ≡ with_charge s.charges f.0 0) (within : total new.charges ≤ new.charges.quota)
      (body : length new.body.items ≡ length s.body.items) (tail : new.tail ≡ s.tail) where
    abbrev durable : List (List ℕ)
    durable = new.kept.table.files.items

    abbrev now : List (List ℕ)
    now = new.present.numbers.items

    file-within : f.0 < row.files
    file-within = omega (arith, slot-within s.kept.tree.files f.0 (subst IsSome (sym there) refl), is.in_step.limits.files)

    blocks-here : size_blocks new.kept.tree f.0 ≡ 0
    blocks-here = ap (λ (v : TreeValue). size_blocks v f.0) tree ∙ ap (λ (o : Option (ℕ × ℕ)). blocks_of (unwrap_or o (0, 0)).0) (none-at s.kept.tree.stored f.0)

    blocks-other : (g : ℕ) → g ≢ f.0 → size_blocks new.kept.tree g ≡ size_blocks s.kept.tree g
    blocks-other g differs = ap (λ (p : ℕ × ℕ). blocks_of p.0) (stored-other g differs)

    slot-other : (g : ℕ) → g ≢ f.0 → slot new.kept.tree.files g ≡ slot s.kept.tree.files g
    slot-other g differs = ap (λ (v : TreeValue). slot v.files g) tree ∙ get_or-set_other s.kept.tree.files f.0 g None None differs

    durable-other : (g k : ℕ) → g ≢ f.0 → number_at durable g k ≡ number_at s.kept.table.files.items g k
    durable-other g k differs = ap (λ (ns : List ℕ). slice_index_or ns k 0) (rows g differs)

    now-other : (g k : ℕ) → g ≢ f.0 → number_at now g k ≡ number_at s.present.numbers.items g k
    now-other g k differs = ap (λ (ns : List ℕ). slice_index_or ns k 0) (present_rows g differs)

    size-here : slice_index_or new.present.sizes.items f.0 never_changed ≡ never_changed
    size-here = ap (λ (xs : List PresentSize). slice_index_or xs f.0 never_changed) sizes ∙ get_or-set_same s.present.sizes.items f.0 never_changed never_changed (omega (arith, file-within, is.present.sizes_length))

    size-other : (g : ℕ) → g ≢ f.0 → slice_index_or new.present.sizes.items g never_changed ≡ slice_index_or s.present.sizes.items g never_changed
    size-other g differs = ap (λ (xs : List PresentSize). slice_index_or xs g never_changed) sizes ∙ get_or-set_other s.present.sizes.items f.0 g never_changed never_changed differs

    charge-here : charge_of new.charges f.0 ≡ 0
    charge-here = ap (λ (c : ChargesValue). charge_of c f.0) charges ∙ get_or-set_same s.charges.by_file f.0 0 0 (omega (arith, file-within, is.charged.files))

    charge-other : (g : ℕ) → g ≢ f.0 → charge_of new.charges g ≡ charge_of s.charges g
    charge-other g differs = ap (λ (c : ChargesValue). charge_of c g) charges ∙ get_or-set_other s.charges.by_file f.0 g 0 0 differs

    are-used : AreNamedUsed new.kept.table.used now
    are-used = record {
      within = each (λ g. (k : ℕ) → number_at now g k ≤ length new.kept.table.used) f.0
          (λ k. omega (arith, numbers k))
          (λ g differs k. omega (arith, now-other g k differs, is.used.within g k, ap (λ (us : List Bool). length us) used));
      named = each (λ g. (k : ℕ) → 1 ≤ number_at now g k → is_used new.kept.table.used (number_at now g k) ≡ true) f.0
          (λ k one. absurd (omega (arith, numbers k, one)))
          (λ g differs k one.
          (λ i. is_used (used i) (now-other g k differs i)) ∙ is.used.named g k (omega (arith, now-other g k differs, one)));
    }

    -- a fresh number stands at another file's place, and was fresh
    fresh-other : (g k : ℕ) → is_fresh durable now g k ≡ true → g ≢ f.0
    fresh-other g k fresh same =
        new-not-zero (number_at durable g k) (number_at now g k) fresh (ap (λ n. number_at now n k) same ∙ numbers k)

    was-fresh : (g k : ℕ) → g ≢ f.0 → is_fresh durable now g k ≡ true → is_fresh s.kept.table.files.items s.present.numbers.items g k ≡ true
    was-fresh g k differs fresh = (λ i. is_new (sym (durable-other g k differs) i) (sym (now-other g k differs) i)) ∙ fresh

    are-apart : AreApart durable now
    are-apart = record {
      not_durable = λ g k fresh h j same.
          let other = fresh-other g k fresh in
          elim (cases_eq h f.0) [
            | inl own ↦ new-not-zero (number_at durable g k) (number_at now g k) fresh (sym same ∙ ap (λ n. number_at durable n j) own ∙ none j)
            | inr differs ↦ is.apart.not_durable g k (was-fresh g k other fresh) h j (sym (durable-other h j differs) ∙ same ∙ now-other g k other)
          ];
      once = λ g k h j fresh same.
          let other = fresh-other g k fresh in
          elim (cases_eq h f.0) [
            | inl own ↦ absurd (new-not-zero (number_at durable g k) (number_at now g k) fresh (sym same ∙ ap (λ n. number_at now n j) own ∙ numbers j))
            | inr differs ↦ is.apart.once g k h j (was-fresh g k other fresh) (sym (now-other h j differs) ∙ same ∙ now-other g k other)
          ];
    }

    zero-behind : AreZeroBehind new.kept.tree durable
    zero-behind = each (λ g. (k : ℕ) → size_blocks new.kept.tree g ≤ k → number_at durable g k ≡ 0) f.0
        (λ k behind. none k)
        (λ g differs k behind. durable-other g k differs ∙ is.zeros g k (omega (arith, behind, blocks-other g differs)))

    are-charged : AreCharged row new.kept.tree new.present.sizes.items new.charges
    are-charged =
        let quota : new.charges.quota ≡ row.quota = ap (λ (c : ChargesValue). c.quota) charges ∙ is.charged.quota in
        record {
          quota = quota;
          files = ap (λ (c : ChargesValue). length c.by_file) charges ∙ length-set s.charges.by_file f.0 0 ∙ is.charged.files;
          total_within = omega (arith, within, quota);
          durable = each (λ g. size_blocks new.kept.tree g ≤ charge_of new.charges g) f.0
              (omega (arith, blocks-here))
              (λ g differs. omega (arith, blocks-other g differs, charge-other g differs, is.charged.durable g));
          present = each (λ g. blocks_of (size_in new.present.sizes.items g) ≤ charge_of new.charges g) f.0
              (omega (arith, ap (λ (p : PresentSize). blocks_of p.size) size-here))
              (λ g differs. omega (arith, ap (λ (p : PresentSize). blocks_of p.size) (size-other g differs), charge-other g differs, is.charged.present g));
        }

    are-empty : AreUnusedEmpty new.kept.tree new.present.sizes.items new.charges
    are-empty = record {
      size = each (λ g. slot new.kept.tree.files g ≡ None → size_in new.present.sizes.items g ≡ 0) f.0
          (λ gone. ap (λ (p : PresentSize). p.size) size-here)
          (λ g differs gone. ap (λ (p : PresentSize). p.size) (size-other g differs) ∙ is.unused.size g (sym (slot-other g differs) ∙ gone));
      changes = each (λ g. slot new.kept.tree.files g ≡ None → changes_in new.present.sizes.items g ≡ 0) f.0
          (λ gone. ap (λ (p : PresentSize). p.changes) size-here)
          (λ g differs gone. ap (λ (p : PresentSize). p.changes) (size-other g differs) ∙ is.unused.changes g (sym (slot-other g differs) ∙ gone));
      charge = each (λ g. slot new.kept.tree.files g ≡ None → charge_of new.charges g ≡ 0) f.0
          (λ gone. charge-here)
          (λ g differs gone. charge-other g differs ∙ is.unused.charge g (sym (slot-other g differs) ∙ gone));
    }

    -- all that is kept is in step
    pub state-removed : IsState V row at e new
    state-removed = record {
      in_step = step;
      present = present;
      used = are-used;
      apart = are-apart;
      zeros = zero-behind;
      charged = are-charged;
      unused = are-empty;
      buffers = buffers ∙ is.buffers;
      body = body ∙ is.body;
      tail = ap (λ v. v.items) tail ∙ is.tail;
    }
