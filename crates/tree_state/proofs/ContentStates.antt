-- All that is kept of a stored tree stays in step where only reads are made and present contents change.
use Rattle.std.proofs.Common.{◌≡◌, ◌≢◌, ◌⊎◌, inl, inr, ℕ, ◌<◌, ◌≤◌, Bool, true, false, List, length, nat_le, refl, sym, ap, subst, ◌∙◌, arith, get_or-set_same}
use Rattle.std.proofs.lemmas.Bool.{cases_eq, cases_lt, false≢true}
use Rattle.std.proofs.lemmas.Bool.Decides.{nat_tests}
use Rattle.std.specs.Bool.{OnTrue}
use Rattle.std.specs.Prelude.{IsSome, slice_set}
use Rattle.apex_types.specs.declared.numbers.FileNode.{FileNode}
use Rattle.apex_types.specs.declared.rows.TreeRow.{TreeRow}
use Rattle.apex_model.specs.Files.{blocks_of}
use Rattle.block_pool.specs.Buffers.{Buffers, AreBuffers}
use Rattle.block_pool.specs.Lists.{node_count}
use Rattle.block_quota.specs.Blocks.{is_used}
use Rattle.block_quota.specs.Quota.{ChargesValue, raised_to, total}
use Rattle.file_tree.specs.Entries.{slot}
use Rattle.file_tree.proofs.Changes.{slot-within}
use Rattle.tree_region.specs.OwnedRows.{AreApart, AreNamedUsed, number_at}
use Rattle.present_files.specs.Present.{IsPresent, never_changed, number_of, size_in}
use Rattle.present_files.specs.declared.present.Present.{Present}
use Rattle.present_files.specs.declared.present.PresentSize.{PresentSize}
use Rattle.rig_core.specs.Outside.{Outside, OnlyReads, Sound}
use Rattle.tree_state.specs.State.{AreCharged, AreUnusedEmpty, IsState}
use Rattle.tree_state.specs.declared.state.TreeState.{TreeState}
use Rattle.tree_state.proofs.AfterReads.{step-after-reads}
use Rattle.tree_state.proofs.Fresh.{apart-fewer}
use Rattle.tree_state.proofs.ContentCharges.{charged-now, unused-now}

-- a present number is as it was, or 0
abbrev pub AreFewerNumbers : List (List ℕ) → List (List ℕ) → Type 0
AreFewerNumbers old new = (f k : ℕ) → (number_at new f k ≡ number_at old f k) ⊎ (number_at new f k ≡ 0)

-- as many buffers, where there are as many contents
pub as-many : (b c : Buffers) → AreBuffers b → AreBuffers c → length c.contents ≡ length b.contents → node_count c.lists ≡ node_count b.lists
as-many b c before after same = omega (arith, before.contents_length, after.contents_length, same)

-- a file is resized: its numbers up to its last block stay, and are 0 behind it
pub fewer-resized : (row : TreeRow) (old now : Present) (f : FileNode) (size changes : ℕ) → f.0 < row.files → IsPresent row now → length old.sizes.items ≡ row.files
    → now.sizes.items ≡ slice_set old.sizes.items f.0 (record { size = size; changes = changes })
    → ((k : ℕ) → k < blocks_of size → number_of now f k ≡ number_of old f k) → ((g : FileNode) (k : ℕ) → g.0 ≢ f.0 → number_of now g k ≡ number_of old g k) → AreFewerNumbers old.numbers.items now.numbers.items
fewer-resized row old now f size changes file held long sizes kept others =
    let size_is : size_in now.sizes.items f.0 ≡ size
    = ap (λ (list : List PresentSize). size_in list f.0) sizes ∙ ap (λ (p : PresentSize). p.size) (get_or-set_same old.sizes.items f.0 (record { size = size; changes = changes }) never_changed (omega (arith, file, long))) in
    λ g k. elim (cases_eq g f.0) [
      | inl is ↦ elim (cases_lt k (blocks_of size)) [
        | inl below ↦ inl (ap (λ h. number_at now.numbers.items h k) is ∙ kept k below ∙ ap (λ h. number_at old.numbers.items h k) (sym is))
        | inr past ↦ inr (ap (λ h. number_at now.numbers.items h k) is ∙ held.behind f.0 k file (omega (arith, past, size_is)))
      ]
      | inr other ↦ inl (others (record { 0 = g }) k other)
    ]

-- a charge that the quota has room for is raised
fits-test : (n m : ℕ) → n ≤ m → nat_le n m ≡ true
fits-test n m h = grind (arith, nat_tests)

pub raised-charges : (charges now : ChargesValue) (f blocks size : ℕ) (done : Bool) → done ≡ nat_le (total (raised_to charges f blocks)) charges.quota → OnTrue done (now ≡ raised_to charges f blocks)
    → blocks ≡ blocks_of size → total (raised_to charges f (blocks_of size)) ≤ charges.quota → now ≡ raised_to charges f (blocks_of size)
raised-charges charges now f blocks size true room raised same fits = raised ∙ ap (raised_to charges f) same
raised-charges charges now f blocks size false room raised same fits =
    let small : total (raised_to charges f blocks) ≤ charges.quota = subst (λ n. total (raised_to charges f n) ≤ charges.quota) (sym same) fits in
    absurd (false≢true (room ∙ fits-test (total (raised_to charges f blocks)) charges.quota small))

module _ (V K : Type 0) (row : TreeRow) (at : ℕ) (o e : Outside) (sound : Sound V K e) (reads : OnlyReads V o e) (s : TreeState) (is : IsState V row at o s) where
  -- a file that is in use is one of the row's
  pub in-row : (f : ℕ) → IsSome (slot s.kept.tree.files f) → f < row.files
  in-row f used = let less = slot-within s.kept.tree.files f used in omega (arith, less, is.in_step.limits.files)

  module _ (present : Present) (charges : ChargesValue) where
    abbrev now : TreeState
    now = record { kept = s.kept; present = present; charges = charges; body = s.body; tail = s.tail }

    module _ (held : IsPresent row present) (count : node_count present.pool.lists ≡ node_count s.present.pool.lists) (fewer : AreFewerNumbers s.present.numbers.items present.numbers.items) where
      used-now : AreNamedUsed s.kept.table.used present.numbers.items
      used-now = record {
        within = λ f k. elim (fewer f k) [ inl same ↦ omega (arith, same, is.used.within f k) | inr gone ↦ omega (arith, gone) ];
        named = λ f k some. elim (fewer f k) [
          | inl same ↦ subst (λ (n : ℕ). is_used s.kept.table.used n ≡ true) (sym same) (is.used.named f k (omega (arith, some, same)))
          | inr gone ↦ absurd (let none : 1 ≤ 0 = omega (arith, some, gone) in omega (arith, none))
        ];
      }

      apart-now : AreApart s.kept.table.files.items present.numbers.items
      apart-now = apart-fewer s.kept.table.files.items s.present.numbers.items s.kept.table.files.items present.numbers.items (record { present_stays = fewer; durable_stays = λ f k. inl refl }) is.apart

      -- with these charges
      pub state-now : AreCharged row s.kept.tree present.sizes.items charges → AreUnusedEmpty s.kept.tree present.sizes.items charges → IsState V row at e now
      state-now charged unused = record {
        in_step = step-after-reads V K o e sound reads row at s.kept is.in_step;
        present = held;
        used = used-now;
        apart = apart-now;
        zeros = is.zeros;
        charged = charged;
        unused = unused;
        buffers = count ∙ is.buffers;
        body = is.body;
        tail = is.tail;
      }

      -- where one file has another size and is charged for it
      pub state-changed : (f0 size changes : ℕ) → IsSome (slot s.kept.tree.files f0) → total (raised_to s.charges f0 (blocks_of size)) ≤ s.charges.quota
          → present.sizes.items ≡ slice_set s.present.sizes.items f0 (record { size = size; changes = changes }) → charges ≡ raised_to s.charges f0 (blocks_of size) → IsState V row at e now
      state-changed f0 size changes used room sizes_are charges_are =
          let file = in-row f0 used in
          let sizes : List PresentSize = slice_set s.present.sizes.items f0 (record { size = size; changes = changes }) in
          let raised : ChargesValue = raised_to s.charges f0 (blocks_of size) in
          state-now
          (subst (λ (list : List PresentSize). AreCharged row s.kept.tree list charges) (sym sizes_are)
          (subst (λ (c : ChargesValue). AreCharged row s.kept.tree sizes c) (sym charges_are)
          (charged-now row s.kept.tree s.present.sizes.items s.charges is.charged f0 size file room changes)))
          (subst (λ (list : List PresentSize). AreUnusedEmpty s.kept.tree list charges) (sym sizes_are)
          (subst (λ (c : ChargesValue). AreUnusedEmpty s.kept.tree sizes c) (sym charges_are)
          (unused-now row s.kept.tree s.present.sizes.items s.charges is.charged f0 size file room changes used is.unused)))

    -- where sizes, numbers and charges are as before
    pub state-kept : IsPresent row present → node_count present.pool.lists ≡ node_count s.present.pool.lists → present.sizes ≡ s.present.sizes → present.numbers ≡ s.present.numbers → charges ≡ s.charges → IsState V row at e now
    state-kept held count sizes numbers charges_are =
        state-now held count (λ f k. inl (ap (λ (rows : _). number_at rows.items f k) numbers))
        (subst (λ (c : ChargesValue). AreCharged row s.kept.tree present.sizes.items c) (sym charges_are) (subst (λ (list : _). AreCharged row s.kept.tree list.items s.charges) (sym sizes) is.charged))
        (subst (λ (c : ChargesValue). AreUnusedEmpty s.kept.tree present.sizes.items c) (sym charges_are) (subst (λ (list : _). AreUnusedEmpty s.kept.tree list.items s.charges) (sym sizes) is.unused))
