-- All that is kept stays in step where names change alone.
use Rattle.std.proofs.Common.{◌≡◌, ◌⊎◌, inl, ℕ, ◌≤◌, List, ◌++◌, length, take, drop, refl, sym, ap, subst, ◌∙◌, arith, length-append, length-drop}
use Rattle.std.proofs.lemmas.List.{length-take}
use Rattle.apex_types.specs.declared.rows.TreeRow.{TreeRow}
use Rattle.apex_model.specs.Durable.{StoredFile}
use Rattle.apex_model.specs.Files.{blocks_of}
use Rattle.apex_model.specs.Trees.{Tree}
use Rattle.block_pool.specs.Lists.{node_count}
use Rattle.block_quota.specs.Quota.{ChargesValue, charge_of, total}
use Rattle.tree_region.specs.OwnedRows.{AreApart, AreNamedUsed, number_at}
use Rattle.present_files.specs.Present.{IsPresent, content_of, size_in, changes_in}
use Rattle.present_files.specs.declared.present.Present.{Present}
use Rattle.rig_core.specs.Bytes.{SameElsewhere}
use Rattle.rig_core.specs.Leaves.{FromNow}
use Rattle.rig_core.specs.Outside.{Outside}
use Rattle.rig_core.proofs.Moments.{elsewhere_same, leaves_none}
use Rattle.tree_region.specs.InStep.{InStep, data_at, slots_long}
use Rattle.tree_region.proofs.ChangePlaces.{data-same}
use Rattle.tree_region.specs.GoodNumbers.{size_blocks}
use Rattle.tree_region.specs.declared.table.BlockTable.{BlockTable}
use Rattle.tree_state.specs.State.{IsState}
use Rattle.tree_state.specs.Stored.{IsTreeOf, SameContents, durable_tree}
use Rattle.tree_state.specs.declared.state.TreeState.{TreeState}
use Rattle.tree_state.specs.Entries.{KeepsEntries}
use Rattle.tree_state.specs.Names.{ChangesTree}

-- data blocks stay where only slots change
pub data-stays : (row : TreeRow) (at : ℕ) (a b : List ℕ) → SameElsewhere at (slots_long row) a b → data_at row at b ≡ data_at row at a
data-stays row at a b same = data-same row at a b same.long (λ k far. same.above k (omega (arith, far)))

-- and so do contents
pub contents-stay : (row : TreeRow) (at : ℕ) (a b : List ℕ) (old new : TreeState) → data_at row at b ≡ data_at row at a → new.present ≡ old.present → SameContents row at a b old new
contents-stay row at a b old new same present f = λ i. content_of (same i) (present i) f

-- room that was lent is as long as before
pub lent-long : (len : ℕ) (lent old now : List ℕ) → lent ≡ old → length lent ≡ len → length now ≡ length lent → length (take len (now ++ drop (length now) old)) ≡ length old
lent-long len lent old now same whole long =
    omega (arith, length-take len (now ++ drop (length now) old), length-append now (drop (length now) old), length-drop (length now) old, ap (λ (xs : List ℕ). length xs) same, whole, long)

module _ (V : Type 0) (row : TreeRow) (at : ℕ) (o : Outside) (s : TreeState) (is : IsState V row at o s) where
  -- names change, and of the files' entries the same is stored
  module _ (e : Outside) (new : TreeState) (step : InStep V row at e new.kept) (table : new.kept.table ≡ s.kept.table) (keeps : KeepsEntries s.kept.tree new.kept.tree)
      (present : new.present ≡ s.present) (charges : new.charges ≡ s.charges) (body : length new.body.items ≡ length s.body.items) (tail : new.tail ≡ s.tail) where
    blocks-kept : (f : ℕ) → size_blocks new.kept.tree f ≡ size_blocks s.kept.tree f
    blocks-kept f = ap (λ (p : ℕ × ℕ). blocks_of p.0) (keeps.stored f)

    pub state-changed : IsState V row at e new
    state-changed = record {
      in_step = step;
      present = subst (λ (p : Present). IsPresent row p) (sym present) is.present;
      used = subst (λ (p : Present). AreNamedUsed new.kept.table.used p.numbers.items) (sym present)
          (subst (λ (t : BlockTable). AreNamedUsed t.used s.present.numbers.items) (sym table) is.used);
      apart = subst (λ (p : Present). AreApart new.kept.table.files.items p.numbers.items) (sym present)
          (subst (λ (t : BlockTable). AreApart t.files.items s.present.numbers.items) (sym table) is.apart);
      zeros = λ f k behind. ap (λ (t : BlockTable). number_at t.files.items f k) table ∙ is.zeros f k (omega (arith, behind, blocks-kept f));
      charged = record {
        quota = ap (λ (c : ChargesValue). c.quota) charges ∙ is.charged.quota;
        files = ap (λ (c : ChargesValue). length c.by_file) charges ∙ is.charged.files;
        total_within = subst (λ (c : ChargesValue). total c ≤ row.quota) (sym charges) is.charged.total_within;
        durable = λ f. let same = ap (λ (c : ChargesValue). charge_of c f) charges in omega (arith, is.charged.durable f, blocks-kept f, same);
        present = λ f. subst (λ (c : ChargesValue). blocks_of (size_in new.present.sizes.items f) ≤ charge_of c f) (sym charges)
            (subst (λ (p : Present). blocks_of (size_in p.sizes.items f) ≤ charge_of s.charges f) (sym present) (is.charged.present f));
      };
      unused = record {
        size = λ f none. ap (λ (p : Present). size_in p.sizes.items f) present ∙ is.unused.size f (keeps.unused f none);
        changes = λ f none. ap (λ (p : Present). changes_in p.sizes.items f) present ∙ is.unused.changes f (keeps.unused f none);
        charge = λ f none. ap (λ (c : ChargesValue). charge_of c f) charges ∙ is.unused.charge f (keeps.unused f none);
      };
      buffers = ap (λ (p : Present). node_count p.pool.lists) present ∙ is.buffers;
      body = body ∙ is.body;
      tail = ap (λ v. v.items) tail ∙ is.tail;
    }

  -- no call is made
  pub nothing-changed : (after : Tree StoredFile) → ChangesTree V row at (durable_tree row at o.view s) after o o
  nothing-changed after = record {
    any_moment = λ shown. leaves_none (λ image. IsTreeOf row at (durable_tree row at o.view s) image ⊎ IsTreeOf row at after image) o
        (λ image told now. inl (is.in_step.same_tree image told now ∙ (is.in_step.stands shown).tree));
    shown = λ shown. inl (is.in_step.stands shown).tree;
    outside = leaves_none (FromNow at (slots_long row) o) o (λ image told now. (image, told, now, elsewhere_same at (slots_long row) image));
    outside_view = λ shown. elsewhere_same at (slots_long row) o.view;
    later = record { size = refl; clock = omega arith; read_faults = omega arith; write_faults = omega arith; tell_faults = omega arith };
    made = record { writes = omega arith; syncs = omega arith; tells = omega arith };
  }
