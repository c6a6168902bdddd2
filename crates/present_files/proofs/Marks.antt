-- A region stays in step with what is kept of it while its used blocks are marked in another way.
use Rattle.std.proofs.Common.{◌≡◌, ℕ, List, subst, sym, ◌∙◌, arith}
use Rattle.apex_types.specs.declared.rows.TreeRow.{TreeRow}
use Rattle.tree_region.specs.OwnedRows.{AreNamedUsed}
use Rattle.rig_core.specs.Outside.{Outside}
use Rattle.tree_region.specs.InStep.{InStep}
use Rattle.tree_region.specs.Numbers.{HasNumbers}
use Rattle.tree_region.specs.Region.{StandsFor}
use Rattle.tree_region.specs.declared.region.TreeRegion.{TreeRegion}
use Rattle.tree_region.specs.declared.table.BlockTable.{BlockTable}
use Rattle.present_files.specs.Durable.{KeepsDurable}

-- the blocks that a table's numbers name are used
pub durable-used : (row : TreeRow) (table : BlockTable) → HasNumbers row table → AreNamedUsed table.used table.files.items
durable-used row table has = record {
  within = λ f k. let all = has.within f k in omega (arith, all, has.marks);
  named = has.numbers;
}

module _ (old new : TreeRegion) (keeps : KeepsDurable old new) where
  -- what is kept, by the parts that stay
  abbrev changed : TreeRegion
  changed = record { slots = old.slots; version = old.version; journal = old.journal; tree = old.tree; table = record { files = old.table.files; used = new.table.used } }

  is-changed : new ≡ changed
  is-changed = λ i. record {
    slots = keeps.slots i;
    version = keeps.version i;
    journal = keeps.journal i;
    tree = keeps.tree i;
    table = record { files = keeps.files i; used = new.table.used };
  }

  module _ (row : TreeRow) (at : ℕ) where
    stands-changed : (image : List ℕ) → StandsFor row at image old → StandsFor row at image changed
    stands-changed image stands = record {
      tree = stands.tree;
      newest = stands.newest;
      is_newest = stands.is_newest;
      spells = stands.spells;
      slots = stands.slots;
      version = stands.version;
      first = stands.first;
      held = stands.held;
      room = stands.room;
      known = stands.known;
      has_room = stands.has_room;
    }

    step-changed : (V : Type 0) (o : Outside) → AreNamedUsed new.table.used old.table.files.items → InStep V row at o old → InStep V row at o changed
    step-changed V o used step = record {
      within = record { place = step.within.place; from = step.within.from; to = step.within.to; few = step.within.few };
      limits = record { files = step.limits.files; directories = step.limits.directories; table = step.limits.table; rooms = step.limits.rooms };
      numbers = record { marks = keeps.marks ∙ step.numbers.marks; within = step.numbers.within; numbers = used.named };
      good = step.good;
      stands = λ shown. stands-changed o.view (step.stands shown);
      settled = step.settled;
      named = step.named;
      same_tree = step.same_tree;
    }

    -- the region stays in step
    pub step-kept : (V : Type 0) (o : Outside) → AreNamedUsed new.table.used old.table.files.items → InStep V row at o old → InStep V row at o new
    step-kept V o used step = subst (λ (kept : TreeRegion). InStep V row at o kept) (sym is-changed) (step-changed V o used step)
