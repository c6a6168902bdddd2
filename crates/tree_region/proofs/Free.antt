-- A block that is free is none of those that the files have, and a region stays in step when it is marked as used.
use Rattle.std.proofs.Common.{◌≡◌, ℕ, ◌-◌, ◌≤◌, Bool, true, false, ◌||◌, ◌==◌, List, [], length, sym, ap, subst, ◌∙◌, length-set}
use Rattle.std.proofs.lemmas.Bool.{false≢true}
use Rattle.std.specs.Prelude.{slice_index_or}
use Rattle.apex_types.specs.declared.rows.TreeRow.{TreeRow}
use Rattle.rig_core.specs.Outside.{Outside}
use Rattle.block_quota.specs.Blocks.{is_used, with_mark}
use Rattle.tree_region.specs.Numbers.{HasNumbers}
use Rattle.tree_region.specs.Region.{StandsFor}
use Rattle.tree_region.specs.declared.region.TreeRegion.{TreeRegion}
use Rattle.tree_region.specs.declared.table.BlockTable.{BlockTable}
use Rattle.tree_region.proofs.MarkedTables.{mark-is}
use Rattle.tree_region.specs.InStep.{InStep, AreOthers}

-- what is free is no number of a file
pub free-others : (row : TreeRow) (table : BlockTable) (number : ℕ) → HasNumbers row table → 1 ≤ number → is_used table.used number ≡ false → AreOthers number table.files.items
free-others row table number has one free f k same =
    false≢true (sym free ∙ ap (is_used table.used) (sym same) ∙ has.numbers f k (subst (λ n. 1 ≤ n) (sym same) one))

-- ---- one more mark

stays : (a b : Bool) → a ≡ true → (a || b) ≡ true
stays true b h = h
stays false b h = absurd (false≢true h)

module _ (used : List Bool) (number : ℕ) (one : 1 ≤ number) (within : number ≤ length used) where
  -- what is used is used with one more mark
  still-used : (n : ℕ) → 1 ≤ n → is_used used n ≡ true → is_used (with_mark used number true) n ≡ true
  still-used n some is = mark-is used number n one within some ∙ stays (is_used used n) (number == n) is

module _ (kept : TreeRegion) (number : ℕ) where
  -- what is kept, with one more block marked as used
  abbrev pub marked : TreeRegion
  marked = record { slots = kept.slots; version = kept.version; journal = kept.journal; tree = kept.tree; table = record { files = kept.table.files; used = with_mark kept.table.used number true } }

  module _ (row : TreeRow) (one : 1 ≤ number) (within : number ≤ length kept.table.used) where
    numbers-marked : HasNumbers row kept.table → HasNumbers row marked.table
    numbers-marked has = record {
      marks = length-set kept.table.used (number - 1) true ∙ has.marks;
      within = has.within;
      numbers = λ f k some. still-used kept.table.used number one within (slice_index_or (slice_index_or kept.table.files.items f []) k 0) some (has.numbers f k some);
    }

    module _ (at : ℕ) where
      stands-marked : (image : List ℕ) → StandsFor row at image kept → StandsFor row at image marked
      stands-marked image stands = record {
        tree = stands.tree;
        newest = stands.newest;
        is_newest = stands.is_newest;
        spells = stands.spells;
        slots = stands.slots;
        version = stands.version;
        first = stands.first;
        held = stands.held;
        room = stands.room;
        known = stands.known;
        has_room = stands.has_room;
      }

      -- the region stays in step
      pub step-marked : (V : Type 0) (o : Outside) → InStep V row at o kept → InStep V row at o marked
      step-marked V o step = record {
        within = record { place = step.within.place; from = step.within.from; to = step.within.to; few = step.within.few };
        limits = record { files = step.limits.files; directories = step.limits.directories; table = step.limits.table; rooms = step.limits.rooms };
        numbers = numbers-marked step.numbers;
        good = step.good;
        stands = λ shown. stands-marked o.view (step.stands shown);
        settled = step.settled;
        named = step.named;
        same_tree = step.same_tree;
      }
