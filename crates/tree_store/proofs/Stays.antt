-- A stored tree stays in step, and holds what it held, while its region stays.
use Rattle.std.proofs.Common.{◌≡◌, ℕ, ◌+◌, ◌*◌, ◌≤◌, List, [], length, refl, sym, ap, subst, ◌∙◌, arith}
use Rattle.std.specs.Prelude.{slice_index_or}
use Rattle.apex_types.specs.declared.rows.TreeRow.{TreeRow}
use Rattle.apex_model.specs.Image.{data_block, tree_of_region}
use Rattle.apex_model.specs.Layout.{slot_blocks, tree_blocks}
use Rattle.rig_core.specs.Bytes.{byte, part, SameWithin}
use Rattle.rig_core.specs.Leaves.{SpeaksOf}
use Rattle.rig_core.specs.Outside.{Outside, Sound}
use Rattle.rig_core.proofs.Put.{part_same}
use Rattle.present_files.specs.Present.{content_of}
use Rattle.tree_region.specs.InStep.{InStep, SameNamed, data_at, slots_long}
use Rattle.tree_region.proofs.Beside.{stands-same}
use Rattle.tree_region.specs.Region.{region_at, data_of, tree_over}
use Rattle.tree_state.specs.State.{IsState}
use Rattle.rig_core.specs.Runs.{StaysWithin, SpeaksOfBoth}
use Rattle.rig_core.proofs.Beside.{both_stay, settled_stays, stays_part, within_part}
use Rattle.store_model.specs.Betweens.{TreeSite, IsTreeAt, tree_long}
use Rattle.store_model.specs.Stores.{StoreValue, kept_at, durable_of}
use Rattle.apex_model.specs.Durable.{StoredFile}
use Rattle.apex_model.specs.Trees.{Tree}
use Rattle.std.proofs.Common.{Some}
use Rattle.tree_store.specs.Stored.{row_of, start_of, site_of, content_over, durable_over, IsStored, Holds}
use Rattle.tree_store.specs.declared.store.TreeStore.{TreeStore}

-- ---- what a region has is told by its bytes

pub region_told : (row : TreeRow) (at : ℕ) (a b : List ℕ) → length b ≡ length a → SameWithin at (512 * tree_blocks row) a b → region_at row at b ≡ region_at row at a
region_told row at a b long same = part_same at (512 * tree_blocks row) b a long same.within

pub speaks-region : (row : TreeRow) (at : ℕ) (Q : List ℕ → Type 0) → SpeaksOf at (512 * tree_blocks row) (λ image. Q (region_at row at image))
speaks-region row at Q = record { told_by = λ a b long same has. subst Q (sym (region_told row at a b long same)) has }

pub speaks-regions : (row : TreeRow) (at : ℕ) (Q : List ℕ → List ℕ → Type 0) → SpeaksOfBoth at (512 * tree_blocks row) (λ view image. Q (region_at row at view) (region_at row at image))
speaks-regions row at Q = record {
  told_by = λ view new_view image new_image long shown long' same has.
      subst (λ (r : List ℕ). Q r (region_at row at new_image)) (sym (region_told row at view new_view long shown))
      (subst (λ (r : List ℕ). Q (region_at row at view) r) (sym (region_told row at image new_image long' same)) has);
}

-- a region that stands for a tree
pub tree_speaks : (site : TreeSite) (tree : Tree StoredFile) → SpeaksOf site.1 (tree_long site) (IsTreeAt site tree)
tree_speaks site tree = speaks-region site.0 site.1 (λ region. tree_of_region site.0 region ≡ Some tree)

slots-within : (a b : ℕ) → 512 * (2 * a) ≤ 512 * (2 * a + 2 * b)
slots-within a b = omega arith

module _ (V K : Type 0) (o e : Outside) (sound : Sound V K o) (sound_after : Sound V K e) (s : TreeStore) (stored : IsStored V o s) (stays : StaysWithin V (start_of s) (tree_long (site_of s)) o e) where
  -- its bytes in the view are as they were
  data-same : V → data_at (row_of s) (start_of s) e.view ≡ data_at (row_of s) (start_of s) o.view
  data-same tells = let same = stays.view tells in ap (data_of (row_of s)) (region_told (row_of s) (start_of s) o.view e.view same.0 same.1)

  slots-stay : StaysWithin V (start_of s) (slots_long (row_of s)) o e
  slots-stay = stays_part V (start_of s) (tree_long (site_of s)) (start_of s) (slots_long (row_of s)) o e (omega arith)
      (let long = slots-within (slot_blocks (row_of s)) (row_of s).quota in omega (arith, long)) stays

  step-stays : InStep V (row_of s) (start_of s) e s.state.kept
  step-stays = let step = stored.state.in_step in record {
    within = step.within;
    limits = step.limits;
    numbers = step.numbers;
    good = step.good;
    stands = λ tells.
        let same = stays.view tells in
        let fits = stored.fits in
        let fills = sound.view_fills tells in
        stands-same (row_of s) (start_of s) s.state.kept o.view e.view same.0 (omega (arith, fits, fills)) ((slots-stay.view tells).1)
        (λ f k. ap (λ (blocks : List ℕ). data_block blocks (slice_index_or (slice_index_or s.state.kept.table.files.items f []) k 0)) (data-same tells)) step.within.place (step.stands tells);
    settled = settled_stays V K (start_of s) (slots_long (row_of s)) o e sound_after slots-stay step.settled;
    named = both_stay V K (start_of s) (tree_long (site_of s)) (λ view image. SameNamed s.state.kept.table.files.items (data_at (row_of s) (start_of s) view) (data_at (row_of s) (start_of s) image)) o e sound_after
        (speaks-regions (row_of s) (start_of s) (λ u r. SameNamed s.state.kept.table.files.items (data_of (row_of s) u) (data_of (row_of s) r))) stays step.named;
    same_tree = both_stay V K (start_of s) (tree_long (site_of s)) (λ view image. tree_of_region (row_of s) (region_at (row_of s) (start_of s) image) ≡ tree_of_region (row_of s) (region_at (row_of s) (start_of s) view)) o e sound_after
        (speaks-regions (row_of s) (start_of s) (λ u r. tree_of_region (row_of s) r ≡ tree_of_region (row_of s) u)) stays step.same_tree;
  }

  pub stored_stays : IsStored V e s
  stored_stays = record {
    fits = let size = stays.size in let fits = stored.fits in omega (arith, fits, size);
    buffers = stored.buffers;
    names = stored.names;
    spelled = stored.spelled;
    state = let was = stored.state in record {
      in_step = step-stays;
      present = was.present;
      used = was.used;
      apart = was.apart;
      zeros = was.zeros;
      charged = was.charged;
      unused = was.unused;
      buffers = was.buffers;
      body = was.body;
      tail = was.tail;
    };
  }

  pub holds_stays : (v : StoreValue) → Holds V o s v → Holds V e s v
  holds_stays v holds = record {
    sound = holds.sound;
    names = holds.names;
    sizes = holds.sizes;
    changes = holds.changes;
    charges = holds.charges;
    quota = holds.quota;
    contents = λ tells f. holds.contents tells f ∙ ap (λ (blocks : List ℕ). content_of blocks s.state.present (record { 0 = f })) (sym (data-same tells));
    durable = λ tells. holds.durable tells ∙ ap (λ (blocks : List ℕ). tree_over blocks s.state.kept.tree s.state.kept.table.files.items) (sym (data-same tells));
  }
