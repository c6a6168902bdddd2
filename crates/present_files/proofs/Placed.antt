-- The data blocks of a region, once one of them was written.
use Rattle.std.proofs.Common.{◌≡◌, ◌≢◌, ℕ, ◌+◌, ◌*◌, ◌≤◌, List, length, Result, Ok, Err, sym, ap, ◌∙◌, arith}
use Rattle.std.specs.Prelude.{OnOk}
use Rattle.std.proofs.lemmas.List.{take_all}
use Rattle.apex_types.specs.declared.rows.TreeRow.{TreeRow}
use Rattle.apex_model.specs.Image.{data_block, tree_of_region}
use Rattle.apex_model.specs.Layout.{tree_blocks}
use Rattle.rig_core.specs.Bytes.{part, SameElsewhere}
use Rattle.rig_core.specs.Outside.{Outside, Sound}
use Rattle.tree_region.proofs.Beside.{block-same, named-same, slots-same, tree-same}
use Rattle.tree_region.specs.InStep.{InStep, AreOthers, block_place, data_at}
use Rattle.tree_region.specs.Region.{region_at}
use Rattle.tree_region.specs.declared.region.TreeRegion.{TreeRegion}
use Rattle.present_files.proofs.DataBlocks.{block-part, block-long}

-- the block that was written has its bytes
pub written-block : (row : TreeRow) (at number : ℕ) (img bytes : List ℕ) → at + 512 * tree_blocks row ≤ length img → 1 ≤ number → number ≤ 2 * row.quota
    → part (block_place row at number) 512 img ≡ bytes → data_block (data_at row at img) number ≡ bytes
written-block row at number img bytes fits first last there =
    let place : block_place row at number ≡ block_place row at number + 0 = omega arith in
    let long = block-long row at number img fits last in
    sym (take_all 512 (data_block (data_at row at img) number) (omega (arith, long)))
    ∙ sym (block-part row at number img 0 512 first last (omega arith))
    ∙ ap (λ (p : ℕ). part p 512 img) (sym place) ∙ there

-- and the others have theirs
pub other-blocks : (V K : Type 0) (row : TreeRow) (at number : ℕ) (o e : Outside) → Sound V K o → Sound V K e → e.size ≡ o.size → at + 512 * tree_blocks row ≤ o.size → 1 ≤ number → V
    → SameElsewhere (block_place row at number) 512 o.view e.view → (n : ℕ) → n ≢ number → data_block (data_at row at e.view) n ≡ data_block (data_at row at o.view) n
other-blocks V K row at number o e sound sound_after size fits first shown same n other =
    let now = sound_after.view_fills shown in
    let was = sound.view_fills shown in
    block-same row at number first o.view e.view (now ∙ size ∙ sym was) (omega (arith, fits, was)) same n other

-- so the region stands for the same tree
pub tree-stays : (V K : Type 0) (row : TreeRow) (at number : ℕ) (kept : TreeRegion) (o e : Outside) → Sound V K o → Sound V K e → e.size ≡ o.size → at + 512 * tree_blocks row ≤ o.size → 1 ≤ number → AreOthers number kept.table.files.items
    → InStep V row at o kept → V → SameElsewhere (block_place row at number) 512 o.view e.view → tree_of_region row (region_at row at e.view) ≡ tree_of_region row (region_at row at o.view)
tree-stays V K row at number kept o e sound sound_after size fits first others step shown same =
    let now = sound_after.view_fills shown in
    let was = sound.view_fills shown in
    let long : length e.view ≡ length o.view = now ∙ size ∙ sym was in
    let room : at + 512 * tree_blocks row ≤ length o.view = omega (arith, fits, was) in
    tree-same row at kept o.view e.view long room (slots-same row at number first o.view e.view long room same) (named-same row at number first o.view e.view long room same kept.table.files.items others) step.within.place (step.stands shown)

-- what follows from a fact follows where it is one at Ok
pub on-ok : {T E : Type 0} (P Q : Type 0) (r : Result T E) → (P → Q) → OnOk r P → OnOk r Q
on-ok P Q (Ok x) follows there = follows there
on-ok P Q (Err x) follows there = there
