-- Which part of an image a data block is.
use Rattle.std.proofs.Common.{◌≡◌, ℕ, ◌+◌, ◌-◌, ◌*◌, ◌≤◌, ◌==◌, List, length, take, drop, replicate, sym, ap, ◌∙◌, inl, inr, arith}
use Rattle.std.proofs.lemmas.Bool.{ne_eqb, eq-eqb, cond-false, cond-true, cases_eq}
use Rattle.std.proofs.lemmas.List.{drop-drop, drop-take, take-take, take-replicate, drop-replicate, length-replicate}
use Rattle.apex_types.specs.declared.rows.TreeRow.{TreeRow}
use Rattle.apex_model.specs.Image.{data_block}
use Rattle.apex_model.specs.Layout.{tree_blocks}
use Rattle.rig_core.specs.Bytes.{part}
use Rattle.rig_core.proofs.Put.{length-part}
use Rattle.tree_region.specs.InStep.{block_place, data_at, slots_long}
use Rattle.tree_region.proofs.ChangePlaces.{data-part}

pub part-part : (a n b m : ℕ) (image : List ℕ) → b + m ≤ n → part b m (part a n image) ≡ part (a + b) m image
part-part a n b m image fits =
    let split : n ≡ b + (n - b) = omega arith in
    ap (λ (l : ℕ). take m (drop b (take l (drop a image)))) split
    ∙ ap (take m) (drop-take b (n - b) (drop a image))
    ∙ take-take m (n - b) (drop b (drop a image)) (omega arith)
    ∙ ap (take m) (drop-drop b a image)

module _ (row : TreeRow) (at number : ℕ) (img : List ℕ) where
  stored-block : 1 ≤ number → data_block (data_at row at img) number ≡ part (512 * (number - 1)) 512 (data_at row at img)
  stored-block some = cond-false (number == 0) (replicate 512 0) (part (512 * (number - 1)) 512 (data_at row at img)) (ne_eqb number 0 (λ e. omega arith))

  -- a part of a block
  pub block-part : (from count : ℕ) → 1 ≤ number → number ≤ 2 * row.quota → from + count ≤ 512
      → part (block_place row at number + from) count img ≡ part from count (data_block (data_at row at img) number)
  block-part from count some most fits =
      let place : at + slots_long row + (512 * (number - 1) + from) ≡ block_place row at number + from = omega arith in
      sym (ap (part from count) (stored-block some)
      ∙ part-part (512 * (number - 1)) 512 from count (data_at row at img) fits
      ∙ ap (part (512 * (number - 1) + from) count) (data-part row at img)
      ∙ part-part (at + slots_long row) (1024 * row.quota) (512 * (number - 1) + from) count img (omega arith)
      ∙ ap (λ (p : ℕ). part p count img) place)

  zero-block : number ≡ 0 → data_block (data_at row at img) number ≡ replicate 512 0
  zero-block none = cond-true (number == 0) (replicate 512 0) (part (512 * (number - 1)) 512 (data_at row at img)) (eq-eqb number 0 none)

  pub zero-part : (from count : ℕ) → number ≡ 0 → from + count ≤ 512 → replicate count 0 ≡ part from count (data_block (data_at row at img) number)
  zero-part from count none fits =
      sym (ap (part from count) (zero-block none) ∙ ap (take count) (drop-replicate from 512 0) ∙ take-replicate count (512 - from) 0 (omega arith))

  -- each block has 512 bytes
  pub block-long : at + 512 * tree_blocks row ≤ length img → number ≤ 2 * row.quota → length (data_block (data_at row at img) number) ≡ 512
  block-long fits most =
      elim (cases_eq number 0) [
        | inl none ↦ ap (λ (xs : List ℕ). length xs) (zero-block none) ∙ length-replicate {A = ℕ} 512 0
        | inr some ↦
            let one : 1 ≤ number = omega arith in
            let long : length (data_at row at img) ≡ 1024 * row.quota = ap (λ (xs : List ℕ). length xs) (data-part row at img) ∙ length-part (at + slots_long row) (1024 * row.quota) img (omega arith) in
            ap (λ (xs : List ℕ). length xs) (stored-block one) ∙ length-part (512 * (number - 1)) 512 (data_at row at img) (omega (arith, long))
      ]
