-- Writes into data blocks that are not named, one behind another, and in the place of a region within an image.
use Rattle.std.proofs.Common.{◌≡◌, ◌≢◌, ℕ, ◌+◌, ◌*◌, ◌<◌, ◌≤◌, List, length, refl, sym, ◌∙◌, subst, arith, inl, inr}
use Rattle.std.proofs.lemmas.Bool.{cases_eq, cases_lt}
use Rattle.std.proofs.lemmas.List.{get_or_past}
use Rattle.std.specs.Prelude.{slice_index, Contains}
use Rattle.apex_types.specs.declared.rows.TreeRow.{TreeRow}
use Rattle.apex_model.specs.Fields.{part}
use Rattle.apex_model.specs.Layout.{slot_blocks, tree_blocks}
use Rattle.image_laws.specs.NamedBlocks.{named_blocks, data_start, SameButUnnamed}
use Rattle.image_laws.proofs.UnnamedBlocks.{names_same}
use Rattle.image_laws.proofs.Zeros.{byte-part, length-part}

pub unnamed_none : (row : TreeRow) (region : List ℕ) → SameButUnnamed row region region
unnamed_none row region = record { long = refl; slots = λ k low. refl; named = λ n there some k low. refl }

-- one change behind another
pub unnamed_then : (row : TreeRow) (a b c : List ℕ) → SameButUnnamed row a b → SameButUnnamed row b c → SameButUnnamed row a c
unnamed_then row a b c first second = record {
  long = second.long ∙ first.long;
  slots = λ k low. second.slots k low ∙ first.slots k low;
  named = λ n there some k low.
      let P : List ℕ → Type 0 = λ ns. Contains ns n in
      second.named n (subst P (sym (names_same row a b first.long first.slots)) there) some k low ∙ first.named n there some k low;
}

-- A region that begins at a place of two images.
module _ (row : TreeRow) (first : ℕ) (old new : List ℕ) (fits : first + 512 * tree_blocks row ≤ length old) (long : length new ≡ length old) where
  abbrev region_of : List ℕ → List ℕ
  region_of image = part image first (512 * tree_blocks row)

  region_byte : (k : ℕ) → slice_index new (first + k) ≡ slice_index old (first + k) → slice_index (region_of new) k ≡ slice_index (region_of old) k
  region_byte k same = elim (cases_lt k (512 * tree_blocks row)) [
    | inl within ↦ byte-part new first (512 * tree_blocks row) k within ∙ same ∙ sym (byte-part old first (512 * tree_blocks row) k within)
    | inr past ↦
        get_or_past (region_of new) k 0 (omega (arith, past, fits, long, length-part new first (512 * tree_blocks row)))
        ∙ sym (get_or_past (region_of old) k 0 (omega (arith, past, fits, length-part old first (512 * tree_blocks row) fits)))
  ]

  -- by the places of the images
  pub unnamed_in_images : ((k : ℕ) → k < 512 * (2 * slot_blocks row) → slice_index new (first + k) ≡ slice_index old (first + k))
      → ((n : ℕ) → Contains (named_blocks row (region_of old)) n → n ≢ 0 → (k : ℕ) → k < 512 → slice_index new (first + (data_start row n + k)) ≡ slice_index old (first + (data_start row n + k)))
      → SameButUnnamed row (region_of old) (region_of new)
  unnamed_in_images slots named = record {
    long = length-part new first (512 * tree_blocks row) (omega (arith, fits, long)) ∙ sym (length-part old first (512 * tree_blocks row) fits);
    slots = λ k low. region_byte k (slots k low);
    named = λ n there some k low. region_byte (data_start row n + k) (named n there some k low);
  }

  -- the images differ at most in one data block, whose number is not named
  pub unnamed_written : (n : ℕ) → n ≢ 0 → (Contains (named_blocks row (region_of old)) n → ⊥)
      → ((k : ℕ) → k < first + data_start row n → slice_index new k ≡ slice_index old k)
      → ((k : ℕ) → first + data_start row n + 512 ≤ k → slice_index new k ≡ slice_index old k)
      → SameButUnnamed row (region_of old) (region_of new)
  unnamed_written n some unnamed below above =
      unnamed_in_images (λ k low. below (first + k) (omega (arith, low))) (λ m there kept k low. elim (cases_eq m n) [
        | inl same ↦ absurd (unnamed (let P : ℕ → Type 0 = λ j. Contains (named_blocks row (region_of old)) j in subst P same there))
        | inr other ↦ elim (cases_lt m n) [
          | inl before ↦ below (first + (data_start row m + k)) (omega (arith, before, low, kept, some))
          | inr behind ↦ above (first + (data_start row m + k)) (omega (arith, behind, other, low, kept, some))
        ]
      ])
