-- Sizes of files, once one of them has another.
use Rattle.std.proofs.lemmas.List.{get_or_read}
use Rattle.std.proofs.Common.{◌≡◌, ◌≢◌, ℕ, ◌<◌, ◌≤◌, List, length, set, get_or, Option, Some, None, refl, sym, ap, ◌∙◌, subst, inl, inr, arith, length-set, get_or-set_same, get_or-set_other}
use Rattle.std.specs.Prelude.{IsSome}
use Rattle.std.proofs.lemmas.Bool.{cases_eq, cases_lt}
use Rattle.apex_types.specs.declared.numbers.FileNode.{FileNode}
use Rattle.apex_types.specs.declared.rows.TreeRow.{TreeRow}
use Rattle.apex_model.specs.Files.{blocks_of}
use Rattle.block_pool.specs.Buffers.{Buffers, node_of}
use Rattle.tree_region.specs.Numbers.{most_blocks}
use Rattle.present_files.specs.Present.{ArePresent, never_changed, number_in, size_in}
use Rattle.present_files.specs.declared.present.PresentSize.{PresentSize}
use Rattle.present_files.proofs.Rooms.{same-file}

pub none-not-some : (o : Option ℕ) → o ≡ None → IsSome o → ⊥
none-not-some o none some = let no : IsSome {T = ℕ} None = subst IsSome none some in cc

module _ (sizes : List PresentSize) (f : ℕ) (known : PresentSize) (within : f < length sizes) where
  pub size-here : size_in (set sizes f known) f ≡ known.size
  size-here = ap (λ (s : PresentSize). s.size) (get_or-set_same sizes f known never_changed within)

  pub size-other : (g : ℕ) → g ≢ f → size_in (set sizes f known) g ≡ size_in sizes g
  size-other g other = ap (λ (s : PresentSize). s.size) (get_or-set_other sizes f g known never_changed other)

-- what holds of sizes, numbers and buffers
pub present-sized : (row : TreeRow) (sizes : List PresentSize) (numbers : List (List ℕ)) (b : Buffers) (f : FileNode) (known : PresentSize) → ArePresent row sizes numbers b → f.0 < row.files
    → blocks_of known.size ≤ most_blocks row → known.size ≤ 1048576 → ((k : ℕ) → blocks_of known.size ≤ k → number_in numbers f.0 k ≡ 0) → ((k : ℕ) → blocks_of known.size ≤ k → node_of b f k ≡ None)
    → ArePresent row (set sizes f.0 known) numbers b
present-sized row sizes numbers b f known are file fits short zeros none =
    let within : f.0 < length sizes = omega (arith, file, are.sizes_length) in
    let here = size-here sizes f.0 known within in
    let other = size-other sizes f.0 known within in
    record {
      sizes_length = length-set sizes f.0 known ∙ are.sizes_length;
      numbers_length = are.numbers_length;
      lists = are.lists;
      rooms = are.rooms;
      within = are.within;
      fits = λ g low. elim (cases_eq g f.0) [
        | inl same ↦ subst (λ (s : ℕ). blocks_of s ≤ most_blocks row) (sym (ap (size_in (set sizes f.0 known)) same ∙ here)) fits
        | inr differs ↦ subst (λ (s : ℕ). blocks_of s ≤ most_blocks row) (sym (other g differs)) (are.fits g low)
      ];
      short = λ g low. elim (cases_eq g f.0) [
        | inl same ↦ subst (λ (s : ℕ). s ≤ 1048576) (sym (ap (size_in (set sizes f.0 known)) same ∙ here)) short
        | inr differs ↦ subst (λ (s : ℕ). s ≤ 1048576) (sym (other g differs)) (are.short g low)
      ];
      behind = λ g k low far. elim (cases_eq g f.0) [
        | inl same ↦ ap (λ (m : ℕ). number_in numbers m k) same ∙ zeros k (subst (λ (s : ℕ). blocks_of s ≤ k) (ap (size_in (set sizes f.0 known)) same ∙ here) far)
        | inr differs ↦ are.behind g k low (subst (λ (s : ℕ). blocks_of s ≤ k) (other g differs) far)
      ];
      held = λ g k some.
          let old = are.held g k some in
          elim (cases_eq g.0 f.0) [
            | inl same ↦ elim (cases_lt k (blocks_of known.size)) [
              | inl low ↦ (old.0, subst (λ (s : ℕ). k < blocks_of s) (sym (ap (size_in (set sizes f.0 known)) same ∙ here)) low)
              | inr far ↦ absurd (none-not-some (node_of b f k) (none k far) (subst (λ (h : FileNode). IsSome (node_of b h k)) (same-file f g same) some))
            ]
            | inr differs ↦ (old.0, subst (λ (s : ℕ). k < blocks_of s) (sym (other g.0 differs)) old.1)
          ];
    }

-- no node holds a block behind the last one
none-from : (o : Option ℕ) → (IsSome o → ⊥) → o ≡ None
none-from None never = refl
none-from (Some x) never = absurd (never refl)

pub none-behind : (row : TreeRow) (sizes : List PresentSize) (numbers : List (List ℕ)) (b : Buffers) (f : FileNode) (k : ℕ) → ArePresent row sizes numbers b → blocks_of (size_in sizes f.0) ≤ k → node_of b f k ≡ None
none-behind row sizes numbers b f k are far = none-from (node_of b f k) (λ some. let low = (are.held f k some).1 in omega (arith, low, far))

-- a size that was looked up
pub size-read : (sizes : List PresentSize) (f : ℕ) (known : PresentSize) → f < length sizes → known ≡ get_or sizes f known → known.size ≡ size_in sizes f
size-read sizes f known within is = ap (λ (s : PresentSize). s.size) (get_or_read sizes f known within is never_changed)
