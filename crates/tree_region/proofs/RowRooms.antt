-- A row of block numbers is spelled out up to a place, and a number is put there.
use Rattle.std.proofs.Common.{◌≡◌, ℕ, ◌+◌, ◌-◌, ◌<◌, ◌≤◌, List, ◌++◌, length, replicate, sym, ap, ◌∙◌, arith}
use Rattle.std.specs.Prelude.{slice_set}
use Rattle.std.proofs.lemmas.List.{append_assoc, length-append, length-replicate, length-set, set-append_left, replicate-append-replicate}
use Rattle.tree_region.specs.Numbers.{with_room}

pub row-long : (room : ℕ) (xs : List ℕ) → length xs ≤ room → length (with_room room xs) ≡ room
row-long room xs few = omega (arith, few, length-append xs (replicate (room - length xs) 0), length-replicate {A = ℕ} (room - length xs) 0)

module _ (room k number : ℕ) (xs : List ℕ) (few : length xs ≤ room) (within : k < room) where
  abbrev added : ℕ
  added = k + 1 - length xs

  -- the numbers up to the place
  abbrev reached : List ℕ
  reached = with_room (k + 1) xs

  abbrev behind : ℕ
  behind = room - length reached

  long : length reached ≡ length xs + added
  long = length-append xs (replicate added 0) ∙ ap (λ n. length xs + n) (length-replicate {A = ℕ} added 0)

  together : added + behind ≡ room - length xs
  together = omega (arith, few, within, long)

  same : reached ++ replicate behind 0 ≡ with_room room xs
  same =
      append_assoc xs (replicate added 0) (replicate behind 0)
      ∙ ap (λ (zeros : List ℕ). xs ++ zeros) (replicate-append-replicate {A = ℕ} added behind 0 ∙ ap (λ n. replicate n 0) together)

  pub put-reached : (ys : List ℕ) → ys ≡ reached → with_room room (slice_set ys k number) ≡ slice_set (with_room room xs) k number
  put-reached ys is =
      let here : k < length reached = omega (arith, long) in
      ap (λ (zs : List ℕ). with_room room (slice_set zs k number)) is
      ∙ ap (λ n. slice_set reached k number ++ replicate (room - n) 0) (length-set reached k number)
      ∙ sym (set-append_left reached (replicate behind 0) k number here)
      ∙ ap (λ (zs : List ℕ). slice_set zs k number) same
