-- Contents as the first bytes of a file's blocks.
use Rattle.std.proofs.Common.{◌≡◌, ℕ, ◌+◌, ◌-◌, ◌*◌, ◌<◌, ◌≤◌, max, min, List, [], ◌++◌, length, take, drop, replicate, ext_get_or, sym, ap, ◌∙◌, inl, inr, arith, rules}
use Rattle.std.proofs.lemmas.List.{places, same_lists, drop-take, take-take, take_all, drop_all, length-take, length-drop, length-replicate, get_or-take, append-nil, take-append-drop, take-replicate}
use Rattle.std.proofs.lemmas.Bool.{cases_lt}
use Rattle.apex_model.specs.Files.{read_at, resized, written}
use Rattle.rig_core.specs.Bytes.{byte, part, put}
use Rattle.rig_core.proofs.Put.{byte-part, put_above, put_behind}
use borrow.Rule.Slice.PartMut.{put_mid}

-- ---- a content

-- bytes that are put into the blocks are written into the content, which ends behind them at the earliest
pub content-written : (room bytes : List ℕ) (size from : ℕ) → from ≤ size → size ≤ length room → from + length bytes ≤ length room
    → take (max size (from + length bytes)) (put from bytes room) ≡ written (take size room) from bytes
content-written room bytes size from start old new =
    same_lists (take (max size (from + length bytes)) (put from bytes room)) (written (take size room) from bytes) (search (rules, places)) (λ k d h. grind (arith, places))

-- what is read of the content is a part of the blocks
pub content-read : (room : List ℕ) (size from limit : ℕ) → from ≤ size → part from (min limit (size - from)) room ≡ read_at (take size room) from limit
content-read room size from limit start =
    let split : size ≡ from + (size - from) = omega arith in
    let rest : drop from (take size room) ≡ take (size - from) (drop from room) = ap (λ (n : ℕ). drop from (take n room)) split ∙ drop-take from (size - from) room in
    let few = length-take (size - from) (drop from room) in
    elim (cases_lt limit (size - from)) [
      | inl less ↦
          let least : min limit (size - from) ≡ limit = omega arith in
          ap (λ (n : ℕ). take n (drop from room)) least ∙ sym (ap (take limit) rest ∙ take-take limit (size - from) (drop from room) (omega arith))
      | inr more ↦
          let least : min limit (size - from) ≡ size - from = omega arith in
          ap (λ (n : ℕ). take n (drop from room)) least ∙ sym (ap (take limit) rest ∙ take_all limit (take (size - from) (drop from room)) (omega (arith, few)))
    ]

pub content-past : (room : List ℕ) (size from limit : ℕ) → size ≤ from → read_at (take size room) from limit ≡ []
content-past room size from limit past =
    let few = length-take size room in
    ap (take limit) (drop_all from (take size room) (omega (arith, few))) ∙ take_all limit [] (omega arith)

-- ---- pieces of blocks

-- the first bytes and those behind them
take-both : (xs : List ℕ) (a e : ℕ) → a ≤ e → take a xs ++ take (e - a) (drop a xs) ≡ take e xs
take-both xs a e low = same_lists (take a xs ++ take (e - a) (drop a xs)) (take e xs) (search (rules, places)) (λ k d h. grind (arith, places))

-- the part of bytes that a block takes joins those of the blocks before
pub piece-put : (room bytes piece : List ℕ) (from k start stop : ℕ) → start ≡ max from (512 * k) → stop ≡ min (from + length bytes) (512 * k + 512) → 512 * k < from + length bytes → from < 512 * k + 512
    → from + length bytes ≤ length room → piece ≡ take (stop - from - (start - from)) (drop (start - from) bytes)
    → put (512 * k + (start - 512 * k)) piece (put from (take (512 * k - from) bytes) room) ≡ put from (take (512 * (k + 1) - from) bytes) room
piece-put room bytes piece from k start stop start-is stop-is low first fits piece-is =
    let a = 512 * k - from in
    let e = stop - from in
    let front : length (take a bytes) ≡ a = let few = length-take a bytes in omega (arith, few) in
    let back : length piece ≡ e - a = let few = length-take (stop - from - (start - from)) (drop (start - from) bytes) in let rest = length-drop (start - from) bytes in let same = ap (λ (xs : List ℕ). length xs) piece-is in omega (arith, few, rest, same) in
    let place : 512 * k + (start - 512 * k) ≡ from + length (take a bytes) = omega (arith, front) in
    let begin : start - from ≡ a = omega arith in
    let piece-at : piece ≡ take (e - a) (drop a bytes) = piece-is ∙ ap (λ (n : ℕ). take (e - n) (drop n bytes)) begin in
    ap (λ (n : ℕ). put n piece (put from (take a bytes) room)) place
    ∙ put_behind from (take a bytes) piece room (omega (arith, front, back))
    ∙ ap (λ (xs : List ℕ). put from xs room) (ap (λ (xs : List ℕ). take a bytes ++ xs) piece-at ∙ take-both bytes a e (omega arith) ∙ ends)
  where
    ends : take (stop - from) bytes ≡ take (512 * (k + 1) - from) bytes
    ends = elim (cases_lt (from + length bytes) (512 * k + 512)) [
      | inl less ↦ take_all (stop - from) bytes (omega arith) ∙ sym (take_all (512 * (k + 1) - from) bytes (omega arith))
      | inr more ↦ let same : stop - from ≡ 512 * (k + 1) - from = omega arith in ap (λ (n : ℕ). take n bytes) same
    ]

-- the part of a slice that a block fills joins those of the blocks before
pub piece-read : (room block into piece : List ℕ) (from k start stop : ℕ) → start ≡ max from (512 * k) → stop ≡ min (from + length into) (512 * k + 512)
    → ((j : ℕ) → j < 512 → byte room (512 * k + j) ≡ byte block j) → piece ≡ part (start - 512 * k) (stop - from - (start - from)) block → length piece ≡ stop - from - (start - from)
    → ((i : ℕ) → i < length into → from + i < 512 * k → byte into i ≡ byte room (from + i))
    → (i : ℕ) → i < length into → from + i < 512 * (k + 1) → byte (put_mid (start - from) (stop - from - (start - from)) into piece) i ≡ byte room (from + i)
piece-read room block into piece from k start stop start-is stop-is blocks piece-is long before i within low =
    elim (cases_lt (from + i) (512 * k)) [
      | inl early ↦ let old = before i within early in grind (arith, places)
      | inr here ↦
          let j = i - (start - from) in
          let there : byte (put_mid (start - from) (stop - from - (start - from)) into piece) i ≡ byte piece j = grind (arith, places) in
          let index : start - 512 * k + j ≡ from + i - 512 * k = omega arith in
          let place : 512 * k + (from + i - 512 * k) ≡ from + i = omega arith in
          there ∙ ap (λ (xs : List ℕ). byte xs j) piece-is ∙ byte-part (start - 512 * k) (stop - from - (start - from)) j block (omega arith)
          ∙ ap (byte block) index ∙ sym (blocks (from + i - 512 * k) (omega arith)) ∙ ap (byte room) place
    ]

pub put-mid-long : (into piece : List ℕ) (a n : ℕ) → length piece ≡ n → a + n ≤ length into → length (put_mid a n into piece) ≡ length into
put-mid-long into piece a n long fits = search (rules, places)

-- ---- another size

-- a content that is cut
pub content-cut : (room now : List ℕ) (old size : ℕ) → size ≤ old → old ≤ length room → take size now ≡ take size room → take size now ≡ resized (take old room) size
content-cut room now old size less fits same =
    let long = length-take old room in
    let none : size - length (take old room) ≡ 0 = omega (arith, long) in
    same ∙ sym (ap (λ (n : ℕ). take size (take old room) ++ replicate n 0) none ∙ append-nil (take size (take old room)) ∙ take-take size old room less)

-- one that is filled up: its last block with zeros, and there are zeros behind
pub content-filled : (room : List ℕ) (old more size : ℕ) → old ≤ size → size ≤ length room → old + more ≤ length room → ((i : ℕ) → old + more ≤ i → i < size → byte room i ≡ 0)
    → take size (put old (replicate more 0) room) ≡ resized (take old room) size
content-filled room old more size less fits end behind =
    let few = length-take old room in
    let zeros = length-replicate {A = ℕ} more 0 in
    let all = length-replicate {A = ℕ} (size - length (take old room)) 0 in
    ext_get_or 0 (take size (put old (replicate more 0) room)) (resized (take old room) size) (search (rules, places)) (λ i low.
    let within : i < size = let long = length-take size (put old (replicate more 0) room) in omega (arith, low, long) in
    get_or-take size (put old (replicate more 0) room) i 0 within ∙ at i within)
  where
    at : (i : ℕ) → i < size → byte (put old (replicate more 0) room) i ≡ byte (resized (take old room) size) i
    at i within =
        let few = length-take old room in
        let zeros = length-replicate {A = ℕ} more 0 in
        elim (cases_lt i old) [
          | inl before ↦ grind (arith, places)
          | inr past ↦
              let right : byte (resized (take old room) size) i ≡ 0 = grind (arith, places) in
              elim (cases_lt i (old + more)) [
                | inl inside ↦ let left : byte (put old (replicate more 0) room) i ≡ 0 = grind (arith, places) in left ∙ sym right
                | inr far ↦ put_above old (replicate more 0) room (omega (arith, zeros)) i (omega (arith, zeros)) ∙ behind i far within ∙ sym right
              ]
        ]

pub put-none : (room : List ℕ) (at : ℕ) → put at [] room ≡ room
put-none room at =
    let same : at + 0 ≡ at = omega arith in
    (λ i. append-nil (take at room) i ++ drop (same i) room) ∙ take-append-drop at room

-- zeros that are put, by their place and number
pub put-zeros : (p q n m : ℕ) (room : List ℕ) → p ≡ q → n ≡ m → m ≤ 512 → put p (take n (replicate 512 0)) room ≡ put q (replicate m 0) room
put-zeros p q n m room place number few =
    let zeros : take n (replicate 512 0) ≡ replicate m 0 = ap (λ (l : ℕ). take l (replicate 512 0)) number ∙ take-replicate m 512 0 few in
    (λ i. put (place i) (zeros i) room)
