-- Buffers of which none was taken yet.
use Rattle.std.proofs.Common.{◌≡◌, ℕ, ◌<◌, ◌+◌, ◌-◌, ◌^◌, List, [], ◌∷◌, length, replicate, Option, None, refl, sym, ap, ◌∙◌, subst, arith, zero, suc}
use Rattle.std.specs.Prelude.{IsSome}
use Rattle.std.specs.List.{AllByRecursion, range_with_len}
use Rattle.std.proofs.lemmas.List.{length-replicate, get_or-replicate}
use Rattle.block_pool.specs.declared.buffers.Block.{Block}
use Rattle.block_pool.specs.Lists.{list_at, all_in_first}
use Rattle.block_pool.specs.Buffers.{AreBuffers, block_at, list_of_block, all_free}
use Rattle.block_pool.proofs.Made.{node_count-first, HoldsEachOnce-first}

none_at : (n k : ℕ) → block_at (replicate n None) k ≡ None
none_at zero k = refl
none_at (suc n) zero = refl
none_at (suc n) (suc k) = none_at n k

none_in_list : (n : ℕ) (xs : List ℕ) → AllByRecursion (λ k. list_of_block (block_at (replicate n None) k) ≡ 0) xs
none_in_list n [] = tt
none_in_list n (x ∷ xs) = (ap list_of_block (none_at n x), none_in_list n xs)

fresh_in_list : (n lists i : ℕ) → i < lists + 1 → AllByRecursion (λ k. list_of_block (block_at (replicate n None) k) ≡ i) (list_at (all_in_first n (lists + 1)) i)
fresh_in_list n lists zero h = none_in_list n (range_with_len 0 n)
fresh_in_list n lists (suc i) h =
    subst (λ (xs : List ℕ). AllByRecursion (λ k. list_of_block (block_at (replicate n None) k) ≡ suc i) xs)
    (sym (get_or-replicate (lists + 1 - 1) i [] [] (omega arith))) tt

all_full : (n : ℕ) → AllByRecursion (λ (bytes : List ℕ). length bytes ≡ 512) (replicate n (replicate 512 0))
all_full zero = tt
all_full (suc n) = (length-replicate {A = ℕ} 512 0, all_full n)

lists_of_files : (n files : ℕ) → length (all_in_first n (files + 1)) ≡ files + 1
lists_of_files n files = let rest = length-replicate {A = List ℕ} (files + 1 - 1) [] in omega (arith, rest)

pub AreBuffers-all_free : (n files : ℕ) → n < 2 ^ 32 → AreBuffers (all_free n files)
AreBuffers-all_free n files fits =
    let number = node_count-first n (files + 1) in
    let count = lists_of_files n files in
    record {
      each_once = HoldsEachOnce-first n (files + 1);
      one_list = omega (arith, count);
      fits = omega (arith, number, fits);
      blocks_length = length-replicate n None ∙ sym number;
      contents_length = length-replicate n (replicate 512 0) ∙ sym number;
      in_list = λ i h. fresh_in_list n files i (omega (arith, count, h));
      no_block_twice = λ j k _ _ some _.
          let none = subst (λ (o : Option Block). IsSome o) (none_at n j) some in absurd cc;
      full_size = all_full n;
    }
