use Rattle.std.proofs.Common.{◌≡◌, ◌≤◌, ◌<◌, length, take, ℕ, List, [], ◌∷◌, ◌++◌, Some, get_or, ◌+◌, arith, ap, ◌∙◌, sym}
use Rattle.std.proofs.lemmas.List.{length-take-le, take_more}
use Rattle.std.proofs.lemmas.Option.{get_or_from_slice_get, slice_get_within}
use Rattle.apex_types.specs.declared.numbers.PartitionId.{PartitionId}
use Rattle.std.specs.Prelude.{slice_get}
use Rattle.tree_store.proofs.mounting.readers_of.Goals as goal

pub push-requires : goal.push-requires
push-requires c =
    let i = c.loop-k.invariant in
    let long = ap length i.copied ∙ length-take-le c.loop-k.k c.args.row.now.readers (omega (arith, i.end)) in
    omega (arith, long, i.end, i.few)

one-more : (xs : List PartitionId) (k : ℕ) (x : PartitionId) → slice_get xs k ≡ Some x → take (k + 1) xs ≡ take k xs ++ x ∷ []
one-more xs k x is = take_more xs k x (slice_get_within xs k x is) ∙ ap (λ (y : PartitionId). take k xs ++ y ∷ []) (get_or_from_slice_get xs k x x is)

pub loop-k-preserved : goal.loop-k-preserved
loop-k-preserved c =
    let i = c.loop-k.invariant in
    let xs = c.args.row.now.readers in
    record {
      copied = c.push.ensures ∙ ap (λ (front : List PartitionId). front ++ c.at.result.now ∷ []) i.copied ∙ sym (one-more xs c.loop-k.k c.at.result.now c.at.ensures);
      end = i.end;
      few = i.few;
    }
