use Rattle.std.proofs.Common.{◌≡◌, ◌==◌, true, false, ◌||◌, Bool, take, get_or, sym, ◌∙◌, ap, arith}
use Rattle.std.specs.List.{list_any}
use Rattle.std.proofs.lemmas.List.Folds.{list_any_at, list_any_more}
use Rattle.std.proofs.lemmas.Option.{get_or_from_slice_get, slice_get_within}
use Rattle.apex_types.specs.declared.numbers.PartitionId.{PartitionId}
use Rattle.service_parts.proofs.places.is_reader.Goals as goal

-- the reader that was read is the one at the place
pub returns-then-at-p : goal.returns-then-at-p
returns-then-at-p c =
    let is : PartitionId → Bool = λ reader. reader.0 == c.args.p.0 in
    let here = get_or_from_slice_get c.args.row.now.readers c.loop-k.k c.at.result.now c.at.result.now c.at.ensures in
    let same : is c.at.result.now ≡ true = grind arith in
    sym (list_any_at is c.args.row.now.readers c.loop-k.k c.at.result.now (slice_get_within c.args.row.now.readers c.loop-k.k c.at.result.now c.at.ensures) (ap is here ∙ same))

pub loop-k-preserved : goal.loop-k-preserved
loop-k-preserved c =
    let is : PartitionId → Bool = λ reader. reader.0 == c.args.p.0 in
    let here = get_or_from_slice_get c.args.row.now.readers c.loop-k.k c.at.result.now c.at.result.now c.at.ensures in
    let other : is c.at.result.now ≡ false = grind arith in
    let none : is (get_or c.args.row.now.readers c.loop-k.k c.at.result.now) ≡ false = ap is here ∙ other in
    let more = list_any_more is c.args.row.now.readers c.loop-k.k c.at.result.now (slice_get_within c.args.row.now.readers c.loop-k.k c.at.result.now c.at.ensures) in
    let before : list_any is (take c.loop-k.k c.args.row.now.readers) ≡ false = c.loop-k.invariant in
    more ∙ ap (λ (b : Bool). b || is (get_or c.args.row.now.readers c.loop-k.k c.at.result.now)) before ∙ none
