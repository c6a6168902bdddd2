use Rattle.std.proofs.Common.{◌≡◌, ◌+◌, ◌*◌, ◌<◌, ◌≤◌, ◌++◌, ◌∷◌, [], length, take, sym, ap, ◌∙◌, arith, append_assoc, slice_index_or}
use Rattle.std.proofs.lemmas.List.{take_more}
use Rattle.apex_model.specs.Fields.{number_of}
use Rattle.tree_region.specs.Words.{words}
use Rattle.tree_region.proofs.SpelledBodies.{written, written-long, words-written}
use Rattle.tree_region.proofs.listing.put_file.Goals as goal

pub loop-k-preserved : goal.loop-k-preserved
loop-k-preserved c =
    let bytes = c.loop-k.bytes in
    let four = c.put_block.new.b in
    let first = c.args.first in
    let k = c.loop-k.k in
    let numbers = c.args.numbers.now in
    let less : c.loop-k.k < c.args.count = search arith in
    let room : 4 * (first + k) + 4 ≤ length bytes = omega (arith, less, c.loop-k.invariant.long, c.requires.room) in
    let long : length four ≡ 4 = search arith in
    let number : number_of four ≡ slice_index_or numbers k 0 = c.put_block.ensures ∙ c.at.ensures in
    let next : first + (k + 1) ≡ first + k + 1 = omega arith in
    record {
      long = written-long (first + k) bytes four room long ∙ c.loop-k.invariant.long;
      spelled = ap (λ n. words n (written (first + k) bytes four room long)) next ∙ words-written (first + k) bytes four room long ∙ (λ i. c.loop-k.invariant.spelled i ++ number i ∷ [])
          ∙ append_assoc (words first c.args.bytes.now) (take k numbers) (slice_index_or numbers k 0 ∷ [])
          ∙ ap (λ ns. words first c.args.bytes.now ++ ns) (sym (take_more numbers k 0 (omega (arith, less, c.requires.few))));
    }
