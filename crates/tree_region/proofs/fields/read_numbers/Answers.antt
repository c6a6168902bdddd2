use Rattle.std.proofs.Common.{◌≡◌, ◌++◌, ◌∷◌, [], sym, ap, ◌∙◌, arith}
use Rattle.std.proofs.lemmas.Grind.{common_steps}
use Rattle.std.proofs.lemmas.List.FromFn.{map-range_with_len_more}
use Rattle.std.specs.Prelude.{map}
use Rattle.std.specs.List.{range_with_len}
use Rattle.apex_model.specs.Image.{block_number}
use Rattle.tree_region.proofs.fields.read_numbers.Goals as goal

pub loop-k-preserved : goal.loop-k-preserved
loop-k-preserved c =
    let pushed : c.push.new.self.items ≡ c.loop-k.numbers.items ++ c.number_at-number.result ∷ [] = grind (arith, common_steps) in
    pushed
    ∙ ap (λ ns. ns ++ c.number_at-number.result ∷ []) c.loop-k.invariant
    ∙ ap (λ n. map (block_number c.args.body.now c.args.entries) (range_with_len 0 c.loop-k.k) ++ n ∷ []) c.number_at-number.ensures
    ∙ sym (map-range_with_len_more (block_number c.args.body.now c.args.entries) 0 c.loop-k.k c.loop-k.k (omega arith))
