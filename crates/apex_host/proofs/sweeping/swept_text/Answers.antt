use Rattle.std.proofs.Common.{ℕ, List, [], ◌∷◌, ◌++◌, ◌∙◌, ap}
use Rattle.std.specs.Prelude.{codes, decimal}
use Rattle.apex_model.specs.Run.{spaced}
use Rattle.apex_host.proofs.Lines.{counted, swept-is}
use Rattle.apex_host.proofs.sweeping.swept_text.Goals as goal

pub returns : goal.returns
returns c = λ counts calls images mounted files.
    let end : List ℕ = 10 ∷ [] in
    let r4 : List (List ℕ) = codes "files" ∷ decimal c.args.files ∷ [] in
    let r3 = codes "mounted" ∷ decimal c.args.mounted ∷ r4 in
    let r2 = codes "images" ∷ decimal c.args.images ∷ r3 in
    let r1 = codes "calls" ∷ decimal c.args.calls ∷ r2 in
    c.put_byte.ensures
    ∙ counted _ _ (codes "files") (decimal c.args.files) [] end c.put_count-4.ensures.value
    ∙ counted _ _ (codes "mounted") (decimal c.args.mounted) r4 end c.put_count-3.ensures.value
    ∙ counted _ _ (codes "images") (decimal c.args.images) r3 end c.put_count-2.ensures.value
    ∙ counted _ _ (codes "calls") (decimal c.args.calls) r2 end c.put_count.ensures.value
    ∙ ap (λ (x : List ℕ). x ++ (spaced r1 ++ end)) (c.put.ensures ∙ ap (λ (x : List ℕ). x ++ codes "sweep") c.new-text.ensures)
    ∙ swept-is counts calls images mounted files
