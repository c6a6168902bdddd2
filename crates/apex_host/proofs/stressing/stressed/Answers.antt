use Rattle.std.proofs.Common.{ℕ, List, [], ◌∷◌, ◌++◌, ◌∙◌, ap}
use Rattle.std.specs.Prelude.{codes, decimal}
use Rattle.apex_model.specs.Run.{spaced}
use Rattle.apex_host.proofs.Lines.{counted}
use Rattle.apex_host.proofs.stressing.stressed.Goals as goal

pub returns : goal.returns
returns c =
    let t = c.args.tally.now in
    let end : List ℕ = 10 ∷ [] in
    let r9 : List (List ℕ) = codes "bytes" ∷ decimal t.data_bytes ∷ [] in
    let r8 = codes "INVALID_MODE" ∷ decimal t.invalid_mode ∷ r9 in
    let r7 = codes "INVALID_CONFIG" ∷ decimal t.invalid_config ∷ r8 in
    let r6 = codes "INVALID_PARAM" ∷ decimal t.invalid_param ∷ r7 in
    let r5 = codes "NOT_AVAILABLE" ∷ decimal t.not_available ∷ r6 in
    let r4 = codes "NO_ACTION" ∷ decimal t.no_action ∷ r5 in
    let r3 = codes "NO_ERROR" ∷ decimal t.no_error ∷ r4 in
    let r2 = codes "replies" ∷ decimal t.replies ∷ r3 in
    let r1 = codes "lines" ∷ decimal c.args.count ∷ r2 in
    c.put_byte.ensures
    ∙ counted _ _ (codes "bytes") (decimal t.data_bytes) [] end c.put_count-9.ensures.value
    ∙ counted _ _ (codes "INVALID_MODE") (decimal t.invalid_mode) r9 end c.put_count-8.ensures.value
    ∙ counted _ _ (codes "INVALID_CONFIG") (decimal t.invalid_config) r8 end c.put_count-7.ensures.value
    ∙ counted _ _ (codes "INVALID_PARAM") (decimal t.invalid_param) r7 end c.put_count-6.ensures.value
    ∙ counted _ _ (codes "NOT_AVAILABLE") (decimal t.not_available) r6 end c.put_count-5.ensures.value
    ∙ counted _ _ (codes "NO_ACTION") (decimal t.no_action) r5 end c.put_count-4.ensures.value
    ∙ counted _ _ (codes "NO_ERROR") (decimal t.no_error) r4 end c.put_count-3.ensures.value
    ∙ counted _ _ (codes "replies") (decimal t.replies) r3 end c.put_count-2.ensures.value
    ∙ counted _ _ (codes "lines") (decimal c.args.count) r2 end c.put_count.ensures.value
    ∙ ap (λ (x : List ℕ). x ++ (spaced r1 ++ end)) (c.put.ensures ∙ ap (λ (x : List ℕ). x ++ codes "stress") c.new-text.ensures)
