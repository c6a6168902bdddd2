use Rattle.std.proofs.Common.{◌≡◌, ◌+◌, ◌++◌, ◌∷◌, [], Some, None, suc, sym, ap, ◌∙◌, arith}
use Rattle.std.proofs.lemmas.Grind.{common_steps}
use Rattle.apex_model.specs.Fields.{entry_of_bytes}
use Rattle.apex_model.specs.Image.{entry_bytes}
use Rattle.file_tree.proofs.ReadBodies.{answers-none}
use Rattle.file_tree.proofs.Written.{entry-range}
use Rattle.tree_region.specs.Numbers.{fields_in}
use Rattle.tree_region.proofs.Lists.{answers-more}
use Rattle.tree_region.proofs.fields.read_fields.Goals as goal

pub returns-in_default : goal.returns-in_default
returns-in_default c =
    let from : 0 + c.loop-k.k ≡ c.loop-k.k = omega arith in
    let here : None ≡ entry_of_bytes c.args.version (entry_bytes c.args.body.now c.loop-k.k)
    = c.in_default.ensures ∙ ap (entry_of_bytes c.args.version) (entry-range c.args.body.now c.loop-k.k) in
    sym (answers-none (λ k. entry_of_bytes c.args.version (entry_bytes c.args.body.now k)) 0 c.args.files c.loop-k.k (search arith)
    (ap (λ k. entry_of_bytes c.args.version (entry_bytes c.args.body.now k)) from ∙ sym here))

pub loop-k-preserved : goal.loop-k-preserved
loop-k-preserved c =
    let from : 0 + c.loop-k.k ≡ c.loop-k.k = omega arith in
    let here : Some c.in-Some.field ≡ entry_of_bytes c.args.version (entry_bytes c.args.body.now c.loop-k.k)
    = c.in-Some.ensures ∙ ap (entry_of_bytes c.args.version) (entry-range c.args.body.now c.loop-k.k) in
    let pushed : c.push.new.self.items ≡ c.loop-k.fields.items ++ c.in-Some.field ∷ [] = grind (arith, common_steps) in
    let next : c.loop-k.k + 1 ≡ suc c.loop-k.k = omega arith in
    ap (fields_in c.args.version c.args.body.now) next
    ∙ answers-more (λ k. entry_of_bytes c.args.version (entry_bytes c.args.body.now k)) 0 c.loop-k.k c.loop-k.fields.items c.in-Some.field c.loop-k.invariant
    (ap (λ k. entry_of_bytes c.args.version (entry_bytes c.args.body.now k)) from ∙ sym here)
    ∙ ap Some (sym pushed)
