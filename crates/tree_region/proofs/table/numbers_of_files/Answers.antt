use Rattle.std.proofs.Common.{◌≡◌, ◌+◌, ◌-◌, ◌++◌, ◌∷◌, [], List, ℕ, take, drop, subst, sym, ap, ◌∙◌, arith}
use Rattle.std.proofs.lemmas.Grind.{common_steps}
use Rattle.apex_model.specs.Files.{blocks_of}
use Rattle.apex_model.specs.Image.{size_of_field}
use Rattle.tree_region.specs.Numbers.{with_room}
use Rattle.tree_region.proofs.Tables.{IsTabled, tabled-next, tabled-end, file-room}
use Rattle.tree_region.proofs.table.numbers_of_files.Goals as goal

pub overflow_add-end : goal.overflow_add-end
overflow_add-end c =
    let room = file-room c.args.room c.args.fields.now c.args.numbers.now c.loop-k.k c.loop-k.at c.loop-k.files.items c.loop-k.invariant c.index-fields-k.result (search arith) c.index-fields-k.is in
    grind (arith, room, c.blocks_in.ensures.value)

pub loop-k-preserved : goal.loop-k-preserved
loop-k-preserved c =
    let pushed : c.push.new.self.items ≡ c.loop-k.files.items ++ c.in_ok-file.file ∷ [] = grind (arith, common_steps) in
    let fields = c.args.fields.now in
    let numbers = c.args.numbers.now in
    let own : c.in_ok-file.file ≡ with_room c.args.room (take (c.loop-k.at + c.blocks_in.result - c.loop-k.at) (drop c.loop-k.at numbers)) = c.in_ok-file.ensures in
    subst (λ n. IsTabled c.args.room fields numbers (c.loop-k.k + 1) (c.loop-k.at + n) c.push.new.self.items) (sym c.blocks_in.ensures.value)
    (subst (λ (lists : List (List ℕ)). IsTabled c.args.room fields numbers (c.loop-k.k + 1) (c.loop-k.at + blocks_of (size_of_field c.index-fields-k.result)) lists) (sym pushed)
    (tabled-next c.args.room fields numbers c.loop-k.k c.loop-k.at c.loop-k.files.items c.loop-k.invariant c.index-fields-k.result (search arith) c.index-fields-k.is c.in_ok-file.file
    (own ∙ ap (λ n. with_room c.args.room (take (c.loop-k.at + n - c.loop-k.at) (drop c.loop-k.at numbers))) c.blocks_in.ensures.value)))

pub returns : goal.returns
returns c = tabled-end c.args.room c.args.fields.now c.args.numbers.now c.loop-k.k c.loop-k.at c.loop-k.files.items c.loop-k.invariant (search arith)
