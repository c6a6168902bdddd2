use Rattle.std.proofs.Common.{◌≡◌, ◌≤◌, ℕ, subst, arith}
use Rattle.std.proofs.lemmas.Result.{on_err_weaker, on_ok_weaker}
use Rattle.apex_model.specs.Image.{data_block}
use Rattle.tree_region.specs.InStep.{data_at}
use Rattle.present_files.specs.Nodes.{held_or}
use Rattle.present_files.specs.Present.{number_in}
use Rattle.present_files.proofs.Rooms.{block-same, numbered, present-held}
use Rattle.present_files.proofs.blocks.buffer.Goals as goal

pub returns-clause-same : goal.returns-clause-same
returns-clause-same g c = λ tells.
    let numbers = c.args.present.now.numbers.items in
    let blocks = data_at c.args.row.now c.args.at (g.R.Rig.state c.args.rig.now).view in
    let number : c.at-number.result ≡ number_in numbers c.args.file.0 c.args.k = numbered numbers c.args.file.0 c.args.k c.index.result.now c.at-number.result (omega (arith, c.requires.file, c.requires.present.numbers_length)) c.index.ensures c.at-number.ensures in
    on_ok_weaker c.hold.result
    (λ here. block-same blocks numbers c.args.present.now.pool c.hold.new.pool c.args.file c.args.k c.hold.ensures.others
    (subst (λ (n : ℕ). held_or c.hold.new.pool (data_block blocks n) c.args.file c.args.k ≡ held_or c.args.present.now.pool (data_block blocks n) c.args.file c.args.k) number here))
    (c.hold.ensures.bytes tells)

pub returns-clause-present : goal.returns-clause-present
returns-clause-present g c =
    present-held c.args.row.now c.args.present.now.sizes.items c.args.present.now.numbers.items c.args.present.now.pool c.hold.new.pool c.args.file c.args.k c.requires.present c.hold.ensures.others c.requires.file c.requires.block

pub returns-clause-stored : goal.returns-clause-stored
returns-clause-stored g c =
    let numbers = c.args.present.now.numbers.items in
    let number : c.at-number.result ≡ number_in numbers c.args.file.0 c.args.k = numbered numbers c.args.file.0 c.args.k c.index.result.now c.at-number.result (omega (arith, c.requires.file, c.requires.present.numbers_length)) c.index.ensures c.at-number.ensures in
    on_err_weaker c.hold.result (subst (λ (n : ℕ). 1 ≤ n) number) c.hold.ensures.stored
