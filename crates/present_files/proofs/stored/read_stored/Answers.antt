use Rattle.std.proofs.Common.{◌≡◌, ◌+◌, length, replicate, ap, ◌∙◌, rules, arith}
use Rattle.rig_core.specs.Bytes.{part}
use Rattle.tree_region.specs.InStep.{block_place}
use Rattle.present_files.proofs.DataBlocks.{block-part, zero-part}
use Rattle.present_files.proofs.stored.read_stored.Goals as goal

pub returns-then-number-eq0-clause-bytes : goal.returns-then-number-eq0-clause-bytes
returns-then-number-eq0-clause-bytes g c = λ tells.
    let filled : c.fill.new.self ≡ replicate (length c.args.into.now) 0 = search rules in
    filled ∙ zero-part c.args.row.now c.args.at c.args.number (g.R.Rig.state c.args.rig.now).view c.args.from (length c.args.into.now) (omega arith) c.requires.within

pub returns-clause-bytes : goal.returns-clause-bytes
returns-clause-bytes g c = λ tells.
    let view = (g.R.Rig.state c.args.rig.now).view in
    let place : c.block_start.result + c.from.result ≡ block_place c.args.row.now c.args.at c.args.number + c.args.from = (λ i. c.block_start.ensures i + c.from.ensures i) in
    c.in_ok-read.ensures.bytes tells ∙ ap (λ p. part p (length c.args.into.now) view) place
    ∙ block-part c.args.row.now c.args.at c.args.number view c.args.from (length c.args.into.now) (omega arith) c.requires.last c.requires.within
