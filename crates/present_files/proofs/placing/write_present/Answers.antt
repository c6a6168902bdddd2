use Rattle.std.proofs.Common.{◌≡◌, ℕ, ◌+◌, ◌*◌, ◌≤◌, List, length, sym, ap, ◌∙◌, arith}
use Rattle.apex_model.specs.Image.{data_block}
use Rattle.apex_model.specs.Layout.{tree_blocks}
use Rattle.tree_region.specs.OwnedRows.{number_at}
use Rattle.tree_region.proofs.Owned.{at-place}
use Rattle.rig_core.specs.Bytes.{part}
use Rattle.tree_region.specs.InStep.{block_place, data_at}
use Rattle.present_files.proofs.Placed.{on-ok, other-blocks, tree-stays, written-block}
use Rattle.present_files.proofs.placing.write_present.Goals as goal

pub returns-clause-tree : goal.returns-clause-tree
returns-clause-tree g c = λ tells.
    tree-stays g.R.Rig.tells_view g.R.Rig.keeps_cuts c.args.row.now c.args.at c.own_block-number.result c.args.kept.now (g.R.Rig.state c.args.rig.now) (g.R.Rig.state c.write_block.new.rig) (g.met.R.Rig.sound c.args.rig.now)
    (g.met.R.Rig.sound c.write_block.new.rig) c.write_block.ensures.later.size c.requires.fits c.own_block-number.ensures.first c.own_block-number.ensures.not_durable c.requires.in_step tells (c.write_block.ensures.outside_view tells)

pub returns-clause-written : goal.returns-clause-written
returns-clause-written g c = λ tells.
    let row = c.args.row.now in
    let view = (g.R.Rig.state c.write_block.new.rig).view in
    let number = c.own_block-number.result in
    let is : number_at c.own_block-number.new.present c.args.file.0 c.args.k ≡ number
    = ap (λ (rows : List (List ℕ)). number_at rows c.args.file.0 c.args.k) c.own_block-number.ensures.placed ∙ at-place c.args.present.now c.args.file.0 c.args.k number c.requires.file c.requires.place in
    let long = (g.met.R.Rig.sound c.write_block.new.rig).view_fills tells in
    let fits : c.args.at + 512 * tree_blocks row ≤ length view = omega (arith, c.requires.fits, c.write_block.ensures.later.size, long) in
    let last : number ≤ 2 * row.quota = omega (arith, c.own_block-number.ensures.last, c.requires.in_step.numbers.marks) in
    on-ok (part (block_place row c.args.at number) 512 view ≡ c.args.bytes.now) (data_block (data_at row c.args.at view) (number_at c.own_block-number.new.present c.args.file.0 c.args.k) ≡ c.args.bytes.now) c.write_block.result
    (λ there. ap (data_block (data_at row c.args.at view)) is ∙ written-block row c.args.at number view c.args.bytes.now fits c.own_block-number.ensures.first last there)
    (c.write_block.ensures.written tells)

pub returns-clause-others : goal.returns-clause-others
returns-clause-others g c = λ tells n other.
    let number = c.own_block-number.result in
    let is : number_at c.own_block-number.new.present c.args.file.0 c.args.k ≡ number
    = ap (λ (rows : List (List ℕ)). number_at rows c.args.file.0 c.args.k) c.own_block-number.ensures.placed ∙ at-place c.args.present.now c.args.file.0 c.args.k number c.requires.file c.requires.place in
    other-blocks g.R.Rig.tells_view g.R.Rig.keeps_cuts c.args.row.now c.args.at number (g.R.Rig.state c.args.rig.now) (g.R.Rig.state c.write_block.new.rig) (g.met.R.Rig.sound c.args.rig.now) (g.met.R.Rig.sound c.write_block.new.rig)
    c.write_block.ensures.later.size c.requires.fits c.own_block-number.ensures.first tells (c.write_block.ensures.outside_view tells) n (λ same. other (same ∙ sym is))
