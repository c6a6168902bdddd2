use Rattle.std.proofs.Common.{◌≡◌, ◌+◌, ◌*◌, ◌≤◌, length, None, sym, subst, ap, ◌∙◌, arith}
use Rattle.std.proofs.lemmas.List.{take_all}
use Rattle.apex_model.specs.Image.{data_block}
use Rattle.apex_model.specs.Layout.{tree_blocks}
use Rattle.block_pool.specs.Buffers.{Buffers, node_of}
use Rattle.tree_region.specs.InStep.{data_at}
use Rattle.present_files.specs.Nodes.{AllStay, bytes_of}
use Rattle.present_files.proofs.DataBlocks.{block-long}
use Rattle.present_files.proofs.HeldBlocks.{given-back, others-all, taken-bytes, taken-free, taken-node, taken-others}
use Rattle.present_files.proofs.holding.hold.Goals as goal

pub returns-in-Err-clause-all_stay : goal.returns-in-Err-clause-all_stay
returns-in-Err-clause-all_stay g c =
    let absent : node_of c.args.pool.now c.args.file c.args.k ≡ None = sym c.in_default.ensures.found in
    subst (λ (b : Buffers). AllStay c.args.pool.now b) (sym c.release.ensures.released)
    (given-back c.args.pool.now c.take.new.self c.find.ensures.sound c.args.file c.args.k c.in-Some-take.node c.read_stored.new.into (sym c.in-Some-take.ensures.first) c.in-Some-take.ensures.within
    c.requires.file_within absent c.in-Some-take.ensures.taken)

pub returns-in-Err-clause-others : goal.returns-in-Err-clause-others
returns-in-Err-clause-others g c = others-all c.args.file c.args.k c.args.pool.now c.release.new.self (returns-in-Err-clause-all_stay g c)

pub returns-in-Err-clause-free : goal.returns-in-Err-clause-free
returns-in-Err-clause-free g c =
    let stay : AllStay c.args.pool.now c.release.new.self = returns-in-Err-clause-all_stay g c in
    omega (arith, stay.free)

pub returns-in-Ok-clause-others : goal.returns-in-Ok-clause-others
returns-in-Ok-clause-others g c =
    let absent : node_of c.args.pool.now c.args.file c.args.k ≡ None = sym c.in_default.ensures.found in
    taken-others c.args.pool.now c.take.new.self c.find.ensures.sound c.args.file c.args.k c.in-Some-take.node c.read_stored.new.into (sym c.in-Some-take.ensures.first) c.in-Some-take.ensures.within
    c.requires.file_within absent c.in-Some-take.ensures.taken

pub returns-in-Ok-clause-free : goal.returns-in-Ok-clause-free
returns-in-Ok-clause-free g c =
    let absent : node_of c.args.pool.now c.args.file c.args.k ≡ None = sym c.in_default.ensures.found in
    taken-free c.args.pool.now c.take.new.self c.find.ensures.sound c.args.file c.args.k c.in-Some-take.node c.read_stored.new.into (sym c.in-Some-take.ensures.first) c.in-Some-take.ensures.within
    c.requires.file_within absent c.in-Some-take.ensures.taken

pub returns-in-Ok-clause-node : goal.returns-in-Ok-clause-node
returns-in-Ok-clause-node g c =
    let absent : node_of c.args.pool.now c.args.file c.args.k ≡ None = sym c.in_default.ensures.found in
    taken-node c.args.pool.now c.take.new.self c.find.ensures.sound c.args.file c.args.k c.in-Some-take.node c.read_stored.new.into (sym c.in-Some-take.ensures.first) c.in-Some-take.ensures.within
    c.requires.file_within absent c.in-Some-take.ensures.taken

pub returns-in-Ok-clause-bytes : goal.returns-in-Ok-clause-bytes
returns-in-Ok-clause-bytes g c = λ tells.
    let row = c.args.row.now in
    let view = (g.R.Rig.state c.args.rig.now).view in
    let stored = data_block (data_at row c.args.at view) c.args.number in
    let absent : node_of c.args.pool.now c.args.file c.args.k ≡ None = sym c.in_default.ensures.found in
    let fits : c.args.at + 512 * tree_blocks row ≤ length view = omega (arith, c.requires.fits, (g.met.R.Rig.sound c.args.rig.now).view_fills tells) in
    let whole : length stored ≡ 512 = block-long row c.args.at c.args.number view fits c.requires.last in
    let read : c.read_stored.new.into ≡ stored = c.in-Ok.ensures.bytes tells ∙ take_all (length c.bytes_mut.result.now) stored (omega (arith, whole, c.bytes_mut.ensures.size)) in
    taken-bytes c.args.pool.now c.take.new.self c.find.ensures.sound c.args.file c.args.k c.in-Some-take.node c.read_stored.new.into (sym c.in-Some-take.ensures.first) c.in-Some-take.ensures.within
    c.requires.file_within absent c.in-Some-take.ensures.taken stored (c.read_stored.ensures.long ∙ c.bytes_mut.ensures.size)
    ∙ read ∙ sym (ap (bytes_of c.args.pool.now stored) absent)
