use Rattle.std.proofs.Common.{◌≡◌, ℕ, ◌+◌, ◌-◌, ◌*◌, ◌/◌, ◌%◌, ◌<◌, ◌≤◌, List, length, take, replicate, ap, ◌∙◌, arith}
use Rattle.apex_model.specs.Files.{blocks_of}
use Rattle.apex_model.specs.Layout.{tree_blocks}
use Rattle.rig_core.specs.Bytes.{put}
use Rattle.tree_region.specs.InStep.{data_at}
use Rattle.present_files.specs.Kept.{KeepsContents}
use Rattle.present_files.specs.Present.{room_bytes, size_in}
use Rattle.present_files.proofs.Contents.{put-zeros}
use Rattle.present_files.proofs.Sizes.{size-read}
use Rattle.present_files.proofs.Unchanged.{keeps-all, on_err, rooms-same}
use Rattle.present_files.proofs.resizing.clear_behind.Goals as goal

pub returns-in_err-buffer-clause-unchanged : goal.returns-in_err-buffer-clause-unchanged
returns-in_err-buffer-clause-unchanged g c =
    let blocks = data_at c.args.row.now c.args.at (g.R.Rig.state c.args.rig.now).view in
    on_err c.from_residual.result (KeepsContents g.R.Rig.tells_view blocks c.args.present.now c.buffer.new.present)
    (keeps-all g.R.Rig.tells_view blocks c.args.present.now c.buffer.new.present c.buffer.ensures.sizes c.buffer.ensures.numbers c.in_err-buffer.ensures.all_stay)

pub returns-clause-room : goal.returns-clause-room
returns-clause-room g c = λ tells.
    let row = c.args.row.now in
    let at = c.args.at in
    let view = (g.R.Rig.state c.args.rig.now).view in
    let blocks = data_at row at view in
    let old = c.args.present.now in
    let f = c.args.file.0 in
    let n = c.index.result.now.size in
    let room = room_bytes blocks old c.args.file in
    let size : n ≡ size_in old.sizes.items f = size-read old.sizes.items f c.index.result.now (omega (arith, c.requires.file, c.requires.present.sizes_length)) c.index.ensures in
    let inside : 0 < n % 512 = omega (arith, c.if-inside-eq0.false) in
    let fits : at + 512 * tree_blocks row ≤ length view = omega (arith, c.requires.fits, (g.met.R.Rig.sound c.args.rig.now).view_fills tells) in
    let same : room_bytes blocks c.buffer.new.present c.args.file ≡ room = rooms-same blocks old c.buffer.new.present c.buffer.ensures.numbers c.args.file (c.in_ok-buffer.ensures.same tells c.args.file) in
    c.put_in_block.ensures.room at view fits
    ∙ ap (λ (xs : List ℕ). put (512 * (n / 512) + n % 512) (take (512 - n % 512) (replicate 512 0)) xs) same
    ∙ put-zeros (512 * (n / 512) + n % 512) (size_in old.sizes.items f) (512 - n % 512) (512 * blocks_of (size_in old.sizes.items f) - size_in old.sizes.items f) room (omega (arith, size)) (omega (arith, size, inside)) (omega (arith, size, inside))

pub returns-clause-others : goal.returns-clause-others
returns-clause-others g c = λ h differs tells.
    let blocks = data_at c.args.row.now c.args.at (g.R.Rig.state c.args.rig.now).view in
    c.put_in_block.ensures.others blocks h differs
    ∙ rooms-same blocks c.args.present.now c.buffer.new.present c.buffer.ensures.numbers h (c.in_ok-buffer.ensures.same tells h)
