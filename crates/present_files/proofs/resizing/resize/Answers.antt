use Rattle.std.proofs.Common.{◌≡◌, ◌+◌, ◌-◌, ◌*◌, ◌<◌, ◌≤◌, length, take, ◌∙◌, arith}
use Rattle.apex_model.specs.Files.{blocks_of}
use Rattle.apex_model.specs.Layout.{tree_blocks}
use Rattle.tree_region.specs.InStep.{data_at}
use Rattle.present_files.specs.Present.{room_bytes, room_in, row_length, size_in}
use Rattle.present_files.proofs.Contents.{content-cut, content-filled}
use Rattle.present_files.proofs.GivenUp.{room-beside, room-front, zeros-past}
use Rattle.present_files.proofs.Rooms.{room-long}
use Rattle.present_files.proofs.Sizes.{none-behind, size-here, size-other, size-read}
use Rattle.present_files.proofs.resizing.resize.Goals as goal

pub returns-then-size-index-clause-content : goal.returns-then-size-index-clause-content
returns-then-size-index-clause-content g c = λ tells.
    let row = c.args.row.now in
    let at = c.args.at in
    let view = (g.R.Rig.state c.args.rig.now).view in
    let old = c.args.present.now in
    let now = c.shrink.new.present in
    let f = c.args.file.0 in
    let are = c.requires.present in
    let blocks = data_at row at view in
    let room = room_bytes blocks old c.args.file in
    let there : f < length old.sizes.items = omega (arith, c.requires.file, are.sizes_length) in
    let size : c.index.result.now.size ≡ size_in old.sizes.items f = size-read old.sizes.items f c.index.result.now there c.index.ensures in
    let fits : at + 512 * tree_blocks row ≤ length view = omega (arith, c.requires.fits, (g.met.R.Rig.sound c.args.rig.now).view_fills tells) in
    let all : length room ≡ 512 * row_length old.numbers.items f = room-long row at view fits old.numbers.items are.within old.pool c.stand.ensures c.args.file in
    let cut : size_in now.sizes.items f ≡ c.args.size = (λ i. size_in (c.shrink.ensures.sizes i) f) ∙ size-here old.sizes.items f _ there in
    let front : take c.args.size (room_bytes blocks now c.args.file) ≡ take c.args.size room
    = room-front row at view fits old.numbers.items now.numbers.items are.within old.pool now.pool c.stand.ensures c.args.file c.args.size (blocks_of (size_in old.sizes.items f)) c.shrink.ensures.dropped
    (omega (arith, c.requires.blocks, are.rooms f c.requires.file)) in
    (λ i. take (cut i) (room_bytes blocks now c.args.file))
    ∙ content-cut room (room_bytes blocks now c.args.file) (size_in old.sizes.items f) c.args.size (omega (arith, size, c.if-size-index.true)) (omega (arith, all, are.fits f c.requires.file, are.rooms f c.requires.file)) front

pub returns-then-size-index-clause-others : goal.returns-then-size-index-clause-others
returns-then-size-index-clause-others g c = λ h differs tells.
    let old = c.args.present.now in
    let now = c.shrink.new.present in
    let f = c.args.file.0 in
    let there : f < length old.sizes.items = omega (arith, c.requires.file, c.requires.present.sizes_length) in
    let size : size_in now.sizes.items h.0 ≡ size_in old.sizes.items h.0 = (λ i. size_in (c.shrink.ensures.sizes i) h.0) ∙ size-other old.sizes.items f _ there h.0 differs in
    let room = room-beside (data_at c.args.row.now c.args.at (g.R.Rig.state c.args.rig.now).view) old.numbers.items now.numbers.items old.pool now.pool c.args.file (blocks_of c.args.size) (blocks_of (size_in old.sizes.items f)) c.shrink.ensures.dropped h differs in
    (λ i. take (size i) (room i))

pub set_size-requires-clause-buffers : goal.set_size-requires-clause-buffers
set_size-requires-clause-buffers g c = λ k far.
    let old = c.args.present.now in
    let now = c.clear_behind.new.present in
    let f = c.args.file.0 in
    let there : f < length old.sizes.items = omega (arith, c.requires.file, c.requires.present.sizes_length) in
    let size : c.index.result.now.size ≡ size_in old.sizes.items f = size-read old.sizes.items f c.index.result.now there c.index.ensures in
    let same : size_in now.sizes.items f ≡ size_in old.sizes.items f = (λ i. size_in (c.clear_behind.ensures.sizes i).items f) in
    none-behind c.args.row.now now.sizes.items now.numbers.items now.pool c.args.file k c.clear_behind.ensures.present (omega (arith, far, size, same, c.if-size-index.false))

pub returns-clause-content : goal.returns-clause-content
returns-clause-content g c = λ tells.
    let row = c.args.row.now in
    let at = c.args.at in
    let view = (g.R.Rig.state c.args.rig.now).view in
    let old = c.args.present.now in
    let clear = c.clear_behind.new.present in
    let now = c.set_size.new.present in
    let f = c.args.file.0 in
    let are = c.requires.present in
    let blocks = data_at row at view in
    let room = room_bytes blocks old c.args.file in
    let before = size_in old.sizes.items f in
    let there : f < length old.sizes.items = omega (arith, c.requires.file, are.sizes_length) in
    let size : c.index.result.now.size ≡ before = size-read old.sizes.items f c.index.result.now there c.index.ensures in
    let fits : at + 512 * tree_blocks row ≤ length view = omega (arith, c.requires.fits, (g.met.R.Rig.sound c.args.rig.now).view_fills tells) in
    let all : length room ≡ 512 * row_length old.numbers.items f = room-long row at view fits old.numbers.items are.within old.pool c.stand.ensures c.args.file in
    let here : f < length clear.sizes.items = omega (arith, c.requires.file, c.clear_behind.ensures.present.sizes_length) in
    let grown : size_in now.sizes.items f ≡ c.args.size = (λ i. size_in (c.set_size.ensures.sizes i) f) ∙ size-here clear.sizes.items f _ here in
    let same : room_bytes blocks now c.args.file ≡ room_bytes blocks clear c.args.file = (λ i. room_in blocks (c.set_size.ensures.numbers_stay i).items (c.set_size.ensures.pool_stays i) c.args.file) in
    let filled = same ∙ c.in_ok-clear_behind.ensures.room tells in
    let room-there = are.rooms f c.requires.file in
    let old-there = are.fits f c.requires.file in
    (λ i. take (grown i) (filled i))
    ∙ content-filled room before (512 * blocks_of before - before) c.args.size (omega (arith, size, c.if-size-index.false)) (omega (arith, all, c.requires.blocks, room-there)) (omega (arith, all, old-there, room-there))
    (λ i past low. zeros-past row at view fits old.sizes.items old.numbers.items old.pool c.stand.ensures are c.args.file c.requires.file i (omega (arith, past)) (omega (arith, low, c.requires.blocks, room-there)))
