use Rattle.std.proofs.Common.{◌≡◌, ℕ, ◌+◌, ◌*◌, ◌<◌, ◌≤◌, max, List, length, take, sym, subst, ap, ◌∙◌, inl, inr, arith}
use Rattle.std.specs.Prelude.{IsSome}
use Rattle.std.proofs.lemmas.Bool.{cases_lt}
use Rattle.apex_model.specs.Layout.{tree_blocks}
use Rattle.block_pool.specs.Buffers.{Buffers, node_of}
use Rattle.rig_core.specs.Bytes.{put}
use Rattle.tree_region.specs.InStep.{data_at}
use Rattle.present_files.specs.Present.{room_bytes, room_in, row_length, size_in}
use Rattle.present_files.proofs.Contents.{content-written}
use Rattle.present_files.proofs.Rooms.{room-long}
use Rattle.present_files.proofs.Sizes.{none-behind, size-here, size-other, size-read}
use Rattle.present_files.proofs.Unchanged.{rooms-same}
use Rattle.present_files.proofs.writing.write.Goals as goal

pub set_size-requires-clause-buffers : goal.set_size-requires-clause-buffers
set_size-requires-clause-buffers g c = λ k far.
    let p = c.args.present.now in
    let now = c.hold_blocks.new.present in
    let f = c.args.file.0 in
    let size : c.index.result.now.size ≡ size_in p.sizes.items f = size-read p.sizes.items f c.index.result.now (omega (arith, c.requires.file, c.requires.present.sizes_length)) c.index.ensures in
    let same : size_in now.sizes.items f ≡ size_in p.sizes.items f = (λ i. size_in (c.hold_blocks.ensures.unchanged.sizes i).items f) in
    none-behind c.args.row.now now.sizes.items now.numbers.items now.pool c.args.file k c.hold_blocks.ensures.present (omega (arith, far, size, same, c.max-size.ensures))

pub zero_blocks-requires-clause-absent : goal.zero_blocks-requires-clause-absent
zero_blocks-requires-clause-absent g c = λ k low high.
    let p = c.args.present.now in
    let now = c.hold_blocks.new.present in
    let f = c.args.file.0 in
    let size : c.index.result.now.size ≡ size_in p.sizes.items f = size-read p.sizes.items f c.index.result.now (omega (arith, c.requires.file, c.requires.present.sizes_length)) c.index.ensures in
    let same : size_in now.sizes.items f ≡ size_in p.sizes.items f = (λ i. size_in (c.hold_blocks.ensures.unchanged.sizes i).items f) in
    ap (λ (b : Buffers). node_of b c.args.file k) c.set_size.ensures.pool_stays
    ∙ none-behind c.args.row.now now.sizes.items now.numbers.items now.pool c.args.file k c.hold_blocks.ensures.present
    (omega (arith, low, high, size, same, c.min-there.ensures, c.div_ceil-blocks.ensures, c.div_ceil.ensures))

pub put_blocks-requires-clause-held : goal.put_blocks-requires-clause-held
put_blocks-requires-clause-held g c = λ k first last.
    elim (cases_lt k c.min-there.result) [
      | inl low ↦
          c.zero_blocks.ensures.more c.args.file k
          (subst (λ (b : Buffers). IsSome (node_of b c.args.file k)) (sym c.set_size.ensures.pool_stays) (c.in_ok-hold_blocks.ensures.held k first low))
      | inr high ↦ c.zero_blocks.ensures.held k high (omega (arith, last, c.div_ceil-blocks.ensures))
    ]

pub returns-clause-content : goal.returns-clause-content
returns-clause-content g c = λ tells.
    let row = c.args.row.now in
    let at = c.args.at in
    let view = (g.R.Rig.state c.args.rig.now).view in
    let p = c.args.present.now in
    let held = c.hold_blocks.new.present in
    let sized = c.set_size.new.present in
    let all_held = c.zero_blocks.new.present in
    let f = c.args.file.0 in
    let bytes = c.args.bytes.now in
    let are = c.requires.present in
    let blocks = data_at row at view in
    let room = room_bytes blocks p c.args.file in
    let there : f < length p.sizes.items = omega (arith, c.requires.file, are.sizes_length) in
    let here : f < length held.sizes.items = omega (arith, c.requires.file, c.hold_blocks.ensures.present.sizes_length) in
    let size : c.index.result.now.size ≡ size_in p.sizes.items f = size-read p.sizes.items f c.index.result.now there c.index.ensures in
    let fits : at + 512 * tree_blocks row ≤ length view = omega (arith, c.requires.fits, (g.met.R.Rig.sound c.args.rig.now).view_fills tells) in
    let all : length room ≡ 512 * row_length p.numbers.items f = room-long row at view fits p.numbers.items are.within p.pool c.stand.ensures c.args.file in
    let old-fits : size_in p.sizes.items f ≤ length room = omega (arith, all, are.fits f c.requires.file, are.rooms f c.requires.file) in
    let new-fits : c.args.from + length bytes ≤ length room = omega (arith, all, c.requires.blocks, are.rooms f c.requires.file) in
    let grown : size_in c.put_blocks.new.present.sizes.items f ≡ max (size_in p.sizes.items f) (c.args.from + length bytes)
    = (λ i. size_in (c.put_blocks.ensures.sizes i).items f) ∙ (λ i. size_in (c.zero_blocks.ensures.sizes i).items f) ∙ (λ i. size_in (c.set_size.ensures.sizes i) f) ∙ size-here held.sizes.items f _ here
    ∙ omega (arith, c.max-size.ensures, size) in
    let same : room_bytes blocks all_held c.args.file ≡ room
    = rooms-same blocks sized all_held c.zero_blocks.ensures.numbers_stay c.args.file (c.zero_blocks.ensures.same blocks c.args.file)
    ∙ (λ i. room_in blocks (c.set_size.ensures.numbers_stay i).items (c.set_size.ensures.pool_stays i) c.args.file)
    ∙ rooms-same blocks p held c.hold_blocks.ensures.unchanged.numbers c.args.file (c.hold_blocks.ensures.unchanged.each_block tells c.args.file) in
    let written = c.put_blocks.ensures.room at view fits in
    (λ i. take (grown i) (written i)) ∙ ap (λ (xs : List ℕ). take (max (size_in p.sizes.items f) (c.args.from + length bytes)) (put c.args.from bytes xs)) same
    ∙ content-written room bytes (size_in p.sizes.items f) c.args.from c.requires.start old-fits new-fits

pub returns-clause-others : goal.returns-clause-others
returns-clause-others g c = λ h differs tells.
    let p = c.args.present.now in
    let held = c.hold_blocks.new.present in
    let f = c.args.file.0 in
    let blocks = data_at c.args.row.now c.args.at (g.R.Rig.state c.args.rig.now).view in
    let size = (λ i. size_in (c.put_blocks.ensures.sizes i).items h.0) ∙ (λ i. size_in (c.zero_blocks.ensures.sizes i).items h.0) ∙ (λ i. size_in (c.set_size.ensures.sizes i) h.0) ∙ size-other held.sizes.items f _ (omega (arith, c.requires.file, c.hold_blocks.ensures.present.sizes_length)) h.0 differs in
    let room = c.put_blocks.ensures.others blocks h differs
    ∙ rooms-same blocks c.set_size.new.present c.zero_blocks.new.present c.zero_blocks.ensures.numbers_stay h (c.zero_blocks.ensures.same blocks h)
    ∙ (λ i. room_in blocks (c.set_size.ensures.numbers_stay i).items (c.set_size.ensures.pool_stays i) h) in
    (λ i. take (size i) (room i)) ∙ c.hold_blocks.ensures.unchanged.contents tells h
