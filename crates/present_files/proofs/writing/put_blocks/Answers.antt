use Rattle.std.proofs.Common.{◌≡◌, ℕ, ◌+◌, ◌-◌, ◌*◌, ◌/◌, ◌<◌, ◌≤◌, List, length, take, drop, sym, subst, ap, ◌∙◌, refl, arith}
use Rattle.std.specs.Prelude.{IsSome, Option, position}
use Rattle.std.proofs.lemmas.List.{take_all}
use Rattle.block_pool.specs.declared.buffers.Block.{Block}
use Rattle.block_pool.specs.Buffers.{holds_block}
use Rattle.rig_core.specs.Bytes.{put}
use Rattle.tree_region.specs.InStep.{data_at}
use Rattle.present_files.specs.Present.{room_bytes, row_length}
use Rattle.present_files.proofs.Contents.{piece-put}
use Rattle.present_files.proofs.Rooms.{room-long}
use Rattle.present_files.proofs.writing.put_blocks.Goals as goal

pub put_in_block-requires-clause-held : goal.put_in_block-requires-clause-held
put_in_block-requires-clause-held c =
    let k = c.loop-k.k in
    let less : k < c.div_ceil-k-end.result = search arith in
    let first : c.args.from / 512 ≤ k = search arith in
    subst (λ (blocks : List (Option Block)). IsSome (position (holds_block c.args.file k) blocks)) (sym c.loop-k.invariant.nodes)
    (c.requires.held k first (omega (arith, less, c.div_ceil-k-end.ensures)))

pub loop-k-preserved : goal.loop-k-preserved
loop-k-preserved c =
    let row = c.args.row.now in
    let p = c.args.present.now in
    let are = c.requires.present in
    let k = c.loop-k.k in
    let from = c.args.from in
    let bytes = c.args.bytes.now in
    let start = c.max-start.result in
    let stop = c.min-stop.result in
    let before = c.loop-k.invariant in
    let less : k < c.div_ceil-k-end.result = search arith in
    let first : from / 512 ≤ k = search arith in
    let end : 512 * k < from + length bytes = omega (arith, less, c.div_ceil-k-end.ensures) in
    record {
      room = λ at image fits.
          let piece = take (stop - from - (start - from)) (drop (start - from) bytes) in
          let room0 = room_bytes (data_at row at image) p c.args.file in
          let all : length room0 ≡ 512 * row_length p.numbers.items c.args.file.0 = room-long row at image fits p.numbers.items are.within p.pool c.stand.ensures c.args.file in
          let enough : from + length bytes ≤ length room0 = omega (arith, all, c.requires.within, are.fits c.args.file.0 c.requires.file, are.rooms c.args.file.0 c.requires.file) in
          c.put_in_block.ensures.room at image fits
          ∙ ap (λ (xs : List ℕ). put (512 * k + (start - 512 * k)) piece xs) (before.room at image fits)
          ∙ piece-put room0 bytes piece from k start stop c.max-start.ensures c.min-stop.ensures end (omega (arith, first)) enough refl;
      others = λ blocks h differs. c.put_in_block.ensures.others blocks h differs ∙ before.others blocks h differs;
      nodes = c.put_in_block.ensures.nodes ∙ before.nodes;
      lists = c.put_in_block.ensures.lists ∙ before.lists;
      buffers = c.put_in_block.ensures.buffers ∙ before.buffers;
      present = c.put_in_block.ensures.present;
      sizes = c.put_in_block.ensures.sizes ∙ before.sizes;
      numbers = c.put_in_block.ensures.numbers ∙ before.numbers;
    }

pub returns-clause-room : goal.returns-clause-room
returns-clause-room c = λ at image fits.
    let over : c.div_ceil-k-end.result ≤ c.loop-k.k = search arith in
    c.loop-k.invariant.room at image fits
    ∙ ap (λ (xs : List ℕ). put c.args.from xs (room_bytes (data_at c.args.row.now at image) c.args.present.now c.args.file))
    (take_all (512 * c.loop-k.k - c.args.from) c.args.bytes.now (omega (arith, over, c.div_ceil-k-end.ensures)))
