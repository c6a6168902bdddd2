use Rattle.std.proofs.Common.{◌≡◌, ◌+◌, ◌-◌, ◌*◌, ◌<◌, ◌≤◌, length, take, drop, ext_get_or, sym, ◌∙◌, arith}
use Rattle.std.proofs.lemmas.List.{length-drop, length-take}
use Rattle.apex_model.specs.Layout.{tree_blocks}
use Rattle.rig_core.specs.Bytes.{part}
use Rattle.rig_core.proofs.Put.{byte-part, length-part}
use Rattle.tree_region.specs.InStep.{data_at}
use Rattle.present_files.specs.Present.{present_block, room_bytes, row_length}
use Rattle.present_files.proofs.Contents.{piece-read, put-mid-long}
use Rattle.present_files.proofs.ReadRuns.{reads_then}
use Rattle.present_files.proofs.Rooms.{room-byte, room-long}
use Rattle.present_files.proofs.reading.read_blocks.Goals as goal

pub loop-k-preserved : goal.loop-k-preserved
loop-k-preserved g c =
    let row = c.args.row.now in
    let view = (g.R.Rig.state c.args.rig.now).view in
    let p = c.args.present.now in
    let are = c.requires.present in
    let k = c.loop-k.k in
    let from = c.args.from in
    let into = c.loop-k.into in
    let start = c.max-start.result in
    let stop = c.min-stop.result in
    let reads = c.loop-k.invariant.reads in
    let less : k < c.div_ceil-k-end.result = search arith in
    let same-long : length into ≡ length c.args.into.now = c.loop-k.invariant.long in
    let end : 512 * k < from + length into = omega (arith, less, c.div_ceil-k-end.ensures, same-long) in
    let mid-long : length (take (stop - from - (start - from)) (drop (start - from) into)) ≡ stop - from - (start - from)
    = omega (arith, length-take (stop - from - (start - from)) (drop (start - from) into), length-drop (start - from) into, c.max-start.ensures, c.min-stop.ensures, end, same-long) in
    let long : length c.read_block.new.into ≡ stop - from - (start - from) = c.read_block.ensures.long ∙ mid-long in
    record {
      long = put-mid-long into c.read_block.new.into (start - from) (stop - from - (start - from)) long (omega (arith, c.max-start.ensures, c.min-stop.ensures, end, same-long, less, c.div_ceil-k-end.ensures)) ∙ same-long;
      reads = reads_then g.R.Rig.tells_view (g.R.Rig.state c.args.rig.now) (g.R.Rig.state c.loop-k.rig) (g.R.Rig.state c.read_block.new.rig) reads c.read_block.ensures.reads;
      done = λ tells i low before.
          let seen = reads.view tells in
          let fits : c.args.at + 512 * tree_blocks row ≤ length view = omega (arith, c.requires.fits, (g.met.R.Rig.sound c.args.rig.now).view_fills tells) in
          let block-in : k < row_length p.numbers.items c.args.file.0 = omega (arith, end, same-long, c.requires.within, are.fits c.args.file.0 c.requires.file, are.rooms c.args.file.0 c.requires.file) in
          let piece : c.read_block.new.into ≡ part (start - 512 * k) (stop - from - (start - from)) (present_block (data_at row c.args.at view) p c.args.file k)
          = c.in_ok-read_block.ensures.bytes tells ∙ (λ t. part (start - 512 * k) (mid-long t) (present_block (data_at row c.args.at (seen t)) p c.args.file k)) in
          piece-read (room_bytes (data_at row c.args.at view) p c.args.file) (present_block (data_at row c.args.at view) p c.args.file k) into c.read_block.new.into from k start stop
          c.max-start.ensures (omega (arith, c.min-stop.ensures, same-long))
          (λ j few. room-byte row c.args.at view fits p.numbers.items are.within p.pool c.stand.ensures c.args.file k j block-in few)
          piece long (c.loop-k.invariant.done tells) i (omega (arith, low, c.loop-k.auto)) before;
    }

pub returns-clause-bytes : goal.returns-clause-bytes
returns-clause-bytes g c = λ tells.
    let row = c.args.row.now in
    let view = (g.R.Rig.state c.args.rig.now).view in
    let p = c.args.present.now in
    let are = c.requires.present in
    let room = room_bytes (data_at row c.args.at view) p c.args.file in
    let fits : c.args.at + 512 * tree_blocks row ≤ length view = omega (arith, c.requires.fits, (g.met.R.Rig.sound c.args.rig.now).view_fills tells) in
    let all : length room ≡ 512 * row_length p.numbers.items c.args.file.0 = room-long row c.args.at view fits p.numbers.items are.within p.pool c.stand.ensures c.args.file in
    let enough : c.args.from + length c.args.into.now ≤ length room = omega (arith, all, c.requires.within, are.fits c.args.file.0 c.requires.file, are.rooms c.args.file.0 c.requires.file) in
    let long : length c.loop-k.into ≡ length c.args.into.now = c.loop-k.invariant.long in
    let over : c.div_ceil-k-end.result ≤ c.loop-k.k = search arith in
    ext_get_or 0 c.loop-k.into (part c.args.from (length c.args.into.now) room) (long ∙ sym (length-part c.args.from (length c.args.into.now) room enough))
    (λ i low. c.loop-k.invariant.done tells i low (omega (arith, low, long, over, c.div_ceil-k-end.ensures)) ∙ sym (byte-part c.args.from (length c.args.into.now) i room (omega (arith, low, long))))
