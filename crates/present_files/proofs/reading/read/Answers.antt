use Rattle.std.proofs.Common.{◌≡◌, ℕ, ◌-◌, ◌++◌, min, List, length, take, drop, ap, ◌∙◌, arith}
use Rattle.std.proofs.lemmas.List.{length-take}
use Rattle.rig_core.specs.Bytes.{part}
use Rattle.tree_region.specs.InStep.{data_at}
use Rattle.present_files.specs.Present.{room_bytes, size_in}
use Rattle.present_files.proofs.Contents.{content-read}
use Rattle.present_files.proofs.Sizes.{size-read}
use Rattle.present_files.proofs.reading.read.Goals as goal

pub returns-clause-bytes : goal.returns-clause-bytes
returns-clause-bytes g c = λ tells.
    let p = c.args.present.now in
    let room = room_bytes (data_at c.args.row.now c.args.at (g.R.Rig.state c.args.rig.now).view) p c.args.file in
    let size : c.index.result.now.size ≡ size_in p.sizes.items c.args.file.0 = size-read p.sizes.items c.args.file.0 c.index.result.now (omega (arith, c.requires.file, c.requires.present.sizes_length)) c.index.ensures in
    let count : length (take c.min-count.result c.args.into.now) ≡ min (length c.args.into.now) (size_in p.sizes.items c.args.file.0 - c.args.from)
    = omega (arith, length-take c.min-count.result c.args.into.now, c.min-count.ensures, size) in
    ap (λ (xs : List ℕ). xs ++ drop c.min-count.result c.args.into.now)
    (c.in_ok-read_blocks.ensures.bytes tells ∙ ap (λ (n : ℕ). part c.args.from n room) count ∙ content-read room (size_in p.sizes.items c.args.file.0) c.args.from (length c.args.into.now) (omega (arith, size, c.if-from-size.false)))
