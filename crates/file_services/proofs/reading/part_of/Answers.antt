use Rattle.std.proofs.Common.{arith, length-take}
use Rattle.file_services.proofs.ReadingLaws.{read-few}
use Rattle.file_services.proofs.reading.part_of.Goals as goal

pub slice_bounds-bytes_of-end : goal.slice_bounds-bytes_of-end
slice_bounds-bytes_of-end g c =
    let few = read-few c.args.trees.now c.args.tree c.requires.ready.number c.args.file.0 c.args.from _ c.in-Ok.count c.in-Ok.ensures.count in
    let long = c.read.ensures.long in
    omega (arith, few, long)

pub slice_bounds-bytes_of-end-in-Ok : goal.slice_bounds-bytes_of-end-in-Ok
slice_bounds-bytes_of-end-in-Ok g c =
    let few = read-few c.args.trees.now c.args.tree c.requires.ready.number c.args.file.0 c.args.from _ c.in-Ok.count c.in-Ok.ensures.count in
    let long = c.read.ensures.long in
    let taken = length-take c.in-Ok.count c.read.new.into in
    omega (arith, few, long, taken)
