use Rattle.std.proofs.Common.{◌≡◌, length, take, drop, slice_index_or, arith}
use Rattle.std.proofs.lemmas.List.{length-take-le}
use Rattle.file_tree.proofs.Written.{header-kept, behind-kept}
use Rattle.file_tree.proofs.bodies.put_header.Goals as goal

pub returns-clause-header : goal.returns-clause-header
returns-clause-header c = λ sequence few.
    let long : length (take 64 c.args.body.now) ≡ 64 = length-take-le 64 c.args.body.now c.requires in
    header-kept c.put_body_header.new.b (drop 64 c.args.body.now) (slice_index_or c.args.body.now 0 0) sequence (omega (arith, long)) c.put_body_header.ensures few

pub returns-clause-behind : goal.returns-clause-behind
returns-clause-behind c =
    let long : length (take 64 c.args.body.now) ≡ 64 = length-take-le 64 c.args.body.now c.requires in
    behind-kept c.put_body_header.new.b (drop 64 c.args.body.now) (slice_index_or c.args.body.now 0 0) (omega (arith, long))
