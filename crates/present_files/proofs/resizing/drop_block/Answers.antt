use Rattle.std.proofs.Common.{◌≡◌, ◌+◌, ◌<◌, List, ℕ, [], length, set, ap, ◌∙◌, arith}
use Rattle.std.specs.Prelude.{slice_index_or}
use Rattle.std.proofs.lemmas.List.{get_or_read}
use Rattle.present_files.proofs.GivenUp.{drop-one, present-dropped}
use Rattle.present_files.proofs.resizing.drop_block.Goals as goal

pub returns-clause-dropped : goal.returns-clause-dropped
returns-clause-dropped c =
    let numbers = c.args.present.now.numbers.items in
    let f = c.args.file.0 in
    let within : f < length numbers = omega (arith, c.requires.file, c.requires.present.numbers_length) in
    let list : c.index_mut.result.now ≡ slice_index_or numbers f [] = get_or_read numbers f c.index_mut.result.now within c.index_mut.ensures.value [] in
    drop-one numbers (set numbers f c.put.new.self) c.args.present.now.pool c.let_go.new.pool c.args.file c.args.k within (omega (arith, c.requires.within, c.requires.present.rooms f c.requires.file))
    c.let_go.ensures.others c.let_go.ensures.gone (ap (set numbers f) (c.put.ensures ∙ ap (λ (ns : List ℕ). set ns c.args.k 0) list))

pub returns-clause-present : goal.returns-clause-present
returns-clause-present c =
    present-dropped c.args.row.now c.args.present.now.sizes.items c.args.present.now.numbers.items (set c.args.present.now.numbers.items c.args.file.0 c.put.new.self) c.args.present.now.pool c.let_go.new.pool c.args.file c.args.k (c.args.k + 1)
    c.requires.present (returns-clause-dropped c)
