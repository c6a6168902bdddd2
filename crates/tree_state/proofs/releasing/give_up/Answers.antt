use Rattle.std.proofs.Common.{◌≡◌, ◌<◌, List, ℕ, [], length, set, take, sym, ap, subst, ◌∙◌, arith}
use Rattle.std.specs.Prelude.{slice_index_or}
use Rattle.std.proofs.lemmas.List.{get_or_read}
use Rattle.present_files.specs.Present.{ArePresent, never_changed, room_in, size_in}
use Rattle.tree_region.specs.Numbers.{with_room}
use Rattle.tree_state.proofs.NameReleased.{content-other, present-released}
use Rattle.tree_state.proofs.releasing.give_up.Goals as goal

-- the file's row is one of zeros
zeros-are : (numbers : List (List ℕ)) (f : ℕ) (list new : List ℕ) → list ≡ slice_index_or numbers f [] → new ≡ with_room (length list) (take 0 list) → new ≡ with_room (length (slice_index_or numbers f [])) (take 0 (slice_index_or numbers f []))
zeros-are numbers f list new same is = is ∙ ap (λ (ns : List ℕ). with_room (length ns) (take 0 ns)) same

pub returns-clause-present : goal.returns-clause-present
returns-clause-present c =
    let old = c.args.present.now in
    let numbers = old.numbers.items in
    let f = c.args.file.0 in
    let within : f < length numbers = omega (arith, c.requires.file, c.requires.present.numbers_length) in
    let list : c.index_mut.result.now ≡ slice_index_or numbers f [] = get_or_read numbers f c.index_mut.result.now within c.index_mut.ensures.value [] in
    subst (λ (ns : List ℕ). ArePresent c.args.row.now (set old.sizes.items f never_changed) (set numbers f ns) c.release_file.new.self) (sym (zeros-are numbers f c.index_mut.result.now c.keep_first.new.self list c.keep_first.ensures))
    (present-released c.args.row.now old.sizes.items numbers old.pool c.args.file c.requires.present c.requires.file c.release_file.new.self c.release_file.ensures.released c.release_file.ensures.files)

pub returns-clause-others : goal.returns-clause-others
returns-clause-others c = λ blocks other differs.
    let old = c.args.present.now in
    let numbers = old.numbers.items in
    let f = c.args.file.0 in
    let within : f < length numbers = omega (arith, c.requires.file, c.requires.present.numbers_length) in
    let list : c.index_mut.result.now ≡ slice_index_or numbers f [] = get_or_read numbers f c.index_mut.result.now within c.index_mut.ensures.value [] in
    subst (λ (ns : List ℕ). take (size_in (set old.sizes.items f never_changed) other.0) (room_in blocks (set numbers f ns) c.release_file.new.self other) ≡ take (size_in old.sizes.items other.0) (room_in blocks numbers old.pool other))
    (sym (zeros-are numbers f c.index_mut.result.now c.keep_first.new.self list c.keep_first.ensures))
    (content-other c.args.row.now old.sizes.items numbers old.pool c.args.file c.requires.present c.requires.file c.release_file.new.self c.release_file.ensures.released blocks other differs)
