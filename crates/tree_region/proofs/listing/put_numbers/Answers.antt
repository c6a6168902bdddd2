use Rattle.std.proofs.Common.{◌-◌, ◌*◌, ◌≤◌, length, sym, ap, ◌∙◌, arith}
use Rattle.std.proofs.lemmas.Slice.{take-put_mid_below}
use Rattle.tree_region.specs.Words.{words}
use Rattle.tree_region.proofs.SpelledBodies.{words-same}
use Rattle.tree_region.proofs.listing.put_numbers.Goals as goal
use borrow.Rule.Slice.PartMut.{put_mid}

pub returns-clause-words : goal.returns-clause-words
returns-clause-words c =
    let count = c.put_files-written.result in
    let bytes = c.put_files-written.new.bytes in
    let after = put_mid (4 * count) (length bytes - 4 * count) bytes c.fill.new.self in
    let within : 4 * count ≤ length bytes = omega (arith, c.put_files-written.ensures.count, c.put_files-written.ensures.long, c.requires.room) in
    ap (λ n. words n after) (sym c.put_files-written.ensures.count)
    ∙ words-same count (4 * count) after bytes (omega arith) (take-put_mid_below (4 * count) (length bytes - 4 * count) bytes c.fill.new.self (4 * count) (omega arith) within)
    ∙ c.put_files-written.ensures.words
