use Rattle.std.proofs.Common.{◌≡◌, ℕ, List, length, replicate, sym, ap, ◌∙◌, rules}
use Rattle.std.proofs.lemmas.List.{length-replicate}
use Rattle.present_files.proofs.HeldBlocks.{held-node, taken-bytes, taken-free, taken-node, taken-others}
use Rattle.block_pool.specs.Buffers.{node_of}
use Rattle.present_files.proofs.holding.hold_zeros.Goals as goal

pub returns-clause-held : goal.returns-clause-held
returns-clause-held c =
    held-node (node_of c.take.new.self c.args.file c.args.k) c.in-Some.node
    (taken-node c.args.pool.now c.take.new.self c.stand.ensures c.args.file c.args.k c.in-Some.node c.fill.new.self (sym c.in-Some.ensures.first) c.in-Some.ensures.within c.requires.file_within c.requires.absent c.in-Some.ensures.taken)

pub returns-clause-bytes : goal.returns-clause-bytes
returns-clause-bytes c = λ stored.
    let same : c.fill.new.self ≡ replicate (length c.bytes_mut.result.now) 0 = search rules in
    let filled : c.fill.new.self ≡ replicate 512 0 = same ∙ ap (λ (n : ℕ). replicate n 0) c.bytes_mut.ensures.size in
    let long : length c.fill.new.self ≡ 512 = ap (λ (xs : List ℕ). length xs) filled ∙ length-replicate {A = ℕ} 512 0 in
    taken-bytes c.args.pool.now c.take.new.self c.stand.ensures c.args.file c.args.k c.in-Some.node c.fill.new.self (sym c.in-Some.ensures.first) c.in-Some.ensures.within c.requires.file_within c.requires.absent c.in-Some.ensures.taken stored
    long ∙ filled

pub returns-clause-others : goal.returns-clause-others
returns-clause-others c =
    taken-others c.args.pool.now c.take.new.self c.stand.ensures c.args.file c.args.k c.in-Some.node c.fill.new.self (sym c.in-Some.ensures.first) c.in-Some.ensures.within c.requires.file_within c.requires.absent c.in-Some.ensures.taken

pub returns-clause-free : goal.returns-clause-free
returns-clause-free c =
    taken-free c.args.pool.now c.take.new.self c.stand.ensures c.args.file c.args.k c.in-Some.node c.fill.new.self (sym c.in-Some.ensures.first) c.in-Some.ensures.within c.requires.file_within c.requires.absent c.in-Some.ensures.taken
