use Rattle.std.proofs.Common.{◌≡◌, map}
use Rattle.std.specs.List.{range_with_len}
use Rattle.block_pool.specs.Links.{first_next, first_previous}
use Rattle.block_pool.proofs.lists.IndexLists.new.Given as goal

-- the links of the places so far
abbrev pub invariant-loop-k : goal.invariant-loop-k
invariant-loop-k l =
    (l.next.items ≡ map (first_next l.nodes) (range_with_len 0 l.k)) × (l.previous.items ≡ map (first_previous l.nodes) (range_with_len 0 l.k))
