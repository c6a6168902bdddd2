use Rattle.std.proofs.Common.{◌≡◌, ◌≤◌, ◌||◌, ◌&&◌, map, length}
use Rattle.std.specs.List.{list_any, range_with_len}
use Rattle.apex_model.specs.Isolation.{is_marked, feeds, partition_numbers}
use Rattle.script_run.proofs.upstream.Marks.spread.Given as goal

-- the marks of the first partitions
abbrev pub invariant-loop-q : goal.invariant-loop-q
invariant-loop-q l =
    (l.content.items ≡ map (λ q. is_marked l.self q || list_any (λ member. is_marked l.self member && feeds l.table q member) (partition_numbers l.table)) (range_with_len 0 l.q))
    × (length l.content.items ≡ l.q) × (l.q-end ≤ 16)
