use Rattle.std.proofs.Common.{◌≡◌, ◌+◌, ◌≤◌, map, drop}
use Rattle.script_model.specs.Numbering.{last_number}
use Rattle.script_model.specs.Script.{without_last, lines_from}
use Rattle.call_script.proofs.Loop.{with_front}
use Rattle.call_script.proofs.parse.lines_of.Given as goal

abbrev pub invariant-loop-place : goal.invariant-loop-place
invariant-loop-place l = record {
  read : with_front l.script (lines_from l.table (l.place + 1) (drop l.place (map (without_last 13) (map (λ w. w.now) l.parts)))) ≡ lines_from l.table 1 (map (without_last 13) (map (λ w. w.now) l.parts));
  last : last_number l.script ≤ l.place;
}
