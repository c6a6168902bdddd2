use Rattle.std.proofs.Common.{◌≡◌, ◌+◌, ◌-◌, ◌≤◌, ◌++◌}
use Rattle.script_model.specs.Numbering.{last_number}
use Rattle.stress_script.specs.Generator.{draw_lines, generated}
use Rattle.stress_script.proofs.generator.generate.Given as goal

abbrev pub invariant-loop-before : goal.invariant-loop-before
invariant-loop-before l = record {
  drawn : l.script ++ (draw_lines l.table (l.before + 1) (l.lines - l.before) l.draws).0 ≡ generated l.table l.seed l.lines;
  last : last_number l.script ≤ l.before;
}
