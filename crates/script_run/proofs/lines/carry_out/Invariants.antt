use Rattle.script_run.specs.Reached.{Reached}
use Rattle.module_session.specs.Sessions.{table_of_session}
use Rattle.script_run.proofs.lines.carry_out.Given as goal

abbrev pub invariant-lines : goal.invariant-lines
invariant-lines g l =
    Reached g.R.Rig.tells_text g.R.Rig.tells_view (table_of_session l.initial.session) l.script l.k l.initial.session (g.R.Rig.state l.initial.rig) l.session (g.R.Rig.state l.rig)
