use Rattle.std.specs.Prelude.{◌≡◌, ◌≤◌, None, take}
use Rattle.module_session.specs.Sessions.{table_of_session}
use Rattle.script_run.specs.Chosen.{is_hearer}
use Rattle.script_run.specs.Names.{CountsNames}
use Rattle.script_run.proofs.Hearing.{ReachedFor}
use Rattle.script_run.proofs.chosen.carry_out_for.Given as goal

abbrev pub invariant-lines : goal.invariant-lines
invariant-lines g l =
    ReachedFor g.R.Rig.tells_text g.R.Rig.tells_view (table_of_session l.initial.session) l.script (is_hearer l.hearer) l.k l.initial.session (g.R.Rig.state l.initial.rig) l.session l.tally (g.R.Rig.state l.rig)
    × (l.hearer ≡ None → (g.R.Rig.state l.rig).told ≡ (g.R.Rig.state l.initial.rig).told)
    × (l.hearer ≡ None → (g.R.Rig.state l.rig).tells ≤ (g.R.Rig.state l.initial.rig).tells)
    × CountsNames g.R.Rig.keeps_cuts g.R.Rig.tells_view (table_of_session l.initial.session) (take l.k l.script) l.initial.session (g.R.Rig.state l.initial.rig) (g.R.Rig.state l.rig)
