use Rattle.std.proofs.Common.{◌≡◌}
use Rattle.std.specs.Prelude.{Some}
use Rattle.module_session.specs.Sessions.{table_of_session}
use Rattle.script_run.specs.Chosen.{is_hearer, HaltsAt}
use Rattle.script_run.specs.declared.lines.LineStop.TheVariants as stop
use Rattle.script_run.proofs.Faults.{halt-few, halts-heard, heard-fault_pairs, stops-fault_heard, stops-heard}
use Rattle.script_run.proofs.chosen.carry_out_heard.Given as given
use Rattle.script_run.proofs.chosen.carry_out_heard.Goals as goal

pub tell_fault-requires : goal.tell_fault-requires
tell_fault-requires g c = record {
  few = halt-few (table_of_session c.args.session.now) c.args.script.now (is_hearer (Some c.args.p)) c.args.session.now (g.R.Rig.state c.args.rig.now) (g.R.Rig.state c.carry_out_for.new.rig) c.in-Err-Device.number c.requires.of_table
      (c.carry_out_for.ensures.halted c.in-Err-Device.number (cc));
}

pub returns-in-Err-Tell-clause-stopped : goal.returns-in-Err-Tell-clause-stopped
returns-in-Err-Tell-clause-stopped g c = λ is.
    stops-heard (table_of_session c.args.session.now) c.args.script.now (is_hearer (Some c.args.p)) c.args.session.now (g.R.Rig.state c.args.rig.now) (g.R.Rig.state c.carry_out_for.new.rig) (c.carry_out_for.ensures.stopped (cc))

-- ---- the device failed

halted : (g : given.Over) (c : goal.After-tell_fault g) → HaltsAt g.R.Rig.tells_text g.R.Rig.tells_view (table_of_session c.args.session.now) c.args.script.now (is_hearer (Some c.args.p)) c.args.session.now
    (g.R.Rig.state c.args.rig.now) (g.R.Rig.state c.carry_out_for.new.rig) c.in-Err-Device.number
halted g c = c.carry_out_for.ensures.halted c.in-Err-Device.number (cc)

pub returns-in-Err-Device-clause-halted : goal.returns-in-Err-Device-clause-halted
returns-in-Err-Device-clause-halted g c = λ is.
    let e : c.tell_fault.result ≡ stop.Device = cc in
    halts-heard g.R.Rig.tells_text g.R.Rig.tells_view g.R.Rig.keeps_cuts (table_of_session c.args.session.now) c.args.script.now (is_hearer (Some c.args.p)) c.args.session.now (g.R.Rig.state c.args.rig.now)
    (g.R.Rig.state c.carry_out_for.new.rig) (g.R.Rig.state c.tell_fault.new.rig) c.in-Err-Device.number (halted g c) c.tell_fault.ensures.tells (λ t. c.tell_fault.ensures.told t e)

pub returns-in-Err-Device-clause-stopped : goal.returns-in-Err-Device-clause-stopped
returns-in-Err-Device-clause-stopped g c = λ is.
    let e : c.tell_fault.result ≡ stop.Tell = cc in
    stops-fault_heard g.R.Rig.tells_text g.R.Rig.tells_view g.R.Rig.keeps_cuts (table_of_session c.args.session.now) c.args.script.now (is_hearer (Some c.args.p)) c.args.session.now (g.R.Rig.state c.args.rig.now)
    (g.R.Rig.state c.carry_out_for.new.rig) (g.R.Rig.state c.tell_fault.new.rig) c.in-Err-Device.number (halted g c) c.tell_fault.ensures.tells c.carry_out_for.ensures.later (c.tell_fault.ensures.cause e)

pub returns-in-Err-Device-clause-pairs : goal.returns-in-Err-Device-clause-pairs
returns-in-Err-Device-clause-pairs g c =
    heard-fault_pairs g.R.Rig.tells_text g.R.Rig.tells_view g.R.Rig.keeps_cuts (table_of_session c.args.session.now) c.args.script.now (is_hearer (Some c.args.p)) c.args.session.now (g.R.Rig.state c.args.rig.now)
    (g.R.Rig.state c.carry_out_for.new.rig) (g.R.Rig.state c.tell_fault.new.rig) c.in-Err-Device.number (halted g c) c.tell_fault.ensures.tells c.reply_lines_tell.ensures c.requires.ready.accepted c.requires.of_table
    (g.met.R.Rig.sound c.carry_out_for.new.rig) c.carry_out_for.ensures.pairs
