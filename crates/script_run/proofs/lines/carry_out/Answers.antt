use Rattle.std.proofs.Common.{◌≡◌, ℕ, length, sym, subst, arith}
use Rattle.apex_types.specs.Rows.{Rows}
use Rattle.apex_model.specs.Lines.{IsLineOf}
use Rattle.apex_model.proofs.AcceptedTables.{all_at}
use Rattle.module_session.specs.Sessions.{table_of_session}
use Rattle.script_run.specs.Reached.{Reached}
use Rattle.script_run.specs.declared.lines.LineStop.TheVariants as stop
use Rattle.script_run.proofs.Turns.{AtLine, Steps, first-early, made-steps, made-moments, reached-none, reached-line, reply-pairs, stops-reply, fault-pairs, halts, stops-fault}
use Rattle.script_run.proofs.lines.carry_out.Given as given
use Rattle.script_run.proofs.lines.carry_out.Goals as goal

pub lines-init : goal.lines-init
lines-init g c = reached-none c.step_keeps_valid.ensures c.args.script.now c.args.session.now (g.R.Rig.state c.args.rig.now) (g.met.R.Rig.sound c.args.rig.now) c.requires.ready c.requires.early c.len-k-end.ensures.numbered

pub step-requires-clause-of_table : goal.step-requires-clause-of_table
step-requires-clause-of_table g c =
    let line = c.line-line.result.now in
    subst (λ (t : Rows). IsLineOf t line) (sym c.lines.invariant.same_table) (all_at (IsLineOf (table_of_session c.args.session.now)) c.args.script.now c.lines.k line c.requires.of_table c.line-line.ensures.value)

pub step-requires-clause-early : goal.step-requires-clause-early
step-requires-clause-early g c = first-early c.args.script.now c.lines.k c.line-line.result.now c.lines.session c.line-line.ensures.value c.lines.invariant.early

-- ---- the device failed in a line

at-fault : (g : given.Over) (c : goal.After-tell_fault g) → AtLine g.R.Rig.tells_text g.R.Rig.tells_view (table_of_session c.args.session.now) c.args.script.now c.args.session.now (g.R.Rig.state c.args.rig.now)
    c.lines.k c.line-line.result.now c.lines.session (g.R.Rig.state c.lines.rig)
at-fault g c = record {
  step = c.step_keeps_valid.ensures;
  law = c.reply_lines_tell.ensures;
  accepted = c.requires.ready.accepted;
  are = c.requires.of_table;
  rise = c.len-k-end.ensures.numbered;
  at = c.line-line.ensures.value;
  reached = c.lines.invariant;
}

pub returns-in-Err-clause-halted : goal.returns-in-Err-clause-halted
returns-in-Err-clause-halted g c = λ is.
    let e : c.tell_fault.result ≡ stop.Device = cc in
    halts g.R.Rig.tells_text g.R.Rig.tells_view g.R.Rig.keeps_cuts (table_of_session c.args.session.now) c.args.script.now c.args.session.now (g.R.Rig.state c.args.rig.now) c.lines.k c.line-line.result.now c.lines.session
    (g.R.Rig.state c.lines.rig)
    (at-fault g c) (g.R.Rig.state c.step.new.rig) (g.R.Rig.state c.tell_fault.new.rig) c.step.ensures.runs.later c.step.ensures.runs.outside.told c.in-Err.ensures.cause c.tell_fault.ensures.tells (λ t. c.tell_fault.ensures.told t e)

pub returns-in-Err-clause-stopped : goal.returns-in-Err-clause-stopped
returns-in-Err-clause-stopped g c = λ is.
    let e : c.tell_fault.result ≡ stop.Tell = cc in
    stops-fault g.R.Rig.tells_text g.R.Rig.tells_view g.R.Rig.keeps_cuts (table_of_session c.args.session.now) c.args.script.now c.args.session.now (g.R.Rig.state c.args.rig.now) c.lines.k c.line-line.result.now c.lines.session
    (g.R.Rig.state c.lines.rig)
    (at-fault g c) (g.R.Rig.state c.step.new.rig) (g.R.Rig.state c.tell_fault.new.rig) c.step.ensures.runs.later c.step.ensures.runs.outside.told c.in-Err.ensures.cause c.tell_fault.ensures.tells (c.tell_fault.ensures.cause e)

pub returns-in-Err-clause-pairs : goal.returns-in-Err-clause-pairs
returns-in-Err-clause-pairs g c =
    fault-pairs g.R.Rig.tells_text g.R.Rig.tells_view g.R.Rig.keeps_cuts (table_of_session c.args.session.now) c.args.script.now c.args.session.now (g.R.Rig.state c.args.rig.now) c.lines.k c.line-line.result.now c.lines.session
    (g.R.Rig.state c.lines.rig)
    (at-fault g c) (g.R.Rig.state c.step.new.rig) (g.R.Rig.state c.tell_fault.new.rig) (g.met.R.Rig.sound c.lines.rig, g.met.R.Rig.sound c.step.new.rig, g.met.R.Rig.sound c.tell_fault.new.rig) c.step.ensures.runs.outside.told
    (made-moments (table_of_session c.args.session.now) (table_of_session c.lines.session) c.line-line.result.now c.lines.session (g.R.Rig.state c.lines.rig) (g.R.Rig.state c.step.new.rig) c.lines.invariant.same_table c.step.ensures.moments)
    c.tell_fault.ensures.tells

-- ---- its reply was not told

at-untold : (g : given.Over) (c : goal.In-Err-tell_reply g) → AtLine g.R.Rig.tells_text g.R.Rig.tells_view (table_of_session c.args.session.now) c.args.script.now c.args.session.now (g.R.Rig.state c.args.rig.now)
    c.lines.k c.line-line.result.now c.lines.session (g.R.Rig.state c.lines.rig)
at-untold g c = record {
  step = c.step_keeps_valid.ensures;
  law = c.reply_lines_tell.ensures;
  accepted = c.requires.ready.accepted;
  are = c.requires.of_table;
  rise = c.len-k-end.ensures.numbered;
  at = c.line-line.ensures.value;
  reached = c.lines.invariant;
}

steps-untold : (g : given.Over) (c : goal.In-Err-tell_reply g) → Steps g.R.Rig.tells_view (table_of_session c.args.session.now) c.line-line.result.now c.lines.session c.step.new.self c.in-Ok.reply (g.R.Rig.state c.lines.rig) (g.R.Rig.state c.step.new.rig)
steps-untold g c = made-steps (table_of_session c.args.session.now) (table_of_session c.lines.session) c.line-line.result.now c.lines.session c.step.new.self c.in-Ok.reply (g.R.Rig.state c.lines.rig) (g.R.Rig.state c.step.new.rig)
    c.lines.invariant.same_table c.step.ensures.runs c.in-Ok.ensures.ready c.step.ensures.table c.in-Ok.ensures.carried_out

pub returns-in-Err-tell_reply-clause-stopped : goal.returns-in-Err-tell_reply-clause-stopped
returns-in-Err-tell_reply-clause-stopped g c = λ is.
    stops-reply g.R.Rig.tells_text g.R.Rig.tells_view g.R.Rig.keeps_cuts (table_of_session c.args.session.now) c.args.script.now c.args.session.now (g.R.Rig.state c.args.rig.now) c.lines.k c.line-line.result.now c.lines.session
    (g.R.Rig.state c.lines.rig)
    (at-untold g c) c.step.new.self c.in-Ok.reply (g.R.Rig.state c.step.new.rig) (g.R.Rig.state c.tell_reply.new.rig) (g.met.R.Rig.sound c.lines.rig, g.met.R.Rig.sound c.step.new.rig, g.met.R.Rig.sound c.tell_reply.new.rig) (steps-untold g c)
    (made-moments (table_of_session c.args.session.now) (table_of_session c.lines.session) c.line-line.result.now c.lines.session (g.R.Rig.state c.lines.rig) (g.R.Rig.state c.step.new.rig) c.lines.invariant.same_table c.step.ensures.moments)
    c.tell_reply.ensures.tells c.in-Err-tell_reply.ensures.something c.in-Err-tell_reply.ensures.cause

pub returns-in-Err-tell_reply-clause-pairs : goal.returns-in-Err-tell_reply-clause-pairs
returns-in-Err-tell_reply-clause-pairs g c =
    reply-pairs g.R.Rig.tells_text g.R.Rig.tells_view g.R.Rig.keeps_cuts (table_of_session c.args.session.now) c.args.script.now c.args.session.now (g.R.Rig.state c.args.rig.now) c.lines.k c.line-line.result.now c.lines.session
    (g.R.Rig.state c.lines.rig)
    (at-untold g c) c.step.new.self c.in-Ok.reply (g.R.Rig.state c.step.new.rig) (g.R.Rig.state c.tell_reply.new.rig) (g.met.R.Rig.sound c.lines.rig, g.met.R.Rig.sound c.step.new.rig, g.met.R.Rig.sound c.tell_reply.new.rig) (steps-untold g c)
    (made-moments (table_of_session c.args.session.now) (table_of_session c.lines.session) c.line-line.result.now c.lines.session (g.R.Rig.state c.lines.rig) (g.R.Rig.state c.step.new.rig) c.lines.invariant.same_table c.step.ensures.moments)
    c.tell_reply.ensures.tells

-- ---- it was told

at-told : (g : given.Over) (c : goal.In-Ok-tell_reply g) → AtLine g.R.Rig.tells_text g.R.Rig.tells_view (table_of_session c.args.session.now) c.args.script.now c.args.session.now (g.R.Rig.state c.args.rig.now)
    c.lines.k c.line-line.result.now c.lines.session (g.R.Rig.state c.lines.rig)
at-told g c = record {
  step = c.step_keeps_valid.ensures;
  law = c.reply_lines_tell.ensures;
  accepted = c.requires.ready.accepted;
  are = c.requires.of_table;
  rise = c.len-k-end.ensures.numbered;
  at = c.line-line.ensures.value;
  reached = c.lines.invariant;
}

steps-told : (g : given.Over) (c : goal.In-Ok-tell_reply g) → Steps g.R.Rig.tells_view (table_of_session c.args.session.now) c.line-line.result.now c.lines.session c.step.new.self c.in-Ok.reply (g.R.Rig.state c.lines.rig) (g.R.Rig.state c.step.new.rig)
steps-told g c = made-steps (table_of_session c.args.session.now) (table_of_session c.lines.session) c.line-line.result.now c.lines.session c.step.new.self c.in-Ok.reply (g.R.Rig.state c.lines.rig) (g.R.Rig.state c.step.new.rig)
    c.lines.invariant.same_table c.step.ensures.runs c.in-Ok.ensures.ready c.step.ensures.table c.in-Ok.ensures.carried_out

pub lines-preserved : goal.lines-preserved
lines-preserved g c =
    reached-line g.R.Rig.tells_text g.R.Rig.tells_view g.R.Rig.keeps_cuts (table_of_session c.args.session.now) c.args.script.now c.args.session.now (g.R.Rig.state c.args.rig.now) c.lines.k c.line-line.result.now c.lines.session
    (g.R.Rig.state c.lines.rig)
    (at-told g c) c.step.new.self c.in-Ok.reply (g.R.Rig.state c.step.new.rig) (g.R.Rig.state c.tell_reply.new.rig) (g.met.R.Rig.sound c.lines.rig, g.met.R.Rig.sound c.step.new.rig, g.met.R.Rig.sound c.tell_reply.new.rig) (steps-told g c)
    (made-moments (table_of_session c.args.session.now) (table_of_session c.lines.session) c.line-line.result.now c.lines.session (g.R.Rig.state c.lines.rig) (g.R.Rig.state c.step.new.rig) c.lines.invariant.same_table c.step.ensures.moments)
    c.tell_reply.ensures.tells c.in-Ok.ensures.early c.in-Ok-tell_reply.ensures.told

pub returns-clause-ran : goal.returns-clause-ran
returns-clause-ran g c =
    let P : ℕ → Type 0 = λ k. Reached g.R.Rig.tells_text g.R.Rig.tells_view (table_of_session c.args.session.now) c.args.script.now k c.args.session.now (g.R.Rig.state c.args.rig.now) c.lines.session (g.R.Rig.state c.lines.rig) in
    subst P (let e : c.lines.k ≡ length c.args.script.now = omega (arith, c.lines-test.false, c.lines.auto.k-end, c.len-k-end.ensures.value) in e) c.lines.invariant
