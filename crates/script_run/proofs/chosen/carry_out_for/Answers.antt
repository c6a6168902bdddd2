use Rattle.std.proofs.Common.{◌≡◌, ℕ, ◌+◌, ◌*◌, ◌≤◌, ◌∙◌, refl, sym, subst, arith}
use Rattle.apex_types.specs.Rows.{Rows}
use Rattle.apex_model.specs.Lines.{IsLineOf}
use Rattle.apex_model.proofs.AcceptedTables.{all_at}
use Rattle.module_session.specs.Sessions.{table_of_session}
use Rattle.script_run.specs.Chosen.{is_hearer, HaltsAt}
use Rattle.script_run.proofs.Hearing.{AtOwn, PlainSteps, made-plain, own-halts, own-names, own-reached, own-reply_pairs, own-step_pairs, own-stops, reached-none_for}
use Rattle.script_run.proofs.Turns.{ShowsLine, first-early, made-moments}
use Rattle.script_run.proofs.chosen.carry_out_for.Given as given
use Rattle.script_run.proofs.chosen.carry_out_for.Goals as goal

pub lines-init : goal.lines-init
lines-init g c = (
  reached-none_for c.step_keeps_valid.ensures c.args.script.now (is_hearer c.args.hearer) c.args.session.now (g.R.Rig.state c.args.rig.now) c.new-tally.result
      (g.met.R.Rig.sound c.args.rig.now) c.requires.ready c.requires.early c.len-k-end.ensures.numbered c.new-tally.ensures,
  λ none. refl,
  λ none. omega arith,
  λ kept v w stands. omega arith,
)

pub step_whole-requires-clause-of_table : goal.step_whole-requires-clause-of_table
step_whole-requires-clause-of_table g c =
    let line = c.line-line.result.now in
    subst (λ (t : Rows). IsLineOf t line) (sym c.lines.invariant.0.served.same_table) (all_at (IsLineOf (table_of_session c.args.session.now)) c.args.script.now c.lines.k line c.requires.of_table c.line-line.ensures.value)

pub step_whole-requires-clause-early : goal.step_whole-requires-clause-early
step_whole-requires-clause-early g c = first-early c.args.script.now c.lines.k c.line-line.result.now c.lines.session c.line-line.ensures.value c.lines.invariant.0.early

-- ---- the device failed in a line

at-fault : (g : given.Over) (c : goal.In-Err g) → AtOwn g.R.Rig.tells_text g.R.Rig.tells_view (table_of_session c.args.session.now) c.args.script.now (is_hearer c.args.hearer) c.args.session.now (g.R.Rig.state c.args.rig.now)
    c.lines.k c.line-line.result.now c.lines.session c.lines.tally (g.R.Rig.state c.lines.rig)
at-fault g c = record {
  step = c.step_keeps_valid.ensures;
  law = c.reply_lines_tell.ensures;
  accepted = c.requires.ready.accepted;
  are = c.requires.of_table;
  rise = c.len-k-end.ensures.numbered;
  at = c.line-line.ensures.value;
  reached = c.lines.invariant.0;
}

pub returns-in-Err-clause-halted : goal.returns-in-Err-clause-halted
returns-in-Err-clause-halted g c = λ number is.
    let P : ℕ → Type 0 = λ n. HaltsAt g.R.Rig.tells_text g.R.Rig.tells_view (table_of_session c.args.session.now) c.args.script.now (is_hearer c.args.hearer) c.args.session.now (g.R.Rig.state c.args.rig.now) (g.R.Rig.state c.step_whole.new.rig) n in
    let same : c.line-line.result.now.number ≡ number = cc in
    subst P same
    (own-halts g.R.Rig.tells_text g.R.Rig.tells_view g.R.Rig.keeps_cuts (table_of_session c.args.session.now) c.args.script.now (is_hearer c.args.hearer) c.args.session.now (g.R.Rig.state c.args.rig.now)
    c.lines.k c.line-line.result.now c.lines.session c.lines.tally (g.R.Rig.state c.lines.rig)
    (at-fault g c) (g.R.Rig.state c.step_whole.new.rig) c.step_whole.ensures.later c.step_whole.ensures.quiet c.in-Err.ensures.cause)

pub returns-in-Err-clause-pairs : goal.returns-in-Err-clause-pairs
returns-in-Err-clause-pairs g c =
    own-step_pairs g.R.Rig.tells_text g.R.Rig.tells_view g.R.Rig.keeps_cuts (table_of_session c.args.session.now) c.args.script.now (is_hearer c.args.hearer) c.args.session.now (g.R.Rig.state c.args.rig.now)
    c.lines.k c.line-line.result.now c.lines.session c.lines.tally (g.R.Rig.state c.lines.rig)
    (at-fault g c) (g.R.Rig.state c.step_whole.new.rig) (g.met.R.Rig.sound c.lines.rig)
    (made-moments (table_of_session c.args.session.now) (table_of_session c.lines.session) c.line-line.result.now c.lines.session (g.R.Rig.state c.lines.rig) (g.R.Rig.state c.step_whole.new.rig)
    c.lines.invariant.0.served.same_table c.step_whole.ensures.moments)

-- ---- its reply was not told

at-untold : (g : given.Over) (c : goal.In-Err-tell_heard g) → AtOwn g.R.Rig.tells_text g.R.Rig.tells_view (table_of_session c.args.session.now) c.args.script.now (is_hearer c.args.hearer) c.args.session.now (g.R.Rig.state c.args.rig.now)
    c.lines.k c.line-line.result.now c.lines.session c.lines.tally (g.R.Rig.state c.lines.rig)
at-untold g c = record {
  step = c.step_keeps_valid.ensures;
  law = c.reply_lines_tell.ensures;
  accepted = c.requires.ready.accepted;
  are = c.requires.of_table;
  rise = c.len-k-end.ensures.numbered;
  at = c.line-line.ensures.value;
  reached = c.lines.invariant.0;
}

shows-untold : (g : given.Over) (c : goal.In-Err-tell_heard g) → ShowsLine g.R.Rig.tells_view (table_of_session c.args.session.now) c.line-line.result.now c.lines.session (g.R.Rig.state c.lines.rig) (g.R.Rig.state c.step_whole.new.rig)
shows-untold g c = made-moments (table_of_session c.args.session.now) (table_of_session c.lines.session) c.line-line.result.now c.lines.session (g.R.Rig.state c.lines.rig) (g.R.Rig.state c.step_whole.new.rig)
    c.lines.invariant.0.served.same_table c.step_whole.ensures.moments

steps-untold : (g : given.Over) (c : goal.In-Err-tell_heard g)
    → PlainSteps g.R.Rig.tells_view (table_of_session c.args.session.now) c.line-line.result.now c.lines.session c.step_whole.new.session c.in-Ok.reply (g.R.Rig.state c.lines.rig) (g.R.Rig.state c.step_whole.new.rig)
steps-untold g c = made-plain (table_of_session c.args.session.now) (table_of_session c.lines.session) c.line-line.result.now c.lines.session c.step_whole.new.session c.in-Ok.reply (g.R.Rig.state c.lines.rig) (g.R.Rig.state c.step_whole.new.rig)
    c.lines.invariant.0.served.same_table c.step_whole.ensures.later c.step_whole.ensures.quiet c.in-Ok.ensures.ready c.step_whole.ensures.table c.in-Ok.ensures.early c.in-Ok.ensures.done

pub returns-in-Err-tell_heard-clause-stopped : goal.returns-in-Err-tell_heard-clause-stopped
returns-in-Err-tell_heard-clause-stopped g c = λ is.
    own-stops g.R.Rig.tells_text g.R.Rig.tells_view g.R.Rig.keeps_cuts (table_of_session c.args.session.now) c.args.script.now (is_hearer c.args.hearer) c.args.session.now (g.R.Rig.state c.args.rig.now)
    c.lines.k c.line-line.result.now c.lines.session c.lines.tally (g.R.Rig.state c.lines.rig)
    (at-untold g c) c.step_whole.new.session c.in-Ok.reply (g.R.Rig.state c.step_whole.new.rig) (g.R.Rig.state c.tell_heard.new.rig)
    (g.met.R.Rig.sound c.lines.rig, g.met.R.Rig.sound c.step_whole.new.rig, g.met.R.Rig.sound c.tell_heard.new.rig) (steps-untold g c) (shows-untold g c)
    c.tell_heard.ensures.tells c.in-Err-tell_heard.ensures.something c.in-Err-tell_heard.ensures.cause

pub returns-in-Err-tell_heard-clause-pairs : goal.returns-in-Err-tell_heard-clause-pairs
returns-in-Err-tell_heard-clause-pairs g c =
    own-reply_pairs g.R.Rig.tells_text g.R.Rig.tells_view g.R.Rig.keeps_cuts (table_of_session c.args.session.now) c.args.script.now (is_hearer c.args.hearer) c.args.session.now (g.R.Rig.state c.args.rig.now)
    c.lines.k c.line-line.result.now c.lines.session c.lines.tally (g.R.Rig.state c.lines.rig)
    (at-untold g c) c.step_whole.new.session c.in-Ok.reply (g.R.Rig.state c.step_whole.new.rig) (g.R.Rig.state c.tell_heard.new.rig)
    (g.met.R.Rig.sound c.lines.rig, g.met.R.Rig.sound c.step_whole.new.rig, g.met.R.Rig.sound c.tell_heard.new.rig) (steps-untold g c) (shows-untold g c)
    c.tell_heard.ensures.tells

-- ---- it was told

at-told : (g : given.Over) (c : goal.After-count_reply g) → AtOwn g.R.Rig.tells_text g.R.Rig.tells_view (table_of_session c.args.session.now) c.args.script.now (is_hearer c.args.hearer) c.args.session.now (g.R.Rig.state c.args.rig.now)
    c.lines.k c.line-line.result.now c.lines.session c.lines.tally (g.R.Rig.state c.lines.rig)
at-told g c = record {
  step = c.step_keeps_valid.ensures;
  law = c.reply_lines_tell.ensures;
  accepted = c.requires.ready.accepted;
  are = c.requires.of_table;
  rise = c.len-k-end.ensures.numbered;
  at = c.line-line.ensures.value;
  reached = c.lines.invariant.0;
}

shows-told : (g : given.Over) (c : goal.After-count_reply g) → ShowsLine g.R.Rig.tells_view (table_of_session c.args.session.now) c.line-line.result.now c.lines.session (g.R.Rig.state c.lines.rig) (g.R.Rig.state c.step_whole.new.rig)
shows-told g c = made-moments (table_of_session c.args.session.now) (table_of_session c.lines.session) c.line-line.result.now c.lines.session (g.R.Rig.state c.lines.rig) (g.R.Rig.state c.step_whole.new.rig)
    c.lines.invariant.0.served.same_table c.step_whole.ensures.moments

steps-told : (g : given.Over) (c : goal.After-count_reply g)
    → PlainSteps g.R.Rig.tells_view (table_of_session c.args.session.now) c.line-line.result.now c.lines.session c.step_whole.new.session c.in-Ok.reply (g.R.Rig.state c.lines.rig) (g.R.Rig.state c.step_whole.new.rig)
steps-told g c = made-plain (table_of_session c.args.session.now) (table_of_session c.lines.session) c.line-line.result.now c.lines.session c.step_whole.new.session c.in-Ok.reply (g.R.Rig.state c.lines.rig) (g.R.Rig.state c.step_whole.new.rig)
    c.lines.invariant.0.served.same_table c.step_whole.ensures.later c.step_whole.ensures.quiet c.in-Ok.ensures.ready c.step_whole.ensures.table c.in-Ok.ensures.early c.in-Ok.ensures.done

pub lines-preserved : goal.lines-preserved
lines-preserved g c = (
  own-reached g.R.Rig.tells_text g.R.Rig.tells_view g.R.Rig.keeps_cuts (table_of_session c.args.session.now) c.args.script.now (is_hearer c.args.hearer) c.args.session.now (g.R.Rig.state c.args.rig.now)
      c.lines.k c.line-line.result.now c.lines.session c.lines.tally (g.R.Rig.state c.lines.rig)
      (at-told g c) c.step_whole.new.session c.in-Ok.reply (g.R.Rig.state c.step_whole.new.rig) (g.R.Rig.state c.tell_heard.new.rig)
      (g.met.R.Rig.sound c.lines.rig, g.met.R.Rig.sound c.step_whole.new.rig, g.met.R.Rig.sound c.tell_heard.new.rig) (steps-told g c) (shows-told g c)
      c.tell_heard.ensures.tells c.count_reply.new.tally c.in-Ok-tell_heard.ensures.told c.count_reply.ensures.none c.count_reply.ensures.some
      (c.count_reply.ensures.within c.lines.k c.lines.invariant.0.few),
  λ none. c.tell_heard.ensures.silent none ∙ c.step_whole.ensures.quiet ∙ c.lines.invariant.1 none,
  λ none. omega (arith, c.tell_heard.ensures.untold none, c.step_whole.ensures.untold, c.lines.invariant.2 none),
  own-names g.R.Rig.tells_text g.R.Rig.tells_view g.R.Rig.keeps_cuts (table_of_session c.args.session.now) c.args.script.now (is_hearer c.args.hearer) c.args.session.now (g.R.Rig.state c.args.rig.now)
      c.lines.k c.line-line.result.now c.lines.session c.lines.tally (g.R.Rig.state c.lines.rig)
      (at-told g c) c.step_whole.new.session c.in-Ok.reply (g.R.Rig.state c.step_whole.new.rig) (g.R.Rig.state c.tell_heard.new.rig)
      (g.met.R.Rig.sound c.lines.rig, g.met.R.Rig.sound c.step_whole.new.rig, g.met.R.Rig.sound c.tell_heard.new.rig) (steps-told g c) (shows-told g c)
      c.tell_heard.ensures.tells c.lines.invariant.3 c.in-Ok.ensures.names,
)
