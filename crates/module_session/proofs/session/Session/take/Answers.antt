use Rattle.std.proofs.Common.{List, sym, subst}
use Rattle.logbook_store.specs.Logs.{AreLaidOut, Site, sites_of}
use Rattle.logbook_store.specs.Moves.{moved_all}
use Rattle.logbook_store.proofs.Mounting.{sites_laid_out}
use Rattle.module_session.proofs.LogChanges.{ChangesLogs}
use Rattle.module_session.proofs.Named.{line_named, line_unread}
use Rattle.module_session.proofs.Taken.{line_failed, line_taken}
use Rattle.module_session.proofs.Ticked.{few_calls, tick_failed, tick_taken}
use Rattle.module_session.proofs.session.Session.take.Goals as goal

pub move_all-requires-clause-laid_out : goal.move_all-requires-clause-laid_out
move_all-requires-clause-laid_out g c =
    let step = c.requires.ready.in_step in
    let size = (g.R.Rig.state c.args.rig.now).size in
    subst (λ (sites : List Site). AreLaidOut sites size) (sym step.log_sites) (sites_laid_out c.args.self.now.table size step.superblock.room)

pub returns-in_err-move_all-in-Tick-clause-taken : goal.returns-in_err-move_all-in-Tick-clause-taken
returns-in_err-move_all-in-Tick-clause-taken g c =
    let o = g.R.Rig.state c.args.rig.now in
    let e = g.R.Rig.state c.move_all.new.rig in
    let old = c.args.self.now in
    let made = c.move_all.ensures in
    let changes : ChangesLogs g.R.Rig.tells_view (moved_all (sites_of old.logs)) old.logs c.move_all.new.self o e = record {
      sites = made.sites;
      any_moment = made.any_moment;
      shown = made.shown;
      outside = made.outside;
      outside_view = made.outside_view;
      later = made.later;
      made = few_calls g.R.Rig.tells_view o e old c.requires.ready made.made;
    } in
    tick_failed g.R.Rig.tells_view g.R.Rig.keeps_cuts o e (g.met.R.Rig.sound c.args.rig.now) (g.met.R.Rig.sound c.move_all.new.rig) old c.move_all.new.self c.requires.ready changes made.made c.args.line.now
    c.in-Tick.ticks c.in-Tick.is c.from_residual.result c.from_residual.ensures.0 c.in_err-move_all-in-Tick.ensures.cause

pub returns-in_ok-move_all-in-Tick-clause-taken : goal.returns-in_ok-move_all-in-Tick-clause-taken
returns-in_ok-move_all-in-Tick-clause-taken g c =
    let o = g.R.Rig.state c.args.rig.now in
    let e = g.R.Rig.state c.move_all.new.rig in
    let old = c.args.self.now in
    let made = c.move_all.ensures in
    let changes : ChangesLogs g.R.Rig.tells_view (moved_all (sites_of old.logs)) old.logs c.move_all.new.self o e = record {
      sites = made.sites;
      any_moment = made.any_moment;
      shown = made.shown;
      outside = made.outside;
      outside_view = made.outside_view;
      later = made.later;
      made = few_calls g.R.Rig.tells_view o e old c.requires.ready made.made;
    } in
    let done = c.in_ok-move_all-in-Tick.ensures in
    tick_taken g.R.Rig.tells_view g.R.Rig.keeps_cuts o e (g.met.R.Rig.sound c.args.rig.now) (g.met.R.Rig.sound c.move_all.new.rig) old c.move_all.new.self c.requires.ready changes made.made c.args.line.now
    c.in-Tick.ticks c.in-Tick.is old.table c.requires.of_table c.requires.early done.settled done.moved

pub returns-in_err-reply-in-Partition-clause-taken : goal.returns-in_err-reply-in-Partition-clause-taken
returns-in_err-reply-in-Partition-clause-taken g c =
    line_failed g.R.Rig.tells_view (g.R.Rig.state c.args.rig.now) (g.R.Rig.state c.call.new.rig) c.args.self.now c.call.new.self c.args.line.now c.in-Partition.p c.in-Partition.call c.in-Partition.is
    c.in_err-reply-in-Partition.field-0.0 c.from_residual-in_err-reply-in-Partition.result c.from_residual-in_err-reply-in-Partition.ensures.0 c.in_err-reply-in-Partition.ensures.taken

pub returns-in_ok-reply-in-Partition-clause-taken : goal.returns-in_ok-reply-in-Partition-clause-taken
returns-in_ok-reply-in-Partition-clause-taken g c =
    line_taken g.R.Rig.tells_view (g.R.Rig.state c.args.rig.now) (g.R.Rig.state c.call.new.rig) c.args.self.now c.call.new.self c.args.line.now c.in-Partition.p c.in-Partition.call c.in-Partition.is
    c.in_ok-reply-in-Partition.reply c.requires.early c.in_ok-reply-in-Partition.ensures.taken

pub returns-in_ok-reply-in-Partition-clause-unread : goal.returns-in_ok-reply-in-Partition-clause-unread
returns-in_ok-reply-in-Partition-clause-unread g c =
    line_unread (g.R.Rig.state c.args.rig.now) (g.R.Rig.state c.call.new.rig) c.args.line.now.deed c.in-Partition.p c.in-Partition.call c.in_ok-reply-in-Partition.reply c.in-Partition.is
    c.in_ok-reply-in-Partition.ensures.unread

pub returns-in_ok-reply-in-Partition-clause-names : goal.returns-in_ok-reply-in-Partition-clause-names
returns-in_ok-reply-in-Partition-clause-names g c =
    line_named (g.R.Rig.state c.args.rig.now) (g.R.Rig.state c.call.new.rig) c.args.line.now.deed c.in-Partition.p c.in-Partition.call c.in_ok-reply-in-Partition.reply c.in-Partition.is
    g.R.Rig.keeps_cuts c.in_ok-reply-in-Partition.ensures.taken.runs.later.clock c.in_ok-reply-in-Partition.ensures.names
