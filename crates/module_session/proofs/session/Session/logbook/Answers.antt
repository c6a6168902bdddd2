use Rattle.std.proofs.Common.{List, sym, subst, refl}
use Rattle.logbook_store.specs.Logs.{AreLaidOut, Site}
use Rattle.logbook_store.proofs.Mounting.{sites_laid_out}
use Rattle.module_session.proofs.LogChanges.{ChangesLogs}
use Rattle.module_session.proofs.Logged.{books_after, logbook_taken, few_calls, system_of}
use Rattle.module_session.proofs.session.Session.logbook.Goals as goal

pub logbook_call-requires-clause-laid_out : goal.logbook_call-requires-clause-laid_out
logbook_call-requires-clause-laid_out g c =
    let step = c.requires.ready.in_step in
    let size = (g.R.Rig.state c.args.rig.now).size in
    subst (λ (sites : List Site). AreLaidOut sites size) (sym step.log_sites) (sites_laid_out c.args.self.now.table size step.superblock.room)

pub returns : goal.returns
returns g c =
    let o = g.R.Rig.state c.args.rig.now in
    let e = g.R.Rig.state c.logbook_call.new.rig in
    let old = c.args.self.now in
    let done = c.logbook_call.ensures in
    let changes : ChangesLogs g.R.Rig.tells_view (books_after old c.args.p.0 c.mode-mode.result c.args.call.now) old.logs c.logbook_call.new.logs o e = record {
      sites = done.sites;
      any_moment = λ logbooks tells stand. done.any_moment (system_of old logbooks) tells (record { stored = stand; marks = refl });
      shown = λ logbooks tells stand. done.shown (system_of old logbooks) tells (record { stored = stand; marks = refl });
      outside = done.outside;
      outside_view = done.outside_view;
      later = done.later;
      made = few_calls c.args.call.now o e done.made;
    } in
    logbook_taken g.R.Rig.tells_view g.R.Rig.keeps_cuts o e (g.met.R.Rig.sound c.args.rig.now) (g.met.R.Rig.sound c.logbook_call.new.rig) old c.logbook_call.new.logs c.logbook_call.new.made
    c.requires.ready c.args.p c.mode-mode.result c.args.call.now c.mode-mode.ensures changes c.logbook_call.result done.reply done.state done.settled done.of_table done.valid done.cause done.tellable
