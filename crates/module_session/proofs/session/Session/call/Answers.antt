use Rattle.std.proofs.Common.{sym, subst}
use Rattle.std.specs.Prelude.{Ok}
use Rattle.apex_types.specs.declared.calls.Call.{Call}
use Rattle.module_session.specs.Calls.{IsCallTaken}
use Rattle.module_session.proofs.session.Session.call.Goals as goal

pub returns-in-File-clause-taken : goal.returns-in-File-clause-taken
returns-in-File-clause-taken g c = subst (λ (call : Call). IsCallTaken g.R.Rig.tells_view c.args.p call c.args.self.now c.file.new.self (g.R.Rig.state c.args.rig.now) (g.R.Rig.state c.file.new.rig) c.file.result)
    (sym c.in-File.is) c.file.ensures.taken

pub returns-in-Directory-clause-taken : goal.returns-in-Directory-clause-taken
returns-in-Directory-clause-taken g c = subst (λ (call : Call). IsCallTaken g.R.Rig.tells_view c.args.p call c.args.self.now c.directory.new.self (g.R.Rig.state c.args.rig.now) (g.R.Rig.state c.directory.new.rig) c.directory.result)
    (sym c.in-Directory.is) c.directory.ensures.taken

pub returns-in-Logbook-clause-taken : goal.returns-in-Logbook-clause-taken
returns-in-Logbook-clause-taken g c = subst (λ (call : Call). IsCallTaken g.R.Rig.tells_view c.args.p call c.args.self.now c.logbook.new.self (g.R.Rig.state c.args.rig.now) (g.R.Rig.state c.logbook.new.rig) c.logbook.result)
    (sym c.in-Logbook.is) c.logbook.ensures

pub returns-in-Sampling-clause-taken : goal.returns-in-Sampling-clause-taken
returns-in-Sampling-clause-taken g c = subst (λ (call : Call). IsCallTaken g.R.Rig.tells_view c.args.p call c.args.self.now c.sampling.new.self (g.R.Rig.state c.args.rig.now) (g.R.Rig.state c.args.rig.now) (Ok c.sampling.result))
    (sym c.in-Sampling.is) c.sampling.ensures

pub returns-in-SetMode-clause-taken : goal.returns-in-SetMode-clause-taken
returns-in-SetMode-clause-taken g c = subst (λ (call : Call). IsCallTaken g.R.Rig.tells_view c.args.p call c.args.self.now c.set_mode.new.self (g.R.Rig.state c.args.rig.now) (g.R.Rig.state c.args.rig.now) (Ok c.set_mode.result))
    (sym c.in-SetMode.is) c.set_mode.ensures

pub returns-in-SetContext-clause-taken : goal.returns-in-SetContext-clause-taken
returns-in-SetContext-clause-taken g c = subst (λ (call : Call). IsCallTaken g.R.Rig.tells_view c.args.p call c.args.self.now c.set_context.new.self (g.R.Rig.state c.args.rig.now) (g.R.Rig.state c.args.rig.now) (Ok c.set_context.result))
    (sym c.in-SetContext.is) c.set_context.ensures
