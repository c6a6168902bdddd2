use Rattle.std.proofs.Common.{Bool, ap}
use Rattle.std.specs.Prelude.{not}
use Rattle.apex_types.specs.declared.codes.Errno.TheVariants.{Eperm}
use Rattle.apex_model.specs.FailedReads.{reads_content}
use Rattle.apex_model.specs.FileStep.{FileOutcome, file_service, file_step}
use Rattle.apex_model.specs.FileSystem.{FileSystem}
use Rattle.apex_model.specs.Outcomes.{refuse_if}
use Rattle.service_parts.specs.Serving.{AreInService, ReadsFailed}
use Rattle.service_parts.proofs.Closing.{served_step, served_still}
use Rattle.service_parts.proofs.Served.{refused-served, served-told}
use Rattle.file_services.proofs.ServingLaws.{serving-kept}
use Rattle.file_services.proofs.calls.file_call.Goals as goal

-- what the caller knows, as one
pub serve-requires-clause-serving : goal.serve-requires-clause-serving
serve-requires-clause-serving g c = record {
  table = c.args.table.now;
  accepted = c.requires.accepted;
  of_table = c.requires.of_table;
  laid_out = c.requires.laid_out;
  stored = c.requires.stored;
  serving = c.requires.serving;
}

pub returns-then-not-ready-clause-served : goal.returns-then-not-ready-clause-served
returns-then-not-ready-clause-served g c =
    let V = g.R.Rig.tells_view in
    let K = g.R.Rig.keeps_cuts in
    let o = g.R.Rig.state c.args.rig.now in
    let trees = c.args.trees.now in
    let handles = c.args.handles.now in
    let step : FileSystem → FileOutcome = λ fs. file_step c.args.table.now fs c.args.p.0 c.args.ready c.args.call.now in
    let ready : AreInService V o trees handles = record {
      table = c.args.table.now;
      accepted = c.requires.accepted;
      of_table = c.requires.of_table;
      laid_out = c.requires.laid_out;
      stored = c.requires.stored;
      serving = c.requires.serving;
    } in
    served_still V K o (g.met.R.Rig.sound c.args.rig.now) step (ReadsFailed (reads_content c.args.call.now) o o) trees handles ready handles c.refusal.result
    (λ stores hold. served-told c.refusal.ensures (refused-served step stores handles Eperm (λ fs s. ap (λ (b : Bool). refuse_if (not b) Eperm (file_service c.args.table.now fs c.args.p.0 c.args.call.now)) c.if-not-ready.true)))

pub returns-clause-served : goal.returns-clause-served
returns-clause-served g c =
    served_step (λ fs over. ap (λ (b : Bool). refuse_if (not b) Eperm (file_service c.args.table.now fs c.args.p.0 c.args.call.now)) c.if-not-ready.false) c.serve.ensures.served

-- a file call keeps a file system valid, and so the state after this one is
pub returns-clause-serving : goal.returns-clause-serving
returns-clause-serving g c =
    let V = g.R.Rig.tells_view in
    let K = g.R.Rig.keeps_cuts in
    let o = g.R.Rig.state c.args.rig.now in
    let trees = c.args.trees.now in
    let handles = c.args.handles.now in
    let e = g.R.Rig.state c.serve.new.rig in
    serving-kept V o e c.args.table.now c.args.p.0 c.args.ready c.args.call.now (ReadsFailed (reads_content c.args.call.now) o e) trees c.serve.new.trees handles c.serve.new.handles c.serve.result
    c.requires.accepted c.requires.serving (returns-clause-served g c)
