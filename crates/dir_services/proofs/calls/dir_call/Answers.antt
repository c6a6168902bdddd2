use Rattle.apex_types.specs.declared.codes.Errno.TheVariants.{Eperm}
use Rattle.apex_model.specs.DirectoryStep.{directory_step}
use Rattle.service_parts.specs.Serving.{AreInService}
use Rattle.service_parts.proofs.Closing.{served_step, served_still}
use Rattle.service_parts.proofs.Served.{refused-served, served-told}
use Rattle.dir_services.proofs.ServingLaws.{is_ready, not_ready, of_table-kept, serving-kept}
use Rattle.dir_services.proofs.calls.dir_call.Goals as goal

-- what the caller knows, as one
pub serve-requires-clause-serving : goal.serve-requires-clause-serving
serve-requires-clause-serving g c = record {
  table = c.args.table.now;
  accepted = c.requires.accepted;
  of_table = c.requires.of_table;
  laid_out = c.requires.laid_out;
  stored = c.requires.stored;
  serving = c.requires.serving;
}

pub returns-then-not-ready-clause-served : goal.returns-then-not-ready-clause-served
returns-then-not-ready-clause-served g c =
    let o = g.R.Rig.state c.args.rig.now in
    let trees = c.args.trees.now in
    let handles = c.args.handles.now in
    let serving : AreInService g.R.Rig.tells_view o trees handles
    = record {
      table = c.args.table.now;
      accepted = c.requires.accepted;
      of_table = c.requires.of_table;
      laid_out = c.requires.laid_out;
      stored = c.requires.stored;
      serving = c.requires.serving;
    } in
    served_still g.R.Rig.tells_view g.R.Rig.keeps_cuts o (g.met.R.Rig.sound c.args.rig.now) (λ fs. directory_step c.args.table.now fs c.args.p.0 c.args.ready c.args.call.now) ⊥ trees handles serving handles c.refusal.result
    (λ stores hold. served-told c.refusal.ensures
    (refused-served (λ fs. directory_step c.args.table.now fs c.args.p.0 c.args.ready c.args.call.now) stores handles Eperm
    (λ fs s. not_ready c.args.table.now c.args.p.0 c.args.ready c.args.call.now c.if-not-ready.true fs)))

pub returns-clause-served : goal.returns-clause-served
returns-clause-served g c = served_step (λ fs over. is_ready c.args.table.now c.args.p.0 c.args.ready c.args.call.now c.if-not-ready.false fs) c.serve.ensures.served

pub returns-clause-serving : goal.returns-clause-serving
returns-clause-serving g c =
    serving-kept g.R.Rig.tells_view (g.R.Rig.state c.args.rig.now) (g.R.Rig.state c.serve.new.rig) c.args.table.now c.args.p.0 c.args.ready c.args.call.now c.args.trees.now c.serve.new.trees c.args.handles.now c.serve.new.handles
    c.serve.result c.requires.accepted c.requires.serving (returns-clause-served g c)

pub returns-clause-of_table : goal.returns-clause-of_table
returns-clause-of_table g c =
    of_table-kept g.R.Rig.tells_view (g.R.Rig.state c.args.rig.now) (g.R.Rig.state c.serve.new.rig) c.args.table.now c.args.p.0 c.args.ready c.args.call.now c.args.trees.now c.serve.new.trees c.args.handles.now c.serve.new.handles
    c.serve.result c.requires.of_table (returns-clause-served g c)
