use Rattle.std.proofs.Common.{Some, refl, ⊎_elim, ◌∙◌}
use Rattle.apex_host.specs.declared.command.Command.TheVariants.{Stress}
use Rattle.apex_host.proofs.Disks.{tells-then, leaves-untouched, refusal-leaves}
use Rattle.apex_host.proofs.Endings.{ends-told}
use Rattle.apex_host.proofs.Loads.{load-begun-told, load-completed-told, load-leaves, load_fault-leaves}
use Rattle.apex_host.proofs.stressing.stress.Goals as goal

pub returns-in-Ok-clause-ends : goal.returns-in-Ok-clause-ends
returns-in-Ok-clause-ends g c = λ script faults.
    ends-told (g.T.Source.left c.carried_load.new.table) script (g.T.Source.faults c.carried_load.new.table) faults (g.R.Rig.state c.carried_load.new.rig) (g.R.Rig.state c.told.new.rig)
    (c.in-Ok.ensures.made script faults) (c.bytes.ensures.value ∙ c.stressed.ensures) c.carried_load.ensures.later.tell_faults
    c.told.ensures.disk.later c.told.ensures.told

pub returns-in-Ok-clause-disk : goal.returns-in-Ok-clause-disk
returns-in-Ok-clause-disk g c = λ script.
    let V = g.R.Rig.tells_view in
    let K = g.R.Rig.keeps_cuts in
    let o = g.R.Rig.state c.args.rig.now in
    let m = g.R.Rig.state c.carried_load.new.rig in
    let e = g.R.Rig.state c.told.new.rig in
    load-leaves c.args.seed c.args.count o m e c.told.ensures.told refl
    (load-completed-told V K c.args.seed c.args.count o m e (g.met.R.Rig.sound c.carried_load.new.rig) (g.met.R.Rig.sound c.told.new.rig) c.in-Ok.ensures.completed c.told.ensures.disk)

pub returns-in-Err-clause-ends : goal.returns-in-Err-clause-ends
returns-in-Err-clause-ends g c = λ script faults.
    ends-told (g.T.Source.left c.carried_load.new.table) script (g.T.Source.faults c.carried_load.new.table) faults (g.R.Rig.state c.carried_load.new.rig) (g.R.Rig.state c.told-in-Err.new.rig)
    (c.in-Err.ensures.stopped script faults) c.bytes-in-Err.ensures.value c.carried_load.ensures.later.tell_faults
    c.told-in-Err.ensures.disk.later c.told-in-Err.ensures.told

pub returns-in-Err-clause-disk : goal.returns-in-Err-clause-disk
returns-in-Err-clause-disk g c = λ script.
    let V = g.R.Rig.tells_view in
    let K = g.R.Rig.keeps_cuts in
    let o = g.R.Rig.state c.args.rig.now in
    let m = g.R.Rig.state c.carried_load.new.rig in
    let e = g.R.Rig.state c.told-in-Err.new.rig in
    let sound = g.met.R.Rig.sound c.carried_load.new.rig in
    ⊎_elim
    (λ same. refusal-leaves (Some (Stress c.args.seed c.args.count)) o m e c.told-in-Err.ensures.told same.0 (leaves-untouched V o e c.requires.settled (tells-then V K o m e sound same.1 c.told-in-Err.ensures.disk)))
    (λ failed. load_fault-leaves c.args.seed c.args.count o m e c.told-in-Err.ensures.told failed.0 (load-begun-told V K c.args.seed c.args.count o m e sound failed.1 c.told-in-Err.ensures.disk))
    c.in-Err.ensures.failed
