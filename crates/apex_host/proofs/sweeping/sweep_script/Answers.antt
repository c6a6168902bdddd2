use Rattle.std.proofs.Common.{Some, arith}
use Rattle.apex_host.specs.declared.command.Command.TheVariants.{Sweep}
use Rattle.apex_host.proofs.Disks.{leaves-untouched, refusal-leaves, sweep-leaves}
use Rattle.apex_host.proofs.Endings.{ends-told}
use Rattle.apex_host.proofs.sweeping.sweep_script.Goals as goal

pub returns-in-Ok-clause-ends : goal.returns-in-Ok-clause-ends
returns-in-Ok-clause-ends g c =
    ends-told (g.T.Source.left c.swept_script.new.table) (g.S.Source.left c.swept_script.new.script) (g.T.Source.faults c.swept_script.new.table) (g.S.Source.faults c.swept_script.new.script)
    (g.R.Rig.state c.args.rig.now) (g.R.Rig.state c.told.new.rig) c.in-Ok.ensures.made c.bytes.ensures.value (omega arith) c.told.ensures.disk.later c.told.ensures.told

pub returns-in-Ok-clause-disk : goal.returns-in-Ok-clause-disk
returns-in-Ok-clause-disk g c =
    let o = g.R.Rig.state c.args.rig.now in
    let e = g.R.Rig.state c.told.new.rig in
    sweep-leaves o o e c.told.ensures.told (leaves-untouched g.R.Rig.tells_view o e c.requires.settled c.told.ensures.disk)

pub returns-in-Err-clause-ends : goal.returns-in-Err-clause-ends
returns-in-Err-clause-ends g c =
    ends-told (g.T.Source.left c.swept_script.new.table) (g.S.Source.left c.swept_script.new.script) (g.T.Source.faults c.swept_script.new.table) (g.S.Source.faults c.swept_script.new.script)
    (g.R.Rig.state c.args.rig.now) (g.R.Rig.state c.told-in-Err.new.rig) c.in-Err.ensures.stopped c.bytes-in-Err.ensures.value (omega arith) c.told-in-Err.ensures.disk.later c.told-in-Err.ensures.told

pub returns-in-Err-clause-disk : goal.returns-in-Err-clause-disk
returns-in-Err-clause-disk g c =
    let o = g.R.Rig.state c.args.rig.now in
    let e = g.R.Rig.state c.told-in-Err.new.rig in
    refusal-leaves (Some Sweep) o o e c.told-in-Err.ensures.told c.in-Err.ensures.undone (leaves-untouched g.R.Rig.tells_view o e c.requires.settled c.told-in-Err.ensures.disk)
