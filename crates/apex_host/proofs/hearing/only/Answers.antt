use Rattle.std.proofs.Common.{Some}
use Rattle.recover_scan.proofs.Changes.{later_then}
use Rattle.apex_host.specs.declared.command.Command.TheVariants.{Only}
use Rattle.apex_host.proofs.Disks.{tells-then, leaves-untouched, refusal-leaves}
use Rattle.apex_host.proofs.Endings.{ends-told}
use Rattle.apex_host.proofs.hearing.only.Goals as goal

pub returns-in-Err-clause-ends : goal.returns-in-Err-clause-ends
returns-in-Err-clause-ends g c =
    ends-told (g.T.Source.left c.hear.new.table) (g.S.Source.left c.hear.new.script) (g.T.Source.faults c.hear.new.table) (g.S.Source.faults c.hear.new.script)
    (g.R.Rig.state c.hear.new.rig) (g.R.Rig.state c.told.new.rig) c.in-Err.ensures.stopped c.bytes.ensures.value
    c.hear.ensures.later.tell_faults c.told.ensures.disk.later c.told.ensures.told

pub returns-in-Err-clause-disk : goal.returns-in-Err-clause-disk
returns-in-Err-clause-disk g c =
    let o = g.R.Rig.state c.args.rig.now in
    let m = g.R.Rig.state c.hear.new.rig in
    let e = g.R.Rig.state c.told.new.rig in
    let tells = tells-then g.R.Rig.tells_view g.R.Rig.keeps_cuts o m e (g.met.R.Rig.sound c.hear.new.rig) c.in-Err.ensures.unwritten.1 c.told.ensures.disk in
    refusal-leaves (Some (Only c.args.name.now)) o m e c.told.ensures.told c.in-Err.ensures.unwritten.0 (leaves-untouched g.R.Rig.tells_view o e c.requires.settled tells)

pub returns-in-Err-clause-later : goal.returns-in-Err-clause-later
returns-in-Err-clause-later g c =
    later_then (g.R.Rig.state c.args.rig.now) (g.R.Rig.state c.hear.new.rig) (g.R.Rig.state c.told.new.rig) c.hear.ensures.later c.told.ensures.disk.later
