use Rattle.std.proofs.Common.{Some}
use Rattle.apex_host.specs.declared.command.Command.TheVariants.{Check}
use Rattle.apex_host.proofs.Disks.{tells-then, leaves-untouched, refusal-leaves, check-leaves}
use Rattle.apex_host.proofs.Endings.{ends-told}
use Rattle.apex_host.proofs.checking.check.Goals as goal

pub returns-in-Ok-clause-ends : goal.returns-in-Ok-clause-ends
returns-in-Ok-clause-ends g c = λ script faults.
    ends-told (g.T.Source.left c.checked_image.new.table) script (g.T.Source.faults c.checked_image.new.table) faults (g.R.Rig.state c.checked_image.new.rig) (g.R.Rig.state c.told.new.rig)
    (c.in-Ok.ensures.made script faults) c.bytes.ensures.value c.checked_image.ensures.disk.later.tell_faults
    c.told.ensures.disk.later c.told.ensures.told

pub returns-in-Ok-clause-disk : goal.returns-in-Ok-clause-disk
returns-in-Ok-clause-disk g c = λ script.
    let o = g.R.Rig.state c.args.rig.now in
    let m = g.R.Rig.state c.checked_image.new.rig in
    let e = g.R.Rig.state c.told.new.rig in
    let tells = tells-then g.R.Rig.tells_view g.R.Rig.keeps_cuts o m e (g.met.R.Rig.sound c.checked_image.new.rig) c.checked_image.ensures.disk c.told.ensures.disk in
    check-leaves o m e c.told.ensures.told (leaves-untouched g.R.Rig.tells_view o e c.requires.settled tells)

pub returns-in-Err-clause-ends : goal.returns-in-Err-clause-ends
returns-in-Err-clause-ends g c = λ script faults.
    ends-told (g.T.Source.left c.checked_image.new.table) script (g.T.Source.faults c.checked_image.new.table) faults (g.R.Rig.state c.checked_image.new.rig) (g.R.Rig.state c.told-in-Err.new.rig)
    (c.in-Err.ensures.stopped script faults) c.bytes-in-Err.ensures.value c.checked_image.ensures.disk.later.tell_faults
    c.told-in-Err.ensures.disk.later c.told-in-Err.ensures.told

pub returns-in-Err-clause-disk : goal.returns-in-Err-clause-disk
returns-in-Err-clause-disk g c = λ script.
    let o = g.R.Rig.state c.args.rig.now in
    let m = g.R.Rig.state c.checked_image.new.rig in
    let e = g.R.Rig.state c.told-in-Err.new.rig in
    let tells = tells-then g.R.Rig.tells_view g.R.Rig.keeps_cuts o m e (g.met.R.Rig.sound c.checked_image.new.rig) c.checked_image.ensures.disk c.told-in-Err.ensures.disk in
    refusal-leaves (Some Check) o m e c.told-in-Err.ensures.told c.in-Err.ensures.undone (leaves-untouched g.R.Rig.tells_view o e c.requires.settled tells)
