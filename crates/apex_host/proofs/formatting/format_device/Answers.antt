use Rattle.std.proofs.Common.{⊎_elim, Some, refl, subst, ◌∙◌}
use Rattle.apex_host.specs.Disk.{OnlyTells}
use Rattle.apex_host.proofs.Disks.{leaves-untouched, made-told, begun-told, format-leaves, refusal-leaves, fault-leaves}
use Rattle.apex_host.proofs.Endings.{ends-told}
use Rattle.apex_host.specs.declared.command.Command.TheVariants.{Format}
use Rattle.apex_host.proofs.formatting.format_device.Goals as goal

pub returns-in-Ok-clause-ends : goal.returns-in-Ok-clause-ends
returns-in-Ok-clause-ends g c = λ script faults.
    ends-told (g.T.Source.left c.format_image.new.table) script (g.T.Source.faults c.format_image.new.table) faults (g.R.Rig.state c.format_image.new.rig) (g.R.Rig.state c.told.new.rig)
    (c.in-Ok.ensures.made script faults) (c.bytes.ensures.value ∙ c.formatted.ensures) c.format_image.ensures.later.tell_faults
    c.told.ensures.disk.later c.told.ensures.told

pub returns-in-Ok-clause-disk : goal.returns-in-Ok-clause-disk
returns-in-Ok-clause-disk g c = λ script.
    let V = g.R.Rig.tells_view in
    let K = g.R.Rig.keeps_cuts in
    let o = g.R.Rig.state c.args.rig.now in
    let m = g.R.Rig.state c.format_image.new.rig in
    let e = g.R.Rig.state c.told.new.rig in
    format-leaves o m e c.told.ensures.told refl (made-told V K o m e (g.met.R.Rig.sound c.format_image.new.rig) (g.met.R.Rig.sound c.told.new.rig) c.in-Ok.ensures.empty c.told.ensures.disk)

pub returns-in-Err-clause-ends : goal.returns-in-Err-clause-ends
returns-in-Err-clause-ends g c = λ script faults.
    ends-told (g.T.Source.left c.format_image.new.table) script (g.T.Source.faults c.format_image.new.table) faults (g.R.Rig.state c.format_image.new.rig) (g.R.Rig.state c.told-in-Err.new.rig)
    (c.in-Err.ensures.stopped script faults) c.bytes-in-Err.ensures.value c.format_image.ensures.later.tell_faults
    c.told-in-Err.ensures.disk.later c.told-in-Err.ensures.told

pub returns-in-Err-clause-disk : goal.returns-in-Err-clause-disk
returns-in-Err-clause-disk g c = λ script.
    let V = g.R.Rig.tells_view in
    let K = g.R.Rig.keeps_cuts in
    let o = g.R.Rig.state c.args.rig.now in
    let m = g.R.Rig.state c.format_image.new.rig in
    let e = g.R.Rig.state c.told-in-Err.new.rig in
    ⊎_elim
    (λ same. refusal-leaves (Some Format) o m e c.told-in-Err.ensures.told same.0 (leaves-untouched V o e c.requires.settled (subst (λ rig. OnlyTells V (g.R.Rig.state rig) e) same.1 c.told-in-Err.ensures.disk)))
    (λ failed. fault-leaves o m e c.told-in-Err.ensures.told failed.0 (begun-told V K o m e (g.met.R.Rig.sound c.format_image.new.rig) failed.1 c.told-in-Err.ensures.disk))
    c.in-Err.ensures.failed
