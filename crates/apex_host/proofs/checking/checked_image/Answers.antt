use Rattle.std.proofs.Common.{Some, refl, sym, subst}
use Rattle.apex_host.specs.Endings.{seen}
use Rattle.apex_host.specs.Stops.{told_with, Owes}
use Rattle.apex_host.specs.declared.status.Status.TheVariants.{Done}
use Rattle.apex_host.specs.declared.command.Command.TheVariants.{Check}
use Rattle.apex_host.proofs.Endings.{no-table, no-image, owes-good}
use Rattle.apex_host.proofs.Opened.{good}
use Rattle.apex_host.proofs.StopLaws.{no-image-undone}
use Rattle.apex_host.proofs.checking.checked_image.Goals as goal

pub returns-in-Err-clause-stopped : goal.returns-in-Err-clause-stopped
returns-in-Err-clause-stopped g c = λ script faults. no-table (g.R.Rig.state c.args.rig.now) Check c.in-Err.ensures.stopped

pub returns-in-Err-mounted-clause-stopped : goal.returns-in-Err-mounted-clause-stopped
returns-in-Err-mounted-clause-stopped g c = λ script faults.
    no-image (g.R.Rig.state c.args.rig.now) (g.R.Rig.state c.mounted.new.rig) c.in-Ok.ensures.good refl Check c.in-Ok.rows c.in-Ok.ensures.gave tt c.mounted.ensures.reads.told c.in-Err-mounted.ensures.stopped

pub returns-in-Err-mounted-clause-undone : goal.returns-in-Err-mounted-clause-undone
returns-in-Err-mounted-clause-undone g c = no-image-undone c.in-Err-mounted.ensures.stopped

pub returns-clause-made : goal.returns-clause-made
returns-clause-made g c = λ script faults.
    let o = g.R.Rig.state c.args.rig.now in
    let m = g.R.Rig.state c.mounted.new.rig in
    let reads = c.mounted.ensures.reads in
    subst (λ line. Owes g.R.Rig.tells_text g.R.Rig.tells_view (Some Check) (seen (g.T.Source.left c.args.table.now) (g.T.Source.faults c.args.table.now) script faults o)
    (seen (g.T.Source.left c.accepted_table.new.source) (g.T.Source.faults c.accepted_table.new.source) script faults m) (told_with Done line)) (sym c.good.ensures)
    (owes-good o m c.in-Ok.ensures.good refl c.in-Ok.rows c.in-Ok.ensures.gave
    (λ v. good g.R.Rig.tells_view v c.in-Ok.rows c.in-Ok.ensures.gave.accepted o m reads c.in-Ok-mounted.field-0 c.in-Ok-mounted.ensures.mounted) reads.told)
