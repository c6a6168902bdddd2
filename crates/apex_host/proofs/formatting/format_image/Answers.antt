use Rattle.std.proofs.Common.{rules, ◌≡◌, ◌*◌, ◌∙◌, ap, subst, inl, inr, refl}
use Rattle.std.specs.Prelude.{Result, Err}
use Rattle.apex_model.specs.Layout.{layout_blocks}
use Rattle.recover_scan.specs.Format.{FailsFor}
use Rattle.recover_scan.specs.declared.errors.FormatError.{FormatError}
use Rattle.apex_host.specs.declared.command.Command.TheVariants.{Format}
use Rattle.apex_host.proofs.Disks.{begins-format}
use Rattle.apex_host.proofs.Endings.{no-table, owes-formatted, owes-small, owes-fault, owes-memory}
use Rattle.apex_host.proofs.StopLaws.{no-table-undone}
use Rattle.apex_host.specs.declared.stops.Stop.{Stop}
use Rattle.apex_host.proofs.formatting.format_image.Goals as goal

pub returns-in-Err-clause-stopped : goal.returns-in-Err-clause-stopped
returns-in-Err-clause-stopped g c = λ script faults. no-table (g.R.Rig.state c.args.rig.now) Format c.in-Err.ensures.stopped

pub returns-in-Ok-format-clause-made : goal.returns-in-Ok-format-clause-made
returns-in-Ok-format-clause-made g c = λ script faults.
    owes-formatted (g.R.Rig.state c.args.rig.now) (g.R.Rig.state c.format.new.rig) c.in-Ok.ensures.good refl c.in-Ok.rows c.in-Ok.ensures.gave c.format.ensures.told c.format.ensures.small
    c.blocks-in-Ok-format.result c.in-Ok-format.field-0 (search rules) c.in-Ok-format.is

pub returns-in-Ok-format-clause-empty : goal.returns-in-Ok-format-clause-empty
returns-in-Ok-format-clause-empty g c =
    let done = c.in-Ok-format.ensures in
    record {
      begins = begins-format c.in-Ok.rows (g.R.Rig.state c.args.rig.now) (g.R.Rig.state c.format.new.rig) c.in-Ok.ensures.gave.spelled done.any_moment done.rest;
      holds = record { images = λ image told now. (done.formatted image told now, done.whole image told now); view = λ v. (done.shown v, done.whole_shown v) };
    }

pub returns-in-Err-clause-failed : goal.returns-in-Err-clause-failed
returns-in-Err-clause-failed g c = inl (no-table-undone c.in-Err.ensures.stopped, refl)

pub returns-in-Err-TooSmall-clause-stopped : goal.returns-in-Err-TooSmall-clause-stopped
returns-in-Err-TooSmall-clause-stopped g c = λ script faults.
    let o = g.R.Rig.state c.args.rig.now in
    let e = g.R.Rig.state c.format.new.rig in
    let P : FormatError → Type 0 = λ x. FailsFor (512 * layout_blocks c.in-Ok.rows) o e (c.format.new.rig ≡ c.args.rig.now) x in
    let why = subst P c.in-Err-TooSmall.field-0-is c.in-Err-TooSmall.ensures.cause in
    owes-small o e c.in-Ok.ensures.good refl c.in-Ok.rows c.in-Ok.ensures.gave c.format.ensures.told c.format.ensures.small c.in-Err-TooSmall.wanted c.small.result c.small.ensures why.0 why.1

pub returns-in-Err-Device-clause-stopped : goal.returns-in-Err-Device-clause-stopped
returns-in-Err-Device-clause-stopped g c = λ script faults.
    let o = g.R.Rig.state c.args.rig.now in
    let e = g.R.Rig.state c.format.new.rig in
    let P : FormatError → Type 0 = λ x. FailsFor (512 * layout_blocks c.in-Ok.rows) o e (c.format.new.rig ≡ c.args.rig.now) x in
    let E : FormatError → Result (Unit {0}) FormatError = λ x. Err x in
    owes-fault o e c.in-Ok.ensures.good refl c.in-Ok.rows c.in-Ok.ensures.gave c.format.ensures.told c.format.ensures.small c.format_fault.result c.format_fault.ensures
    (c.in-Err-Device.is ∙ ap E c.in-Err-Device.field-0-is) (subst P c.in-Err-Device.field-0-is c.in-Err-Device.ensures.cause)

pub returns-in-Err-Device-clause-failed : goal.returns-in-Err-Device-clause-failed
returns-in-Err-Device-clause-failed g c =
    inr (ap (λ (x : Stop). x.status) c.format_fault.ensures, begins-format c.in-Ok.rows (g.R.Rig.state c.args.rig.now) (g.R.Rig.state c.format.new.rig) c.in-Ok.ensures.gave.spelled c.format.ensures.any_moment c.format.ensures.rest)

pub returns-clause-stopped : goal.returns-clause-stopped
returns-clause-stopped g c = λ script faults.
    owes-memory (g.R.Rig.state c.args.rig.now) (g.R.Rig.state c.format.new.rig) c.in-Ok.ensures.good refl Format c.memory.result c.memory.ensures c.format.ensures.told
