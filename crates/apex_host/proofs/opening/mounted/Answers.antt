use Rattle.std.proofs.Common.{arith, ap}
use Rattle.std.specs.Prelude.{Result, Err}
use Rattle.image_mount.specs.declared.store.Store.{Store}
use Rattle.recover_scan.specs.declared.errors.MountError.{MountError}
use Rattle.apex_host.proofs.Bounds.{image-few}
use Rattle.apex_host.proofs.StopLaws.{image-stops}
use Rattle.apex_host.proofs.opening.mounted.Goals as goal

pub image-requires : goal.image-requires
image-requires g c = λ wanted is.
    let few = image-few c.args.table.now c.requires.accepted in
    omega (arith, few, (c.in-Err.ensures.small wanted is).1)

pub returns-in-Err-clause-stopped : goal.returns-in-Err-clause-stopped
returns-in-Err-clause-stopped g c =
    let E : MountError → Result Store MountError = λ x. Err x in
    image-stops c.in-Err.error c.in-Err.ensures.refused c.in-Err.ensures.small (λ is. c.in-Err.ensures.cause (ap E is)) c.image.ensures.refused c.image.ensures.fault c.image.ensures.memory
