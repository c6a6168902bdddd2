use Rattle.std.proofs.Common.{sym, subst}
use Rattle.apex_host.specs.Stops.{StopsMount}
use Rattle.apex_host.specs.declared.stops.Stop.{Stop}
use Rattle.apex_host.proofs.Opened.{opened}
use Rattle.apex_host.proofs.opening.opened_session.Goals as goal

pub returns-in-Ok-start-clause-starts : goal.returns-in-Ok-start-clause-starts
returns-in-Ok-start-clause-starts g c = λ v.
    let e = g.R.Rig.state c.mounted.new.rig in
    let one = opened g.R.Rig.tells_view v c.args.table c.requires.accepted (g.R.Rig.state c.args.rig.now) e c.mounted.ensures.reads c.in-Ok.store c.in-Ok.ensures.mounted in
    record { stored = one.stored; image = one.image; valid = one.valid; stands = c.in-Ok-start.ensures.world v one.stored one.holds }

pub returns-in-Err-start-clause-stopped : goal.returns-in-Err-start-clause-stopped
returns-in-Err-start-clause-stopped g c =
    let P : Stop → Type 0 = λ s. StopsMount g.R.Rig.tells_view c.args.table (g.R.Rig.state c.args.rig.now) (g.R.Rig.state c.mounted.new.rig) s in
    subst P (sym c.memory.ensures) StopsMount.starved
