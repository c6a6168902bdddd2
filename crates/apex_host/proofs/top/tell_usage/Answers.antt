use Rattle.std.proofs.Common.{refl, arith, None}
use Rattle.apex_host.proofs.Disks.{leaves-untouched, refusal-leaves}
use Rattle.apex_host.proofs.Endings.{owes-usage, ends-told}
use Rattle.apex_host.proofs.top.tell_usage.Goals as goal

pub returns-clause-ends : goal.returns-clause-ends
returns-clause-ends g c = λ t s f h.
    ends-told t s f h (g.R.Rig.state c.args.rig.now) (g.R.Rig.state c.told.new.rig) (owes-usage (g.R.Rig.state c.args.rig.now)) refl (omega arith)
    c.told.ensures.disk.later c.told.ensures.told

pub returns-clause-disk : goal.returns-clause-disk
returns-clause-disk g c = λ table script.
    let o = g.R.Rig.state c.args.rig.now in
    let e = g.R.Rig.state c.told.new.rig in
    refusal-leaves None o o e c.told.ensures.told (λ done. cc) (leaves-untouched g.R.Rig.tells_view o e c.requires.settled c.told.ensures.disk)
