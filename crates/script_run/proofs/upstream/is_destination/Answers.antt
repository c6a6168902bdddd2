use Rattle.std.proofs.Common.{◌≡◌, ◌==◌, true, false, Bool, arith}
use Rattle.apex_types.specs.declared.rows.PortRow.{PortRow}
use Rattle.script_run.proofs.Searched.{found, none_more}
use Rattle.script_run.proofs.upstream.is_destination.Goals as goal

pub returns-then-at-p : goal.returns-then-at-p
returns-then-at-p c =
    let is : PortRow → Bool = λ port. port.partition.0 == c.args.p.0 in
    let same : is c.at.result.now ≡ true = grind arith in
    found is c.args.destinations.now c.loop-k.k c.at.result.now c.at.ensures same

pub loop-k-preserved : goal.loop-k-preserved
loop-k-preserved c =
    let is : PortRow → Bool = λ port. port.partition.0 == c.args.p.0 in
    let other : is c.at.result.now ≡ false = grind arith in
    none_more is c.args.destinations.now c.loop-k.k c.at.result.now c.at.ensures other c.loop-k.invariant
