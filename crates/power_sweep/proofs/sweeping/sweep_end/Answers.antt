use Rattle.std.proofs.Common.{◌≡◌, ◌+◌, ◌*◌, ◌≤◌, ℕ, List, refl, sym, subst, arith}
use Rattle.apex_types.specs.Rows.{Rows}
use Rattle.rig_core.specs.FuseRig.{fuse_state}
use Rattle.rig_core.specs.Outside.{AllNow}
use Rattle.power_sweep.specs.Whole.{HasFiles, last_files}
use Rattle.power_sweep.specs.declared.sweeping.Swept.{Swept}
use Rattle.power_sweep.proofs.Counting.{none-mounted, none-room, three-more}
use Rattle.power_sweep.proofs.sweeping.sweep_end.Goals as goal

pub cut_each_way-requires-clause-room : goal.cut_each_way-requires-clause-room
cut_each_way-requires-clause-room c = none-room _ refl refl refl

pub returns-clause-mounted : goal.returns-clause-mounted
returns-clause-mounted c =
    let swept : Swept = record { calls = c.made-calls.result; images = 0; mounted = 0; files = 0 } in
    three-more c.in_ok-run.run'.table c.args.table c.args.table c.args.script.now 0 3 (fuse_state c.in_ok-run.run'.rig) swept c.cut_each_way.new.self
    c.in_ok-run.ensures.table refl refl c.in_ok-cut_each_way.ensures.mounts c.in_ok-run.ensures.cuts (none-mounted c.args.table c.args.script.now swept refl refl refl)

pub returns-clause-room : goal.returns-clause-room
returns-clause-room c = c.in_ok-cut_each_way.ensures.room 0 (none-room _ refl refl refl)

pub returns-clause-names : goal.returns-clause-names
returns-clause-names c =
    let whole = c.in_ok-run.ensures.whole c.if-run.false in
    omega (arith, whole.names, c.made-calls.ensures, c.in_ok-cut_each_way.ensures.calls)

pub returns-clause-files : goal.returns-clause-files
returns-clause-files c =
    let whole = c.in_ok-run.ensures.whole c.if-run.false in
    let n = last_files c.args.table c.args.script.now in
    let leaves = subst (λ (t : Rows). AllNow (HasFiles t n) (fuse_state c.in_ok-run.run'.rig)) (sym c.in_ok-run.ensures.table) whole.files in
    let files = c.in_ok-cut_each_way.ensures.files n leaves in
    omega (arith, files)
