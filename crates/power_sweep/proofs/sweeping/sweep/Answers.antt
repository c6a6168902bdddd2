use Rattle.std.proofs.Common.{◌+◌, ◌*◌, ◌≤◌, ◌∙◌, refl, sym, subst, arith}
use Rattle.apex_types.specs.Rows.{Rows}
use Rattle.rig_core.specs.FuseRig.{fuse_state}
use Rattle.power_sweep.specs.Counts.{AreMounted}
use Rattle.power_sweep.proofs.Counting.{room-left, three-more}
use Rattle.power_sweep.proofs.sweeping.sweep.Goals as goal

pub loop-passed-init : goal.loop-passed-init
loop-passed-init c =
    let begun = c.in_ok-begun.ensures in (
      refl,
      refl,
      subst (λ (t : Rows). AreMounted t c.args.script.now 3 c.in_ok-begun.begun.swept) (sym begun.table) begun.mounted,
      begun.room,
      omega arith,
    )

pub loop-passed-preserved : goal.loop-passed-preserved
loop-passed-preserved c =
    let passed = c.loop-passed.passed in
    let held = c.loop-passed.invariant in
    let few = c.in_ok-begun.ensures.few in
    let room = room-left (passed + 1) c.loop-passed.swept held.2.images_are (omega (arith, c.loop-passed-test.true, few)) held.3 in (
      c.in_ok-run.ensures.table ∙ held.0,
      c.in_ok-cut_each_way.ensures.calls ∙ held.1,
      three-more c.in_ok-run.run'.table c.loop-passed.table c.in_ok-begun.begun.table c.args.script.now (3 * (passed + 1)) (3 * (passed + 1 + 1)) (fuse_state c.in_ok-run.run'.rig)
          c.loop-passed.swept c.cut_each_way.new.self c.in_ok-run.ensures.table held.0 (omega arith) c.in_ok-cut_each_way.ensures.mounts c.in_ok-run.ensures.cuts held.2,
      c.in_ok-cut_each_way.ensures.room 0 room,
      omega (arith, c.in_ok-cut_each_way.ensures.grows, held.4),
    )
