use Rattle.std.proofs.Common.{◌+◌, sym, arith}
use Rattle.block_pool.specs.Lists.{list_at}
use Rattle.tree_state.proofs.Fronts.{none-first, none-held}
use Rattle.tree_state.proofs.FlushSteps.{paid-none, paid-one, paid-then, writes-none, writes-then}
use Rattle.tree_state.proofs.flushing.write_some.Goals as goal

pub loop-count-init : goal.loop-count-init
loop-count-init g c = record {
  writes = writes-none g.R.Rig.tells_view c.args.row.now c.args.at (g.R.Rig.state c.args.rig.now) c.args.state.now c.requires.state;
  paid = paid-none (g.R.Rig.state c.args.rig.now) c.args.state.now;
  count = omega arith;
}

pub loop-count-preserved : goal.loop-count-preserved
loop-count-preserved g c =
    let before = c.loop-count.invariant in
    let o = c.args.rig.now in
    let m = c.loop-count.rig in
    let e = c.write_node.new.rig in
    let one = paid-one (g.R.Rig.state m) (g.R.Rig.state e) c.loop-count.state c.write_node.new.state c.in_ok-write_node.ensures.freed c.write_node.ensures.made in
    record {
      writes = writes-then g.R.Rig.tells_view g.R.Rig.keeps_cuts c.args.row.now c.args.at (g.R.Rig.state o) (g.R.Rig.state m) (g.R.Rig.state e) c.args.state.now c.loop-count.state c.write_node.new.state (g.met.R.Rig.sound m) before.writes before.paid
          c.write_node.ensures.writes;
      paid = paid-then g.R.Rig.tells_view g.R.Rig.keeps_cuts c.args.row.now c.args.at (g.R.Rig.state o) (g.R.Rig.state m) (g.R.Rig.state e) c.args.state.now c.loop-count.state c.write_node.new.state (g.met.R.Rig.sound m) before.writes before.paid
          c.write_node.ensures.writes one;
      count = omega (arith, before.count, c.in_ok-write_node.ensures.freed);
    }

pub returns-in_default-clause-none : goal.returns-in_default-clause-none
returns-in_default-clause-none g c = λ few k.
    let pool = c.loop-count.state.present.pool in
    none-held pool c.front.ensures.sound c.args.file (none-first (list_at pool.lists (c.args.file.0 + 1)) (sym c.in_default.ensures.first)) k

pub returns-in_err-write_node-clause-writes : goal.returns-in_err-write_node-clause-writes
returns-in_err-write_node-clause-writes g c =
    let before = c.loop-count.invariant in
    let m = c.loop-count.rig in
    writes-then g.R.Rig.tells_view g.R.Rig.keeps_cuts c.args.row.now c.args.at (g.R.Rig.state c.args.rig.now) (g.R.Rig.state m) (g.R.Rig.state c.write_node.new.rig) c.args.state.now c.loop-count.state c.write_node.new.state (g.met.R.Rig.sound m)
    before.writes before.paid c.write_node.ensures.writes
