use Rattle.std.proofs.Common.{refl}
use Rattle.apex_model.specs.Files.{resized}
use Rattle.tree_state.proofs.ContentSteps.{changed-after, stays-then-reads, unchanged-after}
use Rattle.tree_state.proofs.resizing.resize.Goals as goal

pub returns-in-Err-resize_held-clause-unchanged : goal.returns-in-Err-resize_held-clause-unchanged
returns-in-Err-resize_held-clause-unchanged g c =
    unchanged-after g.R.Rig.tells_view c.args.row.now c.args.at (g.R.Rig.state c.args.rig.now).view (g.R.Rig.state c.write_back.new.rig).view (g.R.Rig.state c.resize_held.new.rig).view c.args.state.now c.write_back.new.state
    c.resize_held.new.state c.write_back.ensures.files c.write_back.ensures.contents c.in-Err-resize_held.ensures.unchanged

pub returns-in-Err-resize_held-clause-durable : goal.returns-in-Err-resize_held-clause-durable
returns-in-Err-resize_held-clause-durable g c =
    let done = c.resize_held.ensures in
    let w = c.write_back.ensures in
    let m = c.write_back.new.rig in
    stays-then-reads g.R.Rig.tells_view g.R.Rig.keeps_cuts c.args.row.now c.args.at (g.R.Rig.state c.args.rig.now) c.args.state.now (g.R.Rig.state m) (g.R.Rig.state c.resize_held.new.rig) c.write_back.new.state c.resize_held.new.state
    (g.met.R.Rig.sound m) done.reads (record { any_moment = w.any_moment; state = w.state; durable = w.durable; kept = w.kept; outside = w.outside; outside_view = w.outside_view; later = w.later; made = w.made })
    done.state done.kept

pub returns-in-Ok-resize_held-clause-changed : goal.returns-in-Ok-resize_held-clause-changed
returns-in-Ok-resize_held-clause-changed g c =
    changed-after g.R.Rig.tells_view c.args.row.now c.args.at (g.R.Rig.state c.args.rig.now).view (g.R.Rig.state c.write_back.new.rig).view (g.R.Rig.state c.resize_held.new.rig).view c.args.state.now c.write_back.new.state
    c.resize_held.new.state c.write_back.ensures.files c.write_back.ensures.contents c.args.file (λ content. resized content c.args.size) c.args.size c.args.size refl c.in-Ok-resize_held.ensures.changed

pub returns-in-Ok-resize_held-clause-durable : goal.returns-in-Ok-resize_held-clause-durable
returns-in-Ok-resize_held-clause-durable g c =
    let done = c.resize_held.ensures in
    let w = c.write_back.ensures in
    let m = c.write_back.new.rig in
    stays-then-reads g.R.Rig.tells_view g.R.Rig.keeps_cuts c.args.row.now c.args.at (g.R.Rig.state c.args.rig.now) c.args.state.now (g.R.Rig.state m) (g.R.Rig.state c.resize_held.new.rig) c.write_back.new.state c.resize_held.new.state
    (g.met.R.Rig.sound m) done.reads (record { any_moment = w.any_moment; state = w.state; durable = w.durable; kept = w.kept; outside = w.outside; outside_view = w.outside_view; later = w.later; made = w.made })
    done.state done.kept
