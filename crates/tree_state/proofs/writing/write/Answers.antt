use Rattle.std.proofs.Common.{refl}
use Rattle.apex_model.specs.Files.{written}
use Rattle.tree_state.proofs.ContentSteps.{changed-after, may-still, stays-then-reads, unchanged-after}
use Rattle.tree_state.proofs.writing.write.Goals as goal

pub write_held-requires-clause-may : goal.write_held-requires-clause-may
write_held-requires-clause-may g c =
    may-still c.args.state.now c.write_back.new.state c.write_back.ensures.files c.args.file c.size_after-size.result c.size_after-size.result refl c.in_default.ensures.may

pub returns-in-Err-write_held-clause-unchanged : goal.returns-in-Err-write_held-clause-unchanged
returns-in-Err-write_held-clause-unchanged g c =
    unchanged-after g.R.Rig.tells_view c.args.row.now c.args.at (g.R.Rig.state c.args.rig.now).view (g.R.Rig.state c.write_back.new.rig).view (g.R.Rig.state c.write_held.new.rig).view c.args.state.now c.write_back.new.state
    c.write_held.new.state c.write_back.ensures.files c.write_back.ensures.contents c.in-Err-write_held.ensures.unchanged

pub returns-in-Err-write_held-clause-durable : goal.returns-in-Err-write_held-clause-durable
returns-in-Err-write_held-clause-durable g c =
    let done = c.write_held.ensures in
    let w = c.write_back.ensures in
    let m = c.write_back.new.rig in
    stays-then-reads g.R.Rig.tells_view g.R.Rig.keeps_cuts c.args.row.now c.args.at (g.R.Rig.state c.args.rig.now) c.args.state.now (g.R.Rig.state m) (g.R.Rig.state c.write_held.new.rig) c.write_back.new.state c.write_held.new.state
    (g.met.R.Rig.sound m) done.reads (record { any_moment = w.any_moment; state = w.state; durable = w.durable; kept = w.kept; outside = w.outside; outside_view = w.outside_view; later = w.later; made = w.made })
    done.state done.kept

pub returns-in-Ok-write_held-clause-changed : goal.returns-in-Ok-write_held-clause-changed
returns-in-Ok-write_held-clause-changed g c =
    changed-after g.R.Rig.tells_view c.args.row.now c.args.at (g.R.Rig.state c.args.rig.now).view (g.R.Rig.state c.write_back.new.rig).view (g.R.Rig.state c.write_held.new.rig).view c.args.state.now c.write_back.new.state
    c.write_held.new.state c.write_back.ensures.files c.write_back.ensures.contents c.args.file (λ content. written content c.args.from c.args.bytes.now) _ c.size_after-size.result c.size_after-size.ensures c.in-Ok-write_held.ensures.changed

pub returns-in-Ok-write_held-clause-durable : goal.returns-in-Ok-write_held-clause-durable
returns-in-Ok-write_held-clause-durable g c =
    let done = c.write_held.ensures in
    let w = c.write_back.ensures in
    let m = c.write_back.new.rig in
    stays-then-reads g.R.Rig.tells_view g.R.Rig.keeps_cuts c.args.row.now c.args.at (g.R.Rig.state c.args.rig.now) c.args.state.now (g.R.Rig.state m) (g.R.Rig.state c.write_held.new.rig) c.write_back.new.state c.write_held.new.state
    (g.met.R.Rig.sound m) done.reads (record { any_moment = w.any_moment; state = w.state; durable = w.durable; kept = w.kept; outside = w.outside; outside_view = w.outside_view; later = w.later; made = w.made })
    done.state done.kept
