use Rattle.std.proofs.Common.{◌≡◌, ℕ, ◌≤◌, List, Some, sym, subst, arith}
use Rattle.apex_model.specs.Image.{tree_of_region}
use Rattle.tree_region.specs.OwnedRows.{number_at}
use Rattle.tree_region.specs.InStep.{InStep}
use Rattle.tree_region.proofs.Forgotten.{in-step-forgotten}
use Rattle.tree_region.specs.GoodNumbers.{size_blocks}
use Rattle.tree_region.specs.Region.{region_at}
use Rattle.tree_region.specs.declared.region.TreeRegion.{TreeRegion}
use Rattle.tree_state.specs.Stored.{durable_tree}
use Rattle.tree_state.proofs.Mounted.{contents-are, state-mounted}
use Rattle.tree_state.proofs.mounting.mount_state.Goals as goal

pub state_of-requires-clause-good : goal.state_of-requires-clause-good
state_of-requires-clause-good g c =
    let step = in-step-forgotten g.R.Rig.tells_view c.args.row.now c.args.at (g.R.Rig.state c.mount_settled.new.rig) c.in-Ok.kept c.forget_rows.new.kept c.forget_rows.ensures.forgets
    (λ shown. omega (arith, c.requires.fits, c.mount_settled.ensures.reads.later.size, (g.met.R.Rig.sound c.mount_settled.new.rig).view_fills shown)) c.in-Ok.ensures.in_step in
    step.good

pub returns-in-Ok-state_of-clause-state : goal.returns-in-Ok-state_of-clause-state
returns-in-Ok-state_of-clause-state g c =
    let step = in-step-forgotten g.R.Rig.tells_view c.args.row.now c.args.at (g.R.Rig.state c.mount_settled.new.rig) c.in-Ok.kept c.forget_rows.new.kept c.forget_rows.ensures.forgets
    (λ shown. omega (arith, c.requires.fits, c.mount_settled.ensures.reads.later.size, (g.met.R.Rig.sound c.mount_settled.new.rig).view_fills shown)) c.in-Ok.ensures.in_step in
    let kept = sym c.in-Ok-state_of.ensures.kept in
    state-mounted g.R.Rig.tells_view c.args.row.now c.args.at (g.R.Rig.state c.mount_settled.new.rig) c.in-Ok-state_of.state
    (subst (InStep g.R.Rig.tells_view c.args.row.now c.args.at (g.R.Rig.state c.mount_settled.new.rig)) kept step)
    (subst (λ (k : TreeRegion). (f j : ℕ) → size_blocks k.tree f ≤ j → number_at k.table.files.items f j ≡ 0) kept c.forget_rows.ensures.ends) c.in-Ok-state_of.ensures.fresh

pub returns-in-Ok-state_of-clause-durable : goal.returns-in-Ok-state_of-clause-durable
returns-in-Ok-state_of-clause-durable g c = λ tells.
    let step = in-step-forgotten g.R.Rig.tells_view c.args.row.now c.args.at (g.R.Rig.state c.mount_settled.new.rig) c.in-Ok.kept c.forget_rows.new.kept c.forget_rows.ensures.forgets
    (λ shown. omega (arith, c.requires.fits, c.mount_settled.ensures.reads.later.size, (g.met.R.Rig.sound c.mount_settled.new.rig).view_fills shown)) c.in-Ok.ensures.in_step in
    let kept = sym c.in-Ok-state_of.ensures.kept in
    let stepped = subst (InStep g.R.Rig.tells_view c.args.row.now c.args.at (g.R.Rig.state c.mount_settled.new.rig)) kept step in
    subst (λ (view : List ℕ). tree_of_region c.args.row.now (region_at c.args.row.now c.args.at view) ≡ Some (durable_tree c.args.row.now c.args.at view c.in-Ok-state_of.state)) (c.mount_settled.ensures.reads.view tells) (stepped.stands tells).tree

pub returns-in-Ok-state_of-clause-contents : goal.returns-in-Ok-state_of-clause-contents
returns-in-Ok-state_of-clause-contents g c =
    let step = in-step-forgotten g.R.Rig.tells_view c.args.row.now c.args.at (g.R.Rig.state c.mount_settled.new.rig) c.in-Ok.kept c.forget_rows.new.kept c.forget_rows.ensures.forgets
    (λ shown. omega (arith, c.requires.fits, c.mount_settled.ensures.reads.later.size, (g.met.R.Rig.sound c.mount_settled.new.rig).view_fills shown)) c.in-Ok.ensures.in_step in
    let kept = sym c.in-Ok-state_of.ensures.kept in
    contents-are g.R.Rig.tells_view c.args.row.now c.args.at (g.R.Rig.state c.mount_settled.new.rig) c.in-Ok-state_of.state
    (subst (InStep g.R.Rig.tells_view c.args.row.now c.args.at (g.R.Rig.state c.mount_settled.new.rig)) kept step)
    (subst (λ (k : TreeRegion). (f j : ℕ) → size_blocks k.tree f ≤ j → number_at k.table.files.items f j ≡ 0) kept c.forget_rows.ensures.ends) c.in-Ok-state_of.ensures.fresh
