use Rattle.std.proofs.Common.{true, refl, subst, ◌∙◌}
use Rattle.file_tree.specs.Records.{IsMade, applied}
use Rattle.tree_state.proofs.NameStates.{data-stays, lent-long, state-changed}
use Rattle.tree_state.proofs.changing.change_tree.Goals as goal

pub change_names-requires-clause-tail : goal.change_names-requires-clause-tail
change_names-requires-clause-tail g c = c.deref.ensures.value ∙ c.requires.state.tail

pub returns-in-Err-clause-blocks : goal.returns-in-Err-clause-blocks
returns-in-Err-clause-blocks g c = λ tells.
    data-stays c.args.row.now c.args.at (g.R.Rig.state c.args.rig.now).view (g.R.Rig.state c.change_names.new.rig).view (c.change_names.ensures.outside_view tells)

pub returns-in-Ok-true-clause-state : goal.returns-in-Ok-true-clause-state
returns-in-Ok-true-clause-state g c =
    let made : IsMade (applied c.args.state.now.kept.tree c.args.change.now) c.args.state.now.kept.tree c.change_names.new.kept.tree true
    = subst (IsMade (applied c.args.state.now.kept.tree c.args.change.now) c.args.state.now.kept.tree c.change_names.new.kept.tree) c.in-Ok-true.field-0-test c.in-Ok-true.ensures.applied in
    state-changed g.R.Rig.tells_view c.args.row.now c.args.at (g.R.Rig.state c.args.rig.now) c.args.state.now c.requires.state (g.R.Rig.state c.change_names.new.rig) _
    c.in-Ok-true.ensures.in_step c.change_names.ensures.table (c.requires.keeps c.change_names.new.kept.tree made) refl refl
    (lent-long c.args.state.now.body.len c.deref_mut.result.now c.args.state.now.body.items c.change_names.new.body c.deref_mut.ensures.value c.deref_mut.ensures.len c.change_names.ensures.long) refl

pub returns-in-Ok-true-clause-step : goal.returns-in-Ok-true-clause-step
returns-in-Ok-true-clause-step g c = λ after applies. record {
  any_moment = c.change_names.ensures.any_moment after applies;
  shown = c.change_names.ensures.shown after applies;
  outside = c.change_names.ensures.outside;
  outside_view = c.change_names.ensures.outside_view;
  later = c.change_names.ensures.later;
  made = c.change_names.ensures.made;
}

pub returns-in-Ok-true-clause-blocks : goal.returns-in-Ok-true-clause-blocks
returns-in-Ok-true-clause-blocks g c = λ tells.
    data-stays c.args.row.now c.args.at (g.R.Rig.state c.args.rig.now).view (g.R.Rig.state c.change_names.new.rig).view (c.change_names.ensures.outside_view tells)
