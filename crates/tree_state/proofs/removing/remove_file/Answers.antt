use Rattle.std.proofs.Common.{◌≡◌, ℕ, List, Bool, true, refl, ap, subst, ◌∙◌}
use Rattle.std.specs.Prelude.{MatchBool}
use Rattle.file_tree.specs.Entries.{slot, without_file}
use Rattle.file_tree.specs.Records.{IsMade, gone_file}
use Rattle.file_tree.proofs.Changes.{some_is}
use Rattle.present_files.specs.Present.{content_of}
use Rattle.tree_region.specs.InStep.{data_at}
use Rattle.tree_region.specs.Rows.{number_at}
use Rattle.tree_region.proofs.Removed.{is-gone}
use Rattle.tree_state.proofs.Removed.{gone-step, state-removed, tree-gone}
use Rattle.tree_state.proofs.NameStates.{data-stays, lent-long}
use Rattle.tree_state.proofs.NameSteps.{some-same}
use Rattle.tree_state.proofs.removing.remove_file.Goals as goal

pub remove_file_name-requires-clause-tail : goal.remove_file_name-requires-clause-tail
remove_file_name-requires-clause-tail g c = c.deref.ensures.value ∙ c.requires.state.tail

pub returns-in-Err-clause-step : goal.returns-in-Err-clause-step
returns-in-Err-clause-step g c = λ path there.
    gone-step g.R.Rig.tells_view c.args.row.now c.args.at (g.R.Rig.state c.args.rig.now) (g.R.Rig.state c.remove_file_name.new.rig) c.args.state.now c.args.file path c.stand.ensures.consistent there
    (record {
      any_moment = c.remove_file_name.ensures.any_moment path there;
      shown = c.remove_file_name.ensures.shown path there;
      outside = c.remove_file_name.ensures.outside;
      outside_view = c.remove_file_name.ensures.outside_view;
      later = c.remove_file_name.ensures.later;
      made = c.remove_file_name.ensures.made;
    })

pub returns-in-Err-clause-contents : goal.returns-in-Err-clause-contents
returns-in-Err-clause-contents g c = λ tells other differs.
    ap (λ (blocks : List ℕ). content_of blocks c.args.state.now.present other)
    (data-stays c.args.row.now c.args.at (g.R.Rig.state c.args.rig.now).view (g.R.Rig.state c.remove_file_name.new.rig).view (c.remove_file_name.ensures.outside_view tells))

pub returns-in-Ok-true-clause-step : goal.returns-in-Ok-true-clause-step
returns-in-Ok-true-clause-step g c = λ path there.
    gone-step g.R.Rig.tells_view c.args.row.now c.args.at (g.R.Rig.state c.args.rig.now) (g.R.Rig.state c.remove_file_name.new.rig) c.args.state.now c.args.file path c.stand.ensures.consistent there
    (record {
      any_moment = c.remove_file_name.ensures.any_moment path there;
      shown = c.remove_file_name.ensures.shown path there;
      outside = c.remove_file_name.ensures.outside;
      outside_view = c.remove_file_name.ensures.outside_view;
      later = c.remove_file_name.ensures.later;
      made = c.remove_file_name.ensures.made;
    })

pub returns-in-Ok-true-clause-contents : goal.returns-in-Ok-true-clause-contents
returns-in-Ok-true-clause-contents g c = λ tells other differs.
    let old = (g.R.Rig.state c.args.rig.now).view in
    ap (λ (blocks : List ℕ). content_of blocks c.give_up.new.present other)
    (data-stays c.args.row.now c.args.at old (g.R.Rig.state c.remove_file_name.new.rig).view (c.remove_file_name.ensures.outside_view tells))
    ∙ c.give_up.ensures.others (data_at c.args.row.now c.args.at old) other differs

pub returns-in-Ok-true-clause-durable : goal.returns-in-Ok-true-clause-durable
returns-in-Ok-true-clause-durable g c = λ path there tells.
    let v = c.args.state.now.kept.tree in
    let f = c.args.file.0 in
    let made : IsMade (gone_file v f) v c.remove_file_name.new.kept.tree true
    = subst (IsMade (gone_file v f) v c.remove_file_name.new.kept.tree) c.in-Ok-true.field-0-test c.in-Ok-true.ensures.removed in
    let old = (g.R.Rig.state c.args.rig.now).view in
    let now = (g.R.Rig.state c.remove_file_name.new.rig).view in
    tree-gone g.R.Rig.tells_view c.args.row.now c.args.at (g.R.Rig.state c.args.rig.now) (g.R.Rig.state c.remove_file_name.new.rig) c.args.state.now (record c.args.state.now { kept = c.remove_file_name.new.kept }) c.requires.state c.args.file path
    there (some-same (gone_file v f) c.remove_file_name.new.kept.tree (without_file v f path) made (is-gone v f path there)) c.remove_file_name.ensures.others c.stand.ensures.consistent old now
    (data-stays c.args.row.now c.args.at old now (c.remove_file_name.ensures.outside_view tells))

pub returns-in-Ok-true-clause-state : goal.returns-in-Ok-true-clause-state
returns-in-Ok-true-clause-state g c =
    let v = c.args.state.now.kept.tree in
    let f = c.args.file.0 in
    let made : IsMade (gone_file v f) v c.remove_file_name.new.kept.tree true
    = subst (IsMade (gone_file v f) v c.remove_file_name.new.kept.tree) c.in-Ok-true.field-0-test c.in-Ok-true.ensures.removed in
    let path = some_is (slot v.files f) c.requires.in_use in
    let kept = c.remove_file_name.new.kept in
    let none : (k : ℕ) → number_at kept f k ≡ 0
    = subst (λ (b : Bool). MatchBool b ((k : ℕ) → number_at kept f k ≡ 0) (kept.table ≡ c.args.state.now.kept.table)) c.in-Ok-true.field-0-test c.in-Ok-true.ensures.row in
    state-removed g.R.Rig.tells_view c.args.row.now c.args.at (g.R.Rig.state c.args.rig.now) (g.R.Rig.state c.remove_file_name.new.rig) c.args.state.now _ c.requires.state c.args.file path.0
    path.1 (some-same (gone_file v f) kept.tree (without_file v f path.0) made (is-gone v f path.0 path.1)) c.remove_file_name.ensures.others
    c.in-Ok-true.ensures.in_step none c.remove_file_name.ensures.used c.give_up.ensures.sizes c.give_up.ensures.numbers c.give_up.ensures.rows c.give_up.ensures.present c.give_up.ensures.buffers
    c.settle.ensures c.total.ensures.within
    (lent-long c.args.state.now.body.len c.deref_mut.result.now c.args.state.now.body.items c.remove_file_name.new.body c.deref_mut.ensures.value c.deref_mut.ensures.len c.remove_file_name.ensures.long) refl
