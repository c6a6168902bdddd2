use Rattle.std.proofs.Common.{◌∙◌}
use Rattle.tree_region.proofs.Committed.{moments, view-tree, in-step}
use Rattle.tree_region.proofs.committing.commit_slot.Goals as goal

pub returns-in_err-commit-clause-any_moment : goal.returns-in_err-commit-clause-any_moment
returns-in_err-commit-clause-any_moment g c = λ before tells is.
    moments g.R.Rig.tells_view g.R.Rig.keeps_cuts c.args.row.now c.args.at c.args.kept.now (g.R.Rig.state c.args.rig.now) (g.R.Rig.state c.commit.new.rig) (g.met.R.Rig.sound c.args.rig.now) (g.met.R.Rig.sound c.commit.new.rig)
    c.commit.ensures.later.size c.requires.fits c.requires.ready c.put_slot_body.new.body c.commit.new.body c.args.tail.now (c.put_slot_body.ensures.long ∙ c.requires.body) c.commit.ensures.numbered c.requires.tail
    c.put_slot_body.ensures.spelled before tells is c.commit.ensures.switched c.commit.ensures.outside

pub returns-in_err-commit-clause-shown : goal.returns-in_err-commit-clause-shown
returns-in_err-commit-clause-shown g c = λ before tells is.
    view-tree g.R.Rig.tells_view g.R.Rig.keeps_cuts c.args.row.now c.args.at c.args.kept.now (g.R.Rig.state c.args.rig.now) (g.R.Rig.state c.commit.new.rig) (g.met.R.Rig.sound c.args.rig.now) (g.met.R.Rig.sound c.commit.new.rig)
    c.commit.ensures.later.size c.requires.fits c.requires.ready c.put_slot_body.new.body c.commit.new.body c.args.tail.now (c.put_slot_body.ensures.long ∙ c.requires.body) c.commit.ensures.numbered c.requires.tail
    c.put_slot_body.ensures.spelled before tells is c.commit.ensures.shown (c.commit.ensures.outside_view tells)

pub returns-clause-any_moment : goal.returns-clause-any_moment
returns-clause-any_moment g c = λ before tells is.
    moments g.R.Rig.tells_view g.R.Rig.keeps_cuts c.args.row.now c.args.at c.args.kept.now (g.R.Rig.state c.args.rig.now) (g.R.Rig.state c.commit.new.rig) (g.met.R.Rig.sound c.args.rig.now) (g.met.R.Rig.sound c.commit.new.rig)
    c.commit.ensures.later.size c.requires.fits c.requires.ready c.put_slot_body.new.body c.commit.new.body c.args.tail.now (c.put_slot_body.ensures.long ∙ c.requires.body) c.commit.ensures.numbered c.requires.tail
    c.put_slot_body.ensures.spelled before tells is c.commit.ensures.switched c.commit.ensures.outside

pub returns-clause-shown : goal.returns-clause-shown
returns-clause-shown g c = λ before tells is.
    view-tree g.R.Rig.tells_view g.R.Rig.keeps_cuts c.args.row.now c.args.at c.args.kept.now (g.R.Rig.state c.args.rig.now) (g.R.Rig.state c.commit.new.rig) (g.met.R.Rig.sound c.args.rig.now) (g.met.R.Rig.sound c.commit.new.rig)
    c.commit.ensures.later.size c.requires.fits c.requires.ready c.put_slot_body.new.body c.commit.new.body c.args.tail.now (c.put_slot_body.ensures.long ∙ c.requires.body) c.commit.ensures.numbered c.requires.tail
    c.put_slot_body.ensures.spelled before tells is c.commit.ensures.shown (c.commit.ensures.outside_view tells)

pub returns-clause-in_step : goal.returns-clause-in_step
returns-clause-in_step g c =
    let ensured = c.in_ok-commit.ensures in
    in-step g.R.Rig.tells_view g.R.Rig.keeps_cuts c.args.row.now c.args.at c.args.kept.now (g.R.Rig.state c.args.rig.now) (g.R.Rig.state c.commit.new.rig) (g.met.R.Rig.sound c.args.rig.now) (g.met.R.Rig.sound c.commit.new.rig)
    ensured.later.size c.requires.fits c.requires.ready c.put_slot_body.new.body c.commit.new.body c.args.tail.now (c.put_slot_body.ensures.long ∙ c.requires.body) ensured.numbered c.requires.tail
    c.put_slot_body.ensures.spelled c.commit.new.self ensured.place (λ tells. ensured.committed tells) (λ tells. ensured.known tells) ensured.settled c.put_slot_body.ensures.header
    c.newest.result c.newest.ensures.slot c.fresh-kept.result (c.fresh-kept.ensures.first ∙ c.journal_start.ensures) c.fresh-kept.ensures.held c.fresh-kept.ensures.room
