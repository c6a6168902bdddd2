use Rattle.std.proofs.Common.{arith}
use Rattle.tree_region.proofs.Forgotten.{in-step-forgotten}
use Rattle.tree_region.proofs.Removed.{is-gone}
use Rattle.tree_region.proofs.removing.remove_file_name.Goals as goal

pub returns-in-Err-clause-any_moment : goal.returns-in-Err-clause-any_moment
returns-in-Err-clause-any_moment g c = λ path there. c.change_names.ensures.any_moment _ (is-gone c.args.kept.now.tree c.args.file.0 path there)

pub returns-in-Err-clause-shown : goal.returns-in-Err-clause-shown
returns-in-Err-clause-shown g c = λ path there. c.change_names.ensures.shown _ (is-gone c.args.kept.now.tree c.args.file.0 path there)

pub returns-in-Ok-false-clause-any_moment : goal.returns-in-Ok-false-clause-any_moment
returns-in-Ok-false-clause-any_moment g c = λ path there. c.change_names.ensures.any_moment _ (is-gone c.args.kept.now.tree c.args.file.0 path there)

pub returns-in-Ok-false-clause-shown : goal.returns-in-Ok-false-clause-shown
returns-in-Ok-false-clause-shown g c = λ path there. c.change_names.ensures.shown _ (is-gone c.args.kept.now.tree c.args.file.0 path there)

pub returns-in-Ok-true-clause-any_moment : goal.returns-in-Ok-true-clause-any_moment
returns-in-Ok-true-clause-any_moment g c = λ path there. c.change_names.ensures.any_moment _ (is-gone c.args.kept.now.tree c.args.file.0 path there)

pub returns-in-Ok-true-clause-shown : goal.returns-in-Ok-true-clause-shown
returns-in-Ok-true-clause-shown g c = λ path there. c.change_names.ensures.shown _ (is-gone c.args.kept.now.tree c.args.file.0 path there)

pub returns-in-Ok-true-clause-in_step : goal.returns-in-Ok-true-clause-in_step
returns-in-Ok-true-clause-in_step g c =
    in-step-forgotten g.R.Rig.tells_view c.args.row.now c.args.at (g.R.Rig.state c.change_names.new.rig) c.change_names.new.kept c.forget_row.new.kept c.forget_row.ensures.forgets
    (λ shown. omega (arith, c.requires.fits, c.change_names.ensures.later.size, (g.met.R.Rig.sound c.change_names.new.rig).view_fills shown)) c.in-Ok-true.ensures.in_step
