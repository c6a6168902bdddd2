use Rattle.std.proofs.Common.{◌≡◌, true, inr}
use Rattle.script_run.specs.Heard.{is_unread}
use Rattle.script_run.proofs.Whole.{unread-cause}
use Rattle.script_run.proofs.chosen.step_whole.Goals as goal

pub returns-then-is_unread-clause-cause : goal.returns-then-is_unread-clause-cause
returns-then-is_unread-clause-cause g c =
    let unread : is_unread c.args.line.now c.in-Ok.reply ≡ true = cc in
    inr (unread-cause (g.R.Rig.state c.args.rig.now) (g.R.Rig.state c.step.new.rig) c.args.line.now c.in-Ok.reply unread c.in-Ok.ensures.unread)
