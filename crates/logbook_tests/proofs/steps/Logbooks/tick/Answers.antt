use Rattle.std.proofs.Common.{◌≡◌, ◌∙◌}
use Rattle.logbook_store.specs.Logs.{sites_of}
use Rattle.logbook_services.proofs.Mounted.{moved-serving}
use Rattle.logbook_tests.proofs.Known.{still_laid}
use Rattle.logbook_tests.proofs.steps.Logbooks.tick.Goals as goal

pub returns-in-Ok : goal.returns-in-Ok
returns-in-Ok g c =
    let old = c.args.self.now in
    let new = c.move_all.new.self in
    let o = g.R.Rig.state c.args.rig.now in
    let e = g.R.Rig.state c.move_all.new.rig in
    let step = c.requires in
    let done = c.in-Ok.ensures in
    record {
      accepted = step.accepted;
      of_table = record { sites = done.sites ∙ step.of_table.sites; long = step.of_table.long };
      laid_out = still_laid (sites_of old.logs) (sites_of new) o.size e.size done.sites done.later.size step.laid_out;
      settled = done.settled;
      serving = λ tells. moved-serving old.table old.logs new old.made o.view e.view step.accepted step.of_table (step.serving tells) (λ logbooks stand. done.moved logbooks tells stand);
    }
