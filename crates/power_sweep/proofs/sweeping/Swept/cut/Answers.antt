use Rattle.std.proofs.Common.{◌+◌, ap, ◌∙◌}
use Rattle.power_sweep.proofs.Counting.{one-more}
use Rattle.power_sweep.proofs.Files.{found-state}
use Rattle.power_sweep.proofs.sweeping.Swept.cut.Goals as goal

pub returns-clause-mounts : goal.returns-clause-mounts
returns-clause-mounts c = λ lines images leaves are.
    let left = leaves c.in_ok-image.image _ c.in_ok-image.ensures.cut.may_leave in
    let found = found-state c.args.table.now c.in_ok-image.image c.in_ok-found.found left.0 c.in_ok-found.ensures.found left.1 in
    one-more c.args.table.now lines images c.args.self.now c.add.new.self left.0 are left.2 c.add.ensures.images (c.add.ensures.mounted _ found) (c.add.ensures.files _ found)

pub returns-clause-files : goal.returns-clause-files
returns-clause-files c = λ files leaves.
    let left = leaves c.in_ok-image.image _ c.in_ok-image.ensures.cut.may_leave in
    let found = found-state c.args.table.now c.in_ok-image.image c.in_ok-found.found left.0 c.in_ok-found.ensures.found left.1 in
    c.add.ensures.files _ found ∙ ap (λ n. c.args.self.now.files + n) left.2
