use Rattle.std.proofs.Common.{sym, subst}
use Rattle.rig_core.specs.Outside.{OnlyReads}
use Rattle.recover_scan.specs.Mount.{IsRefusedFor}
use Rattle.logbook_store.proofs.ReadRuns.{reads_then}
use Rattle.image_mount.proofs.Kept.{settled_kept}
use Rattle.image_mount.proofs.Whole.{trees_refused, logs_refused, whole_mounted}
use Rattle.image_mount.proofs.mounting.mount.Goals as goal

pub returns-in-Err-mount_trees-clause-refused : goal.returns-in-Err-mount_trees-clause-refused
returns-in-Err-mount_trees-clause-refused g c tells =
    trees_refused g.R.Rig.tells_view c.args.table.now (g.R.Rig.state c.args.rig.now) (g.R.Rig.state c.read_superblock.new.rig) (g.R.Rig.state c.mount_trees.new.rig)
    c.read_superblock.ensures.reads c.in-Ok.ensures.good tells c.in-Err-mount_trees.error c.in-Err-mount_trees.ensures.refused

pub returns-in-Err-mount-clause-refused : goal.returns-in-Err-mount-clause-refused
returns-in-Err-mount-clause-refused g c tells =
    let V = g.R.Rig.tells_view in
    let table = c.args.table.now in
    let o = g.R.Rig.state c.args.rig.now in
    let m = g.R.Rig.state c.mount_trees.new.rig in
    let first : OnlyReads V o m = reads_then V o (g.R.Rig.state c.read_superblock.new.rig) m c.read_superblock.ensures.reads c.mount_trees.ensures.reads in
    subst (IsRefusedFor table o.view) (sym c.log_error.ensures)
    (logs_refused V table o m (g.R.Rig.state c.mount.new.rig) first c.in-Ok-mount_trees.trees c.in-Ok-mount_trees.ensures.mounted c.in-Ok.ensures.good tells c.in-Err-mount.error c.in-Err-mount.ensures.fault)

pub returns-in-Ok-mount-clause-mounted : goal.returns-in-Ok-mount-clause-mounted
returns-in-Ok-mount-clause-mounted g c =
    let V = g.R.Rig.tells_view in
    let K = g.R.Rig.keeps_cuts in
    let o = g.R.Rig.state c.args.rig.now in
    let m = g.R.Rig.state c.mount_trees.new.rig in
    let now = g.met.R.Rig.sound c.mount_trees.new.rig in
    let first : OnlyReads V o m = reads_then V o (g.R.Rig.state c.read_superblock.new.rig) m c.read_superblock.ensures.reads c.mount_trees.ensures.reads in
    whole_mounted V K c.args.table.now o m (g.R.Rig.state c.mount.new.rig) now (g.met.R.Rig.sound c.mount.new.rig) first c.mount.ensures.reads c.in-Ok.ensures.room c.in-Ok.ensures.good
    (settled_kept V K o m (g.met.R.Rig.sound c.args.rig.now) now first c.requires.settled) c.in-Ok-mount_trees.trees c.in-Ok-mount.logs c.in-Ok-mount_trees.ensures.mounted
    (record { sites = c.in-Ok-mount.ensures.sites; stands = c.in-Ok-mount.ensures.stands })
