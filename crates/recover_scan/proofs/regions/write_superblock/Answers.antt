use Rattle.std.proofs.Common.{length, arith}
use Rattle.recover_scan.proofs.Changes.{changes_write, run_written}
use Rattle.recover_scan.proofs.regions.write_superblock.Goals as goal

pub returns-clause-changes : goal.returns-clause-changes
returns-clause-changes g c =
    changes_write g.R.Rig.tells_view g.R.Rig.keeps_cuts 512 (length c.superblock_run.new.run) 16384 (g.R.Rig.state c.args.rig.now) (g.R.Rig.state c.write.new.self) (g.met.R.Rig.sound c.args.rig.now)
    c.write.ensures.later c.write.ensures.told c.write.ensures.cuts c.write.ensures.elsewhere (omega arith)

pub returns-in_err-write-clause-changes : goal.returns-in_err-write-clause-changes
returns-in_err-write-clause-changes g c =
    changes_write g.R.Rig.tells_view g.R.Rig.keeps_cuts 512 (length c.superblock_run.new.run) 16384 (g.R.Rig.state c.args.rig.now) (g.R.Rig.state c.write.new.self) (g.met.R.Rig.sound c.args.rig.now)
    c.write.ensures.later c.write.ensures.told c.write.ensures.cuts c.write.ensures.elsewhere (omega arith)

pub returns-clause-written : goal.returns-clause-written
returns-clause-written g c tells =
    run_written 512 16384 c.args.bytes.now c.superblock_run.new.run (g.R.Rig.state c.args.rig.now).view (g.R.Rig.state c.write.new.self).view
    (omega arith) (omega (arith, (g.met.R.Rig.sound c.args.rig.now).view_fills tells)) (λ k low. c.superblock_run.ensures k (omega (arith, low))) (c.in_ok-write.ensures.written tells)
