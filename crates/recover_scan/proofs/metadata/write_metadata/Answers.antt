use Rattle.std.proofs.Common.{◌≡◌, ◌≤◌, length, ap, subst, sym, arith}
use Rattle.std.proofs.lemmas.List.{places}
use Rattle.recover_scan.specs.Format.{HasEmptyParts}
use Rattle.recover_scan.proofs.Changes.{changes_sync}
use Rattle.recover_scan.proofs.Ordered.{first_change, second_change, third_change, metadata_long, parts_written}
use Rattle.recover_scan.proofs.Rest.{superblock_written, spares_changes, spares_then, spares_same}
use Rattle.recover_scan.proofs.Sizes.{few_trees, few_logbooks}
use Rattle.recover_scan.proofs.metadata.write_metadata.Goals as goal

pub returns-in_err-write_superblock-clause-changes : goal.returns-in_err-write_superblock-clause-changes
returns-in_err-write_superblock-clause-changes g c =
    let first = first_change g.R.Rig.tells_view g.R.Rig.keeps_cuts c.args.table.now (g.R.Rig.state c.args.rig.now) (g.R.Rig.state c.write_superblock.new.rig) c.write_superblock.ensures.changes in
    first

pub write_trees-requires-clause-few : goal.write_trees-requires-clause-few
write_trees-requires-clause-few g c = few_trees c.args.table.now c.requires.accepted

pub returns-in_err-write_trees-clause-changes : goal.returns-in_err-write_trees-clause-changes
returns-in_err-write_trees-clause-changes g c =
    let first = first_change g.R.Rig.tells_view g.R.Rig.keeps_cuts c.args.table.now (g.R.Rig.state c.args.rig.now) (g.R.Rig.state c.write_superblock.new.rig) c.write_superblock.ensures.changes in
    let second = second_change g.R.Rig.tells_view g.R.Rig.keeps_cuts c.args.table.now (g.R.Rig.state c.args.rig.now) (g.R.Rig.state c.write_superblock.new.rig) (g.R.Rig.state c.write_trees.new.rig) (g.met.R.Rig.sound c.write_superblock.new.rig) first c.write_trees.ensures.changes in
    second

pub write_logbooks-requires-clause-few : goal.write_logbooks-requires-clause-few
write_logbooks-requires-clause-few g c = few_logbooks c.args.table.now c.requires.accepted

pub write_logbooks-requires-clause-room : goal.write_logbooks-requires-clause-room
write_logbooks-requires-clause-room g c logbook row found =
    let room = c.requires.logbooks logbook row found in
    let first = c.write_superblock.auto.run in
    let stays = c.write_trees.auto.buffer in
    let long : length c.write_trees.new.buffer ≡ length c.args.buffer.now = grind (arith, places) in
    omega (arith, room, long)

pub returns-in_err-write_logbooks-clause-changes : goal.returns-in_err-write_logbooks-clause-changes
returns-in_err-write_logbooks-clause-changes g c =
    let first = first_change g.R.Rig.tells_view g.R.Rig.keeps_cuts c.args.table.now (g.R.Rig.state c.args.rig.now) (g.R.Rig.state c.write_superblock.new.rig) c.write_superblock.ensures.changes in
    let second = second_change g.R.Rig.tells_view g.R.Rig.keeps_cuts c.args.table.now (g.R.Rig.state c.args.rig.now) (g.R.Rig.state c.write_superblock.new.rig) (g.R.Rig.state c.write_trees.new.rig) (g.met.R.Rig.sound c.write_superblock.new.rig) first c.write_trees.ensures.changes in
    let third = third_change g.R.Rig.tells_view g.R.Rig.keeps_cuts c.args.table.now (g.R.Rig.state c.args.rig.now) (g.R.Rig.state c.write_trees.new.rig) (g.R.Rig.state c.write_logbooks.new.rig) (g.met.R.Rig.sound c.write_trees.new.rig) second c.write_logbooks.ensures.changes in
    third

pub returns-in_err-sync-clause-changes : goal.returns-in_err-sync-clause-changes
returns-in_err-sync-clause-changes g c =
    let first = first_change g.R.Rig.tells_view g.R.Rig.keeps_cuts c.args.table.now (g.R.Rig.state c.args.rig.now) (g.R.Rig.state c.write_superblock.new.rig) c.write_superblock.ensures.changes in
    let second = second_change g.R.Rig.tells_view g.R.Rig.keeps_cuts c.args.table.now (g.R.Rig.state c.args.rig.now) (g.R.Rig.state c.write_superblock.new.rig) (g.R.Rig.state c.write_trees.new.rig) (g.met.R.Rig.sound c.write_superblock.new.rig) first c.write_trees.ensures.changes in
    let third = third_change g.R.Rig.tells_view g.R.Rig.keeps_cuts c.args.table.now (g.R.Rig.state c.args.rig.now) (g.R.Rig.state c.write_trees.new.rig) (g.R.Rig.state c.write_logbooks.new.rig) (g.met.R.Rig.sound c.write_trees.new.rig) second c.write_logbooks.ensures.changes in
    changes_sync g.R.Rig.tells_view g.R.Rig.keeps_cuts 512 (metadata_long g.R.Rig.tells_view g.R.Rig.keeps_cuts c.args.table.now) (g.R.Rig.state c.args.rig.now) (g.R.Rig.state c.write_logbooks.new.rig) (g.R.Rig.state c.sync.new.self) (g.met.R.Rig.sound c.write_logbooks.new.rig) third c.sync.ensures.later c.sync.ensures.told c.sync.ensures.view c.sync.ensures.cuts

pub returns-clause-changes : goal.returns-clause-changes
returns-clause-changes g c =
    let first = first_change g.R.Rig.tells_view g.R.Rig.keeps_cuts c.args.table.now (g.R.Rig.state c.args.rig.now) (g.R.Rig.state c.write_superblock.new.rig) c.write_superblock.ensures.changes in
    let second = second_change g.R.Rig.tells_view g.R.Rig.keeps_cuts c.args.table.now (g.R.Rig.state c.args.rig.now) (g.R.Rig.state c.write_superblock.new.rig) (g.R.Rig.state c.write_trees.new.rig) (g.met.R.Rig.sound c.write_superblock.new.rig) first c.write_trees.ensures.changes in
    let third = third_change g.R.Rig.tells_view g.R.Rig.keeps_cuts c.args.table.now (g.R.Rig.state c.args.rig.now) (g.R.Rig.state c.write_trees.new.rig) (g.R.Rig.state c.write_logbooks.new.rig) (g.met.R.Rig.sound c.write_trees.new.rig) second c.write_logbooks.ensures.changes in
    changes_sync g.R.Rig.tells_view g.R.Rig.keeps_cuts 512 (metadata_long g.R.Rig.tells_view g.R.Rig.keeps_cuts c.args.table.now) (g.R.Rig.state c.args.rig.now) (g.R.Rig.state c.write_logbooks.new.rig) (g.R.Rig.state c.sync.new.self) (g.met.R.Rig.sound c.write_logbooks.new.rig) third c.sync.ensures.later c.sync.ensures.told c.sync.ensures.view c.sync.ensures.cuts

pub returns-clause-written : goal.returns-clause-written
returns-clause-written g c tells =
    let short : length c.args.superblock.now ≤ 16384 = omega (arith, ap length c.requires.superblock, c.table_fits_superblock.ensures c.args.table.now c.requires.accepted) in
    subst (HasEmptyParts c.args.table.now) (sym (c.sync.ensures.view tells))
    (parts_written c.args.table.now c.args.superblock.now (g.R.Rig.state c.write_superblock.new.rig).view (g.R.Rig.state c.write_trees.new.rig).view (g.R.Rig.state c.write_logbooks.new.rig).view c.requires.superblock short
    (c.in_ok-write_superblock.ensures.written tells) (c.write_trees.ensures.changes.view tells) (c.in_ok-write_trees.ensures.written tells)
    (c.write_logbooks.ensures.changes.view tells) (c.in_ok-write_logbooks.ensures.written tells))

pub returns-in_err-write_superblock-clause-spares : goal.returns-in_err-write_superblock-clause-spares
returns-in_err-write_superblock-clause-spares g c =
    let first = spares_changes g.R.Rig.tells_view c.args.table.now 512 16384 (g.R.Rig.state c.args.rig.now) (g.R.Rig.state c.write_superblock.new.rig) (superblock_written c.args.table.now) c.write_superblock.ensures.changes in
    first

pub returns-in_err-write_trees-clause-spares : goal.returns-in_err-write_trees-clause-spares
returns-in_err-write_trees-clause-spares g c =
    let first = spares_changes g.R.Rig.tells_view c.args.table.now 512 16384 (g.R.Rig.state c.args.rig.now) (g.R.Rig.state c.write_superblock.new.rig) (superblock_written c.args.table.now) c.write_superblock.ensures.changes in
    let second = spares_then g.R.Rig.tells_view g.R.Rig.keeps_cuts c.args.table.now (g.R.Rig.state c.args.rig.now) (g.R.Rig.state c.write_superblock.new.rig) (g.R.Rig.state c.write_trees.new.rig) (g.met.R.Rig.sound c.write_superblock.new.rig) first c.write_trees.ensures.spares in
    second

pub returns-in_err-write_logbooks-clause-spares : goal.returns-in_err-write_logbooks-clause-spares
returns-in_err-write_logbooks-clause-spares g c =
    let first = spares_changes g.R.Rig.tells_view c.args.table.now 512 16384 (g.R.Rig.state c.args.rig.now) (g.R.Rig.state c.write_superblock.new.rig) (superblock_written c.args.table.now) c.write_superblock.ensures.changes in
    let second = spares_then g.R.Rig.tells_view g.R.Rig.keeps_cuts c.args.table.now (g.R.Rig.state c.args.rig.now) (g.R.Rig.state c.write_superblock.new.rig) (g.R.Rig.state c.write_trees.new.rig) (g.met.R.Rig.sound c.write_superblock.new.rig) first c.write_trees.ensures.spares in
    let third = spares_then g.R.Rig.tells_view g.R.Rig.keeps_cuts c.args.table.now (g.R.Rig.state c.args.rig.now) (g.R.Rig.state c.write_trees.new.rig) (g.R.Rig.state c.write_logbooks.new.rig) (g.met.R.Rig.sound c.write_trees.new.rig) second c.write_logbooks.ensures.spares in
    third

pub returns-in_err-sync-clause-spares : goal.returns-in_err-sync-clause-spares
returns-in_err-sync-clause-spares g c =
    let first = spares_changes g.R.Rig.tells_view c.args.table.now 512 16384 (g.R.Rig.state c.args.rig.now) (g.R.Rig.state c.write_superblock.new.rig) (superblock_written c.args.table.now) c.write_superblock.ensures.changes in
    let second = spares_then g.R.Rig.tells_view g.R.Rig.keeps_cuts c.args.table.now (g.R.Rig.state c.args.rig.now) (g.R.Rig.state c.write_superblock.new.rig) (g.R.Rig.state c.write_trees.new.rig) (g.met.R.Rig.sound c.write_superblock.new.rig) first c.write_trees.ensures.spares in
    let third = spares_then g.R.Rig.tells_view g.R.Rig.keeps_cuts c.args.table.now (g.R.Rig.state c.args.rig.now) (g.R.Rig.state c.write_trees.new.rig) (g.R.Rig.state c.write_logbooks.new.rig) (g.met.R.Rig.sound c.write_trees.new.rig) second c.write_logbooks.ensures.spares in
    spares_then g.R.Rig.tells_view g.R.Rig.keeps_cuts c.args.table.now (g.R.Rig.state c.args.rig.now) (g.R.Rig.state c.write_logbooks.new.rig) (g.R.Rig.state c.sync.new.self) (g.met.R.Rig.sound c.write_logbooks.new.rig) third (spares_same g.R.Rig.tells_view c.args.table.now (g.R.Rig.state c.write_logbooks.new.rig) (g.R.Rig.state c.sync.new.self) c.sync.ensures.later c.sync.ensures.told c.sync.ensures.view c.sync.ensures.cuts)

pub returns-clause-spares : goal.returns-clause-spares
returns-clause-spares g c =
    let first = spares_changes g.R.Rig.tells_view c.args.table.now 512 16384 (g.R.Rig.state c.args.rig.now) (g.R.Rig.state c.write_superblock.new.rig) (superblock_written c.args.table.now) c.write_superblock.ensures.changes in
    let second = spares_then g.R.Rig.tells_view g.R.Rig.keeps_cuts c.args.table.now (g.R.Rig.state c.args.rig.now) (g.R.Rig.state c.write_superblock.new.rig) (g.R.Rig.state c.write_trees.new.rig) (g.met.R.Rig.sound c.write_superblock.new.rig) first c.write_trees.ensures.spares in
    let third = spares_then g.R.Rig.tells_view g.R.Rig.keeps_cuts c.args.table.now (g.R.Rig.state c.args.rig.now) (g.R.Rig.state c.write_trees.new.rig) (g.R.Rig.state c.write_logbooks.new.rig) (g.met.R.Rig.sound c.write_trees.new.rig) second c.write_logbooks.ensures.spares in
    spares_then g.R.Rig.tells_view g.R.Rig.keeps_cuts c.args.table.now (g.R.Rig.state c.args.rig.now) (g.R.Rig.state c.write_logbooks.new.rig) (g.R.Rig.state c.sync.new.self) (g.met.R.Rig.sound c.write_logbooks.new.rig) third (spares_same g.R.Rig.tells_view c.args.table.now (g.R.Rig.state c.write_logbooks.new.rig) (g.R.Rig.state c.sync.new.self) c.sync.ensures.later c.sync.ensures.told c.sync.ensures.view c.sync.ensures.cuts)
