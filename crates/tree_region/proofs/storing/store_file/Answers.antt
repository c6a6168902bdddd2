use Rattle.std.proofs.Common.{[], length, ap, ◌∙◌}
use Rattle.std.proofs.lemmas.List.{get_or_read}
use Rattle.tree_region.proofs.Replaced.{in-rows, as-long}
use Rattle.tree_region.proofs.storing.store_file.Goals as goal

pub copy_from-requires : goal.copy_from-requires
copy_from-requires g c =
    let state = g.R.Rig.state c.args.rig.now in
    let within = in-rows g.R.Rig.tells_view c.args.row.now c.args.at c.args.kept.now state c.requires.in_step c.args.file.0 c.requires.file in
    ap length (get_or_read c.args.kept.now.table.files.items c.args.file.0 c.index_mut.result.now within c.index_mut.ensures.value [])
    ∙ as-long g.R.Rig.tells_view c.args.row.now c.args.at c.args.kept.now state c.requires.in_step c.args.file.0 c.requires.file c.args.stored.size c.args.stored.changes c.args.numbers.now c.requires.good
