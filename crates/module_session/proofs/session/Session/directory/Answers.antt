use Rattle.std.proofs.Common.{List, map, sym, subst}
use Rattle.rig_core.specs.Windows.{AreLaidOut}
use Rattle.store_model.specs.Betweens.{TreeSite}
use Rattle.tree_store.specs.Serving.{window_of}
use Rattle.image_layout.proofs.Following.{trees_laid_out}
use Rattle.module_session.proofs.Filed.{directory_taken}
use Rattle.module_session.proofs.session.Session.directory.Goals as goal

pub dir_call-requires-clause-laid_out : goal.dir_call-requires-clause-laid_out
dir_call-requires-clause-laid_out g c =
    let step = c.requires.ready.in_step in
    let size = (g.R.Rig.state c.args.rig.now).size in
    subst (λ (sites : List TreeSite). AreLaidOut (map window_of sites) size) (sym step.tree_sites) (trees_laid_out c.args.self.now.table size step.superblock.room)

pub returns-clause-taken : goal.returns-clause-taken
returns-clause-taken g c =
    let o = g.R.Rig.state c.args.rig.now in
    let e = g.R.Rig.state c.dir_call.new.rig in
    let done = c.dir_call.ensures in
    directory_taken g.R.Rig.tells_view g.R.Rig.keeps_cuts o e (g.met.R.Rig.sound c.args.rig.now) (g.met.R.Rig.sound c.dir_call.new.rig) c.args.self.now c.dir_call.new.trees c.dir_call.new.handles
    c.requires.ready c.args.p c.is_ready-ready.result c.is_ready-ready.ensures c.dir_call.result c.args.call.now done.served done.serving done.of_table
