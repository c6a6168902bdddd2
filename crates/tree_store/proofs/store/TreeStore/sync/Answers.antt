use Rattle.std.proofs.Common.{◌≡◌, ℕ, ◌+◌, ◌≤◌, refl, sym, ap, subst, ◌∙◌, arith}
use Rattle.file_tree.specs.Entries.{TreeValue, slot, IsConsistent}
use Rattle.tree_store.specs.Stored.{names_of, AreSpelled}
use Rattle.tree_store.proofs.Changed.{some_of}
use Rattle.tree_store.proofs.Synchronised.{passes-synchronised, holds-synchronised}
use Rattle.tree_store.proofs.store.TreeStore.sync.Goals as goal

pub returns-in_err-sync_file-clause-moments : goal.returns-in_err-sync_file-clause-moments
returns-in_err-sync_file-clause-moments g c v holds =
    let s = c.args.self.now in
    let t = c.sync_file.new.state in
    let o = g.R.Rig.state c.args.rig.now in
    let e = g.R.Rig.state c.sync_file.new.rig in
    let path = some_of (slot (names_of s).files c.args.file.0) c.requires.in_use in
    passes-synchronised g.R.Rig.tells_view o e s t c.requires.stored v holds c.args.file path.0 path.1 (c.sync_file.ensures.any_moment path.0 path.1) (c.sync_file.ensures.shown path.0 path.1)

pub returns-clause-moments : goal.returns-clause-moments
returns-clause-moments g c v holds =
    let s = c.args.self.now in
    let t = c.sync_file.new.state in
    let o = g.R.Rig.state c.args.rig.now in
    let e = g.R.Rig.state c.sync_file.new.rig in
    let path = some_of (slot (names_of s).files c.args.file.0) c.requires.in_use in
    passes-synchronised g.R.Rig.tells_view o e s t c.requires.stored v holds c.args.file path.0 path.1 (c.sync_file.ensures.any_moment path.0 path.1) (c.sync_file.ensures.shown path.0 path.1)

pub returns-clause-done : goal.returns-clause-done
returns-clause-done g c v holds =
    let s = c.args.self.now in
    let t = c.sync_file.new.state in
    let o = g.R.Rig.state c.args.rig.now in
    let e = g.R.Rig.state c.sync_file.new.rig in
    let path = some_of (slot (names_of s).files c.args.file.0) c.requires.in_use in
    let done = c.in_ok-sync_file.ensures in
    holds-synchronised g.R.Rig.tells_view o e s t c.requires.stored v holds c.args.file path.0 path.1 c.stand.ensures.consistent done.state done.tree done.sizes done.charges done.contents
    (λ tells. done.synchronised path.0 path.1 tells)

pub returns-clause-stored : goal.returns-clause-stored
returns-clause-stored g c =
    let s = c.args.self.now in
    let t = c.sync_file.new.state in
    let o = g.R.Rig.state c.args.rig.now in
    let e = g.R.Rig.state c.sync_file.new.rig in
    let path = some_of (slot (names_of s).files c.args.file.0) c.requires.in_use in
    let done = c.in_ok-sync_file.ensures in
    let before = c.requires.stored in
    record {
      fits = let size = done.later.size in let fits = before.fits in omega (arith, fits, size);
      buffers = before.buffers;
      names = c.stand.ensures.consistent;
      spelled = subst AreSpelled (sym done.tree) before.spelled;
      state = done.state;
    }
