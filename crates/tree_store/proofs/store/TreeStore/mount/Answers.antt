use Rattle.std.proofs.Common.{◌≡◌, ℕ, ◌+◌, ◌*◌, ◌≤◌, List, sym, ap, subst, arith}
use Rattle.apex_types.specs.declared.rows.TreeRow.{TreeRow}
use Rattle.apex_model.specs.Durable.{StoredFile}
use Rattle.apex_model.specs.Layout.{tree_blocks}
use Rattle.apex_model.specs.Trees.{Tree}
use Rattle.rig_core.proofs.Views.{some_view}
use Rattle.store_model.specs.Stores.{durable_of}
use Rattle.tree_store.specs.Stored.{IsStored, IsLoaded}
use Rattle.tree_store.specs.declared.store.TreeStore.{TreeStore}
use Rattle.tree_store.proofs.Mounted.{value_over, is-loaded}
use Rattle.tree_store.proofs.store.TreeStore.mount.Goals as goal

pub returns-in-Ok-clause-stored : goal.returns-in-Ok-clause-stored
returns-in-Ok-clause-stored g c =
    let row = c.copy_of-row.ensures in
    let mounted = c.in-Ok.ensures in
    let fits = subst (λ (row : TreeRow). c.args.start + 512 * tree_blocks row ≤ (g.R.Rig.state c.args.rig.now).size) (sym row) c.requires.fits in
    let size = c.mount_state.ensures.reads.later.size in
    record {
      fits = omega (arith, fits, size);
      buffers = subst (λ (row : TreeRow). 9 ≤ row.dirty) (sym row) c.requires.buffers;
      names = c.stand.ensures.consistent;
      spelled = c.stand.ensures.spelled;
      state = mounted.state;
    }

pub returns-in-Ok-clause-loaded : goal.returns-in-Ok-clause-loaded
returns-in-Ok-clause-loaded g c =
    let o = g.R.Rig.state c.mount_state.new.rig in
    let s : TreeStore = record { row = c.copy_of-row.result; start = c.args.start; state = c.in-Ok.state } in
    let mounted = c.in-Ok.ensures in
    let view = some_view g.R.Rig.tells_view g.R.Rig.keeps_cuts o (g.met.R.Rig.sound c.mount_state.new.rig) in (
      durable_of (value_over s view.0),
      is-loaded g.R.Rig.tells_view o s (returns-in-Ok-clause-stored g c) mounted.sizes mounted.charges mounted.contents view.0 view.1 view.2,
    )
