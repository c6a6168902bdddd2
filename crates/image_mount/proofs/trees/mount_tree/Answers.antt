use Rattle.std.proofs.Common.{◌≡◌, ◌*◌, ℕ, List, Some, None, length, refl, sym, ◌∙◌, ap, subst, arith}
use Rattle.std.specs.Prelude.{slice_get, Result, Err}
use Rattle.std.proofs.lemmas.Option.{slice_get_read}
use Rattle.apex_types.specs.declared.rows.TreeRow.{TreeRow}
use Rattle.apex_model.specs.Image.{tree_of_region}
use Rattle.apex_model.specs.Layout.{tree_start}
use Rattle.store_model.specs.Betweens.{TreeSite}
use Rattle.tree_region.specs.Region.{region_at}
use Rattle.tree_region.specs.declared.stop.MountStop.{MountStop}
use Rattle.tree_store.specs.declared.store.TreeStore.{TreeStore}
use Rattle.image_mount.specs.Faults.{IsNoTree}
use Rattle.image_mount.proofs.OneByOne.{no_tree, tree_fits}
use Rattle.image_mount.proofs.Rows.{row_has_buffers}
use Rattle.image_mount.proofs.trees.mount_tree.Goals as goal

pub mount-requires-clause-fits : goal.mount-requires-clause-fits
mount-requires-clause-fits g c =
    let table = c.args.table.now in
    let k = c.args.tree in
    let row = c.index-rows-tree.result in
    let rows = c.trees-rows.result.now in
    let there : slice_get table.trees k ≡ Some row = ap (λ (l : List TreeRow). slice_get l k) (sym c.trees-rows.ensures) ∙ slice_get_read rows (length rows) k row refl (omega (arith, c.requires.number, ap length c.trees-rows.ensures)) c.index-rows-tree.is in
    let start_is : c.tree_start.result ≡ 512 * tree_start table k = c.tree_start.ensures table c.requires.places in
    tree_fits table k row c.tree_start.result (g.R.Rig.state c.args.rig.now).size there start_is c.requires.fits

pub mount-requires-clause-buffers : goal.mount-requires-clause-buffers
mount-requires-clause-buffers g c =
    let table = c.args.table.now in
    let k = c.args.tree in
    let row = c.index-rows-tree.result in
    let rows = c.trees-rows.result.now in
    let there : slice_get table.trees k ≡ Some row = ap (λ (l : List TreeRow). slice_get l k) (sym c.trees-rows.ensures) ∙ slice_get_read rows (length rows) k row refl (omega (arith, c.requires.number, ap length c.trees-rows.ensures)) c.index-rows-tree.is in
    omega (arith, row_has_buffers table c.requires.accepted k row there)

pub returns-in-Ok-clause-mounted : goal.returns-in-Ok-clause-mounted
returns-in-Ok-clause-mounted g c =
    let table = c.args.table.now in
    let k = c.args.tree in
    let row = c.index-rows-tree.result in
    let rows = c.trees-rows.result.now in
    let there : slice_get table.trees k ≡ Some row = ap (λ (l : List TreeRow). slice_get l k) (sym c.trees-rows.ensures) ∙ slice_get_read rows (length rows) k row refl (omega (arith, c.requires.number, ap length c.trees-rows.ensures)) c.index-rows-tree.is in
    let start_is : c.tree_start.result ≡ 512 * tree_start table k = c.tree_start.ensures table c.requires.places in
    record {
      row = row;
      there = there;
      site = c.in-Ok.ensures.site ∙ ap (λ (n : ℕ). let s : TreeSite = (row, n) in s) start_is;
      stored = c.in-Ok.ensures.stored;
      tree = c.in-Ok.ensures.loaded.0;
      loaded = c.in-Ok.ensures.loaded.1;
    }

pub returns-in-Err-clause-refused : goal.returns-in-Err-clause-refused
returns-in-Err-clause-refused g c =
    let table = c.args.table.now in
    let k = c.args.tree in
    let row = c.index-rows-tree.result in
    let rows = c.trees-rows.result.now in
    let there : slice_get table.trees k ≡ Some row = ap (λ (l : List TreeRow). slice_get l k) (sym c.trees-rows.ensures) ∙ slice_get_read rows (length rows) k row refl (omega (arith, c.requires.number, ap length c.trees-rows.ensures)) c.index-rows-tree.is in
    let start_is : c.tree_start.result ≡ 512 * tree_start table k = c.tree_start.ensures table c.requires.places in
    let o = g.R.Rig.state c.args.rig.now in
    let e = g.R.Rig.state c.mount.new.rig in
    let failed = λ (stop : MountStop). let r : Result TreeStore MountStop = Err stop in r in
    subst (IsNoTree g.R.Rig.tells_view table k o e) (sym c.tree_error.ensures)
    (no_tree g.R.Rig.tells_view table k o e row there c.in-Err.stop
    (λ tells is. subst (λ (n : ℕ). tree_of_region row (region_at row n o.view) ≡ None) start_is (c.in-Err.ensures.bad tells (ap failed is)))
    (λ is. c.in-Err.ensures.cause (ap failed is)))
