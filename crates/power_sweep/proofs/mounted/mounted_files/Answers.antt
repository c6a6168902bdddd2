use Rattle.std.proofs.Common.{◌≡◌, ◌∙◌, length, sym, ap, arith}
use Rattle.std.specs.Prelude.{Ok}
use Rattle.apex_model.specs.Durable.{Durable}
use Rattle.apex_model.specs.Image.{state_of}
use Rattle.image_mount.proofs.Started.{started_is_valid}
use Rattle.rig_core.specs.PlainRig.{plain_state}
use Rattle.power_sweep.proofs.Files.{as-many, counts-loaded, few-in-table, few-trees}
use Rattle.power_sweep.proofs.mounted.mounted_files.Goals as goal

pub overflow_cast-trees : goal.overflow_cast-trees
overflow_cast-trees c =
    let few = few-trees c.args.table.now c.requires.accepted in
    let same = ap length c.trees.ensures in
    omega (arith, few, same)

pub file_count-requires : goal.file_count-requires
file_count-requires c = ap length c.trees.ensures ∙ as-many c.args.table.now c.in-Ok.store.trees c.in-Ok.ensures.mounted.in_step.tree_sites

pub returns-in-Ok-clause-found : goal.returns-in-Ok-clause-found
returns-in-Ok-clause-found c =
    let o = plain_state c.mount.new.rig in
    let m = c.in-Ok.ensures.mounted in
    let d : Durable = record { trees = m.stored; logbooks = (m.books tt).0 } in
    let seen = c.mount.ensures.reads.view tt ∙ c.new-rig.ensures.view in
    (d, ap (state_of c.args.table.now) (sym seen) ∙ (m.books tt).1, c.file_count.ensures ∙ counts-loaded (Unit {0}) o c.in-Ok.store.trees m.stored m.loaded)

pub returns-in-Ok-clause-few : goal.returns-in-Ok-clause-few
returns-in-Ok-clause-few c = λ x is.
    let o = plain_state c.mount.new.rig in
    let m = c.in-Ok.ensures.mounted in
    let d : Durable = record { trees = m.stored; logbooks = (m.books tt).0 } in
    let image : state_of c.args.table.now o.view ≡ Ok d = (m.books tt).1 in
    let valid = started_is_valid (Unit {0}) o c.args.table.now c.in-Ok.store d c.requires.accepted m tt image in
    let few = few-in-table c.args.table.now m.stored c.requires.accepted valid.files.trees in
    let same = c.file_count.ensures ∙ counts-loaded (Unit {0}) o c.in-Ok.store.trees m.stored m.loaded in
    let this : c.file_count.result ≡ x = cc in
    omega (arith, few, same, this)
