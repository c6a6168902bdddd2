use Rattle.std.proofs.Common.{◌≡◌, ◌∙◌, ap, false, refl, sym, subst, arith}
use Rattle.std.specs.Prelude.{Ok, None}
use Rattle.apex_model.specs.Durable.{empty_durable}
use Rattle.apex_model.specs.Image.{state_of}
use Rattle.image_mount.proofs.Started.{started_is_valid}
use Rattle.apex_types.specs.Rows.{Rows}
use Rattle.module_session.specs.Sessions.{StandsFor, table_of_session}
use Rattle.rig_core.specs.FuseRig.{fuse_state, is_fuse_starved}
use Rattle.rig_core.specs.Outside.{AllNow}
use Rattle.rig_core.specs.declared.fuse_rig.FuseRig.{FuseRig}
use Rattle.power_sweep.specs.Counted.{AreCounted}
use Rattle.power_sweep.specs.Cuts.{IsLeftImage}
use Rattle.script_run.specs.Chosen.{is_hearer}
use Rattle.power_sweep.specs.CountedRig.{counted_sound, counted_state, disk_of}
use Rattle.power_sweep.specs.Whole.{IsWholeRun, first_world}
use Rattle.power_sweep.proofs.Cuts.{left_behind}
use Rattle.power_sweep.proofs.Whole.{whole_run}
use Rattle.power_sweep.proofs.fused.fused_run.Goals as goal

pub returns-clause-table : goal.returns-clause-table
returns-clause-table c = c.finish-table.ensures ∙ c.carry_out_for-ended.ensures.table ∙ c.in_ok-session.ensures.table

pub returns-clause-cuts : goal.returns-clause-cuts
returns-clause-cuts c =
    let table = c.args.table in
    let o = counted_state c.mount.new.rig in
    let seen = c.mount.ensures.reads.view tt ∙ c.in_ok-rig.ensures.view ∙ c.in_ok-copy.ensures in
    let image : state_of table o.view ≡ Ok (empty_durable table) = ap (state_of table) seen ∙ c.requires.empty in
    subst (λ (rig : FuseRig). AllNow (IsLeftImage table c.args.script.now) (fuse_state rig)) (sym c.into_disk-rig.ensures.disk)
    (left_behind ⊥ (Unit {0}) (Unit {0}) table (table_of_session c.in_ok-session.session) c.args.script.now (is_hearer None) c.in_ok-session.session o (counted_state c.carry_out_for-ended.new.rig)
    tt (counted_sound c.carry_out_for-ended.new.rig) c.in_ok-session.ensures.table c.carry_out_for-ended.ensures.pairs
    (c.in_ok-session.ensures.world tt (empty_durable table) image)
    (started_is_valid (Unit {0}) o table c.in-Ok.store (empty_durable table) c.requires.accepted c.in-Ok.ensures.mounted tt image))

pub returns-clause-whole : goal.returns-clause-whole
returns-clause-whole c = λ more.
    let table = c.args.table in
    let held = table_of_session c.in_ok-session.session in
    let o = counted_state c.mount.new.rig in
    let rig = c.carry_out_for-ended.new.rig in
    let ran = c.carry_out_for-ended.ensures in
    let seen = c.mount.ensures.reads.view tt ∙ c.in_ok-rig.ensures.view ∙ c.in_ok-copy.ensures in
    let image : state_of table o.view ≡ Ok (empty_durable table) = ap (state_of table) seen ∙ c.requires.empty in
    let same : held ≡ table = c.in_ok-session.ensures.table in
    let stands = c.in_ok-session.ensures.world tt (empty_durable table) image in
    let silent : o.tells ≡ 0 = (let few = c.mount.ensures.reads.made.tells in let none = c.in_ok-rig.ensures.tells in omega (arith, few, none)) in
    let fed : is_fuse_starved (disk_of rig) ≡ false = sym c.starved.ensures ∙ c.if-starved.false in
    let counted = subst (λ (disk : FuseRig). AreCounted disk rig.read_faults rig.write_faults) c.into_disk-rig.ensures.disk c.into_disk-rig.ensures.counted in
    subst (λ (disk : FuseRig). IsWholeRun table c.args.script.now disk) (sym c.into_disk-rig.ensures.disk)
    (subst (λ (t : Rows). IsWholeRun t c.args.script.now (disk_of rig)) same
    (whole_run held c.args.script.now (is_hearer None) c.in_ok-session.session c.carry_out_for-ended.new.session o rig c.carry_out_for-ended.result
    counted (c.is_used_up-used_up.ensures more) fed silent (ran.tells refl) (subst (λ (t : Rows). StandsFor (Unit {0}) o c.in_ok-session.session (first_world t)) (sym same) stands)
    ran.ran ran.names ran.halted (ran.untold refl)))
