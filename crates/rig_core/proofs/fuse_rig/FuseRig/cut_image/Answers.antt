use Rattle.std.proofs.Common.{◌≡◌, ◌∙◌, ap, subst, arith, ℕ, List}
use Rattle.std.specs.Prelude.{take, IfOk, if◌then◌else◌}
use Rattle.std.proofs.lemmas.List.{take_all}
use Rattle.std.proofs.lemmas.Result.{IfOk-weaker}
use Rattle.rig_core.specs.Bytes.{byte}
use Rattle.rig_core.specs.Cuts.{leaves_byte, IsCut}
use Rattle.rig_core.specs.FuseRig.{IsCutNow}
use Rattle.rig_core.specs.MemRig.{first_disk}
use Rattle.rig_core.specs.Record.{replay, MayKeep, kept_behind}
use Rattle.rig_core.specs.declared.call.CallRecord.{CallRecord}
use Rattle.rig_core.proofs.fuse_rig.FuseRig.cut_image.Goals as goal

pub returns-clause-cut : goal.returns-clause-cut
returns-clause-cut c =
    let rig = c.args.self.now.disk in
    let d = first_disk rig in
    let calls = rig.calls.items in
    let left = c.args.left in
    let all : take 4294967295 calls ≡ calls = take_all 4294967295 calls (omega (arith, rig.holds)) in
    IfOk-weaker c.cut_image.result (IsCut left d calls) (IsCutNow left c.args.self.now) (λ image cut. record {
      may_leave = kept_behind rig.clock d calls image rig.told.items (subst (λ (told : List ℕ). MayKeep (replay d calls) image told) rig.tells_all cut.may_keep);
      synchronised = cut.synchronised;
      last = cut.last;
      each = λ k low. cut.each k low ∙ ap (λ (view : List ℕ). if leaves_byte left k then byte view k else byte cut.synchronised k) rig.shows;
    })
    (subst (λ (made : List CallRecord). IfOk c.cut_image.result (IsCut left d made)) all c.cut_image.ensures.cut)
