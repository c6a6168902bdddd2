use Rattle.std.proofs.Common.{◌≡◌, ◌∙◌, ap, subst, rules, length, List, ℕ}
use Rattle.std.specs.Prelude.{take, IfOk}
use Rattle.std.proofs.lemmas.List.{take_min}
use Rattle.std.proofs.lemmas.Result.{IfOk-weaker}
use Rattle.rig_core.specs.Cuts.{IsCut}
use Rattle.rig_core.specs.MemRig.{mem_state, first_disk, told_after}
use Rattle.rig_core.specs.Record.{fresh_disk, size_replayed}
use Rattle.rig_core.specs.declared.call.CallRecord.{CallRecord}
use Rattle.rig_core.proofs.CutImages.{kept_since_start}
use Rattle.rig_core.proofs.mem_rig.MemRig.cut_image.Goals as goal

pub returns-clause-cut : goal.returns-clause-cut
returns-clause-cut c =
    let rig = c.args.self.now in
    let P : ℕ → List ℕ → List CallRecord → Type 0 = λ size start calls. IfOk c.image_after.result (IsCut c.args.left (fresh_disk size start) calls) in
    let start : c.bytes.result.now ≡ rig.image = c.bytes.ensures in
    let calls : take c.min-count.result c.deref.result.now ≡ take c.args.calls rig.calls.items
    = ap (λ (n : ℕ). take n c.deref.result.now) (search rules) ∙ take_min c.args.calls c.deref.result.now ∙ ap (take c.args.calls) c.deref.ensures.value in
    subst (P rig.size rig.image) calls
    (subst (λ (image : List ℕ). P rig.size image (take c.min-count.result c.deref.result.now)) start
    (subst (λ (size : ℕ). P size c.bytes.result.now (take c.min-count.result c.deref.result.now)) (ap length start ∙ rig.begins) c.image_after.ensures))

pub returns-clause-size : goal.returns-clause-size
returns-clause-size c =
    let rig = c.args.self.now in
    let calls = take c.args.calls rig.calls.items in
    IfOk-weaker c.image_after.result (IsCut c.args.left (first_disk rig) calls) (λ image. length image ≡ rig.size) (λ image cut. cut.may_keep.long ∙ size_replayed (first_disk rig) calls) (returns-clause-cut c)

pub returns-clause-allowed : goal.returns-clause-allowed
returns-clause-allowed c =
    let rig = c.args.self.now in
    IfOk-weaker c.image_after.result (IsCut c.args.left (first_disk rig) (take c.args.calls rig.calls.items)) (λ image. (mem_state rig).may_leave 0 image (told_after c.args.calls rig))
    (λ image cut. kept_since_start c.args.calls (first_disk rig) rig.calls.items image (told_after c.args.calls rig) cut.may_keep) (returns-clause-cut c)
