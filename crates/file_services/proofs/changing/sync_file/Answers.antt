use Rattle.std.proofs.Common.{false, sym}
use Rattle.apex_model.specs.FileStep.{sync_file}
use Rattle.service_parts.specs.Serving.{ReadsFailed}
use Rattle.service_parts.proofs.Closing.{served_still}
use Rattle.service_parts.proofs.Served.{served-told}
use Rattle.file_services.proofs.ChangingLaws.{sync-bad_id, sync-readonly, sync-stale}
use Rattle.file_services.proofs.changing.sync_file.Goals as goal

pub returns-in_default : goal.returns-in_default
returns-in_default g c =
    let V = g.R.Rig.tells_view in
    let K = g.R.Rig.keeps_cuts in
    let o = g.R.Rig.state c.args.rig.now in
    let trees = c.args.trees.now in
    let handles = c.args.handles.now in
    served_still V K o (g.met.R.Rig.sound c.args.rig.now) (λ fs. sync_file fs c.args.p.0 c.args.id) (ReadsFailed false o o) trees handles c.requires.serving handles c.refusal.result
    (λ stores hold. served-told c.refusal.ensures (sync-bad_id stores handles c.args.p.0 c.args.id (sym c.in_default.ensures)))

pub returns-in_default-mode : goal.returns-in_default-mode
returns-in_default-mode g c =
    let V = g.R.Rig.tells_view in
    let K = g.R.Rig.keeps_cuts in
    let o = g.R.Rig.state c.args.rig.now in
    let trees = c.args.trees.now in
    let handles = c.args.handles.now in
    served_still V K o (g.met.R.Rig.sound c.args.rig.now) (λ fs. sync_file fs c.args.p.0 c.args.id) (ReadsFailed false o o) trees handles c.requires.serving handles c.refusal-in_default-mode.result
    (λ stores hold. served-told c.refusal-in_default-mode.ensures (sync-readonly stores handles c.args.p.0 c.args.id c.in-Some.handle (sym c.in-Some.ensures) c.in_default-mode.is))

pub returns-in_default-file : goal.returns-in_default-file
returns-in_default-file g c =
    let V = g.R.Rig.tells_view in
    let K = g.R.Rig.keeps_cuts in
    let o = g.R.Rig.state c.args.rig.now in
    let trees = c.args.trees.now in
    let handles = c.args.handles.now in
    served_still V K o (g.met.R.Rig.sound c.args.rig.now) (λ fs. sync_file fs c.args.p.0 c.args.id) (ReadsFailed false o o) trees handles c.requires.serving handles c.refusal-in_default-file.result
    (λ stores hold. served-told c.refusal-in_default-file.ensures (sync-stale stores handles c.args.p.0 c.args.id c.in-Some.handle (sym c.in-Some.ensures) c.in-ReadWrite.is c.in_default-file.is))
