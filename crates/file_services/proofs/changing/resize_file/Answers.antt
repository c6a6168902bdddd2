use Rattle.std.proofs.Common.{true, sym}
use Rattle.apex_model.specs.FileStep.{resize_file}
use Rattle.service_parts.specs.Serving.{ReadsFailed}
use Rattle.service_parts.proofs.Closing.{served_still}
use Rattle.service_parts.proofs.Served.{served-told}
use Rattle.file_services.proofs.ChangingLaws.{resize-bad_id, resize-readonly, resize-stale}
use Rattle.file_services.proofs.changing.resize_file.Goals as goal

pub returns-in_default-clause-served : goal.returns-in_default-clause-served
returns-in_default-clause-served g c = λ table of.
    let V = g.R.Rig.tells_view in
    let K = g.R.Rig.keeps_cuts in
    let o = g.R.Rig.state c.args.rig.now in
    let trees = c.args.trees.now in
    let handles = c.args.handles.now in
    served_still V K o (g.met.R.Rig.sound c.args.rig.now) (λ fs. resize_file table fs c.args.p.0 c.args.id c.args.size) (ReadsFailed true o o) trees handles c.requires.serving handles c.refusal.result
    (λ stores hold. served-told c.refusal.ensures (resize-bad_id table stores handles c.args.p.0 c.args.id c.args.size (sym c.in_default.ensures)))

pub returns-in_default-mode-clause-served : goal.returns-in_default-mode-clause-served
returns-in_default-mode-clause-served g c = λ table of.
    let V = g.R.Rig.tells_view in
    let K = g.R.Rig.keeps_cuts in
    let o = g.R.Rig.state c.args.rig.now in
    let trees = c.args.trees.now in
    let handles = c.args.handles.now in
    served_still V K o (g.met.R.Rig.sound c.args.rig.now) (λ fs. resize_file table fs c.args.p.0 c.args.id c.args.size) (ReadsFailed true o o) trees handles c.requires.serving handles c.refusal-in_default-mode.result
    (λ stores hold. served-told c.refusal-in_default-mode.ensures (resize-readonly table stores handles c.args.p.0 c.args.id c.args.size c.in-Some.handle (sym c.in-Some.ensures) c.in_default-mode.is))

pub returns-in_default-file-clause-served : goal.returns-in_default-file-clause-served
returns-in_default-file-clause-served g c = λ table of.
    let V = g.R.Rig.tells_view in
    let K = g.R.Rig.keeps_cuts in
    let o = g.R.Rig.state c.args.rig.now in
    let trees = c.args.trees.now in
    let handles = c.args.handles.now in
    served_still V K o (g.met.R.Rig.sound c.args.rig.now) (λ fs. resize_file table fs c.args.p.0 c.args.id c.args.size) (ReadsFailed true o o) trees handles c.requires.serving handles c.refusal-in_default-file.result
    (λ stores hold. served-told c.refusal-in_default-file.ensures (resize-stale table stores handles c.args.p.0 c.args.id c.args.size c.in-Some.handle (sym c.in-Some.ensures) c.in-ReadWrite.is c.in_default-file.is))
