use Rattle.std.proofs.Common.{true, sym}
use Rattle.apex_model.specs.FileStep.{read_file}
use Rattle.service_parts.specs.Serving.{ReadsFailed}
use Rattle.service_parts.proofs.Closing.{served_still}
use Rattle.service_parts.proofs.Served.{served-told}
use Rattle.file_services.proofs.ReadingLaws.{read-bad_id, read-stale, read-none, read-many}
use Rattle.file_services.proofs.reading.read_file.Goals as goal

pub returns-in_default-clause-served : goal.returns-in_default-clause-served
returns-in_default-clause-served g c =
    let V = g.R.Rig.tells_view in
    let K = g.R.Rig.keeps_cuts in
    let o = g.R.Rig.state c.args.rig.now in
    let trees = c.args.trees.now in
    let handles = c.args.handles.now in
    served_still V K o (g.met.R.Rig.sound c.args.rig.now) (λ fs. read_file fs c.args.p.0 c.args.id c.args.limit) (ReadsFailed true o o) trees handles c.requires.serving handles c.refusal.result
    (λ stores hold. served-told c.refusal.ensures (read-bad_id stores handles c.args.p.0 c.args.id c.args.limit (sym c.in_default.ensures)))

pub returns-in_default-file-clause-served : goal.returns-in_default-file-clause-served
returns-in_default-file-clause-served g c =
    let V = g.R.Rig.tells_view in
    let K = g.R.Rig.keeps_cuts in
    let o = g.R.Rig.state c.args.rig.now in
    let trees = c.args.trees.now in
    let handles = c.args.handles.now in
    served_still V K o (g.met.R.Rig.sound c.args.rig.now) (λ fs. read_file fs c.args.p.0 c.args.id c.args.limit) (ReadsFailed true o o) trees handles c.requires.serving handles c.refusal-in_default-file.result
    (λ stores hold. served-told c.refusal-in_default-file.ensures (read-stale stores handles c.args.p.0 c.args.id c.args.limit c.in-Some.handle (sym c.in-Some.ensures) c.in_default-file.is))

pub returns-then-limit-eq0-clause-served : goal.returns-then-limit-eq0-clause-served
returns-then-limit-eq0-clause-served g c =
    let V = g.R.Rig.tells_view in
    let K = g.R.Rig.keeps_cuts in
    let o = g.R.Rig.state c.args.rig.now in
    let trees = c.args.trees.now in
    let handles = c.args.handles.now in
    served_still V K o (g.met.R.Rig.sound c.args.rig.now) (λ fs. read_file fs c.args.p.0 c.args.id c.args.limit) (ReadsFailed true o o) trees handles c.requires.serving handles c.refusal-then-limit-eq0.result
    (λ stores hold. served-told c.refusal-then-limit-eq0.ensures (read-none stores handles c.args.p.0 c.args.id c.args.limit c.in-Some.handle c.in-Some-file.file (sym c.in-Some.ensures) c.in-Some-file.is c.if-limit-eq0.true))

pub returns-then-limit-gt4096-clause-served : goal.returns-then-limit-gt4096-clause-served
returns-then-limit-gt4096-clause-served g c =
    let V = g.R.Rig.tells_view in
    let K = g.R.Rig.keeps_cuts in
    let o = g.R.Rig.state c.args.rig.now in
    let trees = c.args.trees.now in
    let handles = c.args.handles.now in
    served_still V K o (g.met.R.Rig.sound c.args.rig.now) (λ fs. read_file fs c.args.p.0 c.args.id c.args.limit) (ReadsFailed true o o) trees handles c.requires.serving handles c.refusal-then-limit-gt4096.result
    (λ stores hold. served-told c.refusal-then-limit-gt4096.ensures (read-many stores handles c.args.p.0 c.args.id c.args.limit c.in-Some.handle c.in-Some-file.file (sym c.in-Some.ensures) c.in-Some-file.is c.if-limit-gt4096.true))
