use Rattle.std.proofs.Common.{◌≡◌, ◌≤◌, true, false, length, sym, ◌∙◌, arith}
use Rattle.std.specs.Prelude.{◌==◌}
use Rattle.std.proofs.lemmas.Bool.Decides.{nat_tests}
use Rattle.apex_model.specs.FileStep.{write_file}
use Rattle.service_parts.specs.Serving.{ReadsFailed}
use Rattle.service_parts.proofs.Closing.{served_still}
use Rattle.service_parts.proofs.Served.{served-told}
use Rattle.file_services.proofs.ChangingLaws.{write-bad_id, write-readonly, write-empty, write-long, write-stale}
use Rattle.file_services.proofs.changing.write_file.Goals as goal

pub returns-in_default-clause-served : goal.returns-in_default-clause-served
returns-in_default-clause-served g c = λ table of.
    let V = g.R.Rig.tells_view in
    let K = g.R.Rig.keeps_cuts in
    let o = g.R.Rig.state c.args.rig.now in
    let trees = c.args.trees.now in
    let handles = c.args.handles.now in
    served_still V K o (g.met.R.Rig.sound c.args.rig.now) (λ fs. write_file table fs c.args.p.0 c.args.id c.args.bytes.now) (ReadsFailed true o o) trees handles c.requires.serving handles c.refusal.result
    (λ stores hold. served-told c.refusal.ensures (write-bad_id table stores handles c.args.p.0 c.args.id c.args.bytes.now (sym c.in_default.ensures)))

pub returns-in_default-mode-clause-served : goal.returns-in_default-mode-clause-served
returns-in_default-mode-clause-served g c = λ table of.
    let V = g.R.Rig.tells_view in
    let K = g.R.Rig.keeps_cuts in
    let o = g.R.Rig.state c.args.rig.now in
    let trees = c.args.trees.now in
    let handles = c.args.handles.now in
    served_still V K o (g.met.R.Rig.sound c.args.rig.now) (λ fs. write_file table fs c.args.p.0 c.args.id c.args.bytes.now) (ReadsFailed true o o) trees handles c.requires.serving handles c.refusal-in_default-mode.result
    (λ stores hold. served-told c.refusal-in_default-mode.ensures (write-readonly table stores handles c.args.p.0 c.args.id c.args.bytes.now c.in-Some.handle (sym c.in-Some.ensures) c.in_default-mode.is))

pub returns-then-is_empty-clause-served : goal.returns-then-is_empty-clause-served
returns-then-is_empty-clause-served g c = λ table of.
    let V = g.R.Rig.tells_view in
    let K = g.R.Rig.keeps_cuts in
    let o = g.R.Rig.state c.args.rig.now in
    let trees = c.args.trees.now in
    let handles = c.args.handles.now in
    let test : (length c.args.bytes.now == 0) ≡ true = sym c.is_empty.ensures ∙ c.if-is_empty.true in
    let none : length c.args.bytes.now ≡ 0 = grind (arith, nat_tests) in
    served_still V K o (g.met.R.Rig.sound c.args.rig.now) (λ fs. write_file table fs c.args.p.0 c.args.id c.args.bytes.now) (ReadsFailed true o o) trees handles c.requires.serving handles c.refusal-then-is_empty.result
    (λ stores hold. served-told c.refusal-then-is_empty.ensures (write-empty table stores handles c.args.p.0 c.args.id c.args.bytes.now c.in-Some.handle (sym c.in-Some.ensures) c.in-ReadWrite.is none))

pub returns-then-bytes-gt4096-clause-served : goal.returns-then-bytes-gt4096-clause-served
returns-then-bytes-gt4096-clause-served g c = λ table of.
    let V = g.R.Rig.tells_view in
    let K = g.R.Rig.keeps_cuts in
    let o = g.R.Rig.state c.args.rig.now in
    let trees = c.args.trees.now in
    let handles = c.args.handles.now in
    served_still V K o (g.met.R.Rig.sound c.args.rig.now) (λ fs. write_file table fs c.args.p.0 c.args.id c.args.bytes.now) (ReadsFailed true o o) trees handles c.requires.serving handles c.refusal-then-bytes-gt4096.result
    (λ stores hold. served-told c.refusal-then-bytes-gt4096.ensures (write-long table stores handles c.args.p.0 c.args.id c.args.bytes.now c.in-Some.handle (sym c.in-Some.ensures) c.in-ReadWrite.is c.if-bytes-gt4096.true))

pub returns-in_default-file-clause-served : goal.returns-in_default-file-clause-served
returns-in_default-file-clause-served g c = λ table of.
    let V = g.R.Rig.tells_view in
    let K = g.R.Rig.keeps_cuts in
    let o = g.R.Rig.state c.args.rig.now in
    let trees = c.args.trees.now in
    let handles = c.args.handles.now in
    let test : (length c.args.bytes.now == 0) ≡ false = sym c.is_empty.ensures ∙ c.if-is_empty.false in
    let some : 1 ≤ length c.args.bytes.now = grind (arith, nat_tests) in
    served_still V K o (g.met.R.Rig.sound c.args.rig.now) (λ fs. write_file table fs c.args.p.0 c.args.id c.args.bytes.now) (ReadsFailed true o o) trees handles c.requires.serving handles c.refusal-in_default-file.result
    (λ stores hold. served-told c.refusal-in_default-file.ensures (write-stale table stores handles c.args.p.0 c.args.id c.args.bytes.now c.in-Some.handle (sym c.in-Some.ensures) c.in-ReadWrite.is some c.if-bytes-gt4096.false c.in_default-file.is))
