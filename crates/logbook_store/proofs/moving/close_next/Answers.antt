use Rattle.std.proofs.Common.{◌≡◌, ℕ, length, sym, ◌∙◌, ap, arith}
use Rattle.rig_core.specs.Bytes.{byte}
use Rattle.logbook_store.specs.Moves.{IsMoving, OpenGate, next_gate_of}
use Rattle.logbook_store.proofs.But.{but_reads, but_then, but_torn, is_less, is_same}
use Rattle.logbook_store.proofs.moving.close_next.Goals as goal

pub returns-in_err-gate_write-clause-cuts : goal.returns-in_err-gate_write-clause-cuts
returns-in_err-gate_write-clause-cuts g c =
    let book = c.args.book.now in
    let moving : IsMoving book = is_less 0 (length book.in_progress) (sym c.is_moving.ensures ∙ c.if-not-is_moving.false) in
    let o = g.R.Rig.state c.args.rig.now in
    let V = g.R.Rig.tells_view in
    let K = g.R.Rig.keeps_cuts in
    let m = g.R.Rig.state c.gate_read.new.rig in
    let e = g.R.Rig.state c.gate_write.new.rig in
    let At : ℕ → Type 0 = OpenGate o.view book in
    let sound = g.met.R.Rig.sound c.gate_read.new.rig in
    but_then V K At At o m e sound (λ tells k inside out. out inside) (but_reads V K At o m c.gate_read.ensures.reads)
    (but_torn V K At c.next_gate-then-branch.result 1 m e sound c.gate_write.ensures.later.clock c.gate_write.ensures.told c.gate_write.ensures.cuts
    (λ tells k low high out.
    let here : k ≡ next_gate_of book = omega (arith, low, high, c.next_gate-then-branch.ensures) in
    let opened : byte o.view c.next_gate.result ≡ 165 = is_same (byte o.view c.next_gate.result) 165 (sym (c.in_ok-gate_read.ensures.open tells) ∙ c.if-branch.true) in
    out (moving, here, ap (byte o.view) (here ∙ sym c.next_gate.ensures) ∙ opened)))

pub returns-in_ok-gate_write-clause-cuts : goal.returns-in_ok-gate_write-clause-cuts
returns-in_ok-gate_write-clause-cuts g c =
    let book = c.args.book.now in
    let moving : IsMoving book = is_less 0 (length book.in_progress) (sym c.is_moving.ensures ∙ c.if-not-is_moving.false) in
    let o = g.R.Rig.state c.args.rig.now in
    let V = g.R.Rig.tells_view in
    let K = g.R.Rig.keeps_cuts in
    let m = g.R.Rig.state c.gate_read.new.rig in
    let e = g.R.Rig.state c.gate_write.new.rig in
    let At : ℕ → Type 0 = OpenGate o.view book in
    let sound = g.met.R.Rig.sound c.gate_read.new.rig in
    but_then V K At At o m e sound (λ tells k inside out. out inside) (but_reads V K At o m c.gate_read.ensures.reads)
    (but_torn V K At c.next_gate-then-branch.result 1 m e sound c.gate_write.ensures.later.clock c.gate_write.ensures.told c.gate_write.ensures.cuts
    (λ tells k low high out.
    let here : k ≡ next_gate_of book = omega (arith, low, high, c.next_gate-then-branch.ensures) in
    let opened : byte o.view c.next_gate.result ≡ 165 = is_same (byte o.view c.next_gate.result) 165 (sym (c.in_ok-gate_read.ensures.open tells) ∙ c.if-branch.true) in
    out (moving, here, ap (byte o.view) (here ∙ sym c.next_gate.ensures) ∙ opened)))
