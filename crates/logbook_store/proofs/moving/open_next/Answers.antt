use Rattle.std.proofs.Common.{ℕ, length, sym, ◌∙◌, arith}
use Rattle.logbook_store.specs.Moves.{IsMoving, NextGate}
use Rattle.logbook_store.proofs.But.{but_torn, is_less}
use Rattle.logbook_store.proofs.moving.open_next.Goals as goal

pub returns-in_err-gate_write-clause-cuts : goal.returns-in_err-gate_write-clause-cuts
returns-in_err-gate_write-clause-cuts g c =
    let book = c.args.book.now in
    let moving : IsMoving book = is_less 0 (length book.in_progress) (sym c.is_moving.ensures ∙ c.if-not-is_moving.false) in
    let o = g.R.Rig.state c.args.rig.now in
    let V = g.R.Rig.tells_view in
    let K = g.R.Rig.keeps_cuts in
    let e = g.R.Rig.state c.gate_write.new.rig in
    let At : ℕ → Type 0 = NextGate book in
    but_torn V K At c.next_gate.result 1 o e (g.met.R.Rig.sound c.args.rig.now) c.gate_write.ensures.later.clock c.gate_write.ensures.told c.gate_write.ensures.cuts
    (λ tells k low high out. out (moving, omega (arith, low, high, c.next_gate.ensures)))

pub returns-clause-cuts : goal.returns-clause-cuts
returns-clause-cuts g c =
    let book = c.args.book.now in
    let moving : IsMoving book = is_less 0 (length book.in_progress) (sym c.is_moving.ensures ∙ c.if-not-is_moving.false) in
    let o = g.R.Rig.state c.args.rig.now in
    let V = g.R.Rig.tells_view in
    let K = g.R.Rig.keeps_cuts in
    let e = g.R.Rig.state c.gate_write.new.rig in
    let At : ℕ → Type 0 = NextGate book in
    but_torn V K At c.next_gate.result 1 o e (g.met.R.Rig.sound c.args.rig.now) c.gate_write.ensures.later.clock c.gate_write.ensures.told c.gate_write.ensures.cuts
    (λ tells k low high out. out (moving, omega (arith, low, high, c.next_gate.ensures)))
