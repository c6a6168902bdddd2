use Rattle.std.proofs.Common.{◌≡◌, ℕ, ◌+◌, ◌≤◌, length, sym, ◌∙◌, ap, arith}
use Rattle.rig_core.specs.Bytes.{part}
use Rattle.rig_core.proofs.Put.{part-put}
use Rattle.apex_model.specs.Fields.{log_entry_of}
use Rattle.logbook_store.specs.Moves.{IsMoving, NextBody, next_gate_of}
use Rattle.logbook_store.proofs.But.{but_torn, is_less}
use Rattle.logbook_store.proofs.Gates.{gate_within}
use Rattle.logbook_store.proofs.moving.write_next.Goals as goal

pub returns-in_err-write-clause-cuts : goal.returns-in_err-write-clause-cuts
returns-in_err-write-clause-cuts g c =
    let book = c.args.book.now in
    let moving : IsMoving book = is_less 0 (length book.in_progress) (sym c.is_moving.ensures ∙ c.if-not-is_moving.false) in
    let o = g.R.Rig.state c.args.rig.now in
    let V = g.R.Rig.tells_view in
    let K = g.R.Rig.keeps_cuts in
    let e = g.R.Rig.state c.write.new.self in
    let At : ℕ → Type 0 = NextBody book in
    let long : length c.put_next.new.body ≡ 512 = search in
    but_torn V K At (c.next_gate.result + 512) (length c.put_next.new.body) o e (g.met.R.Rig.sound c.args.rig.now) c.write.ensures.later.clock c.write.ensures.told c.write.ensures.cuts
    (λ tells k low high out. out (moving, omega (arith, low, c.next_gate.ensures), omega (arith, high, long, c.next_gate.ensures)))

pub returns-clause-cuts : goal.returns-clause-cuts
returns-clause-cuts g c =
    let book = c.args.book.now in
    let moving : IsMoving book = is_less 0 (length book.in_progress) (sym c.is_moving.ensures ∙ c.if-not-is_moving.false) in
    let o = g.R.Rig.state c.args.rig.now in
    let V = g.R.Rig.tells_view in
    let K = g.R.Rig.keeps_cuts in
    let e = g.R.Rig.state c.write.new.self in
    let At : ℕ → Type 0 = NextBody book in
    let long : length c.put_next.new.body ≡ 512 = search in
    but_torn V K At (c.next_gate.result + 512) (length c.put_next.new.body) o e (g.met.R.Rig.sound c.args.rig.now) c.write.ensures.later.clock c.write.ensures.told c.write.ensures.cuts
    (λ tells k low high out. out (moving, omega (arith, low, c.next_gate.ensures), omega (arith, high, long, c.next_gate.ensures)))

pub returns-clause-written : goal.returns-clause-written
returns-clause-written g c tells message rest is =
    let book = c.args.book.now in
    let moving : IsMoving book = is_less 0 (length book.in_progress) (sym c.is_moving.ensures ∙ c.if-not-is_moving.false) in
    let o = g.R.Rig.state c.args.rig.now in
    let V = g.R.Rig.tells_view in
    let K = g.R.Rig.keeps_cuts in
    let e = g.R.Rig.state c.write.new.self in
    let long : length c.put_next.new.body ≡ 512 = search in
    let body = c.put_next.new.body in
    let at = c.next_gate.result + 512 in
    let sound = g.met.R.Rig.sound c.args.rig.now in
    let fits : at + length body ≤ length o.view = omega (arith, long, c.next_gate.ensures, gate_within book, c.requires.fits, sound.view_fills tells) in
    let there : part (next_gate_of book + 512) 512 e.view ≡ body =
    ap (λ (k : ℕ). part (k + 512) 512 e.view) (sym c.next_gate.ensures) ∙ ap (λ (n : ℕ). part at n e.view) (sym long) ∙ ap (part at (length body)) (c.in_ok-write.ensures.written tells) ∙ part-put at body o.view fits in
    ap (log_entry_of book.row.message_size) there ∙ c.put_next.ensures message rest is
