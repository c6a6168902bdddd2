use Rattle.std.proofs.Common.{inr, ◌≡◌, ◌+◌, ◌-◌, ◌++◌, ◌∷◌, [], ◌∙◌, arith, sym, subst, refl, length, set, length-set, length-take}
use Rattle.rig_core.specs.Bytes.{byte, put, SameElsewhere}
use Rattle.rig_core.specs.Leaves.{LeavesElsewhere}
use Rattle.rig_core.proofs.Moments.{leaves_then, leaves_weaker, elsewhere_after, elsewhere_wider, leaves_elsewhere_wider}
use Rattle.gate_slots.specs.Slots.{IsNewest, IsOpen, slots_size, place_of, content_size}
use Rattle.gate_slots.proofs.Phases.{closing_at, closing_long, gate_from, gate_to, gate_back}
use Rattle.gate_slots.proofs.Steps.{begin, closing, shut_view, filling, fill_view, opening, opened_view, committed, number_after, other_open, closing_from, closing_to, closing_shows, filling_shows, opening_shows, older_of, OldOrNew, Switched, switched_is_either, around}
use Rattle.gate_slots.proofs.slots.Slots.commit.Goals as goal

pub slice_bounds-close-end-2 : goal.slice_bounds-close-end-2
slice_bounds-close-end-2 g c = omega (arith, length-take 512 (set c.args.body.now 0 c.next_number-next.result), length-set c.args.body.now 0 c.next_number-next.result, c.requires.body, c.requires.some_body)

pub close-requires-clause-first : goal.close-requires-clause-first
close-requires-clause-first g c = omega (arith, length-take 512 (set c.args.body.now 0 c.next_number-next.result), length-set c.args.body.now 0 c.next_number-next.result, c.requires.body, c.requires.some_body)

pub returns-in_err-close-clause-switched : goal.returns-in_err-close-clause-switched
returns-in_err-close-clause-switched g c content tells stands =
    let V = g.R.Rig.tells_view in
    let K = g.R.Rig.keeps_cuts in
    let slots = c.args.self.now in
    let o = g.R.Rig.state c.args.rig.now in
    let new = set c.args.body.now 0 c.next_number-next.result ++ c.args.tail.now in
    let begins = begin V K slots c.args.body.now c.args.tail.now c.next_number-next.result o tells (g.met.R.Rig.sound c.args.rig.now) c.requires.body c.requires.some_body c.requires.tail c.requires.fits c.requires.settled (c.requires.known tells) c.next_number-next.ensures in
    let m = g.R.Rig.state c.close.new.rig in
    let closed = closing V K slots new o begins content m stands (subst (λ gate. LeavesElsewhere (closing_at slots.older_open gate) (closing_long slots.older_open) o m) c.gate-gate.ensures c.close.ensures.cuts) in
    closed

pub returns-in_err-close-clause-any_moment : goal.returns-in_err-close-clause-any_moment
returns-in_err-close-clause-any_moment g c content tells stands =
    let slots = c.args.self.now in
    let o = g.R.Rig.state c.args.rig.now in
    let e = g.R.Rig.state c.close.new.rig in
    let new = set c.args.body.now 0 c.next_number-next.result ++ c.args.tail.now in
    leaves_weaker (Switched slots content new o.view) (OldOrNew slots content new) o e (switched_is_either slots content new o.view)
    (returns-in_err-close-clause-switched g c content tells stands)

pub returns-in_err-fill-clause-switched : goal.returns-in_err-fill-clause-switched
returns-in_err-fill-clause-switched g c content tells stands =
    let V = g.R.Rig.tells_view in
    let K = g.R.Rig.keeps_cuts in
    let slots = c.args.self.now in
    let o = g.R.Rig.state c.args.rig.now in
    let new = set c.args.body.now 0 c.next_number-next.result ++ c.args.tail.now in
    let begins = begin V K slots c.args.body.now c.args.tail.now c.next_number-next.result o tells (g.met.R.Rig.sound c.args.rig.now) c.requires.body c.requires.some_body c.requires.tail c.requires.fits c.requires.settled (c.requires.known tells) c.next_number-next.ensures in
    let m = g.R.Rig.state c.close.new.rig in
    let closed = closing V K slots new o begins content m stands (subst (λ gate. LeavesElsewhere (closing_at slots.older_open gate) (closing_long slots.older_open) o m) c.gate-gate.ensures c.close.ensures.cuts) in
    let shut = shut_view V K slots new o begins m.view
    (subst (λ gate. SameElsewhere (closing_at slots.older_open gate) (closing_long slots.older_open) o.view m.view) c.gate-gate.ensures (c.close.ensures.elsewhere tells))
    (λ opened. subst (λ gate. byte m.view gate ≡ 0) c.gate-gate.ensures (c.in_ok-close.ensures.closed tells opened)) in
    let e = g.R.Rig.state c.fill.new.rig in
    let filled_cuts = leaves_elsewhere_wider (c.gate-gate.result + 512) (length (set c.args.body.now 0 c.next_number-next.result) + length c.args.tail.now) (older_of slots + 512) (content_size (place_of slots)) m e
    (omega (arith, c.gate-gate.ensures)) (omega (arith, c.gate-gate.ensures, length-set c.args.body.now 0 c.next_number-next.result, c.requires.body, c.requires.tail)) c.fill.ensures.cuts in
    let written = leaves_then (Switched slots content new o.view) o m e closed (filling V K slots new o begins content m e stands shut c.in_ok-close.ensures.settled filled_cuts) in
    written

pub returns-in_err-fill-clause-any_moment : goal.returns-in_err-fill-clause-any_moment
returns-in_err-fill-clause-any_moment g c content tells stands =
    let slots = c.args.self.now in
    let o = g.R.Rig.state c.args.rig.now in
    let e = g.R.Rig.state c.fill.new.rig in
    let new = set c.args.body.now 0 c.next_number-next.result ++ c.args.tail.now in
    leaves_weaker (Switched slots content new o.view) (OldOrNew slots content new) o e (switched_is_either slots content new o.view)
    (returns-in_err-fill-clause-switched g c content tells stands)

pub returns-in_err-gate_set-clause-switched : goal.returns-in_err-gate_set-clause-switched
returns-in_err-gate_set-clause-switched g c content tells stands =
    let V = g.R.Rig.tells_view in
    let K = g.R.Rig.keeps_cuts in
    let slots = c.args.self.now in
    let o = g.R.Rig.state c.args.rig.now in
    let new = set c.args.body.now 0 c.next_number-next.result ++ c.args.tail.now in
    let begins = begin V K slots c.args.body.now c.args.tail.now c.next_number-next.result o tells (g.met.R.Rig.sound c.args.rig.now) c.requires.body c.requires.some_body c.requires.tail c.requires.fits c.requires.settled (c.requires.known tells) c.next_number-next.ensures in
    let m = g.R.Rig.state c.close.new.rig in
    let closed = closing V K slots new o begins content m stands (subst (λ gate. LeavesElsewhere (closing_at slots.older_open gate) (closing_long slots.older_open) o m) c.gate-gate.ensures c.close.ensures.cuts) in
    let shut = shut_view V K slots new o begins m.view
    (subst (λ gate. SameElsewhere (closing_at slots.older_open gate) (closing_long slots.older_open) o.view m.view) c.gate-gate.ensures (c.close.ensures.elsewhere tells))
    (λ opened. subst (λ gate. byte m.view gate ≡ 0) c.gate-gate.ensures (c.in_ok-close.ensures.closed tells opened)) in
    let e = g.R.Rig.state c.fill.new.rig in
    let filled_cuts = leaves_elsewhere_wider (c.gate-gate.result + 512) (length (set c.args.body.now 0 c.next_number-next.result) + length c.args.tail.now) (older_of slots + 512) (content_size (place_of slots)) m e
    (omega (arith, c.gate-gate.ensures)) (omega (arith, c.gate-gate.ensures, length-set c.args.body.now 0 c.next_number-next.result, c.requires.body, c.requires.tail)) c.fill.ensures.cuts in
    let written = leaves_then (Switched slots content new o.view) o m e closed (filling V K slots new o begins content m e stands shut c.in_ok-close.ensures.settled filled_cuts) in
    let filled = fill_view V K slots new o begins m.view e.view shut (subst (λ gate. e.view ≡ put (gate + 512) new m.view) c.gate-gate.ensures (c.in_ok-fill.ensures.written tells)) in
    let beside = around V K slots new o begins m.view e.view
    (subst (λ gate. SameElsewhere (closing_at slots.older_open gate) (closing_long slots.older_open) o.view m.view) c.gate-gate.ensures (c.close.ensures.elsewhere tells))
    (elsewhere_wider (c.gate-gate.result + 512) (length (set c.args.body.now 0 c.next_number-next.result) + length c.args.tail.now) (older_of slots + 512) (content_size (place_of slots)) m.view e.view
    (omega (arith, c.gate-gate.ensures)) (omega (arith, c.gate-gate.ensures, length-set c.args.body.now 0 c.next_number-next.result, c.requires.body, c.requires.tail)) (c.fill.ensures.elsewhere tells)) in
    let f = g.R.Rig.state c.gate_set.new.rig in
    let opened = leaves_then (Switched slots content new o.view) o e f written (opening V K slots new o begins content e f stands filled beside c.in_ok-fill.ensures.settled (subst (λ gate. LeavesElsewhere gate 1 e f) c.gate-gate.ensures c.gate_set.ensures.cuts)) in
    opened

pub returns-in_err-gate_set-clause-any_moment : goal.returns-in_err-gate_set-clause-any_moment
returns-in_err-gate_set-clause-any_moment g c content tells stands =
    let slots = c.args.self.now in
    let o = g.R.Rig.state c.args.rig.now in
    let e = g.R.Rig.state c.gate_set.new.rig in
    let new = set c.args.body.now 0 c.next_number-next.result ++ c.args.tail.now in
    leaves_weaker (Switched slots content new o.view) (OldOrNew slots content new) o e (switched_is_either slots content new o.view)
    (returns-in_err-gate_set-clause-switched g c content tells stands)

pub returns-clause-switched : goal.returns-clause-switched
returns-clause-switched g c content tells stands =
    let V = g.R.Rig.tells_view in
    let K = g.R.Rig.keeps_cuts in
    let slots = c.args.self.now in
    let o = g.R.Rig.state c.args.rig.now in
    let new = set c.args.body.now 0 c.next_number-next.result ++ c.args.tail.now in
    let begins = begin V K slots c.args.body.now c.args.tail.now c.next_number-next.result o tells (g.met.R.Rig.sound c.args.rig.now) c.requires.body c.requires.some_body c.requires.tail c.requires.fits c.requires.settled (c.requires.known tells) c.next_number-next.ensures in
    let m = g.R.Rig.state c.close.new.rig in
    let closed = closing V K slots new o begins content m stands (subst (λ gate. LeavesElsewhere (closing_at slots.older_open gate) (closing_long slots.older_open) o m) c.gate-gate.ensures c.close.ensures.cuts) in
    let shut = shut_view V K slots new o begins m.view
    (subst (λ gate. SameElsewhere (closing_at slots.older_open gate) (closing_long slots.older_open) o.view m.view) c.gate-gate.ensures (c.close.ensures.elsewhere tells))
    (λ opened. subst (λ gate. byte m.view gate ≡ 0) c.gate-gate.ensures (c.in_ok-close.ensures.closed tells opened)) in
    let e = g.R.Rig.state c.fill.new.rig in
    let filled_cuts = leaves_elsewhere_wider (c.gate-gate.result + 512) (length (set c.args.body.now 0 c.next_number-next.result) + length c.args.tail.now) (older_of slots + 512) (content_size (place_of slots)) m e
    (omega (arith, c.gate-gate.ensures)) (omega (arith, c.gate-gate.ensures, length-set c.args.body.now 0 c.next_number-next.result, c.requires.body, c.requires.tail)) c.fill.ensures.cuts in
    let written = leaves_then (Switched slots content new o.view) o m e closed (filling V K slots new o begins content m e stands shut c.in_ok-close.ensures.settled filled_cuts) in
    let filled = fill_view V K slots new o begins m.view e.view shut (subst (λ gate. e.view ≡ put (gate + 512) new m.view) c.gate-gate.ensures (c.in_ok-fill.ensures.written tells)) in
    let beside = around V K slots new o begins m.view e.view
    (subst (λ gate. SameElsewhere (closing_at slots.older_open gate) (closing_long slots.older_open) o.view m.view) c.gate-gate.ensures (c.close.ensures.elsewhere tells))
    (elsewhere_wider (c.gate-gate.result + 512) (length (set c.args.body.now 0 c.next_number-next.result) + length c.args.tail.now) (older_of slots + 512) (content_size (place_of slots)) m.view e.view
    (omega (arith, c.gate-gate.ensures)) (omega (arith, c.gate-gate.ensures, length-set c.args.body.now 0 c.next_number-next.result, c.requires.body, c.requires.tail)) (c.fill.ensures.elsewhere tells)) in
    let f = g.R.Rig.state c.gate_set.new.rig in
    let opened = leaves_then (Switched slots content new o.view) o e f written (opening V K slots new o begins content e f stands filled beside c.in_ok-fill.ensures.settled (subst (λ gate. LeavesElsewhere gate 1 e f) c.gate-gate.ensures c.gate_set.ensures.cuts)) in
    opened

pub returns-clause-any_moment : goal.returns-clause-any_moment
returns-clause-any_moment g c content tells stands =
    let slots = c.args.self.now in
    let o = g.R.Rig.state c.args.rig.now in
    let e = g.R.Rig.state c.gate_set.new.rig in
    let new = set c.args.body.now 0 c.next_number-next.result ++ c.args.tail.now in
    leaves_weaker (Switched slots content new o.view) (OldOrNew slots content new) o e (switched_is_either slots content new o.view)
    (returns-clause-switched g c content tells stands)

pub returns-clause-committed : goal.returns-clause-committed
returns-clause-committed g c tells =
    let V = g.R.Rig.tells_view in
    let K = g.R.Rig.keeps_cuts in
    let slots = c.args.self.now in
    let o = g.R.Rig.state c.args.rig.now in
    let new = set c.args.body.now 0 c.next_number-next.result ++ c.args.tail.now in
    let begins = begin V K slots c.args.body.now c.args.tail.now c.next_number-next.result o tells (g.met.R.Rig.sound c.args.rig.now) c.requires.body c.requires.some_body c.requires.tail c.requires.fits c.requires.settled (c.requires.known tells) c.next_number-next.ensures in
    let m = g.R.Rig.state c.close.new.rig in
    let shut = shut_view V K slots new o begins m.view
    (subst (λ gate. SameElsewhere (closing_at slots.older_open gate) (closing_long slots.older_open) o.view m.view) c.gate-gate.ensures (c.close.ensures.elsewhere tells))
    (λ opened. subst (λ gate. byte m.view gate ≡ 0) c.gate-gate.ensures (c.in_ok-close.ensures.closed tells opened)) in
    let e = g.R.Rig.state c.fill.new.rig in
    let filled = fill_view V K slots new o begins m.view e.view shut (subst (λ gate. e.view ≡ put (gate + 512) new m.view) c.gate-gate.ensures (c.in_ok-fill.ensures.written tells)) in
    let f = g.R.Rig.state c.gate_set.new.rig in
    let is = subst (λ gate. f.view ≡ put gate (165 ∷ []) e.view) c.gate-gate.ensures (c.in_ok-gate_set.ensures.written tells) in
    committed V K slots new o begins f.view (opened_view V K slots new o begins e.view f.view filled is)

pub returns-clause-known : goal.returns-clause-known
returns-clause-known g c tells =
    let V = g.R.Rig.tells_view in
    let K = g.R.Rig.keeps_cuts in
    let slots = c.args.self.now in
    let o = g.R.Rig.state c.args.rig.now in
    let new = set c.args.body.now 0 c.next_number-next.result ++ c.args.tail.now in
    let begins = begin V K slots c.args.body.now c.args.tail.now c.next_number-next.result o tells (g.met.R.Rig.sound c.args.rig.now) c.requires.body c.requires.some_body c.requires.tail c.requires.fits c.requires.settled (c.requires.known tells) c.next_number-next.ensures in
    let m = g.R.Rig.state c.close.new.rig in
    let shut = shut_view V K slots new o begins m.view
    (subst (λ gate. SameElsewhere (closing_at slots.older_open gate) (closing_long slots.older_open) o.view m.view) c.gate-gate.ensures (c.close.ensures.elsewhere tells))
    (λ opened. subst (λ gate. byte m.view gate ≡ 0) c.gate-gate.ensures (c.in_ok-close.ensures.closed tells opened)) in
    let e = g.R.Rig.state c.fill.new.rig in
    let filled = fill_view V K slots new o begins m.view e.view shut (subst (λ gate. e.view ≡ put (gate + 512) new m.view) c.gate-gate.ensures (c.in_ok-fill.ensures.written tells)) in
    let f = g.R.Rig.state c.gate_set.new.rig in
    let is = subst (λ gate. f.view ≡ put gate (165 ∷ []) e.view) c.gate-gate.ensures (c.in_ok-gate_set.ensures.written tells) in
    let is_newest = (opened_view V K slots new o begins e.view f.view filled is).0 in
    let back = gate_back (place_of slots) slots.newest slots.is_slot in
    record {
      found = (c.requires.known tells).found;
      newest = subst (λ other. IsNewest (older_of slots) other f.view) (sym back) is_newest;
      sequence = c.next_number-next.ensures ∙ sym (number_after V K slots new o begins e.view f.view filled is);
      open_is = λ open_now. subst (λ other. IsOpen other f.view) (sym back) (other_open V K slots new o begins e.view f.view filled is);
      open_only = λ open_now. refl;
    }

pub returns-in_err-close-clause-outside : goal.returns-in_err-close-clause-outside
returns-in_err-close-clause-outside g c =
    let slots = c.args.self.now in
    let o = g.R.Rig.state c.args.rig.now in
    let m = g.R.Rig.state c.close.new.rig in
    let size = slots_size (place_of slots) in
    let low = gate_from (place_of slots) (1 - slots.newest) (omega arith) in
    let high = gate_to (place_of slots) (1 - slots.newest) (omega arith) in
    let gate_is = c.gate-gate.ensures in
    let some = c.requires.some_body in
    let closed = leaves_elsewhere_wider (closing_at slots.older_open c.gate-gate.result) (closing_long slots.older_open) slots.start size o m
    (omega (arith, low, gate_is, closing_from slots.older_open c.gate-gate.result)) (omega (arith, high, gate_is, some, closing_to slots.older_open c.gate-gate.result)) c.close.ensures.cuts in
    closed

pub returns-in_err-fill-clause-outside : goal.returns-in_err-fill-clause-outside
returns-in_err-fill-clause-outside g c =
    let slots = c.args.self.now in
    let o = g.R.Rig.state c.args.rig.now in
    let m = g.R.Rig.state c.close.new.rig in
    let size = slots_size (place_of slots) in
    let low = gate_from (place_of slots) (1 - slots.newest) (omega arith) in
    let high = gate_to (place_of slots) (1 - slots.newest) (omega arith) in
    let gate_is = c.gate-gate.ensures in
    let some = c.requires.some_body in
    let closed = leaves_elsewhere_wider (closing_at slots.older_open c.gate-gate.result) (closing_long slots.older_open) slots.start size o m
    (omega (arith, low, gate_is, closing_from slots.older_open c.gate-gate.result)) (omega (arith, high, gate_is, some, closing_to slots.older_open c.gate-gate.result)) c.close.ensures.cuts in
    let e = g.R.Rig.state c.fill.new.rig in
    let filled = elsewhere_after slots.start size o m e (g.met.R.Rig.sound c.close.new.rig) closed
    (leaves_elsewhere_wider (c.gate-gate.result + 512) (length (set c.args.body.now 0 c.next_number-next.result) + length c.args.tail.now) slots.start size m e
    (omega (arith, low, gate_is)) (omega (arith, high, gate_is, length-set c.args.body.now 0 c.next_number-next.result, c.requires.body, c.requires.tail)) c.fill.ensures.cuts) in
    filled

pub returns-in_err-gate_set-clause-outside : goal.returns-in_err-gate_set-clause-outside
returns-in_err-gate_set-clause-outside g c =
    let slots = c.args.self.now in
    let o = g.R.Rig.state c.args.rig.now in
    let m = g.R.Rig.state c.close.new.rig in
    let size = slots_size (place_of slots) in
    let low = gate_from (place_of slots) (1 - slots.newest) (omega arith) in
    let high = gate_to (place_of slots) (1 - slots.newest) (omega arith) in
    let gate_is = c.gate-gate.ensures in
    let some = c.requires.some_body in
    let closed = leaves_elsewhere_wider (closing_at slots.older_open c.gate-gate.result) (closing_long slots.older_open) slots.start size o m
    (omega (arith, low, gate_is, closing_from slots.older_open c.gate-gate.result)) (omega (arith, high, gate_is, some, closing_to slots.older_open c.gate-gate.result)) c.close.ensures.cuts in
    let e = g.R.Rig.state c.fill.new.rig in
    let filled = elsewhere_after slots.start size o m e (g.met.R.Rig.sound c.close.new.rig) closed
    (leaves_elsewhere_wider (c.gate-gate.result + 512) (length (set c.args.body.now 0 c.next_number-next.result) + length c.args.tail.now) slots.start size m e
    (omega (arith, low, gate_is)) (omega (arith, high, gate_is, length-set c.args.body.now 0 c.next_number-next.result, c.requires.body, c.requires.tail)) c.fill.ensures.cuts) in
    let f = g.R.Rig.state c.gate_set.new.rig in
    let opened = elsewhere_after slots.start size o e f (g.met.R.Rig.sound c.fill.new.rig) filled
    (leaves_elsewhere_wider c.gate-gate.result 1 slots.start size e f (omega (arith, low, gate_is)) (omega (arith, high, gate_is)) c.gate_set.ensures.cuts) in
    opened

pub returns-clause-outside : goal.returns-clause-outside
returns-clause-outside g c =
    let slots = c.args.self.now in
    let o = g.R.Rig.state c.args.rig.now in
    let m = g.R.Rig.state c.close.new.rig in
    let size = slots_size (place_of slots) in
    let low = gate_from (place_of slots) (1 - slots.newest) (omega arith) in
    let high = gate_to (place_of slots) (1 - slots.newest) (omega arith) in
    let gate_is = c.gate-gate.ensures in
    let some = c.requires.some_body in
    let closed = leaves_elsewhere_wider (closing_at slots.older_open c.gate-gate.result) (closing_long slots.older_open) slots.start size o m
    (omega (arith, low, gate_is, closing_from slots.older_open c.gate-gate.result)) (omega (arith, high, gate_is, some, closing_to slots.older_open c.gate-gate.result)) c.close.ensures.cuts in
    let e = g.R.Rig.state c.fill.new.rig in
    let filled = elsewhere_after slots.start size o m e (g.met.R.Rig.sound c.close.new.rig) closed
    (leaves_elsewhere_wider (c.gate-gate.result + 512) (length (set c.args.body.now 0 c.next_number-next.result) + length c.args.tail.now) slots.start size m e
    (omega (arith, low, gate_is)) (omega (arith, high, gate_is, length-set c.args.body.now 0 c.next_number-next.result, c.requires.body, c.requires.tail)) c.fill.ensures.cuts) in
    let f = g.R.Rig.state c.gate_set.new.rig in
    let opened = elsewhere_after slots.start size o e f (g.met.R.Rig.sound c.fill.new.rig) filled
    (leaves_elsewhere_wider c.gate-gate.result 1 slots.start size e f (omega (arith, low, gate_is)) (omega (arith, high, gate_is)) c.gate_set.ensures.cuts) in
    opened

pub returns-in_err-close-clause-shown : goal.returns-in_err-close-clause-shown
returns-in_err-close-clause-shown g c content tells stands =
    let V = g.R.Rig.tells_view in
    let K = g.R.Rig.keeps_cuts in
    let slots = c.args.self.now in
    let o = g.R.Rig.state c.args.rig.now in
    let new = set c.args.body.now 0 c.next_number-next.result ++ c.args.tail.now in
    let begins = begin V K slots c.args.body.now c.args.tail.now c.next_number-next.result o tells (g.met.R.Rig.sound c.args.rig.now) c.requires.body c.requires.some_body c.requires.tail c.requires.fits c.requires.settled (c.requires.known tells) c.next_number-next.ensures in
    let m = g.R.Rig.state c.close.new.rig in
    closing_shows V K slots new o begins content m.view stands
    (subst (λ gate. SameElsewhere (closing_at slots.older_open gate) (closing_long slots.older_open) o.view m.view) c.gate-gate.ensures (c.close.ensures.elsewhere tells))

pub returns-in_err-fill-clause-shown : goal.returns-in_err-fill-clause-shown
returns-in_err-fill-clause-shown g c content tells stands =
    let V = g.R.Rig.tells_view in
    let K = g.R.Rig.keeps_cuts in
    let slots = c.args.self.now in
    let o = g.R.Rig.state c.args.rig.now in
    let new = set c.args.body.now 0 c.next_number-next.result ++ c.args.tail.now in
    let begins = begin V K slots c.args.body.now c.args.tail.now c.next_number-next.result o tells (g.met.R.Rig.sound c.args.rig.now) c.requires.body c.requires.some_body c.requires.tail c.requires.fits c.requires.settled (c.requires.known tells) c.next_number-next.ensures in
    let m = g.R.Rig.state c.close.new.rig in
    let shut = shut_view V K slots new o begins m.view
    (subst (λ gate. SameElsewhere (closing_at slots.older_open gate) (closing_long slots.older_open) o.view m.view) c.gate-gate.ensures (c.close.ensures.elsewhere tells))
    (λ opened. subst (λ gate. byte m.view gate ≡ 0) c.gate-gate.ensures (c.in_ok-close.ensures.closed tells opened)) in
    let e = g.R.Rig.state c.fill.new.rig in
    filling_shows V K slots new o begins content m.view e.view stands shut
    (elsewhere_wider (c.gate-gate.result + 512) (length (set c.args.body.now 0 c.next_number-next.result) + length c.args.tail.now) (older_of slots + 512) (content_size (place_of slots)) m.view e.view
    (omega (arith, c.gate-gate.ensures)) (omega (arith, c.gate-gate.ensures, length-set c.args.body.now 0 c.next_number-next.result, c.requires.body, c.requires.tail)) (c.fill.ensures.elsewhere tells))

pub returns-in_err-gate_set-clause-shown : goal.returns-in_err-gate_set-clause-shown
returns-in_err-gate_set-clause-shown g c content tells stands =
    let V = g.R.Rig.tells_view in
    let K = g.R.Rig.keeps_cuts in
    let slots = c.args.self.now in
    let o = g.R.Rig.state c.args.rig.now in
    let new = set c.args.body.now 0 c.next_number-next.result ++ c.args.tail.now in
    let begins = begin V K slots c.args.body.now c.args.tail.now c.next_number-next.result o tells (g.met.R.Rig.sound c.args.rig.now) c.requires.body c.requires.some_body c.requires.tail c.requires.fits c.requires.settled (c.requires.known tells) c.next_number-next.ensures in
    let m = g.R.Rig.state c.close.new.rig in
    let shut = shut_view V K slots new o begins m.view
    (subst (λ gate. SameElsewhere (closing_at slots.older_open gate) (closing_long slots.older_open) o.view m.view) c.gate-gate.ensures (c.close.ensures.elsewhere tells))
    (λ opened. subst (λ gate. byte m.view gate ≡ 0) c.gate-gate.ensures (c.in_ok-close.ensures.closed tells opened)) in
    let e = g.R.Rig.state c.fill.new.rig in
    let filled = fill_view V K slots new o begins m.view e.view shut (subst (λ gate. e.view ≡ put (gate + 512) new m.view) c.gate-gate.ensures (c.in_ok-fill.ensures.written tells)) in
    let f = g.R.Rig.state c.gate_set.new.rig in
    opening_shows V K slots new o begins content e.view f.view stands filled (subst (λ gate. SameElsewhere gate 1 e.view f.view) c.gate-gate.ensures (c.gate_set.ensures.elsewhere tells))

pub returns-clause-shown : goal.returns-clause-shown
returns-clause-shown g c content tells stands =
    let V = g.R.Rig.tells_view in
    let K = g.R.Rig.keeps_cuts in
    let slots = c.args.self.now in
    let o = g.R.Rig.state c.args.rig.now in
    let new = set c.args.body.now 0 c.next_number-next.result ++ c.args.tail.now in
    let begins = begin V K slots c.args.body.now c.args.tail.now c.next_number-next.result o tells (g.met.R.Rig.sound c.args.rig.now) c.requires.body c.requires.some_body c.requires.tail c.requires.fits c.requires.settled (c.requires.known tells) c.next_number-next.ensures in
    let m = g.R.Rig.state c.close.new.rig in
    let shut = shut_view V K slots new o begins m.view
    (subst (λ gate. SameElsewhere (closing_at slots.older_open gate) (closing_long slots.older_open) o.view m.view) c.gate-gate.ensures (c.close.ensures.elsewhere tells))
    (λ opened. subst (λ gate. byte m.view gate ≡ 0) c.gate-gate.ensures (c.in_ok-close.ensures.closed tells opened)) in
    let e = g.R.Rig.state c.fill.new.rig in
    let filled = fill_view V K slots new o begins m.view e.view shut (subst (λ gate. e.view ≡ put (gate + 512) new m.view) c.gate-gate.ensures (c.in_ok-fill.ensures.written tells)) in
    let f = g.R.Rig.state c.gate_set.new.rig in
    let is = subst (λ gate. f.view ≡ put gate (165 ∷ []) e.view) c.gate-gate.ensures (c.in_ok-gate_set.ensures.written tells) in
    inr (committed V K slots new o begins f.view (opened_view V K slots new o begins e.view f.view filled is))
