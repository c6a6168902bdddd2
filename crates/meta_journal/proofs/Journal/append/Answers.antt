use Rattle.std.proofs.Common.{◌+◌, ◌<◌, inl, refl, arith, subst, length}
use Rattle.rig_core.specs.Bytes.{SameElsewhere}
use Rattle.rig_core.specs.Leaves.{LeavesElsewhere}
use Rattle.rig_core.proofs.Moments.{leaves_then, elsewhere_after, leaves_elsewhere_wider}
use Rattle.meta_journal.specs.Leading.{gate_of}
use Rattle.meta_journal.proofs.Steps.{WithOrWithout, filling, opening, filled_view, opened_same, when_open, while_filling, while_opening, holds_more, view_fits}
use Rattle.meta_journal.proofs.Journal.append.Goals as goal

pub returns-in_err-write_settled-clause-any_moment : goal.returns-in_err-write_settled-clause-any_moment
returns-in_err-write_settled-clause-any_moment g c tells =
    let V = g.R.Rig.tells_view in
    let K = g.R.Rig.keeps_cuts in
    let first = c.args.self.now.first in
    let held = c.args.self.now.held in
    let few : held < 32 = omega (arith, c.args.self.now.few, c.requires.room) in
    let body = c.args.body.now in
    let o = g.R.Rig.state c.args.rig.now in
    let sound = g.met.R.Rig.sound c.args.rig.now in
    let holds = c.requires.known tells in
    let m = g.R.Rig.state c.write_settled.new.rig in
    let filled_cuts = subst (λ n. LeavesElsewhere (gate_of first held + 512) n o m) c.requires.body c.write_settled.ensures.cuts in
    let filled = filling V K first held body o tells sound few c.requires.body c.requires.fits c.requires.settled holds m filled_cuts in
    filled

pub returns-in_err-gate_set-clause-any_moment : goal.returns-in_err-gate_set-clause-any_moment
returns-in_err-gate_set-clause-any_moment g c tells =
    let V = g.R.Rig.tells_view in
    let K = g.R.Rig.keeps_cuts in
    let first = c.args.self.now.first in
    let held = c.args.self.now.held in
    let few : held < 32 = omega (arith, c.args.self.now.few, c.requires.room) in
    let body = c.args.body.now in
    let o = g.R.Rig.state c.args.rig.now in
    let sound = g.met.R.Rig.sound c.args.rig.now in
    let holds = c.requires.known tells in
    let m = g.R.Rig.state c.write_settled.new.rig in
    let filled_cuts = subst (λ n. LeavesElsewhere (gate_of first held + 512) n o m) c.requires.body c.write_settled.ensures.cuts in
    let filled = filling V K first held body o tells sound few c.requires.body c.requires.fits c.requires.settled holds m filled_cuts in
    let e = g.R.Rig.state c.gate_set.new.rig in
    let fits = view_fits V K first held body o tells sound few c.requires.body c.requires.fits c.requires.settled holds in
    let filled_is = filled_view first held o.view body few c.requires.body fits holds m.view (c.in_ok-write_settled.ensures.written tells) in
    let opened = leaves_then (WithOrWithout first o.view body) o m e filled
    (opening V K first held body o tells sound few c.requires.body c.requires.fits c.requires.settled holds m e filled_is c.in_ok-write_settled.ensures.settled c.gate_set.ensures.cuts) in
    opened

pub returns-clause-any_moment : goal.returns-clause-any_moment
returns-clause-any_moment g c tells =
    let V = g.R.Rig.tells_view in
    let K = g.R.Rig.keeps_cuts in
    let first = c.args.self.now.first in
    let held = c.args.self.now.held in
    let few : held < 32 = omega (arith, c.args.self.now.few, c.requires.room) in
    let body = c.args.body.now in
    let o = g.R.Rig.state c.args.rig.now in
    let sound = g.met.R.Rig.sound c.args.rig.now in
    let holds = c.requires.known tells in
    let m = g.R.Rig.state c.write_settled.new.rig in
    let filled_cuts = subst (λ n. LeavesElsewhere (gate_of first held + 512) n o m) c.requires.body c.write_settled.ensures.cuts in
    let filled = filling V K first held body o tells sound few c.requires.body c.requires.fits c.requires.settled holds m filled_cuts in
    let e = g.R.Rig.state c.gate_set.new.rig in
    let fits = view_fits V K first held body o tells sound few c.requires.body c.requires.fits c.requires.settled holds in
    let filled_is = filled_view first held o.view body few c.requires.body fits holds m.view (c.in_ok-write_settled.ensures.written tells) in
    let opened = leaves_then (WithOrWithout first o.view body) o m e filled
    (opening V K first held body o tells sound few c.requires.body c.requires.fits c.requires.settled holds m e filled_is c.in_ok-write_settled.ensures.settled c.gate_set.ensures.cuts) in
    opened

pub returns-clause-appended : goal.returns-clause-appended
returns-clause-appended g c tells =
    let V = g.R.Rig.tells_view in
    let K = g.R.Rig.keeps_cuts in
    let first = c.args.self.now.first in
    let held = c.args.self.now.held in
    let few : held < 32 = omega (arith, c.args.self.now.few, c.requires.room) in
    let body = c.args.body.now in
    let o = g.R.Rig.state c.args.rig.now in
    let sound = g.met.R.Rig.sound c.args.rig.now in
    let holds = c.requires.known tells in
    let m = g.R.Rig.state c.write_settled.new.rig in
    let e = g.R.Rig.state c.gate_set.new.rig in
    let fits = view_fits V K first held body o tells sound few c.requires.body c.requires.fits c.requires.settled holds in
    let filled_is = filled_view first held o.view body few c.requires.body fits holds m.view (c.in_ok-write_settled.ensures.written tells) in
    let same = opened_same first held o.view body few c.requires.body fits holds m.view e.view filled_is (c.in_ok-gate_set.ensures.written tells) in
    when_open first held o.view body few c.requires.body fits holds m.view e.view filled_is same.0 same.1

pub returns-in_err-write_settled-clause-shown : goal.returns-in_err-write_settled-clause-shown
returns-in_err-write_settled-clause-shown g c tells =
    let V = g.R.Rig.tells_view in
    let K = g.R.Rig.keeps_cuts in
    let first = c.args.self.now.first in
    let held = c.args.self.now.held in
    let few : held < 32 = omega (arith, c.args.self.now.few, c.requires.room) in
    let body = c.args.body.now in
    let o = g.R.Rig.state c.args.rig.now in
    let sound = g.met.R.Rig.sound c.args.rig.now in
    let holds = c.requires.known tells in
    let m = g.R.Rig.state c.write_settled.new.rig in
    let fits = view_fits V K first held body o tells sound few c.requires.body c.requires.fits c.requires.settled holds in
    inl (while_filling first held o.view body few c.requires.body fits holds o.view m.view refl (record { within = λ k low high. refl })
    (subst (λ n. SameElsewhere (gate_of first held + 512) n o.view m.view) c.requires.body (c.write_settled.ensures.elsewhere tells)))

pub returns-in_err-gate_set-clause-shown : goal.returns-in_err-gate_set-clause-shown
returns-in_err-gate_set-clause-shown g c tells =
    let V = g.R.Rig.tells_view in
    let K = g.R.Rig.keeps_cuts in
    let first = c.args.self.now.first in
    let held = c.args.self.now.held in
    let few : held < 32 = omega (arith, c.args.self.now.few, c.requires.room) in
    let body = c.args.body.now in
    let o = g.R.Rig.state c.args.rig.now in
    let sound = g.met.R.Rig.sound c.args.rig.now in
    let holds = c.requires.known tells in
    let m = g.R.Rig.state c.write_settled.new.rig in
    let fits = view_fits V K first held body o tells sound few c.requires.body c.requires.fits c.requires.settled holds in
    let e = g.R.Rig.state c.gate_set.new.rig in
    let filled_is = filled_view first held o.view body few c.requires.body fits holds m.view (c.in_ok-write_settled.ensures.written tells) in
    while_opening first held o.view body few c.requires.body fits holds m.view e.view filled_is (c.gate_set.ensures.elsewhere tells)

pub returns-clause-shown : goal.returns-clause-shown
returns-clause-shown g c tells =
    let V = g.R.Rig.tells_view in
    let K = g.R.Rig.keeps_cuts in
    let first = c.args.self.now.first in
    let held = c.args.self.now.held in
    let few : held < 32 = omega (arith, c.args.self.now.few, c.requires.room) in
    let body = c.args.body.now in
    let o = g.R.Rig.state c.args.rig.now in
    let sound = g.met.R.Rig.sound c.args.rig.now in
    let holds = c.requires.known tells in
    let m = g.R.Rig.state c.write_settled.new.rig in
    let fits = view_fits V K first held body o tells sound few c.requires.body c.requires.fits c.requires.settled holds in
    let e = g.R.Rig.state c.gate_set.new.rig in
    let filled_is = filled_view first held o.view body few c.requires.body fits holds m.view (c.in_ok-write_settled.ensures.written tells) in
    while_opening first held o.view body few c.requires.body fits holds m.view e.view filled_is (c.gate_set.ensures.elsewhere tells)

pub returns-clause-known : goal.returns-clause-known
returns-clause-known g c tells =
    let V = g.R.Rig.tells_view in
    let K = g.R.Rig.keeps_cuts in
    let first = c.args.self.now.first in
    let held = c.args.self.now.held in
    let few : held < 32 = omega (arith, c.args.self.now.few, c.requires.room) in
    let body = c.args.body.now in
    let o = g.R.Rig.state c.args.rig.now in
    let sound = g.met.R.Rig.sound c.args.rig.now in
    let holds = c.requires.known tells in
    let m = g.R.Rig.state c.write_settled.new.rig in
    let e = g.R.Rig.state c.gate_set.new.rig in
    let fits = view_fits V K first held body o tells sound few c.requires.body c.requires.fits c.requires.settled holds in
    let filled_is = filled_view first held o.view body few c.requires.body fits holds m.view (c.in_ok-write_settled.ensures.written tells) in
    let same = opened_same first held o.view body few c.requires.body fits holds m.view e.view filled_is (c.in_ok-gate_set.ensures.written tells) in
    holds_more first held o.view body few c.requires.body fits holds m.view e.view filled_is same.0 same.1

pub returns-in_err-gate_set-clause-outside : goal.returns-in_err-gate_set-clause-outside
returns-in_err-gate_set-clause-outside g c =
    let first = c.args.self.now.first in
    let held = c.args.self.now.held in
    let o = g.R.Rig.state c.args.rig.now in
    let m = g.R.Rig.state c.write_settled.new.rig in
    let e = g.R.Rig.state c.gate_set.new.rig in
    elsewhere_after (gate_of first held) 1024 o m e (g.met.R.Rig.sound c.write_settled.new.rig)
    (leaves_elsewhere_wider (gate_of first held + 512) (length c.args.body.now) (gate_of first held) 1024 o m (omega arith) (omega (arith, c.requires.body)) c.write_settled.ensures.cuts)
    (leaves_elsewhere_wider (gate_of first held) 1 (gate_of first held) 1024 m e (omega arith) (omega arith) c.gate_set.ensures.cuts)

pub returns-clause-outside : goal.returns-clause-outside
returns-clause-outside g c =
    let first = c.args.self.now.first in
    let held = c.args.self.now.held in
    let o = g.R.Rig.state c.args.rig.now in
    let m = g.R.Rig.state c.write_settled.new.rig in
    let e = g.R.Rig.state c.gate_set.new.rig in
    elsewhere_after (gate_of first held) 1024 o m e (g.met.R.Rig.sound c.write_settled.new.rig)
    (leaves_elsewhere_wider (gate_of first held + 512) (length c.args.body.now) (gate_of first held) 1024 o m (omega arith) (omega (arith, c.requires.body)) c.write_settled.ensures.cuts)
    (leaves_elsewhere_wider (gate_of first held) 1 (gate_of first held) 1024 m e (omega arith) (omega arith) c.gate_set.ensures.cuts)
