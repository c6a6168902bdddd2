use Rattle.std.proofs.Common.{◌≡◌, inl, inr, ap, ◌∙◌, arith}
use Rattle.std.proofs.lemmas.Bool.{cases_lt}
use Rattle.tree_state.specs.Writes.{held_count}
use Rattle.tree_state.proofs.Fronts.{all-free}
use Rattle.tree_state.proofs.FlushSteps.{paid-then, writes-then}
use Rattle.tree_state.proofs.flushing.write_back.Goals as goal

pub returns-in_err-missing-clause-outside : goal.returns-in_err-missing-clause-outside
returns-in_err-missing-clause-outside g c =
    let before = c.loop-f.invariant in
    let m = c.loop-f.rig in
    (writes-then g.R.Rig.tells_view g.R.Rig.keeps_cuts c.args.row.now c.args.at (g.R.Rig.state c.args.rig.now) (g.R.Rig.state m) (g.R.Rig.state c.write_some.new.rig) c.args.state.now c.loop-f.state c.write_some.new.state (g.met.R.Rig.sound m)
    before.writes before.paid c.write_some.ensures.writes).outside

pub returns-in_err-missing-clause-outside_view : goal.returns-in_err-missing-clause-outside_view
returns-in_err-missing-clause-outside_view g c =
    let before = c.loop-f.invariant in
    let m = c.loop-f.rig in
    (writes-then g.R.Rig.tells_view g.R.Rig.keeps_cuts c.args.row.now c.args.at (g.R.Rig.state c.args.rig.now) (g.R.Rig.state m) (g.R.Rig.state c.write_some.new.rig) c.args.state.now c.loop-f.state c.write_some.new.state (g.met.R.Rig.sound m)
    before.writes before.paid c.write_some.ensures.writes).outside_view

pub loop-f-preserved : goal.loop-f-preserved
loop-f-preserved g c =
    let before = c.loop-f.invariant in
    let done = c.in_ok-missing.ensures in
    let m = c.loop-f.rig in
    let n = c.in_ok-missing.field-0 in
    record {
      writes = writes-then g.R.Rig.tells_view g.R.Rig.keeps_cuts c.args.row.now c.args.at (g.R.Rig.state c.args.rig.now) (g.R.Rig.state m) (g.R.Rig.state c.write_some.new.rig) c.args.state.now c.loop-f.state c.write_some.new.state
          (g.met.R.Rig.sound m) before.writes before.paid c.write_some.ensures.writes;
      paid = paid-then g.R.Rig.tells_view g.R.Rig.keeps_cuts c.args.row.now c.args.at (g.R.Rig.state c.args.rig.now) (g.R.Rig.state m) (g.R.Rig.state c.write_some.new.rig) c.args.state.now c.loop-f.state c.write_some.new.state
          (g.met.R.Rig.sound m) before.writes before.paid c.write_some.ensures.writes done.paid;
      enough = omega (arith, before.enough, done.count, done.within);
      none = λ some h below.
          elim (cases_lt h c.loop-f.f) [
            | inl earlier ↦
                let was = before.none (omega (arith, some)) h earlier in
                let fewer = c.write_some.ensures.writes.fewer h in
                omega (arith, was, fewer)
            | inr late ↦
                let same : h ≡ c.loop-f.f = omega (arith, below, late) in
                ap (held_count c.write_some.new.state) same ∙ done.rest (omega (arith, some))
          ];
    }

pub returns-clause-free : goal.returns-clause-free
returns-clause-free g c =
    let before = c.loop-f.invariant in
    let is = before.writes.state in
    elim (cases_lt 0 c.loop-f.missing) [
      | inl some ↦
          let all = all-free c.loop-f.state.present.pool.lists (λ h low. before.none some h (let lists = is.present.lists in omega (arith, low, lists, c.loop-f-test.false))) in
          omega (arith, all, is.buffers, c.requires.wanted)
      | inr none ↦ omega (arith, none, before.enough)
    ]
