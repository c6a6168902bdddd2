use Rattle.std.proofs.Common.{rules, ◌≡◌, ◌+◌, ◌<◌, ◌≤◌, cond, Some, None, IsTrue, true, length, slice_get, sym, ap, subst, ◌∙◌, arith}
use Rattle.apex_model.specs.Fields.{record_of}
use Rattle.meta_journal.specs.Journal.{first_of, held_of, HasRead}
use Rattle.meta_journal.specs.Leading.{records}
use Rattle.tree_region.proofs.Lengths.{made-long}
use Rattle.tree_region.proofs.Stored.{made-stored, stored-then}
use Rattle.tree_region.proofs.Records.{so_far-end, so_far-next, unspelled, unapplied, none-past}
use Rattle.tree_region.proofs.applying.replay.Goals as goal

pub returns-then-not-branch-clause-replayed : goal.returns-then-not-branch-clause-replayed
returns-then-not-branch-clause-replayed g c tells =
    let first = first_of c.args.journal.now in
    let view = (g.R.Rig.state c.args.rig.now).view in
    let same = c.loop.invariant.reads.view tells in
    let none : slice_get (records first view) c.loop.counter ≡ None
    = (λ i. slice_get (records (sym c.loop.invariant.first i) (sym same i)) (sym c.loop.invariant.held i))
    ∙ c.in_ok-next.ensures.record tells (subst (HasRead c.loop.journal) (sym same) (c.loop.invariant.read tells))
    ∙ ap (λ b. cond b (Some c.next.new.into) None) c.if-not-branch.true in
    so_far-end c.args.version c.args.tree.now (records first view) c.loop.counter c.loop.tree (c.loop.invariant.so_far tells) none

pub returns-then-not-branch-clause-held : goal.returns-then-not-branch-clause-held
returns-then-not-branch-clause-held g c tells =
    let first = first_of c.args.journal.now in
    let view = (g.R.Rig.state c.args.rig.now).view in
    let same = c.loop.invariant.reads.view tells in
    let none : slice_get (records first view) c.loop.counter ≡ None
    = (λ i. slice_get (records (sym c.loop.invariant.first i) (sym same i)) (sym c.loop.invariant.held i))
    ∙ c.in_ok-next.ensures.record tells (subst (HasRead c.loop.journal) (sym same) (c.loop.invariant.read tells))
    ∙ ap (λ b. cond b (Some c.next.new.into) None) c.if-not-branch.true in
    let most : length (records first view) ≤ c.loop.counter = none-past (records first view) c.loop.counter none in
    let least : held_of c.loop.journal ≤ length (records first view)
    = subst (λ n. held_of c.loop.journal ≤ length (records n view)) c.loop.invariant.first (c.loop.invariant.read tells) in
    let held : held_of c.next.new.self ≡ held_of c.loop.journal = c.in_ok-next.ensures.held ∙ ap (λ b. held_of c.loop.journal + cond b 1 0) c.if-not-branch.true ∙ omega arith in
    omega (arith, most, least, held, c.loop.invariant.held)

pub returns-in_default-clause-replayed : goal.returns-in_default-clause-replayed
returns-in_default-clause-replayed g c tells =
    let first = first_of c.args.journal.now in
    let view = (g.R.Rig.state c.args.rig.now).view in
    let same = c.loop.invariant.reads.view tells in
    let here : slice_get (records first view) c.loop.counter ≡ Some c.next.new.into
    = (λ i. slice_get (records (sym c.loop.invariant.first i) (sym same i)) (sym c.loop.invariant.held i))
    ∙ c.in_ok-next.ensures.record tells (subst (HasRead c.loop.journal) (sym same) (c.loop.invariant.read tells))
    ∙ ap (λ b. cond b (Some c.next.new.into) None) c.if-not-branch.false in
    unspelled c.args.version c.args.tree.now (records first view) c.loop.counter c.loop.tree (c.loop.invariant.so_far tells) c.next.new.into here (sym c.in_default.ensures)

pub returns-then-not-apply-clause-replayed : goal.returns-then-not-apply-clause-replayed
returns-then-not-apply-clause-replayed g c tells =
    let first = first_of c.args.journal.now in
    let view = (g.R.Rig.state c.args.rig.now).view in
    let same = c.loop.invariant.reads.view tells in
    let here : slice_get (records first view) c.loop.counter ≡ Some c.next.new.into
    = (λ i. slice_get (records (sym c.loop.invariant.first i) (sym same i)) (sym c.loop.invariant.held i))
    ∙ c.in_ok-next.ensures.record tells (subst (HasRead c.loop.journal) (sym same) (c.loop.invariant.read tells))
    ∙ ap (λ b. cond b (Some c.next.new.into) None) c.if-not-branch.false in
    let spelled : record_of c.args.version c.next.new.into ≡ Some c.in-Some.change = sym c.record_at.ensures ∙ c.in-Some.is in
    unapplied c.args.version c.args.tree.now (records first view) c.loop.counter c.loop.tree (c.loop.invariant.so_far tells) c.next.new.into here c.in-Some.change spelled c.if-not-apply.ensures.0

pub loop-preserved : goal.loop-preserved
loop-preserved g c =
    let first = first_of c.args.journal.now in
    let view = (g.R.Rig.state c.args.rig.now).view in
    let longs = made-long c.loop.tree c.apply.new.self c.in-Some.change true c.if-not-apply.ensures in
    let more : IsTrue c.in_ok-next.field-0 = c.if-not-branch.false in
    record {
      first = c.next.ensures.first ∙ c.loop.invariant.first;
      held = c.in_ok-next.ensures.held ∙ ap (λ b. held_of c.loop.journal + cond b 1 0) c.if-not-branch.false ∙ ap (λ n. n + 1) c.loop.invariant.held;
      reads = search rules;
      long = record { files = longs.files ∙ c.loop.invariant.long.files; directories = longs.directories ∙ c.loop.invariant.long.directories };
      stored = stored-then c.args.tree.now c.loop.tree c.apply.new.self c.loop.invariant.stored (made-stored c.loop.tree c.apply.new.self c.in-Some.change true c.if-not-apply.ensures);
      few = λ tells. let less : held_of c.loop.journal < 32 = ((c.in_ok-next.ensures.more tells).0 more).0 in omega (arith, less, c.loop.invariant.held);
      read = λ tells. let same = c.loop.invariant.reads.view tells in
          subst (HasRead c.next.new.self) same (c.in_ok-next.ensures.read tells (subst (HasRead c.loop.journal) (sym same) (c.loop.invariant.read tells)));
      so_far = λ tells.
          let same = c.loop.invariant.reads.view tells in
          let here : slice_get (records first view) c.loop.counter ≡ Some c.next.new.into
          = (λ i. slice_get (records (sym c.loop.invariant.first i) (sym same i)) (sym c.loop.invariant.held i))
          ∙ c.in_ok-next.ensures.record tells (subst (HasRead c.loop.journal) (sym same) (c.loop.invariant.read tells))
          ∙ ap (λ b. cond b (Some c.next.new.into) None) c.if-not-branch.false in
          let spelled : record_of c.args.version c.next.new.into ≡ Some c.in-Some.change = sym c.record_at.ensures ∙ c.in-Some.is in
          so_far-next c.args.version c.args.tree.now (records first view) c.loop.counter c.loop.tree (c.loop.invariant.so_far tells) c.next.new.into here c.in-Some.change spelled c.apply.new.self c.if-not-apply.ensures;
    }
