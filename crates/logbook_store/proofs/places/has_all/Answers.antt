use Rattle.std.proofs.Common.{◌≡◌, ◌+◌, ◌-◌, ◌%◌, ℕ, List, Option, true, false, sym, ◌∙◌, ap, arith}
use Rattle.std.specs.Prelude.{is_some}
use Rattle.std.specs.List.{range_with_len}
use Rattle.apex_model.specs.Image.{all_answers, message_in_place, message_numbered}
use Rattle.logbook_store.specs.Regions.{region_at, is_numbered}
use Rattle.logbook_store.proofs.Answers.{all_but_first, not_all}
use Rattle.logbook_store.proofs.Found.{has_number}
use Rattle.logbook_store.proofs.ReadRuns.{reads_then}
use Rattle.logbook_store.proofs.places.has_all.Goals as goal

pub returns-then-not-has_number-clause-all : goal.returns-then-not-has_number-clause-all
returns-then-not-has_number-clause-all g c places tells are =
    let row = c.args.row.now in
    let view = (g.R.Rig.state c.args.rig.now).view in
    let region = region_at row c.args.start view in
    let f : ℕ → Option (List ℕ) = λ n. message_numbered n places in
    let number = c.args.below + 1 + c.loop-k.k in
    let there : c.in_ok-found.found ≡ message_in_place row region (number % (row.logged + 1)) =
    c.in_ok-found.ensures.place tells ∙ ap (λ (v : List ℕ). message_in_place row (region_at row c.args.start v) (number % c.count_of.result)) (c.loop-k.invariant.reads.view tells)
    ∙ ap (λ (n : ℕ). message_in_place row region (number % n)) c.count_of.ensures in
    let none : is_some (f number) ≡ false = has_number row region places number are ∙ sym (ap (is_numbered number) there) ∙ sym c.has_number.ensures ∙ c.if-not-has_number.true in
    sym (c.loop-k.invariant.rest places tells are ∙ not_all f number (c.args.count - c.loop-k.k) none (omega (arith, c.loop-k-test.true)))

pub loop-k-preserved : goal.loop-k-preserved
loop-k-preserved g c =
    let row = c.args.row.now in
    let view = (g.R.Rig.state c.args.rig.now).view in
    let region = region_at row c.args.start view in
    let k = c.loop-k.k in
    let number = c.args.below + 1 + k in
    record {
      reads = reads_then g.R.Rig.tells_view (g.R.Rig.state c.args.rig.now) (g.R.Rig.state c.loop-k.rig) (g.R.Rig.state c.read_place.new.rig) c.loop-k.invariant.reads c.read_place.ensures.reads;
      rest = λ places tells are.
          let f : ℕ → Option (List ℕ) = λ n. message_numbered n places in
          let there : c.in_ok-found.found ≡ message_in_place row region (number % (row.logged + 1)) =
          c.in_ok-found.ensures.place tells ∙ ap (λ (v : List ℕ). message_in_place row (region_at row c.args.start v) (number % c.count_of.result)) (c.loop-k.invariant.reads.view tells)
          ∙ ap (λ (n : ℕ). message_in_place row region (number % n)) c.count_of.ensures in
          let some : is_some (f number) ≡ true = has_number row region places number are ∙ sym (ap (is_numbered number) there) ∙ sym c.has_number.ensures ∙ c.if-not-has_number.false in
          c.loop-k.invariant.rest places tells are ∙ all_but_first f number (c.args.count - k) some (omega (arith, c.loop-k-test.true))
          ∙ ap (λ (n : ℕ). is_some (all_answers f (range_with_len n (c.args.count - k - 1)))) (omega arith)
          ∙ ap (λ (n : ℕ). is_some (all_answers f (range_with_len (c.args.below + 1 + (k + 1)) n))) (omega arith);
    }
