use Rattle.std.proofs.Common.{◌≡◌, ◌+◌, ◌-◌, ◌<◌, ℕ, List, Option, None, Some, option_map, sym, ◌∙◌, ap, arith}
use Rattle.std.specs.List.{range_with_len}
use Rattle.apex_model.specs.Image.{all_answers, greatest, message_in_place}
use Rattle.logbook_store.specs.Regions.{PlaceEntry, region_at}
use Rattle.logbook_store.proofs.Numbers.{greatest_more, greatest_none}
use Rattle.logbook_store.proofs.ReadRuns.{reads_then}
use Rattle.logbook_store.proofs.places.greatest_number.Goals as goal

pub returns-in_default-clause-greatest : goal.returns-in_default-clause-greatest
returns-in_default-clause-greatest g c tells =
    let row = c.args.row.now in
    let view = (g.R.Rig.state c.args.rig.now).view in
    let f : ℕ → Option PlaceEntry = message_in_place row (region_at row c.args.start view) in
    let low : 0 < row.logged + 1 - c.loop-place.place = omega (arith, c.loop-place-test.true, c.count_of-place-end.ensures) in
    let here : f c.loop-place.place ≡ None =
    sym (c.in_ok-found.ensures.place tells ∙ ap (λ (v : List ℕ). message_in_place row (region_at row c.args.start v) c.loop-place.place) (c.loop-place.invariant.reads.view tells)) ∙ c.in_default.is in
    sym (c.loop-place.invariant.rest tells ∙ greatest_none f c.loop-place.number c.loop-place.place (row.logged + 1 - c.loop-place.place) here low)

pub loop-place-preserved : goal.loop-place-preserved
loop-place-preserved g c =
    let row = c.args.row.now in
    let view = (g.R.Rig.state c.args.rig.now).view in
    let f : ℕ → Option PlaceEntry = message_in_place row (region_at row c.args.start view) in
    let place = c.loop-place.place in
    let low : 0 < row.logged + 1 - place = omega (arith, c.loop-place-test.true, c.count_of-place-end.ensures) in
    record {
      reads = reads_then g.R.Rig.tells_view (g.R.Rig.state c.args.rig.now) (g.R.Rig.state c.loop-place.rig) (g.R.Rig.state c.read_place.new.rig) c.loop-place.invariant.reads c.read_place.ensures.reads;
      rest = λ tells.
          let here : f place ≡ Some c.in-Some.found =
          sym (c.in_ok-found.ensures.place tells ∙ ap (λ (v : List ℕ). message_in_place row (region_at row c.args.start v) place) (c.loop-place.invariant.reads.view tells)) ∙ c.in-Some.is in
          c.loop-place.invariant.rest tells ∙ greatest_more f c.loop-place.number place (row.logged + 1 - place) c.in-Some.found here low
          ∙ ap (λ (n : ℕ). option_map (greatest n) (all_answers f (range_with_len (place + 1) (row.logged + 1 - place - 1)))) (sym c.greater-number.ensures)
          ∙ ap (λ (n : ℕ). option_map (greatest c.greater-number.result) (all_answers f (range_with_len (place + 1) n))) (omega arith);
    }
