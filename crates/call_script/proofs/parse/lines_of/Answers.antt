use Rattle.std.proofs.Common.{◌≡◌, map, ◌++◌, option_to_list, rules, arith}
use Rattle.std.proofs.lemmas.Result.{err_from_is_err_and}
use Rattle.script_model.specs.Script.{without_last}
use Rattle.call_script.proofs.Numbers.{above_last, at_most, last_number-more}
use Rattle.call_script.proofs.Loop.{goes_on, stops, is_done, text_at, length_texts}
use Rattle.call_script.proofs.parse.lines_of.Goals as goal

pub returns-in_err-line : goal.returns-in_err-line
returns-in_err-line c =
    let p = err_from_is_err_and c.from_residual.result c.from_residual.ensures.1 in
    let parts = c.args.parts.now in
    let here = text_at parts c.loop-place.place _ c.without_last-text.result.now c.loop-place-test.true c.without_last-text.ensures in
    let len = length_texts parts in
    rw (p.1, p.2) (stops c.args.table.now c.in_err-line.field-0.0 c.loop-place.script c.loop-place.place (map (without_last 13) (map (λ w. w.now) parts)) c.without_last-text.result.now _ (omega (arith, len, c.loop-place-test.true)) here c.in_err-line.ensures.value c.loop-place.invariant.read)

pub loop-place-preserved : goal.loop-place-preserved
loop-place-preserved c =
    let parts = c.args.parts.now in
    let here = text_at parts c.loop-place.place _ c.without_last-text.result.now c.loop-place-test.true c.without_last-text.ensures in
    let len = length_texts parts in
    let added : c.add.new.script ≡ c.loop-place.script ++ option_to_list c.in_ok-line.line = search (rules, c.add.ensures, c.if-is_err.ensures.value) in
    record {
      read = rw added (goes_on c.args.table.now c.loop-place.script c.loop-place.place (map (without_last 13) (map (λ w. w.now) parts)) c.without_last-text.result.now c.in_ok-line.line _ (omega (arith, len, c.loop-place-test.true)) here c.in_ok-line.ensures.value c.loop-place.invariant.read);
      last = rw added (last_number-more c.loop-place.script c.in_ok-line.line c.loop-place.place c.loop-place.invariant.last c.in_ok-line.ensures.numbered);
    }

pub add-requires-clause-above : goal.add-requires-clause-above
add-requires-clause-above c = above_last c.in_ok-line.line _ c.loop-place.place c.loop-place.invariant.last c.in_ok-line.ensures.numbered

pub add-requires-clause-few : goal.add-requires-clause-few
add-requires-clause-few c = at_most c.in_ok-line.line c.loop-place.place (omega (arith, c.requires.few, c.loop-place-test.true)) c.in_ok-line.ensures.numbered

pub returns : goal.returns
returns c =
    let parts = c.args.parts.now in
    let len = length_texts parts in
    is_done c.args.table.now c.loop-place.script c.loop-place.place (map (without_last 13) (map (λ w. w.now) parts)) _ (omega (arith, len, c.loop-place-test.false)) c.loop-place.invariant.read
