use Rattle.std.proofs.Common.{◌≡◌, ℕ, ◌+◌, List, true, false, refl, sym, ◌∙◌, ap, arith}
use Rattle.std.specs.Option.{option_map_or}
use Rattle.std.specs.Prelude.{◌==◌, slice_get, bytes_eq}
use Rattle.apex_types.specs.declared.rows.LogbookRow.{LogbookRow}
use Rattle.apex_model.specs.Tables.{numbers_from}
use Rattle.logbook_services.proofs.Lists.{taken_at}
use Rattle.logbook_services.proofs.Numbers.{from_front, named_from, named-here, named-other, named-foreign}
use Rattle.logbook_services.proofs.finding.place_named.Goals as goal
use Rattle.logbook_services.proofs.finding.place_named.Goals.{then-is_of+else-eq, else-is_of}

pub loop-row-init : goal.loop-row-init
loop-row-init c = record {
  rest = from_front (λ k. option_map_or (λ row. bytes_eq row.name c.args.name.now) (slice_get c.args.rows.now k) false) (numbers_from (λ (row : LogbookRow). row.partition.0 == c.args.p.0) 0 c.args.rows.now);
  few = omega arith;
}

pub returns-then-eq-clause-value : goal.returns-then-eq-clause-value
returns-then-eq-clause-value c =
    let at = taken_at c.args.rows.now c.args.rows.now c.loop-row.row-index c.row-item.result refl c.loop-row-test.true c.row-item.is in
    let same : bytes_eq c.row-item.result.name c.args.name.now ≡ true = sym (c.eq.ensures ∙ ap (λ (xs : List ℕ). bytes_eq xs c.args.name.now) c.bytes.ensures.value) ∙ c.if-eq.true in
    sym (c.loop-row.invariant.rest ∙ named-here c.args.rows.now c.args.p.0 c.args.name.now c.loop-row.place c.loop-row.row-index c.row-item.result at (sym c.is_of.ensures ∙ c.if-is_of.true) same)

pub loop-row-preserved : goal.loop-row-preserved
loop-row-preserved c =
    let at = taken_at c.args.rows.now c.args.rows.now c.loop-row.row-index c.row-item.result refl c.loop-row-test.true c.row-item.is in
    let few = c.loop-row.invariant.few in
    elim c.if-is_of.branch [
      | then-is_of+else-eq w ↦
          let other : bytes_eq c.row-item.result.name c.args.name.now ≡ false = sym (w.eq.ensures ∙ ap (λ (xs : List ℕ). bytes_eq xs c.args.name.now) w.bytes.ensures.value) ∙ w.if-eq.false in
          record {
            rest =
                c.loop-row.invariant.rest
                ∙ named-other c.args.rows.now c.args.p.0 c.args.name.now c.loop-row.place c.loop-row.row-index c.row-item.result at (sym c.is_of.ensures ∙ w.if-is_of.true) other
                ∙ ap (λ (n : ℕ). named_from c.args.rows.now c.args.p.0 c.args.name.now n (c.loop-row.row-index + 1)) (sym w.place-is);
            few = let is = w.place-is in omega arith;
          }
      | else-is_of w ↦ record {
        rest =
            c.loop-row.invariant.rest
            ∙ named-foreign c.args.rows.now c.args.p.0 c.args.name.now c.loop-row.place c.loop-row.row-index c.row-item.result at (sym c.is_of.ensures ∙ w.if-is_of.false)
            ∙ ap (λ (n : ℕ). named_from c.args.rows.now c.args.p.0 c.args.name.now n (c.loop-row.row-index + 1)) (sym w.place-is);
        few = let is = w.place-is in omega arith;
      }
    ]
