use Rattle.std.proofs.Common.{◌≡◌, ℕ, ◌+◌, List, true, false, sym, ◌∙◌, ap, arith}
use Rattle.std.specs.Option.{option_map_or}
use Rattle.std.specs.Prelude.{◌==◌, slice_get, bytes_eq}
use Rattle.apex_model.specs.Tables.{Port, numbers_from}
use Rattle.sampling_ext.proofs.Lists.{taken_at}
use Rattle.sampling_ext.proofs.Numbers.{from_front, named_from, named-here, named-other, named-foreign}
use Rattle.sampling_ext.proofs.port.PortList.place_named.Goals as goal
use Rattle.sampling_ext.proofs.port.PortList.place_named.Goals.{then-is_of+else-eq, else-is_of}

pub loop-port-init : goal.loop-port-init
loop-port-init c = record {
  rest = from_front (λ k. option_map_or (λ port. bytes_eq port.name c.args.name.now) (slice_get c.args.self.now k) false) (numbers_from (λ (port : Port). port.partition == c.args.p.0) 0 c.args.self.now);
  few = omega arith;
}

pub returns-then-eq-clause-value : goal.returns-then-eq-clause-value
returns-then-eq-clause-value c =
    let at = taken_at c.deref-port-items.result.now c.args.self.now c.loop-port.port-index c.port-item.result (c.deref-port-items.ensures.value ∙ c.self.view_is) c.loop-port-test.true c.port-item.is in
    let name_is : c.bytes.result.now ≡ c.port-item.result.name = c.bytes.ensures.value ∙ ap (λ (q : Port). q.name) c.port.view_is in
    let same : bytes_eq c.port-item.result.name c.args.name.now ≡ true = sym (c.eq.ensures ∙ ap (λ (xs : List ℕ). bytes_eq xs c.args.name.now) name_is) ∙ c.if-eq.true in
    sym (c.loop-port.invariant.rest ∙ named-here c.args.self.now c.args.p.0 c.args.name.now c.loop-port.place c.loop-port.port-index c.port-item.result at (sym c.is_of.ensures ∙ c.if-is_of.true) same)

pub loop-port-preserved : goal.loop-port-preserved
loop-port-preserved c =
    let at = taken_at c.deref-port-items.result.now c.args.self.now c.loop-port.port-index c.port-item.result (c.deref-port-items.ensures.value ∙ c.self.view_is) c.loop-port-test.true c.port-item.is in
    let few = c.loop-port.invariant.few in
    elim c.if-is_of.branch [
      | then-is_of+else-eq w ↦
          let name_is : w.bytes.result.now ≡ c.port-item.result.name = w.bytes.ensures.value ∙ ap (λ (q : Port). q.name) c.port.view_is in
          let other : bytes_eq c.port-item.result.name c.args.name.now ≡ false = sym (w.eq.ensures ∙ ap (λ (xs : List ℕ). bytes_eq xs c.args.name.now) name_is) ∙ w.if-eq.false in
          record {
            rest =
                c.loop-port.invariant.rest
                ∙ named-other c.args.self.now c.args.p.0 c.args.name.now c.loop-port.place c.loop-port.port-index c.port-item.result at (sym c.is_of.ensures ∙ w.if-is_of.true) other
                ∙ ap (λ (n : ℕ). named_from c.args.self.now c.args.p.0 c.args.name.now n (c.loop-port.port-index + 1)) (sym w.place-is);
            few = let is = w.place-is in omega arith;
          }
      | else-is_of w ↦ record {
        rest =
            c.loop-port.invariant.rest
            ∙ named-foreign c.args.self.now c.args.p.0 c.args.name.now c.loop-port.place c.loop-port.port-index c.port-item.result at (sym c.is_of.ensures ∙ w.if-is_of.false)
            ∙ ap (λ (n : ℕ). named_from c.args.self.now c.args.p.0 c.args.name.now n (c.loop-port.port-index + 1)) (sym w.place-is);
        few = let is = w.place-is in omega arith;
      }
    ]
