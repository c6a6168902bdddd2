use Rattle.std.proofs.Common.{◌≡◌, ◌-◌, ◌≤◌, Some, length, sym, ap, ◌∙◌, arith}
use Rattle.std.specs.Prelude.{slice_get}
use Rattle.apex_model.specs.Trees.{standing_at}
use Rattle.file_tree.proofs.Children.{free-path}
use Rattle.store_tests.proofs.flights.free_at.Goals as goal

pub returns-clause-free : goal.returns-clause-free
returns-clause-free c =
    let v = c.args.tree.now in
    let spot = rw (c.in-Ok-Free.field-0-is) at c.in-Ok-Free.ensures.spot in
    let some : 1 ≤ length c.in-Ok.path.names = omega (arith, c.len-count.ensures.value) in
    let last : slice_get c.in-Ok.path.names (length c.in-Ok.path.names - 1) ≡ Some c.copy.result
    = ap (λ n. slice_get c.in-Ok.path.names (n - 1)) (sym c.len-count.ensures.value) ∙ c.at.ensures ∙ ap Some (sym c.copy.ensures) in
    ap (standing_at v.nodes) (free-path v c.in-Ok.path.names c.in-Ok-Free.parent.0 c.copy.result spot.0 last some) ∙ spot.1
