use Rattle.std.proofs.Common.{◌≡◌, ◌+◌, ◌-◌, ◌<◌, ◌≤◌, Some, List, length, ap, subst, ◌∙◌, arith}
use Rattle.std.specs.Option.{option_or}
use Rattle.apex_model.specs.Trees.{Name, obstacle}
use Rattle.file_tree.specs.Entries.{IsSpotAt}
use Rattle.file_tree.proofs.Children.{walk_from, walk-met, next-path, whole-path}
use Rattle.file_tree.proofs.tree.Tree.walk.Goals as goal

pub returns-in-Nothing-clause-obstacle : goal.returns-in-Nothing-clause-obstacle
returns-in-Nothing-clause-obstacle c =
    let more : c.loop-k.k < length c.args.path.now.names - 1 = omega (arith, c.len-count.ensures.value) in
    walk-met c.args.self.now c.args.path.now.names c.loop-k.parent.0 c.loop-k.k c.at.result.now c.loop-k.invariant.0 c.at.ensures c.loop-k.invariant.1 more
    ∙ ap (λ o. option_or (obstacle o) (walk_from c.args.self.now.nodes c.args.path.now.names (c.loop-k.k + 1))) c.in-Nothing.ensures

pub returns-in-File-clause-obstacle : goal.returns-in-File-clause-obstacle
returns-in-File-clause-obstacle c =
    let more : c.loop-k.k < length c.args.path.now.names - 1 = omega (arith, c.len-count.ensures.value) in
    walk-met c.args.self.now c.args.path.now.names c.loop-k.parent.0 c.loop-k.k c.at.result.now c.loop-k.invariant.0 c.at.ensures c.loop-k.invariant.1 more
    ∙ ap (λ o. option_or (obstacle o) (walk_from c.args.self.now.nodes c.args.path.now.names (c.loop-k.k + 1))) c.in-File.ensures.1

pub loop-k-preserved : goal.loop-k-preserved
loop-k-preserved c =
    let more : c.loop-k.k < length c.args.path.now.names - 1 = omega (arith, c.len-count.ensures.value) in (
      c.in-Directory.ensures.0 ∙ ap Some (next-path c.args.self.now c.args.path.now.names c.loop-k.parent.0 c.loop-k.k c.at.result.now c.loop-k.invariant.0 c.at.ensures),
      walk-met c.args.self.now c.args.path.now.names c.loop-k.parent.0 c.loop-k.k c.at.result.now c.loop-k.invariant.0 c.at.ensures c.loop-k.invariant.1 more
          ∙ ap (λ o. option_or (obstacle o) (walk_from c.args.self.now.nodes c.args.path.now.names (c.loop-k.k + 1))) c.in-Directory.ensures.1,
      omega arith,
    )

pub returns-clause-spot : goal.returns-clause-spot
returns-clause-spot c =
    let some : 1 ≤ length c.args.path.now.names = omega (arith, c.len-count.ensures.value) in
    let same : c.loop-k.k ≡ c.len-count.result - 1 = omega (arith, c.len-count.ensures.value, c.loop-k.invariant.2) in
    let all : (c.len-count.result - 1) + 1 ≡ length c.args.path.now.names = omega (arith, c.len-count.ensures.value) in
    subst (λ (names : List Name). IsSpotAt c.args.self.now names c.spot.result)
    (whole-path c.args.self.now c.args.path.now.names c.loop-k.parent.0 c.loop-k.k (c.len-count.result - 1) c.at-2.result.now c.loop-k.invariant.0 c.at-2.ensures same all) c.spot.ensures
