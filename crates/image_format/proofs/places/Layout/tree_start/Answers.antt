use Rattle.std.proofs.Common.{◌≡◌, ap, ◌∙◌, List, ℕ, arith}
use Rattle.apex_model.specs.Layout.{tree_blocks}
use Rattle.image_format.specs.Places.{Places, starts_from}
use Rattle.image_format.proofs.Starts.{start-found, start-missed}
use Rattle.image_format.proofs.places.Layout.tree_start.Goals as goal

pub returns-in-Some : goal.returns-in-Some
returns-in-Some c = λ table made.
    let trees : Places → List ℕ = λ p. p.trees in
    let shown : c.self.inside.tree_places.items ≡ starts_from tree_blocks 33 table.trees = ap trees c.self.view_is ∙ ap trees made in
    let place = start-found tree_blocks 33 table.trees c.args.tree c.in-Some.place c.self.inside.tree_places.items c.as_slice.result.now c.as_slice.ensures.value shown c.in-Some.ensures in
    omega arith

pub returns-in-None : goal.returns-in-None
returns-in-None c = λ table made.
    let trees : Places → List ℕ = λ p. p.trees in
    let behind : Places → ℕ = λ p. p.trees_end in
    let shown : c.self.inside.tree_places.items ≡ starts_from tree_blocks 33 table.trees = ap trees c.self.view_is ∙ ap trees made in
    let all = start-missed tree_blocks 33 table.trees c.args.tree c.self.inside.tree_places.items c.as_slice.result.now c.as_slice.ensures.value shown c.in-None.ensures in
    let last = ap behind c.self.view_is ∙ ap behind made in
    omega arith
