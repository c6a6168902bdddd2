use Rattle.std.proofs.Common.{◌≡◌, ◌+◌, ap, ◌∙◌, List, ℕ, sum_by, arith}
use Rattle.apex_model.specs.Layout.{tree_blocks, logbook_blocks}
use Rattle.image_format.specs.Places.{Places, starts_from}
use Rattle.image_format.proofs.Starts.{start-found, start-missed}
use Rattle.image_format.proofs.places.Layout.logbook_start.Goals as goal

pub returns-in-Some : goal.returns-in-Some
returns-in-Some c = λ table made.
    let logbooks : Places → List ℕ = λ p. p.logbooks in
    let shown : c.self.inside.logbook_places.items ≡ starts_from logbook_blocks (33 + sum_by tree_blocks table.trees) table.logbooks = ap logbooks c.self.view_is ∙ ap logbooks made in
    let place = start-found logbook_blocks (33 + sum_by tree_blocks table.trees) table.logbooks c.args.logbook c.in-Some.place c.self.inside.logbook_places.items c.as_slice.result.now c.as_slice.ensures.value shown c.in-Some.ensures in
    omega arith

pub returns-in-None : goal.returns-in-None
returns-in-None c = λ table made.
    let logbooks : Places → List ℕ = λ p. p.logbooks in
    let behind : Places → ℕ = λ p. p.blocks in
    let shown : c.self.inside.logbook_places.items ≡ starts_from logbook_blocks (33 + sum_by tree_blocks table.trees) table.logbooks = ap logbooks c.self.view_is ∙ ap logbooks made in
    let all = start-missed logbook_blocks (33 + sum_by tree_blocks table.trees) table.logbooks c.args.logbook c.self.inside.logbook_places.items c.as_slice.result.now c.as_slice.ensures.value shown c.in-None.ensures in
    let last = ap behind c.self.view_is ∙ ap behind made in
    omega arith
