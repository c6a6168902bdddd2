use Rattle.std.proofs.Common.{◌≡◌, ◌<◌, ◌∙◌, sym, ap, subst, ℕ, List, length, slice_set}
use Rattle.tree_region.proofs.RowRooms.{put-reached, row-long}
use Rattle.tree_region.proofs.numbers.BlockNumbers.put.Goals as goal

pub returns : goal.returns
returns c =
    let x = c.self.inside in
    let few = c.self.invariant.0 in
    let long : length c.args.self.now ≡ x.room = ap length (sym c.self.view_is) ∙ row-long x.room x.content.items few in
    put-reached x.room c.args.k c.args.number x.content.items few (subst (λ n. c.args.k < n) long c.requires) c.reach.new.content.items c.reach.ensures.numbers
    ∙ ap (λ (xs : List ℕ). slice_set xs c.args.k c.args.number) c.self.view_is
