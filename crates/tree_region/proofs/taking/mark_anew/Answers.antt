use Rattle.std.proofs.Common.{refl, ℕ, ◌≤◌, List, length, subst, sym}
use Rattle.tree_region.specs.Marking.{AreRowsMarked}
use Rattle.tree_region.specs.OwnedRows.{number_at}
use Rattle.tree_region.proofs.Taken.{cleared-within, middle-within, anew-long, anew-durable, anew-present, anew-few}
use Rattle.tree_region.proofs.taking.mark_anew.Goals as goal

pub mark_rows-requires : goal.mark_rows-requires
mark_rows-requires c =
    λ f k. subst (λ (rows : List (List ℕ)). number_at rows f k ≤ length c.clear.new.self) (sym c.deref.ensures.value)
    (cleared-within c.args.table.now.used c.clear.new.self c.clear.ensures c.args.table.now.files.items c.requires.durable f k)

pub mark_rows-requires-2 : goal.mark_rows-requires-2
mark_rows-requires-2 c =
    middle-within c.args.table.now.used c.clear.new.self c.clear.ensures c.deref.result.now c.mark_rows.new.used c.mark_rows.ensures c.args.present.now c.requires.present

pub returns : goal.returns
returns c =
    let old = c.args.table.now.used in
    let durable = c.args.table.now.files.items in
    let present = c.args.present.now in
    let cleared = c.clear.new.self in
    let middle = c.mark_rows.new.used in
    let new = c.mark_rows-2.new.used in
    let first : AreRowsMarked durable (length durable) cleared middle = subst (λ (rows : List (List ℕ)). AreRowsMarked rows (length rows) cleared middle) c.deref.ensures.value c.mark_rows.ensures in
    record {
      files = refl;
      long = anew-long old cleared c.clear.ensures durable middle first present new c.mark_rows-2.ensures;
      durable = anew-durable old cleared c.clear.ensures durable middle first present new c.mark_rows-2.ensures c.requires.durable;
      present = anew-present old cleared c.clear.ensures durable middle first present new c.mark_rows-2.ensures c.requires.present;
      few = anew-few old cleared c.clear.ensures durable middle first present new c.mark_rows-2.ensures c.requires.room;
    }
