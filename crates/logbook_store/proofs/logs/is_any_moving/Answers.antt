use Rattle.std.proofs.Common.{rules, ◌∙◌}
use Rattle.std.proofs.lemmas.Iterator.Search.{any_from_yields_List}
use Rattle.std.proofs.lemmas.Iterator.{YieldsList-from_slice}
use Rattle.logbook_store.proofs.Joined.{moves, any_by_count}
use Rattle.logbook_store.proofs.logs.is_any_moving.Goals as goal

pub returns : goal.returns
returns c =
    any_from_yields_List moves _ _ _ c.any.ensures.ran (YieldsList-from_slice c.args.books.now (cc)) (λ x b q k. search (rules, k))
    ∙ any_by_count c.args.books.now
