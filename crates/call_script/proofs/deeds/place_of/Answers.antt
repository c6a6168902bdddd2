use Rattle.std.proofs.Common.{rules, bytes_eq}
use Rattle.std.proofs.lemmas.Iterator.{YieldsList-from_slice}
use Rattle.std.proofs.lemmas.Iterator.Search.{position_from_yields_List}
use Rattle.call_script.proofs.deeds.place_of.Goals as goal

pub returns-clause-value : goal.returns-clause-value
returns-clause-value c =
    position_from_yields_List (λ row. bytes_eq row.name c.args.word.now) _ _ _ c.position.ensures.ran (YieldsList-from_slice c.args.table.now.partitions (cc)) (λ x b q k. search (rules, k))
