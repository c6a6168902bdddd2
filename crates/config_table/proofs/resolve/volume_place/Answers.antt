use Rattle.std.proofs.Common.{rules, bytes_eq}
use Rattle.std.proofs.lemmas.Iterator.{YieldsList-from_slice}
use Rattle.std.proofs.lemmas.Iterator.Search.{position_from_yields_List}
use Rattle.config_table.proofs.resolve.volume_place.Goals as goal

pub returns-clause-value : goal.returns-clause-value
returns-clause-value c =
    position_from_yields_List (λ row. bytes_eq row.name c.args.name.now) _ _ _ c.position.ensures.ran (YieldsList-from_slice c.args.volumes.now (cc)) (λ x b q k. search (rules, k))
