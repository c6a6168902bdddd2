use Rattle.std.proofs.Common.{rules}
use Rattle.std.specs.Prelude.{◌==◌}
use Rattle.std.proofs.lemmas.Iterator.{YieldsList-from_slice}
use Rattle.std.proofs.lemmas.Iterator.Search.{find_from_yields_List}
use Rattle.stress_script.proofs.Found.{tree-known}
use Rattle.stress_script.proofs.own.first_tree.Goals as goal

pub returns-clause-found : goal.returns-clause-found
returns-clause-found c =
    find_from_yields_List {v = λ x. x.now} (λ row. row.owner.0 == c.args.p.0) _ _ _ c.find.ensures.ran (YieldsList-from_slice c.args.table.now.trees (cc)) (λ x b q k. search (rules, k))

pub returns-clause-known : goal.returns-clause-known
returns-clause-known c = tree-known c.args.table.now c.args.p.0 c.find.result c.requires (returns-clause-found c)
