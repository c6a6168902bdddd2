use Rattle.std.proofs.Common.{◌≡◌}
use Rattle.store_model.specs.Stores.{total}
use Rattle.tree_store.specs.Stored.{charges_of}
use Rattle.tree_store.specs.declared.store.TreeStore.{TreeStore}
use Rattle.tree_store.proofs.Lent.{same-tree}
use Rattle.tree_store.proofs.trees.Trees.charge.Goals as goal

pub returns : goal.returns
returns c =
    same-tree c.args.self.now c.args.tree c.get.result.now c.get.ensures (λ (store : TreeStore). c.charge.result ≡ total (charges_of store)) c.charge.ensures
