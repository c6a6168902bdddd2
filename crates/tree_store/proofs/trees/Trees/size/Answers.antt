use Rattle.std.proofs.Common.{◌≡◌}
use Rattle.tree_store.specs.Stored.{size_at}
use Rattle.tree_store.specs.declared.store.TreeStore.{TreeStore}
use Rattle.tree_store.proofs.Lent.{same-tree}
use Rattle.tree_store.proofs.trees.Trees.size.Goals as goal

pub returns : goal.returns
returns c =
    same-tree c.args.self.now c.args.tree c.get.result.now c.get.ensures (λ (store : TreeStore). c.size.result ≡ size_at store c.args.file.0) c.size.ensures
