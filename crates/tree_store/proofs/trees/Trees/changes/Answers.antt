use Rattle.std.proofs.Common.{◌≡◌}
use Rattle.tree_store.specs.Stored.{changes_at}
use Rattle.tree_store.specs.declared.store.TreeStore.{TreeStore}
use Rattle.tree_store.proofs.Lent.{same-tree}
use Rattle.tree_store.proofs.trees.Trees.changes.Goals as goal

pub returns : goal.returns
returns c =
    same-tree c.args.self.now c.args.tree c.get.result.now c.get.ensures (λ (store : TreeStore). c.changes.result ≡ changes_at store c.args.file.0) c.changes.ensures
