use Rattle.std.proofs.Common.{◌≡◌, ◌-◌, ◌≤◌, take, length, Some}
use Rattle.apex_model.specs.Trees.{walk}
use Rattle.file_tree.specs.Entries.{way_of}
use Rattle.file_tree.proofs.Children.{walk_from}
use Rattle.file_tree.proofs.tree.Tree.walk.Given as goal

-- so far the names led to a directory, without an obstacle
abbrev pub invariant-loop-k : goal.invariant-loop-k
invariant-loop-k l = (way_of l.self l.parent.0 ≡ Some (take l.k l.path.names)) × (walk l.self.nodes l.path.names ≡ walk_from l.self.nodes l.path.names l.k) × (l.k ≤ length l.path.names - 1)
