use Rattle.std.proofs.Common.{◌≡◌, ℕ, ◌+◌, List, Option, subst}
use Rattle.std.specs.Prelude.{IfSome}
use Rattle.apex_model.specs.Trees.{Name}
use Rattle.file_tree.specs.Entries.{slot, without_file}
use Rattle.tree_state.specs.Stored.{durable_tree}
use Rattle.tree_store.specs.Answers.{removed_file}
use Rattle.tree_store.specs.Stored.{names_of, row_of, start_of}
use Rattle.file_tree.proofs.Changes.{some_is}
use Rattle.tree_store.proofs.Naming.{acts-step, calls-made, passes-step, stored-named}
use Rattle.tree_store.proofs.Removed.{holds-removed-file, removed-file-tree}
use Rattle.tree_store.proofs.store.TreeStore.remove_file.Goals as goal

pub returns-in_err-remove_file-clause-moments : goal.returns-in_err-remove_file-clause-moments
returns-in_err-remove_file-clause-moments g c v holds =
    let s = c.args.self.now in
    let o = g.R.Rig.state c.args.rig.now in
    let path = some_is (slot (names_of s).files c.args.file.0) c.requires.in_use in
    passes-step g.R.Rig.tells_view o (g.R.Rig.state c.remove_file.new.rig) s v (removed_file v c.args.file.0) (durable_tree (row_of s) (start_of s) o.view s.state) _ holds.durable
    (removed-file-tree g.R.Rig.tells_view o (g.R.Rig.state c.remove_file.new.rig) s c.remove_file.new.state c.requires.stored v holds c.args.file path.0 path.1) (c.remove_file.ensures.step path.0 path.1)

pub returns-in_err-remove_file-clause-acts : goal.returns-in_err-remove_file-clause-acts
returns-in_err-remove_file-clause-acts g c =
    let s = c.args.self.now in
    let path = some_is (slot (names_of s).files c.args.file.0) c.requires.in_use in
    acts-step g.R.Rig.tells_view (g.R.Rig.state c.args.rig.now) (g.R.Rig.state c.remove_file.new.rig) s c.remove_file.new.state _ _ (c.remove_file.ensures.step path.0 path.1)

pub returns-clause-moments : goal.returns-clause-moments
returns-clause-moments g c v holds =
    let s = c.args.self.now in
    let o = g.R.Rig.state c.args.rig.now in
    let path = some_is (slot (names_of s).files c.args.file.0) c.requires.in_use in
    passes-step g.R.Rig.tells_view o (g.R.Rig.state c.remove_file.new.rig) s v (removed_file v c.args.file.0) (durable_tree (row_of s) (start_of s) o.view s.state) _ holds.durable
    (removed-file-tree g.R.Rig.tells_view o (g.R.Rig.state c.remove_file.new.rig) s c.remove_file.new.state c.requires.stored v holds c.args.file path.0 path.1) (c.remove_file.ensures.step path.0 path.1)

pub returns-clause-acts : goal.returns-clause-acts
returns-clause-acts g c =
    let s = c.args.self.now in
    let path = some_is (slot (names_of s).files c.args.file.0) c.requires.in_use in
    acts-step g.R.Rig.tells_view (g.R.Rig.state c.args.rig.now) (g.R.Rig.state c.remove_file.new.rig) s c.remove_file.new.state _ _ (c.remove_file.ensures.step path.0 path.1)

pub returns-clause-done : goal.returns-clause-done
returns-clause-done g c v holds =
    let s = c.args.self.now in
    let t = c.remove_file.new.state in
    let o = g.R.Rig.state c.args.rig.now in
    let e = g.R.Rig.state c.remove_file.new.rig in
    let path = some_is (slot (names_of s).files c.args.file.0) c.requires.in_use in
    let done = c.in_ok-remove_file.ensures in
    let removed = subst (λ (o : Option (List Name)). IfSome o (λ p. t.kept.tree ≡ without_file (names_of s) c.args.file.0 p)) path.1 done.removed in
    holds-removed-file g.R.Rig.tells_view o e s t c.requires.stored v holds c.args.file path.0 path.1 removed c.stand.ensures.consistent done.sizes done.charges c.remove_file.ensures.contents done.state (done.durable path.0 path.1)

pub returns-clause-stored : goal.returns-clause-stored
returns-clause-stored g c =
    let s = c.args.self.now in
    let t = c.remove_file.new.state in
    let path = some_is (slot (names_of s).files c.args.file.0) c.requires.in_use in
    let done = c.in_ok-remove_file.ensures in
    stored-named g.R.Rig.tells_view (g.R.Rig.state c.args.rig.now) (g.R.Rig.state c.remove_file.new.rig) s t c.requires.stored (c.remove_file.ensures.step path.0 path.1).later c.stand.ensures.consistent c.stand.ensures.spelled done.state

pub returns-clause-rises : goal.returns-clause-rises
returns-clause-rises g c keeps =
    let o = g.R.Rig.state c.args.rig.now in
    let e = g.R.Rig.state c.remove_file.new.rig in
    let done = c.in_ok-remove_file.ensures in
    calls-made c.args.self.now (λ (n : ℕ). e.clock ≡ o.clock + n) (λ has. done.recorded has keeps) (λ none. done.committed none keeps)
