use Rattle.std.proofs.Common.{◌≡◌, ℕ, ◌+◌, List, Option, subst}
use Rattle.std.specs.Prelude.{IfSome}
use Rattle.apex_model.specs.Trees.{Name}
use Rattle.file_tree.specs.Entries.{path_in, slot, with_file_at}
use Rattle.tree_state.specs.Stored.{durable_tree}
use Rattle.tree_store.specs.Answers.{renamed_file}
use Rattle.tree_store.specs.Stored.{names_of, row_of, start_of}
use Rattle.file_tree.proofs.Changes.{some_is}
use Rattle.tree_store.proofs.Naming.{acts-step, calls-made, passes-step, stored-named}
use Rattle.tree_store.proofs.Renamed.{renamed-holds, renamed-tree}
use Rattle.tree_store.proofs.store.TreeStore.rename.Goals as goal

pub returns-in_err-rename-clause-moments : goal.returns-in_err-rename-clause-moments
returns-in_err-rename-clause-moments g c v holds =
    let s = c.args.self.now in
    let o = g.R.Rig.state c.args.rig.now in
    let from = some_is (slot (names_of s).files c.args.file.0) c.requires.file in
    passes-step g.R.Rig.tells_view o (g.R.Rig.state c.rename.new.rig) s v (renamed_file v c.args.file.0 c.args.parent.0 c.args.name) (durable_tree (row_of s) (start_of s) o.view s.state) _ holds.durable
    (renamed-tree g.R.Rig.tells_view o s v holds c.args.file c.args.parent.0 c.args.name from.0 from.1 (c.rename.ensures.stands from.0 from.1)) (c.rename.ensures.step from.0 from.1)

pub returns-in_err-rename-clause-acts : goal.returns-in_err-rename-clause-acts
returns-in_err-rename-clause-acts g c =
    let s = c.args.self.now in
    let from = some_is (slot (names_of s).files c.args.file.0) c.requires.file in
    acts-step g.R.Rig.tells_view (g.R.Rig.state c.args.rig.now) (g.R.Rig.state c.rename.new.rig) s c.rename.new.state _ _ (c.rename.ensures.step from.0 from.1)

pub returns-clause-moments : goal.returns-clause-moments
returns-clause-moments g c v holds =
    let s = c.args.self.now in
    let o = g.R.Rig.state c.args.rig.now in
    let from = some_is (slot (names_of s).files c.args.file.0) c.requires.file in
    passes-step g.R.Rig.tells_view o (g.R.Rig.state c.rename.new.rig) s v (renamed_file v c.args.file.0 c.args.parent.0 c.args.name) (durable_tree (row_of s) (start_of s) o.view s.state) _ holds.durable
    (renamed-tree g.R.Rig.tells_view o s v holds c.args.file c.args.parent.0 c.args.name from.0 from.1 (c.rename.ensures.stands from.0 from.1)) (c.rename.ensures.step from.0 from.1)

pub returns-clause-acts : goal.returns-clause-acts
returns-clause-acts g c =
    let s = c.args.self.now in
    let from = some_is (slot (names_of s).files c.args.file.0) c.requires.file in
    acts-step g.R.Rig.tells_view (g.R.Rig.state c.args.rig.now) (g.R.Rig.state c.rename.new.rig) s c.rename.new.state _ _ (c.rename.ensures.step from.0 from.1)

pub returns-clause-done : goal.returns-clause-done
returns-clause-done g c v holds =
    let s = c.args.self.now in
    let t = c.rename.new.state in
    let f = c.args.file.0 in
    let path = path_in (names_of s) c.args.parent.0 c.args.name in
    let from = some_is (slot (names_of s).files f) c.requires.file in
    let done = c.in_ok-rename.ensures in
    let renamed = subst (λ (o : Option (List Name)). IfSome o (λ p. t.kept.tree ≡ with_file_at (names_of s) f p path)) from.1 done.renamed in
    renamed-holds g.R.Rig.tells_view (g.R.Rig.state c.args.rig.now) s v holds c.args.file c.args.parent.0 c.args.name from.0 from.1 (c.rename.ensures.stands from.0 from.1) (g.R.Rig.state c.rename.new.rig) t
    renamed c.stand.ensures.consistent c.rename.ensures.present c.rename.ensures.charges c.rename.ensures.contents (done.durable from.0 from.1)

pub returns-clause-stored : goal.returns-clause-stored
returns-clause-stored g c =
    let s = c.args.self.now in
    let t = c.rename.new.state in
    let from = some_is (slot (names_of s).files c.args.file.0) c.requires.file in
    let done = c.in_ok-rename.ensures in
    stored-named g.R.Rig.tells_view (g.R.Rig.state c.args.rig.now) (g.R.Rig.state c.rename.new.rig) s t c.requires.stored (c.rename.ensures.step from.0 from.1).later c.stand.ensures.consistent c.stand.ensures.spelled done.state

pub returns-clause-rises : goal.returns-clause-rises
returns-clause-rises g c keeps =
    let o = g.R.Rig.state c.args.rig.now in
    let e = g.R.Rig.state c.rename.new.rig in
    let done = c.in_ok-rename.ensures in
    calls-made c.args.self.now (λ (n : ℕ). e.clock ≡ o.clock + n) (λ has. done.recorded has keeps) (λ none. done.committed none keeps)
