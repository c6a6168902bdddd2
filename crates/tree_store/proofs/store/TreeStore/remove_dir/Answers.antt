use Rattle.std.proofs.Common.{[], ◌≡◌, ℕ, ◌+◌, Some, sym, ap, subst, ◌∙◌}
use Rattle.std.specs.Prelude.{unwrap_or}
use Rattle.apex_types.specs.declared.codes.Errno.{Errno}
use Rattle.apex_model.specs.Trees.{entries_within}
use Rattle.file_tree.specs.Entries.{way_of}
use Rattle.tree_state.specs.Stored.{durable_tree}
use Rattle.tree_store.specs.Answers.{Passes, removed_directory}
use Rattle.tree_store.specs.Stored.{IsStored, names_of, row_of, start_of}
use Rattle.tree_store.proofs.Made.{none-unless, removal-none, removal-some, removed-directory-holds, removed-directory-tree}
use Rattle.tree_store.proofs.Naming.{acts-step, calls-made, passes-none, passes-step, stored-named, stored-same, with_state}
use Rattle.tree_store.proofs.store.TreeStore.remove_dir.Goals as goal

pub returns-in-Ok-clause-answer : goal.returns-in-Ok-clause-answer
returns-in-Ok-clause-answer g c v holds =
    let s = c.args.self.now in
    let t = c.remove_dir.new.state in
    let o = g.R.Rig.state c.args.rig.now in
    let e = g.R.Rig.state c.remove_dir.new.rig in
    let removed = c.in-Ok.ensures.removed in (
      removal-none g.R.Rig.tells_view o s v holds c.args.directory.0 removed.0,
      removed-directory-holds g.R.Rig.tells_view o s v holds c.args.directory.0 e t removed.1 c.stand.ensures.consistent c.remove_dir.ensures.present c.remove_dir.ensures.charges c.remove_dir.ensures.contents c.in-Ok.ensures.durable,
    )

pub returns-in-Ok-clause-moments : goal.returns-in-Ok-clause-moments
returns-in-Ok-clause-moments g c v holds =
    let s = c.args.self.now in
    let o = g.R.Rig.state c.args.rig.now in
    let e = g.R.Rig.state c.remove_dir.new.rig in
    passes-step g.R.Rig.tells_view o e s v (removed_directory v c.args.directory.0) (durable_tree (row_of s) (start_of s) o.view s.state) _ holds.durable
    (removed-directory-tree g.R.Rig.tells_view o s v holds c.args.directory.0) c.remove_dir.ensures.step

pub returns-in-Ok-clause-stored : goal.returns-in-Ok-clause-stored
returns-in-Ok-clause-stored g c =
    let s = c.args.self.now in
    let t = c.remove_dir.new.state in
    let o = g.R.Rig.state c.args.rig.now in
    let e = g.R.Rig.state c.remove_dir.new.rig in
    stored-named g.R.Rig.tells_view o e s t c.requires.stored c.remove_dir.ensures.step.later c.stand.ensures.consistent c.stand.ensures.spelled c.in-Ok.ensures.state

pub returns-in-Ok-clause-acts : goal.returns-in-Ok-clause-acts
returns-in-Ok-clause-acts g c =
    acts-step g.R.Rig.tells_view (g.R.Rig.state c.args.rig.now) (g.R.Rig.state c.remove_dir.new.rig) c.args.self.now c.remove_dir.new.state _ _ c.remove_dir.ensures.step

pub returns-in-Ok-clause-rises : goal.returns-in-Ok-clause-rises
returns-in-Ok-clause-rises g c keeps =
    let o = g.R.Rig.state c.args.rig.now in
    let e = g.R.Rig.state c.remove_dir.new.rig in
    calls-made c.args.self.now (λ (n : ℕ). e.clock ≡ o.clock + n) (λ has. c.in-Ok.ensures.recorded has keeps) (λ none. c.in-Ok.ensures.committed none keeps)

pub returns-in-Err-Refused-clause-answer : goal.returns-in-Err-Refused-clause-answer
returns-in-Err-Refused-clause-answer g c v holds =
    let s = c.args.self.now in
    let full = rw c.in-Err-Refused.field-0-is at c.in-Err-Refused.ensures.not_empty in
    (removal-some g.R.Rig.tells_view (g.R.Rig.state c.args.rig.now) s v holds c.args.directory.0 full.1 ∙ ap (λ (errno : Errno). Some errno) (sym full.0), (ap (with_state s) full.2.0, full.2.1))

pub returns-in-Err-Refused-clause-moments : goal.returns-in-Err-Refused-clause-moments
returns-in-Err-Refused-clause-moments g c v holds =
    let s = c.args.self.now in
    let o = g.R.Rig.state c.args.rig.now in
    let w = removed_directory v c.args.directory.0 in
    let full = rw c.in-Err-Refused.field-0-is at c.in-Err-Refused.ensures.not_empty in
    subst (λ r. Passes g.R.Rig.tells_view s v w o (g.R.Rig.state r)) (sym full.2.1) (passes-none g.R.Rig.tells_view o s c.requires.stored v w holds)

pub returns-in-Err-Refused-clause-stored : goal.returns-in-Err-Refused-clause-stored
returns-in-Err-Refused-clause-stored g c =
    let s = c.args.self.now in
    let t = c.remove_dir.new.state in
    let full = rw c.in-Err-Refused.field-0-is at c.in-Err-Refused.ensures.not_empty in
    subst (λ r. IsStored g.R.Rig.tells_view (g.R.Rig.state r) (with_state s t)) (sym full.2.1) (stored-same g.R.Rig.tells_view (g.R.Rig.state c.args.rig.now) s t full.2.0 c.requires.stored)

pub returns-in-Err-Refused-clause-acts : goal.returns-in-Err-Refused-clause-acts
returns-in-Err-Refused-clause-acts g c =
    acts-step g.R.Rig.tells_view (g.R.Rig.state c.args.rig.now) (g.R.Rig.state c.remove_dir.new.rig) c.args.self.now c.remove_dir.new.state _ _ c.remove_dir.ensures.step

pub returns-in-Err-Device-clause-answer : goal.returns-in-Err-Device-clause-answer
returns-in-Err-Device-clause-answer g c v holds =
    let s = c.args.self.now in
    let full = rw c.in-Err-Device.field-0-is at c.in-Err-Device.ensures.not_empty in
    (removal-none g.R.Rig.tells_view (g.R.Rig.state c.args.rig.now) s v holds c.args.directory.0 (none-unless (entries_within (names_of s).nodes (unwrap_or (way_of (names_of s) c.args.directory.0) [])) full.0), full.1)

pub returns-in-Err-Device-clause-moments : goal.returns-in-Err-Device-clause-moments
returns-in-Err-Device-clause-moments g c v holds =
    let s = c.args.self.now in
    let o = g.R.Rig.state c.args.rig.now in
    let e = g.R.Rig.state c.remove_dir.new.rig in
    passes-step g.R.Rig.tells_view o e s v (removed_directory v c.args.directory.0) (durable_tree (row_of s) (start_of s) o.view s.state) _ holds.durable
    (removed-directory-tree g.R.Rig.tells_view o s v holds c.args.directory.0) c.remove_dir.ensures.step

pub returns-in-Err-Device-clause-acts : goal.returns-in-Err-Device-clause-acts
returns-in-Err-Device-clause-acts g c =
    acts-step g.R.Rig.tells_view (g.R.Rig.state c.args.rig.now) (g.R.Rig.state c.remove_dir.new.rig) c.args.self.now c.remove_dir.new.state _ _ c.remove_dir.ensures.step
