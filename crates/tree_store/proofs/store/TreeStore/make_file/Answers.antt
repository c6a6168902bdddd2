use Rattle.std.proofs.Common.{◌≡◌, ℕ, ◌+◌, Some, sym, ap, subst, ◌∙◌}
use Rattle.apex_types.specs.declared.codes.Errno.{Errno}
use Rattle.apex_model.specs.Handles.{free_from}
use Rattle.tree_state.specs.Stored.{durable_tree}
use Rattle.tree_store.specs.Answers.{Passes, made_file}
use Rattle.tree_store.specs.Stored.{IsStored, names_of, row_of, start_of}
use Rattle.tree_store.proofs.Made.{file-full, file-refusal-none, made-file-holds, made-file-tree, some-unless}
use Rattle.tree_store.proofs.Naming.{acts-step, calls-made, passes-none, passes-step, stored-named, stored-same, with_state}
use Rattle.tree_store.proofs.store.TreeStore.make_file.Goals as goal

pub returns-in-Ok-clause-answer : goal.returns-in-Ok-clause-answer
returns-in-Ok-clause-answer g c v holds =
    let s = c.args.self.now in
    let t = c.make_file.new.state in
    let o = g.R.Rig.state c.args.rig.now in
    let e = g.R.Rig.state c.make_file.new.rig in
    let made = c.in-Ok.ensures.made in (
      file-refusal-none g.R.Rig.tells_view o s v holds c.args.parent.0 c.args.name c.in-Ok.file.0 made.0,
      made-file-holds g.R.Rig.tells_view o s v holds c.args.parent.0 c.args.name c.in-Ok.file.0 made.0 e t made.1 c.stand.ensures.consistent c.make_file.ensures.present c.make_file.ensures.charges c.make_file.ensures.contents c.in-Ok.ensures.durable,
    )

pub returns-in-Ok-clause-moments : goal.returns-in-Ok-clause-moments
returns-in-Ok-clause-moments g c v holds =
    let s = c.args.self.now in
    let t = c.make_file.new.state in
    let o = g.R.Rig.state c.args.rig.now in
    let e = g.R.Rig.state c.make_file.new.rig in
    passes-step g.R.Rig.tells_view o e s v (made_file v c.args.parent.0 c.args.name) (durable_tree (row_of s) (start_of s) o.view s.state) _ holds.durable
    (made-file-tree g.R.Rig.tells_view o s v holds c.args.parent.0 c.args.name c.in-Ok.file.0 c.in-Ok.ensures.made.0) c.make_file.ensures.step

pub returns-in-Ok-clause-stored : goal.returns-in-Ok-clause-stored
returns-in-Ok-clause-stored g c =
    let s = c.args.self.now in
    let t = c.make_file.new.state in
    let o = g.R.Rig.state c.args.rig.now in
    let e = g.R.Rig.state c.make_file.new.rig in
    stored-named g.R.Rig.tells_view o e s t c.requires.stored c.make_file.ensures.step.later c.stand.ensures.consistent c.stand.ensures.spelled c.in-Ok.ensures.state

pub returns-in-Ok-clause-acts : goal.returns-in-Ok-clause-acts
returns-in-Ok-clause-acts g c =
    let s = c.args.self.now in
    let t = c.make_file.new.state in
    let o = g.R.Rig.state c.args.rig.now in
    let e = g.R.Rig.state c.make_file.new.rig in
    acts-step g.R.Rig.tells_view o e s t _ _ c.make_file.ensures.step

pub returns-in-Ok-clause-rises : goal.returns-in-Ok-clause-rises
returns-in-Ok-clause-rises g c keeps =
    let s = c.args.self.now in
    let t = c.make_file.new.state in
    let o = g.R.Rig.state c.args.rig.now in
    let e = g.R.Rig.state c.make_file.new.rig in
    calls-made s (λ (n : ℕ). e.clock ≡ o.clock + n) (λ has. c.in-Ok.ensures.recorded has keeps) (λ none. c.in-Ok.ensures.committed none keeps)

pub returns-in-Err-Refused-clause-answer : goal.returns-in-Err-Refused-clause-answer
returns-in-Err-Refused-clause-answer g c v holds =
    let s = c.args.self.now in
    let t = c.make_file.new.state in
    let o = g.R.Rig.state c.args.rig.now in
    let e = g.R.Rig.state c.make_file.new.rig in
    let full = rw c.in-Err-Refused.field-0-is at c.in-Err-Refused.ensures.full in
    let none = file-full g.R.Rig.tells_view o s v holds c.args.parent.0 c.args.name full.1 in
    (none.0 ∙ ap (λ (errno : Errno). Some errno) (sym full.0), (ap (with_state s) full.2.0, full.2.1))

pub returns-in-Err-Refused-clause-moments : goal.returns-in-Err-Refused-clause-moments
returns-in-Err-Refused-clause-moments g c v holds =
    let s = c.args.self.now in
    let t = c.make_file.new.state in
    let o = g.R.Rig.state c.args.rig.now in
    let e = g.R.Rig.state c.make_file.new.rig in
    let full = rw c.in-Err-Refused.field-0-is at c.in-Err-Refused.ensures.full in
    subst (λ r. Passes g.R.Rig.tells_view s v (made_file v c.args.parent.0 c.args.name) o (g.R.Rig.state r)) (sym full.2.1) (passes-none g.R.Rig.tells_view o s c.requires.stored v (made_file v c.args.parent.0 c.args.name) holds)

pub returns-in-Err-Refused-clause-stored : goal.returns-in-Err-Refused-clause-stored
returns-in-Err-Refused-clause-stored g c =
    let s = c.args.self.now in
    let t = c.make_file.new.state in
    let o = g.R.Rig.state c.args.rig.now in
    let e = g.R.Rig.state c.make_file.new.rig in
    let full = rw c.in-Err-Refused.field-0-is at c.in-Err-Refused.ensures.full in
    subst (λ r. IsStored g.R.Rig.tells_view (g.R.Rig.state r) (with_state s t)) (sym full.2.1) (stored-same g.R.Rig.tells_view o s t full.2.0 c.requires.stored)

pub returns-in-Err-Refused-clause-acts : goal.returns-in-Err-Refused-clause-acts
returns-in-Err-Refused-clause-acts g c =
    let s = c.args.self.now in
    let t = c.make_file.new.state in
    let o = g.R.Rig.state c.args.rig.now in
    let e = g.R.Rig.state c.make_file.new.rig in
    acts-step g.R.Rig.tells_view o e s t _ _ c.make_file.ensures.step

pub returns-in-Err-Device-clause-answer : goal.returns-in-Err-Device-clause-answer
returns-in-Err-Device-clause-answer g c v holds =
    let s = c.args.self.now in
    let t = c.make_file.new.state in
    let o = g.R.Rig.state c.args.rig.now in
    let e = g.R.Rig.state c.make_file.new.rig in
    let full = rw c.in-Err-Device.field-0-is at c.in-Err-Device.ensures.full in
    let node = some-unless (free_from 0 (names_of s).files) full.0 in
    (file-refusal-none g.R.Rig.tells_view o s v holds c.args.parent.0 c.args.name node.0 node.1, full.1)

pub returns-in-Err-Device-clause-moments : goal.returns-in-Err-Device-clause-moments
returns-in-Err-Device-clause-moments g c v holds =
    let s = c.args.self.now in
    let t = c.make_file.new.state in
    let o = g.R.Rig.state c.args.rig.now in
    let e = g.R.Rig.state c.make_file.new.rig in
    let full = rw c.in-Err-Device.field-0-is at c.in-Err-Device.ensures.full in
    let node = some-unless (free_from 0 (names_of s).files) full.0 in
    passes-step g.R.Rig.tells_view o e s v (made_file v c.args.parent.0 c.args.name) (durable_tree (row_of s) (start_of s) o.view s.state) _ holds.durable
    (made-file-tree g.R.Rig.tells_view o s v holds c.args.parent.0 c.args.name node.0 node.1) c.make_file.ensures.step

pub returns-in-Err-Device-clause-acts : goal.returns-in-Err-Device-clause-acts
returns-in-Err-Device-clause-acts g c =
    let s = c.args.self.now in
    let t = c.make_file.new.state in
    let o = g.R.Rig.state c.args.rig.now in
    let e = g.R.Rig.state c.make_file.new.rig in
    acts-step g.R.Rig.tells_view o e s t _ _ c.make_file.ensures.step
