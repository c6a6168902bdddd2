use Rattle.std.proofs.Common.{◌+◌, ◌*◌, ◌<◌, ℕ, List, Some, IsTrue, MatchBool, length, arith, sym, subst, ap, ◌∙◌}
use Rattle.std.proofs.lemmas.Option.{slice_get_past, slice_get_within}
use Rattle.rig_core.specs.Bytes.{part}
use Rattle.meta_journal.specs.Leading.{records, HasOpen, HasNoneOpen}
use Rattle.meta_journal.proofs.Read.{all_read, holds_all}
use Rattle.meta_journal.proofs.Records.{leading_next}
use Rattle.meta_journal.proofs.Journal.next.Goals as goal
use Rattle.meta_journal.proofs.Journal.next.Goals.{then-stray, else-stray}

pub returns-then-not-branch-clause-record : goal.returns-then-not-branch-clause-record
returns-then-not-branch-clause-record g c tells read =
    let first = c.args.self.now.first in
    let held = c.args.self.now.held in
    let view = (g.R.Rig.state c.args.rig.now).view in
    let all = all_read first held view c.in_ok-has_next.field-0 c.if-not-branch.true (c.in_ok-has_next.ensures.shut tells) read in
    slice_get_past (records first view) held (omega (arith, all))

pub returns-then-not-branch-clause-known : goal.returns-then-not-branch-clause-known
returns-then-not-branch-clause-known g c tells read room =
    let first = c.args.self.now.first in
    let held = c.args.self.now.held in
    let view = (g.R.Rig.state c.args.rig.now).view in
    let seen = (g.R.Rig.state c.has_next.new.rig).view in
    elim c.if-stray.branch [
      | then-stray w ↦ absurd (omega (arith, room, w.self-is))
      | else-stray w ↦
          let behind : HasNoneOpen first (held + 1) seen = subst (λ b. MatchBool b (HasOpen first (held + 1) seen) (HasNoneOpen first (held + 1) seen)) w.if-stray.false (c.in_ok-stray.ensures.found tells) in
          holds_all first held view c.in_ok-has_next.field-0 c.if-not-branch.true (c.in_ok-has_next.ensures.shut tells) read
          (subst (HasNoneOpen first (held + 1)) (c.has_next.ensures.reads.view tells) behind)
    ]

pub returns-clause-record : goal.returns-clause-record
returns-clause-record g c tells read =
    let first = c.args.self.now.first in
    let held = c.args.self.now.held in
    let view = (g.R.Rig.state c.args.rig.now).view in
    let seen = (g.R.Rig.state c.has_next.new.rig).view in
    let more : IsTrue c.in_ok-has_next.field-0 = c.if-not-branch.false in
    let at = first + 1024 * held + 512 in
    leading_next 32 first held view read (c.in_ok-has_next.ensures.few more) (c.in_ok-has_next.ensures.open tells more)
    ∙ ap (λ (l : List ℕ). Some l) (sym (c.in_ok-read.ensures.bytes tells ∙ ap (λ (n : ℕ). part at n seen) c.requires.body ∙ ap (part at 512) (c.has_next.ensures.reads.view tells)))

pub returns-clause-read : goal.returns-clause-read
returns-clause-read g c tells read =
    let first = c.args.self.now.first in
    let held = c.args.self.now.held in
    let view = (g.R.Rig.state c.args.rig.now).view in
    let more : IsTrue c.in_ok-has_next.field-0 = c.if-not-branch.false in
    let next = leading_next 32 first held view read (c.in_ok-has_next.ensures.few more) (c.in_ok-has_next.ensures.open tells more) in
    let within : held < length (records first view) = slice_get_within (records first view) held _ next in
    omega (arith, within)
