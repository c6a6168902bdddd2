use Rattle.std.proofs.Common.{refl, ◌≡◌, ◌≤◌, ap, sym, subst, ◌∙◌}
use Rattle.std.proofs.Common.{ℕ, List, max, length, Some, None, ◌+◌}
use Rattle.std.specs.Prelude.{IsSome}
use Rattle.apex_model.specs.Files.{written}
use Rattle.apex_model.proofs.ValidChanges.{length-written}
use Rattle.file_tree.specs.Entries.{slot}
use Rattle.store_model.specs.Stores.{kept_at}
use Rattle.tree_store.specs.Stored.{names_of, size_at}
use Rattle.present_files.specs.Present.{changes_of}
use Rattle.tree_state.specs.ContentRefusals.{content_refusal}
use Rattle.tree_state.specs.declared.state.TreeState.{TreeState}
use Rattle.tree_store.proofs.Changed.{stored-after, acts-after, passes-after, holds-same, holds-changed, refusal-same, some_of}
use Rattle.tree_store.proofs.store.TreeStore.write.Goals as goal

pub returns-in-Ok-clause-answer : goal.returns-in-Ok-clause-answer
returns-in-Ok-clause-answer g c v holds =
    let s = c.args.self.now in
    let o = g.R.Rig.state c.args.rig.now in
    let content = (kept_at v c.args.file.0).content in
    let size = holds.sizes c.args.file.0 in
    let long : length (written content c.args.from c.args.bytes.now) ≡ max (size_at s c.args.file.0) (c.args.from + length c.args.bytes.now) =
    length-written content c.args.from c.args.bytes.now (subst (λ n. c.args.from ≤ n) (sym size) c.requires.within) ∙ ap (λ (n : ℕ). max n (c.args.from + length c.args.bytes.now)) size in
    let same = refusal-same g.R.Rig.tells_view o s c.requires.stored v holds c.args.file (length (written content c.args.from c.args.bytes.now))
    ∙ ap (λ (n : ℕ). content_refusal s.state.charges c.args.file.0 (changes_of s.state.present c.args.file) n) long in
    let names = some_of (slot (names_of s).files c.args.file.0) c.requires.in_use in (
      same ∙ c.in-Ok.ensures.answer,
      holds-changed g.R.Rig.tells_view g.R.Rig.keeps_cuts o (g.R.Rig.state c.write.new.rig) (g.met.R.Rig.sound c.args.rig.now) s c.write.new.state c.requires.stored c.write.ensures.durable v holds
          c.args.file names.0 names.1 (written content c.args.from c.args.bytes.now) _ long (λ content. written content c.args.from c.args.bytes.now) refl c.in-Ok.ensures.changed,
    )

pub returns-in-Ok-clause-moments : goal.returns-in-Ok-clause-moments
returns-in-Ok-clause-moments g c v holds =
    passes-after g.R.Rig.tells_view g.R.Rig.keeps_cuts (g.R.Rig.state c.args.rig.now) (g.R.Rig.state c.write.new.rig) (g.met.R.Rig.sound c.args.rig.now) c.args.self.now c.write.new.state c.requires.stored c.write.ensures.durable v holds

pub returns-in-Ok-clause-stored : goal.returns-in-Ok-clause-stored
returns-in-Ok-clause-stored g c =
    stored-after g.R.Rig.tells_view g.R.Rig.keeps_cuts (g.R.Rig.state c.args.rig.now) (g.R.Rig.state c.write.new.rig) (g.met.R.Rig.sound c.args.rig.now) c.args.self.now c.write.new.state c.requires.stored c.write.ensures.durable

pub returns-in-Ok-clause-acts : goal.returns-in-Ok-clause-acts
returns-in-Ok-clause-acts g c =
    acts-after g.R.Rig.tells_view g.R.Rig.keeps_cuts (g.R.Rig.state c.args.rig.now) (g.R.Rig.state c.write.new.rig) (g.met.R.Rig.sound c.args.rig.now) c.args.self.now c.write.new.state c.requires.stored c.write.ensures.durable

pub returns-in-Err-Refused-clause-answer : goal.returns-in-Err-Refused-clause-answer
returns-in-Err-Refused-clause-answer g c v holds =
    let s = c.args.self.now in
    let o = g.R.Rig.state c.args.rig.now in
    let content = (kept_at v c.args.file.0).content in
    let size = holds.sizes c.args.file.0 in
    let long : length (written content c.args.from c.args.bytes.now) ≡ max (size_at s c.args.file.0) (c.args.from + length c.args.bytes.now) =
    length-written content c.args.from c.args.bytes.now (subst (λ n. c.args.from ≤ n) (sym size) c.requires.within) ∙ ap (λ (n : ℕ). max n (c.args.from + length c.args.bytes.now)) size in
    let same = refusal-same g.R.Rig.tells_view o s c.requires.stored v holds c.args.file (length (written content c.args.from c.args.bytes.now))
    ∙ ap (λ (n : ℕ). content_refusal s.state.charges c.args.file.0 (changes_of s.state.present c.args.file) n) long in
    let answer = rw c.in-Err-Refused.field-0-is at c.in-Err-Refused.ensures.answer in
    (same ∙ answer.0, (ap (λ (t : TreeState). record { row = s.row; start = s.start; state = t }) answer.1.0, answer.1.1))

pub returns-in-Err-Refused-clause-moments : goal.returns-in-Err-Refused-clause-moments
returns-in-Err-Refused-clause-moments g c v holds =
    passes-after g.R.Rig.tells_view g.R.Rig.keeps_cuts (g.R.Rig.state c.args.rig.now) (g.R.Rig.state c.write.new.rig) (g.met.R.Rig.sound c.args.rig.now) c.args.self.now c.write.new.state c.requires.stored c.write.ensures.durable v holds

pub returns-in-Err-Refused-clause-stored : goal.returns-in-Err-Refused-clause-stored
returns-in-Err-Refused-clause-stored g c =
    stored-after g.R.Rig.tells_view g.R.Rig.keeps_cuts (g.R.Rig.state c.args.rig.now) (g.R.Rig.state c.write.new.rig) (g.met.R.Rig.sound c.args.rig.now) c.args.self.now c.write.new.state c.requires.stored c.write.ensures.durable

pub returns-in-Err-Refused-clause-acts : goal.returns-in-Err-Refused-clause-acts
returns-in-Err-Refused-clause-acts g c =
    acts-after g.R.Rig.tells_view g.R.Rig.keeps_cuts (g.R.Rig.state c.args.rig.now) (g.R.Rig.state c.write.new.rig) (g.met.R.Rig.sound c.args.rig.now) c.args.self.now c.write.new.state c.requires.stored c.write.ensures.durable

pub returns-in-Err-ReadFault-clause-answer : goal.returns-in-Err-ReadFault-clause-answer
returns-in-Err-ReadFault-clause-answer g c v holds =
    let s = c.args.self.now in
    let o = g.R.Rig.state c.args.rig.now in
    let content = (kept_at v c.args.file.0).content in
    let size = holds.sizes c.args.file.0 in
    let long : length (written content c.args.from c.args.bytes.now) ≡ max (size_at s c.args.file.0) (c.args.from + length c.args.bytes.now) =
    length-written content c.args.from c.args.bytes.now (subst (λ n. c.args.from ≤ n) (sym size) c.requires.within) ∙ ap (λ (n : ℕ). max n (c.args.from + length c.args.bytes.now)) size in
    let same = refusal-same g.R.Rig.tells_view o s c.requires.stored v holds c.args.file (length (written content c.args.from c.args.bytes.now))
    ∙ ap (λ (n : ℕ). content_refusal s.state.charges c.args.file.0 (changes_of s.state.present c.args.file) n) long in
    let answer = rw c.in-Err-ReadFault.field-0-is at c.in-Err-ReadFault.ensures.answer in (
      same ∙ answer.0,
      answer.1,
      holds-same g.R.Rig.tells_view g.R.Rig.keeps_cuts o (g.R.Rig.state c.write.new.rig) (g.met.R.Rig.sound c.args.rig.now) s c.write.new.state c.requires.stored c.write.ensures.durable v holds c.in-Err-ReadFault.ensures.unchanged,
    )

pub returns-in-Err-ReadFault-clause-moments : goal.returns-in-Err-ReadFault-clause-moments
returns-in-Err-ReadFault-clause-moments g c v holds =
    passes-after g.R.Rig.tells_view g.R.Rig.keeps_cuts (g.R.Rig.state c.args.rig.now) (g.R.Rig.state c.write.new.rig) (g.met.R.Rig.sound c.args.rig.now) c.args.self.now c.write.new.state c.requires.stored c.write.ensures.durable v holds

pub returns-in-Err-ReadFault-clause-stored : goal.returns-in-Err-ReadFault-clause-stored
returns-in-Err-ReadFault-clause-stored g c =
    stored-after g.R.Rig.tells_view g.R.Rig.keeps_cuts (g.R.Rig.state c.args.rig.now) (g.R.Rig.state c.write.new.rig) (g.met.R.Rig.sound c.args.rig.now) c.args.self.now c.write.new.state c.requires.stored c.write.ensures.durable

pub returns-in-Err-ReadFault-clause-acts : goal.returns-in-Err-ReadFault-clause-acts
returns-in-Err-ReadFault-clause-acts g c =
    acts-after g.R.Rig.tells_view g.R.Rig.keeps_cuts (g.R.Rig.state c.args.rig.now) (g.R.Rig.state c.write.new.rig) (g.met.R.Rig.sound c.args.rig.now) c.args.self.now c.write.new.state c.requires.stored c.write.ensures.durable

pub returns-in-Err-Device-clause-answer : goal.returns-in-Err-Device-clause-answer
returns-in-Err-Device-clause-answer g c v holds =
    let s = c.args.self.now in
    let o = g.R.Rig.state c.args.rig.now in
    let content = (kept_at v c.args.file.0).content in
    let size = holds.sizes c.args.file.0 in
    let long : length (written content c.args.from c.args.bytes.now) ≡ max (size_at s c.args.file.0) (c.args.from + length c.args.bytes.now) =
    length-written content c.args.from c.args.bytes.now (subst (λ n. c.args.from ≤ n) (sym size) c.requires.within) ∙ ap (λ (n : ℕ). max n (c.args.from + length c.args.bytes.now)) size in
    let same = refusal-same g.R.Rig.tells_view o s c.requires.stored v holds c.args.file (length (written content c.args.from c.args.bytes.now))
    ∙ ap (λ (n : ℕ). content_refusal s.state.charges c.args.file.0 (changes_of s.state.present c.args.file) n) long in
    let answer = rw c.in-Err-Device.field-0-is at c.in-Err-Device.ensures.answer in
    (same ∙ answer.0, answer.1)

pub returns-in-Err-Device-clause-moments : goal.returns-in-Err-Device-clause-moments
returns-in-Err-Device-clause-moments g c v holds =
    passes-after g.R.Rig.tells_view g.R.Rig.keeps_cuts (g.R.Rig.state c.args.rig.now) (g.R.Rig.state c.write.new.rig) (g.met.R.Rig.sound c.args.rig.now) c.args.self.now c.write.new.state c.requires.stored c.write.ensures.durable v holds

pub returns-in-Err-Device-clause-stored : goal.returns-in-Err-Device-clause-stored
returns-in-Err-Device-clause-stored g c =
    stored-after g.R.Rig.tells_view g.R.Rig.keeps_cuts (g.R.Rig.state c.args.rig.now) (g.R.Rig.state c.write.new.rig) (g.met.R.Rig.sound c.args.rig.now) c.args.self.now c.write.new.state c.requires.stored c.write.ensures.durable

pub returns-in-Err-Device-clause-acts : goal.returns-in-Err-Device-clause-acts
returns-in-Err-Device-clause-acts g c =
    acts-after g.R.Rig.tells_view g.R.Rig.keeps_cuts (g.R.Rig.state c.args.rig.now) (g.R.Rig.state c.write.new.rig) (g.met.R.Rig.sound c.args.rig.now) c.args.self.now c.write.new.state c.requires.stored c.write.ensures.durable
