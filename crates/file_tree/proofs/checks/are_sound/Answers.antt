use Rattle.std.proofs.Common.{◌≡◌, true, false, refl, sym, ◌∙◌}
use Rattle.std.specs.Prelude.{not, MatchBool}
use Rattle.std.specs.List.{list_all}
use Rattle.file_tree.specs.Checks.{has_namesake}
use Rattle.file_tree.specs.Table.{AreSound}
use Rattle.file_tree.proofs.Tested.{parents-pass, alone-apart, strangers-all, tests-sound, files-alone, directories-alone, are-strangers, refuted}
use Rattle.file_tree.proofs.checks.are_sound.Goals as goal

pub returns-then-not-have_parents : goal.returns-then-not-have_parents
returns-then-not-have_parents c = λ sound. refuted _ (parents-pass c.args.directories.now c.args.files.now sound.file_parents) (sym c.have_parents.ensures ∙ c.if-not-have_parents.true)

pub returns-then-not-have_parents-2 : goal.returns-then-not-have_parents-2
returns-then-not-have_parents-2 c = λ sound. refuted _ (parents-pass c.args.directories.now c.args.directories.now sound.directory_parents) (sym c.have_parents-2.ensures ∙ c.if-not-have_parents-2.true)

pub returns-then-not-are_apart : goal.returns-then-not-are_apart
returns-then-not-are_apart c = λ sound. refuted _ (alone-apart c.args.files.now (files-alone c.args.files.now c.args.directories.now sound)) (sym c.are_apart.ensures ∙ c.if-not-are_apart.true)

pub returns-then-not-are_apart-2 : goal.returns-then-not-are_apart-2
returns-then-not-are_apart-2 c = λ sound. refuted _ (alone-apart c.args.directories.now (directories-alone c.args.files.now c.args.directories.now sound)) (sym c.are_apart-2.ensures ∙ c.if-not-are_apart-2.true)

pub returns : goal.returns
returns c =
    (elim c.have_no_namesakes.result as (λ b. c.have_no_namesakes.result ≡ b → MatchBool b (AreSound c.args.files.now c.args.directories.now) (AreSound c.args.files.now c.args.directories.now → ⊥)) [
      | true ↦ λ h. tests-sound c.args.files.now c.args.directories.now c.requires.files c.requires.directories (sym c.have_parents.ensures ∙ c.if-not-have_parents.false) (sym c.have_parents-2.ensures ∙ c.if-not-have_parents-2.false)
          (sym c.are_apart.ensures ∙ c.if-not-are_apart.false) (sym c.are_apart-2.ensures ∙ c.if-not-are_apart-2.false) (sym c.have_no_namesakes.ensures ∙ h)
      | false ↦ λ h sound. refuted (list_all (λ place. not (has_namesake c.args.directories.now place)) c.args.files.now)
          (strangers-all c.args.directories.now c.args.files.now (are-strangers c.args.files.now c.args.directories.now sound)) (sym c.have_no_namesakes.ensures ∙ h)
    ]) refl
