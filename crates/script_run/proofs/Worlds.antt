-- What a cut leaves before a line and behind it is what it leaves during the line.
use Rattle.std.proofs.Common.{◌≡◌, inl, inr, ⊎_elim, ℕ, List, [], ◌∷◌, length, sym, ◌∙◌, subst, arith}
use Rattle.std.specs.List.{AllZip}
use Rattle.std.proofs.lemmas.Slice.Zip.{AllZip-long}
use Rattle.apex_types.specs.Rows.{Rows}
use Rattle.apex_types.specs.declared.calls.Line.{Line}
use Rattle.apex_model.specs.Accepted.{IsAccepted}
use Rattle.apex_model.specs.Durable.{Durable, EitherCut, IsCut, IsCutBetween, IsCutDuring}
use Rattle.apex_model.specs.FailedReads.{world_after_line}
use Rattle.apex_model.specs.Laws.{StepKeepsValid}
use Rattle.apex_model.specs.Moments.{IsCutBefore}
use Rattle.apex_model.specs.Run.{world_after_all}
use Rattle.apex_model.specs.Validity.{IsValid}
use Rattle.apex_model.specs.World.{World, world_after}
use Rattle.apex_model.proofs.FailedReads.{line_stays_or_steps}

either-first : {A B : Type 0} (P : A → B → Type 0) (before after : List A) (stored : List B) → length after ≡ length before → AllZip P before stored → EitherCut P before after stored
either-first P [] [] [] e h = tt
either-first P [] (b ∷ after) stored e h = absurd (omega (arith, e))
either-first P (a ∷ before) [] stored e h = absurd (omega (arith, e))
either-first P [] [] (s ∷ stored) e h = absurd h
either-first P (a ∷ before) (b ∷ after) [] e h = absurd h
either-first P (a ∷ before) (b ∷ after) (s ∷ stored) e h = (inl h.0, either-first P before after stored (omega (arith, e)) h.1)

either-second : {A B : Type 0} (P : A → B → Type 0) (before after : List A) (stored : List B) → length after ≡ length before → AllZip P after stored → EitherCut P before after stored
either-second P [] [] [] e h = tt
either-second P [] (b ∷ after) stored e h = absurd (omega (arith, e))
either-second P (a ∷ before) [] stored e h = absurd (omega (arith, e))
either-second P [] [] (s ∷ stored) e h = absurd h
either-second P (a ∷ before) (b ∷ after) [] e h = absurd h
either-second P (a ∷ before) (b ∷ after) (s ∷ stored) e h = (inr h.0, either-second P before after stored (omega (arith, e)) h.1)

-- two valid worlds of a table have as many trees and logbooks
record AreAlike (w v : World) : Type 0 where
  pub trees : length v.files.trees ≡ length w.files.trees
  pub books : length v.logbooks.books ≡ length w.logbooks.books

are-alike : (table : Rows) (w v : World) → IsValid table w → IsValid table v → AreAlike w v
are-alike table w v a b = record {
  trees = AllZip-long _ table.trees v.files.trees b.files.trees ∙ sym (AllZip-long _ table.trees w.files.trees a.files.trees);
  books = AllZip-long _ table.logbooks v.logbooks.books b.logbooks.books ∙ sym (AllZip-long _ table.logbooks w.logbooks.books a.logbooks.books);
}

cut-first : (w v : World) (durable : Durable) → AreAlike w v → IsCut w durable → IsCutBetween w v durable
cut-first w v durable alike cut = record {
  trees = either-first _ w.files.trees v.files.trees durable.trees alike.trees cut.trees;
  logbooks = either-first _ w.logbooks.books v.logbooks.books durable.logbooks alike.books cut.logbooks;
}

cut-second : (w v : World) (durable : Durable) → AreAlike w v → IsCut v durable → IsCutBetween w v durable
cut-second w v durable alike cut = record {
  trees = either-second _ w.files.trees v.files.trees durable.trees alike.trees cut.trees;
  logbooks = either-second _ w.logbooks.books v.logbooks.books durable.logbooks alike.books cut.logbooks;
}

module _ (step : StepKeepsValid) (table : Rows) (accepted : IsAccepted table) where
  pub line-valid : (failed : List ℕ) (w : World) (line : Line) → IsValid table w → IsValid table (world_after_line table failed w line)
  line-valid failed w line v =
      let P : World → Type 0 = λ u. IsValid table u in
      ⊎_elim (λ same. subst P (sym same) v) (λ stepped. subst P (sym stepped) (step table w line.deed accepted v)) (line_stays_or_steps table failed w line)

  pub lines-valid : (failed : List ℕ) (w : World) (lines : List Line) → IsValid table w → IsValid table (world_after_all table failed w lines)
  lines-valid failed w [] v = v
  lines-valid failed w (line ∷ lines) v = lines-valid failed (world_after_line table failed w line) lines (line-valid failed w line v)

  -- what a cut leaves before some lines, it may leave as they begin
  pub cut-as_begins : (w : World) (lines : List Line) (durable : Durable) → IsValid table w → IsCut w durable → IsCutBefore table w lines durable
  cut-as_begins w [] durable v cut = cut
  cut-as_begins w (line ∷ lines) durable v cut = cut-first w (world_after table w line.deed) durable (are-alike table w (world_after table w line.deed) v (step table w line.deed accepted v)) cut

  -- what it leaves behind a line, it may leave during the line
  pub cut-as_ends : (failed : List ℕ) (w : World) (line : Line) (durable : Durable) → IsValid table w → IsCut (world_after_line table failed w line) durable → IsCutDuring table w line.deed durable
  cut-as_ends failed w line durable v cut =
      let after = world_after table w line.deed in
      let alike = are-alike table w after v (step table w line.deed accepted v) in
      let P : World → Type 0 = λ u. IsCut u durable in
      ⊎_elim (λ same. cut-first w after durable alike (subst P same cut)) (λ stepped. cut-second w after durable alike (subst P stepped cut)) (line_stays_or_steps table failed w line)
