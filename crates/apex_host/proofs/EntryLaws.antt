-- Logged entries stay at every moment of a run, from the pairs of image and text that a cut leaves.
use Rattle.std.proofs.Common.{◌≡◌, ◌⊎◌, inl, inr, ℕ, zero, suc, ◌+◌, ◌≤◌, Bool, true, false, List, [], ◌∷◌, ◌++◌, Some, refl, sym, ◌∙◌, ap, subst, arith}
use Rattle.std.specs.Prelude.{Ok, Result, count_by, drop, if◌then◌else◌, slice_get, take}
use Rattle.std.proofs.lemmas.List.{append_cancel_left, take-append-drop, take-take}
use Rattle.std.proofs.lemmas.List.Sums.{sum_by-cons}
use Rattle.apex_types.specs.Rows.{Rows}
use Rattle.apex_types.specs.declared.calls.Line.{Line}
use Rattle.apex_types.specs.declared.rows.LogbookRow.{LogbookRow}
use Rattle.apex_model.specs.Accepted.{IsAccepted}
use Rattle.apex_model.specs.Durable.{Durable, start}
use Rattle.apex_model.specs.Image.{state_of}
use Rattle.apex_model.specs.Laws.{StepKeepsValid}
use Rattle.apex_model.specs.Logbooks.{Message, book_in}
use Rattle.apex_model.specs.LoggedEntries.{message_in, stored_in, stored_message}
use Rattle.apex_model.specs.Moments.{IsCutBefore, is_told}
use Rattle.apex_model.specs.Run.{world_after_all}
use Rattle.apex_model.specs.ToldText.{IsLeftByText, failed_in}
use Rattle.apex_model.specs.Validity.{IsValid}
use Rattle.apex_model.specs.World.{World}
use Rattle.apex_model.proofs.LoggedEntries.{logged_entry_stays}
use Rattle.rig_core.specs.Outside.{Outside}
use Rattle.rig_core.proofs.Moments.{pairs_weaker}
use Rattle.table_model.specs.Table.{table_of}
use Rattle.table_model.specs.declared.errors.TableError.{TableError}
use Rattle.table_model.proofs.AcceptedTables.{table_accepted}
use Rattle.script_model.specs.Script.{Refusal, script_of}
use Rattle.script_run.specs.Pairs.{IsPair, every_teller}
use Rattle.script_run.proofs.OneLine.{world-append}
use Rattle.script_run.proofs.Worlds.{lines-valid}
use Rattle.apex_host.specs.Disk.{BeginsRun, IsUntouched, LeavesDisk, LeavesRun, ran as carried, run_failed, untouched}
use Rattle.apex_host.specs.Entries.{IsAnswered, KeepsEntries, LastsBehind, LeavesEntries, world_at}
use Rattle.apex_host.specs.declared.command.Command.TheVariants.{Run}
use Rattle.apex_host.specs.declared.status.Status.{Status}

-- ---- which lines were carried out

one_of : (b : Bool) → b ≡ true → ◌≡◌ {A = ℕ} (if b then 1 else 0) 1
one_of true e = refl
one_of false e = absurd cc

-- a line that counts, and is counted among the first so many, is one of them
counted-within : (f : Line → Bool) (lines : List Line) (i done : ℕ) (line : Line) → slice_get lines i ≡ Some line → f line ≡ true → count_by f (take (suc i) lines) ≤ count_by f (take done lines) → i + 1 ≤ done
counted-within f [] i done line at counts few = absurd cc
counted-within f (x ∷ lines) zero zero line at counts few =
    let same : x ≡ line = cc in
    let one = one_of (f x) (ap f same ∙ counts) in
    absurd (omega (arith, few, one))
counted-within f (x ∷ lines) zero (suc done) line at counts few = omega arith
counted-within f (x ∷ lines) (suc i) zero line at counts few =
    let front = sum_by-cons (λ (l : Line). if f l then 1 else 0) x (take (suc i) lines) in
    let less : count_by f (take (suc i) lines) ≤ count_by f (take zero lines) = omega (arith, few, front) in
    let rest = counted-within f lines i zero line at counts less in
    absurd (omega (arith, rest))
counted-within f (x ∷ lines) (suc i) (suc done) line at counts few =
    let front = sum_by-cons (λ (l : Line). if f l then 1 else 0) x (take (suc i) lines) in
    let behind = sum_by-cons (λ (l : Line). if f l then 1 else 0) x (take done lines) in
    let less : count_by f (take (suc i) lines) ≤ count_by f (take done lines) = omega (arith, few, front, behind) in
    let rest = counted-within f lines i done line at counts less in
    omega (arith, rest)

-- the lines from a place on, where more were carried out
world-behind : (rows : Rows) (failed : List ℕ) (w : World) (lines : List Line) (n done : ℕ) → n ≤ done
    → world_after_all rows failed w (take done lines) ≡ world_after_all rows failed (world_after_all rows failed w (take n lines)) (drop n (take done lines))
world-behind rows failed w lines n done le =
    let front : take n (take done lines) ≡ take n lines = take-take n done lines le in
    let whole : take n lines ++ drop n (take done lines) ≡ take done lines = ap (λ (ls : List Line). ls ++ drop n (take done lines)) (sym front) ∙ take-append-drop n (take done lines) in
    ap (world_after_all rows failed w) (sym whole) ∙ world-append rows failed w (take n lines) (drop n (take done lines))

-- ---- one image beside one text

module _ (step : StepKeepsValid) (rows : Rows) (lines : List Line) (stored : Durable) (accepted : IsAccepted rows) (valid : IsValid rows (start rows stored)) where
  entry-left : (text : List ℕ) (durable : Durable) → IsLeftByText rows (start rows stored) lines every_teller text durable → (i k number : ℕ) (row : LogbookRow) (message : Message)
      → IsAnswered lines text i → slice_get rows.logbooks k ≡ Some row → message_in (book_in (world_at rows lines stored text (i + 1)).logbooks k) number ≡ Some message
      → LastsBehind rows lines stored text i k (number + row.logged) → stored_message (stored_in durable k) number ≡ Some message
  entry-left text durable left i k number row message answered at found lasts =
      let failed = failed_in text in
      let done = left.done in
      let next : i + 1 ≡ suc i = omega arith in
      let few : count_by (is_told every_teller) (take (suc i) lines) ≤ count_by (is_told every_teller) (take done lines) =
      subst (λ n. count_by (is_told every_teller) (take n lines) ≤ count_by (is_told every_teller) (take done lines)) next (let a = answered.told in let b = left.told in omega (arith, a, b)) in
      let within = counted-within (is_told every_teller) lines i done answered.line answered.at answered.replies few in
      let here = world_at rows lines stored text (i + 1) in
      let cut = subst (λ (w : World). IsCutBefore rows w (drop done lines) durable) (world-behind rows failed (start rows stored) lines (i + 1) done within) left.left in
      logged_entry_stays rows failed here (drop (i + 1) (take done lines)) (drop done lines) durable k number row message accepted
      (lines-valid step rows accepted failed (start rows stored) (take (i + 1) lines) valid) at found (lasts done left.within left.told) cut

  pub pair-keeps : (before image told : List ℕ) → IsPair rows (start rows stored) lines before image told → KeepsEntries rows lines stored before image told
  pair-keeps before image told pair text is i k number row message answered at found lasts =
      let same : pair.more ≡ text = append_cancel_left before pair.more text (sym pair.told_is ∙ is) in
      let state = pair.stores in
      (state.0, state.1, entry-left text state.0 (subst (λ (more : List ℕ). IsLeftByText rows (start rows stored) lines every_teller more state.0) same state.2) i k number row message answered at found lasts)

-- ---- a run

ok-ok : {X E : Type 0} {x y : X} → ◌≡◌ {A = Result X E} (Ok x) (Ok y) → x ≡ y
ok-ok w = cc

module _ {T V : Type 0} (step : StepKeepsValid) (t : T) (v : V) (table script : List ℕ) (rows : Rows) (lines : List Line) (stored : Durable) (accepted : table_of table ≡ Ok rows)
    (read : script_of rows script ≡ Ok lines) {old new : Outside} (image : state_of rows old.view ≡ Ok stored) where
  begun-entries : BeginsRun T V (Some table) (Some script) old new → LeavesEntries rows lines stored old new
  begun-entries begun =
      let same : begun.rows ≡ rows = ok-ok {E = TableError} (sym (begun.spelled table refl) ∙ accepted) in
      let alike : begun.lines ≡ lines = ok-ok {E = Refusal} (sym (subst (λ (x : Rows). script_of x script ≡ Ok begun.lines) same (begun.read script refl)) ∙ read) in
      let run = subst (λ (ls : List Line). LeavesRun T V rows ls old new) alike (subst (λ (x : Rows). LeavesRun T V x begun.lines old new) same begun.pairs) in
      let valid = subst (λ (x : Rows). V → (stored : Durable) → state_of x old.view ≡ Ok stored → IsValid x (start x stored)) same begun.valid in
      pairs_weaker (IsPair rows (start rows stored) lines old.told) (KeepsEntries rows lines stored old.told) old new
      (pair-keeps step rows lines stored (table_accepted table rows accepted) (valid v stored image) old.told) (run t v stored image)

  pub run-entries : {status : Status} → LeavesDisk T V (Some table) (Some script) old new (Some Run) status → LeavesEntries rows lines stored old new ⊎ IsUntouched V old new
  run-entries (carried ended) = inl (begun-entries ended.begins)
  run-entries (run_failed status why begun) = inl (begun-entries begun)
  run-entries (untouched command status not same) = inr same
