-- What a run tells each partition depends on its upstream alone.
use Rattle.std.proofs.Common.{◌≡◌, ℕ, inl, inr, ⊎_elim, List, [], ◌∷◌, ◌++◌, append_assoc, append-nil, Some, refl, sym, ◌∙◌, ap, subst}
use Rattle.std.specs.Prelude.{◌==◌, codes, take, drop, Result, Ok, Err}
use Rattle.std.specs.List.{AllByRecursion}
use Rattle.std.proofs.lemmas.List.{take-append-drop}
use Rattle.std.proofs.lemmas.List.Elements.{filter-append}
use Rattle.apex_types.specs.Rows.{Rows}
use Rattle.apex_types.specs.declared.calls.Line.{Line}
use Rattle.apex_model.specs.Accepted.{IsAccepted}
use Rattle.apex_model.specs.Durable.{Durable, start}
use Rattle.apex_model.specs.Image.{Refusal as ImageRefusal, state_of}
use Rattle.apex_model.specs.Isolation.{replies_of}
use Rattle.apex_model.specs.Laws.{RepliesDependOnUpstream, StepKeepsValid}
use Rattle.apex_model.specs.Lines.{IsLineOf}
use Rattle.apex_model.specs.Run.{Told, fault_line, replies_to, text_of, world_after_all}
use Rattle.apex_model.specs.ToldText.{failed_in, fault_text, HasNoFeed}
use Rattle.apex_model.specs.Validity.{IsValid}
use Rattle.model_laws.specs.RunText.{ReplyLinesTell, ReplyLineTells, failures_of}
use Rattle.table_model.specs.declared.errors.TableError.{TableError}
use Rattle.table_model.proofs.AcceptedTables.{table_accepted}
use Rattle.script_model.specs.Script.{Refusal, SpellsScript, script_of}
use Rattle.script_model.proofs.Lines.{script_of_table}
use Rattle.script_model.proofs.Scripts.{script_spells}
use Rattle.script_model.proofs.Accepted.{accepted_ready}
use Rattle.script_run.proofs.OneLine.{replies-append}
use Rattle.script_run.proofs.Worlds.{line-valid}
use Rattle.apex_host.specs.Endings.{Seen, Ends, EndsSo, GaveTable, GaveScript, IsRunText, table_fault, table_refused, script_fault, script_refused, image_refused, mount_fault, fault_in_line, ran, starved}
use Rattle.apex_host.specs.Laws.{AreFailed, AreFirst, IsFaultLine, HasNoReply, TellsApart, TellsAllApart, HasTold, ReadsTable, ReadsLines, run_replies, own_replies, of_table, of_script, of_mount, in_line}
use Rattle.apex_host.specs.Told.{run_text}
use Rattle.apex_host.specs.declared.command.Command.TheVariants.{Run}
use Rattle.apex_host.specs.declared.status.Status.{Status}
use Rattle.apex_host.specs.declared.status.Status.TheVariants.{Done, ReplyFault}
use Rattle.apex_host.proofs.EndLaws.{ok-ok, gave-reads}
use Rattle.apex_host.proofs.Failures.{Rise, LinesRise, first-rise, lines-front, replies-rise, script-rise, failures-known, first-same, all-same}
use Rattle.apex_host.proofs.Fronts.{front-of_one, front-of_none, splits-replies, replies-failed, part-failed, fault-failed, fault-no_feed}

-- ---- what tells no reply

no_reply-failed : (text : List ℕ) → HasNoReply text → failed_in text ≡ []
no_reply-failed text (inl part) = part-failed text part
no_reply-failed text (inr of_table) = refl
no_reply-failed text (inr of_script) = refl
no_reply-failed text (inr of_mount) = refl
no_reply-failed text (inr (in_line number)) = fault-failed number

-- a front of the line of a fault
line-front : (text : List ℕ) → HasNoFeed text → IsFaultLine (text ++ 10 ∷ []) → (front back : List ℕ) → front ++ back ≡ text ++ 10 ∷ [] → HasNoReply front
line-front text one fault front back is =
    ⊎_elim (λ part. inl part) (λ all. inr (subst IsFaultLine (sym all) fault)) (front-of_one front back text one is)

none-front : (front back : List ℕ) → front ++ back ≡ [] → HasNoReply front
none-front front back is = inl (front-of_none front back is)

all-front : {A : Type 0} (P : A → Type 0) (xs ys : List A) → AllByRecursion P (xs ++ ys) → AllByRecursion P xs
all-front P [] ys h = tt
all-front P (x ∷ xs) ys h = (h.0, all-front P xs ys h.1)

-- ---- texts of a run from a stored state on

module _ (rows : Rows) (lines : List Line) (stored : Durable) where
  -- one that tells no reply
  none-apart : (text : List ℕ) → HasNoReply text → TellsApart rows lines stored text
  none-apart text none = record {
    replies = [];
    rest = text;
    told = refl;
    no_reply = none;
    known = tt;
    first = λ failed are. (run_replies rows lines stored failed, refl);
    apart = λ failed are p. (own_replies rows lines stored failed p, refl);
  }

  module _ (law : RepliesDependOnUpstream) (tell : ReplyLinesTell) (step : StepKeepsValid) (accepted : IsAccepted rows) (valid : IsValid rows (start rows stored)) (of_rows : AllByRecursion (IsLineOf rows) lines) (rise : LinesRise 0 lines) where
    own-first : (replies : List Told) (failed : List ℕ) (p : ℕ) → AreFirst replies (run_replies rows lines stored failed) → AreFirst (replies_of p replies) (own_replies rows lines stored failed p)
    own-first replies failed p first =
        (replies_of p first.0, sym (filter-append (λ (told : Told). told.partition == p) replies first.0) ∙ ap (replies_of p) first.1 ∙ law rows failed stored lines p accepted valid of_rows)

    -- one that tells the replies to all lines
    all-apart : (failed text : List ℕ) → text ≡ text_of (run_replies rows lines stored failed) → TellsAllApart rows lines stored text
    all-apart failed text is =
        let replies = run_replies rows lines stored failed in
        let tells = tell rows failed (start rows stored) lines accepted valid of_rows in
        let told : failed_in text ≡ failures_of replies = ap failed_in (is ∙ sym (append-nil (text_of replies))) ∙ replies-failed replies [] tells refl in
        let known : AreFailed (failed_in text) replies = subst (λ ns. AreFailed ns replies) (sym told) (failures-known 0 replies (replies-rise rows failed (start rows stored) 0 lines rise)) in
        record {
          told = is ∙ ap text_of (all-same rows failed (failed_in text) (start rows stored) lines (line-valid step rows accepted failed) valid known);
          apart = λ p. law rows (failed_in text) stored lines p accepted valid of_rows;
        }

    -- a front of the replies to some first lines and of what comes then
    module _ (failed : List ℕ) (before behind : List Line) (all : before ++ behind ≡ lines) (tail front back : List ℕ) (fronts : (front : List ℕ) → front ++ back ≡ tail → HasNoReply front) where
      front-apart : front ++ back ≡ text_of (run_replies rows before stored failed) ++ tail → TellsApart rows lines stored front
      front-apart is =
          let w = start rows stored in
          let tells = tell rows failed w before accepted valid (all-front (IsLineOf rows) before behind (subst (λ (ls : List Line). AllByRecursion (IsLineOf rows) ls) (sym all) of_rows)) in
          let splits = splits-replies HasNoReply (λ text part. inl part) back tail fronts (run_replies rows before stored failed) front tells is in
          let replies = splits.first in
          let told : failed_in front ≡ failures_of replies =
          ap failed_in splits.text ∙ replies-failed replies splits.rest (all-front ReplyLineTells replies splits.others (subst (λ (ts : List Told). AllByRecursion ReplyLineTells ts) (sym splits.all) tells)) (no_reply-failed splits.rest splits.no_reply) in
          let rises : Rise 0 replies =
          first-rise 0 replies splits.others (subst (λ (ts : List Told). Rise 0 ts) (sym splits.all) (replies-rise rows failed w 0 before (lines-front 0 before behind (subst (λ (ls : List Line). LinesRise 0 ls) (sym all) rise)))) in
          let first : (other : List ℕ) → AreFailed other replies → AreFirst replies (run_replies rows lines stored other) =
          λ other are.
          let more = first-same rows failed other (line-valid step rows accepted failed) before w replies splits.others valid are splits.all in
          let later = replies_to rows other (world_after_all rows other w before) behind in
          (more.0 ++ later, sym (append_assoc replies more.0 later) ∙ ap (λ (ts : List Told). ts ++ later) more.1 ∙ sym (replies-append rows other w before behind) ∙ ap (replies_to rows other w) all) in
          record {
            replies = replies;
            rest = splits.rest;
            told = splits.text;
            no_reply = splits.no_reply;
            known = subst (λ ns. AreFailed ns replies) (sym told) (failures-known 0 replies rises);
            first = first;
            apart = λ other are p. own-first replies other p (first other are);
          }

-- ---- how a run ends

err-ok : {X E : Type 0} {x : X} {e : E} → ◌≡◌ {A = Result X E} (Err e) (Ok x) → ⊥
err-ok w = cc

module _ (law : RepliesDependOnUpstream) (tell : ReplyLinesTell) (step : StepKeepsValid) {V : Type 0} (v : V) (old now : Seen) (rows : Rows) (lines : List Line) (stored : Durable)
    (table : ReadsTable old (Ok rows)) (script : ReadsLines rows old (Ok lines)) (image : state_of rows old.view ≡ Ok stored) where
  -- what the sources and the image give is known
  same-table : {a : Rows} → GaveTable old.table now.table a → a ≡ rows
  same-table gave = ok-ok {E = TableError} (gave-reads gave table.0 table.1 table.2)

  script-gives : {a : Rows} {read : Result (List Line) Refusal} → GaveTable old.table now.table a → ((bytes : List ℕ) → old.script ≡ Some bytes → script_of a bytes ≡ read) → read ≡ Ok lines
  script-gives {a} {read} gave is = sym (subst (λ (x : Rows). script_of x script.0 ≡ read) (same-table gave) (is script.0 script.1)) ∙ script.2

  image-gives : {a : Rows} {found : Result Durable ImageRefusal} → GaveTable old.table now.table a → state_of a old.view ≡ found → found ≡ Ok stored
  image-gives {a} {found} gave is = sym (subst (λ (x : Rows). state_of x old.view ≡ found) (same-table gave) is) ∙ image

  accepted : IsAccepted rows
  accepted = table_accepted table.0 rows table.2

  spelled : SpellsScript rows script.0 lines
  spelled = script_spells rows (accepted_ready rows accepted).names script.0 lines script.2

  of_rows : AllByRecursion (IsLineOf rows) lines
  of_rows = script_of_table rows script.0 lines spelled

  rise : LinesRise 0 lines
  rise = script-rise rows script.0 lines spelled

  -- what is due is that of a run of these lines from this state
  module _ {a : Rows} {found : List Line} {text : List ℕ} (some : List Line → List Line) (gave : GaveTable old.table now.table a) (run : IsRunText V a (some found) old now text) where
    same-stored : (run.of_image v).stored ≡ stored
    same-stored = ok-ok {E = ImageRefusal} (image-gives gave (run.of_image v).image)

    run-valid : IsValid rows (start rows stored)
    run-valid =
        let from = run.of_image v in
        subst (λ (d : Durable). IsValid rows (start rows d)) same-stored (subst (λ (x : Rows). IsValid x (start x from.stored)) (same-table gave) from.valid)

    text-is : GaveScript old.script now.script a found → text ≡ run_text rows run.failed (start rows stored) (some lines)
    text-is given =
        let from = run.of_image v in
        from.holds ∙ ap (λ (x : Rows). run_text x run.failed (start x from.stored) (some found)) (same-table gave)
        ∙ ap (λ (ls : List Line). run_text rows run.failed (start rows from.stored) (some ls)) (ok-ok {E = Refusal} (script-gives gave given.spelled))
        ∙ ap (λ (d : Durable). run_text rows run.failed (start rows d) (some lines)) same-stored

  -- a front of what is due
  reason-apart : {status : Status} {due : List ℕ} → Ends V old now (Some Run) status due → (front back : List ℕ) → front ++ back ≡ due → TellsApart rows lines stored front
  reason-apart (table_fault c rose) front back is = none-apart rows lines stored front (line-front (codes "source fault table") refl of_table front back is)
  reason-apart (table_refused c e none) front back is = absurd (err-ok (sym (none table.0 table.1) ∙ table.2))
  reason-apart (script_fault c a gave reads rose) front back is = none-apart rows lines stored front (line-front (codes "source fault script") refl of_script front back is)
  reason-apart (script_refused c a r gave reads none) front back is = absurd (err-ok (script-gives gave none))
  reason-apart (image_refused c a r gave has none) front back is = absurd (err-ok (image-gives gave (none.reason v)))
  reason-apart (mount_fault c a gave has rose) front back is = none-apart rows lines stored front (line-front (codes "device fault mount") refl of_mount front back is)
  reason-apart (fault_in_line a found k line text gave given at run cause) front back is =
      let number = line.number in
      front-apart rows lines stored law tell step accepted (run-valid (take k) gave run) of_rows rise run.failed (take k lines) (drop k lines) (take-append-drop k lines) (fault_line number) front back
      (λ part. line-front (fault_text number) (fault-no_feed number) (in_line number) part back)
      (is ∙ ap (λ (x : List ℕ). x ++ fault_line number) (text-is (take k) gave run given))
  reason-apart (ran a found text gave given run) front back is =
      let every : List Line → List Line = λ ls. ls in
      front-apart rows lines stored law tell step accepted (run-valid every gave run) of_rows rise run.failed lines [] (append-nil lines) [] front back
      (λ part. none-front part back)
      (is ∙ text-is every gave run given ∙ sym (append-nil (run_text rows run.failed (start rows stored) lines)))
  reason-apart (starved c) front back is = none-apart rows lines stored front (none-front front back is)

  -- all of it, where a run comes to its end
  done-apart : {due : List ℕ} → Ends V old now (Some Run) Done due → TellsAllApart rows lines stored due
  done-apart (ran a found text gave given run) =
      let every : List Line → List Line = λ ls. ls in
      all-apart rows lines stored law tell step accepted (run-valid every gave run) of_rows rise run.failed text (text-is every gave run given)

  module _ {T : Type 0} (t : T) where
    pub told-apart : {result : Status} → EndsSo T V (Some Run) old now result → HasTold old.told now.told (TellsApart rows lines stored)
    told-apart ends =
        ⊎_elim (λ all. (ends.due, all.1 t, reason-apart ends.reason ends.due [] (append-nil ends.due)))
        (λ cut. let part = cut.2.part t in (part.0, part.3, reason-apart ends.reason part.0 part.1 part.2)) ends.told

    pub all-told : EndsSo T V (Some Run) old now Done → HasTold old.told now.told (TellsAllApart rows lines stored)
    all-told ends =
        let P : Status → Type 0 = λ s. Ends V old now (Some Run) s ends.due in
        ⊎_elim (λ all. (ends.due, all.1 t, done-apart (subst P (sym all.0) ends.reason))) (λ cut. absurd (let w : Done ≡ ReplyFault = cut.0 in cc)) ends.told
