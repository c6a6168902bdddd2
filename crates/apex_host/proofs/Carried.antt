-- A script that is carried out from an opened image: what is due, and what the disk is.
use Rattle.std.proofs.Common.{◌≡◌, ◌≢◌, ℕ, ◌⊎◌, inl, inr, ⊎_elim, List, [], ◌++◌, length, Option, Some, refl, sym, ◌∙◌, ap, subst, arith, append_assoc}
use Rattle.std.specs.Prelude.{take, Result, Ok, Err}
use Rattle.std.specs.Option.{ForSome}
use Rattle.std.proofs.lemmas.List.{take_all, append-nil}
use Rattle.apex_types.specs.Rows.{Rows}
use Rattle.apex_types.specs.declared.calls.Line.{Line}
use Rattle.apex_model.specs.Durable.{Durable, start, empty_durable, IsCut}
use Rattle.apex_model.specs.Image.{Refusal, state_of}
use Rattle.apex_model.specs.Run.{replies_to, text_of, fault_line, world_after_all}
use Rattle.apex_model.specs.Validity.{IsValid}
use Rattle.apex_model.specs.World.{World}
use Rattle.rig_core.specs.Causes.{Rose}
use Rattle.rig_core.specs.Leaves.{LeavesPairs}
use Rattle.rig_core.specs.Outside.{Outside, Sound, OnlyReads, IsToldPart}
use Rattle.script_model.specs.Script.{script_of}
use Rattle.image_layout.specs.Ready.{Stores}
use Rattle.module_session.specs.Sessions.{IsOfLogbooks}
use Rattle.module_session.specs.declared.session.Session.{Session}
use Rattle.module_session.proofs.Ready.{session_in_step}
use Rattle.script_run.specs.Pairs.{IsPair}
use Rattle.script_run.specs.Reached.{IsDue, Reached, Halts, IsDueAtStop, replies_due, fault_due, StopsTelling, LeavesRunPairs}
use Rattle.script_run.proofs.OneLine.{text-front}
use Rattle.apex_host.specs.Disk.{LeavesDisk, ran, run_failed, BeginsRun, LeavesRun, HoldsRun}
use Rattle.apex_host.specs.Endings.{IsTableOf, GaveTable, GaveScript, seen, EndsSo, IsRunText}
use Rattle.apex_host.specs.Opening.{StartsFrom}
use Rattle.apex_host.specs.Told.{run_text, TellsPart}
use Rattle.apex_host.specs.declared.command.Command.TheVariants.{Run}
use Rattle.apex_host.specs.declared.status.Status.TheVariants.{Done, DeviceFault, ReplyFault}
use Rattle.apex_host.proofs.Cuts.{rose-after, few-earlier, front-some}
use Rattle.apex_host.proofs.Disks.{pairs-after-reads}
use Rattle.apex_host.proofs.Endings.{ends-run, ends-cut, ends-fault, ends-fault-cut}

pub ok-ok : {X E : Type 0} {x y : X} → ◌≡◌ {A = Result X E} (Ok x) (Ok y) → x ≡ y
ok-ok w = cc

-- the state of an image, or the empty one where it stands for none
abbrev pub state-or_empty : Rows → Result Durable Refusal → Durable
state-or_empty rows (Ok stored) = stored
state-or_empty rows (Err r) = empty_durable rows

-- ---- since reads alone were made

module _ {V : Type 0} (o m e : Outside) (reads : OnlyReads V o m) where
  cause-since : (line : Line) → Rose m.write_faults e.write_faults ⊎ (IsOfLogbooks line.deed × Rose m.read_faults e.read_faults) → Rose o.write_faults e.write_faults ⊎ (IsOfLogbooks line.deed × Rose o.read_faults e.read_faults)
  cause-since line cause = ⊎_elim
      (λ r. inl (rose-after o.write_faults m.write_faults e.write_faults reads.later.write_faults r))
      (λ r. inr (r.0, rose-after o.read_faults m.read_faults e.read_faults reads.later.read_faults r.1)) cause

  pub part-since : {T : Type 0} {due : List ℕ} (back : List ℕ) → due ≢ [] → Rose m.tell_faults e.tell_faults → (T → IsToldPart due m.told e.told) → TellsPart T (due ++ back) o e
  part-since {T} {due} back some rose part = record {
    something = front-some due back some;
    rose = rose-after o.tell_faults m.tell_faults e.tell_faults reads.later.tell_faults rose;
    part = λ tells.
        let is = part tells in
        (is.0, is.1 ++ back, sym (append_assoc is.0 is.1 back) ∙ ap (λ (x : List ℕ). x ++ back) is.2, is.3 ∙ ap (λ (x : List ℕ). x ++ is.0) reads.told);
  }

module _ {V : Type 0} (rows : Rows) (lines : List Line) (o m e : Outside) (reads : OnlyReads V o m) (first : Session) (starts : V → StartsFrom V rows o m first) where
  -- ---- the text, and how the command ends

  module _ {t t' s s' : Option (List ℕ)} {f f' g g' : ℕ} where
    due-text : {k : ℕ} {failed due : List ℕ} → IsDue V rows lines k first m e failed due → IsRunText V rows (take k lines) (seen t f s g o) (seen t' f' s' g' e) due
    due-text {k} {failed} {due} is = record {
      failed = failed;
      few = few-earlier (length failed) o.read_faults m.read_faults e.read_faults reads.later.read_faults is.few;
      of_image = λ v. let begun = starts v in record { stored = begun.stored; image = begun.image; valid = begun.valid; holds = is.text v (start rows begun.stored) begun.stands };
    }

    all-text : {failed due : List ℕ} → IsDue V rows lines (length lines) first m e failed due → IsRunText V rows lines (seen t f s g o) (seen t' f' s' g' e) due
    all-text {failed} {due} is = subst (λ (ls : List Line). IsRunText V rows ls (seen t f s g o) (seen t' f' s' g' e) due) (take_all (length lines) lines (omega arith)) (due-text is)

    -- the text of the first k lines, with that of the lines to come
    whole-text : {k : ℕ} {failed due : List ℕ} → IsDue V rows lines k first m e failed due → (back : List ℕ) × IsRunText V rows lines (seen t f s g o) (seen t' f' s' g' e) (due ++ back)
    whole-text {k} {failed} {due} is =
        let from = state-or_empty rows (state_of rows o.view) in
        let front = text-front rows failed (start rows from) lines k in (
          front.0,
          record {
            failed = failed;
            few = few-earlier (length failed) o.read_faults m.read_faults e.read_faults reads.later.read_faults is.few;
            of_image = λ v.
                let begun = starts v in
                let same : from ≡ begun.stored = ap (state-or_empty rows) begun.image in
                let told = is.text v (start rows begun.stored) begun.stands ∙ ap (λ (d : Durable). text_of (replies_to rows failed (start rows d) (take k lines))) (sym same) in
                record { stored = begun.stored; image = begun.image; valid = begun.valid; holds = ap (λ (x : List ℕ). x ++ front.0) told ∙ front.1 ∙ ap (λ (d : Durable). run_text rows failed (start rows d) lines) same };
          },
        )

    module _ {T : Type 0} (quiet : f' ≡ f) (still : g' ≡ g) (gave : GaveTable t t' rows) (read : GaveScript s s' rows lines) where
      pub ends-ran : {session : Session} → Reached T V rows lines (length lines) first m session e → EndsSo T V (Some Run) (seen t f s g o) (seen t' f' s' g' e) Done
      ends-ran reached = ends-run o e quiet still rows lines gave read (all-text reached.is_due) (λ tells. reached.told tells ∙ ap (λ (x : List ℕ). x ++ reached.due) reads.told)

      pub ends-halted : Halts T V rows lines first m e → EndsSo T V (Some Run) (seen t f s g o) (seen t' f' s' g' e) DeviceFault
      ends-halted halts =
          let fails = halts.fails in
          ends-fault o e quiet still rows lines gave read fails.k halts.line fails.at (due-text fails.is_due) (cause-since o m e reads halts.line fails.cause)
          (λ tells. halts.told tells ∙ ap (λ (x : List ℕ). x ++ (halts.due ++ fault_line halts.line.number)) reads.told)

      -- a part of a text that is due
      cut-at : {due : List ℕ} → IsDueAtStop V rows lines first m e due → due ≢ [] → Rose m.tell_faults e.tell_faults → (T → IsToldPart due m.told e.told) → EndsSo T V (Some Run) (seen t f s g o) (seen t' f' s' g' e) ReplyFault
      cut-at (replies_due k failed due is) some rose part = let whole = whole-text is in ends-cut o e quiet still rows lines gave read whole.1 (part-since o m e reads whole.0 some rose part)
      cut-at (fault_due line due fails) some rose part =
          let whole : TellsPart T ((due ++ fault_line line.number) ++ []) o e = part-since o m e reads [] some rose part in
          ends-fault-cut o e quiet still rows lines gave read fails.k line fails.at (due-text fails.is_due) (cause-since o m e reads line fails.cause)
          (subst (λ (x : List ℕ). TellsPart T x o e) (append-nil (due ++ fault_line line.number)) whole)

      pub ends-telling : StopsTelling T V rows lines first m e → EndsSo T V (Some Run) (seen t f s g o) (seen t' f' s' g' e) ReplyFault
      ends-telling stops = cut-at stops.is_due stops.something stops.rose stops.part

  -- ---- what the disk is

  start-valid : V → (stored : Durable) → state_of rows o.view ≡ Ok stored → IsValid rows (start rows stored)
  start-valid v stored image =
      let begun = starts v in
      let same : begun.stored ≡ stored = ok-ok {E = Refusal} (sym begun.image ∙ image) in
      subst (λ (d : Durable). IsValid rows (start rows d)) same begun.valid

  module _ {T : Type 0} (pairs : LeavesRunPairs T V rows lines first m e) where
    since-start : LeavesRun T V rows lines o e
    since-start tells v stored image =
        let begun = starts v in
        let same : begun.stored ≡ stored = ok-ok {E = Refusal} (sym begun.image ∙ image) in
        let P : List ℕ → Durable → Type 0 = λ before d. LeavesPairs (IsPair rows (start rows d) lines before) m e in
        let from : P m.told begun.stored = pairs tells v (start rows begun.stored) begun.stands begun.valid in
        pairs-after-reads V (IsPair rows (start rows stored) lines o.told) o m e reads (subst (λ (d : Durable). P o.told d) same (subst (λ (before : List ℕ). P before begun.stored) reads.told from))

  module _ {T K : Type 0} {session : Session} (sound : Sound V K e) (reached : Reached T V rows lines (length lines) first m session e) where
    -- what a cut leaves at the end, and what reads give
    held : V → (stored : Durable) → state_of rows o.view ≡ Ok stored → HoldsRun T rows lines stored o e
    held v stored image =
        let begun = starts v in
        let same : begun.stored ≡ stored = ok-ok {E = Refusal} (sym begun.image ∙ image) in
        let all = take_all (length lines) lines (omega arith) in
        let w = world_after_all rows reached.failed (start rows begun.stored) (take (length lines) lines) in
        let H : Rows → World → List ℕ → Type 0 = λ r x image. Stores r (IsCut x) image in
        let now = session_in_step V K e session w sound reached.ready (reached.stands (start rows begun.stored) begun.stands) v in
        let world : w ≡ world_after_all rows reached.failed (start rows stored) lines =
        ap (world_after_all rows reached.failed (start rows begun.stored)) all ∙ ap (λ (d : Durable). world_after_all rows reached.failed (start rows d) lines) same in
        let text : reached.due ≡ run_text rows reached.failed (start rows stored) lines =
        reached.is_due.text v (start rows begun.stored) begun.stands ∙ ap (run_text rows reached.failed (start rows begun.stored)) all ∙ ap (λ (d : Durable). run_text rows reached.failed (start rows d) lines) same in
        let move : (image : List ℕ) → H session.table w image → H rows (world_after_all rows reached.failed (start rows stored) lines) image =
        λ image h. subst (λ (x : World). H rows x image) world (subst (λ (r : Rows). H r w image) reached.same_table h) in
        record {
          failed = reached.failed;
          told = λ tells. reached.told tells ∙ ap (λ (x : List ℕ). x ++ reached.due) reads.told ∙ ap (λ (x : List ℕ). o.told ++ x) text;
          images = λ image told left. move image (now.0 image told left);
          view = move e.view now.1;
        }

  module _ {T : Type 0} {t s : Option (List ℕ)} (table : IsTableOf t rows) (script : ForSome s (λ bytes. script_of rows bytes ≡ Ok lines)) (pairs : LeavesRunPairs T V rows lines first m e) where
    run-begins : BeginsRun T V t s o e
    run-begins = record { rows = rows; lines = lines; spelled = table; read = script; pairs = since-start pairs; valid = start-valid }

    pub fault-leaves_run : LeavesDisk T V t s o e (Some Run) DeviceFault
    fault-leaves_run = run_failed DeviceFault (inl refl) run-begins

    pub cut-leaves_run : LeavesDisk T V t s o e (Some Run) ReplyFault
    cut-leaves_run = run_failed ReplyFault (inr refl) run-begins

    pub ran-leaves : {K : Type 0} {session : Session} → Sound V K e → Reached T V rows lines (length lines) first m session e → LeavesDisk T V t s o e (Some Run) Done
    unfolding run-begins
    ran-leaves sound reached = ran (record { begins = run-begins; holds = held sound reached })
