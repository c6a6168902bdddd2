-- What follows from how a command ends, by the reasons.
use Rattle.std.proofs.Common.{◌≡◌, ℕ, ◌<◌, ◌≤◌, ◌⊎◌, inl, inr, ⊎_elim, Bool, true, false, List, ◌++◌, Option, Some, None, refl, sym, ◌∙◌, ap, subst, arith}
use Rattle.std.specs.Prelude.{[], ◌∷◌, length, Result, Ok, Err}
use Rattle.apex_types.specs.Rows.{Rows}
use Rattle.apex_types.specs.declared.calls.Line.{Line}
use Rattle.apex_model.specs.Durable.{Durable, start}
use Rattle.apex_model.specs.Image.{Refusal as ImageRefusal, state_of, too_small}
use Rattle.apex_model.specs.Layout.{layout_blocks}
use Rattle.rig_core.specs.Causes.{Rose}
use Rattle.rig_core.specs.Outside.{Outside}
use Rattle.rig_core.proofs.Moments.{pairs_weaker}
use Rattle.table_model.specs.Table.{table_of}
use Rattle.table_model.specs.declared.errors.TableError.{TableError}
use Rattle.script_model.specs.Reading.{partition_at}
use Rattle.script_model.specs.Script.{Refusal, script_of}
use Rattle.script_model.specs.Refusals.{refusal_line}
use Rattle.script_run.specs.Pairs.{IsPair}
use Rattle.apex_host.specs.Disk.{IsMomentOfFormat, FormatsDisk, BeginsFormat, LeavesRun, BeginsRun, RunsSafely, LeavesDisk, untouched, formatted, format_failed, ran as carried, run_failed}
use Rattle.apex_host.specs.Endings.{Seen, Ends, usage, table_fault, table_refused, starved, too_small_to_format, format_fault, formatted as made, unknown_partition, script_fault, script_refused, image_refused, mount_fault, checked, fault_in_line, ran, fault_in_own_line, heard, stress_fault, stressed, too_large, swept, is_too_large, IsSweep, EndsSo, IsRunText, IsHeardText, StandsForOne, IsNamed, ReadsFor, OpensImage, RefusesImage, LineFailed, GaveTable, GaveScript, DeviceFailed, image_bytes}
use Rattle.power_sweep.specs.declared.sweeping.Swept.{Swept}
use Rattle.apex_host.specs.Laws.{Means, MeansRefused, MeansFault, IsGiven, ReadsTable, ReadsLines, EndsWith, EndsOrStarves, TellsSweep, IsQuiet, IsQuietRun, IsQuietFormat}
use Rattle.apex_host.specs.Told.{run_text, own_text, load_tally, formatted_line, good_line, stressed_line, swept_line, unknown_partition_line, too_large_line, usage_line, table_refused_line, image_refused_line}
use Rattle.apex_host.specs.declared.command.Command.{Command}
use Rattle.apex_host.specs.declared.command.Command.TheVariants.{Format, Run, Only, Check, Stress, Sweep}
use Rattle.apex_host.specs.declared.status.Status.{Status}
use Rattle.apex_host.specs.declared.status.Status.TheVariants.{Done, Usage, TableRefused, ScriptRefused, ImageRefused, CommandRefused, OutOfMemory}
use Rattle.apex_host.proofs.Cuts.{none-failed}
use Rattle.apex_host.proofs.Disks.{same-moment}

-- ---- what each status means

means-refused : (V : Type 0) (old now : Seen) (rows : Rows) (r : ImageRefusal) (c : Command) → OpensImage old now rows c → RefusesImage V rows old.size old.view r → MeansRefused V c old now rows
means-refused V old now rows r Format has is = absurd has
means-refused V old now rows r Run has is = (has, (r, is))
means-refused V old now rows r (Only name) has is = (has, (r, is))
means-refused V old now rows r Check has is = (has, (r, is))
means-refused V old now rows r (Stress seed count) has is = (has, (r, is))
means-refused V old now rows r Sweep has is = absurd has

means-fault : (old now : Seen) (rows : Rows) (c : Command) → OpensImage old now rows c → DeviceFailed old now → MeansFault c old now
means-fault old now rows Format has rose = rose
means-fault old now rows Run has rose = rose
means-fault old now rows (Only name) has rose = rose
means-fault old now rows Check has rose = rose
means-fault old now rows (Stress seed count) has rose = rose
means-fault old now rows Sweep has rose = has

state-of : {view : List ℕ} {rows : Rows} {P : Durable → Type 0} → StandsForOne rows view P → (stored : Durable) × (state_of rows view ≡ Ok stored)
state-of one = (one.stored, one.image)

module _ {V : Type 0} {old now : Seen} where
  reason-means : {command : Option Command} {status : Status} {due : List ℕ} → Ends V old now command status due → Means V command old now status
  reason-means usage = refl
  reason-means (table_fault c rose) = inl rose
  reason-means (table_refused c error is) = (error, is)
  reason-means (too_small_to_format rows gave small) = (Format, refl, (rows, gave, small))
  reason-means (format_fault rows gave room rose) = (Format, refl, rose)
  reason-means (made rows gave room) = (Format, refl, (rows, gave, room))
  reason-means (unknown_partition name rows gave none) = (Only name, refl, (rows, gave, none))
  reason-means (script_fault c rows gave reads rose) = inr rose
  reason-means (script_refused c rows r gave reads is) = (c, refl, (rows, r, gave, reads, is))
  reason-means (image_refused c rows r gave has is) = (c, refl, (rows, gave, means-refused V old now rows r c has is))
  reason-means (mount_fault c rows gave has rose) = (c, refl, means-fault old now rows c has (inl rose))
  reason-means (checked rows gave is) = (Check, refl, (rows, gave, (tt, λ v. state-of (is v))))
  reason-means (fault_in_line rows lines k line text gave read at is cause) = (Run, refl, ⊎_elim (λ r. inr r) (λ r. inl r.1) cause)
  reason-means (ran rows lines text gave read is) = (Run, refl, (rows, gave, ((tt, (lines, read)), λ v. state-of (is.of_image v))))
  reason-means (fault_in_own_line name rows p lines k line text gave named read at own is cause) = (Only name, refl, cause)
  reason-means (heard name rows p lines text gave named read is) = (Only name, refl, (rows, gave, (((p, named), (lines, read)), λ v. state-of (is v))))
  reason-means (stress_fault seed count rows gave is cause) = (Stress seed count, refl, cause)
  reason-means (stressed seed count rows tally gave is) = (Stress seed count, refl, (rows, gave, (tt, λ v. state-of (is v))))
  reason-means (too_large rows lines gave read large) = (Sweep, refl, (rows, gave, (lines, read, large)))
  reason-means (swept rows lines counts gave read small is) = (Sweep, refl, (rows, gave, (lines, read, small)))
  reason-means (starved c) = (c, refl, tt)

pub statuses-mean : (T V : Type 0) (command : Option Command) (old now : Seen) (result : Status) → EndsSo T V command old now result → Means V command old now result
statuses-mean T V command old now result ends =
    let P : Status → Type 0 = λ s. Means V command old now s in
    ⊎_elim (λ is. subst P (sym is.0) (reason-means ends.reason)) (λ fault. subst P (sym fault.0) fault.2.rose) ends.told

-- ---- sources that are known

-- a source gives one table, and a table one script
pub gave-reads : {left now : Option (List ℕ)} {rows : Rows} {read : Result Rows TableError} → GaveTable left now rows → (bytes : List ℕ) → left ≡ Some bytes → table_of bytes ≡ read → Ok rows ≡ read
gave-reads gave bytes is reads = sym (gave.spelled bytes is) ∙ reads

ok-err : {X E : Type 0} {x : X} {e : E} → ◌≡◌ {A = Result X E} (Ok x) (Err e) → ⊥
ok-err w = cc

pub ok-ok : {X E : Type 0} {x y : X} → ◌≡◌ {A = Result X E} (Ok x) (Ok y) → x ≡ y
ok-ok w = cc

err-err : {X E : Type 0} {e f : E} → ◌≡◌ {A = Result X E} (Err e) (Err f) → e ≡ f
err-err w = cc

none-some : {X : Type 0} {x : X} {o : Option X} → o ≡ None → o ≡ Some x → ⊥
none-some {X} {x} none some = let w : ◌≡◌ {A = Option X} None (Some x) = sym none ∙ some in cc

pub some-some : {X : Type 0} {x y : X} → ◌≡◌ {A = Option X} (Some x) (Some y) → x ≡ y
some-some w = cc

true-false : ◌≡◌ {A = Bool} true false → ⊥
true-false w = cc

no-length : (xs : List ℕ) → length xs ≡ 0 → xs ≡ []
no-length [] none = refl
no-length (x ∷ xs) none = absurd (omega (arith, none))

-- the reason is this one
abbrev pub IsReason : Status → List ℕ → Status → List ℕ → Type 0
IsReason status due wanted text = (status ≡ wanted) × (due ≡ text)

-- the reason is this one, or memory ran out, in a command that told all
module _ {T V : Type 0} {command : Option Command} {old now : Seen} {result : Status} (ends : EndsSo T V command old now result) where
  ends-with : {status : Status} {text : List ℕ} → (result ≡ ends.status) × (T → now.told ≡ old.told ++ ends.due) → IsReason ends.status ends.due status text → EndsWith T old now result status text
  ends-with told both = (told.0 ∙ both.0, λ v. told.1 v ∙ ap (λ (x : List ℕ). old.told ++ x) both.1)

  ends-or-starves : {status : Status} {text : List ℕ} → IsQuiet old now → IsReason ends.status ends.due status text ⊎ (ends.status ≡ OutOfMemory) → EndsOrStarves T old now result status text
  ends-or-starves quiet reason =
      ⊎_elim (λ told. ⊎_elim (λ both. inl (ends-with told both)) (λ memory. inr (told.0 ∙ memory)) reason) (λ fault. absurd (quiet.tells fault.2.rose)) ends.told

-- ---- what is no command

usage-reason : {V : Type 0} {old now : Seen} {status : Status} {due : List ℕ} → Ends V old now None status due → IsReason status due Usage usage_line
usage-reason usage = (refl, refl)

pub tells-usage : (T V : Type 0) (old now : Seen) (result : Status) → EndsSo T V None old now result → (Rose old.tell_faults now.tell_faults → ⊥) → EndsWith T old now result Usage usage_line
tells-usage T V old now result ends quiet = ⊎_elim (λ told. ends-with ends told (usage-reason ends.reason)) (λ fault. absurd (quiet fault.2.rose)) ends.told

-- ---- a refused table

module _ {old now : Seen} (e : TableError) (quiet : IsQuiet old now) (reads : ReadsTable old (Err e)) where
  none-given : {rows : Rows} → GaveTable old.table now.table rows → ⊥
  none-given gave = ok-err (gave-reads gave reads.0 reads.1 reads.2)

  refused-reason : {V : Type 0} {c : Command} {status : Status} {due : List ℕ} → Ends V old now (Some c) status due → IsReason status due TableRefused (table_refused_line e) ⊎ (status ≡ OutOfMemory)
  refused-reason (table_fault c rose) = absurd (quiet.table rose)
  refused-reason (table_refused c error is) = inl (refl, ap table_refused_line (err-err {X = Rows} (sym (is reads.0 reads.1) ∙ reads.2)))
  refused-reason (too_small_to_format rows gave small) = absurd (none-given gave)
  refused-reason (format_fault rows gave room rose) = absurd (none-given gave)
  refused-reason (made rows gave room) = absurd (none-given gave)
  refused-reason (unknown_partition name rows gave none) = absurd (none-given gave)
  refused-reason (script_fault c rows gave reads rose) = absurd (none-given gave)
  refused-reason (script_refused c rows r gave reads is) = absurd (none-given gave)
  refused-reason (image_refused c rows r gave has is) = absurd (none-given gave)
  refused-reason (mount_fault c rows gave has rose) = absurd (none-given gave)
  refused-reason (checked rows gave is) = absurd (none-given gave)
  refused-reason (fault_in_line rows lines k line text gave read at is cause) = absurd (none-given gave)
  refused-reason (ran rows lines text gave read is) = absurd (none-given gave)
  refused-reason (fault_in_own_line name rows p lines k line text gave named read at own is cause) = absurd (none-given gave)
  refused-reason (heard name rows p lines text gave named read is) = absurd (none-given gave)
  refused-reason (stress_fault seed count rows gave is cause) = absurd (none-given gave)
  refused-reason (stressed seed count rows tally gave is) = absurd (none-given gave)
  refused-reason (too_large rows lines gave read large) = absurd (none-given gave)
  refused-reason (swept rows lines counts gave read small is) = absurd (none-given gave)
  refused-reason (starved c) = inr refl

pub refuses-tables : (T V : Type 0) (c : Command) (old now : Seen) (result : Status) (e : TableError) → EndsSo T V (Some c) old now result → IsQuiet old now → ReadsTable old (Err e) → EndsOrStarves T old now result TableRefused (table_refused_line e)
refuses-tables T V c old now result e ends quiet reads = ends-or-starves ends quiet (refused-reason e quiet reads ends.reason)

-- ---- an accepted table

module _ {old now : Seen} {rows : Rows} (quiet : IsQuiet old now) (reads : ReadsTable old (Ok rows)) where
  same-table : {a : Rows} → GaveTable old.table now.table a → a ≡ rows
  same-table gave = ok-ok {E = TableError} (gave-reads gave reads.0 reads.1 reads.2)

  no-error : {e : TableError} → ((bytes : List ℕ) → old.table ≡ Some bytes → table_of bytes ≡ Err e) → ⊥
  no-error is = ok-err (sym reads.2 ∙ is reads.0 reads.1)

  not-named : {a : Rows} (name : List ℕ) → partition_at rows name ≡ None → GaveTable old.table now.table a → ((p : ℕ) × IsNamed a name p) → ⊥
  not-named name none gave named = none-some none (sym (ap (λ (x : Rows). partition_at x name) (same-table gave)) ∙ named.1)

  -- what a script gives for the rows that were read
  module _ {read : Result (List Line) Refusal} (still : (Rose old.script_faults now.script_faults) → ⊥) (lines_of : ReadsLines rows old read) where
    script-gives : {a : Rows} {r : Result (List Line) Refusal} → GaveTable old.table now.table a → ((bytes : List ℕ) → old.script ≡ Some bytes → script_of a bytes ≡ r) → r ≡ read
    script-gives {a} {r} gave is = sym (subst (λ (x : Rows). script_of x lines_of.0 ≡ r) (same-table gave) (is lines_of.0 lines_of.1)) ∙ lines_of.2

    -- what a command ends with where the script's bytes are none
    module _ {refusal : Refusal} (none : read ≡ Err refusal) where
      no-lines : {a : Rows} {lines : List Line} → GaveTable old.table now.table a → GaveScript old.script now.script a lines → ⊥
      no-lines gave given = ok-err (script-gives gave given.spelled ∙ none)

      no-input : {a : Rows} (c : Command) → ReadsFor rows c → GaveTable old.table now.table a → OpensImage old now a c → ⊥
      no-input Format wants gave has = has
      no-input Run wants gave has = no-lines gave has.1.1
      no-input (Only name) wants gave has = no-lines gave has.1.1
      no-input Check wants gave has = wants
      no-input (Stress seed count) wants gave has = wants
      no-input Sweep wants gave has = has

      script-reason : {V : Type 0} {c : Command} {status : Status} {due : List ℕ} → ReadsFor rows c → Ends V old now (Some c) status due → IsReason status due ScriptRefused (refusal_line refusal) ⊎ (status ≡ OutOfMemory)
      script-reason wants (table_fault c rose) = absurd (quiet.table rose)
      script-reason wants (table_refused c error is) = absurd (no-error is)
      script-reason wants (too_small_to_format a gave small) = absurd wants
      script-reason wants (format_fault a gave room rose) = absurd wants
      script-reason wants (made a gave room) = absurd wants
      script-reason wants (unknown_partition name a gave unknown) = absurd (none-some (sym (ap (λ (x : Rows). partition_at x name) (same-table gave)) ∙ unknown) wants.1)
      script-reason wants (script_fault c a gave reads rose) = absurd (still rose)
      script-reason wants (script_refused c a found gave reads is) = inl (refl, ap refusal_line (err-err {X = List Line} (script-gives gave is ∙ none)))
      script-reason wants (image_refused c a r gave has is) = absurd (no-input c wants gave has)
      script-reason wants (mount_fault c a gave has rose) = absurd (no-input c wants gave has)
      script-reason wants (checked a gave is) = absurd wants
      script-reason wants (fault_in_line a lines k line text gave given at is cause) = absurd (no-lines gave given)
      script-reason wants (ran a lines text gave given is) = absurd (no-lines gave given)
      script-reason wants (fault_in_own_line name a p lines k line text gave named given at own is cause) = absurd (no-lines gave given)
      script-reason wants (heard name a p lines text gave named given is) = absurd (no-lines gave given)
      script-reason wants (stress_fault seed count a gave is cause) = absurd wants
      script-reason wants (stressed seed count a tally gave is) = absurd wants
      script-reason wants (too_large a lines gave given large) = absurd (no-lines gave given)
      script-reason wants (swept a lines counts gave given small is) = absurd (no-lines gave given)
      script-reason wants (starved c) = inr refl

    -- the lines that they are, else
    module _ {lines : List Line} (some : read ≡ Ok lines) where
      same-lines : {a : Rows} {found : List Line} → GaveTable old.table now.table a → GaveScript old.script now.script a found → found ≡ lines
      same-lines gave given = ok-ok {E = Refusal} (script-gives gave given.spelled ∙ some)

      no-refusal : {a : Rows} {r : Refusal} → GaveTable old.table now.table a → ((bytes : List ℕ) → old.script ≡ Some bytes → script_of a bytes ≡ Err r) → ⊥
      no-refusal gave is = ok-err (sym some ∙ sym (script-gives gave is))

  -- by what the image stands for
  module _ {V : Type 0} (v : V) (still : (Rose old.script_faults now.script_faults) → ⊥) (sound : DeviceFailed old now → ⊥) where
    image-of : {a : Rows} {r : Result Durable ImageRefusal} → GaveTable old.table now.table a → state_of a old.view ≡ r → state_of rows old.view ≡ r
    image-of {a} {r} gave is = subst (λ (x : Rows). state_of x old.view ≡ r) (same-table gave) is

    -- it is refused, or a command comes to its end with this text
    abbrev EndsByImage : Status → List ℕ → (Durable → List ℕ) → Type 0
    EndsByImage status due text = ((r : ImageRefusal) × (state_of rows old.view ≡ Err r) × IsReason status due ImageRefused (image_refused_line r))
        ⊎ (((stored : Durable) × (state_of rows old.view ≡ Ok stored) × IsReason status due Done (text stored)) ⊎ (status ≡ OutOfMemory))

    module _ (lines : List Line) (spelled : ReadsLines rows old (Ok lines)) where
      no-line_failed : (line : Line) → LineFailed line old now → ⊥
      no-line_failed line cause = ⊎_elim (λ r. sound (inr r)) (λ r. sound (inl r.1)) cause

      -- no read failed, so that all replies are those of the services
      ran-text : {a : Rows} {found : List Line} {text : List ℕ} → GaveTable old.table now.table a → GaveScript old.script now.script a found → (is : IsRunText V a found old now text)
          → text ≡ run_text rows [] (start rows (is.of_image v).stored) lines
      ran-text {a} {found} gave given is =
          let from = (is.of_image v).stored in
          let none : is.failed ≡ [] = no-length is.failed (none-failed (length is.failed) old.read_faults now.read_faults (λ rose. sound (inl rose)) is.few) in
          (is.of_image v).holds ∙ ap (λ (x : List ℕ). run_text a x (start a from) found) none ∙ ap (λ (x : Rows). run_text x [] (start x from) found) (same-table gave)
          ∙ ap (run_text rows [] (start rows from)) (same-lines still spelled refl gave given)

      run-reason : {status : Status} {due : List ℕ} → Ends V old now (Some Run) status due → EndsByImage status due (λ stored. run_text rows [] (start rows stored) lines)
      run-reason (table_fault c rose) = absurd (quiet.table rose)
      run-reason (table_refused c error is) = absurd (no-error is)
      run-reason (script_fault c a gave reads rose) = absurd (still rose)
      run-reason (script_refused c a found gave reads is) = absurd (no-refusal still spelled refl gave is)
      run-reason (image_refused c a r gave has is) = inl (r, image-of gave (is.reason v), (refl, refl))
      run-reason (mount_fault c a gave has rose) = absurd (sound (inl rose))
      run-reason (fault_in_line a found k line text gave given at is cause) = absurd (no-line_failed line cause)
      run-reason (ran a found text gave given is) = let from = is.of_image v in inr (inl (from.stored, image-of gave from.image, (refl, ran-text gave given is)))
      run-reason (starved c) = inr (inr refl)

      module _ (name : List ℕ) (p : ℕ) (is_named : IsNamed rows name p) where
        same-partition : {a : Rows} {q : ℕ} → GaveTable old.table now.table a → IsNamed a name q → q ≡ p
        same-partition gave named = some-some (sym named ∙ ap (λ (x : Rows). partition_at x name) (same-table gave) ∙ is_named)

        own-text-of : {a : Rows} {q : ℕ} {found : List Line} {text : List ℕ} → GaveTable old.table now.table a → IsNamed a name q → GaveScript old.script now.script a found → (is : IsHeardText V a q found old text)
            → text ≡ own_text rows p (start rows (is v).stored) lines
        own-text-of {a} {q} {found} gave named given is =
            let from = (is v).stored in
            (is v).holds ∙ ap (λ (x : Rows). own_text x q (start x from) found) (same-table gave) ∙ ap (λ n. own_text rows n (start rows from) found) (same-partition gave named)
            ∙ ap (own_text rows p (start rows from)) (same-lines still spelled refl gave given)

        own-reason : {status : Status} {due : List ℕ} → Ends V old now (Some (Only name)) status due → EndsByImage status due (λ stored. own_text rows p (start rows stored) lines)
        own-reason (table_fault c rose) = absurd (quiet.table rose)
        own-reason (table_refused c error is) = absurd (no-error is)
        own-reason (unknown_partition n a gave unknown) = absurd (none-some (sym (ap (λ (x : Rows). partition_at x name) (same-table gave)) ∙ unknown) is_named)
        own-reason (script_fault c a gave reads rose) = absurd (still rose)
        own-reason (script_refused c a found gave reads is) = absurd (no-refusal still spelled refl gave is)
        own-reason (image_refused c a r gave has is) = inl (r, image-of gave (is.reason v), (refl, refl))
        own-reason (mount_fault c a gave has rose) = absurd (sound (inl rose))
        own-reason (fault_in_own_line n a q found k line text gave named given at own is cause) = absurd (sound cause)
        own-reason (heard n a q found text gave named given is) = inr (inl ((is v).stored, image-of gave (is v).image, (refl, own-text-of gave named given is)))
        own-reason (starved c) = inr (inr refl)

    load-reason : (seed count : ℕ) {status : Status} {due : List ℕ} → Ends V old now (Some (Stress seed count)) status due → EndsByImage status due (λ stored. stressed_line count (load_tally rows seed count stored))
    load-reason seed count (table_fault c rose) = absurd (quiet.table rose)
    load-reason seed count (table_refused c error is) = absurd (no-error is)
    load-reason seed count (script_fault c a gave reads rose) = absurd reads
    load-reason seed count (script_refused c a found gave reads is) = absurd reads
    load-reason seed count (image_refused c a r gave has is) = inl (r, image-of gave (is.reason v), (refl, refl))
    load-reason seed count (mount_fault c a gave has rose) = absurd (sound (inl rose))
    load-reason seed count (stress_fault x n a gave is cause) = absurd (sound cause)
    load-reason seed count (stressed x n a tally gave is) =
        let from = (is v).stored in
        inr (inl (from, image-of gave (is v).image, (refl, ap (stressed_line count) ((is v).holds ∙ ap (λ (r : Rows). load_tally r seed count from) (same-table gave)))))
    load-reason seed count (starved c) = inr (inr refl)

    check-reason : {status : Status} {due : List ℕ} → Ends V old now (Some Check) status due → EndsByImage status due (λ stored. good_line rows)
    check-reason (table_fault c rose) = absurd (quiet.table rose)
    check-reason (table_refused c error is) = absurd (no-error is)
    check-reason (script_fault c a gave reads rose) = absurd reads
    check-reason (script_refused c a found gave reads is) = absurd reads
    check-reason (image_refused c a r gave has is) = inl (r, image-of gave (is.reason v), (refl, refl))
    check-reason (mount_fault c a gave has rose) = absurd (sound (inl rose))
    check-reason (checked a gave is) = inr (inl ((is v).stored, image-of gave (is v).image, (refl, ap good_line (same-table gave))))
    check-reason (starved c) = inr (inr refl)

    -- an image that is refused, and one that is not
    refused-as : {T : Type 0} {command : Option Command} {result : Status} (text : Durable → List ℕ) (ends : EndsSo T V command old now result) → EndsByImage ends.status ends.due text → (r : ImageRefusal)
        → state_of rows old.view ≡ Err r → EndsOrStarves T old now result ImageRefused (image_refused_line r)
    refused-as text ends by r image = ends-or-starves ends quiet
        (⊎_elim (λ found. inl (found.2.0, found.2.1 ∙ ap image_refused_line (err-err {X = Durable} (sym found.1 ∙ image))))
        (λ other. ⊎_elim (λ found. absurd (ok-err (sym found.1 ∙ image))) (λ memory. inr memory) other) by)

    done-as : {T : Type 0} {command : Option Command} {result : Status} (text : Durable → List ℕ) (ends : EndsSo T V command old now result) → EndsByImage ends.status ends.due text → (stored : Durable)
        → state_of rows old.view ≡ Ok stored → EndsOrStarves T old now result Done (text stored)
    done-as text ends by stored image = ends-or-starves ends quiet
        (⊎_elim (λ found. absurd (ok-err (sym image ∙ found.1)))
        (λ other. ⊎_elim (λ found. inl (found.2.0, found.2.1 ∙ ap text (ok-ok {E = ImageRefusal} (sym found.1 ∙ image)))) (λ memory. inr memory) other) by)

  unknown-reason : {V : Type 0} {status : Status} {due : List ℕ} (name : List ℕ) → partition_at rows name ≡ None → Ends V old now (Some (Only name)) status due
      → IsReason status due CommandRefused unknown_partition_line ⊎ (status ≡ OutOfMemory)
  unknown-reason name none (table_fault c rose) = absurd (quiet.table rose)
  unknown-reason name none (table_refused c error is) = absurd (no-error is)
  unknown-reason name none (unknown_partition n a gave unknown) = inl (refl, refl)
  unknown-reason name none (script_fault c a gave reads rose) = absurd (not-named name none gave reads)
  unknown-reason name none (script_refused c a found gave reads is) = absurd (not-named name none gave reads)
  unknown-reason name none (image_refused c a r gave has is) = absurd (not-named name none gave has.0)
  unknown-reason name none (mount_fault c a gave has rose) = absurd (not-named name none gave has.0)
  unknown-reason name none (fault_in_own_line n a q found k line text gave named given at own is cause) = absurd (not-named name none gave (q, named))
  unknown-reason name none (heard n a q found text gave named given is) = absurd (not-named name none gave (q, named))
  unknown-reason name none (starved c) = inr refl

  -- by the size of a sweep
  module _ (still : (Rose old.script_faults now.script_faults) → ⊥) {lines : List Line} (spelled : ReadsLines rows old (Ok lines)) where
    size-of : {a : Rows} {found : List Line} {large : Bool} → GaveTable old.table now.table a → GaveScript old.script now.script a found → is_too_large a found ≡ large → is_too_large rows lines ≡ large
    size-of {a} {found} {large} gave given is =
        subst (λ (ls : List Line). is_too_large rows ls ≡ large) (same-lines still spelled refl gave given) (subst (λ (x : Rows). is_too_large x found ≡ large) (same-table gave) is)

    large-reason : {V : Type 0} {status : Status} {due : List ℕ} → is_too_large rows lines ≡ true → Ends V old now (Some Sweep) status due → IsReason status due CommandRefused too_large_line ⊎ (status ≡ OutOfMemory)
    large-reason large (table_fault c rose) = absurd (quiet.table rose)
    large-reason large (table_refused c error is) = absurd (no-error is)
    large-reason large (script_fault c a gave reads rose) = absurd (still rose)
    large-reason large (script_refused c a found gave reads is) = absurd (no-refusal still spelled refl gave is)
    large-reason large (image_refused c a r gave has is) = absurd has
    large-reason large (mount_fault c a gave has rose) = absurd has
    large-reason large (too_large a found gave given is) = inl (refl, refl)
    large-reason large (swept a found counts gave given small is) = absurd (true-false (sym large ∙ size-of gave given small))
    large-reason large (starved c) = inr refl

    swept-reason : {V : Type 0} {status : Status} {due : List ℕ} → is_too_large rows lines ≡ false → Ends V old now (Some Sweep) status due
        → ((counts : Swept) × IsSweep rows lines counts × IsReason status due Done (swept_line counts)) ⊎ (status ≡ OutOfMemory)
    swept-reason small (table_fault c rose) = absurd (quiet.table rose)
    swept-reason small (table_refused c error is) = absurd (no-error is)
    swept-reason small (script_fault c a gave reads rose) = absurd (still rose)
    swept-reason small (script_refused c a found gave reads is) = absurd (no-refusal still spelled refl gave is)
    swept-reason small (image_refused c a r gave has is) = absurd has
    swept-reason small (mount_fault c a gave has rose) = absurd has
    swept-reason small (too_large a found gave given large) = absurd (true-false (sym (size-of gave given large) ∙ small))
    swept-reason small (swept a found counts gave given fits is) =
        inl (counts, subst (λ (ls : List Line). IsSweep rows ls counts) (same-lines still spelled refl gave given) (subst (λ (x : Rows). IsSweep x found counts) (same-table gave) is), (refl, refl))
    swept-reason small (starved c) = inr refl

  small-reason : {V : Type 0} {status : Status} {due : List ℕ} → old.size < image_bytes rows → Ends V old now (Some Format) status due → IsReason status due ImageRefused (image_refused_line (too_small (image_bytes rows))) ⊎ (status ≡ OutOfMemory)
  small-reason small (table_fault c rose) = absurd (quiet.table rose)
  small-reason small (table_refused c error is) = absurd (no-error is)
  small-reason small (too_small_to_format a gave less) = inl (refl, ap (λ (x : Rows). image_refused_line (too_small (image_bytes x))) (same-table gave))
  small-reason small (format_fault a gave room rose) = absurd (let fits = subst (λ (x : Rows). image_bytes x ≤ old.size) (same-table gave) room in omega (arith, fits, small))
  small-reason small (made a gave room) = absurd (let fits = subst (λ (x : Rows). image_bytes x ≤ old.size) (same-table gave) room in omega (arith, fits, small))
  small-reason small (script_fault c a gave wants rose) = absurd wants
  small-reason small (script_refused c a r gave wants is) = absurd wants
  small-reason small (image_refused c a r gave has is) = absurd has
  small-reason small (mount_fault c a gave has rose) = absurd has
  small-reason small (starved c) = inr refl

  room-reason : {V : Type 0} {status : Status} {due : List ℕ} → image_bytes rows ≤ old.size → (DeviceFailed old now → ⊥) → Ends V old now (Some Format) status due → IsReason status due Done (formatted_line (layout_blocks rows)) ⊎ (status ≡ OutOfMemory)
  room-reason fits sound (table_fault c rose) = absurd (quiet.table rose)
  room-reason fits sound (table_refused c error is) = absurd (no-error is)
  room-reason fits sound (too_small_to_format a gave less) = absurd (let small = subst (λ (x : Rows). old.size < image_bytes x) (same-table gave) less in omega (arith, fits, small))
  room-reason fits sound (format_fault a gave room rose) = absurd (sound rose)
  room-reason fits sound (made a gave room) = inl (refl, ap (λ (x : Rows). formatted_line (layout_blocks x)) (same-table gave))
  room-reason fits sound (script_fault c a gave wants rose) = absurd wants
  room-reason fits sound (script_refused c a r gave wants is) = absurd wants
  room-reason fits sound (image_refused c a r gave has is) = absurd has
  room-reason fits sound (mount_fault c a gave has rose) = absurd has
  room-reason fits sound (starved c) = inr refl

pub refuses-scripts : (T V : Type 0) (c : Command) (old now : Seen) (result : Status) (rows : Rows) (r : Refusal) → EndsSo T V (Some c) old now result → IsQuietRun old now → ReadsTable old (Ok rows) → ReadsFor rows c
    → ReadsLines rows old (Err r) → EndsOrStarves T old now result ScriptRefused (refusal_line r)
refuses-scripts T V c old now result rows r ends quiet reads wants script = ends-or-starves ends quiet.0 (script-reason quiet.0 reads quiet.1 script refl wants ends.reason)

pub refuses-partitions : (T V : Type 0) (name : List ℕ) (old now : Seen) (result : Status) (rows : Rows) → EndsSo T V (Some (Only name)) old now result → IsQuiet old now → ReadsTable old (Ok rows) → partition_at rows name ≡ None
    → EndsOrStarves T old now result CommandRefused unknown_partition_line
refuses-partitions T V name old now result rows ends quiet reads none = ends-or-starves ends quiet (unknown-reason quiet reads name none ends.reason)

module _ (T V : Type 0) (v : V) (old now : Seen) (result : Status) (rows : Rows) where
  pub refuses-images : (c : Command) (r : ImageRefusal) → EndsSo T V (Some c) old now result → IsQuietRun old now → ReadsTable old (Ok rows) → IsGiven rows old c → (DeviceFailed old now → ⊥) → state_of rows old.view ≡ Err r
      → EndsOrStarves T old now result ImageRefused (image_refused_line r)
  refuses-images Format r ends quiet reads given sound image = absurd given
  refuses-images Run r ends quiet reads given sound image = refused-as quiet.0 reads v quiet.1 sound (λ d. run_text rows [] (start rows d) given.0) ends (run-reason quiet.0 reads v quiet.1 sound given.0 given.1 ends.reason) r image
  refuses-images (Only name) r ends quiet reads given sound image =
      refused-as quiet.0 reads v quiet.1 sound (λ d. own_text rows given.0.0 (start rows d) given.1.0) ends (own-reason quiet.0 reads v quiet.1 sound given.1.0 given.1.1 name given.0.0 given.0.1 ends.reason) r image
  refuses-images (Stress seed count) r ends quiet reads given sound image =
      refused-as quiet.0 reads v quiet.1 sound (λ d. stressed_line count (load_tally rows seed count d)) ends (load-reason quiet.0 reads v quiet.1 sound seed count ends.reason) r image
  refuses-images Sweep r ends quiet reads given sound image = absurd given
  refuses-images Check r ends quiet reads given sound image = refused-as quiet.0 reads v quiet.1 sound (λ d. good_line rows) ends (check-reason quiet.0 reads v quiet.1 sound ends.reason) r image

  module _ (stored : Durable) (quiet : IsQuietRun old now) (reads : ReadsTable old (Ok rows)) (sound : DeviceFailed old now → ⊥) (image : state_of rows old.view ≡ Ok stored) where
    pub carries-out : (lines : List Line) → EndsSo T V (Some Run) old now result → ReadsLines rows old (Ok lines) → EndsOrStarves T old now result Done (run_text rows [] (start rows stored) lines)
    carries-out lines ends script = done-as quiet.0 reads v quiet.1 sound (λ d. run_text rows [] (start rows d) lines) ends (run-reason quiet.0 reads v quiet.1 sound lines script ends.reason) stored image

    pub hears-own : (lines : List Line) (name : List ℕ) (p : ℕ) → EndsSo T V (Some (Only name)) old now result → IsNamed rows name p → ReadsLines rows old (Ok lines) → EndsOrStarves T old now result Done (own_text rows p (start rows stored) lines)
    hears-own lines name p ends named script = done-as quiet.0 reads v quiet.1 sound (λ d. own_text rows p (start rows d) lines) ends (own-reason quiet.0 reads v quiet.1 sound lines script name p named ends.reason) stored image

    pub finds-good : EndsSo T V (Some Check) old now result → EndsOrStarves T old now result Done (good_line rows)
    finds-good ends = done-as quiet.0 reads v quiet.1 sound (λ d. good_line rows) ends (check-reason quiet.0 reads v quiet.1 sound ends.reason) stored image

    pub counts-load : (seed count : ℕ) → EndsSo T V (Some (Stress seed count)) old now result → EndsOrStarves T old now result Done (stressed_line count (load_tally rows seed count stored))
    counts-load seed count ends = done-as quiet.0 reads v quiet.1 sound (λ d. stressed_line count (load_tally rows seed count d)) ends (load-reason quiet.0 reads v quiet.1 sound seed count ends.reason) stored image

module _ (T V : Type 0) (old now : Seen) (result : Status) (rows : Rows) (lines : List Line) (ends : EndsSo T V (Some Sweep) old now result) (quiet : IsQuietRun old now) (reads : ReadsTable old (Ok rows)) (script : ReadsLines rows old (Ok lines)) where
  pub refuses-sweeps : is_too_large rows lines ≡ true → EndsOrStarves T old now result CommandRefused too_large_line
  refuses-sweeps large = ends-or-starves ends quiet.0 (large-reason quiet.0 reads quiet.1 script large ends.reason)

  pub sweeps : is_too_large rows lines ≡ false → TellsSweep T rows lines old now result
  sweeps small = ⊎_elim
      (λ told. ⊎_elim (λ found. inl (found.0, found.1, ends-with ends told found.2)) (λ memory. inr (told.0 ∙ memory)) (swept-reason quiet.0 reads quiet.1 script small ends.reason))
      (λ fault. absurd (quiet.0.tells fault.2.rose)) ends.told

pub refuses-small : (T V : Type 0) (old now : Seen) (result : Status) (rows : Rows) → EndsSo T V (Some Format) old now result → IsQuiet old now → ReadsTable old (Ok rows) → old.size < image_bytes rows
    → EndsOrStarves T old now result ImageRefused (image_refused_line (too_small (image_bytes rows)))
refuses-small T V old now result rows ends quiet reads small = ends-or-starves ends quiet (small-reason quiet reads small ends.reason)

pub formats-room : (T V : Type 0) (old now : Seen) (result : Status) (rows : Rows) → EndsSo T V (Some Format) old now result → IsQuietFormat old now → ReadsTable old (Ok rows) → image_bytes rows ≤ old.size
    → EndsOrStarves T old now result Done (formatted_line (layout_blocks rows))
formats-room T V old now result rows ends quiet reads fits = ends-or-starves ends quiet.0 (room-reason quiet.0 reads fits quiet.1 ends.reason)

-- ---- the disk while it is formatted

module _ (bytes : List ℕ) (rows : Rows) (accepted : table_of bytes ≡ Ok rows) {old new : Outside} where
  begun-moments : BeginsFormat (Some bytes) old new → FormatsDisk rows old new
  begun-moments begun = let same : begun.rows ≡ rows = ok-ok {E = TableError} (sym (begun.table bytes refl) ∙ accepted) in subst (λ (x : Rows). FormatsDisk x old new) same begun.moments

  pub moments : {T V : Type 0} {script : Option (List ℕ)} {status : Status} → LeavesDisk T V (Some bytes) script old new (Some Format) status → FormatsDisk rows old new
  moments (formatted ended) = begun-moments ended.begins
  moments (format_failed status why begun) = begun-moments begun
  moments (untouched command status not same) =
      pairs_weaker (λ image told. image ≡ old.view) (λ image told. IsMomentOfFormat rows old.view image) old new (λ image told is. same-moment rows old.view image is) same.cuts

-- ---- the disk while a script is carried out

module _ {T V : Type 0} (t : T) (v : V) (table script : List ℕ) (rows : Rows) (lines : List Line) (stored : Durable) (accepted : table_of table ≡ Ok rows) (read : script_of rows script ≡ Ok lines) {old new : Outside} (image : state_of rows old.view ≡ Ok stored) where
  begun-pairs : BeginsRun T V (Some table) (Some script) old new → RunsSafely rows lines stored old new
  begun-pairs begun =
      let same : begun.rows ≡ rows = ok-ok {E = TableError} (sym (begun.spelled table refl) ∙ accepted) in
      let alike : begun.lines ≡ lines = ok-ok {E = Refusal} (sym (subst (λ (x : Rows). script_of x script ≡ Ok begun.lines) same (begun.read script refl)) ∙ read) in
      let run = subst (λ (ls : List Line). LeavesRun T V rows ls old new) alike (subst (λ (x : Rows). LeavesRun T V x begun.lines old new) same begun.pairs) in
      pairs_weaker (λ image told. IsPair rows (start rows stored) lines old.told image told) (λ image told. (image ≡ old.view) ⊎ IsPair rows (start rows stored) lines old.told image told) old new (λ image told is. inr is)
      (run t v stored image)

  pub run-pairs : {status : Status} → LeavesDisk T V (Some table) (Some script) old new (Some Run) status → RunsSafely rows lines stored old new
  run-pairs (carried ended) = begun-pairs ended.begins
  run-pairs (run_failed status why begun) = begun-pairs begun
  run-pairs (untouched command status not same) =
      pairs_weaker (λ image told. image ≡ old.view) (λ image told. (image ≡ old.view) ⊎ IsPair rows (start rows stored) lines old.told image told) old new (λ image told is. inl is) same.cuts
