-- How a command ends, step by step.
use Rattle.std.proofs.Common.{◌≡◌, ℕ, ◌<◌, ◌≤◌, ◌⊎◌, inl, inr, ⊎_elim, true, false, List, [], ◌++◌, Option, Some, None, refl, sym, ◌∙◌, ap, subst, arith}
use Rattle.std.specs.Prelude.{length, take, slice_get, Result, Ok, Err, ⊤}
use Rattle.std.proofs.lemmas.Bool.{cases_lt}
use Rattle.apex_types.specs.Rows.{Rows}
use Rattle.apex_types.specs.declared.calls.Line.{Line}
use Rattle.rig_core.specs.Causes.{Rose}
use Rattle.rig_core.specs.Outside.{Outside, Later}
use Rattle.apex_model.specs.Layout.{layout_blocks}
use Rattle.recover_scan.specs.declared.errors.FormatError.{FormatError}
use Rattle.recover_scan.specs.declared.errors.FormatError.TheVariants as format
use Rattle.script_model.specs.Reading.{partition_at}
use Rattle.call_script.specs.Errors.{refusal_of}
use Rattle.apex_model.specs.Image.{too_small}
use Rattle.apex_model.specs.Run.{fault_line}
use Rattle.apex_host.specs.Endings.{Seen, seen, image_bytes, IsRunText, LineFailed, Ends, StandsForOne, ReadsFor, OpensImage, DeviceFailed, usage, table_fault, table_refused, starved, too_small_to_format, format_fault, formatted, unknown_partition, script_fault, script_refused, image_refused, mount_fault, checked, fault_in_line, ran, fault_in_own_line, heard, stress_fault, stressed, too_large, swept, IsLoadTally, is_too_large, IsSweep, EndsSo, GaveTable, GaveScript}
use Rattle.apex_host.specs.Stops.{told_with, StopsTable, StopsScript, StopsMount, Owes}
use Rattle.script_run.specs.declared.tally.Tally.{Tally}
use Rattle.power_sweep.specs.declared.sweeping.Swept.{Swept}
use Rattle.apex_host.specs.Told.{TellsPart, IsTold, usage_line, formatted_line, good_line, stressed_line, swept_line, unknown_partition_line, too_large_line, image_refused_line, mount_fault_line, format_fault_line, stress_fault_line}
use Rattle.apex_host.specs.declared.command.Command.{Command}
use Rattle.apex_host.specs.declared.command.Command.TheVariants.{Format, Run, Only, Check, Stress, Sweep}
use Rattle.apex_host.specs.declared.status.Status.{Status}
use Rattle.apex_host.specs.declared.status.Status.TheVariants.{Done, Usage, ImageRefused, CommandRefused, DeviceFault, ReplyFault, OutOfMemory}
use Rattle.apex_host.specs.declared.stops.Stop.{Stop}
use Rattle.apex_host.proofs.Cuts.{rose-before, rose-after, few-later}

-- ---- a line that is told at the end

module _ (m e : Outside) (later : Later m e) where
  read-later : (n : ℕ) → Rose n m.read_faults → Rose n e.read_faults
  read-later n rose = rose-before n m.read_faults e.read_faults rose later.read_faults

  write-later : (n : ℕ) → Rose n m.write_faults → Rose n e.write_faults
  write-later n rose = rose-before n m.write_faults e.write_faults rose later.write_faults

  device-later : (old : Seen) (t s : Option (List ℕ)) (f g : ℕ) → DeviceFailed old (seen t f s g m) → DeviceFailed old (seen t f s g e)
  device-later old t s f g rose = ⊎_elim (λ r. inl (read-later old.read_faults r)) (λ r. inr (write-later old.write_faults r)) rose

-- what a command was given stays given
input-later : (old : Seen) (t s : Option (List ℕ)) (f g : ℕ) (m e : Outside) (rows : Rows) (c : Command) → OpensImage old (seen t f s g m) rows c → OpensImage old (seen t f s g e) rows c
input-later old t s f g m e rows Format none = absurd none
input-later old t s f g m e rows Run has = has
input-later old t s f g m e rows (Only name) has = has
input-later old t s f g m e rows Check has = has
input-later old t s f g m e rows (Stress seed count) has = has
input-later old t s f g m e rows Sweep none = absurd none

module _ {V : Type 0} {old : Seen} (t s : Option (List ℕ)) (f g : ℕ) (m e : Outside) where
  -- it leaves the reason as it is
  module _ (later : Later m e) where
    text-later : {rows : Rows} {lines : List Line} {text : List ℕ} → IsRunText V rows lines old (seen t f s g m) text → IsRunText V rows lines old (seen t f s g e) text
    text-later is = record { failed = is.failed; few = few-later (length is.failed) old.read_faults m.read_faults e.read_faults is.few later.read_faults; of_image = is.of_image }

    ends-later : {command : Option Command} {status : Status} {due : List ℕ} → Ends V old (seen t f s g m) command status due → Ends V old (seen t f s g e) command status due
    ends-later usage = usage
    ends-later (table_fault c rose) = table_fault c rose
    ends-later (table_refused c error is) = table_refused c error is
    ends-later (too_small_to_format rows gave small) = too_small_to_format rows gave small
    ends-later (format_fault rows gave room rose) = format_fault rows gave room (device-later m e later old t s f g rose)
    ends-later (formatted rows gave room) = formatted rows gave room
    ends-later (unknown_partition name rows gave none) = unknown_partition name rows gave none
    ends-later (script_fault c rows gave reads rose) = script_fault c rows gave reads rose
    ends-later (script_refused c rows r gave reads is) = script_refused c rows r gave reads is
    ends-later (image_refused c rows r gave has is) = image_refused c rows r gave (input-later old t s f g m e rows c has) is
    ends-later (mount_fault c rows gave has rose) = mount_fault c rows gave (input-later old t s f g m e rows c has) (read-later m e later old.read_faults rose)
    ends-later (checked rows gave is) = checked rows gave is
    ends-later (fault_in_line rows lines k line text gave read at is cause) =
        fault_in_line rows lines k line text gave read at (text-later is) (⊎_elim (λ r. inl (write-later m e later old.write_faults r)) (λ r. inr (r.0, read-later m e later old.read_faults r.1)) cause)
    ends-later (ran rows lines text gave read is) = ran rows lines text gave read (text-later is)
    ends-later (fault_in_own_line name rows p lines k line text gave named read at own is cause) = fault_in_own_line name rows p lines k line text gave named read at own is (device-later m e later old t s f g cause)
    ends-later (heard name rows p lines text gave named read is) = heard name rows p lines text gave named read is
    ends-later (stress_fault seed count rows gave is cause) = stress_fault seed count rows gave is (device-later m e later old t s f g cause)
    ends-later (stressed seed count rows tally gave is) = stressed seed count rows tally gave is
    ends-later (too_large rows lines gave read large) = too_large rows lines gave read large
    ends-later (swept rows lines counts gave read small is) = swept rows lines counts gave read small is
    ends-later (starved c) = starved c

  -- where memory ran out nothing is due
  none-due : {c : Option Command} {due : List ℕ} → Ends V old (seen t f s g m) c OutOfMemory due → due ≡ []
  none-due (starved c) = refl

  pub ends-told : {T : Type 0} {command : Option Command} {end : Stop} {said : List ℕ} {result : Status} → Owes T V command old (seen t f s g m) end → said ≡ end.line → old.tell_faults ≤ m.tell_faults
      → Later m e → IsTold T said end.status m e result → EndsSo T V command old (seen t f s g e) result
  ends-told {T} {command} {end} {said} {result} owes same before later told =
      let P : Status → Type 0 = λ x. Ends V old (seen t f s g m) command x end.line in
      record {
        status = end.status;
        due = end.line;
        reason = ends-later later owes.reason;
        told = ⊎_elim (λ all. inl (all.0, λ v. all.1 v ∙ ap (λ (x : List ℕ). x ++ said) (owes.told v) ∙ ap (λ (x : List ℕ). old.told ++ x) same))
            (λ part. inr (
              part.0,
              λ memory. part.1.something (same ∙ none-due (subst P memory owes.reason)),
              record {
                something = λ none. part.1.something (same ∙ none);
                rose = rose-after old.tell_faults m.tell_faults e.tell_faults before part.1.rose;
                part = λ v. let is = part.1.part v in (is.0, is.1, is.2 ∙ same, is.3 ∙ ap (λ (x : List ℕ). x ++ is.0) (owes.told v));
              },
            )) told;
        sources_first = owes.sources_first;
      }

-- ---- why a command stops

module _ {T V : Type 0} (o : Outside) where
  -- words that are no command
  pub owes-usage : {t s : Option (List ℕ)} {f g : ℕ} → Owes T V None (seen t f s g o) (seen t f s g o) (told_with Usage usage_line)
  owes-usage = record { reason = usage; told = λ v. refl; sources_first = (inl refl, inl refl) }

  pub no-table : {t t' s : Option (List ℕ)} {f f' g : ℕ} {stop : Stop} (c : Command) → StopsTable t f f' stop → Owes T V (Some c) (seen t f s g o) (seen t' f' s g o) stop
  no-table c (StopsTable.refused error quiet is) = record { reason = table_refused c error is; told = λ v. refl; sources_first = (inl quiet, inl refl) }
  no-table c (StopsTable.fault rose) = record { reason = table_fault c rose; told = λ v. refl; sources_first = (inr (refl, refl), inl refl) }
  no-table c (StopsTable.starved quiet) = record { reason = starved c; told = λ v. refl; sources_first = (inl quiet, inl refl) }

  -- a partition that the table hasn't got
  pub no-partition : {t t' s : Option (List ℕ)} {f f' g : ℕ} {stop : Stop} (name : List ℕ) (rows : Rows) → GaveTable t t' rows → f' ≡ f → partition_at rows name ≡ None → stop ≡ told_with CommandRefused unknown_partition_line
      → Owes T V (Some (Only name)) (seen t f s g o) (seen t' f' s g o) stop
  no-partition {t} {t'} {s} {f} {f'} {g} name rows gave q none is =
      let P : Stop → Type 0 = λ x. Owes T V (Some (Only name)) (seen t f s g o) (seen t' f' s g o) x in
      subst P (sym is) (record { reason = unknown_partition name rows gave none; told = λ v. refl; sources_first = (inl q, inl refl) })

  pub no-script : {t t' s s' : Option (List ℕ)} {f f' g g' : ℕ} {stop : Stop} (c : Command) (rows : Rows) → GaveTable t t' rows → ReadsFor rows c → f' ≡ f → StopsScript rows s g g' stop
      → Owes T V (Some c) (seen t f s g o) (seen t' f' s' g' o) stop
  no-script c rows gave reads q (StopsScript.refused error quiet is) = record { reason = script_refused c rows (refusal_of error) gave reads is; told = λ v. refl; sources_first = (inl q, inl quiet) }
  no-script c rows gave reads q (StopsScript.fault rose) = record { reason = script_fault c rows gave reads rose; told = λ v. refl; sources_first = (inl q, inr (refl, refl)) }
  no-script c rows gave reads q (StopsScript.starved quiet) = record { reason = starved c; told = λ v. refl; sources_first = (inl q, inl quiet) }

-- ---- a device is large enough, or not

has-room : (size wanted : ℕ) → (size < wanted → ⊥) → wanted ≤ size
has-room size wanted fits = elim (cases_lt size wanted) [ inl small ↦ absurd (fits small) | inr large ↦ omega arith ]

-- ---- after sources that counted no fault

module _ {T V : Type 0} {t t' s s' : Option (List ℕ)} {f f' g g' : ℕ} (o e : Outside) (quiet : f' ≡ f) (still : g' ≡ g) where
  -- with nothing told
  pub owes-line : {c : Command} {end : Stop} → e.told ≡ o.told → Ends V (seen t f s g o) (seen t' f' s' g' e) (Some c) end.status end.line → Owes T V (Some c) (seen t f s g o) (seen t' f' s' g' e) end
  owes-line same reason = record { reason = reason; told = λ v. same; sources_first = (inl quiet, inl still) }

  -- a format
  module _ (rows : Rows) (gave : GaveTable t t' rows) (same : e.told ≡ o.told) {result : Result (Unit {0}) FormatError} (small : o.size < image_bytes rows → result ≡ Err (format.TooSmall (image_bytes rows))) where
    pub owes-formatted : (blocks : ℕ) (done : Unit {0}) → blocks ≡ layout_blocks rows → result ≡ Ok done → Owes T V (Some Format) (seen t f s g o) (seen t' f' s' g' e) (told_with Done (formatted_line blocks))
    owes-formatted blocks done is ok =
        let fits : o.size < image_bytes rows → ⊥ = λ lt. let w : ◌≡◌ {A = Result (Unit {0}) FormatError} (Ok done) (Err (format.TooSmall (image_bytes rows))) = sym ok ∙ small lt in cc in
        owes-line {end = told_with Done (formatted_line blocks)} same
        (subst (λ (n : ℕ). Ends V (seen t f s g o) (seen t' f' s' g' e) (Some Format) Done (formatted_line n)) (sym is) (formatted rows gave (has-room o.size (image_bytes rows) fits)))

    pub owes-small : (wanted : ℕ) (stop : Stop) → stop ≡ told_with ImageRefused (image_refused_line (too_small wanted)) → o.size < image_bytes rows → wanted ≡ image_bytes rows → Owes T V (Some Format) (seen t f s g o) (seen t' f' s' g' e) stop
    owes-small wanted stop is less needed =
        let P : Stop → Type 0 = λ x. Owes T V (Some Format) (seen t f s g o) (seen t' f' s' g' e) x in
        subst P (sym (is ∙ ap (λ (n : ℕ). told_with ImageRefused (image_refused_line (too_small n))) needed)) (owes-line {end = told_with ImageRefused (image_refused_line (too_small (image_bytes rows)))} same (too_small_to_format rows gave less))

    pub owes-fault : (stop : Stop) → stop ≡ told_with DeviceFault format_fault_line → result ≡ Err format.Device → Rose o.read_faults e.read_faults ⊎ Rose o.write_faults e.write_faults → Owes T V (Some Format) (seen t f s g o) (seen t' f' s' g' e) stop
    owes-fault stop is err rose =
        let P : Stop → Type 0 = λ x. Owes T V (Some Format) (seen t f s g o) (seen t' f' s' g' e) x in
        let fits : o.size < image_bytes rows → ⊥ = λ lt. let w : ◌≡◌ {A = Result (Unit {0}) FormatError} (Err format.Device) (Err (format.TooSmall (image_bytes rows))) = sym err ∙ small lt in cc in
        subst P (sym is) (owes-line {end = told_with DeviceFault format_fault_line} same (format_fault rows gave (has-room o.size (image_bytes rows) fits) rose))

  -- memory ran out
  pub owes-memory : (c : Command) (stop : Stop) → stop ≡ told_with OutOfMemory [] → e.told ≡ o.told → Owes T V (Some c) (seen t f s g o) (seen t' f' s' g' e) stop
  owes-memory c stop is same =
      let P : Stop → Type 0 = λ x. Owes T V (Some c) (seen t f s g o) (seen t' f' s' g' e) x in
      subst P (sym is) (owes-line {end = told_with OutOfMemory []} same (starved c))

  -- an image that is not opened
  pub no-image : {stop : Stop} (c : Command) (rows : Rows) → GaveTable t t' rows → OpensImage (seen t f s g o) (seen t' f' s' g' e) rows c → e.told ≡ o.told → StopsMount V rows o e stop
      → Owes T V (Some c) (seen t f s g o) (seen t' f' s' g' e) stop
  no-image c rows gave has same (StopsMount.refused r is) = owes-line {end = told_with ImageRefused (image_refused_line r)} same (image_refused c rows r gave has is)
  no-image c rows gave has same (StopsMount.fault rose) = owes-line {end = told_with DeviceFault mount_fault_line} same (mount_fault c rows gave has rose)
  no-image c rows gave has same StopsMount.starved = owes-line {end = told_with OutOfMemory []} same (starved c)

  -- an image that is good
  pub owes-good : (rows : Rows) → GaveTable t t' rows → (V → StandsForOne rows o.view (λ stored. ⊤)) → e.told ≡ o.told → Owes T V (Some Check) (seen t f s g o) (seen t' f' s' g' e) (told_with Done (good_line rows))
  owes-good rows gave is same = owes-line {end = told_with Done (good_line rows)} same (checked rows gave is)

  -- a load
  module _ (seed count : ℕ) (rows : Rows) (gave : GaveTable t t' rows) (same : e.told ≡ o.told) where
    pub owes-load : (tally : Tally) → IsLoadTally V rows seed count (seen t f s g o) tally → Owes T V (Some (Stress seed count)) (seen t f s g o) (seen t' f' s' g' e) (told_with Done (stressed_line count tally))
    owes-load tally is = owes-line {end = told_with Done (stressed_line count tally)} same (stressed seed count rows tally gave is)

    pub owes-load_fault : (V → StandsForOne rows o.view (λ stored. ⊤)) → Rose o.read_faults e.read_faults ⊎ Rose o.write_faults e.write_faults → Owes T V (Some (Stress seed count)) (seen t f s g o) (seen t' f' s' g' e) (told_with DeviceFault stress_fault_line)
    owes-load_fault is cause = owes-line {end = told_with DeviceFault stress_fault_line} same (stress_fault seed count rows gave is cause)

  -- a sweep
  module _ (rows : Rows) (lines : List Line) (gave : GaveTable t t' rows) (read : GaveScript s s' rows lines) (same : e.told ≡ o.told) where
    pub owes-large : is_too_large rows lines ≡ true → Owes T V (Some Sweep) (seen t f s g o) (seen t' f' s' g' e) (told_with CommandRefused too_large_line)
    owes-large large = owes-line {end = told_with CommandRefused too_large_line} same (too_large rows lines gave read large)

    pub owes-swept : (counts : Swept) → is_too_large rows lines ≡ false → IsSweep rows lines counts → Owes T V (Some Sweep) (seen t f s g o) (seen t' f' s' g' e) (told_with Done (swept_line counts))
    owes-swept counts small is = owes-line {end = told_with Done (swept_line counts)} same (swept rows lines counts gave read small is)

  -- a run
  module _ (rows : Rows) (lines : List Line) (gave : GaveTable t t' rows) (read : GaveScript s s' rows lines) where
    -- all lines were told
    pub ends-run : {text : List ℕ} → IsRunText V rows lines (seen t f s g o) (seen t' f' s' g' e) text → (T → e.told ≡ o.told ++ text) → EndsSo T V (Some Run) (seen t f s g o) (seen t' f' s' g' e) Done
    ends-run {text} is told = record { status = Done; due = text; reason = ran rows lines text gave read is; told = inl (refl, told); sources_first = (inl quiet, inl still) }

    -- telling one failed
    pub ends-cut : {text : List ℕ} → IsRunText V rows lines (seen t f s g o) (seen t' f' s' g' e) text → TellsPart T text o e → EndsSo T V (Some Run) (seen t f s g o) (seen t' f' s' g' e) ReplyFault
    ends-cut {text} is part = record { status = Done; due = text; reason = ran rows lines text gave read is; told = inr (refl, (λ e. cc), part); sources_first = (inl quiet, inl still) }

    -- the device failed in one, and that was told, or telling it failed
    module _ (k : ℕ) (line : Line) (at : slice_get lines k ≡ Some line) {text : List ℕ} (is : IsRunText V rows (take k lines) (seen t f s g o) (seen t' f' s' g' e) text) (cause : LineFailed line (seen t f s g o) (seen t' f' s' g' e)) where
      pub ends-fault : (T → e.told ≡ o.told ++ (text ++ fault_line line.number)) → EndsSo T V (Some Run) (seen t f s g o) (seen t' f' s' g' e) DeviceFault
      ends-fault told = record { status = DeviceFault; due = text ++ fault_line line.number; reason = fault_in_line rows lines k line text gave read at is cause; told = inl (refl, told); sources_first = (inl quiet, inl still) }

      pub ends-fault-cut : TellsPart T (text ++ fault_line line.number) o e → EndsSo T V (Some Run) (seen t f s g o) (seen t' f' s' g' e) ReplyFault
      ends-fault-cut part = record { status = DeviceFault; due = text ++ fault_line line.number; reason = fault_in_line rows lines k line text gave read at is cause; told = inr (refl, (λ e. cc), part); sources_first = (inl quiet, inl still) }
