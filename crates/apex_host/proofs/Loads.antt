-- A load of lines that is carried out from an opened image: what is due, and what the disk is.
use Rattle.std.proofs.Common.{◌≡◌, ℕ, ◌⊎◌, inl, inr, ⊎_elim, Bool, false, cond, List, [], ◌∷◌, Option, Some, None, refl, sym, ◌∙◌, ap, subst}
use Rattle.std.specs.Prelude.{take, count_by, ◌+◌, Result, Err, ⊤}
use Rattle.std.proofs.lemmas.List.Sums.{sum_by-cons}
use Rattle.apex_types.specs.Rows.{Rows}
use Rattle.apex_types.specs.declared.calls.Deed.{Deed}
use Rattle.apex_types.specs.declared.calls.Deed.TheVariants as deed
use Rattle.apex_types.specs.declared.calls.Line.{Line}
use Rattle.apex_model.specs.Durable.{Durable, start, IsCut}
use Rattle.apex_model.specs.Image.{Refusal}
use Rattle.apex_model.specs.Moments.{is_told}
use Rattle.apex_model.specs.Run.{world_after_all}
use Rattle.apex_model.specs.World.{World}
use Rattle.rig_core.specs.Causes.{Rose}
use Rattle.rig_core.specs.Leaves.{LeavesPairs}
use Rattle.rig_core.specs.Outside.{Outside, Sound, OnlyReads}
use Rattle.rig_core.proofs.Moments.{pairs_weaker}
use Rattle.image_layout.specs.Ready.{Stores}
use Rattle.module_session.specs.declared.session.Session.{Session}
use Rattle.module_session.proofs.Ready.{session_in_step}
use Rattle.script_run.specs.Chosen.{is_hearer, IsOwnPair, LeavesOwnPairs, Served, FailsAt, HaltsAt}
use Rattle.script_run.specs.Tally.{IsTallyOf}
use Rattle.script_run.specs.declared.chosen.Halt.{Halt}
use Rattle.script_run.specs.declared.chosen.Halt.TheVariants.{Device, Tell}
use Rattle.script_run.specs.declared.tally.Tally.{Tally}
use Rattle.stress_script.specs.Generator.{generated}
use Rattle.apex_host.specs.Disk.{LeavesDisk, stressed, stress_failed, OnlyTells, IsUntoldImage, LeavesLoad, BeginsLoad, CompletesLoad}
use Rattle.apex_host.specs.Endings.{IsTableOf, StandsForOne}
use Rattle.apex_host.specs.Opening.{StartsFrom}
use Rattle.apex_host.specs.Told.{IsTold, load_tally}
use Rattle.apex_host.specs.declared.command.Command.TheVariants.{Stress}
use Rattle.apex_host.specs.declared.status.Status.{Status}
use Rattle.apex_host.specs.declared.status.Status.TheVariants.{Done, DeviceFault}
use Rattle.apex_host.proofs.Carried.{ok-ok}
use Rattle.apex_host.proofs.Cuts.{rose-after}
use Rattle.apex_host.proofs.Disks.{pairs-after-reads, images-told, cut-told}

-- ---- no reply is told

abbrev nobody : ℕ → Bool
nobody = is_hearer None

untold-deed : (number : ℕ) (d : Deed) → is_told nobody (record { number = number; deed = d }) ≡ false
untold-deed number (deed.Tick n) = refl
untold-deed number (deed.Partition p call) = refl

none-told : (lines : List Line) → count_by (is_told nobody) lines ≡ 0
none-told [] = refl
none-told (line ∷ lines) =
    sum_by-cons (λ (l : Line). cond (is_told nobody l) 1 0) line lines ∙ ap (λ (b : Bool). cond b 1 0 + count_by (is_told nobody) lines) (untold-deed line.number line.deed) ∙ ap (λ (n : ℕ). 0 + n) (none-told lines)

untold-image : {T : Type 0} {rows : Rows} {w : World} {lines : List Line} {before image told : List ℕ} → IsOwnPair T rows w lines nobody before image told → IsUntoldImage rows w lines image
untold-image {T} {rows} {w} {lines} pair = (pair.stores.0, pair.stores.1, record { done = pair.done; within = pair.within; told = none-told (take pair.done lines); left = pair.stores.2 })

-- what is so of a session's table and of the lines that were drawn
pub of-load : (P : Rows → List Line → Type 0) {r r' : Rows} {ls ls' : List Line} → r ≡ r' → ls ≡ ls' → P r ls → P r' ls'
of-load P {r} {r'} {ls} {ls'} same alike p = subst (λ (x : List Line). P r' x) alike (subst (λ (x : Rows). P x ls) same p)

-- lines of which no reply is told end by a device that fails
pub halts-load : {T V : Type 0} {rows : Rows} {lines : List Line} {first : Session} {o e : Outside} {result : Result Tally Halt} (why : Halt) → result ≡ Err why → (result ≡ Err Tell → ⊥)
    → ((number : ℕ) → result ≡ Err (Device number) → HaltsAt T V rows lines nobody first o e number) → (number : ℕ) × HaltsAt T V rows lines nobody first o e number
halts-load (Device number) is untold halted = (number, halted number is)
halts-load Tell is untold halted = absurd (untold is)

module _ {V : Type 0} (rows : Rows) (seed count : ℕ) (o m e : Outside) (reads : OnlyReads V o m) (first : Session) (starts : V → StartsFrom V rows o m first) where
  -- ---- what is due

  pub good-start : V → StandsForOne rows o.view (λ stored. ⊤)
  good-start v = let begun = starts v in record { stored = begun.stored; image = begun.image; valid = begun.valid; holds = tt }

  pub tallied : (tally : Tally) → IsTallyOf V rows (generated rows seed count) first m tally → V → StandsForOne rows o.view (λ stored. tally ≡ load_tally rows seed count stored)
  tallied tally is = λ v. let begun = starts v in record { stored = begun.stored; image = begun.image; valid = begun.valid; holds = is v (start rows begun.stored) begun.stands }

  -- a device that failed in a line
  pub cause-since : {line : Line} {due : List ℕ} → FailsAt V rows (generated rows seed count) nobody first m e line due → Rose o.read_faults e.read_faults ⊎ Rose o.write_faults e.write_faults
  cause-since fails =
      ⊎_elim (λ r. inr (rose-after o.write_faults m.write_faults e.write_faults reads.later.write_faults r)) (λ r. inl (rose-after o.read_faults m.read_faults e.read_faults reads.later.read_faults r)) fails.cause

  -- ---- what the disk is

  module _ {T : Type 0} (pairs : LeavesOwnPairs T V rows (generated rows seed count) nobody first m e) where
    since-start : LeavesLoad V rows (generated rows seed count) o e
    since-start v stored image =
        let begun = starts v in
        let lines = generated rows seed count in
        let same : begun.stored ≡ stored = ok-ok {E = Refusal} (sym begun.image ∙ image) in
        let w = start rows begun.stored in
        pairs-after-reads V (λ image told. IsUntoldImage rows (start rows stored) lines image) o m e reads
        (subst (λ (d : Durable). LeavesPairs (λ image told. IsUntoldImage rows (start rows d) lines image) m e) same
        (pairs_weaker (IsOwnPair T rows w lines nobody m.told) (λ image told. IsUntoldImage rows w lines image) m e (λ image told pair. untold-image pair) (pairs v w begun.stands begun.valid)))

    module _ {t : Option (List ℕ)} (table : IsTableOf t rows) where
      pub load-begins : BeginsLoad V seed count t o e
      load-begins = record { rows = rows; spelled = table; images = since-start }

      pub load-completes : {K : Type 0} {session : Session} → Sound V K e → Served T V rows (generated rows seed count) nobody first m session e → CompletesLoad V seed count t o e
      unfolding load-begins
      load-completes {K} {session} sound served = record {
        begins = load-begins;
        holds = λ v stored image.
            let begun = starts v in
            let lines = generated rows seed count in
            let same : begun.stored ≡ stored = ok-ok {E = Refusal} (sym begun.image ∙ image) in
            let H : Rows → Durable → List ℕ → Type 0 = λ r d image. Stores r (IsCut (world_after_all rows [] (start rows d) lines)) image in
            let now = session_in_step V K e session (world_after_all rows [] (start rows begun.stored) lines) sound served.ready (served.stands (start rows begun.stored) begun.stands) v in
            let move : (image : List ℕ) → H session.table begun.stored image → H rows stored image =
            λ image h. subst (λ (d : Durable). H rows d image) same (subst (λ (r : Rows). H r begun.stored image) served.same_table h) in
            record { images = λ image told left. move image (now.0 image told left); view = move e.view now.1 };
      }

-- ---- a line that is told after a load

module _ (V K : Type 0) {t : Option (List ℕ)} (seed count : ℕ) (o m e : Outside) where
  pub load-begun-told : Sound V K m → BeginsLoad V seed count t o m → OnlyTells V m e → BeginsLoad V seed count t o e
  load-begun-told sound begun tells = record {
    rows = begun.rows;
    spelled = begun.spelled;
    images = λ v stored image. images-told V K (IsUntoldImage begun.rows (start begun.rows stored) (generated begun.rows seed count)) o m e sound (begun.images v stored image) tells;
  }

  pub load-completed-told : Sound V K m → Sound V K e → CompletesLoad V seed count t o m → OnlyTells V m e → CompletesLoad V seed count t o e
  unfolding load-begun-told
  load-completed-told sound after ended tells = record {
    begins = load-begun-told sound ended.begins tells;
    holds = λ v stored image. cut-told V K v ended.begins.rows (world_after_all ended.begins.rows [] (start ended.begins.rows stored) (generated ended.begins.rows seed count)) m e after (ended.holds v stored image) tells;
  }

module _ {T V : Type 0} {table script : Option (List ℕ)} {result status : Status} {line : List ℕ} (seed count : ℕ) (o m e : Outside) (told : IsTold T line status m e result) where
  pub load-leaves : status ≡ Done → CompletesLoad V seed count table o e → LeavesDisk T V table script o e (Some (Stress seed count)) result
  load-leaves done ended =
      ⊎_elim (λ all. subst (λ (r : Status). LeavesDisk T V table script o e (Some (Stress seed count)) r) (sym (all.0 ∙ done)) (stressed seed count ended)) (λ part. stress_failed seed count result (inr part.0) ended.begins) told

  pub load_fault-leaves : status ≡ DeviceFault → BeginsLoad V seed count table o e → LeavesDisk T V table script o e (Some (Stress seed count)) result
  load_fault-leaves device begun = stress_failed seed count result (⊎_elim (λ all. inl (all.0 ∙ device)) (λ part. inr part.0) told) begun
