-- The lines of a partition's upstream that are carried out from an opened image: what is due to the
-- partition, and what the disk is.
use Rattle.std.proofs.Common.{◌≡◌, ◌≢◌, ℕ, inl, inr, ⊎_elim, Bool, true, false, List, [], ◌∷◌, ◌++◌, Option, Some, refl, sym, ◌∙◌, ap, subst}
use Rattle.std.specs.Prelude.{take, filter, if◌then◌else◌, Ok}
use Rattle.std.specs.List.{AllByRecursion}
use Rattle.std.specs.Option.{ForSome}
use Rattle.std.proofs.lemmas.List.{append-nil}
use Rattle.apex_types.specs.Rows.{Rows}
use Rattle.apex_types.specs.declared.calls.Line.{Line}
use Rattle.apex_types.specs.declared.numbers.PartitionId.{PartitionId}
use Rattle.apex_model.specs.Accepted.{IsAccepted}
use Rattle.apex_model.specs.Durable.{Durable, start, IsCut}
use Rattle.apex_model.specs.Image.{Refusal, state_of}
use Rattle.apex_model.specs.Isolation.{concerns, own_lines, upstream_marks}
use Rattle.apex_model.specs.Laws.{RepliesDependOnUpstream}
use Rattle.apex_model.specs.Lines.{IsLineOf}
use Rattle.apex_model.specs.Run.{replies_to, text_of, fault_line, world_after_all}
use Rattle.apex_model.specs.World.{World}
use Rattle.apex_model.proofs.AcceptedTables.{all_at}
use Rattle.rig_core.specs.Causes.{Rose}
use Rattle.rig_core.specs.Leaves.{LeavesPairs}
use Rattle.rig_core.specs.Outside.{Outside, Sound, OnlyReads, IsToldPart}
use Rattle.rig_core.proofs.Moments.{pairs_weaker}
use Rattle.script_model.specs.Script.{script_of}
use Rattle.image_layout.specs.Ready.{Stores}
use Rattle.module_session.specs.declared.session.Session.{Session}
use Rattle.module_session.proofs.Ready.{session_in_step}
use Rattle.script_run.specs.Chosen.{is_hearer, told_to, IsOwnText, IsOwnPair, LeavesOwnPairs, Served, FailsAt, HaltsHeard, StopsHearing, IsDueHeard, own_due, halt_due}
use Rattle.script_run.proofs.OneLine.{told-front}
use Rattle.script_run.proofs.OwnRuns.{own-suffice, own-suffice-before, own-stand}
use Rattle.apex_host.specs.Disk.{LeavesDisk, heard as was_heard, hearing_failed, BeginsOnly, IsHeardPair, LeavesFrom}
use Rattle.apex_host.specs.Endings.{Ends, IsTableOf, IsNamed, IsHeardText, GaveTable, GaveScript, ReadsScript, seen, EndsSo, heard, fault_in_own_line}
use Rattle.apex_host.specs.Opening.{StartsFrom}
use Rattle.apex_host.specs.Told.{TellsPart}
use Rattle.apex_host.specs.declared.command.Command.TheVariants.{Only}
use Rattle.apex_host.specs.declared.status.Status.TheVariants.{Done, DeviceFault, ReplyFault}
use Rattle.apex_host.proofs.Carried.{ok-ok, part-since, state-or_empty}
use Rattle.apex_host.proofs.Cuts.{rose-after}
use Rattle.apex_host.proofs.Disks.{pairs-after-reads}

-- what passes a test does
all-pass : {X : Type 0} (test : X → Bool) (xs : List X) → AllByRecursion (λ x. test x ≡ true) (filter test xs)
all-pass test [] = tt
all-pass {X} test (x ∷ xs) = (elim (test x) as (λ b. test x ≡ b → AllByRecursion (λ y. test y ≡ true) (if b then x ∷ filter test xs else filter test xs)) [
  | true ↦ λ is. (is, all-pass test xs)
  | false ↦ λ is. all-pass test xs
]) refl

-- The table, the partition of a name, and lines of the table, in a device from which a session was opened.
pub record Opened (V : Type 0) (rows : Rows) (name : List ℕ) (p : PartitionId) (lines : List Line) (o m : Outside) (first : Session) : Type 0 where
  pub accepted : IsAccepted rows
  pub named : IsNamed rows name p.0
  pub are : AllByRecursion (IsLineOf rows) lines
  pub reads : OnlyReads V o m
  pub starts : V → StartsFrom V rows o m first

-- the script was read after the table, for a partition of it
pub reads-script : {left now : Option (List ℕ)} {f f' : ℕ} (rows : Rows) (name : List ℕ) (p : ℕ) → GaveTable left now rows → IsNamed rows name p → f' ≡ f → ReadsScript (Some (Only name)) left now f f'
reads-script rows name p gave named quiet = record { c = Only name; is = refl; rows = rows; gave = gave; wants = (p, named); quiet = quiet }

-- what is so of the session's table and of the lines that were kept is so of the table and of the own lines
pub of-own : (P : Rows → List Line → Type 0) {a rows : Rows} {kept own : List Line} → a ≡ rows → kept ≡ own → P a kept → P rows own
of-own P {a} {rows} {kept} {own} table lines is = subst (P rows) lines (subst (λ (r : Rows). P r kept) table is)

module _ {V : Type 0} (law : RepliesDependOnUpstream) (rows : Rows) (name : List ℕ) (p : PartitionId) (lines : List Line) (o m e : Outside) (first : Session) (opened : Opened V rows name p lines o m first) where
  abbrev own : List Line
  own = own_lines rows p.0 lines

  abbrev tellers : ℕ → Bool
  tellers = is_hearer (Some p)

  -- the state of the image, or the empty one
  abbrev from : Durable
  from = state-or_empty rows (state_of rows o.view)

  module _ (t t' s s' : Option (List ℕ)) (f f' g g' : ℕ) where
    -- ---- the text

    all-heard : {due : List ℕ} → IsOwnText V rows own tellers first m due → IsHeardText V rows p.0 lines (seen t f s g o) due
    all-heard text = λ v.
        let begun = opened.starts v in
        let w = start rows begun.stored in
        record {
          stored = begun.stored;
          image = begun.image;
          valid = begun.valid;
          holds = text v w begun.stands ∙ ap text_of (own-suffice law rows [] begun.stored p.0 lines opened.accepted begun.valid opened.are);
        }

    -- the text of the first k lines, with that of the lines to come
    front-heard : (k : ℕ) {due : List ℕ} → IsOwnText V rows (take k own) tellers first m due → (back : List ℕ) × IsHeardText V rows p.0 lines (seen t f s g o) (due ++ back)
    front-heard k {due} text =
        let front = told-front tellers rows [] (start rows from) own k in (
          front.0,
          λ v.
              let begun = opened.starts v in
              let w = start rows begun.stored in
              let same : from ≡ begun.stored = ap (state-or_empty rows) begun.image in
              let part : due ≡ text_of (told_to tellers (replies_to rows [] (start rows from) (take k own))) =
              text v w begun.stands ∙ ap (λ (d : Durable). text_of (told_to tellers (replies_to rows [] (start rows d) (take k own)))) (sym same) in
              record {
                stored = begun.stored;
                image = begun.image;
                valid = begun.valid;
                holds = ap (λ (x : List ℕ). x ++ front.0) part ∙ front.1 ∙ ap (λ (d : Durable). text_of (told_to tellers (replies_to rows [] (start rows d) own))) same
                    ∙ ap text_of (own-suffice law rows [] begun.stored p.0 lines opened.accepted begun.valid opened.are);
              },
        )

    -- where the device failed in a line
    module _ (gave : GaveTable t t' rows) (read : GaveScript s s' rows lines) where
      fault-reason : {line : Line} {due : List ℕ} → FailsAt V rows own tellers first m e line due → Ends V (seen t f s g o) (seen t' f' s' g' e) (Some (Only name)) DeviceFault (due ++ fault_line line.number)
      fault-reason {line} {due} fails =
          let stands = own-stand rows p.0 lines fails.k line fails.at in
          let own_line = all_at (λ (l : Line). concerns (upstream_marks rows p.0) l.deed ≡ true) own fails.k line (all-pass (λ (l : Line). concerns (upstream_marks rows p.0) l.deed) lines) fails.at in
          fault_in_own_line name rows p.0 lines stands.place line due gave opened.named read stands.at own_line
          (λ v.
          let begun = opened.starts v in
          let w = start rows begun.stored in
          record {
            stored = begun.stored;
            image = begun.image;
            valid = begun.valid;
            holds = fails.text v w begun.stands ∙ ap text_of (own-suffice-before law rows [] begun.stored p.0 lines fails.k line opened.accepted begun.valid opened.are stands);
          })
          (⊎_elim (λ r. inr (rose-after o.write_faults m.write_faults e.write_faults opened.reads.later.write_faults r)) (λ r. inl (rose-after o.read_faults m.read_faults e.read_faults opened.reads.later.read_faults r)) fails.cause)

      module _ {T : Type 0} (quiet : f' ≡ f) (still : g' ≡ g) where
        pub ends-heard : {session : Session} → Served T V rows own tellers first m session e → EndsSo T V (Some (Only name)) (seen t f s g o) (seen t' f' s' g' e) Done
        ends-heard served = record {
          status = Done;
          due = served.due;
          reason = heard name rows p.0 lines served.due gave opened.named read (all-heard served.text);
          told = inl (refl, λ tells. served.told tells ∙ ap (λ (x : List ℕ). x ++ served.due) opened.reads.told);
          sources_first = (inl quiet, inl still);
        }

        pub ends-halted : HaltsHeard T V rows own tellers first m e → EndsSo T V (Some (Only name)) (seen t f s g o) (seen t' f' s' g' e) DeviceFault
        ends-halted halts = record {
          status = DeviceFault;
          due = halts.due ++ fault_line halts.line.number;
          reason = fault-reason halts.fails;
          told = inl (refl, λ tells. halts.told tells ∙ ap (λ (x : List ℕ). x ++ (halts.due ++ fault_line halts.line.number)) opened.reads.told);
          sources_first = (inl quiet, inl still);
        }

        -- a part of a text that is due
        cut-at : {due : List ℕ} → IsDueHeard V rows own tellers first m e due → due ≢ [] → Rose m.tell_faults e.tell_faults → (T → IsToldPart due m.told e.told) → EndsSo T V (Some (Only name)) (seen t f s g o) (seen t' f' s' g' e) ReplyFault
        cut-at (own_due k due within text) some rose part =
            let whole = front-heard k text in
            record {
              status = Done;
              due = due ++ whole.0;
              reason = heard name rows p.0 lines (due ++ whole.0) gave opened.named read whole.1;
              told = inr (refl, (λ e. cc), part-since o m e opened.reads whole.0 some rose part);
              sources_first = (inl quiet, inl still);
            }
        cut-at (halt_due line due fails) some rose part =
            let whole : TellsPart T ((due ++ fault_line line.number) ++ []) o e = part-since o m e opened.reads [] some rose part in
            record {
              status = DeviceFault;
              due = due ++ fault_line line.number;
              reason = fault-reason fails;
              told = inr (refl, (λ e. cc), subst (λ (x : List ℕ). TellsPart T x o e) (append-nil (due ++ fault_line line.number)) whole);
              sources_first = (inl quiet, inl still);
            }

        pub ends-telling : StopsHearing T V rows own tellers first m e → EndsSo T V (Some (Only name)) (seen t f s g o) (seen t' f' s' g' e) ReplyFault
        ends-telling stops = cut-at stops.is_due stops.something stops.rose stops.part

  -- ---- what the disk is

  module _ {T : Type 0} (pairs : LeavesOwnPairs T V rows own tellers first m e) where
    heard-pair : (t : T) (w : World) (image told : List ℕ) → IsOwnPair T rows w own tellers m.told image told → IsHeardPair rows p.0 w lines o.told image told
    heard-pair t w image told pair =
        let says = pair.says t in
        record {
          more = says.0;
          told_is = says.1 ∙ ap (λ (x : List ℕ). x ++ says.0) opened.reads.told;
          stores = (pair.stores.0, pair.stores.1, record { done = pair.done; within = pair.within; told = says.2; left = pair.stores.2 });
        }

    since-start : LeavesFrom T V rows (λ stored. IsHeardPair rows p.0 (start rows stored) lines o.told) o e
    since-start t v stored image =
        let begun = opened.starts v in
        let same : begun.stored ≡ stored = ok-ok {E = Refusal} (sym begun.image ∙ image) in
        let w = start rows begun.stored in
        pairs-after-reads V (IsHeardPair rows p.0 (start rows stored) lines o.told) o m e opened.reads
        (subst (λ (d : Durable). LeavesPairs (IsHeardPair rows p.0 (start rows d) lines o.told) m e) same
        (pairs_weaker (IsOwnPair T rows w own tellers m.told) (IsHeardPair rows p.0 w lines o.told) m e (heard-pair t w) (pairs v w begun.stands begun.valid)))

    module _ {t s : Option (List ℕ)} (table : IsTableOf t rows) (script : ForSome s (λ bytes. script_of rows bytes ≡ Ok lines)) where
      hearing-begins : BeginsOnly T V name t s o e
      hearing-begins = record { rows = rows; p = p.0; lines = lines; spelled = table; named = opened.named; read = script; pairs = since-start }

      pub fault-leaves_own : LeavesDisk T V t s o e (Some (Only name)) DeviceFault
      fault-leaves_own = hearing_failed name DeviceFault (inl refl) hearing-begins

      pub cut-leaves_own : LeavesDisk T V t s o e (Some (Only name)) ReplyFault
      cut-leaves_own = hearing_failed name ReplyFault (inr refl) hearing-begins

      pub heard-leaves : {K : Type 0} {session : Session} → Sound V K e → Served T V rows own tellers first m session e → LeavesDisk T V t s o e (Some (Only name)) Done
      unfolding hearing-begins
      heard-leaves {K} {session} sound served = was_heard name (record {
        begins = hearing-begins;
        holds = λ v stored image.
            let begun = opened.starts v in
            let same : begun.stored ≡ stored = ok-ok {E = Refusal} (sym begun.image ∙ image) in
            let w = world_after_all rows [] (start rows begun.stored) own in
            let H : Rows → Durable → List ℕ → Type 0 = λ r d image. Stores r (IsCut (world_after_all rows [] (start rows d) own)) image in
            let now = session_in_step V K e session w sound served.ready (served.stands (start rows begun.stored) begun.stands) v in
            let move : (image : List ℕ) → H session.table begun.stored image → H rows stored image =
            λ image h. subst (λ (d : Durable). H rows d image) same (subst (λ (r : Rows). H r begun.stored image) served.same_table h) in
            record { images = λ image told left. move image (now.0 image told left); view = move e.view now.1 };
      })
