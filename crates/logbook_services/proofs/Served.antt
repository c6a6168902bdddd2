-- When a call is answered, and when it is served on a rig.
use Rattle.std.proofs.Common.{◌≡◌, ◌⊎◌, inl, inr, ℕ, ◌*◌, Bool, List, length, refl, sym, ◌∙◌, ap, subst, arith}
use Rattle.std.specs.Prelude.{Result, Ok, Err, IfOk, OnOk, OnErr, slice_set, slice_index_or}
use Rattle.apex_types.specs.Rows.{Rows}
use Rattle.apex_types.specs.declared.calls.LogbookCall.{LogbookCall}
use Rattle.apex_types.specs.declared.calls.Mode.{Mode}
use Rattle.apex_types.specs.declared.codes.ReturnCode.{ReturnCode}
use Rattle.apex_types.specs.declared.replies.Reply.{Reply}
use Rattle.apex_types.specs.declared.replies.Values.{Values}
use Rattle.apex_types.specs.declared.replies.Values.TheVariants.{Empty}
use Rattle.apex_model.specs.Accepted.{IsAccepted}
use Rattle.apex_model.specs.Layout.{logbook_blocks}
use Rattle.apex_model.specs.Logbooks.{Logbook, LogbookSystem, LogbookOutcome, empty_book, book_in, with_book, cleared, logbook_step}
use Rattle.apex_model.specs.Outcomes.{accepted, success, bare_refusal, refuse_with, reply_of, state_after}
use Rattle.rig_core.specs.declared.source.DeviceFault.{DeviceFault}
use Rattle.rig_core.specs.Bytes.{SameElsewhere, SameWithin}
use Rattle.rig_core.specs.Causes.{Rose}
use Rattle.rig_core.specs.Leaves.{Leaves, LeavesElsewhere, FromNow, IsAllSettled}
use Rattle.rig_core.specs.Outside.{Outside, Sound, OnlyReads, Later, MakesAtMost}
use Rattle.rig_core.proofs.Moments.{elsewhere_same, leaves_same, now_none}
use Rattle.rig_core.proofs.Regions.{settled_all}
use Rattle.logbook_store.specs.Logs.{Site, AreBeforeOrAfter, AreSettled, AreWithin, ShowsEither, StandFor, sites_of, size_of, with_cleared}
use Rattle.logbook_store.specs.declared.book.Book.{Book}
use Rattle.logbook_store.proofs.Beside.{stored_each}
use Rattle.logbook_store.proofs.Joined.{none_leaves}
use Rattle.logbook_store.proofs.Zips.{on_ok}
use Rattle.apex_model.proofs.ValidLogbooks.{logbook_step-valid}
use Rattle.service_parts.specs.Told.{IsTellable}
use Rattle.logbook_services.specs.Standing.{Stands, IsServing}
use Rattle.logbook_services.specs.Steps.{IsAnswered, IsServed}
use Rattle.logbook_services.proofs.Rows.{has_progress}

pub tellable-refusal : (told : Reply) (code : ReturnCode) (values : Values) → told ≡ bare_refusal code values → IsTellable told
tellable-refusal told code values so = let P : Reply → Type 0 = λ r. IsTellable r in subst P (sym so) (λ data_there. refl)

pub tellable-success : (told : Reply) (values : Values) → told ≡ success values → IsTellable told
tellable-success told values so = let P : Reply → Type 0 = λ r. IsTellable r in subst P (sym so) (λ data_there. refl)

module _ (table : Rows) (step : LogbookSystem → LogbookOutcome) (logs : List Book) (made : List Bool) where
  -- a refusal leaves all as it was
  pub refused-answered : (told : Reply) (code : ReturnCode) → ((image : List ℕ) (system : LogbookSystem) → Stands table logs made image system → step system ≡ refuse_with code)
      → told ≡ bare_refusal code Empty → IsAnswered table step logs made logs made told
  refused-answered told code is so = record {
    reply = λ image system stands. so ∙ sym (ap reply_of (is image system stands));
    state = λ image system stands. let P : LogbookSystem → Type 0 = λ s. Stands table logs made image s in
        subst P (sym (ap (λ (o : LogbookOutcome). state_after system o) (is image system stands))) stands;
    sites = refl;
    long = refl;
    tellable = tellable-refusal told code Empty so;
  }

  -- what is carried out
  pub accepted-answered : (new_logs : List Book) (new_made : List Bool) (told : Reply) (after : LogbookSystem → LogbookSystem) (values : Values)
      → ((image : List ℕ) (system : LogbookSystem) → Stands table logs made image system → step system ≡ accepted (after system) values)
      → ((image : List ℕ) (system : LogbookSystem) → Stands table logs made image system → Stands table new_logs new_made image (after system))
      → sites_of new_logs ≡ sites_of logs → length new_made ≡ length made → told ≡ success values → IsAnswered table step logs made new_logs new_made told
  accepted-answered new_logs new_made told after values is stand sites long so = record {
    reply = λ image system stands. so ∙ sym (ap reply_of (is image system stands));
    state = λ image system stands. let P : LogbookSystem → Type 0 = λ s. Stands table new_logs new_made image s in
        subst P (sym (ap (λ (o : LogbookOutcome). state_after system o) (is image system stands))) (stand image system stands);
    sites = sites;
    long = long;
    tellable = tellable-success told values so;
  }

pub reads-own : (V : Type 0) (o : Outside) → OnlyReads V o o
reads-own V o = record {
  later = record { size = refl; clock = omega arith; read_faults = omega arith; write_faults = omega arith; tell_faults = omega arith };
  made = record { writes = omega arith; syncs = omega arith; tells = omega arith };
  clock = refl;
  told = refl;
  view = λ tells. refl;
  cuts = λ t image told le left. left;
}

pub settled-read : (V K : Type 0) (sites : List Site) (o e : Outside) → Sound V K e → OnlyReads V o e → AreSettled sites o → AreSettled sites e
settled-read V K sites o e sound reads settled k site is image told now =
    let was = settled k site is image told (now_none o e sound reads.later.clock reads.cuts image told now) in
    let view = reads.view (sound.shown e.clock image told now) in
    let P : List ℕ → Type 0 = λ v. SameWithin site.1 (512 * logbook_blocks site.0) v image in
    subst P (sym view) was

on_ok-always : {T E : Type 0} {P : Type 0} (r : Result T E) → P → OnOk r P
on_ok-always (Ok x) p = p
on_ok-always (Err x) p = tt

if_ok-map : (result : Result Reply DeviceFault) (a b : Reply) → a ≡ b → IfOk result (λ told. told ≡ a) → IfOk result (λ told. told ≡ b)
if_ok-map (Ok told) a b same is = is ∙ same
if_ok-map (Err fault) a b same is = tt

if_ok-tellable : (result : Result Reply DeviceFault) → IfOk result (λ told. told ≡ success Empty) → IfOk result IsTellable
if_ok-tellable (Ok told) is = tellable-success told Empty is
if_ok-tellable (Err fault) is = tt

on_err-left : {T E : Type 0} (P Q : Type 0) (r : Result T E) → OnErr r P → OnErr r (P ⊎ Q)
on_err-left P Q (Ok x) p = tt
on_err-left P Q (Err x) p = inl p

on_err-right : {T E : Type 0} (P Q : Type 0) (r : Result T E) → OnErr r Q → OnErr r (P ⊎ Q)
on_err-right P Q (Ok x) p = tt
on_err-right P Q (Err x) p = inr p

-- a call that makes no write
module _ (V K : Type 0) (most : ℕ) (table : Rows) (step : LogbookSystem → LogbookOutcome) (logs : List Book) (made : List Bool) (new_logs : List Book) (new_made : List Bool) (o e : Outside) (sound : Sound V K o) (later_sound : Sound V K e)
    (reads : OnlyReads V o e) (settled : AreSettled (sites_of logs) o) where
  pub read-served : (result : Result Reply DeviceFault)
      → ((system : LogbookSystem) → V → Stands table logs made o.view system → IfOk result (λ told. told ≡ reply_of (step system)))
      → ((system : LogbookSystem) → V → Stands table logs made o.view system → Stands table new_logs new_made o.view (state_after system (step system)))
      → sites_of new_logs ≡ sites_of logs → length new_made ≡ length made → IfOk result IsTellable → OnErr result (Rose o.read_faults e.read_faults)
      → IsServed V most table step logs made new_logs new_made o e result
  read-served result reply state sites long tellable cause = record {
    reply = reply;
    state = λ system tells stands.
        let P : List ℕ → Type 0 = λ v. Stands table new_logs new_made v (state_after system (step system)) in
        on_ok-always result (subst P (sym (reads.view tells)) (state system tells stands));
    any_moment = λ system tells stands.
        leaves_same (AreBeforeOrAfter (sites_of logs) system.books (state_after system (step system)).books) o e reads.later.clock reads.told reads.cuts
        (none_leaves V K logs system.books (state_after system (step system)).books o sound tells settled stands.stored).each;
    shown = λ system tells stands.
        let P : List ℕ → Type 0 = λ v. AreBeforeOrAfter (sites_of logs) system.books (state_after system (step system)).books v in
        subst P (sym (reads.view tells)) (λ j site b d is was behind. inl (stored_each logs o.view system.books stands.stored j site b is was));
    outside = λ at n within. leaves_same (FromNow at n o) o e reads.later.clock reads.told reads.cuts (λ image told now. (image, told, now, elsewhere_same at n image));
    outside_view = λ at n within tells. let P : List ℕ → Type 0 = λ v. SameElsewhere at n o.view v in subst P (sym (reads.view tells)) (elsewhere_same at n o.view);
    settled = on_ok-always result (let P : List Site → Type 0 = λ s. AreSettled s e in subst P (sym sites) (settled-read V K (sites_of logs) o e later_sound reads settled));
    sites = sites;
    long = long;
    tellable = tellable;
    later = reads.later;
    made_calls = record { writes = omega (arith, reads.made.writes); syncs = omega (arith, reads.made.syncs); tells = omega (arith, reads.made.tells) };
    cause = on_err-left (Rose o.read_faults e.read_faults) (Rose o.write_faults e.write_faults) result cause;
  }

-- a call that needs no device
pub answered-served : (V K : Type 0) (most : ℕ) (table : Rows) (step : LogbookSystem → LogbookOutcome) (logs : List Book) (made : List Bool) (new_logs : List Book) (new_made : List Bool) (o : Outside) (told : Reply) → Sound V K o → AreSettled (sites_of logs) o
    → IsAnswered table step logs made new_logs new_made told → IsServed V most table step logs made new_logs new_made o o (Ok told)
answered-served V K most table step logs made new_logs new_made o told sound settled answered =
    read-served V K most table step logs made new_logs new_made o o sound sound (reads-own V o) settled (Ok told)
    (λ system tells stands. answered.reply o.view system stands) (λ system tells stands. answered.state o.view system stands) answered.sites answered.long answered.tellable tt

-- the same step in other words
pub served-as : (V : Type 0) (most : ℕ) (table : Rows) (step other : LogbookSystem → LogbookOutcome) (logs : List Book) (made : List Bool) (new_logs : List Book) (new_made : List Bool) (o e : Outside) (result : Result Reply DeviceFault)
    → ((system : LogbookSystem) → step system ≡ other system) → IsServed V most table other logs made new_logs new_made o e result → IsServed V most table step logs made new_logs new_made o e result
served-as V most table step other logs made new_logs new_made o e result same served = record {
  reply = λ system tells stands. let P : LogbookOutcome → Type 0 = λ out. IfOk result (λ told. told ≡ reply_of out) in subst P (sym (same system)) (served.reply system tells stands);
  state = λ system tells stands. let P : LogbookOutcome → Type 0 = λ out. OnOk result (Stands table new_logs new_made e.view (state_after system out)) in subst P (sym (same system)) (served.state system tells stands);
  any_moment = λ system tells stands.
      let P : LogbookOutcome → Type 0 = λ out. Leaves (AreBeforeOrAfter (sites_of logs) system.books (state_after system out).books) o e in
      subst P (sym (same system)) (served.any_moment system tells stands);
  shown = λ system tells stands.
      let P : LogbookOutcome → Type 0 = λ out. AreBeforeOrAfter (sites_of logs) system.books (state_after system out).books e.view in
      subst P (sym (same system)) (served.shown system tells stands);
  outside = served.outside;
  outside_view = served.outside_view;
  settled = served.settled;
  sites = served.sites;
  long = served.long;
  tellable = served.tellable;
  later = served.later;
  made_calls = served.made_calls;
  cause = served.cause;
}

-- a clear on the device
pub clear-served : (V : Type 0) (table : Rows) (step : LogbookSystem → LogbookOutcome) (logs : List Book) (made : List Bool) (new_logs : List Book) (k : ℕ) (o e : Outside) (result : Result Reply DeviceFault)
    → ((system : LogbookSystem) → made ≡ system.created → step system ≡ accepted (with_book system k (cleared (book_in system k))) Empty)
    → IfOk result (λ told. told ≡ success Empty)
    → ((logbooks : List Logbook) → V → StandFor logs o.view logbooks → Leaves (AreBeforeOrAfter (sites_of logs) logbooks (slice_set logbooks k (cleared (slice_index_or logbooks k empty_book)))) o e)
    → ShowsEither V logs (with_cleared k) o.view e.view
    → ((at n : ℕ) → AreWithin at n (sites_of logs) → LeavesElsewhere at n o e)
    → ((at n : ℕ) → AreWithin at n (sites_of logs) → V → SameElsewhere at n o.view e.view)
    → ((logbooks : List Logbook) → V → StandFor logs o.view logbooks → OnOk result (StandFor new_logs e.view (slice_set logbooks k (cleared (slice_index_or logbooks k empty_book)))))
    → OnOk result (IsAllSettled e) → sites_of new_logs ≡ sites_of logs → Later o e → MakesAtMost 3 3 0 o e → OnErr result (Rose o.write_faults e.write_faults)
    → IsServed V 3 table step logs made new_logs made o e result
clear-served V table step logs made new_logs k o e result is told any_moment shown outside outside_view stored settled sites later calls cause = record {
  reply = λ system tells stands. if_ok-map result (success Empty) (reply_of (step system)) (sym (ap reply_of (is system stands.marks))) told;
  state = λ system tells stands.
      let P : LogbookSystem → Type 0 = λ s. Stands table new_logs made e.view s in
      on_ok result (λ now. subst P (sym (ap (λ (out : LogbookOutcome). state_after system out) (is system stands.marks))) (record { stored = now; marks = stands.marks })) (stored system.books tells stands.stored);
  any_moment = λ system tells stands.
      let P : LogbookSystem → Type 0 = λ s. Leaves (AreBeforeOrAfter (sites_of logs) system.books s.books) o e in
      subst P (sym (ap (λ (out : LogbookOutcome). state_after system out) (is system stands.marks))) (any_moment system.books tells stands.stored);
  shown = λ system tells stands.
      let P : LogbookSystem → Type 0 = λ s. AreBeforeOrAfter (sites_of logs) system.books s.books e.view in
      subst P (sym (ap (λ (out : LogbookOutcome). state_after system out) (is system stands.marks))) (shown system.books tells stands.stored);
  outside = outside;
  outside_view = outside_view;
  settled = on_ok result (λ all k site at. settled_all site.1 (size_of site) e all) settled;
  sites = sites;
  long = refl;
  tellable = if_ok-tellable result told;
  later = later;
  made_calls = calls;
  cause = on_err-right (Rose o.read_faults e.read_faults) (Rose o.write_faults e.write_faults) result cause;
}

-- a call that is served keeps the logbooks valid
pub served-serving : (V : Type 0) (most : ℕ) (table : Rows) (p : ℕ) (mode : Mode) (call : LogbookCall) (logs : List Book) (made : List Bool) (new_logs : List Book) (new_made : List Bool) (o e : Outside) (result : Result Reply DeviceFault)
    → IsAccepted table → (V → IsServing table logs made o.view)
    → IsServed V most table (λ system. logbook_step table system p mode call) logs made new_logs new_made o e result → V → OnOk result (IsServing table new_logs new_made e.view)
served-serving V most table p mode call logs made new_logs new_made o e result good valid served tells =
    let was = valid tells in
    on_ok result (λ stands. (
      state_after was.0 (logbook_step table was.0 p mode call),
      stands,
      logbook_step-valid table was.0 was.2 (λ k row is. has_progress table good k row is) p mode call,
    )) (served.state was.0 tells was.1)
