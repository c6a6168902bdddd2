-- A tick, as a line that was taken up.
use Rattle.std.proofs.Common.{◌≡◌, ◌⊎◌, inl, inr, ⊎_elim, ℕ, ◌+◌, ◌*◌, ◌≤◌, Bool, true, false, List, [], ◌∷◌, length, map, refl, sym, ap, subst, ◌∙◌, arith, Option, None}
use Rattle.std.specs.Prelude.{Err, IsErr, Ok, Result, ◌==◌, if◌then◌else◌, nat_lt, zip}
use Rattle.std.proofs.lemmas.Bool.{false≢true}
use Rattle.apex_types.specs.Rows.{Rows}
use Rattle.apex_types.specs.declared.calls.Deed.{Deed}
use Rattle.apex_types.specs.declared.calls.Deed.TheVariants as deed
use Rattle.apex_types.specs.declared.calls.Line.{Line}
use Rattle.apex_types.specs.declared.replies.Reply.{Reply}
use Rattle.apex_types.specs.declared.rows.LogbookRow.{LogbookRow}
use Rattle.apex_model.specs.Durable.{IsCutDuring}
use Rattle.apex_model.specs.Lines.{IsDeedOf, IsLineOf}
use Rattle.apex_model.specs.Logbooks.{Logbook, moved_by}
use Rattle.apex_model.specs.World.{World, ticked}
use Rattle.rig_core.specs.Causes.{Rose}
use Rattle.rig_core.specs.Outside.{MakesAtMost, Outside, Sound}
use Rattle.rig_core.specs.Runs.{Shows}
use Rattle.rig_core.specs.declared.source.DeviceFault.{DeviceFault}
use Rattle.recover_scan.proofs.Sizes.{few_logbooks}
use Rattle.logbook_store.specs.Books.{progress_of}
use Rattle.logbook_store.specs.Logs.{AreSettled, Site, StandFor, sites_of as log_sites_of, sites_from as log_sites_from}
use Rattle.logbook_store.specs.Moves.{moved_all, moving_count}
use Rattle.logbook_store.specs.declared.book.Book.{Book}
use Rattle.logbook_services.proofs.Mounted.{moved-serving}
use Rattle.sampling_ext.proofs.Kept.{later-serving}
use Rattle.image_layout.specs.Ready.{Stores}
use Rattle.image_layout.proofs.Between.{log_sites_count}
use Rattle.module_session.specs.Sessions.{IsEarly, IsReady, StandsFor}
use Rattle.module_session.specs.Steps.{IsTaken}
use Rattle.module_session.specs.declared.session.Session.{Session}
use Rattle.module_session.proofs.LogChanges.{ChangesLogs, logs_count, logs_files, logs_in_step, logs_moments, logs_runs}

-- ---- all logbooks

-- what all of them move is what the tick moves in each
moved_same : (table : Rows) (k : ℕ) (rows : List LogbookRow) (logbooks : List Logbook) → moved_all (log_sites_from table k rows) logbooks ≡ map moved_by (zip rows logbooks)
moved_same table k [] logbooks = refl
moved_same table k (row ∷ rows) [] = refl
moved_same table k (row ∷ rows) (b ∷ logbooks) = ap (λ (rest : List Logbook). moved_by (row, b) ∷ rest) (moved_same table (k + 1) rows logbooks)

moved_count : (rows : List LogbookRow) (logbooks : List Logbook) → length logbooks ≡ length rows → length (map moved_by (zip rows logbooks)) ≡ length logbooks
moved_count [] [] long = refl
moved_count [] (b ∷ logbooks) long = absurd (omega (arith, long))
moved_count (row ∷ rows) [] long = refl
moved_count (row ∷ rows) (b ∷ logbooks) long = omega (arith, moved_count rows logbooks (omega (arith, long)))

-- ---- how many calls are made

one_if : (b : Bool) → (if b then 1 else 0) ≤ 1
one_if true = omega arith
one_if false = omega arith

moving_few : (books : List Book) → moving_count books ≤ length (log_sites_of books)
moving_few [] = omega arith
moving_few (book ∷ books) = let one = one_if (nat_lt 0 (length (progress_of book))) in omega (arith, one, moving_few books)

three_if : (b : Bool) → (if b then 0 else 3) ≤ 3
three_if true = omega arith
three_if false = omega arith

-- what the calls of a move are at most
pub few_calls : (V : Type 0) (o e : Outside) (old : Session) → IsReady V o old → MakesAtMost (3 * moving_count old.logs) (if moving_count old.logs == 0 then 0 else 3) 0 o e → MakesAtMost 96 3 0 o e
few_calls V o e old ready made =
    let sites = ap (λ (l : List Site). length l) ready.in_step.log_sites ∙ log_sites_count old.table 0 old.table.logbooks in
    let few = few_logbooks old.table ready.accepted in
    let moving = moving_few old.logs in
    let syncs = three_if (moving_count old.logs == 0) in
    record { writes = omega (arith, made.writes, sites, few, moving); syncs = omega (arith, made.syncs, syncs); tells = made.tells }

-- ---- the tick

-- the ticks of a line
ticks_of : (table : Rows) (line : Line) (n : ℕ) → IsLineOf table line → line.deed ≡ deed.Tick n → n ≤ 100000
ticks_of table line n of_table is = let deed = subst (λ (d : Deed). IsDeedOf table d) is of_table.deed in deed.1

-- the time stays small
pub early_enough : (table : Rows) (session : Session) (line : Line) (n : ℕ) → IsLineOf table line → line.deed ≡ deed.Tick n → IsEarly line.number session → session.time + n ≤ 4294967295
early_enough table session line n of_table is early = let few = of_table.few in let ticks = ticks_of table line n of_table is in omega (arith, early, few, ticks)

-- with other logbooks, at a later time
abbrev at_time : Session → List Book → ℕ → Session
at_time old logs time = record {
  table = old.table;
  trees = old.trees;
  handles = old.handles;
  logs = logs;
  made = old.made;
  ports = old.ports;
  partitions = old.partitions;
  time = time;
  failed = old.failed;
}

module _ (V K : Type 0) (o e : Outside) (sound : Sound V K o) (sound_after : Sound V K e) (old : Session) (logs : List Book) (ready : IsReady V o old)
    (changes : ChangesLogs V (moved_all (log_sites_of old.logs)) old.logs logs o e)
    (made : MakesAtMost (3 * moving_count old.logs) (if moving_count old.logs == 0 then 0 else 3) 0 o e) (line : Line) (n : ℕ) (is : line.deed ≡ deed.Tick n) where
  abbrev next : Session
  next = at_time old logs (old.time + n)

  abbrev word : List Logbook → List Logbook
  word = moved_all (log_sites_of old.logs)

  moved_is : (logbooks : List Logbook) → word logbooks ≡ map moved_by (zip old.table.logbooks logbooks)
  moved_is logbooks = ap (λ (l : List Site). moved_all l logbooks) ready.in_step.log_sites ∙ moved_same old.table 0 old.table.logbooks logbooks

  moments : (w : World) → StandsFor V o old w → Shows V (Stores old.table (IsCutDuring old.table w (deed.Tick n))) o e
  moments w stands = logs_moments V K o e sound sound_after old logs word ready changes w (ticked old.table w n) stands refl
      (λ tells. sym (moved_is w.logbooks.books))
      (λ tells. ap (λ (l : List Logbook). length l) (moved_is w.logbooks.books) ∙ moved_count old.table.logbooks w.logbooks.books
      (logs_count V K o e sound sound_after old logs word ready changes w stands tells))

  -- that the logbooks stand for those that moved a message
  abbrev Moved : Type 0
  Moved = (logbooks : List Logbook) → V → StandFor old.logs o.view logbooks → StandFor logs e.view (word logbooks)

  -- the session is in step again
  next_ready : AreSettled (log_sites_of logs) e → Moved → IsReady V e next
  next_ready settled moved = record {
    alive = ready.alive;
    accepted = ready.accepted;
    in_step = logs_in_step V K o e sound sound_after old logs word ready changes settled;
    of_table = ready.of_table;
    files = (ready.files.0, logs_files V K o e sound sound_after old logs word ready changes ready.files.0 ready.files.1, ready.files.2);
    marks = ready.marks;
    logbooks = λ tells. moved-serving old.table old.logs logs old.made o.view e.view ready.accepted (record { sites = ready.in_step.log_sites; long = ready.marks }) (ready.logbooks tells)
        (λ logbooks stand. moved logbooks tells stand);
    ports = later-serving old.table old.time (old.time + n) old.ports (omega arith) ready.ports;
    partitions = ready.partitions;
  }

  next_stands : Moved → (w : World) → StandsFor V o old w → StandsFor V e next (ticked old.table w n)
  next_stands moved w stands = record {
    parts = record {
      files = logs_files V K o e sound sound_after old logs word ready changes w.files stands.parts.files;
      logbooks = λ tells. subst (λ (after : List Logbook). StandFor logs e.view after) (moved_is w.logbooks.books) (moved w.logbooks.books tells (stands.parts.logbooks tells));
    };
    created = stands.created;
    ports = stands.ports;
    partitions = stands.partitions;
    time = ap (λ (time : ℕ). time + n) stands.time;
  }

  abbrev own : Line
  own = record { number = line.number; deed = deed.Tick n }

  as_line : (new : Session) (result : Result (Option Reply) DeviceFault) → IsTaken V own old new o e result → IsTaken V line old new o e result
  as_line new result taken = subst (λ (d : Deed). IsTaken V (record { number = line.number; deed = d }) old new o e result) (sym is) taken

  pub tick_taken : (table : Rows) → IsLineOf table line → IsEarly line.number old → AreSettled (log_sites_of logs) e → Moved → IsTaken V line old next o e (Ok None)
  tick_taken table of_table early settled moved = as_line next (Ok None) (record {
    table = refl;
    early = let ticks = ticks_of table line n of_table is in omega (arith, early, ticks);
    ready = next_ready settled moved;
    carried_out = record { failed = []; failures = inl refl; reply_is = λ w stands tells. refl; stands = next_stands moved };
    moments = moments;
    runs = logs_runs V K o e sound sound_after old logs word ready changes;
    moves = made;
    cause = tt;
    tellable = λ reply none. absurd cc;
  })

  failed : (result : Result (Option Reply) DeviceFault) → IsErr result → Rose o.read_faults e.read_faults ⊎ Rose o.write_faults e.write_faults
      → IsTaken V own old (at_time old logs old.time) o e result
  failed (Ok reply) err rose = absurd (false≢true err)
  failed (Err fault) err rose = record {
    table = refl;
    early = tt;
    ready = tt;
    carried_out = tt;
    moments = moments;
    runs = logs_runs V K o e sound sound_after old logs word ready changes;
    moves = made;
    cause = ⊎_elim (λ read. inr (tt, read)) (λ written. inl written) rose;
    tellable = tt;
  }

  pub tick_failed : (result : Result (Option Reply) DeviceFault) → IsErr result → Rose o.read_faults e.read_faults ⊎ Rose o.write_faults e.write_faults
      → IsTaken V line old (at_time old logs old.time) o e result
  tick_failed result err rose = as_line (at_time old logs old.time) result (failed result err rose)
