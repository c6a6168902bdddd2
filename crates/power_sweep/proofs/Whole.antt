-- A run in memory whose fuse is not used up came to its end.
use Rattle.std.proofs.Common.{◌≡◌, ◌≢◌, ⊎_elim, ℕ, ◌+◌, ◌*◌, ◌<◌, ◌≤◌, Bool, false, List, [], refl, sym, subst, arith}
use Rattle.std.specs.Prelude.{min, Ok, Err, OnOk, Result}
use Rattle.apex_types.specs.Rows.{Rows}
use Rattle.apex_types.specs.declared.calls.Line.{Line}
use Rattle.apex_model.specs.Durable.{IsCut}
use Rattle.apex_model.specs.Run.{world_after_all}
use Rattle.image_layout.specs.Ready.{Stores}
use Rattle.module_session.specs.Sessions.{StandsFor}
use Rattle.module_session.specs.declared.session.Session.{Session}
use Rattle.module_session.proofs.Ready.{session_in_step}
use Rattle.rig_core.specs.Causes.{last_count}
use Rattle.rig_core.specs.FuseRig.{fuse_state, is_fuse_starved, limit_of, passed_of}
use Rattle.rig_core.specs.Outside.{AllNow, Outside}
use Rattle.script_run.specs.Chosen.{HaltsAt, Served}
use Rattle.script_run.specs.Names.{CountsNames, name_changes}
use Rattle.script_run.specs.declared.chosen.Halt.{Halt}
use Rattle.script_run.specs.declared.chosen.Halt.TheVariants as halt
use Rattle.script_run.specs.declared.tally.Tally.{Tally}
use Rattle.power_sweep.specs.Counted.{AreCounted}
use Rattle.power_sweep.specs.CountedRig.{counted_sound, counted_state}
use Rattle.power_sweep.specs.Whole.{HasFiles, IsWholeRun, first_world, last_files}
use Rattle.power_sweep.specs.declared.counted.CountedRig.{CountedRig}
use Rattle.power_sweep.proofs.LastFiles.{cut-files}

-- what holds at the end holds where nothing ended the lines before
at-end : (result : Result Tally Halt) (P : Type 0) → OnOk result P → ((number : ℕ) → result ≡ Err (halt.Device number) → ⊥) → (result ≡ Err halt.Tell → ⊥) → P
at-end (Ok tally) P done device tell = done
at-end (Err (halt.Device number)) P done device tell = absurd (device number refl)
at-end (Err halt.Tell) P done device tell = absurd (tell refl)

module _ (table : Rows) (lines : List Line) (tellers : ℕ → Bool) (session last : Session) (o : Outside) (rig : CountedRig) (result : Result Tally Halt) where
  abbrev now : Outside
  now = counted_state rig

  module _ (counted : AreCounted rig.disk rig.read_faults rig.write_faults) (room : passed_of rig.disk < limit_of rig.disk) (fed : is_fuse_starved rig.disk ≡ false) where
    no-fault : (number : ℕ) → HaltsAt ⊥ (Unit {0}) table lines tellers session o now number → ⊥
    no-fault number halts =
        let written = counted.written room fed in
        let read = counted.read room in
        ⊎_elim (λ rose. omega (arith, written, rose)) (λ rose. omega (arith, read, rose)) halts.fails.cause

    names-made : o.tells ≡ 0 → now.tells ≤ o.tells → CountsNames (Unit {0}) (Unit {0}) table lines session o now → StandsFor (Unit {0}) o session (first_world table)
        → 4 * name_changes table (first_world table) lines ≤ passed_of rig.disk
    names-made silent untold counts stands =
        let clock = (counted_sound rig).counted in
        let written = counted.written room fed in
        let calls = counted.calls in
        let rises = counts tt tt (first_world table) stands in
        omega (arith, clock, written, calls, rises, silent, untold)

    all-files : Served ⊥ (Unit {0}) table lines tellers session o last now → StandsFor (Unit {0}) o session (first_world table) → AllNow (HasFiles table (last_files table lines)) (fuse_state rig.disk)
    all-files served stands =
        let w = world_after_all table [] (first_world table) lines in
        let all = (session_in_step (Unit {0}) (Unit {0}) now last w (counted_sound rig) served.ready (served.stands (first_world table) stands) tt).0 in
        let Q : Rows → Type 0 = λ t. AllNow (Stores t (IsCut w)) now in
        let left : AllNow (Stores table (IsCut w)) now = subst Q served.same_table all in
        λ image told may. let has = left image told may in (has.0, has.1, cut-files w has.0 has.2)

    pub whole_run : o.tells ≡ 0 → now.tells ≤ o.tells → StandsFor (Unit {0}) o session (first_world table) → OnOk result (Served ⊥ (Unit {0}) table lines tellers session o last now)
        → OnOk result (CountsNames (Unit {0}) (Unit {0}) table lines session o now) → ((number : ℕ) → result ≡ Err (halt.Device number) → HaltsAt ⊥ (Unit {0}) table lines tellers session o now number)
        → result ≢ Err halt.Tell → IsWholeRun table lines rig.disk
    whole_run silent untold stands served counts halts tell =
        let device : (number : ℕ) → result ≡ Err (halt.Device number) → ⊥ = λ number is. no-fault number (halts number is) in
        record {
          names = names-made silent untold (at-end result (CountsNames (Unit {0}) (Unit {0}) table lines session o now) counts device tell) stands;
          files = all-files (at-end result (Served ⊥ (Unit {0}) table lines tellers session o last now) served device tell) stands;
        }
