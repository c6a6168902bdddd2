-- Between two lines: a session stays ready while a line is told, and each image that a cut may leave stands for what a
-- cut of the world leaves.
use Rattle.std.proofs.Common.{◌≡◌, ℕ, List, sym, subst}
use Rattle.apex_model.specs.Durable.{IsCut}
use Rattle.apex_model.specs.World.{World}
use Rattle.rig_core.specs.Outside.{AllNow, Later, Outside, Sound, Speaks}
use Rattle.logbook_services.specs.Standing.{IsServing}
use Rattle.tree_store.proofs.Lent.{hold-told-all}
use Rattle.image_layout.specs.Ready.{Stores}
use Rattle.image_layout.proofs.After.{in_step_after_told, world_after_told}
use Rattle.image_layout.proofs.InStep.{in_step}
use Rattle.module_session.specs.Sessions.{IsReady, StandsFor, table_of_session}
use Rattle.module_session.specs.declared.session.Session.{Session}

module _ (V K : Type 0) (line : List ℕ) (m e : Outside) (session : Session) (sound : Sound V K m) (sound_after : Sound V K e) (ready : IsReady V m session)
    (later : Later m e) (view : V → e.view ≡ m.view) (speaks : Speaks line m e) where
  pub ready_after_told : IsReady V e session
  ready_after_told =
      let over = ready.files.1 in
      let hold = hold-told-all V K m e sound sound_after session.trees ready.in_step.stored line later view speaks over.0 over.1 in
      record {
        alive = ready.alive;
        accepted = ready.accepted;
        in_step = in_step_after_told V K m e sound sound_after session.table session.trees session.logs ready.in_step line later view speaks;
        of_table = ready.of_table;
        files = (ready.files.0, (over.0, hold, over.2), ready.files.2);
        marks = ready.marks;
        logbooks = λ tells. subst (λ (image : List ℕ). IsServing session.table session.logs session.made image) (sym (view tells)) (ready.logbooks tells);
        ports = ready.ports;
        partitions = ready.partitions;
      }

  pub stands_after_told : (w : World) → StandsFor V m session w → StandsFor V e session w
  stands_after_told w stands = record {
    parts = world_after_told V K m e sound sound_after session.table session.trees session.logs ready.in_step line later view speaks session.handles w stands.parts;
    created = stands.created;
    ports = stands.ports;
    partitions = stands.partitions;
    time = stands.time;
  }

pub session_in_step : (V K : Type 0) (o : Outside) (session : Session) (w : World) → Sound V K o → IsReady V o session → StandsFor V o session w
    → V → AllNow (Stores (table_of_session session) (IsCut w)) o × Stores (table_of_session session) (IsCut w) o.view
session_in_step V K o session w sound ready stands = in_step V K o sound session.table session.trees session.handles session.logs w ready.in_step stands.parts
