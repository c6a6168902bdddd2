-- A session that is started from an image.
use Rattle.std.specs.Prelude.{◌≡◌, Ok}
use Rattle.apex_types.specs.Rows.{Rows}
use Rattle.apex_model.specs.Durable.{Durable, start}
use Rattle.apex_model.specs.Image.{state_of}
use Rattle.apex_model.specs.Validity.{IsValid}
use Rattle.rig_core.specs.Outside.{Outside}
use Rattle.module_session.specs.Sessions.{StandsFor}
use Rattle.module_session.specs.declared.session.Session.{Session}

-- The session stands for the world that starts from the state of the image that reads gave before.
pub record StartsFrom (tells_view : Type 0) (table : Rows) (old now : Outside) (session : Session)
    : Type 0 where
  pub stored : Durable
  pub image : state_of table old.view ≡ Ok stored
  pub valid : IsValid table (start table stored)
  pub stands : StandsFor tells_view now session (start table stored)
