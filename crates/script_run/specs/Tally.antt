-- How often each return code was replied, and how much data the replies held.
use Rattle.std.specs.Prelude.{◌≡◌, ℕ, ◌*◌, ◌≤◌, Bool, true, false, List, [], length, count_by, sum_by}
use Rattle.apex_types.specs.Rows.{Rows}
use Rattle.apex_types.specs.declared.calls.Line.{Line}
use Rattle.apex_types.specs.declared.codes.ReturnCode.{ReturnCode}
use Rattle.apex_types.specs.declared.codes.ReturnCode.TheVariants as code
use Rattle.apex_types.specs.declared.replies.Values.{Values}
use Rattle.apex_types.specs.declared.replies.Values.TheVariants as values
use Rattle.apex_model.specs.Run.{Told, replies_to}
use Rattle.apex_model.specs.World.{World}
use Rattle.module_session.specs.Sessions.{StandsFor}
use Rattle.module_session.specs.declared.session.Session.{Session}
use Rattle.rig_core.specs.Outside.{Outside}
use Rattle.script_run.specs.declared.tally.Tally.{Tally}

abbrev pub is_no_error : ReturnCode → Bool
is_no_error code.NoError = true
is_no_error _ = false

abbrev pub is_no_action : ReturnCode → Bool
is_no_action code.NoAction = true
is_no_action _ = false

abbrev pub is_not_available : ReturnCode → Bool
is_not_available code.NotAvailable = true
is_not_available _ = false

abbrev pub is_invalid_param : ReturnCode → Bool
is_invalid_param code.InvalidParam = true
is_invalid_param _ = false

abbrev pub is_invalid_config : ReturnCode → Bool
is_invalid_config code.InvalidConfig = true
is_invalid_config _ = false

abbrev pub is_invalid_mode : ReturnCode → Bool
is_invalid_mode code.InvalidMode = true
is_invalid_mode _ = false

-- how many replies have a code that passes the test
abbrev pub code_count : (ReturnCode → Bool) → List Told → ℕ
code_count test replies = count_by (λ told. test told.reply.code) replies

-- how many bytes of data the values hold
abbrev pub data_size : Values → ℕ
data_size (values.Read bytes) = length bytes
data_size (values.Entry state bytes) = length bytes
data_size (values.Message updated validity bytes) = length bytes
data_size _ = 0

-- the tally of some replies
abbrev pub tally_of : List Told → Tally
tally_of replies = record {
  replies = length replies;
  no_error = code_count is_no_error replies;
  no_action = code_count is_no_action replies;
  not_available = code_count is_not_available replies;
  invalid_param = code_count is_invalid_param replies;
  invalid_config = code_count is_invalid_config replies;
  invalid_mode = code_count is_invalid_mode replies;
  data_bytes = sum_by (λ told. data_size told.reply.values) replies;
}

-- The tally is no higher than n replies can make it: each holds 4,096 bytes at most.
pub record IsWithin (n : ℕ) (tally : Tally) : Type 0 where
  pub replies : tally.replies ≤ n
  pub no_error : tally.no_error ≤ n
  pub no_action : tally.no_action ≤ n
  pub not_available : tally.not_available ≤ n
  pub invalid_param : tally.invalid_param ≤ n
  pub invalid_config : tally.invalid_config ≤ n
  pub invalid_mode : tally.invalid_mode ≤ n
  pub data_bytes : tally.data_bytes ≤ 4096 * n

-- In each world that the session stood for, this is the tally of the replies of some lines, where
-- no read fails.
abbrev pub IsTallyOf : Type 0 → Rows → List Line → Session → Outside → Tally → Type 0
IsTallyOf tells_view table done first o tally =
    tells_view → (w : World) → StandsFor tells_view o first w
    → tally ≡ tally_of (replies_to table [] w done)
