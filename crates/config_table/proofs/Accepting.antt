-- What is read is accepted, and a script can use it.
use Rattle.std.proofs.Common.{ℕ, List, Result, Ok, Err}
use Rattle.std.specs.Prelude.{IfOk}
use Rattle.apex_types.specs.Rows.{Rows}
use Rattle.apex_model.specs.Accepted.{IsAccepted}
use Rattle.table_model.specs.declared.errors.TableError.{TableError}
use Rattle.table_model.specs.Table.{table_of}
use Rattle.table_model.specs.Laws.{IsReadyForScripts}
use Rattle.table_model.proofs.AcceptedTables.{table_accepted}
use Rattle.table_model.proofs.Ready.{accepted_ready}
use Rattle.config_table.specs.Gives.{Gives}

pub is_accepted : (bytes : List ℕ) (r : Result Rows TableError) → Gives (λ t. t) r (table_of bytes) → IfOk r IsAccepted
is_accepted bytes (Ok t) g = table_accepted bytes t g
is_accepted bytes (Err e) g = tt

pub is_ready : (bytes : List ℕ) (r : Result Rows TableError) → Gives (λ t. t) r (table_of bytes) → IfOk r IsReadyForScripts
is_ready bytes (Ok t) g = accepted_ready t (table_accepted bytes t g)
is_ready bytes (Err e) g = tt
