-- Why a file of a stored tree can't get a content of some size, and what is answered to a change of it.
use Rattle.std.specs.Prelude.{◌≡◌, ◌<◌, ◌≤◌, ◌==◌, ℕ, nat_lt, if◌then◌else◌, Option, Some, None, Result, Ok, Err}
use Rattle.apex_types.specs.declared.codes.Errno.{Errno}
use Rattle.apex_types.specs.declared.codes.Errno.TheVariants.{Efbig, Enospc, Eoverflow}
use Rattle.apex_model.specs.Files.{blocks_of}
use Rattle.block_quota.specs.Quota.{ChargesValue, raised_to, total}
use Rattle.tree_state.specs.declared.refusal.StateRefusal.{StateRefusal}
use Rattle.tree_state.specs.declared.refusal.StateRefusal.TheVariants.{Refused, ReadFault, Device}

-- why a file that was changed so often can't get a content of this size, in the order of the reasons
abbrev pub content_refusal : ChargesValue → ℕ → ℕ → ℕ → Option Errno
content_refusal charges f changes size =
    if nat_lt 1048576 size then Some Efbig
    else if nat_lt charges.quota (total (raised_to charges f (blocks_of size))) then Some Enospc
    else if changes == 4294967295 then Some Eoverflow
    else None

-- Nothing speaks against a content of this size.
pub record MayHave (charges : ChargesValue) (f changes size : ℕ) : Type 0 where
  pub few : size ≤ 1048576
  pub room : total (raised_to charges f (blocks_of size)) ≤ charges.quota
  pub fresh : changes < 4294967295

-- what speaks against a change is answered, and then nothing changed; elsewhere it is made, or a read or a write failed
abbrev pub IsAnswer : Option Errno → Type 0 → Type 0 → Type 0 → Result (Unit {0}) StateRefusal → Type 0
IsAnswer refusal unchanged read_failed write_failed (Ok done) = refusal ≡ None
IsAnswer refusal unchanged read_failed write_failed (Err (Refused e)) = (refusal ≡ Some e) × unchanged
IsAnswer refusal unchanged read_failed write_failed (Err ReadFault) = (refusal ≡ None) × read_failed
IsAnswer refusal unchanged read_failed write_failed (Err Device) = (refusal ≡ None) × write_failed
