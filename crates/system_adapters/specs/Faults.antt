-- How a count of faults goes.
use Rattle.std.specs.Prelude.{ℕ, Result, is_ok, if◌then◌else◌}
use Rattle.rig_core.specs.Causes.{one_more}

-- a count of faults after a call: one more where the call failed, and else as it was
abbrev pub counted : {T E : Type 0} → ℕ → Result T E → ℕ
counted faults result = if is_ok result then faults else one_more faults
