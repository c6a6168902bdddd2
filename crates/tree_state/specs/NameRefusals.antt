-- Why names of a stored tree were not changed.
use Rattle.std.specs.Prelude.{◌≡◌, Result, Ok, Err}
use Rattle.apex_types.specs.declared.codes.Errno.{Errno}
use Rattle.tree_state.specs.declared.refusal.StateRefusal.{StateRefusal}
use Rattle.tree_state.specs.declared.refusal.StateRefusal.TheVariants.{Refused, ReadFault, Device}

-- this error comes exactly where its reason holds, and then nothing changed; elsewhere a write or sync failed
abbrev pub IsRefusal : Errno → Type 0 → Type 0 → Type 0 → StateRefusal → Type 0
IsRefusal errno reason unchanged failed (Refused e) = (e ≡ errno) × reason × unchanged
IsRefusal errno reason unchanged failed ReadFault = ⊥
IsRefusal errno reason unchanged failed Device = (reason → ⊥) × failed

-- where no read, write or sync failed
abbrev pub UnlessFault : {T : Type 0} → Result T StateRefusal → Type 0 → Type 0
UnlessFault (Ok value) P = P
UnlessFault (Err (Refused errno)) P = P
UnlessFault (Err ReadFault) P = Unit {0}
UnlessFault (Err Device) P = Unit {0}
