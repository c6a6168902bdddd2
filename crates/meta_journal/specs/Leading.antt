-- The records of a journal: those before the first closed gate.
use Rattle.std.specs.Prelude.{◌≡◌, ℕ, zero, suc, ◌+◌, ◌*◌, ◌<◌, ◌≤◌, ◌==◌, List, [], ◌∷◌, length, if◌then◌else◌}
use Rattle.rig_core.specs.Bytes.{byte, part}

-- the records of n places from there on, up to the first closed gate
unfoldable pub leading : ℕ → ℕ → List ℕ → List (List ℕ)
leading zero first image = []
leading (suc n) first image = if byte image first == 165 then part (first + 512) 512 image ∷ leading n (first + 1024) image else []

-- the leading records of a journal that begins there
abbrev pub records : ℕ → List ℕ → List (List ℕ)
records first image = leading 32 first image

-- the gate of a record
abbrev pub gate_of : ℕ → ℕ → ℕ
gate_of first place = first + 1024 * place

-- the gate is open
abbrev pub IsOpen : ℕ → List ℕ → Type 0
IsOpen gate image = byte image gate ≡ 165

-- a gate is open from this record's on
abbrev pub HasOpen : ℕ → ℕ → List ℕ → Type 0
HasOpen first from image = (r : ℕ) × (from ≤ r) × (r < 32) × IsOpen (gate_of first r) image

-- no gate is open from this record's on
abbrev pub HasNoneOpen : ℕ → ℕ → List ℕ → Type 0
HasNoneOpen first from image = (r : ℕ) → from ≤ r → r < 32 → IsOpen (gate_of first r) image → ⊥

-- The journal at this place holds so many records, and all gates behind them are closed.
pub record Holds (first held : ℕ) (image : List ℕ) : Type 0 where
  pub count : length (records first image) ≡ held
  pub closed : HasNoneOpen first held image
