-- How long messages are.
use Rattle.std.specs.Prelude.{◌≡◌, ℕ, ◌≤◌, List, length, Some, slice_get}

-- each message has a byte, and no more than so many
abbrev pub AreSized : ℕ → List (List ℕ) → Type 0
AreSized limit messages = (k : ℕ) (message : List ℕ) → slice_get messages k ≡ Some message → (1 ≤ length message) × (length message ≤ limit)
