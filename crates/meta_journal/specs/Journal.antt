-- What a journal knows of its place.
use Rattle.std.specs.Prelude.{◌≡◌, ◌⊎◌, ◌≤◌, ◌+◌, ℕ, List, length}
use Rattle.meta_journal.specs.Leading.{records, HasOpen, HasNoneOpen, Holds}
use Rattle.meta_journal.specs.declared.Journal.{Journal}

-- the journal's first byte
abbrev pub first_of : Journal → ℕ
first_of journal = journal.first

-- how many records were read or appended
abbrev pub held_of : Journal → ℕ
held_of journal = journal.held

-- how many more it takes
abbrev pub room_of : Journal → ℕ
room_of journal = journal.room

-- The records that were read or appended are the first of those in the image.
abbrev pub HasRead : Journal → List ℕ → Type 0
HasRead journal image = held_of journal ≤ length (records (first_of journal) image)

-- They are all of those in the image, and no gate behind them is open.
abbrev pub Knows : Journal → List ℕ → Type 0
Knows journal image = Holds (first_of journal) (held_of journal) image

-- There is no room where a gate is open behind the first closed one, and else room for the rest of 32 records.
abbrev pub FindsRoom : Journal → List ℕ → Type 0
FindsRoom journal image =
    (HasOpen (first_of journal) (held_of journal + 1) image × (room_of journal ≡ 0))
    ⊎ (HasNoneOpen (first_of journal) (held_of journal + 1) image × (held_of journal + room_of journal ≡ 32))
