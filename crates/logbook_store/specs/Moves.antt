-- What changes while the oldest messages in progress are moved.
use Rattle.std.specs.Prelude.{◌≡◌, ℕ, ◌+◌, ◌*◌, ◌%◌, ◌<◌, ◌≤◌, List, [], ◌∷◌, length, nat_lt, if◌then◌else◌, Some, slice_get}
use Rattle.rig_core.specs.Bytes.{byte, part}
use Rattle.rig_core.specs.Outside.{Outside, Now}
use Rattle.rig_core.specs.Leaves.{Leaves}
use Rattle.apex_model.specs.Fields.{log_entry_of}
use Rattle.apex_model.specs.Logbooks.{Logbook, Message, moved}
use Rattle.logbook_store.specs.Books.{row_of, start_of, IsStored, life_of, logged_of, progress_of}
use Rattle.std.specs.List.{AllZip}
use Rattle.gate_slots.specs.Slots.{Knows}
use Rattle.logbook_store.specs.Logs.{Site}
use Rattle.logbook_store.specs.declared.book.Book.{Book}

-- the first byte of the gate of the place that takes a logbook's next message
abbrev pub next_gate_of : Book → ℕ
next_gate_of book = start_of book + 2048 + 1024 * ((life_of book + 1) % ((row_of book).logged + 1))

-- a message is in progress
abbrev pub IsMoving : Book → Type 0
IsMoving book = 0 < length (progress_of book)

-- memory has the life, the count and the messages in progress of this logbook
pub record Agrees (book : Book) (b : Logbook) : Type 0 where
  pub life : life_of book ≡ b.life
  pub logged : logged_of book ≡ length b.logged
  pub in_progress : progress_of book ≡ b.in_progress

-- how many logbooks have a message in progress
abbrev pub moving_count : List Book → ℕ
moving_count [] = 0
moving_count (book ∷ books) = (if nat_lt 0 (length (progress_of book)) then 1 else 0) + moving_count books

-- the second image is the first but for these places
pub record SameBut (At : ℕ → Type 0) (old new : List ℕ) : Type 0 where
  pub long : length new ≡ length old
  pub same : (k : ℕ) → (At k → ⊥) → byte new k ≡ byte old k

-- the image is one that a cut may leave now, but for these places
abbrev pub FromNowBut : (ℕ → Type 0) → Outside → List ℕ → Type 0
FromNowBut At o image = (from : List ℕ) × (told : List ℕ) × Now o from told × SameBut At from image

-- Since old a cut leaves the other places as a cut at old would have.
abbrev pub LeavesBut : (ℕ → Type 0) → Outside → Outside → Type 0
LeavesBut At old new = Leaves (FromNowBut At old) old new

-- the gate of the next place, where it is open
abbrev pub OpenGate : List ℕ → Book → ℕ → Type 0
OpenGate view book k = IsMoving book × (k ≡ next_gate_of book) × (byte view k ≡ 165)

-- the body behind that gate
abbrev pub NextBody : Book → ℕ → Type 0
NextBody book k = IsMoving book × (next_gate_of book + 512 ≤ k) × (k < next_gate_of book + 1024)

-- the gate of the next place
abbrev pub NextGate : Book → ℕ → Type 0
NextGate book k = IsMoving book × (k ≡ next_gate_of book)

-- the next place, its gate's block with it
abbrev pub NextPlace : Book → ℕ → Type 0
NextPlace book k = IsMoving book × (next_gate_of book ≤ k) × (k < next_gate_of book + 1024)

-- a place of one of the logbooks
abbrev pub OfOne : (Book → ℕ → Type 0) → List Book → ℕ → Type 0
OfOne P books k = (j : ℕ) × (book : Book) × (slice_get books j ≡ Some book) × P book k

-- the gate of the next place is closed
abbrev pub IsClosed : List ℕ → Book → Type 0
IsClosed image book = IsMoving book → byte image (next_gate_of book) ≡ 165 → ⊥

-- the body behind it spells the next number and the oldest message in progress
abbrev pub IsWritten : List ℕ → Book → Type 0
IsWritten image book = (message : Message) (rest : List Message) → progress_of book ≡ message ∷ rest
    → log_entry_of (row_of book).message_size (part (next_gate_of book + 512) 512 image) ≡ Some (life_of book + 1, message)

-- the gate is open
abbrev pub IsOpened : List ℕ → Book → Type 0
IsOpened image book = IsMoving book → byte image (next_gate_of book) ≡ 165

-- so are all before this number
abbrev pub AllBefore : (Book → Type 0) → ℕ → List Book → Type 0
AllBefore P n books = (j : ℕ) (book : Book) → j < n → slice_get books j ≡ Some book → P book

-- each logbook has moved its oldest message in progress
abbrev pub moved_all : List Site → List Logbook → List Logbook
moved_all [] logbooks = []
moved_all (site ∷ sites) [] = []
moved_all (site ∷ sites) (b ∷ logbooks) = moved site.0.logged b ∷ moved_all sites logbooks

-- What the object knows after a move is what it knew, with the message moved.
pub record HasMoved (old new : Book) : Type 0 where
  pub headers : new.headers ≡ old.headers
  pub life : (b : Logbook) → Agrees old b → Agrees new (moved (row_of old).logged b)

-- The region spells the logbook that moved its oldest message, and the newest header is still known.
pub record IsMovedIn (book : Book) (image : List ℕ) (b : Logbook) : Type 0 where
  pub region : IsStored (row_of book) (start_of book) (moved (row_of book).logged b) image
  pub headers : Knows book.headers image

-- so of each logbook
abbrev pub AreMovedIn : List Book → List ℕ → List Logbook → Type 0
AreMovedIn books image logbooks = AllZip (λ book b. IsMovedIn book image b) books logbooks
