-- All regions in each phase of a move.
use Rattle.std.proofs.Common.{◌≡◌, ◌⊎◌, inl, inr, ⊎_elim, ℕ, zero, suc, ◌+◌, ◌<◌, ◌≤◌, List, [], ◌∷◌, length, Option, Some, refl, sym, ◌∙◌, ap, subst, arith}
use Rattle.std.specs.Prelude.{slice_get}
use Rattle.std.proofs.lemmas.Bool.{cases_eq, cases_lt}
use Rattle.apex_model.specs.Fields.{log_entry_of}
use Rattle.apex_model.specs.Logbooks.{Logbook, Message, moved, moved_from}
use Rattle.rig_core.specs.Bytes.{byte, part, SameWithin}
use Rattle.rig_core.proofs.Put.{part_same}
use Rattle.gate_slots.specs.Slots.{Knows, Place, place_of, slots_size}
use Rattle.gate_slots.proofs.Regions.{knows_speaks}
use Rattle.logbook_store.specs.Books.{row_of, start_of, IsStored, Stands}
use Rattle.logbook_store.specs.Logs.{Site, site_of, sites_of, size_of, AreLaidOut, AreBeforeOrAfter, StandFor}
use Rattle.logbook_store.specs.Moves.{IsMovedIn, AreMovedIn, IsMoving, OpenGate, NextBody, NextGate, IsClosed, IsWritten, IsOpened, OfOne, AllBefore, SameBut, moved_all, next_gate_of}
use Rattle.logbook_store.specs.declared.book.Book.{Book}
use Rattle.logbook_store.proofs.Beside.{site_at, beside}
use Rattle.logbook_store.proofs.Gates.{gate_within}
use Rattle.logbook_store.proofs.Phases.{first_of, opened_moves, unchanged, while_closing, while_writing, while_opening}

pub book_at : (books : List Book) (j : ℕ) (site : Site) → slice_get (sites_of books) j ≡ Some site → (book : Book) × (slice_get books j ≡ Some book) × (site_of book ≡ site)
book_at [] j site is = absurd cc
book_at (x ∷ books) zero site is = let same : site_of x ≡ site = cc in (x, refl, same)
book_at (x ∷ books) (suc j) site is = book_at books j site is

pub stands_at : (books : List Book) (v : List ℕ) (logbooks : List Logbook) → StandFor books v logbooks → (j : ℕ) (book : Book) (b : Logbook) → slice_get books j ≡ Some book → slice_get logbooks j ≡ Some b → Stands book v b
stands_at [] v [] stand j book b is other = absurd cc
stands_at [] v (c ∷ logbooks) stand j book b is other = absurd stand
stands_at (x ∷ books) v [] stand j book b is other = absurd stand
stands_at (x ∷ books) v (c ∷ logbooks) stand zero book b is other =
    let same : x ≡ book = cc in
    let here : c ≡ b = cc in
    subst (λ (a : Book). Stands a v b) same (subst (Stands x v) here stand.0)
stands_at (x ∷ books) v (c ∷ logbooks) stand (suc j) book b is other = stands_at books v logbooks stand.1 j book b is other

pub moved_at : (sites : List Site) (logbooks : List Logbook) (j : ℕ) (site : Site) (b c : Logbook) → slice_get sites j ≡ Some site → slice_get logbooks j ≡ Some b → slice_get (moved_all sites logbooks) j ≡ Some c → c ≡ moved site.0.logged b
moved_at [] logbooks j site b c is was now = absurd cc
moved_at (s ∷ sites) [] j site b c is was now = absurd cc
moved_at (s ∷ sites) (x ∷ logbooks) zero site b c is was now =
    let here : moved s.0.logged x ≡ c = cc in
    let same_site : s ≡ site = cc in
    let same_book : x ≡ b = cc in
    sym here ∙ ap (λ (t : Site). moved t.0.logged x) same_site ∙ ap (moved site.0.logged) same_book
moved_at (s ∷ sites) (x ∷ logbooks) (suc j) site b c is was now = moved_at sites logbooks j site b c is was now

-- In a region only its own logbook's places change.
pub own_only : (P : Book → ℕ → Type 0) → ((book : Book) (k : ℕ) → P book k → (start_of book ≤ k) × (k < start_of book + size_of (site_of book)))
    → (books : List Book) (size : ℕ) → AreLaidOut (sites_of books) size → (j : ℕ) (book : Book) → slice_get books j ≡ Some book → (k : ℕ) → start_of book ≤ k → k < start_of book + size_of (site_of book) → (P book k → ⊥) → OfOne P books k → ⊥
own_only P inside books size laid j book at k low high out one = ⊎_elim
    (λ same.
    let both : Some book ≡ Some one.1 = sym at ∙ ap (λ (n : ℕ). slice_get books n) same ∙ one.2 in
    let here : one.1 ≡ book = cc in
    out (subst (λ (a : Book). P a k) here one.3))
    (λ differ.
    let range = inside one.1 k one.3 in
    ⊎_elim (λ h. omega (arith, h, high, range.0)) (λ h. omega (arith, h, low, range.1))
    (beside (sites_of books) size laid j one.0 (site_of book) (site_of one.1) differ (site_at books j book at) (site_at books one.0 one.1 one.2)))
    (cases_eq j one.0)

abbrev Inside : (Book → ℕ → Type 0) → Type 0
Inside P = (book : Book) (k : ℕ) → P book k → (start_of book ≤ k) × (k < start_of book + size_of (site_of book))

gate_inside : (P : Book → ℕ → Type 0) → ((book : Book) (k : ℕ) → P book k → (next_gate_of book ≤ k) × (k < next_gate_of book + 1024)) → Inside P
gate_inside P near book k at = let range = near book k at in (omega (arith, range.0), omega (arith, range.1, gate_within book))

pub open_inside : (v : List ℕ) → Inside (OpenGate v)
open_inside v = gate_inside (OpenGate v) (λ book k at. (omega (arith, at.1), omega (arith, at.1)))

pub body_inside : Inside NextBody
body_inside = gate_inside NextBody (λ book k at. (omega (arith, at.1), at.2))

pub next_inside : Inside NextGate
next_inside = gate_inside NextGate (λ book k at. (omega (arith, at.1), omega (arith, at.1)))

-- the image is the view but for these places, as far as the regions go
abbrev pub InRegions : (Book → ℕ → Type 0) → List Book → List ℕ → List ℕ → Type 0
InRegions P books v image = (j : ℕ) (book : Book) → slice_get books j ≡ Some book → (k : ℕ) → start_of book ≤ k → k < start_of book + size_of (site_of book) → (P book k → ⊥) → byte image k ≡ byte v k

-- each logbook by itself
pub all_either : (books : List Book) (v image : List ℕ) (logbooks : List Logbook) → StandFor books v logbooks
    → ((j : ℕ) (book : Book) (b : Logbook) → slice_get books j ≡ Some book → Stands book v b → IsStored (row_of book) (start_of book) b image ⊎ IsStored (row_of book) (start_of book) (moved (row_of book).logged b) image)
    → AreBeforeOrAfter (sites_of books) logbooks (moved_all (sites_of books) logbooks) image
all_either books v image logbooks stand each j site b c is was now =
    let one = book_at books j site is in
    let own = each j one.0 b one.1 (stands_at books v logbooks stand j one.0 b one.1 was) in
    let after : c ≡ moved site.0.logged b = moved_at (sites_of books) logbooks j site b c is was now in
    ⊎_elim
    (λ before. inl (subst (λ (s : Site). IsStored s.0 s.1 b image) one.2 before))
    (λ behind. inr (subst (λ (x : Logbook). IsStored site.0 site.1 x image) (sym after) (subst (λ (s : Site). IsStored s.0 s.1 (moved s.0.logged b) image) one.2 behind)))
    own

module _ (books : List Book) (v image : List ℕ) (logbooks : List Logbook) (long : length image ≡ length v) (stand : StandFor books v logbooks) where
  pub closing_all : InRegions (OpenGate v) books v image → AreBeforeOrAfter (sites_of books) logbooks (moved_all (sites_of books) logbooks) image
  closing_all same = all_either books v image logbooks stand (λ j book b at stands. inl (while_closing book b v image long stands (same j book at)))

  pub writing_all : AllBefore (IsClosed v) (length books) books → InRegions NextBody books v image → AreBeforeOrAfter (sites_of books) logbooks (moved_all (sites_of books) logbooks) image
  writing_all shut same = all_either books v image logbooks stand (λ j book b at stands. inl (⊎_elim
      (λ moving. while_writing book b v image long stands (shut j book (low books j book at) at moving) (same j book at))
      (λ none. unchanged book b v image long stands (λ k from to out. same j book at k from to (λ inside. omega (arith, inside.0, none))))
      (cases_lt 0 (length book.in_progress))))
    where
      low : (xs : List Book) (k : ℕ) (x : Book) → slice_get xs k ≡ Some x → k < length xs
      low [] k x is = absurd cc
      low (y ∷ xs) zero x is = omega arith
      low (y ∷ xs) (suc k) x is = let later = low xs k x is in omega (arith, later)

  pub opening_all : AllBefore (IsWritten v) (length books) books → InRegions NextGate books v image → AreBeforeOrAfter (sites_of books) logbooks (moved_all (sites_of books) logbooks) image
  opening_all written same = all_either books v image logbooks stand (λ j book b at stands. ⊎_elim
      (λ moving. ⊎_elim (λ before. inl before) (λ after. inr after.1) (while_opening book b v image long stands moving (written j book (low books j book at) at) (same j book at)))
      (λ none. inl (unchanged book b v image long stands (λ k from to out. same j book at k from to (λ inside. omega (arith, inside.0, none)))))
      (cases_lt 0 (length book.in_progress)))
    where
      low : (xs : List Book) (k : ℕ) (x : Book) → slice_get xs k ≡ Some x → k < length xs
      low [] k x is = absurd cc
      low (y ∷ xs) zero x is = omega arith
      low (y ∷ xs) (suc k) x is = let later = low xs k x is in omega (arith, later)

knows_on : (book : Book) (v image : List ℕ) → length image ≡ length v → SameWithin (start_of book) 2048 v image → Knows book.headers v → Knows book.headers image
knows_on book v image long headers knows =
    let some : 0 < (place_of book.headers).body = omega (arith, ap (λ (p : Place). p.body) book.placed) in
    (knows_speaks book.headers some).told_by v image long (subst (λ (p : Place). SameWithin p.start (slots_size p) v image) (sym book.placed) headers) knows

-- A logbook stands on where its next place alone differs.
pub stands_on : (book : Book) (b : Logbook) (v image : List ℕ) → length image ≡ length v → Stands book v b → SameWithin (start_of book) 2048 v image → IsStored (row_of book) (start_of book) b image → Stands book image b
stands_on book b v image long stands headers region = record {
  region = region;
  life = stands.life;
  logged = stands.logged;
  in_progress = stands.in_progress;
  headers = knows_on book v image long headers stands.headers;
}

headers_same : (P : Book → ℕ → Type 0) → ((book : Book) (k : ℕ) → P book k → next_gate_of book ≤ k) → (books : List Book) (v image : List ℕ) → InRegions P books v image → (j : ℕ) (book : Book) → slice_get books j ≡ Some book → SameWithin (start_of book) 2048 v image
headers_same P near books v image same j book at = record { within = λ k low high. same j book at k low (omega (arith, high)) (λ inside. omega (arith, near book k inside, high)) }

stand_each : (books : List Book) (v image : List ℕ) (logbooks : List Logbook) → StandFor books v logbooks → ((j : ℕ) (book : Book) (b : Logbook) → slice_get books j ≡ Some book → Stands book v b → Stands book image b) → StandFor books image logbooks
stand_each [] v image [] stand each = tt
stand_each [] v image (c ∷ logbooks) stand each = absurd stand
stand_each (x ∷ books) v image [] stand each = absurd stand
stand_each (x ∷ books) v image (c ∷ logbooks) stand each = (each 0 x c refl stand.0, stand_each books v image logbooks stand.1 (λ j book b at. each (suc j) book b at))

pub place_low : (xs : List Book) (k : ℕ) (x : Book) → slice_get xs k ≡ Some x → k < length xs
place_low [] k x is = absurd cc
place_low (y ∷ xs) zero x is = omega arith
place_low (y ∷ xs) (suc k) x is = let later = place_low xs k x is in omega (arith, later)

module _ (books : List Book) (v image : List ℕ) (logbooks : List Logbook) (long : length image ≡ length v) (stand : StandFor books v logbooks) where
  pub closing_stand : InRegions (OpenGate v) books v image → StandFor books image logbooks
  closing_stand same = stand_each books v image logbooks stand (λ j book b at stands.
      stands_on book b v image long stands (headers_same (OpenGate v) (λ a k inside. omega (arith, inside.1)) books v image same j book at) (while_closing book b v image long stands (same j book at)))

  pub writing_stand : AllBefore (IsClosed v) (length books) books → InRegions NextBody books v image → StandFor books image logbooks
  writing_stand shut same = stand_each books v image logbooks stand (λ j book b at stands.
      stands_on book b v image long stands (headers_same NextBody (λ a k inside. omega (arith, inside.1)) books v image same j book at) (⊎_elim
      (λ moving. while_writing book b v image long stands (shut j book (place_low books j book at) at moving) (same j book at))
      (λ none. unchanged book b v image long stands (λ k from to out. same j book at k from to (λ inside. omega (arith, inside.0, none))))
      (cases_lt 0 (length book.in_progress))))

-- what differs only in places of the logbooks differs in each region only in its own
pub in_regions : (P : Book → ℕ → Type 0) → ((book : Book) (k : ℕ) → P book k → (start_of book ≤ k) × (k < start_of book + size_of (site_of book))) → (books : List Book) (size : ℕ) → AreLaidOut (sites_of books) size
    → (v image : List ℕ) → SameBut (OfOne P books) v image → InRegions P books v image
in_regions P inside books size laid v image same j book at k low high out = same.same k (own_only P inside books size laid j book at k low high out)

-- once the gate is open over the next message
once_open : (book : Book) (b : Logbook) (v image : List ℕ) → length image ≡ length v → Stands book v b → IsMoving book → IsWritten v book → byte image (next_gate_of book) ≡ 165
    → ((k : ℕ) → start_of book ≤ k → k < start_of book + size_of (site_of book) → (NextGate book k → ⊥) → byte image k ≡ byte v k) → IsStored (row_of book) (start_of book) (moved (row_of book).logged b) image
once_open book b v image long stands moving written opened same =
    let first = first_of book.in_progress moving in
    let body : part (next_gate_of book + 512) 512 image ≡ part (next_gate_of book + 512) 512 v =
    part_same (next_gate_of book + 512) 512 image v long (λ k low high. same k (omega (arith, low)) (omega (arith, high, gate_within book)) (λ inside. omega (arith, inside.1, low))) in
    opened_moves book b v image long stands (λ k low high out. same k low high (λ inside. out (omega (arith, inside.1)) (omega (arith, inside.1)))) opened first.0 first.1 (sym stands.in_progress ∙ first.2)
    (ap (log_entry_of book.row.message_size) body ∙ written first.0 first.1 first.2 ∙ ap (λ (n : ℕ). let e : Option (ℕ × List ℕ) = Some (n + 1, first.0) in e) stands.life)

-- without a message in progress nothing moves
not_moving : (limit : ℕ) (b : Logbook) (messages : List Message) → b.in_progress ≡ messages → length messages ≤ 0 → moved limit b ≡ b
not_moving limit b [] is none = ap (moved_from limit b) is
not_moving limit b (message ∷ rest) is none = absurd (omega (arith, none))

moved_in_each : (books : List Book) (v image : List ℕ) (logbooks : List Logbook) → StandFor books v logbooks → ((j : ℕ) (book : Book) (b : Logbook) → slice_get books j ≡ Some book → Stands book v b → IsMovedIn book image b) → AreMovedIn books image logbooks
moved_in_each [] v image [] stand each = tt
moved_in_each [] v image (c ∷ logbooks) stand each = absurd stand
moved_in_each (x ∷ books) v image [] stand each = absurd stand
moved_in_each (x ∷ books) v image (c ∷ logbooks) stand each = (each 0 x c refl stand.0, moved_in_each books v image logbooks stand.1 (λ j book b at. each (suc j) book b at))

pub all_moved_in : (books : List Book) (v image : List ℕ) (logbooks : List Logbook) → length image ≡ length v → StandFor books v logbooks → AllBefore (IsWritten v) (length books) books → AllBefore (IsOpened image) (length books) books → InRegions NextGate books v image → AreMovedIn books image logbooks
all_moved_in books v image logbooks long stand written opened same = moved_in_each books v image logbooks stand (λ j book b at stands.
    let headers = headers_same NextGate (λ a k inside. omega (arith, inside.1)) books v image same j book at in
    ⊎_elim
    (λ moving. record {
      region = once_open book b v image long stands moving (written j book (place_low books j book at) at) (opened j book (place_low books j book at) at moving) (same j book at);
      headers = knows_on book v image long headers stands.headers;
    })
    (λ none.
    let still = unchanged book b v image long stands (λ k from to out. same j book at k from to (λ inside. omega (arith, inside.0, none))) in
    let same_book : moved (row_of book).logged b ≡ b = not_moving book.row.logged b book.in_progress (sym stands.in_progress) none in
    record {
      region = subst (λ (x : Logbook). IsStored (row_of book) (start_of book) x image) (sym same_book) still;
      headers = knows_on book v image long headers stands.headers;
    })
    (cases_lt 0 (length book.in_progress)))
