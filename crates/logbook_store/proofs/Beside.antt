-- Logbooks beside the one that changes.
use Rattle.std.proofs.Common.{◌≡◌, ◌⊎◌, inl, inr, ⊎_elim, ℕ, zero, suc, ◌+◌, ◌*◌, ◌<◌, ◌≤◌, List, [], ◌∷◌, length, Some, refl, sym, ◌∙◌, ap, subst, arith}
use Rattle.std.specs.Prelude.{slice_get, slice_set, slice_index_or}
use Rattle.std.proofs.lemmas.Bool.{cases_eq, cases_lt}
use Rattle.apex_types.specs.declared.rows.LogbookRow.{LogbookRow}
use Rattle.apex_model.specs.Image.{logbook_of_region}
use Rattle.apex_model.specs.Layout.{logbook_blocks}
use Rattle.apex_model.specs.Logbooks.{Logbook, empty_book}
use Rattle.rig_core.specs.Bytes.{SameElsewhere, SameWithin}
use Rattle.rig_core.specs.Outside.{Outside, Sound}
use Rattle.rig_core.specs.Leaves.{Leaves, LeavesElsewhere, FromNow, AreApart}
use Rattle.rig_core.proofs.Moments.{leaves_both, leaves_weaker}
use Rattle.rig_core.proofs.Put.{part_same}
use Rattle.rig_core.proofs.Regions.{within_from_elsewhere}
use Rattle.gate_slots.specs.Slots.{Place, place_of, slots_size}
use Rattle.gate_slots.proofs.Regions.{knows_speaks}
use Rattle.logbook_store.specs.Books.{row_of, start_of, IsStored, Stands}
use Rattle.logbook_store.specs.Logs.{Site, site_of, sites_of, size_of, AreLaidOut, AreSettled, AreBeforeOrAfter, StandFor}
use Rattle.logbook_store.specs.declared.book.Book.{Book}

-- a region is told by its bytes
pub stored_same : (row : LogbookRow) (start : ℕ) (b : Logbook) (old new : List ℕ) → length new ≡ length old → SameWithin start (512 * logbook_blocks row) old new → IsStored row start b old → IsStored row start b new
stored_same row start b old new long same stored =
    ap (logbook_of_region row) (part_same start (512 * logbook_blocks row) new old long (λ k low high. same.within k low high)) ∙ stored

pub stands_same : (book : Book) (b : Logbook) (old new : List ℕ) → length new ≡ length old → SameWithin book.start (512 * logbook_blocks book.row) old new → Stands book old b → Stands book new b
stands_same book b old new long same stands = record {
  region = stored_same book.row book.start b old new long same stands.region;
  life = stands.life;
  logged = stands.logged;
  in_progress = stands.in_progress;
  headers =
      let some : 0 < (place_of book.headers).body = omega (arith, ap (λ (p : Place). p.body) book.placed) in
      let within : SameWithin (place_of book.headers).start (slots_size (place_of book.headers)) old new =
      subst (λ (p : Place). SameWithin p.start (slots_size p) old new) (sym book.placed) (record { within = λ k low high. same.within k low (omega (arith, high)) }) in
      (knows_speaks book.headers some).told_by old new long within stands.headers;
}

-- two regions of one layout
pub beside : (sites : List Site) (size : ℕ) → AreLaidOut sites size → (j k : ℕ) (one two : Site) → (j ≡ k → ⊥) → slice_get sites j ≡ Some one → slice_get sites k ≡ Some two → AreApart one.1 (size_of one) two.1 (size_of two)
beside sites size laid j k one two differ is other = ⊎_elim
    (λ less. inl (laid.ordered j k one two less is other))
    (λ more. inr (laid.ordered k j two one (omega (arith, more, differ)) other is))
    (cases_lt j k)

pub site_at : (books : List Book) (k : ℕ) (book : Book) → slice_get books k ≡ Some book → slice_get (sites_of books) k ≡ Some (site_of book)
site_at [] k book is = absurd cc
site_at (b ∷ books) zero book is = let same : b ≡ book = cc in ap (λ (x : Book). Some (site_of x)) same
site_at (b ∷ books) (suc k) book is = site_at books k book is

-- each logbook is stored where the objects stand for them
pub stored_each : (books : List Book) (image : List ℕ) (logbooks : List Logbook) → StandFor books image logbooks → (k : ℕ) (site : Site) (b : Logbook) → slice_get (sites_of books) k ≡ Some site → slice_get logbooks k ≡ Some b → IsStored site.0 site.1 b image
stored_each [] image [] stand k site b is other = absurd cc
stored_each [] image (c ∷ logbooks) stand k site b is other = absurd stand
stored_each (x ∷ books) image [] stand k site b is other = absurd stand
stored_each (x ∷ books) image (c ∷ logbooks) stand zero site b is other =
    let same : site_of x ≡ site = cc in
    let same_book : c ≡ b = cc in
    subst (λ (s : Site). IsStored s.0 s.1 b image) same (subst (λ (d : Logbook). IsStored (row_of x) (start_of x) d image) same_book stand.0.region)
stored_each (x ∷ books) image (c ∷ logbooks) stand (suc k) site b is other = stored_each books image logbooks stand.1 k site b is other

-- the list with one changed, place by place
pub set_here : {X : Type 0} (xs : List X) (k : ℕ) (x y : X) → slice_get (slice_set xs k x) k ≡ Some y → y ≡ x
set_here [] k x y is = absurd cc
set_here (z ∷ xs) zero x y is = cc
set_here (z ∷ xs) (suc k) x y is = set_here xs k x y is

pub at_here : {X : Type 0} (xs : List X) (k : ℕ) (x d : X) → slice_get xs k ≡ Some x → slice_index_or xs k d ≡ x
at_here [] k x d is = absurd cc
at_here (z ∷ xs) zero x d is = cc
at_here (z ∷ xs) (suc k) x d is = at_here xs k x d is

-- One logbook changes, within its region.
module _ (V K : Type 0) (books : List Book) (logbooks : List Logbook) (k : ℕ) (book : Book) (new : Logbook) (o e : Outside) (sound : Sound V K o) (tells : V) (here : slice_get books k ≡ Some book)
    (laid : AreLaidOut (sites_of books) o.size) (settled : AreSettled (sites_of books) o) (stand : StandFor books o.view logbooks) where
  abbrev after : List Logbook
  after = slice_set logbooks k new

  abbrev own : List ℕ → Type 0
  own image = IsStored (row_of book) (start_of book) (slice_index_or logbooks k empty_book) image ⊎ IsStored (row_of book) (start_of book) new image

  -- an image that differs from a settled one in that region alone
  pub one_changes : (image : List ℕ) → length image ≡ length o.view → ((j : ℕ) (site : Site) → (j ≡ k → ⊥) → slice_get (sites_of books) j ≡ Some site → SameWithin site.1 (size_of site) o.view image) → own image → AreBeforeOrAfter (sites_of books) logbooks after image
  one_changes image long others mine j site b c is was now = ⊎_elim
      (λ same.
      let at : Some site ≡ Some (site_of book) = sym is ∙ ap (λ (n : ℕ). slice_get (sites_of books) n) same ∙ site_at books k book here in
      let site_is : site_of book ≡ site = cc in
      let old_is : slice_index_or logbooks k empty_book ≡ b = at_here logbooks k b empty_book (ap (λ (n : ℕ). slice_get logbooks n) (sym same) ∙ was) in
      let new_is : c ≡ new = set_here logbooks k new c (ap (λ (n : ℕ). slice_get after n) (sym same) ∙ now) in
      ⊎_elim
      (λ before. inl (subst (λ (s : Site). IsStored s.0 s.1 b image) site_is (subst (λ (x : Logbook). IsStored (row_of book) (start_of book) x image) old_is before)))
      (λ behind. inr (subst (λ (s : Site). IsStored s.0 s.1 c image) site_is (subst (λ (x : Logbook). IsStored (row_of book) (start_of book) x image) (sym new_is) behind)))
      mine)
      (λ differ. inl (stored_same site.0 site.1 b o.view image long (others j site differ is) (stored_each books o.view logbooks stand j site b is was)))
      (cases_eq j k)

  pub others_same : (at n : ℕ) (image from : List ℕ) → start_of book ≤ at → at + n ≤ start_of book + size_of (site_of book) → SameElsewhere at n from image → (j : ℕ) (site : Site) → (j ≡ k → ⊥) → slice_get (sites_of books) j ≡ Some site → SameWithin site.1 (size_of site) from image
  others_same at n image from low high same j site differ is =
      let apart = beside (sites_of books) o.size laid j k site (site_of book) differ is (site_at books k book here) in
      within_from_elsewhere site.1 (size_of site) at n from image (⊎_elim (λ h. inl (omega (arith, h, low))) (λ h. inr (omega (arith, h, high))) apart) same

  -- at every moment
  pub leaves_one : (at n : ℕ) → start_of book ≤ at → at + n ≤ start_of book + size_of (site_of book) → Leaves own o e → LeavesElsewhere at n o e → Leaves (AreBeforeOrAfter (sites_of books) logbooks after) o e
  leaves_one at n low high mine outside =
      leaves_weaker (λ image. own image × FromNow at n o image) (AreBeforeOrAfter (sites_of books) logbooks after) o e
      (λ image both.
      let from = both.1 in
      one_changes image (from.3.long ∙ sound.image_fills o.clock from.0 from.1 from.2 ∙ sym (sound.view_fills tells))
      (λ j site differ is.
      let seen = settled j site is from.0 from.1 from.2 in
      let same = others_same at n image from.0 low high from.3 j site differ is in
      record { within = λ p from_low to_high. same.within p from_low to_high ∙ seen.within p from_low to_high })
      both.0)
      (leaves_both own (FromNow at n o) o e mine outside)

-- the objects stand on while one changes
pub stand_set : (books : List Book) (logbooks : List Logbook) (k : ℕ) (book : Book) (new : Logbook) (old view : List ℕ) → StandFor books old logbooks → slice_get books k ≡ Some book
    → ((j : ℕ) (other : Book) → (j ≡ k → ⊥) → slice_get books j ≡ Some other → (b : Logbook) → Stands other old b → Stands other view b) → (changed : Book) → Stands changed view new → StandFor (slice_set books k changed) view (slice_set logbooks k new)
stand_set [] [] k book new old view stand here others changed now = tt
stand_set [] (c ∷ logbooks) k book new old view stand here others changed now = absurd stand
stand_set (x ∷ books) [] k book new old view stand here others changed now = absurd stand
stand_set (x ∷ books) (c ∷ logbooks) zero book new old view stand here others changed now = (now, rest books logbooks stand.1 (λ j other is b was. others (suc j) other (λ same. omega (arith, same)) is b was))
  where
    rest : (books : List Book) (logbooks : List Logbook) → StandFor books old logbooks → ((j : ℕ) (other : Book) → slice_get books j ≡ Some other → (b : Logbook) → Stands other old b → Stands other view b) → StandFor books view logbooks
    rest [] [] stand each = tt
    rest [] (c ∷ logbooks) stand each = absurd stand
    rest (x ∷ books) [] stand each = absurd stand
    rest (x ∷ books) (c ∷ logbooks) stand each = (each 0 x refl c stand.0, rest books logbooks stand.1 (λ j other is. each (suc j) other is))
stand_set (x ∷ books) (c ∷ logbooks) (suc k) book new old view stand here others changed now =
    (others 0 x (λ same. omega (arith, same)) refl c stand.0, stand_set books logbooks k book new old view stand.1 here (λ j other differ is. others (suc j) other (λ same. differ (omega (arith, same))) is) changed now)
