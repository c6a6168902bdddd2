-- All logbooks once their oldest messages in progress have moved.
use Rattle.std.proofs.Common.{◌≡◌, inl, ⊎_elim, ℕ, zero, suc, ◌+◌, ◌<◌, ◌≤◌, Bool, true, false, List, [], ◌∷◌, length, Some, refl, sym, ◌∙◌, ap, subst, arith, if◌then◌else◌}
use Rattle.std.specs.Prelude.{slice_get, slice_set, nat_lt, ◌||◌, ◌++◌, take}
use Rattle.std.specs.List.{AllZip, list_any}
use Rattle.std.proofs.lemmas.List.{length-map}
use Rattle.std.proofs.lemmas.Bool.{cases_eq}
use Rattle.std.proofs.lemmas.Bool.Decides.{nat_tests}
use Rattle.apex_model.specs.Logbooks.{Logbook, Message, moved, moved_from}
use Rattle.rig_core.specs.Bytes.{SameElsewhere}
use Rattle.rig_core.specs.Outside.{Outside, Sound}
use Rattle.rig_core.specs.Leaves.{Leaves, LeavesElsewhere, FromNow}
use Rattle.rig_core.proofs.Moments.{leaves_none, leaves_weaker, elsewhere_same}
use Rattle.gate_slots.specs.Slots.{Knows}
use Rattle.logbook_store.specs.Books.{row_of, progress_of, IsStored, Stands}
use Rattle.logbook_store.specs.Logs.{Site, site_of, sites_of, AreSettled, AreBeforeOrAfter, AreWithin, StandFor}
use Rattle.logbook_store.specs.Moves.{AreMovedIn, FromNowBut, HasMoved, IsMovedIn, LeavesBut, NextPlace, OfOne, SameBut, moved_all, moving_count}
use Rattle.logbook_store.specs.declared.book.Book.{Book}
use Rattle.logbook_store.proofs.Beside.{site_at, stored_each, stored_same}
use Rattle.logbook_store.proofs.Gates.{gate_within}

-- Logbooks that move one by one.

-- the logbooks before this number have moved, and the others are as they were
pub record MovedBefore (k : ℕ) (old new : List Book) : Type 0 where
  pub sites : sites_of new ≡ sites_of old
  pub moved : (j : ℕ) (a b : Book) → j < k → slice_get old j ≡ Some a → slice_get new j ≡ Some b → HasMoved a b
  pub kept : (j : ℕ) → k ≤ j → slice_get new j ≡ slice_get old j

get_set_other : (books : List Book) (k j : ℕ) (x : Book) → (j ≡ k → ⊥) → slice_get (slice_set books k x) j ≡ slice_get books j
get_set_other [] k j x differ = refl
get_set_other (b ∷ books) zero zero x differ = absurd (differ refl)
get_set_other (b ∷ books) zero (suc j) x differ = refl
get_set_other (b ∷ books) (suc k) zero x differ = refl
get_set_other (b ∷ books) (suc k) (suc j) x differ = get_set_other books k j x (λ same. differ (omega (arith, same)))

get_set_here : (books : List Book) (k : ℕ) (x y : Book) → slice_get (slice_set books k x) k ≡ Some y → x ≡ y
get_set_here [] k x y is = absurd cc
get_set_here (b ∷ books) zero x y is = cc
get_set_here (b ∷ books) (suc k) x y is = get_set_here books k x y is

set_sites : (books : List Book) (k : ℕ) (old new : Book) → slice_get books k ≡ Some old → site_of new ≡ site_of old → sites_of (slice_set books k new) ≡ sites_of books
set_sites [] k old new is same = refl
set_sites (b ∷ books) zero old new is same =
    let here : b ≡ old = cc in
    ap (λ (s : Site). s ∷ sites_of books) (same ∙ sym (ap site_of here))
set_sites (b ∷ books) (suc k) old new is same = ap (λ (sites : List Site). site_of b ∷ sites) (set_sites books k old new is same)

pub moved_none : (books : List Book) → MovedBefore 0 books books
moved_none books = record {
  sites = refl;
  moved = λ j a b low was now. absurd (omega (arith, low));
  kept = λ j low. refl;
}

pub moved_one : (k : ℕ) (old new : List Book) (book changed : Book) → MovedBefore k old new → slice_get new k ≡ Some book → site_of changed ≡ site_of book → HasMoved book changed → MovedBefore (k + 1) old (slice_set new k changed)
moved_one k old new book changed before there same one = record {
  sites = set_sites new k book changed there same ∙ before.sites;
  moved = λ j a b low was now. ⊎_elim
      (λ here.
      let at : Some a ≡ Some book = sym was ∙ ap (λ (n : ℕ). slice_get old n) here ∙ sym (before.kept k (omega arith)) ∙ there in
      let first : book ≡ a = cc in
      let second : changed ≡ b = get_set_here new k changed b (ap (λ (n : ℕ). slice_get (slice_set new k changed) n) (sym here) ∙ now) in
      subst (λ (x : Book). HasMoved x b) first (subst (HasMoved book) second one))
      (λ differ. before.moved j a b (omega (arith, low, differ)) was (sym (get_set_other new k j changed differ) ∙ now))
      (cases_eq j k);
  kept = λ j low. get_set_other new k j changed (λ same. omega (arith, same, low)) ∙ before.kept j (omega (arith, low));
}

pub moved_zip : (old new : List Book) → sites_of new ≡ sites_of old → ((j : ℕ) (a b : Book) → slice_get old j ≡ Some a → slice_get new j ≡ Some b → HasMoved a b) → AllZip HasMoved old new
moved_zip [] [] same each = tt
moved_zip [] (y ∷ new) same each = absurd cc
moved_zip (x ∷ old) [] same each = absurd cc
moved_zip (x ∷ old) (y ∷ new) same each =
    let later : sites_of new ≡ sites_of old = cc in
    (each 0 x y refl refl, moved_zip old new later (λ j a b was now. each (suc j) a b was now))

below_length : (books : List Book) (k : ℕ) (book : Book) → slice_get books k ≡ Some book → k < length books
below_length [] k book is = absurd cc
below_length (b ∷ books) zero book is = omega arith
below_length (b ∷ books) (suc k) book is = let later = below_length books k book is in omega (arith, later)

pub moved_all_of : (k : ℕ) (old new : List Book) → length old ≤ k → MovedBefore k old new → AllZip HasMoved old new
moved_all_of k old new all before = moved_zip old new before.sites (λ j a b was now. before.moved j a b (omega (arith, all, below_length old j a was)) was now)

take_front : (books rest : List Book) → take (length books) (books ++ rest) ≡ books
take_front [] rest = refl
take_front (b ∷ books) rest = ap (λ (l : List Book). b ∷ l) (take_front books rest)

-- all of a list that was lent
pub all_back : (count : ℕ) (old new rest : List Book) → sites_of new ≡ sites_of old → length old ≡ count → new ≡ take count (new ++ rest)
all_back count old new rest same long =
    let is : length new ≡ count = sym (length-map new site_of) ∙ ap length same ∙ length-map old site_of ∙ long in
    sym (ap (λ (n : ℕ). take n (new ++ rest)) (sym is) ∙ take_front new rest)

-- Whether one moves.

abbrev pub moves : Book → Bool
moves book = nat_lt 0 (length (progress_of book))

any_or_count : (t : Bool) (n : ℕ) → (t || nat_lt 0 n) ≡ nat_lt 0 ((if t then 1 else 0) + n)
any_or_count true n = grind (arith, nat_tests)
any_or_count false n = ap (nat_lt 0) (omega arith)

pub any_by_count : (books : List Book) → list_any moves books ≡ nat_lt 0 (moving_count books)
any_by_count [] = grind (arith, nat_tests)
any_by_count (b ∷ books) = ap (λ (t : Bool). moves b || t) (any_by_count books) ∙ any_or_count (moves b) (moving_count books)

-- Nothing moves.

pub none_by_test : (n : ℕ) → false ≡ nat_lt 0 n → n ≤ 0
none_by_test n test = grind (arith, nat_tests)

pub count_none : (books : List Book) → moving_count books ≤ 0 → (k : ℕ) (book : Book) → slice_get books k ≡ Some book → length (progress_of book) ≤ 0
count_none [] none k book is = absurd cc
count_none (b ∷ books) none zero book is =
    let here : b ≡ book = cc in
    subst (λ (x : Book). length (progress_of x) ≤ 0) here (first (length (progress_of b)) (moving_count books) none)
  where
    first : (n m : ℕ) → (if nat_lt 0 n then 1 else 0) + m ≤ 0 → n ≤ 0
    first n m few = grind (arith, nat_tests)
count_none (b ∷ books) none (suc k) book is = count_none books (omega (arith, none)) k book is

not_moving : (limit : ℕ) (b : Logbook) (messages : List Message) → b.in_progress ≡ messages → length messages ≤ 0 → moved limit b ≡ b
not_moving limit b [] is none = ap (moved_from limit b) is
not_moving limit b (message ∷ rest) is none = absurd (omega (arith, none))

-- where nothing is in progress the logbooks stay
pub none_move : (books : List Book) (image : List ℕ) (logbooks : List Logbook) → ((k : ℕ) (book : Book) → slice_get books k ≡ Some book → length (progress_of book) ≤ 0) → StandFor books image logbooks → moved_all (sites_of books) logbooks ≡ logbooks
none_move [] image [] none stand = refl
none_move [] image (c ∷ logbooks) none stand = absurd stand
none_move (x ∷ books) image [] none stand = absurd stand
none_move (x ∷ books) image (c ∷ logbooks) none stand =
    ap (λ (b : Logbook). b ∷ moved_all (sites_of books) logbooks) (not_moving (row_of x).logged c (progress_of x) (sym stand.0.in_progress) (none 0 x refl))
    ∙ ap (λ (l : List Logbook). c ∷ l) (none_move books image logbooks (λ k book is. none (suc k) book is) stand.1)

-- a run of no calls leaves each logbook as before
pub none_leaves : (V K : Type 0) (books : List Book) (logbooks after : List Logbook) (o : Outside) → Sound V K o → V → AreSettled (sites_of books) o → StandFor books o.view logbooks → Leaves (AreBeforeOrAfter (sites_of books) logbooks after) o o
none_leaves V K books logbooks after o sound tells settled stand = leaves_none (AreBeforeOrAfter (sites_of books) logbooks after) o
    (λ image told now j site b c is was behind. inl (stored_same site.0 site.1 b o.view image
    (sound.image_fills o.clock image told now ∙ sym (sound.view_fills tells)) (settled j site is image told now) (stored_each books o.view logbooks stand j site b is was)))

pub none_elsewhere : (at n : ℕ) (o : Outside) → LeavesElsewhere at n o o
none_elsewhere at n o = leaves_none (FromNow at n o) o (λ image told now. (image, told, now, elsewhere_same at n image))

-- Where the next places stand.

place_inside : (books : List Book) (at n : ℕ) → AreWithin at n (sites_of books) → (k : ℕ) → OfOne NextPlace books k → (at ≤ k) × (k < at + n)
place_inside books at n within k one =
    let fits = within one.0 (site_of one.1) (site_at books one.0 one.1 one.2) in
    (omega (arith, fits.0, one.3.1), omega (arith, fits.1, one.3.2, gate_within one.1))

pub but_elsewhere : (books : List Book) (at n : ℕ) → AreWithin at n (sites_of books) → (old new : List ℕ) → SameBut (OfOne NextPlace books) old new → SameElsewhere at n old new
but_elsewhere books at n within old new same = record {
  long = same.long;
  below = λ k low. same.same k (λ inside. omega (arith, low, (place_inside books at n within k inside).0));
  above = λ k high. same.same k (λ inside. omega (arith, high, (place_inside books at n within k inside).1));
}

pub leaves_but_elsewhere : (books : List Book) (at n : ℕ) → AreWithin at n (sites_of books) → (o e : Outside) → LeavesBut (OfOne NextPlace books) o e → LeavesElsewhere at n o e
leaves_but_elsewhere books at n within o e run = leaves_weaker (FromNowBut (OfOne NextPlace books) o) (FromNow at n o) o e
    (λ image from. (from.0, from.1, from.2, but_elsewhere books at n within from.0 image from.3)) run

-- What the objects stand for.

moved_stands : (old new : Book) (v image : List ℕ) (b : Logbook) → site_of new ≡ site_of old → HasMoved old new → Stands old v b → IsMovedIn old image b → Stands new image (moved (row_of old).logged b)
moved_stands old new v image b same has stands is =
    let agrees = has.life b (record { life = stands.life; logged = stands.logged; in_progress = stands.in_progress }) in
    record {
      region = subst (λ (s : Site). IsStored s.0 s.1 (moved (row_of old).logged b) image) (sym same) is.region;
      life = agrees.life;
      logged = agrees.logged;
      in_progress = agrees.in_progress;
      headers = subst (λ h. Knows h image) (sym has.headers) is.headers;
    }

pub all_stand : (old new : List Book) (v image : List ℕ) (logbooks : List Logbook) → sites_of new ≡ sites_of old → AllZip HasMoved old new → StandFor old v logbooks → AreMovedIn old image logbooks → StandFor new image (moved_all (sites_of old) logbooks)
all_stand [] [] v image [] same has stand are = tt
all_stand [] [] v image (c ∷ logbooks) same has stand are = absurd stand
all_stand [] (y ∷ new) v image logbooks same has stand are = absurd has
all_stand (x ∷ old) [] v image logbooks same has stand are = absurd has
all_stand (x ∷ old) (y ∷ new) v image [] same has stand are = absurd stand
all_stand (x ∷ old) (y ∷ new) v image (c ∷ logbooks) same has stand are =
    let here : site_of y ≡ site_of x = cc in
    let later : sites_of new ≡ sites_of old = cc in
    (moved_stands x y v image c here has.0 stand.0 are.0, all_stand old new v image logbooks later has.1 stand.1 are.1)
