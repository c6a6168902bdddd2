-- Lists that are related item by item.
use Rattle.std.proofs.Common.{◌≡◌, ℕ, zero, suc, List, [], ◌∷◌, ◌++◌, Some, refl, sym, ◌∙◌, ap, subst}
use Rattle.std.specs.Prelude.{slice_get, slice_set, slice_index_or, Result, Ok, Err, OnOk}
use Rattle.std.specs.List.{AllZip}
use Rattle.logbook_store.specs.Logs.{Site, site_of, sites_of}
use Rattle.apex_types.specs.declared.rows.LogbookRow.{LogbookRow}
use Rattle.logbook_store.specs.Books.{row_of, start_of}
use Rattle.logbook_store.specs.declared.book.Book.{Book}

module _ {A B : Type 0} (P : A → B → Type 0) where
  pub zip_at : (xs : List A) (ys : List B) (k : ℕ) (x : A) (d : B) → AllZip P xs ys → slice_get xs k ≡ Some x → P x (slice_index_or ys k d)
  zip_at [] [] k x d all is = absurd cc
  zip_at [] (y ∷ ys) k x d all is = absurd all
  zip_at (z ∷ xs) [] k x d all is = absurd all
  zip_at (z ∷ xs) (y ∷ ys) zero x d all is = let same : z ≡ x = cc in subst (λ (a : A). P a y) same all.0
  zip_at (z ∷ xs) (y ∷ ys) (suc k) x d all is = zip_at xs ys k x d all.1 is

  pub zip_set : (xs : List A) (ys : List B) (k : ℕ) (x : A) (y : B) → AllZip P xs ys → P x y → AllZip P (slice_set xs k x) (slice_set ys k y)
  zip_set [] [] k x y all one = tt
  zip_set [] (w ∷ ys) k x y all one = absurd all
  zip_set (z ∷ xs) [] k x y all one = absurd all
  zip_set (z ∷ xs) (w ∷ ys) zero x y all one = (one, all.1)
  zip_set (z ∷ xs) (w ∷ ys) (suc k) x y all one = (all.0, zip_set xs ys k x y all.1 one)

  pub zip_push : (xs : List A) (ys : List B) (x : A) (y : B) → AllZip P xs ys → P x y → AllZip P (xs ++ x ∷ []) (ys ++ y ∷ [])
  zip_push [] [] x y all one = (one, tt)
  zip_push [] (w ∷ ys) x y all one = absurd all
  zip_push (z ∷ xs) [] x y all one = absurd all
  zip_push (z ∷ xs) (w ∷ ys) x y all one = (all.0, zip_push xs ys x y all.1 one)

-- a logbook that keeps its place
pub sites_set : (books : List Book) (k : ℕ) (old new : Book) → slice_get books k ≡ Some old → site_of new ≡ site_of old → sites_of (slice_set books k new) ≡ sites_of books
sites_set [] k old new is same = refl
sites_set (b ∷ books) zero old new is same =
    let here : b ≡ old = cc in
    ap (λ (s : Site). s ∷ sites_of books) (same ∙ sym (ap site_of here))
sites_set (b ∷ books) (suc k) old new is same = ap (λ (sites : List Site). site_of b ∷ sites) (sites_set books k old new is same)

pub same_site : (a b : Book) → row_of a ≡ row_of b → start_of a ≡ start_of b → site_of a ≡ site_of b
same_site a b row start = ap (λ (r : LogbookRow). let s : Site = (r, start_of a) in s) row ∙ ap (λ (n : ℕ). let s : Site = (row_of b, n) in s) start

pub on_ok : {T E : Type 0} {P Q : Type 0} (r : Result T E) → (P → Q) → OnOk r P → OnOk r Q
on_ok (Ok x) more has = more has
on_ok (Err x) more has = tt
