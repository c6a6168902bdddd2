-- One tree of several acts, and the others stay.
use Rattle.std.proofs.Common.{◌≡◌, ◌≢◌, ℕ, zero, suc, List, [], ◌∷◌, Some, refl, sym, ap, subst, ◌∙◌, arith}
use Rattle.std.specs.Prelude.{slice_get, slice_set, slice_index_or, map}
use Rattle.std.specs.List.{AllByRecursion, AllZip}
use Rattle.rig_core.specs.Outside.{Outside, Sound}
use Rattle.rig_core.specs.Runs.{StaysWithin}
use Rattle.rig_core.specs.Windows.{Window, AreLaidOut}
use Rattle.rig_core.proofs.Beside.{laid_apart, stays_beside}
use Rattle.store_model.specs.Betweens.{TreeSite, tree_long}
use Rattle.store_model.specs.Stores.{StoreValue}
use Rattle.tree_store.specs.Answers.{Acts}
use Rattle.tree_store.specs.Serving.{AreStored, AllHold, sites_of, window_of}
use Rattle.tree_store.specs.Stored.{start_of, site_of, IsStored, Holds}
use Rattle.tree_store.specs.declared.store.TreeStore.{TreeStore}
use Rattle.tree_store.proofs.Stays.{stored_stays, holds_stays}

-- ---- lists

module _ {A : Type 0} (P Q : A → Type 0) where
  pub all_keep : (xs : List A) → AllByRecursion P xs → ((j : ℕ) (x : A) → slice_get xs j ≡ Some x → P x → Q x) → AllByRecursion Q xs
  all_keep [] all keep = tt
  all_keep (x ∷ xs) all keep = (keep zero x refl all.0, all_keep xs all.1 (λ j y at. keep (suc j) y at))

  pub all_set : (xs : List A) (k : ℕ) (new : A) → AllByRecursion P xs → ((j : ℕ) (x : A) → j ≢ k → slice_get xs j ≡ Some x → P x → Q x) → Q new → AllByRecursion Q (slice_set xs k new)
  all_set [] k new all other one = tt
  all_set (x ∷ xs) zero new all other one = (one, all_keep xs all.1 (λ j y at. other (suc j) y (λ same. omega (arith, same)) at))
  all_set (x ∷ xs) (suc k) new all other one = (other zero x (λ same. omega (arith, same)) refl all.0, all_set xs k new all.1 (λ j y differ at. other (suc j) y (λ same. differ (omega (arith, same))) at) one)

module _ {A B : Type 0} (P Q : A → B → Type 0) where
  pub zip_keep : (xs : List A) (ys : List B) → AllZip P xs ys → ((j : ℕ) (x : A) (y : B) → slice_get xs j ≡ Some x → P x y → Q x y) → AllZip Q xs ys
  zip_keep [] [] all keep = tt
  zip_keep [] (y ∷ ys) all keep = absurd all
  zip_keep (x ∷ xs) [] all keep = absurd all
  zip_keep (x ∷ xs) (y ∷ ys) all keep = (keep zero x y refl all.0, zip_keep xs ys all.1 (λ j u w at. keep (suc j) u w at))

  pub zip_at : (xs : List A) (ys : List B) (k : ℕ) (x : A) (d : B) → AllZip P xs ys → slice_get xs k ≡ Some x → P x (slice_index_or ys k d)
  zip_at [] [] k x d all is = absurd cc
  zip_at [] (y ∷ ys) k x d all is = absurd all
  zip_at (z ∷ xs) [] k x d all is = absurd all
  zip_at (z ∷ xs) (y ∷ ys) zero x d all is = let same : z ≡ x = cc in subst (λ (a : A). P a y) same all.0
  zip_at (z ∷ xs) (y ∷ ys) (suc k) x d all is = zip_at xs ys k x d all.1 is

  pub zip_step : (xs : List A) (ys : List B) (k : ℕ) (new : A) (next : B) → AllZip P xs ys → ((j : ℕ) (x : A) (y : B) → j ≢ k → slice_get xs j ≡ Some x → P x y → Q x y) → Q new next
      → AllZip Q (slice_set xs k new) (slice_set ys k next)
  zip_step [] [] k new next all other one = tt
  zip_step [] (y ∷ ys) k new next all other one = absurd all
  zip_step (x ∷ xs) [] k new next all other one = absurd all
  zip_step (x ∷ xs) (y ∷ ys) zero new next all other one = (one, zip_keep xs ys all.1 (λ j u w at. other (suc j) u w (λ same. omega (arith, same)) at))
  zip_step (x ∷ xs) (y ∷ ys) (suc k) new next all other one =
      (other zero x y (λ same. omega (arith, same)) refl all.0, zip_step xs ys k new next all.1 (λ j u w differ at. other (suc j) u w (λ same. differ (omega (arith, same))) at) one)

pub window_at : (trees : List TreeStore) (k : ℕ) (s : TreeStore) → slice_get trees k ≡ Some s → slice_get (map window_of (sites_of trees)) k ≡ Some (start_of s, tree_long (site_of s))
window_at [] k s is = absurd cc
window_at (t ∷ trees) zero s is = let same : t ≡ s = cc in ap (λ (u : TreeStore). let w : Window = (start_of u, tree_long (site_of u)) in Some w) same
window_at (t ∷ trees) (suc k) s is = window_at trees k s is

pub sites_set : (trees : List TreeStore) (k : ℕ) (old new : TreeStore) → slice_get trees k ≡ Some old → site_of new ≡ site_of old → sites_of (slice_set trees k new) ≡ sites_of trees
sites_set [] k old new is same = refl
sites_set (t ∷ trees) zero old new is same = let here : t ≡ old = cc in ap (λ (s : TreeSite). s ∷ sites_of trees) (same ∙ sym (ap site_of here))
sites_set (t ∷ trees) (suc k) old new is same = ap (λ (sites : List TreeSite). site_of t ∷ sites) (sites_set trees k old new is same)

-- ---- one of them acts

pub stored_in : (P : TreeStore → Type 0) (trees : List TreeStore) (j : ℕ) (t : TreeStore) → AllByRecursion P trees → slice_get trees j ≡ Some t → P t
stored_in P [] j t all there = absurd cc
stored_in P (x ∷ trees) zero t all there = let same : x ≡ t = cc in subst P same all.0
stored_in P (x ∷ trees) (suc j) t all there = stored_in P trees j t all.1 there

module _ (V K : Type 0) (o e : Outside) (sound : Sound V K o) (sound_after : Sound V K e) (trees : List TreeStore) (k : ℕ) (s new : TreeStore) (writes syncs : ℕ)
    (laid : AreLaidOut (map window_of (sites_of trees)) o.size) (here : slice_get trees k ≡ Some s) (acts : Acts V writes syncs o e s new) where
  other-stays : (j : ℕ) (t : TreeStore) → j ≢ k → slice_get trees j ≡ Some t → StaysWithin V (start_of t) (tree_long (site_of t)) o e
  other-stays j t differ there = stays_beside V K (start_of t) (tree_long (site_of t)) (start_of s) (tree_long (site_of s)) writes syncs o e sound_after
      (laid_apart (map window_of (sites_of trees)) o.size j k (start_of t, tree_long (site_of t)) (start_of s, tree_long (site_of s)) laid differ (window_at trees j t there) (window_at trees k s here)) acts.runs

  pub all_stored : AreStored V o trees → IsStored V e new → AreStored V e (slice_set trees k new)
  all_stored stored one = all_set (IsStored V o) (IsStored V e) trees k new stored
      (λ j t differ there was. stored_stays V K o e sound sound_after t was (other-stays j t differ there)) one

  -- each holds what it held, and the one what it comes to
  pub all_hold : AreStored V o trees → (stores : List StoreValue) (w : StoreValue) → AllHold V o trees stores → Holds V e new w → AllHold V e (slice_set trees k new) (slice_set stores k w)
  all_hold stored stores w hold one = zip_step (Holds V o) (Holds V e) trees stores k new w hold
      (λ j t v differ there was. holds_stays V K o e sound sound_after t (stored_in (IsStored V o) trees j t stored there) (other-stays j t differ there) v was) one

  pub all_sites : sites_of (slice_set trees k new) ≡ sites_of trees
  all_sites = sites_set trees k s new here acts.site
