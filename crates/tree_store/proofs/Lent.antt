-- One tree of several is lent out for a call.
use Rattle.std.proofs.Common.{◌≡◌, ℕ, zero, suc, List, [], ◌∷◌, length, Option, Some, refl, sym, ap, subst, ◌∙◌}
use Rattle.std.specs.Prelude.{Err, Ok, OnOk, Result, get_or, map, slice_get, slice_set}
use Rattle.std.specs.List.{AllZip}
use Rattle.std.proofs.lemmas.Option.{get_or_from_slice_get, slice_get_read}
use Rattle.apex_types.specs.declared.codes.Errno.{Errno}
use Rattle.rig_core.specs.Outside.{Later, OnlyReads, Outside, Sound, Speaks}
use Rattle.rig_core.specs.declared.source.DeviceFault.{DeviceFault}
use Rattle.rig_core.proofs.Moments.{elsewhere_wider, leaves_elsewhere_wider}
use Rattle.rig_core.specs.Windows.{AreLaidOut}
use Rattle.store_model.specs.Betweens.{tree_long}
use Rattle.store_model.specs.Standing.{IsTree}
use Rattle.store_model.specs.Stores.{StoreValue}
use Rattle.store_model.specs.Systems.{no_store, store_at}
use Rattle.tree_store.specs.Answers.{Acts, IsAnswer, IsDone, Passes, UnlessDevice}
use Rattle.tree_store.specs.Calls.{ActsAt, AreReady, AtTree, IsAnswerAt, IsDoneAt, PassesAt}
use Rattle.tree_store.specs.Serving.{AllHold, AreStored, sites_of, window_of}
use Rattle.tree_store.specs.Stored.{Holds, IsStored, site_of, start_of}
use Rattle.tree_store.specs.declared.refusal.StoreRefusal.{StoreRefusal}
use Rattle.tree_store.specs.declared.refusal.StoreRefusal.TheVariants.{Device, ReadFault, Refused}
use Rattle.tree_store.specs.declared.store.TreeStore.{TreeStore}
use Rattle.tree_store.proofs.Frames.{holds_reads, holds_told, stored_reads, stored_told}
use Rattle.tree_store.proofs.Now.{one_passes}
use Rattle.tree_store.proofs.Together.{all_hold, all_keep, all_sites, all_stored, stored_in, window_at, zip_at, zip_keep}

-- the tree of a number of the list that a call works on
pub record IsLent (V : Type 0) (o : Outside) (trees old : List TreeStore) (k : ℕ) (s : TreeStore) : Type 0 where
  pub same : trees ≡ old
  pub there : slice_get trees k ≡ Some s
  pub there_before : slice_get old k ≡ Some s
  pub ready : AreReady V o trees k

pub lent : (V : Type 0) (o : Outside) (trees old : List TreeStore) (k : ℕ) (s : TreeStore) → trees ≡ old → AreReady V o old k → s ≡ get_or trees k s → IsLent V o trees old k s
lent V o trees old k s same ready read =
    let now : AreReady V o trees k = subst (λ (ts : List TreeStore). AreReady V o ts k) (sym same) ready in
    let there : slice_get trees k ≡ Some s = slice_get_read trees (length trees) k s refl now.number read in
    record { same = same; there = there; there_before = ap (λ (ts : List TreeStore). slice_get ts k) (sym same) ∙ there; ready = now }

-- what holds of a tree is what holds of the tree of its number
pub same-tree : (trees : List TreeStore) (k : ℕ) (s : TreeStore) → slice_get trees k ≡ Some s → (P : TreeStore → Type 0) → P s → AtTree trees k P
same-tree trees k s is P has store there = let both : Some s ≡ Some store = sym is ∙ there in let same : s ≡ store = cc in subst P same has

set-own : {A : Type 0} (xs : List A) (k : ℕ) (x : A) → slice_get xs k ≡ Some x → slice_set xs k x ≡ xs
set-own [] k x is = refl
set-own (y ∷ xs) zero x is = let same : y ≡ x = cc in ap (λ z. z ∷ xs) (sym same)
set-own (y ∷ xs) (suc k) x is = ap (λ zs. y ∷ zs) (set-own xs k x is)

pub zip_there : {A B : Type 0} (P : A → B → Type 0) (xs : List A) (ys : List B) (k : ℕ) (x : A) → AllZip P xs ys → slice_get xs k ≡ Some x → (y : B) × (slice_get ys k ≡ Some y) × P x y
zip_there P [] ys k x all is = absurd cc
zip_there P (z ∷ xs) [] k x all is = absurd all
zip_there P (z ∷ xs) (y ∷ ys) zero x all is = let same : z ≡ x = cc in (y, refl, subst (λ a. P a y) same all.0)
zip_there P (z ∷ xs) (y ∷ ys) (suc k) x all is = zip_there P xs ys k x all.1 is

module _ (V K : Type 0) (o : Outside) (trees old : List TreeStore) (k : ℕ) (s : TreeStore) (is : IsLent V o trees old k s) where
  pub lent-stored : IsStored V o s
  lent-stored = stored_in (IsStored V o) trees k s is.ready.stored is.there

  pub lent-holds : (stores : List StoreValue) → AllHold V o old stores → Holds V o s (store_at stores k)
  lent-holds stores hold = zip_at (Holds V o) (Holds V o) old stores k s no_store hold is.there_before

  pub at-lent : (P : TreeStore → Type 0) → P s → AtTree old k P
  at-lent = same-tree old k s is.there_before

  pub lent-at : (P : TreeStore → Type 0) → AtTree old k P → P s
  lent-at P at = at s is.there_before

  module _ (e : Outside) (sound : Sound V K o) (sound_after : Sound V K e) (new : TreeStore) (writes syncs : ℕ) (acts : Acts V writes syncs o e s new) where
    pub stored-at : IsStored V e new → AreStored V e (slice_set trees k new)
    stored-at stored = all_stored V K o e sound sound_after trees k s new writes syncs is.ready.laid_out is.there acts is.ready.stored stored

    pub stored-unless : {T : Type 0} → (result : Result T StoreRefusal) → UnlessDevice result (IsStored V e new) → UnlessDevice result (AreStored V e (slice_set trees k new))
    stored-unless (Ok done) stored = stored-at stored
    stored-unless (Err (Refused errno)) stored = stored-at stored
    stored-unless (Err ReadFault) stored = stored-at stored
    stored-unless (Err Device) stored = tt

    pub stored-ok : {T E : Type 0} → (result : Result T E) → OnOk result (IsStored V e new) → OnOk result (AreStored V e (slice_set trees k new))
    stored-ok (Ok done) stored = stored-at stored
    stored-ok (Err fault) stored = tt

    held-at : (stores : List StoreValue) (w : StoreValue) → AllHold V o old stores → Holds V e new w → AllHold V e (slice_set trees k new) (slice_set stores k w)
    held-at stores w hold one =
        all_hold V K o e sound sound_after trees k s new writes syncs is.ready.laid_out is.there acts is.ready.stored stores w
        (subst (λ (ts : List TreeStore). AllHold V o ts stores) (sym is.same) hold) one

    -- all hold what they held
    held-same : (stores : List StoreValue) → AllHold V o old stores → Holds V e new (store_at stores k) → AllHold V e (slice_set trees k new) stores
    held-same stores hold one =
        let value = zip_there (Holds V o) old stores k s hold is.there_before in
        let own : store_at stores k ≡ value.0 = get_or_from_slice_get stores k value.0 no_store value.1 in
        subst (λ (vs : List StoreValue). AllHold V e (slice_set trees k new) vs) (set-own stores k (store_at stores k) (value.1 ∙ ap (λ (v : StoreValue). Some v) (sym own))) (held-at stores (store_at stores k) hold one)

    pub acts-at : ActsAt V writes syncs o e old (slice_set trees k new)
    acts-at = record {
      sites = all_sites V K o e sound sound_after trees k s new writes syncs is.ready.laid_out is.there acts ∙ ap sites_of is.same;
      runs = λ at n within.
          let here = within k (start_of s, tree_long (site_of s)) (window_at old k s is.there_before) in
          record {
            outside = leaves_elsewhere_wider (start_of s) (tree_long (site_of s)) at n o e here.0 here.1 acts.runs.outside;
            outside_view = λ tells. elsewhere_wider (start_of s) (tree_long (site_of s)) at n o.view e.view here.0 here.1 (acts.runs.outside_view tells);
            later = acts.runs.later;
            made = acts.runs.made;
          };
    }

    pub passes-at : (word : StoreValue → StoreValue) → ((v : StoreValue) → Holds V o s v → Passes V s v (word v) o e) → PassesAt V k old word o e
    passes-at word passes stores before after hold stand will =
        let held = lent-holds stores hold in
        let value = zip_there (Holds V o) old stores k s hold is.there_before in
        let was = zip_there IsTree stores before k value.0 stand value.1 in
        let tree_is : IsTree (store_at stores k) was.0 = subst (λ (v : StoreValue). IsTree v was.0) (sym (get_or_from_slice_get stores k value.0 no_store value.1)) was.2 in
        one_passes V K o e sound old stores before k s new (store_at stores k) (word (store_at stores k)) was.0 after writes syncs
        (subst (λ (ts : List TreeStore). AreLaidOut (map window_of (sites_of ts)) o.size) is.same is.ready.laid_out)
        (subst (λ (ts : List TreeStore). AreStored V o ts) is.same is.ready.stored) hold stand is.there_before was.1 tree_is will acts (passes (store_at stores k) held)

    pub answer-at : {T : Type 0} → (refusal : Option Errno) (stores : List StoreValue) (w : StoreValue) (same_rig reads : Type 0) (result : Result T StoreRefusal) → AllHold V o old stores
        → IsAnswer V refusal (store_at stores k) w ((new ≡ s) × same_rig) reads o e new result
        → IsAnswerAt V refusal k stores w ((slice_set trees k new ≡ old) × same_rig) reads o e (slice_set trees k new) result
    answer-at refusal stores w same_rig reads (Ok done) hold answer = (answer.0, held-at stores w hold answer.1)
    answer-at refusal stores w same_rig reads (Err (Refused errno)) hold answer =
        (answer.0, (ap (slice_set trees k) answer.1.0 ∙ set-own trees k s is.there ∙ is.same, answer.1.1))
    answer-at refusal stores w same_rig reads (Err ReadFault) hold answer = (answer.0, answer.1, held-same stores hold answer.2)
    answer-at refusal stores w same_rig reads (Err Device) hold answer = answer

    pub done-at : {T : Type 0} → (stores : List StoreValue) (w : StoreValue) (result : Result T DeviceFault) → AllHold V o old stores → IsDone V w o e new result
        → IsDoneAt V k stores w o e (slice_set trees k new) result
    done-at stores w (Ok done) hold answer = held-at stores w hold answer
    done-at stores w (Err fault) hold answer = answer

-- ---- all of them, while only reads are made and while a line is told

module _ (V K : Type 0) (o e : Outside) (sound : Sound V K o) (sound_after : Sound V K e) (trees : List TreeStore) (stored : AreStored V o trees) where
  module _ (reads : OnlyReads V o e) where
    pub stored-reads-all : AreStored V e trees
    stored-reads-all = all_keep (IsStored V o) (IsStored V e) trees stored (λ j t at was. stored_reads V K o e sound sound_after t was reads)

    pub hold-reads-all : (stores : List StoreValue) → AllHold V o trees stores → AllHold V e trees stores
    hold-reads-all stores hold =
        zip_keep (Holds V o) (Holds V e) trees stores hold (λ j t v at was. holds_reads V K o e sound sound_after t (stored_in (IsStored V o) trees j t stored at) reads v was)

  module _ (line : List ℕ) (later : Later o e) (view : V → e.view ≡ o.view) (speaks : Speaks line o e) where
    pub stored-told-all : AreStored V e trees
    stored-told-all = all_keep (IsStored V o) (IsStored V e) trees stored (λ j t at was. stored_told V K o e sound sound_after t was line later view speaks)

    pub hold-told-all : (stores : List StoreValue) → AllHold V o trees stores → AllHold V e trees stores
    hold-told-all stores hold =
        zip_keep (Holds V o) (Holds V e) trees stores hold (λ j t v at was. holds_told V K o e sound sound_after t (stored_in (IsStored V o) trees j t stored at) line later view speaks v was)
