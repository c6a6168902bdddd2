-- What a cut now leaves of a tree that a store stands for, and what a call of one tree leaves of several.
use Rattle.std.proofs.Common.{◌≡◌, inl, inr, ⊎_elim, ℕ, zero, suc, List, [], ◌∷◌, Some, refl, sym, ap, subst, ◌∙◌, arith}
use Rattle.std.proofs.lemmas.Bool.{cases_eq}
use Rattle.std.specs.Prelude.{slice_get, slice_set, map}
use Rattle.std.specs.List.{AllZip}
use Rattle.apex_model.specs.Durable.{StoredFile}
use Rattle.apex_model.specs.Files.{File}
use Rattle.apex_model.specs.Trees.{Tree}
use Rattle.rig_core.specs.Bytes.{SameElsewhere}
use Rattle.rig_core.specs.Leaves.{FromNow}
use Rattle.rig_core.specs.Outside.{Outside, AllNow, OnlyReads, Sound}
use Rattle.rig_core.proofs.Moments.{leaves_both, leaves_same, leaves_weaker}
use Rattle.rig_core.proofs.Regions.{within_from_elsewhere}
use Rattle.rig_core.specs.Runs.{Shows}
use Rattle.rig_core.specs.Windows.{AreLaidOut}
use Rattle.rig_core.proofs.Beside.{laid_apart}
use Rattle.store_model.specs.Betweens.{TreeSite, IsTreeAt, AreTreesBetween, tree_long}
use Rattle.apex_model.specs.Firsts.{first_tree}
use Rattle.store_model.specs.Standing.{IsTree}
use Rattle.store_model.specs.Stores.{StoreValue}
use Rattle.store_model.proofs.Firsts.{durable-first}
use Rattle.tree_store.specs.Answers.{Acts, Passes}
use Rattle.tree_store.specs.Serving.{AreStored, AllHold, sites_of, window_of}
use Rattle.tree_store.specs.Stored.{start_of, site_of, IsStored, Holds, IsBetween}
use Rattle.tree_store.specs.declared.store.TreeStore.{TreeStore}
use Rattle.tree_store.proofs.Stays.{tree_speaks}
use Rattle.tree_store.proofs.Together.{window_at}

module _ (V K : Type 0) (o : Outside) (sound : Sound V K o) (s : TreeStore) (stored : IsStored V o s) (v : StoreValue) (holds : Holds V o s v) (tree : Tree File) (is : IsTree v tree) where
  pub tree_shown : V → IsTreeAt (site_of s) (first_tree tree) o.view
  tree_shown tells = (stored.state.in_step.stands tells).tree ∙ ap (λ (t : Tree StoredFile). Some t) (sym (holds.durable tells) ∙ durable-first v tree is)

  -- a cut now leaves each file its synchronised content
  pub tree_now : AllNow (IsTreeAt (site_of s) (first_tree tree)) o
  tree_now image told now = stored.state.in_step.same_tree image told now ∙ tree_shown (sound.shown o.clock image told now)

-- what stands at a place of three lists that go together
pub record Place (V : Type 0) (o : Outside) (trees : List TreeStore) (j : ℕ) (site : TreeSite) (tree : Tree File) : Type 0 where
  pub store : TreeStore
  pub value : StoreValue
  pub there : slice_get trees j ≡ Some store
  pub site_is : site ≡ site_of store
  pub stored : IsStored V o store
  pub holds : Holds V o store value
  pub is : IsTree value tree

pub place_of : (V : Type 0) (o : Outside) (trees : List TreeStore) (stores : List StoreValue) (fs : List (Tree File)) (j : ℕ) (site : TreeSite) (tree : Tree File)
    → AreStored V o trees → AllHold V o trees stores → AllZip IsTree stores fs → slice_get (sites_of trees) j ≡ Some site → slice_get fs j ≡ Some tree → Place V o trees j site tree
place_of V o [] stores fs j site tree stored hold stand at was = absurd cc
place_of V o (t ∷ trees) [] fs j site tree stored hold stand at was = absurd hold
place_of V o (t ∷ trees) (v ∷ stores) [] j site tree stored hold stand at was = absurd stand
place_of V o (t ∷ trees) (v ∷ stores) (f ∷ fs) zero site tree stored hold stand at was =
    let same : site_of t ≡ site = cc in
    let first : f ≡ tree = cc in
    record { store = t; value = v; there = refl; site_is = sym same; stored = stored.0; holds = hold.0; is = subst (λ (x : Tree File). IsTree v x) first stand.0 }
place_of V o (t ∷ trees) (v ∷ stores) (f ∷ fs) (suc j) site tree stored hold stand at was =
    let rest = place_of V o trees stores fs j site tree stored.1 hold.1 stand.1 at was in
    record { store = rest.store; value = rest.value; there = rest.there; site_is = rest.site_is; stored = rest.stored; holds = rest.holds; is = rest.is }

set_at : {A : Type 0} (xs : List A) (k j : ℕ) (a b : A) → slice_get (slice_set xs k a) j ≡ Some b → j ≡ k → b ≡ a
set_at [] k j a b at same = absurd cc
set_at (x ∷ xs) zero zero a b at same = let e : a ≡ b = cc in sym e
set_at (x ∷ xs) zero (suc j) a b at same = absurd (omega (arith, same))
set_at (x ∷ xs) (suc k) zero a b at same = absurd (omega (arith, same))
set_at (x ∷ xs) (suc k) (suc j) a b at same = set_at xs k j a b at (omega (arith, same))

module _ (V K : Type 0) (o e : Outside) (sound : Sound V K o) (trees : List TreeStore) (stores : List StoreValue) (before : List (Tree File)) (k : ℕ) (s new : TreeStore) (v w : StoreValue) (b a : Tree File) (writes syncs : ℕ)
    (laid : AreLaidOut (map window_of (sites_of trees)) o.size) (stored : AreStored V o trees) (hold : AllHold V o trees stores) (stand : AllZip IsTree stores before)
    (here : slice_get trees k ≡ Some s) (was_here : slice_get before k ≡ Some b) (is : IsTree v b) (will : IsTree w a) (acts : Acts V writes syncs o e s new) where
  -- an image with this tree before or after, and with the others as some image had them that stands for all of them
  between : (from image : List ℕ) → SameElsewhere (start_of s) (tree_long (site_of s)) from image → IsBetween (site_of s) v w image
      → ((j : ℕ) (site : TreeSite) (tree : Tree File) → Place V o trees j site tree → IsTreeAt site (first_tree tree) from) → AreTreesBetween (sites_of trees) before (slice_set before k a) image
  between from image same one others j site c d at was next =
      let place = place_of V o trees stores before j site c stored hold stand at was in
      ⊎_elim
      (λ equal.
      let store_is : s ≡ place.store = let found : slice_get trees k ≡ Some place.store = ap (slice_get trees) (sym equal) ∙ place.there in let e : Some s ≡ Some place.store = sym here ∙ found in cc in
      let site_is : site_of s ≡ site = ap site_of store_is ∙ sym place.site_is in
      let c_is : b ≡ c = let found : slice_get before k ≡ Some c = ap (slice_get before) (sym equal) ∙ was in let e : Some b ≡ Some c = sym was_here ∙ found in cc in
      let d_is : d ≡ a = set_at before k j a d next equal in
      ⊎_elim
      (λ left. inl (subst (λ (p : TreeSite). IsTreeAt p (first_tree c) image) site_is (left ∙ ap (λ (t : Tree StoredFile). Some t) (durable-first v b is) ∙ ap (λ (t : Tree File). Some (first_tree t)) c_is)))
      (λ right. inr (subst (λ (p : TreeSite). IsTreeAt p (first_tree d) image) site_is (right ∙ ap (λ (t : Tree StoredFile). Some t) (durable-first w a will) ∙ ap (λ (t : Tree File). Some (first_tree t)) (sym d_is))))
      one)
      (λ differ. inl (
      let apart = laid_apart (map window_of (sites_of trees)) o.size j k (start_of place.store, tree_long (site_of place.store)) (start_of s, tree_long (site_of s)) laid differ (window_at trees j place.store place.there) (window_at trees k s here) in
      let kept : IsTreeAt (site_of place.store) (first_tree c) from = subst (λ (p : TreeSite). IsTreeAt p (first_tree c) from) place.site_is (others j site c place) in
      subst (λ (p : TreeSite). IsTreeAt p (first_tree c) image) (sym place.site_is)
      ((tree_speaks (site_of place.store) (first_tree c)).told_by from image same.long (within_from_elsewhere (start_of place.store) (tree_long (site_of place.store)) (start_of s) (tree_long (site_of s)) from image apart same) kept)))
      (cases_eq j k)

  -- at every moment each tree is as before or as after, by itself
  pub one_passes : Passes V s v w o e → Shows V (AreTreesBetween (sites_of trees) before (slice_set before k a)) o e
  one_passes passes = record {
    any_moment = λ tells. leaves_weaker (λ image. IsBetween (site_of s) v w image × FromNow (start_of s) (tree_long (site_of s)) o image) (AreTreesBetween (sites_of trees) before (slice_set before k a)) o e
        (λ image has. let from = has.1 in between from.0 image from.3 has.0 (λ j site tree place. subst (λ (p : TreeSite). IsTreeAt p (first_tree tree) from.0) (sym place.site_is)
        (tree_now V K o sound place.store place.stored place.value place.holds tree place.is from.0 from.1 from.2)))
        (leaves_both (IsBetween (site_of s) v w) (FromNow (start_of s) (tree_long (site_of s)) o) o e (passes.any_moment tells) acts.runs.outside);
    shown = λ tells. between o.view e.view (acts.runs.outside_view tells) (passes.shown tells) (λ j site tree place. subst (λ (p : TreeSite). IsTreeAt p (first_tree tree) o.view) (sym place.site_is)
        (tree_shown V K o sound place.store place.stored place.value place.holds tree place.is tells));
  }

-- where each tree is as before it is so beside any other trees
pub still_between : (sites : List TreeSite) (before after : List (Tree File)) (image : List ℕ) → AreTreesBetween sites before before image → AreTreesBetween sites before after image
still_between sites before after image still k site b a at was next = ⊎_elim (λ left. inl left) (λ right. inl right) (still k site b b at was was)

module _ (V K : Type 0) (o e : Outside) (sound : Sound V K o) (reads : OnlyReads V o e) (trees : List TreeStore) (stores : List StoreValue) (before after : List (Tree File))
    (stored : AreStored V o trees) (hold : AllHold V o trees stores) (stand : AllZip IsTree stores before) where
  now-before : AllNow (λ image. AreTreesBetween (sites_of trees) before after image) o
  now-before image told now k site b a at was next =
      let place = place_of V o trees stores before k site b stored hold stand at was in
      inl (subst (λ (p : TreeSite). IsTreeAt p (first_tree b) image) (sym place.site_is) (tree_now V K o sound place.store place.stored place.value place.holds b place.is image told now))

  shown-before : V → AreTreesBetween (sites_of trees) before after o.view
  shown-before tells k site b a at was next =
      let place = place_of V o trees stores before k site b stored hold stand at was in
      inl (subst (λ (p : TreeSite). IsTreeAt p (first_tree b) o.view) (sym place.site_is) (tree_shown V K o sound place.store place.stored place.value place.holds b place.is tells))

  -- while only reads are made each tree is as before
  pub reads_pass : Shows V (AreTreesBetween (sites_of trees) before after) o e
  reads_pass = record {
    any_moment = λ tells. leaves_same (AreTreesBetween (sites_of trees) before after) o e reads.later.clock reads.told reads.cuts now-before;
    shown = λ tells. subst (λ (view : List ℕ). AreTreesBetween (sites_of trees) before after view) (sym (reads.view tells)) (shown-before tells);
  }
