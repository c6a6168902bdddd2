-- How a call to a service over stored trees ends: each exit is closed by one of these, from what the call comes to over values.
use Rattle.std.proofs.Common.{◌≡◌, ◌≢◌, ◌⊎◌, inl, inr, ⊎_elim, ℕ, zero, suc, ◌+◌, ◌<◌, ◌≤◌, List, [], ◌∷◌, length, Option, Some, None, Ok, Err, refl, sym, ap, subst, ◌∙◌, arith}
use Rattle.std.proofs.lemmas.Bool.{cases_eq}
use Rattle.std.specs.Prelude.{IfOk, Result, slice_get, slice_set}
use Rattle.std.proofs.lemmas.Option.{get_or_from_slice_get}
use Rattle.apex_types.specs.declared.codes.Errno.{Errno}
use Rattle.apex_types.specs.declared.codes.Errno.TheVariants.{Eio}
use Rattle.apex_types.specs.declared.replies.Reply.{Reply}
use Rattle.apex_model.specs.Files.{File}
use Rattle.apex_model.specs.FileSystem.{FileSystem}
use Rattle.apex_model.specs.Outcomes.{Outcome, refusal, reply_of, state_after}
use Rattle.apex_model.specs.Trees.{Tree}
use Rattle.open_handles.specs.NodeHandles.{AllHandles}
use Rattle.rig_core.specs.Bytes.{SameElsewhere}
use Rattle.rig_core.specs.Causes.{Rose}
use Rattle.rig_core.specs.Leaves.{FromNow}
use Rattle.rig_core.specs.Outside.{OnlyReads, Outside, Sound}
use Rattle.rig_core.specs.Runs.{Shows}
use Rattle.rig_core.specs.declared.source.DeviceFault.{DeviceFault}
use Rattle.rig_core.proofs.Moments.{elsewhere_same, leaves_same, leaves_weaker}
use Rattle.store_model.specs.Betweens.{AreTreesBetween, TreeSite}
use Rattle.store_model.specs.Standing.{IsTree}
use Rattle.store_model.specs.Stores.{StoreValue}
use Rattle.store_model.specs.Systems.{no_store, store_at}
use Rattle.tree_store.specs.Calls.{ActsAt, AtTree, IsAnswerAt, PassesAt}
use Rattle.tree_store.specs.Serving.{AllHold, AreStored, IsAccepting, IsAnswered, IsUnread, StandOver, sites_of}
use Rattle.tree_store.specs.Stored.{row_of}
use Rattle.tree_store.specs.declared.refusal.StoreRefusal.{StoreRefusal}
use Rattle.tree_store.specs.declared.refusal.StoreRefusal.TheVariants.{Device, ReadFault, Refused}
use Rattle.tree_store.specs.declared.store.TreeStore.{TreeStore}
use Rattle.tree_store.proofs.Lent.{hold-reads-all, stored-reads-all, zip_there}
use Rattle.tree_store.proofs.Now.{reads_pass, still_between}
use Rattle.service_parts.specs.Serving.{AreInService, IsServed, Serves}
use Rattle.service_parts.specs.Told.{IsTellable}
use Rattle.service_parts.proofs.Held.{all_outlined, dirty_within, of_table_held, stores_long, there}

-- ---- lists

get_set : {A : Type 0} (xs : List A) (k : ℕ) (a : A) → k < length xs → slice_get (slice_set xs k a) k ≡ Some a
get_set [] k a low = absurd (omega arith)
get_set (x ∷ xs) zero a low = refl
get_set (x ∷ xs) (suc k) a low = get_set xs k a (omega arith)

get_other : {A : Type 0} (xs : List A) (k j : ℕ) (a : A) → j ≢ k → slice_get (slice_set xs k a) j ≡ slice_get xs j
get_other [] k j a other = refl
get_other (x ∷ xs) zero zero a other = absurd (other refl)
get_other (x ∷ xs) zero (suc j) a other = refl
get_other (x ∷ xs) (suc k) zero a other = refl
get_other (x ∷ xs) (suc k) (suc j) a other = get_other xs k j a (λ same. other (ap suc same))

set-own : {A : Type 0} (xs : List A) (k : ℕ) (a : A) → slice_get xs k ≡ Some a → slice_set xs k a ≡ xs
set-own [] k a at = refl
set-own (x ∷ xs) zero a at = let same : x ≡ a = cc in ap (λ y. y ∷ xs) (sym same)
set-own (x ∷ xs) (suc k) a at = ap (λ ys. x ∷ ys) (set-own xs k a at)

get_within : {A : Type 0} (xs : List A) (k : ℕ) (a : A) → slice_get xs k ≡ Some a → k < length xs
get_within [] k a at = absurd cc
get_within (x ∷ xs) zero a at = omega arith
get_within (x ∷ xs) (suc k) a at = let low = get_within xs k a at in omega (arith, low)

-- ---- which calls of the device are made

only_none : (V : Type 0) (o : Outside) → OnlyReads V o o
only_none V o = record {
  later = record { size = refl; clock = omega arith; read_faults = omega arith; write_faults = omega arith; tell_faults = omega arith };
  made = record { writes = omega arith; syncs = omega arith; tells = omega arith };
  clock = refl;
  told = refl;
  view = λ tells. refl;
  cuts = λ t image told early may. may;
}

acts_reads : (V : Type 0) (o e : Outside) (trees : List TreeStore) → OnlyReads V o e → ActsAt V 52 3 o e trees trees
acts_reads V o e trees reads = record {
  sites = refl;
  runs = λ at n within. record {
    outside = leaves_same (FromNow at n o) o e reads.later.clock reads.told reads.cuts (λ image told now. (image, told, now, elsewhere_same at n image));
    outside_view = λ tells. subst (λ (view : List ℕ). SameElsewhere at n o.view view) (sym (reads.view tells)) (elsewhere_same at n o.view);
    later = reads.later;
    made = let made = reads.made in record { writes = let w = made.writes in omega (arith, w); syncs = let s = made.syncs in omega (arith, s); tells = made.tells };
  };
}

-- fewer calls than may be made
pub acts_few : (V : Type 0) (writes syncs : ℕ) (o e : Outside) (trees new_trees : List TreeStore) → writes ≤ 52 → syncs ≤ 3 → ActsAt V writes syncs o e trees new_trees → ActsAt V 52 3 o e trees new_trees
acts_few V writes syncs o e trees new_trees few_writes few_syncs acts = record {
  sites = acts.sites;
  runs = λ at n within. let run = acts.runs at n within in record {
    outside = run.outside;
    outside_view = run.outside_view;
    later = run.later;
    made = let made = run.made in record { writes = let w = made.writes in omega (arith, w, few_writes); syncs = let s = made.syncs in omega (arith, s, few_syncs); tells = made.tells };
  };
}

module _ (V : Type 0) (o e : Outside) (trees new_trees : List TreeStore) (handles : AllHandles) (ready : AreInService V o trees handles) (k : ℕ) (within : k < length trees) where
  -- as many writes as the tree has buffers
  pub acts_writing : AtTree trees k (λ store. ActsAt V (row_of store).dirty 0 o e trees new_trees) → ActsAt V 52 3 o e trees new_trees
  acts_writing acts =
      let tree = there trees k within in
      let few = dirty_within ready.table trees handles ready.accepted ready.of_table k tree.0 tree.1 in
      acts_few V (row_of tree.0).dirty 0 o e trees new_trees (omega (arith, few)) (omega arith) (acts tree.0 tree.1)

  -- and those of a synchronisation
  pub acts_syncing : AtTree trees k (λ store. ActsAt V ((row_of store).dirty + 4) 3 o e trees new_trees) → ActsAt V 52 3 o e trees new_trees
  acts_syncing acts =
      let tree = there trees k within in
      let few = dirty_within ready.table trees handles ready.accepted ready.of_table k tree.0 tree.1 in
      acts_few V ((row_of tree.0).dirty + 4) 3 o e trees new_trees (omega (arith, few)) (omega arith) (acts tree.0 tree.1)

-- ---- at every moment

-- at every moment a cut leaves each tree as before the step or as after it, each by itself
abbrev pub PassesStep : Type 0 → Outside → Outside → (FileSystem → Outcome FileSystem) → List TreeStore → AllHandles → Type 0
PassesStep V o e step trees handles = (fs : FileSystem) → StandOver V o trees handles fs → Shows V (AreTreesBetween (sites_of trees) fs.trees (state_after fs (step fs)).trees) o e

-- over the values that the trees held the step comes to the word of the value of this number
abbrev pub WordServes : Type 0 → Outside → (FileSystem → Outcome FileSystem) → List TreeStore → AllHandles → ℕ → (StoreValue → StoreValue) → Type 0
WordServes V o step trees handles k word = (stores : List StoreValue) → AllHold V o trees stores
    → (new_handles : AllHandles) × (told : Reply) × Serves step stores handles (slice_set stores k (word (store_at stores k))) new_handles told

shows_weaker : (V : Type 0) (P Q : List ℕ → Type 0) (o e : Outside) → ((image : List ℕ) → P image → Q image) → Shows V P o e → Shows V Q o e
shows_weaker V P Q o e follows shows = record { any_moment = λ tells. leaves_weaker P Q o e follows (shows.any_moment tells); shown = λ tells. follows e.view (shows.shown tells) }

-- where one tree is as before or as after, and each other as before
one_between : (sites : List TreeSite) (before after : List (Tree File)) (k : ℕ) (a : Tree File) (image : List ℕ) → k < length before → slice_get after k ≡ Some a
    → AreTreesBetween sites before (slice_set before k a) image → AreTreesBetween sites before after image
one_between sites before after k a image within here between j site x y at was next = ⊎_elim
    (λ same. let both : Some a ≡ Some y = sym here ∙ ap (slice_get after) (sym same) ∙ next in
    between j site x y at was (ap (slice_get (slice_set before k a)) same ∙ get_set before k a within ∙ both))
    (λ other. ⊎_elim (λ left. inl left) (λ right. inl right) (between j site x x at was (get_other before k j a other ∙ was)))
    (cases_eq j k)

module _ (V : Type 0) (o e : Outside) (step : FileSystem → Outcome FileSystem) (trees : List TreeStore) (handles : AllHandles) (k : ℕ) (within : k < length trees) where
  within-stores : (stores : List StoreValue) → AllHold V o trees stores → k < length stores
  within-stores stores hold = let long = stores_long trees stores (all_outlined V o trees stores hold) in omega (arith, long, within)

  -- contents that aren't synchronised don't show
  pub passes_same : PassesAt V k trees (λ v. v) o e → PassesStep V o e step trees handles
  passes_same passes fs over =
      let value = there over.0 k (within-stores over.0 over.1) in
      let tree = zip_there IsTree over.0 fs.trees k value.0 over.2.trees value.1 in
      let is : IsTree (store_at over.0 k) tree.0 = subst (λ (v : StoreValue). IsTree v tree.0) (sym (get_or_from_slice_get over.0 k value.0 no_store value.1)) tree.2 in
      shows_weaker V (AreTreesBetween (sites_of trees) fs.trees (slice_set fs.trees k tree.0)) (AreTreesBetween (sites_of trees) fs.trees (state_after fs (step fs)).trees) o e
      (λ image between. still_between (sites_of trees) fs.trees (state_after fs (step fs)).trees image
      (subst (λ (ts : List (Tree File)). AreTreesBetween (sites_of trees) fs.trees ts image) (set-own fs.trees k tree.0 tree.1) between))
      (passes over.0 fs.trees tree.0 over.1 over.2.trees is)

  -- the word of the value of this number stands for the tree after the step
  pub passes_word : (word : StoreValue → StoreValue) → PassesAt V k trees word o e → WordServes V o step trees handles k word → PassesStep V o e step trees handles
  passes_word word passes serves fs over =
      let come = serves over.0 over.1 in
      let after = state_after fs (step fs) in
      let stands = come.2.state fs over.2 in
      let w = word (store_at over.0 k) in
      let value = there over.0 k (within-stores over.0 over.1) in
      let tree = zip_there IsTree over.0 fs.trees k value.0 over.2.trees value.1 in
      let new_tree = zip_there IsTree (slice_set over.0 k w) after.trees k w stands.trees (get_set over.0 k w (within-stores over.0 over.1)) in
      shows_weaker V (AreTreesBetween (sites_of trees) fs.trees (slice_set fs.trees k new_tree.0)) (AreTreesBetween (sites_of trees) fs.trees after.trees) o e
      (λ image between. one_between (sites_of trees) fs.trees after.trees k new_tree.0 image (get_within fs.trees k tree.0 tree.1) new_tree.1 between)
      (passes over.0 fs.trees new_tree.0 over.1 over.2.trees new_tree.2)

-- ---- the exits

-- Over the values that the trees held the step was served, with this reply where the rig tells its view; the trees hold what it comes to.
pub record Comes (V : Type 0) (e : Outside) (step : FileSystem → Outcome FileSystem) (stores : List StoreValue) (handles : AllHandles) (new_trees : List TreeStore) (new_handles : AllHandles) (told : Reply) : Type 0 where
  pub new_stores : List StoreValue
  pub held : AllHold V e new_trees new_stores
  pub proper : Reply
  pub same : V → told ≡ proper
  pub serves : Serves step stores handles new_stores new_handles proper

module _ (V K : Type 0) (o e : Outside) (sound : Sound V K o) (sound_after : Sound V K e) (step : FileSystem → Outcome FileSystem) (reads : Type 0)
    (trees : List TreeStore) (handles : AllHandles) (ready : AreInService V o trees handles) where
  -- as many handles as before
  partitions : (stores new_stores : List StoreValue) (new_handles : AllHandles) (told : Reply) → AllHold V o trees stores → Serves step stores handles new_stores new_handles told → length new_handles ≡ length handles
  partitions stores new_stores new_handles told hold serves =
      (serves.of_table ready.table (of_table_held V o ready.table trees stores handles ready.of_table ready.stored hold)).partitions ∙ sym ready.of_table.partitions

  module _ (new_trees : List TreeStore) (acts : ActsAt V 52 3 o e trees new_trees) (moments : PassesStep V o e step trees handles) where
    served-told : (new_handles : AllHandles) (told : Reply) → IsTellable told → AreStored V e new_trees
        → ((stores : List StoreValue) → AllHold V o trees stores → Comes V e step stores handles new_trees new_handles told)
        → IsServed V step reads 52 3 trees new_trees handles new_handles o e (Ok told)
    served-told new_handles told tellable stored comes = record {
      told = inl (λ fs over. let come = comes over.0 over.1 in
          (λ tells. come.same tells ∙ come.serves.reply fs over.2, (come.new_stores, come.held, come.serves.state fs over.2)));
      moments = moments;
      stored = stored;
      sites = acts.sites;
      partitions = let over = ready.serving.1 in let come = comes over.0 over.1 in partitions over.0 come.new_stores new_handles come.proper over.1 come.serves;
      runs = acts.runs;
      cause = tt;
      tellable = tellable;
    }

    -- it was carried out or refused
    pub served_acts : (new_handles : AllHandles) (told : Reply) → AreStored V e new_trees
        → ((stores : List StoreValue) → AllHold V o trees stores → (new_stores : List StoreValue) × AllHold V e new_trees new_stores × Serves step stores handles new_stores new_handles told)
        → IsServed V step reads 52 3 trees new_trees handles new_handles o e (Ok told)
    served_acts new_handles told stored comes =
        let over = ready.serving.1 in
        served-told new_handles told (comes over.0 over.1).2.tellable stored
        (λ stores hold. let come = comes stores hold in record { new_stores = come.0; held = come.1; proper = told; same = λ tells. refl; serves = come.2 })

    -- a read failed, where the step accepts the call
    pub served_unread : (told : Reply) → told ≡ refusal Eio → reads → AreStored V e new_trees → ((stores : List StoreValue) → AllHold V o trees stores → AllHold V e new_trees stores)
        → ((fs : FileSystem) → StandOver V o trees handles fs → IsAccepting (step fs)) → IsServed V step reads 52 3 trees new_trees handles handles o e (Ok told)
    served_unread told is failed stored held accepts = record {
      told = inr (record {
        told_is = is;
        cause = failed;
        unchanged = λ fs over. (accepts fs over, (over.0, held over.0 over.1, over.2));
      });
      moments = moments;
      stored = stored;
      sites = acts.sites;
      partitions = refl;
      runs = acts.runs;
      cause = tt;
      tellable = subst (λ (r : Reply). IsTellable r) (sym is) (λ data_there. absurd data_there);
    }

    -- a write or sync failed
    pub served_fault : (fault : DeviceFault) → Rose o.write_faults e.write_faults → IsServed V step reads 52 3 trees new_trees handles handles o e (Err fault)
    served_fault fault rose = record {
      told = tt;
      moments = moments;
      stored = tt;
      sites = acts.sites;
      partitions = refl;
      runs = acts.runs;
      cause = rose;
      tellable = tt;
    }

  -- only reads were made
  module _ (only : OnlyReads V o e) where
    moments-reads : PassesStep V o e step trees handles
    moments-reads fs over = reads_pass V K o e sound only trees over.0 fs.trees (state_after fs (step fs)).trees ready.stored over.1 over.2.trees

    stored-reads : AreStored V e trees
    stored-reads = stored-reads-all V K o e sound sound_after trees ready.stored only

    held-reads : (stores : List StoreValue) → AllHold V o trees stores → AllHold V e trees stores
    held-reads = hold-reads-all V K o e sound sound_after trees ready.stored only

    pub served_reads : (new_handles : AllHandles) (told : Reply) → IsTellable told
        → ((stores : List StoreValue) → AllHold V o trees stores → (proper : Reply) × (V → told ≡ proper) × Serves step stores handles stores new_handles proper)
        → IsServed V step reads 52 3 trees trees handles new_handles o e (Ok told)
    served_reads new_handles told tellable answers = served-told trees (acts_reads V o e trees only) moments-reads new_handles told tellable stored-reads
        (λ stores hold. let answer = answers stores hold in record { new_stores = stores; held = held-reads stores hold; proper = answer.0; same = answer.1; serves = answer.2 })

    -- and one of them failed
    pub served_unread_reads : (told : Reply) → told ≡ refusal Eio → reads → ((fs : FileSystem) → StandOver V o trees handles fs → IsAccepting (step fs)) → IsServed V step reads 52 3 trees trees handles handles o e (Ok told)
    served_unread_reads told is failed accepts = served_unread trees (acts_reads V o e trees only) moments-reads told is failed stored-reads held-reads accepts

-- no call of the device was made
pub served_still : (V K : Type 0) (o : Outside) → Sound V K o → (step : FileSystem → Outcome FileSystem) (reads : Type 0) (trees : List TreeStore) (handles : AllHandles) → AreInService V o trees handles
    → (new_handles : AllHandles) (told : Reply) → ((stores : List StoreValue) → AllHold V o trees stores → Serves step stores handles stores new_handles told)
    → IsServed V step reads 52 3 trees trees handles new_handles o o (Ok told)
served_still V K o sound step reads trees handles ready new_handles told answers =
    let over = ready.serving.1 in
    served_reads V K o o sound sound step reads trees handles ready (only_none V o) new_handles told (answers over.0 over.1).tellable (λ stores hold. (told, λ tells. refl, answers stores hold))

-- ---- in other words

-- the same of a refusal that left rig and trees as they were
pub served_unmoved : {R : Type 0} (V : Type 0) (state : R → Outside) (before after : R) (step : FileSystem → Outcome FileSystem) (reads : Type 0) (trees new_trees : List TreeStore) (handles new_handles : AllHandles) (told : Reply)
    → new_trees ≡ trees → after ≡ before → IsServed V step reads 52 3 trees trees handles new_handles (state before) (state before) (Ok told) → IsServed V step reads 52 3 trees new_trees handles new_handles (state before) (state after) (Ok told)
served_unmoved {R} V state before after step reads trees new_trees handles new_handles told same_trees same_rig served =
    subst (λ (r : R). IsServed V step reads 52 3 trees new_trees handles new_handles (state before) (state r) (Ok told)) (sym same_rig)
    (subst (λ (ts : List TreeStore). IsServed V step reads 52 3 trees ts handles new_handles (state before) (state before) (Ok told)) (sym same_trees) served)

module _ (V : Type 0) (step other : FileSystem → Outcome FileSystem) (reads : Type 0) (trees new_trees : List TreeStore) (handles new_handles : AllHandles) (o e : Outside)
    (same : (fs : FileSystem) → StandOver V o trees handles fs → step fs ≡ other fs) where
  answered-step : (told : Reply) → IsAnswered V other trees new_trees handles new_handles o e told → IsAnswered V step trees new_trees handles new_handles o e told
  answered-step told answered fs over =
      subst (λ (out : Outcome FileSystem). (V → told ≡ reply_of out) × StandOver V e new_trees new_handles (state_after fs out)) (sym (same fs over)) (answered fs over)

  unread-step : (told : Reply) → IsUnread V reads other trees new_trees handles new_handles o e told → IsUnread V reads step trees new_trees handles new_handles o e told
  unread-step told unread = record {
    told_is = unread.told_is;
    cause = unread.cause;
    unchanged = λ fs over. let kept = unread.unchanged fs over in (subst (λ (out : Outcome FileSystem). IsAccepting out) (sym (same fs over)) kept.0, kept.1);
  }

  told-step : (result : Result Reply DeviceFault) → IfOk result (λ told. IsAnswered V other trees new_trees handles new_handles o e told ⊎ IsUnread V reads other trees new_trees handles new_handles o e told)
      → IfOk result (λ told. IsAnswered V step trees new_trees handles new_handles o e told ⊎ IsUnread V reads step trees new_trees handles new_handles o e told)
  told-step (Ok told) known = ⊎_elim (λ answered. inl (answered-step told answered)) (λ unread. inr (unread-step told unread)) known
  told-step (Err fault) known = tt

-- the same step in other words
pub served_step : {V : Type 0} {step other : FileSystem → Outcome FileSystem} {reads : Type 0} {trees new_trees : List TreeStore} {handles new_handles : AllHandles} {o e : Outside} {result : Result Reply DeviceFault}
    → ((fs : FileSystem) → StandOver V o trees handles fs → step fs ≡ other fs)
    → IsServed V other reads 52 3 trees new_trees handles new_handles o e result → IsServed V step reads 52 3 trees new_trees handles new_handles o e result
served_step {V} {step} {other} {reads} {trees} {new_trees} {handles} {new_handles} {o} {e} {result} same served = record {
  told = told-step V step other reads trees new_trees handles new_handles o e same result served.told;
  moments = λ fs over. subst (λ (out : Outcome FileSystem). Shows V (AreTreesBetween (sites_of trees) fs.trees (state_after fs out).trees) o e) (sym (same fs over)) (served.moments fs over);
  stored = served.stored;
  sites = served.sites;
  partitions = served.partitions;
  runs = served.runs;
  cause = served.cause;
  tellable = served.tellable;
}

-- a refusal that left rig and trees as they were
pub served_refused : {R : Type 0} (V K : Type 0) (state : R → Outside) (before after : R) → Sound V K (state before) → (step : FileSystem → Outcome FileSystem) (reads : Type 0) (trees new_trees : List TreeStore) (handles : AllHandles)
    → AreInService V (state before) trees handles → (told : Reply) → new_trees ≡ trees → after ≡ before
    → ((stores : List StoreValue) → AllHold V (state before) trees stores → Serves step stores handles stores handles told) → IsServed V step reads 52 3 trees new_trees handles handles (state before) (state after) (Ok told)
served_refused {R} V K state before after sound step reads trees new_trees handles ready told same_trees same_rig answers =
    served_unmoved V state before after step reads trees new_trees handles handles told same_trees same_rig
    (served_still V K (state before) sound step reads trees handles ready handles told answers)

-- ---- what a tree answers, by the reason that it gives

module _ (T V : Type 0) (k : ℕ) (refusing : StoreValue → Option Errno) (word : StoreValue → StoreValue) (same_rig reads : Type 0) (o e : Outside) (old new : List TreeStore) (r : StoreRefusal)
    (answer : (stores : List StoreValue) → AllHold V o old stores → IsAnswerAt {T = T} V (refusing (store_at stores k)) k stores (word (store_at stores k)) ((new ≡ old) × same_rig) reads o e new (Err r)) where
  because : (x : StoreRefusal) → r ≡ x → (stores : List StoreValue) → AllHold V o old stores
      → IsAnswerAt {T = T} V (refusing (store_at stores k)) k stores (word (store_at stores k)) ((new ≡ old) × same_rig) reads o e new (Err x)
  because x is stores hold =
      subst (λ (y : StoreRefusal). IsAnswerAt {T = T} V (refusing (store_at stores k)) k stores (word (store_at stores k)) ((new ≡ old) × same_rig) reads o e new (Err y)) is (answer stores hold)

  pub at_refused : (errno : Errno) → r ≡ Refused errno → (stores : List StoreValue) → AllHold V o old stores → (refusing (store_at stores k) ≡ Some errno) × ((new ≡ old) × same_rig)
  at_refused errno is stores hold = because (Refused errno) is stores hold

  pub at_unread : r ≡ ReadFault → (stores : List StoreValue) → AllHold V o old stores → (refusing (store_at stores k) ≡ None) × reads × AllHold V e new stores
  at_unread is stores hold = because ReadFault is stores hold

  pub at_device : r ≡ Device → (stores : List StoreValue) → AllHold V o old stores → (refusing (store_at stores k) ≡ None) × Rose o.write_faults e.write_faults
  at_device is stores hold = because Device is stores hold
