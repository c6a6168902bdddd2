-- What every change of names makes of a stored tree.
use Rattle.std.proofs.Common.{◌≡◌, ◌⊎◌, inl, inr, ⊎_elim, ℕ, ◌+◌, ◌*◌, ◌<◌, ◌≤◌, true, false, cond, List, length, refl, sym, ap, subst, ◌∙◌, Some, None, arith}
use Rattle.std.specs.Prelude.{Err, Ok, Result, ◌==◌, ◌&&◌, nat_lt}
use Rattle.std.proofs.lemmas.Bool.{false≢true}
use Rattle.std.proofs.lemmas.Bool.Decides.{nat_tests}
use Rattle.apex_model.specs.Durable.{StoredFile}
use Rattle.apex_model.specs.Layout.{slot_blocks}
use Rattle.apex_model.specs.Trees.{Tree}
use Rattle.block_quota.specs.Quota.{ChargesValue}
use Rattle.file_tree.specs.Entries.{IsConsistent, TreeValue, slot}
use Rattle.meta_journal.specs.Journal as journal
use Rattle.present_files.specs.Present.{changes_in, size_in}
use Rattle.present_files.specs.declared.present.Present.{Present}
use Rattle.rig_core.specs.Outside.{Later, Outside}
use Rattle.rig_core.proofs.Moments.{elsewhere_wider, leaves_elsewhere_wider, leaves_weaker}
use Rattle.tree_region.specs.InStep.{HasRoom, slots_long}
use Rattle.tree_state.specs.State.{IsState}
use Rattle.tree_state.specs.Stored.{IsTreeOf, SameContents, durable_tree}
use Rattle.tree_state.specs.declared.state.TreeState.{TreeState}
use Rattle.tree_state.specs.Names.{ChangesTree}
use Rattle.tree_state.proofs.NameStates.{nothing-changed}
use Rattle.store_model.specs.Betweens.{tree_long}
use Rattle.store_model.specs.Stores.{StoreValue, durable_of, with_names}
use Rattle.tree_store.specs.Answers.{Acts, Passes, name_calls}
use Rattle.tree_store.specs.Calls.{MakesFour}
use Rattle.tree_store.specs.Naming.{RisesBy}
use Rattle.tree_store.specs.Stored.{AreSpelled, Holds, IsBetween, IsStored, has_room, row_of, site_of, start_of}
use Rattle.tree_store.specs.declared.store.TreeStore.{TreeStore}

-- slots are a part of the region
slots-within : (start a b : ℕ) → start + 512 * (2 * a) ≤ start + 512 * (2 * a + 2 * b)
slots-within start a b = omega arith

-- ---- how many calls are made

two-tests : (v r : ℕ) → v ≡ 2 → 0 < r → ((v == 2) && nat_lt 0 r) ≡ true
two-tests v r version room = grind (arith, nat_tests)

both-hold : (v r : ℕ) → ((v == 2) && nat_lt 0 r) ≡ true → (v ≡ 2) × (0 < r)
both-hold v r is = (grind (arith, nat_tests), grind (arith, nat_tests))

pub calls-made : (s : TreeStore) (P : ℕ → Type 0) → (HasRoom s.state.kept → P 4) → ((HasRoom s.state.kept → ⊥) → P 7) → P (name_calls s)
calls-made s P first second =
    (elim (has_room s) as (λ b. has_room s ≡ b → P (cond b 4 7)) [
      | true ↦ λ is. first (both-hold s.state.kept.version (journal.room_of s.state.kept.journal) is)
      | false ↦ λ is. second (λ has. false≢true (sym is ∙ two-tests s.state.kept.version (journal.room_of s.state.kept.journal) has.0 has.1))
    ]) refl

-- they are four at least
pub four-made : {T E : Type 0} (K : Type 0) (o e : Outside) (s : TreeStore) (result : Result T E) → RisesBy K o e s result → MakesFour K o e result
four-made K o e s (Ok done) rises kept = let four = calls-made s (λ n. 4 ≤ n) (λ room. omega arith) (λ full. omega arith) in omega (arith, four, rises kept)
four-made K o e s (Err fault) rises kept = tt

-- ---- at every moment

module _ (V : Type 0) (o e : Outside) (s : TreeStore) (v w : StoreValue) (before after : Tree StoredFile) (was : V → durable_of v ≡ before) (is : V → durable_of w ≡ after)
    (step : ChangesTree V (row_of s) (start_of s) before after o e) where
  between : V → (image : List ℕ) → IsTreeOf (row_of s) (start_of s) before image ⊎ IsTreeOf (row_of s) (start_of s) after image → IsBetween (site_of s) v w image
  between tells image has = ⊎_elim
      (λ old. inl (old ∙ ap (λ (t : Tree StoredFile). Some t) (sym (was tells))))
      (λ new. inr (new ∙ ap (λ (t : Tree StoredFile). Some t) (sym (is tells)))) has

  -- the trees that the region passes are what is durable of the two values
  pub passes-step : Passes V s v w o e
  passes-step = record {
    any_moment = λ tells. leaves_weaker (λ image. IsTreeOf (row_of s) (start_of s) before image ⊎ IsTreeOf (row_of s) (start_of s) after image) (IsBetween (site_of s) v w) o e (between tells) (step.any_moment tells);
    shown = λ tells. between tells e.view (step.shown tells);
  }

-- where no call is made the region stands for what it stood for
pub passes-none : (V : Type 0) (o : Outside) (s : TreeStore) → IsStored V o s → (v w : StoreValue) → Holds V o s v → Passes V s v w o o
passes-none V o s before v w holds =
    passes-step V o o s v w (durable_tree (row_of s) (start_of s) o.view s.state) (durable_of w) holds.durable (λ tells. refl) (nothing-changed V (row_of s) (start_of s) o s.state before.state (durable_of w))

-- only slots change
pub acts-step : (V : Type 0) (o e : Outside) (s : TreeStore) (t : TreeState) (before after : Tree StoredFile) → ChangesTree V (row_of s) (start_of s) before after o e
    → Acts V 4 3 o e s (record { row = s.row; start = s.start; state = t })
acts-step V o e s t before after step = record {
  site = refl;
  runs = record {
    outside = leaves_elsewhere_wider (start_of s) (slots_long (row_of s)) (start_of s) (tree_long (site_of s)) o e (omega arith) (slots-within (start_of s) (slot_blocks (row_of s)) (row_of s).quota) step.outside;
    outside_view = λ tells. elsewhere_wider (start_of s) (slots_long (row_of s)) (start_of s) (tree_long (site_of s)) o.view e.view (omega arith) (slots-within (start_of s) (slot_blocks (row_of s)) (row_of s).quota) (step.outside_view tells);
    later = step.later;
    made = step.made;
  };
}

-- ---- what is kept

-- with another state in memory
abbrev pub with_state : TreeStore → TreeState → TreeStore
with_state s t = record { row = s.row; start = s.start; state = t }

pub stored-named : (V : Type 0) (o e : Outside) (s : TreeStore) (t : TreeState) → IsStored V o s → Later o e → IsConsistent t.kept.tree → AreSpelled t.kept.tree → IsState V (row_of s) (start_of s) e t
    → IsStored V e (with_state s t)
stored-named V o e s t before later names spelled state = record {
  fits = let fits = before.fits in let size = later.size in omega (arith, fits, size);
  buffers = before.buffers;
  names = names;
  spelled = spelled;
  state = state;
}

pub stored-same : (V : Type 0) (o : Outside) (s : TreeStore) (t : TreeState) → t ≡ s.state → IsStored V o s → IsStored V o (with_state s t)
stored-same V o s t same before = subst (λ (u : TreeState). IsStored V o (with_state s u)) (sym same) before

module _ (V : Type 0) (o e : Outside) (s : TreeStore) (t : TreeState) (v : StoreValue) (holds : Holds V o s v) (names : TreeValue) where
  -- names changed, and nothing else did
  pub holds-named : t.kept.tree ≡ names → IsConsistent t.kept.tree → length names.files ≡ length v.tree.files → ((g : ℕ) → slot names.files g ≡ None → slot v.tree.files g ≡ None)
      → t.present ≡ s.state.present → t.charges ≡ s.state.charges → (V → SameContents (row_of s) (start_of s) o.view e.view s.state t)
      → (V → durable_of (with_names v names) ≡ durable_tree (row_of s) (start_of s) e.view t) → Holds V e (with_state s t) (with_names v names)
  holds-named are consistent many unused present charges contents durable = record {
    sound = record {
      names = subst IsConsistent are consistent;
      files = holds.sound.files ∙ sym many;
      charges = holds.sound.charges ∙ sym many;
      unused = λ g none. holds.sound.unused g (unused g none);
      within_quota = holds.sound.within_quota;
    };
    names = sym are;
    sizes = λ g. holds.sizes g ∙ sym (ap (λ (p : Present). size_in p.sizes.items g) present);
    changes = λ g. holds.changes g ∙ sym (ap (λ (p : Present). changes_in p.sizes.items g) present);
    charges = holds.charges ∙ sym (ap (λ (c : ChargesValue). c.by_file) charges);
    quota = holds.quota;
    contents = λ tells g. holds.contents tells g ∙ sym (contents tells (record { 0 = g }));
    durable = durable;
  }
