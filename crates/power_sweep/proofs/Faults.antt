-- Calls and faults of a disk under a fuse, after one call more.
use Rattle.std.proofs.Common.{◌≡◌, ⊎_elim, ℕ, ◌+◌, ◌<◌, ◌≤◌, Bool, true, false, List, [], ◌∷◌, ◌++◌, length, length-append, refl, sym, ap, ◌∙◌, arith}
use Rattle.std.specs.Prelude.{min, nat_eq, not}
use Rattle.std.proofs.lemmas.Bool.{false≢true}
use Rattle.std.proofs.lemmas.Bool.Decides.{nat_tests}
use Rattle.apex_types.specs.declared.kinds.CallKind.{CallKind}
use Rattle.rig_core.specs.Causes.{last_count}
use Rattle.rig_core.specs.FuseRig.{fuse_state, is_fuse_starved, is_spent, limit_of, passed_of, recorded_of, BeginsFused, Burns, IsEntered, IsGivenRead, IsGuarded, SparesFuse}
use Rattle.rig_core.specs.declared.call.CallRecord.{CallRecord}
use Rattle.rig_core.specs.declared.fuse_rig.FuseRig.{FuseRig}
use Rattle.power_sweep.specs.Counted.{AreCounted}

equal : (a b : ℕ) → nat_eq a b ≡ true → a ≡ b
equal a b is = grind (arith, nat_tests)

spent-where : (b : Bool) → false ≡ not b → b ≡ true
spent-where true is = refl
spent-where false is = absurd (false≢true is)

-- nothing was made
pub none-counted : (image : List ℕ) (calls : ℕ) (rig : FuseRig) → BeginsFused image calls rig → AreCounted rig 0 0
none-counted image calls rig begins = record {
  calls = let writes = begins.fresh.writes in let syncs = begins.fresh.syncs in omega (arith, writes, syncs);
  used_up = λ spent. absurd (false≢true (sym begins.unspent ∙ spent));
  written = λ room fed. refl;
  read = λ room. refl;
}

module _ (old new : FuseRig) (reads writes : ℕ) (was : AreCounted old reads writes) where
  -- how many writes and syncs were made
  abbrev made : FuseRig → ℕ
  made rig = (fuse_state rig).writes + (fuse_state rig).syncs

  module _ (kind : CallKind) (at : ℕ) (bytes : List ℕ) (entry : Bool) where
    fed-before : (ok : Bool) → IsGuarded kind at bytes entry ok old new → is_fuse_starved new ≡ false → is_fuse_starved old ≡ false
    fed-before ok guarded fed = ⊎_elim (λ entered. sym entered.fed ∙ fed) (λ stays. absurd (false≢true (sym fed ∙ stays.1))) guarded.room

    -- a call in the record is one more
    entered-more : IsEntered kind at bytes entry old new → recorded_of new ≡ recorded_of old + 1
    entered-more entered = ap length entered.entered.pushed ∙ length-append _ (entered.entered.call ∷ [])

    -- a write or a sync was let pass
    pub passed-counted : IsGuarded kind at bytes entry true old new → Burns true old new → made new ≤ made old + 1 → AreCounted new reads writes
    passed-counted guarded burns few =
        let passed : passed_of new ≡ passed_of old + 1 = burns.passed in
        let limit = burns.limit in
        record {
          calls = omega (arith, was.calls, passed, few);
          used_up = λ spent. absurd (false≢true (sym (guarded.passed refl).0 ∙ spent));
          written = λ room fed. was.written (omega (arith, room, passed, limit)) (fed-before true guarded fed);
          read = λ room. was.read (omega (arith, room, passed, limit));
        }

    -- it failed
    pub failed-counted : (more : ℕ) → IsGuarded kind at bytes entry false old new → Burns false old new → made new ≤ made old + 1 → min (writes + 1) last_count ≤ more → AreCounted new reads more
    failed-counted more guarded burns few rose =
        let passed : passed_of new ≡ passed_of old = burns.passed in
        let limit = burns.limit in
        let up : is_spent new ≡ true → passed_of old ≡ limit_of old = λ spent. equal (passed_of old) (limit_of old) (sym burns.spent ∙ spent) in
        record {
          calls = omega (arith, was.calls, passed, few, rose);
          used_up = λ spent. passed ∙ up spent ∙ sym limit;
          written = λ room fed. absurd (⊎_elim
              (λ spent. let same = up spent in omega (arith, room, passed, limit, same))
              (λ stays. ⊎_elim (λ entered. let one = entered-more entered in omega (arith, one, stays)) (λ starved. false≢true (sym fed ∙ starved.1)) guarded.room)
              (guarded.failed refl));
          read = λ room. was.read (omega (arith, room, passed, limit));
        }

    -- a line was told, or that failed
    pub told-counted : (ok : Bool) → IsGuarded kind at bytes entry ok old new → SparesFuse old new → made new ≤ made old → AreCounted new reads writes
    told-counted ok guarded spares few =
        let passed = spares.passed in
        let limit = spares.limit in
        record {
          calls = omega (arith, was.calls, passed, few);
          used_up = λ spent. passed ∙ was.used_up (sym spares.spent ∙ spent) ∙ sym limit;
          written = λ room fed. was.written (omega (arith, room, passed, limit)) (fed-before ok guarded fed);
          read = λ room. was.read (omega (arith, room, passed, limit));
        }

  -- bytes were read
  pub read-counted : IsGivenRead true old new → SparesFuse old new → made new ≤ made old → AreCounted new reads writes
  read-counted given spares few =
      let passed = spares.passed in
      let limit = spares.limit in
      record {
        calls = omega (arith, was.calls, passed, few);
        used_up = λ spent. passed ∙ was.used_up (sym spares.spent ∙ spent) ∙ sym limit;
        written = λ room fed. was.written (omega (arith, room, passed, limit)) (sym given.starved ∙ fed);
        read = λ room. was.read (omega (arith, room, passed, limit));
      }

  -- a read failed, since the fuse is used up
  pub unread-counted : (more : ℕ) → IsGivenRead false old new → SparesFuse old new → made new ≤ made old → AreCounted new more writes
  unread-counted more given spares few =
      let passed = spares.passed in
      let limit = spares.limit in
      let up = was.used_up (spent-where (is_spent old) given.answer) in
      record {
        calls = omega (arith, was.calls, passed, few);
        used_up = λ spent. passed ∙ up ∙ sym limit;
        written = λ room fed. was.written (omega (arith, room, passed, limit)) (sym given.starved ∙ fed);
        read = λ room. absurd (omega (arith, room, passed, limit, up));
      }
