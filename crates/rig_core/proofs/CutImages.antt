-- Recorded calls that are made again, and what a cut leaves after them.
use Rattle.std.proofs.Common.{◌≡◌, ⊎_elim, inl, inr, ℕ, zero, suc, ◌+◌, ◌<◌, ◌≤◌, Bool, true, false, List, [], ◌∷◌, ◌++◌, length, refl, sym, ◌∙◌, ap, subst, arith}
use Rattle.std.specs.Prelude.{All, take, if◌then◌else◌}
use Rattle.std.proofs.lemmas.Bool.{cases_lt, false≢true}
use Rattle.std.proofs.lemmas.List.{append-nil, append_assoc, places}
use Rattle.std.proofs.lemmas.List.Elements.{All-nil, All-cons, All-append}
use Rattle.apex_types.specs.declared.kinds.CallKind.{CallKind}
use Rattle.apex_types.specs.declared.kinds.CallKind.TheVariants.{Read, Write, Sync, Tell}
use Rattle.rig_core.specs.declared.call.CallRecord.{CallRecord}
use Rattle.rig_core.specs.declared.cut.PendingBytes.{PendingBytes}
use Rattle.rig_core.specs.Bytes.{byte}
use Rattle.rig_core.specs.Cuts.{leaves_byte, made_sure, IsLastSynchronised, IsCut}
use Rattle.rig_core.specs.Record.{Disk, fresh_disk, after_call, after, replay, size_replayed, Fits, MayKeep, KeptSince}
use Rattle.rig_core.specs.Recorded.{IsRecorded}
use Rattle.rig_core.proofs.Moments.{elsewhere_same}
use Rattle.rig_core.proofs.Recorded.{replay-push, still_kept, may_tear}

-- What reads give and what was last synchronised, once some calls are made again.
pub record Remade (d : Disk) (calls : List CallRecord) (view synchronised : List ℕ) : Type 0 where
  pub long : length view ≡ d.size
  pub shows : (replay d calls).view ≡ view
  pub keeps : MayKeep (replay d calls) synchronised (replay d calls).told
  pub last : IsLastSynchronised d calls synchronised

pub remade_none : (image view synchronised : List ℕ) → view ≡ image → synchronised ≡ image → Remade (fresh_disk (length image) image) [] view synchronised
unfolding replay
remade_none image view synchronised shows settled = record {
  long = ap length shows;
  shows = sym shows;
  keeps = record { long = ap length settled; same = λ k out. ap (λ (bytes : List ℕ). byte bytes k) settled; told_so_far = refl };
  last = record { early = []; late = []; parts = refl; sure = refl; shown = sym settled; none_since = All-nil _ };
}

-- One call more.

keeps_on : (kind : CallKind) (at : ℕ) (bytes : List ℕ) (ok : Bool) (d : Disk) (synchronised : List ℕ) → (kind ≡ Write → at + length bytes ≤ length d.view) → length d.view ≡ d.size → MayKeep d synchronised d.told
    → MayKeep (after_call kind at bytes ok d) (if made_sure kind ok then (after_call kind at bytes ok d).view else synchronised) (after_call kind at bytes ok d).told
keeps_on Read at bytes ok d synchronised fits fills keep = keep
keeps_on Write at bytes ok d synchronised fits fills keep = may_tear d at bytes ok synchronised synchronised d.told (fits refl) keep (elsewhere_same at (length bytes) synchronised)
keeps_on Sync at bytes true d synchronised fits fills keep = record { long = fills; same = λ k out. refl; told_so_far = refl }
keeps_on Sync at bytes false d synchronised fits fills keep = record { long = keep.long; same = keep.same; told_so_far = refl }
keeps_on Tell at bytes ok d synchronised fits fills keep = record { long = keep.long; same = keep.same; told_so_far = refl }

nothing_pending : (kind : CallKind) (at : ℕ) (bytes : List ℕ) (ok : Bool) (d : Disk) → made_sure kind ok ≡ true → (after_call kind at bytes ok d).pending ≡ []
nothing_pending Read at bytes ok d sure = absurd (false≢true sure)
nothing_pending Write at bytes ok d sure = absurd (false≢true sure)
nothing_pending Sync at bytes true d sure = refl
nothing_pending Sync at bytes false d sure = absurd (false≢true sure)
nothing_pending Tell at bytes ok d sure = absurd (false≢true sure)

last_on : (d : Disk) (calls : List CallRecord) (c : CallRecord) (view synchronised : List ℕ) → (replay d (calls ++ c ∷ [])).view ≡ view → IsLastSynchronised d calls synchronised
    → (sure : Bool) → made_sure c.kind c.ok ≡ sure → IsLastSynchronised d (calls ++ c ∷ []) (if sure then view else synchronised)
last_on d calls c view synchronised shows last true sure = record {
  early = calls ++ c ∷ [];
  late = [];
  parts = append-nil (calls ++ c ∷ []);
  sure = ap (λ (e : Disk). e.pending) (replay-push d calls c) ∙ nothing_pending c.kind c.at c.bytes c.ok (replay d calls) sure;
  shown = shows;
  none_since = All-nil _;
}
last_on d calls c view synchronised shows last false sure = record {
  early = last.early;
  late = last.late ++ c ∷ [];
  parts = sym (append_assoc last.early last.late (c ∷ [])) ∙ ap (λ l. l ++ c ∷ []) last.parts;
  sure = last.sure;
  shown = last.shown;
  none_since =
      let P : CallRecord → Type 0 = λ c. made_sure c.kind c.ok ≡ false in
      All-append P last.late (c ∷ []) last.none_since (All-cons P c [] sure (All-nil P));
}

pub remade_on : (d : Disk) (calls : List CallRecord) (c : CallRecord) (view synchronised new_view : List ℕ) → Remade d calls view synchronised → Fits (length view) c
    → ((e : Disk) → e.view ≡ view → (after c e).view ≡ new_view) → length new_view ≡ length view
    → Remade d (calls ++ c ∷ []) new_view (if made_sure c.kind c.ok then new_view else synchronised)
remade_on d calls c view synchronised new_view was fits shown long =
    let now : after c (replay d calls) ≡ replay d (calls ++ c ∷ []) = sym (replay-push d calls c) in
    let shows : (replay d (calls ++ c ∷ [])).view ≡ new_view = sym (ap (λ (e : Disk). e.view) now) ∙ shown (replay d calls) was.shows in
    let fills : length (replay d calls).view ≡ (replay d calls).size = ap length was.shows ∙ was.long ∙ sym (size_replayed d calls) in
    let stepped = keeps_on c.kind c.at c.bytes c.ok (replay d calls) synchronised (λ write. omega (arith, fits write, ap length was.shows)) fills was.keeps in
    let stood = subst (λ (v : List ℕ). MayKeep (after c (replay d calls)) (if made_sure c.kind c.ok then v else synchronised) (after c (replay d calls)).told) (shown (replay d calls) was.shows) stepped in
    record {
      long = long ∙ was.long;
      shows = shows;
      keeps = subst (λ (e : Disk). MayKeep e (if made_sure c.kind c.ok then new_view else synchronised) e.told) now stood;
      last = last_on d calls c new_view synchronised shows was.last (made_sure c.kind c.ok) refl;
    }

-- The cut.

either_same : (b : Bool) (x y : ℕ) → y ≡ x → (if b then x else y) ≡ x
either_same true x y same = refl
either_same false x y same = same

pub is_cut : (left : PendingBytes) (d : Disk) (calls : List CallRecord) (view synchronised image : List ℕ) → Remade d calls view synchronised → length image ≡ length synchronised
    → ((k : ℕ) → k < length synchronised → byte image k ≡ (if leaves_byte left k then byte view k else byte synchronised k)) → IsCut left d calls image
is_cut left d calls view synchronised image remade long each =
    let shows = remade.shows in
    let long_now : length image ≡ length (replay d calls).view = long ∙ remade.keeps.long ∙ size_replayed d calls ∙ sym remade.long ∙ sym (ap length shows) in
    record {
      may_keep = record {
        long = long ∙ remade.keeps.long;
        same = λ k out. ⊎_elim
            (λ low. each k low ∙ either_same (leaves_byte left k) (byte view k) (byte synchronised k) (remade.keeps.same k out ∙ ap (λ (v : List ℕ). byte v k) shows) ∙ sym (ap (λ (v : List ℕ). byte v k) shows))
            (λ high. grind (arith, places))
            (cases_lt k (length synchronised));
        told_so_far = refl;
      };
      synchronised = synchronised;
      last = remade.last;
      each = λ k low. each k (omega (arith, low, long)) ∙ ap (λ (v : List ℕ). if leaves_byte left k then byte v k else byte synchronised k) (sym shows);
    }

-- The image is one that a cut may leave since the first call.

kept_at_start : (d : Disk) (calls : List CallRecord) (image told : List ℕ) → MayKeep d image told → KeptSince 0 d calls image told
unfolding KeptSince
kept_at_start d [] image told keep = keep
kept_at_start d (c ∷ calls) image told keep = ⊎_elim (λ during. inl during) (λ later. inr (kept_at_start (after c d) calls image told later))
    (still_kept c.kind c.at c.bytes c.ok 0 c.clock d image told (omega arith) keep)

pub kept_since_start : (n : ℕ) (d : Disk) (calls : List CallRecord) (image told : List ℕ) → MayKeep (replay d (take n calls)) image told → KeptSince 0 d calls image told
unfolding KeptSince replay
kept_since_start zero d calls image told keep = kept_at_start d calls image told keep
kept_since_start (suc n) d [] image told keep = keep
kept_since_start (suc n) d (c ∷ calls) image told keep = inr (kept_since_start n (after c d) calls image told keep)

-- Writes in a record.

pub fit_more : (size at clock : ℕ) (kind : CallKind) (bytes : List ℕ) (ok : Bool) (old new : List CallRecord) → IsRecorded kind at bytes ok clock old new
    → (kind ≡ Write → at + length bytes ≤ size) → All (Fits size) old → All (Fits size) new
fit_more size at clock kind bytes ok old new rec fits all =
    let fit : Fits size rec.call = λ write. omega (arith, fits (sym rec.is_kind ∙ write), rec.is_at, ap length rec.is_bytes) in
    subst (All (Fits size)) (sym rec.pushed) (All-append (Fits size) old (rec.call ∷ []) all (All-cons (Fits size) rec.call [] fit (All-nil (Fits size))))

abbrev pub is_write : CallKind → Bool
is_write Read = false
is_write Write = true
is_write Sync = false
is_write Tell = false

pub fit_still : (size at clock : ℕ) (kind : CallKind) (bytes : List ℕ) (ok : Bool) (old new : List CallRecord) → IsRecorded kind at bytes ok clock old new
    → is_write kind ≡ false → All (Fits size) old → All (Fits size) new
fit_still size at clock kind bytes ok old new rec other all = fit_more size at clock kind bytes ok old new rec (λ write. absurd (false≢true (sym other ∙ ap is_write write))) all
