-- What a cut leaves while a logbook is cleared.
use Rattle.std.proofs.Common.{◌≡◌, ◌⊎◌, inl, inr, ⊎_elim, ℕ, ◌+◌, ◌*◌, ◌%◌, List, [], ◌++◌, length, Option, Some, sym, ◌∙◌, ap, arith}
use Rattle.std.specs.Prelude.{slice_set}
use Rattle.std.proofs.lemmas.List.{append-nil}
use Rattle.apex_types.specs.declared.rows.LogbookRow.{LogbookRow}
use Rattle.apex_model.specs.Fields.{log_header_of}
use Rattle.apex_model.specs.Layout.{logbook_blocks}
use Rattle.apex_model.specs.Logbooks.{Logbook, cleared}
use Rattle.rig_core.specs.Bytes.{SameElsewhere}
use Rattle.rig_core.specs.Outside.{Outside, Sound}
use Rattle.rig_core.specs.Leaves.{Leaves, LeavesElsewhere, FromNow, IsSettled}
use Rattle.rig_core.proofs.Moments.{leaves_both, leaves_weaker}
use Rattle.gate_slots.specs.Place.{newest_content}
use Rattle.logbook_store.specs.Regions.{headers_at}
use Rattle.logbook_store.specs.Books.{IsStored}
use Rattle.logbook_store.proofs.Cleared.{SamePlaces, header_stays, header_clears, header_numbered}

abbrev pub header_is : ℕ → ℕ → Option (ℕ × ℕ)
header_is n life = Some (n, life)

-- a header's body with the next sequence number
pub body_spells : (body tail : List ℕ) (new : List ℕ) (m number life : ℕ) → length body ≡ 512 → log_header_of body ≡ Some (0, life) → m ≡ (number + 1) % 3 → new ≡ slice_set body 0 m → tail ≡ [] → log_header_of (new ++ tail) ≡ Some (m, life)
body_spells body tail new m number life long spells next is nil =
    ap (λ (t : List ℕ). log_header_of (new ++ t)) nil ∙ ap log_header_of (append-nil new ∙ is) ∙ header_numbered body m (0, life) (omega (arith, long)) (omega (arith, next)) spells

module _ (row : LogbookRow) (start : ℕ) (b : Logbook) (view content body : List ℕ) (n : ℕ) (was : IsStored row start b view) (held : newest_content (headers_at start) view ≡ Some content) (spells : log_header_of body ≡ Some (n, b.life)) where
  abbrev pub BeforeOrAfter : List ℕ → Type 0
  BeforeOrAfter image = IsStored row start b image ⊎ IsStored row start (cleared b) image

  -- by the newest header
  pub either : (image : List ℕ) → length image ≡ length view → SamePlaces row start view image
      → (newest_content (headers_at start) image ≡ Some content) ⊎ (newest_content (headers_at start) image ≡ Some body) → BeforeOrAfter image
  either image long same one = ⊎_elim
      (λ old. inl (header_stays row start view image long same content held old ∙ was))
      (λ new. inr (header_clears row start view image long same (record { life = b.life; logged = b.logged }) was body n spells new))
      one

  pub after : (image : List ℕ) → length image ≡ length view → SamePlaces row start view image → newest_content (headers_at start) image ≡ Some body → IsStored row start (cleared b) image
  after image long same new = header_clears row start view image long same (record { life = b.life; logged = b.logged }) was body n spells new

-- the places stay where only headers change
pub places_stay : (row : LogbookRow) (start : ℕ) (a image : List ℕ) → SameElsewhere start 2048 a image → SamePlaces row start a image
places_stay row start a image same = record { within = λ k low high. same.above k (omega (arith, low)) }

pub clear_leaves : (V K : Type 0) (row : LogbookRow) (start : ℕ) (b : Logbook) (content body : List ℕ) (n : ℕ) (o e : Outside) → Sound V K o → V → IsSettled start (512 * logbook_blocks row) o
    → IsStored row start b o.view → newest_content (headers_at start) o.view ≡ Some content → log_header_of body ≡ Some (n, b.life)
    → Leaves (λ image. (newest_content (headers_at start) image ≡ Some content) ⊎ (newest_content (headers_at start) image ≡ Some body)) o e → LeavesElsewhere start 2048 o e
    → Leaves (λ image. IsStored row start b image ⊎ IsStored row start (cleared b) image) o e
clear_leaves V K row start b content body n o e sound tells settled was held spells run outside =
    let Old : List ℕ → Type 0 = λ image. (newest_content (headers_at start) image ≡ Some content) ⊎ (newest_content (headers_at start) image ≡ Some body) in
    leaves_weaker (λ image. Old image × FromNow start 2048 o image) (λ image. IsStored row start b image ⊎ IsStored row start (cleared b) image) o e
    (λ image both.
    let from = both.1 in
    let seen = settled from.0 from.1 from.2 in
    let stay = places_stay row start from.0 image from.3 in
    either row start b o.view content body n was held spells image (from.3.long ∙ sound.image_fills o.clock from.0 from.1 from.2 ∙ sym (sound.view_fills tells))
    (record { within = λ k low high. stay.within k low high ∙ seen.within k (omega (arith, low)) (omega (arith, high)) }) both.0)
    (leaves_both Old (FromNow start 2048 o) o e run outside)
