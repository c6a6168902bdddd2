-- The leading records of images that agree in front.
use Rattle.std.proofs.Common.{◌≡◌, inl, inr, ℕ, zero, suc, ◌+◌, ◌*◌, ◌<◌, ◌≤◌, List, [], ◌∷◌, ◌++◌, Some, slice_get, length, refl, sym, ◌∙◌, ap, arith}
use Rattle.std.proofs.lemmas.Bool.{cases_eq}
use Rattle.std.proofs.lemmas.Bool.Decides.{nat_tests}
use Rattle.std.proofs.lemmas.List.{nil_from_length}
use Rattle.rig_core.specs.Bytes.{byte, part}
use Rattle.rig_core.proofs.Put.{part_same}
use Rattle.meta_journal.specs.Leading.{leading}

pub leading_open : (n first : ℕ) (image : List ℕ) → byte image first ≡ 165 → leading (suc n) first image ≡ part (first + 512) 512 image ∷ leading n (first + 1024) image
unfolding leading
leading_open n first image opened = grind (arith, nat_tests)

pub leading_shut : (n first : ℕ) (image : List ℕ) → (byte image first ≡ 165 → ⊥) → leading n first image ≡ []
unfolding leading
leading_shut zero first image shut = refl
leading_shut (suc n) first image shut = grind (arith, nat_tests)

pub leading_zero : (first : ℕ) (image : List ℕ) → leading zero first image ≡ []
unfolding leading
leading_zero first image = refl

-- where there is a record, the first gate is open
some_open : (n first h : ℕ) (image : List ℕ) → length (leading n first image) ≡ suc h → byte image first ≡ 165
some_open n first h image long = elim (cases_eq (byte image first) 165) [
  | inl opened ↦ opened
  | inr shut ↦ absurd (omega (arith, long, ap length (leading_shut n first image shut)))
]

-- no more than there are places
pub leading_few : (n first : ℕ) (image : List ℕ) → length (leading n first image) ≤ n
leading_few zero first image = omega (arith, ap length (leading_zero first image))
leading_few (suc n) first image = elim (cases_eq (byte image first) 165) [
  | inl opened ↦ omega (arith, leading_few n (first + 1024) image, ap length (leading_open n first image opened))
  | inr shut ↦ omega (arith, ap length (leading_shut (suc n) first image shut))
]

rest_long : (n first h : ℕ) (image : List ℕ) → suc h ≤ length (leading (suc n) first image) → (byte image first ≡ 165) × (h ≤ length (leading n (first + 1024) image))
rest_long n first h image some = elim (cases_eq (byte image first) 165) [
  | inl opened ↦ (opened, omega (arith, some, ap length (leading_open n first image opened)))
  | inr shut ↦ absurd (omega (arith, some, ap length (leading_shut (suc n) first image shut)))
]

-- Behind records that were read, a closed gate or the last place ends them.
pub leading_ends : (n first h : ℕ) (image : List ℕ) → h ≤ length (leading n first image) → (h < n → byte image (first + 1024 * h) ≡ 165 → ⊥) → length (leading n first image) ≡ h
leading_ends zero first h image read shut = omega (arith, read, ap length (leading_zero first image))
leading_ends (suc n) first zero image read shut = ap length (leading_shut (suc n) first image (λ opened. shut (omega arith) (ap (byte image) (omega arith) ∙ opened)))
leading_ends (suc n) first (suc h) image read shut =
    let rest = rest_long n first h image read in
    let ends : length (leading n (first + 1024) image) ≡ h =
    leading_ends n (first + 1024) h image rest.1 (λ less opened. shut (omega (arith, less)) (ap (byte image) (omega arith) ∙ opened)) in
    omega (arith, ends, ap length (leading_open n first image rest.0))

-- Behind records that were read, an open gate is that of the next one.
pub leading_next : (n first h : ℕ) (image : List ℕ) → h ≤ length (leading n first image) → h < n → byte image (first + 1024 * h) ≡ 165 → slice_get (leading n first image) h ≡ Some (part (first + 1024 * h + 512) 512 image)
leading_next zero first h image read less opened = absurd (omega (arith, less))
leading_next (suc n) first zero image read less opened =
    let here : byte image first ≡ 165 = ap (byte image) (omega arith) ∙ opened in
    ap (λ (rs : List (List ℕ)). slice_get rs 0) (leading_open n first image here) ∙ ap (λ (at : ℕ). Some (part at 512 image)) (omega arith)
leading_next (suc n) first (suc h) image read less opened =
    let rest = rest_long n first h image read in
    ap (λ (rs : List (List ℕ)). slice_get rs (suc h)) (leading_open n first image rest.0)
    ∙ leading_next n (first + 1024) h image rest.1 (omega (arith, less)) (ap (byte image) (omega arith) ∙ opened)
    ∙ ap (λ (at : ℕ). Some (part at 512 image)) (omega arith)

-- The records stay where their bytes do, and the gate behind them is closed.
pub leading_same : (n first h : ℕ) (a b : List ℕ) → length (leading n first a) ≡ h → h ≤ n → length b ≡ length a → ((k : ℕ) → first ≤ k → k < first + 1024 * h → byte b k ≡ byte a k)
    → (h < n → byte b (first + 1024 * h) ≡ 165 → ⊥) → leading n first b ≡ leading n first a
leading_same zero first h a b count few long same shut = leading_zero first b ∙ sym (leading_zero first a)
leading_same (suc n) first zero a b count few long same shut =
    leading_shut (suc n) first b (λ opened. shut (omega arith) (ap (byte b) (omega arith) ∙ opened)) ∙ sym (nil_from_length (leading (suc n) first a) count)
leading_same (suc n) first (suc h) a b count few long same shut =
    let opened : byte a first ≡ 165 = some_open (suc n) first h a count in
    let opened_b : byte b first ≡ 165 = same first (omega arith) (omega arith) ∙ opened in
    let rest : length (leading n (first + 1024) a) ≡ h = omega (arith, count, ap length (leading_open n first a opened)) in
    let body : part (first + 512) 512 b ≡ part (first + 512) 512 a = part_same (first + 512) 512 b a long (λ k low high. same k (omega (arith, low)) (omega (arith, high))) in
    let next : leading n (first + 1024) b ≡ leading n (first + 1024) a =
    leading_same n (first + 1024) h a b rest (omega (arith, few)) long (λ k low high. same k (omega (arith, low)) (omega (arith, high)))
    (λ less gate. shut (omega (arith, less)) (ap (byte b) (omega arith) ∙ gate)) in
    leading_open n first b opened_b ∙ ap (λ (r : List ℕ). r ∷ leading n (first + 1024) b) body ∙ ap (λ (rs : List (List ℕ)). part (first + 512) 512 a ∷ rs) next ∙ sym (leading_open n first a opened)

-- One record joins them where the gate behind them is open, and the one behind that is closed.
pub leading_more : (n first h : ℕ) (a b body : List ℕ) → length (leading n first a) ≡ h → h < n → length b ≡ length a → ((k : ℕ) → first ≤ k → k < first + 1024 * h → byte b k ≡ byte a k)
    → byte b (first + 1024 * h) ≡ 165 → part (first + 1024 * h + 512) 512 b ≡ body → (h + 1 < n → byte b (first + 1024 * (h + 1)) ≡ 165 → ⊥)
    → leading n first b ≡ leading n first a ++ body ∷ []
leading_more zero first h a b body count few long same gate is shut = absurd (omega (arith, few))
leading_more (suc n) first zero a b body count few long same gate is shut =
    let opened : byte b first ≡ 165 = ap (byte b) (omega arith) ∙ gate in
    let is_body : part (first + 512) 512 b ≡ body = ap (λ (at : ℕ). part at 512 b) (omega arith) ∙ is in
    leading_open n first b opened ∙ ap (λ (r : List ℕ). r ∷ leading n (first + 1024) b) is_body
    ∙ ap (λ (rs : List (List ℕ)). body ∷ rs) (elim (cases_eq n 0) [
      | inl none ↦ ap (λ (m : ℕ). leading m (first + 1024) b) none ∙ leading_zero (first + 1024) b
      | inr some ↦ leading_shut n (first + 1024) b (λ opened. shut (omega (arith, some)) (ap (byte b) (omega arith) ∙ opened))
    ])
    ∙ ap (λ (rs : List (List ℕ)). rs ++ body ∷ []) (sym (nil_from_length (leading (suc n) first a) count))
leading_more (suc n) first (suc h) a b body count few long same gate is shut =
    let opened : byte a first ≡ 165 = some_open (suc n) first h a count in
    let opened_b : byte b first ≡ 165 = same first (omega arith) (omega arith) ∙ opened in
    let rest : length (leading n (first + 1024) a) ≡ h = omega (arith, count, ap length (leading_open n first a opened)) in
    let record_same : part (first + 512) 512 b ≡ part (first + 512) 512 a = part_same (first + 512) 512 b a long (λ k low high. same k (omega (arith, low)) (omega (arith, high))) in
    let next : leading n (first + 1024) b ≡ leading n (first + 1024) a ++ body ∷ [] =
    leading_more n (first + 1024) h a b body rest (omega (arith, few)) long (λ k low high. same k (omega (arith, low)) (omega (arith, high)))
    (ap (byte b) (omega arith) ∙ gate) (ap (λ (at : ℕ). part at 512 b) (omega arith) ∙ is) (λ less behind. shut (omega (arith, less)) (ap (byte b) (omega arith) ∙ behind)) in
    leading_open n first b opened_b ∙ ap (λ (r : List ℕ). r ∷ leading n (first + 1024) b) record_same ∙ ap (λ (rs : List (List ℕ)). part (first + 512) 512 a ∷ rs) next
    ∙ ap (λ (rs : List (List ℕ)). rs ++ body ∷ []) (sym (leading_open n first a opened))
