-- Numbers go round the places.
use Rattle.std.proofs.Common.{◌≡◌, ⊎_elim, ℕ, ◌+◌, ◌-◌, ◌*◌, ◌/◌, ◌%◌, ◌<◌, ◌≤◌, sym, ◌∙◌, ap, arith}
use Rattle.std.proofs.lemmas.Bool.{cases_lt}
use Rattle.std.proofs.lemmas.Nat.{mod-mul-add, mod_below, div-add-mod'}

times_next : (q m : ℕ) → (q + 1) * m ≡ q * m + m
times_next q m = omega arith

-- numbers that differ by less than the round have other places
pub other_place : (n d m : ℕ) → 1 ≤ d → d < m → n % m ≡ (n + d) % m → ⊥
other_place n d m some less same =
    let r = n % m in
    let q = n / m in
    let split : q * m + r ≡ n = div-add-mod' n m in
    let low : r < m = mod_below n m (omega (arith, less)) in
    ⊎_elim
    (λ within.
    let at : q * m + (r + d) ≡ n + d = omega (arith, split) in
    let is : (n + d) % m ≡ r + d = ap (λ (k : ℕ). k % m) (sym at) ∙ mod-mul-add q m (r + d) within in
    omega (arith, same, is, some))
    (λ past.
    let at : (q + 1) * m + (r + d - m) ≡ n + d = omega (arith, split, times_next q m, past) in
    let is : (n + d) % m ≡ r + d - m = ap (λ (k : ℕ). k % m) (sym at) ∙ mod-mul-add (q + 1) m (r + d - m) (omega (arith, low, less)) in
    omega (arith, same, is, less, low))
    (cases_lt (r + d) m)
