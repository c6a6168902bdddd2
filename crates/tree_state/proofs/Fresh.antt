-- Fresh block numbers stay apart from all others while numbers become durable, and while numbers are given up.
use Rattle.std.proofs.Common.{◌≡◌, ◌≢◌, ◌⊎◌, inl, inr, ℕ, true, List, sym, ◌∙◌, arith, refl}
use Rattle.std.proofs.lemmas.Bool.Decides.{nat_tests}
use Rattle.tree_region.specs.OwnedRows.{number_at, with_number, is_new, is_fresh, AreApart}
use Rattle.tree_state.proofs.Rows.{number-either, present-either, with_present}

-- ---- the test, as what it says

new-some : (durable present : ℕ) → is_new durable present ≡ true → present ≢ 0
new-some durable present test is = grind (arith, nat_tests)

new-differs : (durable present : ℕ) → is_new durable present ≡ true → present ≢ durable
new-differs durable present test is = grind (arith, nat_tests)

new-where : (durable present : ℕ) → present ≢ 0 → present ≢ durable → is_new durable present ≡ true
new-where durable present some differs = grind (arith, nat_tests)

module _ (durable present : List (List ℕ)) (f k : ℕ) where
  -- a fresh number is that of a block
  pub fresh-some : is_fresh durable present f k ≡ true → number_at present f k ≢ 0
  fresh-some fresh = new-some (number_at durable f k) (number_at present f k) fresh

  -- and not the durable one at its place
  pub fresh-differs : is_fresh durable present f k ≡ true → number_at present f k ≢ number_at durable f k
  fresh-differs fresh = new-differs (number_at durable f k) (number_at present f k) fresh

  -- and each such number is a fresh one
  pub fresh-where : number_at present f k ≢ 0 → number_at present f k ≢ number_at durable f k → is_fresh durable present f k ≡ true
  fresh-where some differs = new-where (number_at durable f k) (number_at present f k) some differs

-- ---- a file's present numbers become durable

-- fresh numbers stay apart from all others
pub apart-stored : (durable present : List (List ℕ)) (f0 : ℕ) → AreApart durable present → AreApart (with_present durable present f0) present
apart-stored durable present f0 apart =
    let stored : List (List ℕ) = with_present durable present f0 in
    let was_fresh : (f k : ℕ) → is_fresh stored present f k ≡ true → is_fresh durable present f k ≡ true
    = λ f k fresh.
    let differs = fresh-differs stored present f k fresh in
    elim (present-either durable present f0 f) [
      | inl same ↦ fresh-where durable present f k (fresh-some stored present f k fresh) (λ e. differs (e ∙ sym (same k)))
      | inr own ↦ absurd (differs (sym (own.1 k)))
    ] in
    record {
      not_durable = λ f k fresh g j is. elim (present-either durable present f0 g) [
        | inl same ↦ apart.not_durable f k (was_fresh f k fresh) g j (sym (same j) ∙ is)
        | inr own ↦
            let place = apart.once f k g j (was_fresh f k fresh) (sym (own.1 j) ∙ is) in
            fresh-differs stored present f k fresh (sym is ∙ (λ i. number_at stored (place.0 i) (place.1 i)))
      ];
      once = λ f k g j fresh is. apart.once f k g j (was_fresh f k fresh) is;
    }

-- ---- numbers are given up

-- Each number is as it was, or 0 at a place where the present one is 0.
pub record AreFewer (durable present new_durable new_present : List (List ℕ)) : Type 0 where
  pub present_stays : (f k : ℕ) → (number_at new_present f k ≡ number_at present f k) ⊎ (number_at new_present f k ≡ 0)
  pub durable_stays : (f k : ℕ) → (number_at new_durable f k ≡ number_at durable f k) ⊎ ((number_at new_durable f k ≡ 0) × (number_at new_present f k ≡ 0))

-- fresh numbers stay apart from all others
pub apart-fewer : (durable present new_durable new_present : List (List ℕ)) → AreFewer durable present new_durable new_present → AreApart durable present → AreApart new_durable new_present
apart-fewer durable present new_durable new_present fewer apart =
    let stays : (f k : ℕ) → number_at new_present f k ≢ 0 → number_at new_present f k ≡ number_at present f k
    = λ f k some. elim (fewer.present_stays f k) [ inl same ↦ same | inr gone ↦ absurd (some gone) ] in
    let was_fresh : (f k : ℕ) → is_fresh new_durable new_present f k ≡ true → is_fresh durable present f k ≡ true
    = λ f k fresh.
    let some = fresh-some new_durable new_present f k fresh in
    let same = stays f k some in
    elim (fewer.durable_stays f k) [
      | inl is ↦ fresh-where durable present f k (λ z. some (same ∙ z)) (λ e. fresh-differs new_durable new_present f k fresh (same ∙ e ∙ sym is))
      | inr gone ↦ absurd (some gone.1)
    ] in
    record {
      not_durable = λ f k fresh g j is.
          let some = fresh-some new_durable new_present f k fresh in
          elim (fewer.durable_stays g j) [
            | inl same ↦ apart.not_durable f k (was_fresh f k fresh) g j (sym same ∙ is ∙ stays f k some)
            | inr gone ↦ some (sym is ∙ gone.0)
          ];
      once = λ f k g j fresh is.
          let some = fresh-some new_durable new_present f k fresh in
          apart.once f k g j (was_fresh f k fresh) (sym (stays g j (λ z. some (sym is ∙ z))) ∙ is ∙ stays f k some);
    }

-- the same where one present number becomes 0
pub apart-zero : (durable present : List (List ℕ)) (f k : ℕ) → AreApart durable present → AreApart durable (with_number present f k 0)
apart-zero durable present f k = apart-fewer durable present durable (with_number present f k 0) (record {
  present_stays = λ g j. elim (number-either present f k 0 g j) [ inl same ↦ inl same | inr here ↦ inr here.2 ];
  durable_stays = λ g j. inl refl;
})
