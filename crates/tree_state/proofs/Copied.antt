-- One size more of those that were copied.
use Rattle.std.proofs.Common.{◌≡◌, inl, inr, ℕ, zero, suc, ◌+◌, ◌<◌, ◌≤◌, List, [], ◌∷◌, ◌++◌, length, refl, sym, ap, subst, ◌∙◌, None, arith, length-append}
use Rattle.std.specs.Prelude.{slice_index_or}
use Rattle.std.proofs.lemmas.Bool.{cases_lt}
use Rattle.file_tree.specs.Entries.{TreeValue, slot, stored_of}
use Rattle.present_files.specs.Present.{never_changed}
use Rattle.present_files.specs.declared.present.PresentSize.{PresentSize}
use Rattle.tree_state.specs.Mounted.{AreStoredSizes, stored_size}

front-stays : (xs : List PresentSize) (x d : PresentSize) (k : ℕ) → k < length xs → slice_index_or (xs ++ x ∷ []) k d ≡ slice_index_or xs k d
front-stays [] x d k low = absurd (let e : k < 0 = low in omega (arith, e))
front-stays (y ∷ xs) x d zero low = refl
front-stays (y ∷ xs) x d (suc k) low = front-stays xs x d k (let e : suc k < suc (length xs) = low in omega (arith, e))

last-there : (xs : List PresentSize) (x d : PresentSize) → slice_index_or (xs ++ x ∷ []) (length xs) d ≡ x
last-there [] x d = refl
last-there (y ∷ xs) x d = last-there xs x d

pub no-sizes : (v : TreeValue) → AreStoredSizes v 0 []
no-sizes v = record {
  many = refl;
  stored = λ f low. absurd (omega (arith, low));
  short = λ f low. absurd (omega (arith, low));
  counted = λ f low. absurd (omega (arith, low));
  unused = λ f low. absurd (omega (arith, low));
}

pub one-size : (v : TreeValue) (count : ℕ) (sizes : List PresentSize) (one : PresentSize) → AreStoredSizes v count sizes → one ≡ stored_size v count → (stored_of v count).0 ≤ 1048576
    → (stored_of v count).1 ≤ 4294967295 → (slot v.files count ≡ None → stored_of v count ≡ (0, 0)) → AreStoredSizes v (count + 1) (sizes ++ one ∷ [])
one-size v count sizes one are is short counted unused = record {
  many = length-append sizes (one ∷ []) ∙ ap (λ n. n + 1) are.many;
  stored = λ f low. elim (cases_lt f count) [
    | inl less ↦ front-stays sizes one never_changed f (omega (arith, less, are.many)) ∙ are.stored f less
    | inr last ↦
        let same : f ≡ count = omega (arith, low, last) in
        let place : f ≡ length sizes = omega (arith, same, are.many) in
        ap (λ n. slice_index_or (sizes ++ one ∷ []) n never_changed) place ∙ last-there sizes one never_changed ∙ is ∙ ap (stored_size v) (sym same)
  ];
  short = λ f low. elim (cases_lt f count) [
    | inl less ↦ are.short f less
    | inr last ↦ let same : count ≡ f = omega (arith, low, last) in subst (λ n. (stored_of v n).0 ≤ 1048576) same short
  ];
  counted = λ f low. elim (cases_lt f count) [
    | inl less ↦ are.counted f less
    | inr last ↦ let same : count ≡ f = omega (arith, low, last) in subst (λ n. (stored_of v n).1 ≤ 4294967295) same counted
  ];
  unused = λ f low. elim (cases_lt f count) [
    | inl less ↦ are.unused f less
    | inr last ↦ let same : count ≡ f = omega (arith, low, last) in subst (λ n. slot v.files n ≡ None → stored_of v n ≡ (0, 0)) same unused
  ];
}
