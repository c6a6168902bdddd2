-- The keys of a table, beside its members.
use Rattle.std.proofs.Common.{◌≡◌, ℕ, ◌&&◌, Bool, List, [], ◌∷◌, map, String, Global, string_bytes, bytes_eq, refl, ap, Bor, ◌||◌}
use Rattle.std.specs.List.{list_any, list_all}
use Rattle.std.specs.Map.{keys_of}
use Rattle.toml.specs.declared.value.Value.{Value}
use Rattle.toml.specs.View.{members_view}
use Rattle.table_model.specs.Document.{has_only}

pub list_any_now : (test : List ℕ → Bool) (xs : List (Bor (List ℕ))) → list_any test (map (λ x. x.now) xs) ≡ list_any (λ x. test x.now) xs
list_any_now test [] = refl
list_any_now test (x ∷ xs) = ap (λ (b : Bool). test x.now || b) (list_any_now test xs)

pub has_only_keys : (keys : List (List ℕ)) (es : List (String Global × Value)) → has_only keys (members_view es) ≡ list_all (λ k. list_any (λ key. bytes_eq (string_bytes k) key) keys) (keys_of es)
has_only_keys keys [] = refl
has_only_keys keys (e ∷ es) = ap (λ (b : Bool). list_any (λ key. bytes_eq (string_bytes e.0) key) keys && b) (has_only_keys keys es)

pub list_any_map : {A : Type 0} (f : A → List ℕ) (test : List ℕ → Bool) (xs : List A) → list_any test (map f xs) ≡ list_any (λ x. test (f x)) xs
list_any_map f test [] = refl
list_any_map f test (x ∷ xs) = ap (λ (b : Bool). test (f x) || b) (list_any_map f test xs)
