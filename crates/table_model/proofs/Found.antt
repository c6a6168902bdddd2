-- Values found for each item of a list.
use Rattle.std.proofs.Common.{◌≡◌, ◌<◌, ℕ, suc, Bool, true, false, not, ◌||◌, cond, ltb, List, [], ◌∷◌, ◌++◌, length, get_or, Option, Some, None, refl, sym, ap, subst, ◌∙◌, arith}
use Rattle.std.specs.Prelude.{position}
use Rattle.std.specs.Option.{option_map, option_and_then}
use Rattle.std.specs.List.{list_any, list_all, position_or_len}
use Rattle.std.proofs.lemmas.Bool.{and_parts}
use Rattle.std.proofs.lemmas.Bool.Decides.{nat_tests}
use Rattle.std.proofs.lemmas.List.Sums.{passes_at_first}
use Rattle.apex_model.specs.Accepted.{all_differ}
use Rattle.table_model.specs.Table.{all_of}

pub and_then_some : {A B : Type 0} (o : Option A) (g : A → Option B) (z : B) → option_and_then g o ≡ Some z → (x : A) × (o ≡ Some x) × (g x ≡ Some z)
and_then_some None g z h = absurd (let e : ◌≡◌ {A = Option _} None (Some z) = h in cc)
and_then_some (Some x) g z h = (x, refl, h)

pub map_some : {A B : Type 0} (o : Option A) (g : A → B) (z : B) → option_map g o ≡ Some z → (x : A) × (o ≡ Some x) × (g x ≡ z)
map_some None g z h = absurd (let e : ◌≡◌ {A = Option _} None (Some z) = h in cc)
map_some (Some x) g z h = let e : g x ≡ z = cc in (x, refl, e)

-- the first item's value and the others'
pub first_found : {A B : Type 0} (f : A → Option B) (x : A) (xs : List A) (zs : List B) → all_of f (x ∷ xs) ≡ Some zs → (y : B) × (ys : List B) × (f x ≡ Some y) × (all_of f xs ≡ Some ys) × (y ∷ ys ≡ zs)
first_found f x xs zs h =
    let a = and_then_some (f x) (λ y. option_map (λ ys. y ∷ ys) (all_of f xs)) zs h in
    let b = map_some (all_of f xs) (λ ys. a.0 ∷ ys) zs a.2 in
    (a.0, b.0, a.1, b.1, b.2)

abbrev nothing : {B : Type 0} → Option (List B)
nothing = Some []

none_found : {B : Type 0} (zs : List B) → nothing ≡ Some zs → [] ≡ zs
none_found zs h = cc

pub all_kept : {A B : Type 0} (f : A → Option B) (P : A → Bool) (Q : B → Bool) → ((x : A) (y : B) → f x ≡ Some y → P x ≡ true → Q y ≡ true) → (xs : List A) (zs : List B) → all_of f xs ≡ Some zs → list_all P xs ≡ true → list_all Q zs ≡ true
all_kept f P Q keeps [] zs h p = subst (λ ys. list_all Q ys ≡ true) (none_found zs h) refl
all_kept f P Q keeps (x ∷ xs) zs h p =
    let a = first_found f x xs zs h in
    let q = and_parts (P x) (list_all P xs) p in
    let here = keeps x a.0 a.2 q.0 in
    let there = all_kept f P Q keeps xs a.1 a.3 q.1 in
    subst (λ ys. list_all Q ys ≡ true) a.4 (rw (here, there) refl)

pub same_length : {A B : Type 0} (f : A → Option B) (xs : List A) (zs : List B) → all_of f xs ≡ Some zs → length zs ≡ length xs
same_length f [] zs h = subst (λ ys. length ys ≡ 0) (none_found zs h) refl
same_length f (x ∷ xs) zs h =
    let a = first_found f x xs zs h in
    subst (λ ys. length ys ≡ suc (length xs)) a.4 (ap suc (same_length f xs a.1 a.3))

pub found-append : {A B : Type 0} (f : A → Option B) (xs ws : List A) (ys zs : List B) → all_of f xs ≡ Some ys → all_of f ws ≡ Some zs → all_of f (xs ++ ws) ≡ Some (ys ++ zs)
found-append f [] ws ys zs h k = subst (λ us. all_of f ws ≡ Some (us ++ zs)) (none_found ys h) k
found-append f (x ∷ xs) ws ys zs h k =
    let a = first_found f x xs ys h in
    let rest = found-append f xs ws a.1 zs a.3 k in
    subst (λ us. all_of f ((x ∷ xs) ++ ws) ≡ Some (us ++ zs)) a.4 (rw (a.2, rest) refl)

-- items that differ have values that differ
or_parts : (b c : Bool) → (b || c) ≡ false → (b ≡ false) × (c ≡ false)
or_parts true c h = absurd cc
or_parts false c h = (refl, h)

not_true : (b : Bool) → not b ≡ true → b ≡ false
not_true true h = absurd cc
not_true false h = refl

none_same : {A B : Type 0} (f : A → Option B) (same : A → A → Bool) (same_value : B → B → Bool) → ((x v : A) (y w : B) → f x ≡ Some y → f v ≡ Some w → same x v ≡ false → same_value y w ≡ false)
    → (x : A) (y : B) → f x ≡ Some y → (xs : List A) (zs : List B) → all_of f xs ≡ Some zs → list_any (same x) xs ≡ false → list_any (same_value y) zs ≡ false
none_same f same same_value apart x y found [] zs h p = subst (λ ys. list_any (same_value y) ys ≡ false) (none_found zs h) refl
none_same f same same_value apart x y found (v ∷ xs) zs h p =
    let a = first_found f v xs zs h in
    let q = or_parts (same x v) (list_any (same x) xs) p in
    let here = apart x v y a.0 found a.2 q.0 in
    let there = none_same f same same_value apart x y found xs a.1 a.3 q.1 in
    subst (λ ys. list_any (same_value y) ys ≡ false) a.4 (rw (here, there) refl)

pub differ_still : {A B : Type 0} (f : A → Option B) (same : A → A → Bool) (same_value : B → B → Bool) → ((x v : A) (y w : B) → f x ≡ Some y → f v ≡ Some w → same x v ≡ false → same_value y w ≡ false)
    → (xs : List A) (zs : List B) → all_of f xs ≡ Some zs → all_differ same xs ≡ true → all_differ same_value zs ≡ true
differ_still f same same_value apart [] zs h p = subst (λ ys. all_differ same_value ys ≡ true) (none_found zs h) refl
differ_still f same same_value apart (x ∷ xs) zs h p =
    let a = first_found f x xs zs h in
    let q = and_parts (not (list_any (same x) xs)) (all_differ same xs) p in
    let here = none_same f same same_value apart x a.0 a.2 xs a.1 a.3 (not_true (list_any (same x) xs) q.0) in
    let there = differ_still f same same_value apart xs a.1 a.3 q.1 in
    subst (λ ys. all_differ same_value ys ≡ true) a.4 (rw (here, there) refl)

-- ---- places

is_lt : (m n : ℕ) → ltb m n ≡ true → m < n
is_lt m n h = grind (arith, nat_tests)

placed : {X : Type 0} (p : X → Bool) (xs : List X) (d : X) (i place : ℕ) (b : Bool) → ltb place (length xs) ≡ b → place ≡ position_or_len p xs → cond b (Some place) None ≡ Some i → (i < length xs) × (p (get_or xs i d) ≡ true)
placed p xs d i place true lt is h =
    let e : place ≡ i = cc in
    let in_range = is_lt place (length xs) lt in
    let first : position_or_len p xs < length xs = omega arith in
    let passes = passes_at_first p xs d first in
    let same : position_or_len p xs ≡ i = sym is ∙ e in
    (omega arith, subst (λ k. p (get_or xs k d) ≡ true) same passes)
placed p xs d i place false lt is h = absurd (let e : ◌≡◌ {A = Option _} None (Some i) = h in cc)

pub position_is : {X : Type 0} (p : X → Bool) (xs : List X) (d : X) (i : ℕ) → position p xs ≡ Some i → (i < length xs) × (p (get_or xs i d) ≡ true)
position_is p xs d i h = placed p xs d i (position_or_len p xs) (ltb (position_or_len p xs) (length xs)) refl refl h
