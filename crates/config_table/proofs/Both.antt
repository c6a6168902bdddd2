-- What two parts that were read give, beside their readings.
use Rattle.std.specs.Prelude.{IfOk}
use Rattle.std.proofs.Common.{◌≡◌, ◌⊎◌, inl, inr, Result, Ok, Err, refl, sym}
use Rattle.table_model.specs.declared.errors.TableError.{TableError}
use Rattle.table_model.specs.declared.errors.TableError.TheVariants.{TooLong, NotToml, UnknownKey, MissingKey, WrongKind, BadName, OutOfRange, Repeated, UnknownName, VolumeOverfull, ImageTooLarge, OutOfMemory}
use Rattle.table_model.specs.Reading.{and_also, lesser}
use Rattle.config_table.specs.Gives.{Gives, Fails}

pub Fails-is : {Y : Type 0} (f : TableError) (read : Result Y TableError) → read ≡ Err f → Fails f read
Fails-is OutOfMemory read e = tt
Fails-is TooLong read e = e
Fails-is NotToml read e = e
Fails-is UnknownKey read e = e
Fails-is MissingKey read e = e
Fails-is WrongKind read e = e
Fails-is BadName read e = e
Fails-is OutOfRange read e = e
Fails-is Repeated read e = e
Fails-is UnknownName read e = e
Fails-is VolumeOverfull read e = e
Fails-is ImageTooLarge read e = e

-- a refusal other than out of memory
abbrev pub IsKnown : TableError → Type 0
IsKnown OutOfMemory = ⊥
IsKnown _ = Unit {0}

pub Fails-known : {Y : Type 0} (f : TableError) (read : Result Y TableError) → IsKnown f → Fails f read → read ≡ Err f
Fails-known OutOfMemory read h e = absurd h
Fails-known TooLong read h e = e
Fails-known NotToml read h e = e
Fails-known UnknownKey read h e = e
Fails-known MissingKey read h e = e
Fails-known WrongKind read h e = e
Fails-known BadName read h e = e
Fails-known OutOfRange read h e = e
Fails-known Repeated read h e = e
Fails-known UnknownName read h e = e
Fails-known VolumeOverfull read h e = e
Fails-known ImageTooLarge read h e = e

pub known_or_memory : (f : TableError) → (f ≡ OutOfMemory) ⊎ IsKnown f
known_or_memory OutOfMemory = inl refl
known_or_memory TooLong = inr tt
known_or_memory NotToml = inr tt
known_or_memory UnknownKey = inr tt
known_or_memory MissingKey = inr tt
known_or_memory WrongKind = inr tt
known_or_memory BadName = inr tt
known_or_memory OutOfRange = inr tt
known_or_memory Repeated = inr tt
known_or_memory UnknownName = inr tt
known_or_memory VolumeOverfull = inr tt
known_or_memory ImageTooLarge = inr tt

lesser_memory : (f : TableError) → lesser f OutOfMemory ≡ OutOfMemory
lesser_memory OutOfMemory = refl
lesser_memory TooLong = refl
lesser_memory NotToml = refl
lesser_memory UnknownKey = refl
lesser_memory MissingKey = refl
lesser_memory WrongKind = refl
lesser_memory BadName = refl
lesser_memory OutOfRange = refl
lesser_memory Repeated = refl
lesser_memory UnknownName = refl
lesser_memory VolumeOverfull = refl
lesser_memory ImageTooLarge = refl

memory_lesser : (f : TableError) → lesser OutOfMemory f ≡ OutOfMemory
memory_lesser OutOfMemory = refl
memory_lesser TooLong = refl
memory_lesser NotToml = refl
memory_lesser UnknownKey = refl
memory_lesser MissingKey = refl
memory_lesser WrongKind = refl
memory_lesser BadName = refl
memory_lesser OutOfRange = refl
memory_lesser Repeated = refl
memory_lesser UnknownName = refl
memory_lesser VolumeOverfull = refl
memory_lesser ImageTooLarge = refl

both_fail : {A B : Type 0} (f g : TableError) (read_a : Result A TableError) (read_b : Result B TableError) → Fails f read_a → Fails g read_b → Fails (lesser f g) (and_also read_a read_b)
both_fail f g read_a read_b ha hb =
    elim (known_or_memory f) [
      | inl memory ↦ rw (memory, memory_lesser g) tt
      | inr known_f ↦
          elim (known_or_memory g) [
            | inl memory ↦ rw (memory, lesser_memory f) tt
            | inr known_g ↦
                Fails-is (lesser f g) (and_also read_a read_b) (rw (Fails-known f read_a known_f ha, Fails-known g read_b known_g hb) refl)
          ]
    ]

first_fails : {A B : Type 0} (f : TableError) (read_a : Result A TableError) (b : B) → Fails f read_a → Fails f (and_also read_a (Ok b))
first_fails f read_a b h =
    elim (known_or_memory f) [
      | inl memory ↦ rw memory tt
      | inr known ↦ Fails-is f (and_also read_a (Ok b)) (rw (Fails-known f read_a known h) refl)
    ]

second_fails : {A B : Type 0} (f : TableError) (a : A) (read_b : Result B TableError) → Fails f read_b → Fails f (and_also (Ok a) read_b)
second_fails f a read_b h =
    elim (known_or_memory f) [
      | inl memory ↦ rw memory tt
      | inr known ↦ Fails-is f (and_also (Ok a) read_b) (rw (Fails-known f read_b known h) refl)
    ]

pub both_give : {A B X Y : Type 0} (view_a : A → X) (view_b : B → Y) (a : Result A TableError) (b : Result B TableError) (read_a : Result X TableError) (read_b : Result Y TableError)
    → Gives view_a a read_a → Gives view_b b read_b → Gives (λ x. (view_a x.0, view_b x.1)) (and_also a b) (and_also read_a read_b)
both_give view_a view_b (Ok a) (Ok b) read_a read_b ha hb = rw (ha, hb) refl
both_give view_a view_b (Ok a) (Err g) read_a read_b ha hb = rw ha (second_fails g (view_a a) read_b hb)
both_give view_a view_b (Err f) (Ok b) read_a read_b ha hb = rw hb (first_fails f read_a (view_b b) ha)
both_give view_a view_b (Err f) (Err g) read_a read_b ha hb = both_fail f g read_a read_b ha hb

-- what is exactly the reading gives it
pub exactly : {X : Type 0} (r read : Result X TableError) → r ≡ read → Gives (λ x. x) r read
exactly (Ok x) read e = sym e
exactly (Err f) read e = Fails-is f read (sym e)

-- what holds of each of two parts holds of both
pub also_ok : {A B : Type 0} (a : Result A TableError) (b : Result B TableError) (P : A → Type 0) (Q : B → Type 0) (R : A × B → Type 0) → ((x : A) (y : B) → P x → Q y → R (x, y))
    → IfOk a P → IfOk b Q → IfOk (and_also a b) R
also_ok (Ok x) (Ok y) P Q R make p q = make x y p q
also_ok (Ok x) (Err g) P Q R make p q = tt
also_ok (Err f) (Ok y) P Q R make p q = tt
also_ok (Err f) (Err g) P Q R make p q = tt
