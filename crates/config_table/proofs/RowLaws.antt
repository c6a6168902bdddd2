-- The rows with lists inside, by their parts.
use Rattle.std.specs.Prelude.{IfOk}
use Rattle.std.proofs.Common.{◌≡◌, true, false, Result, Ok, Err, refl, inl, inr}
use Rattle.toml.specs.Data.{Members}
use Rattle.table_model.specs.declared.errors.TableError.{TableError}
use Rattle.table_model.specs.declared.errors.TableError.TheVariants.{UnknownKey}
use Rattle.table_model.specs.Document.{tree_keys, channel_keys, has_only}
use Rattle.table_model.specs.Reading.{◌>>=◌, and_also, names_of, section_names, tree_from, tree_users, tree_sizes, tree_of, channel_from, channel_ends, channel_sizes, channel_of, document_from, named_rows, other_rows, written_of}
use Rattle.config_table.specs.Gives.{Gives, Fails}
use Rattle.config_table.proofs.Both.{Fails-is, Fails-known, known_or_memory}

pub tree_is : (ms : Members) → has_only (names_of tree_keys) ms ≡ true → tree_from ms ≡ (and_also (tree_users ms) (tree_sizes ms) >>= λ x. Ok (tree_of x))
unfolding tree_from
tree_is ms h = rw h refl

pub tree_refused : (ms : Members) → has_only (names_of tree_keys) ms ≡ false → tree_from ms ≡ Err UnknownKey
unfolding tree_from
tree_refused ms h = rw h refl

pub channel_is : (ms : Members) → has_only (names_of channel_keys) ms ≡ true → channel_from ms ≡ (and_also (channel_ends ms) (channel_sizes ms) >>= λ x. Ok (channel_of x))
unfolding channel_from
channel_is ms h = rw h refl

pub channel_refused : (ms : Members) → has_only (names_of channel_keys) ms ≡ false → channel_from ms ≡ Err UnknownKey
unfolding channel_from
channel_refused ms h = rw h refl

pub document_is : (ms : Members) → has_only section_names ms ≡ true → document_from ms ≡ (and_also (named_rows ms) (other_rows ms) >>= λ x. Ok (written_of x))
unfolding document_from
document_is ms h = rw h refl

pub document_refused : (ms : Members) → has_only section_names ms ≡ false → document_from ms ≡ Err UnknownKey
unfolding document_from
document_refused ms h = rw h refl

-- a refusal stays one
pub fails_still : {X Y : Type 0} (f : TableError) (read : Result X TableError) (next : X → Result Y TableError) → Fails f read → Fails f (read >>= next)
fails_still f read next h =
    elim (known_or_memory f) [
      | inl memory ↦ rw memory tt
      | inr known ↦ Fails-is f (read >>= next) (rw (Fails-known f read known h) refl)
    ]

-- what is made of what was read
pub made_gives : {X Y V W : Type 0} (view : X → V) (seen : Y → W) (make : X → Y) (makes : V → W) (r : Result X TableError) (read : Result V TableError) → ((x : X) → seen (make x) ≡ makes (view x))
    → Gives view r read → Gives seen (r >>= λ x. Ok (make x)) (read >>= λ x. Ok (makes x))
made_gives view seen make makes (Ok x) read same h = rw (h, same x) refl
made_gives view seen make makes (Err f) read same h = fails_still f read (λ x. Ok (makes x)) h

pub made_ok : {X Y : Type 0} (make : X → Y) (r : Result X TableError) (P : X → Type 0) (Q : Y → Type 0) → ((x : X) → P x → Q (make x)) → IfOk r P → IfOk (r >>= λ x. Ok (make x)) Q
made_ok make (Ok x) P Q keeps h = keeps x h
made_ok make (Err f) P Q keeps h = tt

abbrev read_as : {X : Type 0} → X → Result X TableError
read_as x = Ok x

pub ok_same : {X : Type 0} (x y : X) → read_as x ≡ read_as y → x ≡ y
ok_same x y h = cc
