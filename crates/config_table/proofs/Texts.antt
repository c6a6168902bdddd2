-- The steps from a text to its table.
use Rattle.std.proofs.Common.{◌≡◌, ◌≤◌, ◌<◌, ℕ, Option, true, false, ltb, List, length, Some, None, Err, refl, arith, inl, inr, ◌∙◌, sym}
use Rattle.std.proofs.lemmas.Bool.{cases_Bool}
use Rattle.std.proofs.lemmas.Bool.Decides.{nat_tests}
use Rattle.std.proofs.lemmas.Str.{IsUtf8-from_is_utf8, is_utf8-from_IsUtf8}
use Rattle.std.specs.Str.{IsUtf8, is_utf8}
use Rattle.toml.specs.Data.{Members}
use Rattle.toml.specs.Parse.{parse_document}
use Rattle.apex_types.specs.Rows.{Rows}
use Rattle.table_model.specs.declared.errors.TableError.TheVariants.{TooLong, NotToml, Repeated, UnknownName}
use Rattle.table_model.specs.Document.{Written}
use Rattle.table_model.specs.Table.{has_repeats, rows_from, table_of_rows, table_of_known, table_of_written, table_of_document, table_of}
use Rattle.table_model.specs.Reading.{◌>>=◌, or_error, table_from}
use Rattle.table_model.proofs.Tables.{reading_is_table}

-- ---- rows

pub repeated : (w : Written) → has_repeats w ≡ true → table_of_written w ≡ Err Repeated
unfolding table_of_written
repeated w h = rw h refl

known_or_not : (o : Option Rows) → table_of_known o ≡ (or_error UnknownName o >>= table_of_rows)
known_or_not None = refl
known_or_not (Some rows) = refl

pub not_repeated : (w : Written) → has_repeats w ≡ false → table_of_written w ≡ (or_error UnknownName (rows_from w) >>= table_of_rows)
unfolding table_of_written
not_repeated w h = rw h (known_or_not (rows_from w))

-- ---- text

few_bytes : (n : ℕ) → n ≤ 65536 → ltb 65536 n ≡ false
few_bytes n h = grind (arith, nat_tests)

no_utf8 : (bytes : List ℕ) → (IsUtf8 bytes → ⊥) → is_utf8 bytes ≡ false
no_utf8 bytes h =
    elim (cases_Bool (is_utf8 bytes)) [
      | inl text ↦ absurd (h (IsUtf8-from_is_utf8 bytes text))
      | inr other ↦ other
    ]

pub not_text : (bytes : List ℕ) → length bytes ≤ 65536 → (IsUtf8 bytes → ⊥) → table_of bytes ≡ Err NotToml
unfolding table_of
not_text bytes few h = rw (few_bytes (length bytes) few, no_utf8 bytes h) refl

pub not_toml : (bytes text : List ℕ) → length bytes ≤ 65536 → text ≡ bytes → IsUtf8 bytes → parse_document text ≡ None → table_of bytes ≡ Err NotToml
unfolding table_of
not_toml bytes text few same text_is parsed =
    let p : parse_document bytes ≡ None = rw same at parsed in
    rw (few_bytes (length bytes) few, is_utf8-from_IsUtf8 bytes text_is, p) refl

document_is : (bytes text : List ℕ) (top : Members) → length bytes ≤ 65536 → text ≡ bytes → IsUtf8 bytes → parse_document text ≡ Some top → table_of bytes ≡ table_of_document top
unfolding table_of
document_is bytes text top few same text_is parsed =
    let p : parse_document bytes ≡ Some top = rw same at parsed in
    rw (few_bytes (length bytes) few, is_utf8-from_IsUtf8 bytes text_is, p) refl

pub table_is : (bytes text : List ℕ) (top : Members) → length bytes ≤ 65536 → text ≡ bytes → IsUtf8 bytes → parse_document text ≡ Some top → table_of bytes ≡ table_from top
table_is bytes text top few same text_is parsed = document_is bytes text top few same text_is parsed ∙ sym (reading_is_table top)

over : (n : ℕ) → 65536 < n → ltb 65536 n ≡ true
over n h = grind (arith, nat_tests)

pub too_long : (bytes : List ℕ) → 65536 < length bytes → table_of bytes ≡ Err TooLong
unfolding table_of
too_long bytes h = rw (over (length bytes) h) refl
