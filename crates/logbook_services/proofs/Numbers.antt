-- The numbers of the rows that pass a test, row by row.
use Rattle.std.proofs.Common.{◌≡◌, ◌≢◌, ℕ, ◌+◌, ◌-◌, Bool, true, false, List, ◌∷◌, drop, zero, suc, refl, ap, ◌∙◌, Option, Some, arith}
use Rattle.std.specs.Prelude.{◌==◌, slice_get, position, bytes_eq, if◌then◌else◌}
use Rattle.std.specs.Option.{option_map_or}
use Rattle.std.specs.List.{position_from}
use Rattle.std.proofs.lemmas.Iterator.Adapters.{position_from-zero}
use Rattle.apex_types.specs.declared.rows.LogbookRow.{LogbookRow}
use Rattle.apex_model.specs.Tables.{numbers_from}
use Rattle.logbook_services.proofs.Lists.{drop_at}

module _ {R : Type 0} (test : R → Bool) where
  pub passed : (k : ℕ) (rows : List R) (row : R) → slice_get rows k ≡ Some row → test row ≡ true → numbers_from test k (drop k rows) ≡ k ∷ numbers_from test (k + 1) (drop (k + 1) rows)
  passed k rows row e t =
      ap (numbers_from test k) (drop_at rows k row e) ∙ ap (λ (b : Bool). if b then k ∷ numbers_from test (k + 1) (drop (k + 1) rows) else numbers_from test (k + 1) (drop (k + 1) rows)) t

  pub failed : (k : ℕ) (rows : List R) (row : R) → slice_get rows k ≡ Some row → test row ≡ false → numbers_from test k (drop k rows) ≡ numbers_from test (k + 1) (drop (k + 1) rows)
  failed k rows row e t =
      ap (numbers_from test k) (drop_at rows k row e) ∙ ap (λ (b : Bool). if b then k ∷ numbers_from test (k + 1) (drop (k + 1) rows) else numbers_from test (k + 1) (drop (k + 1) rows)) t

-- the element behind the first
pub behind : (k : ℕ) (rest : List ℕ) (n : ℕ) → n ≢ 0 → slice_get (k ∷ rest) n ≡ slice_get rest (n - 1)
behind k rest zero h = absurd (h refl)
behind k rest (suc n) h = ap (slice_get rest) (omega arith)

-- the search goes on behind a number that doesn't pass
pub searched : (found : ℕ → Bool) (place k : ℕ) (rest : List ℕ) → found k ≡ false → position_from found place (k ∷ rest) ≡ position_from found (place + 1) rest
searched found place k rest t = ap (λ (b : Bool). if b then Some place else position_from found (place + 1) rest) t

pub found_here : (found : ℕ → Bool) (place k : ℕ) (rest : List ℕ) → found k ≡ true → position_from found place (k ∷ rest) ≡ Some place
found_here found place k rest t = ap (λ (b : Bool). if b then Some place else position_from found (place + 1) rest) t

pub from_front : (found : ℕ → Bool) (xs : List ℕ) → position found xs ≡ position_from found 0 xs
from_front found xs = position_from-zero found xs

-- the place of the first of a partition's logbooks with this name, from a number on
abbrev pub named_from : List LogbookRow → ℕ → List ℕ → ℕ → ℕ → Option ℕ
named_from rows p name place k =
    position_from (λ j. option_map_or (λ row. bytes_eq row.name name) (slice_get rows j) false) place (numbers_from (λ row. row.partition.0 == p) k (drop k rows))

module _ (rows : List LogbookRow) (p : ℕ) (name : List ℕ) (place k : ℕ) (row : LogbookRow) (at : slice_get rows k ≡ Some row) where
  abbrev has_name : ℕ → Bool
  has_name j = option_map_or (λ row. bytes_eq row.name name) (slice_get rows j) false

  is-named : (b : Bool) → bytes_eq row.name name ≡ b → has_name k ≡ b
  is-named b e = ap (λ (o : Option LogbookRow). option_map_or (λ row. bytes_eq row.name name) o false) at ∙ e

  here : (row.partition.0 == p) ≡ true → named_from rows p name place k ≡ position_from has_name place (k ∷ numbers_from (λ row. row.partition.0 == p) (k + 1) (drop (k + 1) rows))
  here mine = ap (position_from has_name place) (passed (λ (row : LogbookRow). row.partition.0 == p) k rows row at mine)

  pub named-here : (row.partition.0 == p) ≡ true → bytes_eq row.name name ≡ true → named_from rows p name place k ≡ Some place
  named-here mine e = here mine ∙ found_here has_name place k _ (is-named true e)

  pub named-other : (row.partition.0 == p) ≡ true → bytes_eq row.name name ≡ false → named_from rows p name place k ≡ named_from rows p name (place + 1) (k + 1)
  named-other mine e = here mine ∙ searched has_name place k _ (is-named false e)

  pub named-foreign : (row.partition.0 == p) ≡ false → named_from rows p name place k ≡ named_from rows p name place (k + 1)
  named-foreign foreign = ap (position_from has_name place) (failed (λ (row : LogbookRow). row.partition.0 == p) k rows row at foreign)
