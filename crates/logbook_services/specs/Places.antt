-- Where the logbooks of a partition stand in the table.
use Rattle.std.specs.Prelude.{ℕ, false, List, Option, ◌==◌, slice_get, position, bytes_eq}
use Rattle.std.specs.Option.{option_map_or}
use Rattle.apex_types.specs.declared.rows.LogbookRow.{LogbookRow}
use Rattle.apex_model.specs.Tables.{numbers_from}

-- the number in the table of the logbook at a place among a partition's, from 0 on
abbrev pub numbered_in : List LogbookRow → ℕ → ℕ → Option ℕ
numbered_in rows p place = slice_get (numbers_from (λ row. row.partition.0 == p) 0 rows) place

-- the place among a partition's logbooks of the first with this name
abbrev pub named_in : List LogbookRow → ℕ → List ℕ → Option ℕ
named_in rows p name = position (λ k. option_map_or (λ row. bytes_eq row.name name) (slice_get rows k) false) (numbers_from (λ row. row.partition.0 == p) 0 rows)
