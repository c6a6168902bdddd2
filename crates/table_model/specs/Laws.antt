-- What is proved of tables.
use Rattle.std.specs.Prelude.{◌≡◌, ◌≤◌, ◌≢◌, ℕ, Bool, true, ◌&&◌, nat_le, List, length, slice_get, codes, Some, Ok}
use Rattle.std.specs.List.{list_all}
use Rattle.apex_types.specs.Rows.{Rows}
use Rattle.apex_types.specs.declared.rows.PartitionRow.{PartitionRow}
use Rattle.apex_model.specs.Accepted.{IsAccepted}
use Rattle.apex_model.specs.TableBytes.{table_bytes}
use Rattle.toml.specs.Data.{Members}
use Rattle.table_model.specs.Reading.{table_from}
use Rattle.table_model.specs.Table.{table_of, table_of_document}

-- the table that a text says is accepted
abbrev pub TablesAreAccepted : Type 0
TablesAreAccepted = (bytes : List ℕ) (rows : Rows) → table_of bytes ≡ Ok rows → IsAccepted rows

-- reading the rows one after the other, with the least refusal of all places, gives what the conditions on the whole document give
abbrev pub ReadingIsTheTable : Type 0
ReadingIsTheTable = (top : Members) → table_from top ≡ table_of_document top

-- two accepted tables with the same canonical bytes are the same
abbrev pub BytesTellTables : Type 0
BytesTellTables = (a b : Rows) → IsAccepted a → IsAccepted b → table_bytes a ≡ table_bytes b → a ≡ b

-- a byte that a word of a script may hold: printable ASCII without the space
abbrev pub is_word_byte : ℕ → Bool
is_word_byte b = nat_le 33 b && nat_le b 126

-- what a script needs of the partitions: few enough, each name a word of its own other than the word of ticks
pub record IsReadyForScripts (rows : Rows) : Type 0 where
  pub some : 1 ≤ length rows.partitions
  pub few : length rows.partitions ≤ 16
  pub words : (p : ℕ) (row : PartitionRow) → slice_get rows.partitions p ≡ Some row → (1 ≤ length row.name) × (length row.name ≤ 24) × (list_all is_word_byte row.name ≡ true)
  pub no_ticks : (p : ℕ) (row : PartitionRow) → slice_get rows.partitions p ≡ Some row → row.name ≢ codes "TICK"
  pub differ : (p q : ℕ) (row other : PartitionRow) → slice_get rows.partitions p ≡ Some row → slice_get rows.partitions q ≡ Some other → row.name ≡ other.name → p ≡ q

-- an accepted table is ready for scripts
abbrev pub AcceptedAreReady : Type 0
AcceptedAreReady = (rows : Rows) → IsAccepted rows → IsReadyForScripts rows
