-- The rows of a document read one after the other, with the least refusal of all places.
use Rattle.std.specs.Prelude.{ℕ, ℤ, pos, negsuc, Bool, nat_le, if◌then◌else◌, List, [], ◌∷◌, ◌++◌, length, map, codes, Option, Some, None, Result, Ok, Err}
use Rattle.toml.specs.Data.{Data, Members, get_member, as_str, as_integer, as_array, as_table}
use Rattle.apex_types.specs.Naming.{is_table_name}
use Rattle.apex_types.specs.declared.rows.PartitionRow.{PartitionRow}
use Rattle.apex_types.specs.declared.rows.VolumeRow.{VolumeRow}
use Rattle.apex_model.specs.Accepted.{is_within}
use Rattle.apex_types.specs.Rows.{Rows}
use Rattle.table_model.specs.Errors.{order}
use Rattle.table_model.specs.Table.{table_of_written}
use Rattle.table_model.specs.Document.{is_partition_name, is_port, port_of, Key, partition_keys, volume_keys, tree_keys, logbook_keys, channel_keys, sections, elements, has_only, Written}
use Rattle.table_model.specs.declared.errors.TableError.{TableError}
use Rattle.table_model.specs.declared.errors.TableError.TheVariants.{UnknownKey, MissingKey, WrongKind, BadName, OutOfRange}
use Rattle.table_model.specs.declared.written.WrittenPort.{WrittenPort}
use Rattle.table_model.specs.declared.written.WrittenTree.{WrittenTree}
use Rattle.table_model.specs.declared.written.WrittenLogbook.{WrittenLogbook}
use Rattle.table_model.specs.declared.written.WrittenChannel.{WrittenChannel}

-- what follows on a value that was read
infixl 10 ◌>>=◌
abbrev pub ◌>>=◌ : {A B : Type 0} → Result A TableError → (A → Result B TableError) → Result B TableError
(Ok x) >>= f = f x
(Err e) >>= f = Err e

-- what is made of a value that was read
abbrev pub made : {A B : Type 0} → (A → B) → Result A TableError → Result B TableError
made make r = r >>= λ x. Ok (make x)

-- of two refusals the one that counts
abbrev pub lesser : TableError → TableError → TableError
lesser e f = if nat_le (order e) (order f) then e else f

-- two parts that were read, or the refusal that counts
abbrev pub and_also : {A B : Type 0} → Result A TableError → Result B TableError → Result (A × B) TableError
and_also (Ok a) (Ok b) = Ok (a, b)
and_also (Ok a) (Err f) = Err f
and_also (Err e) (Ok b) = Err e
and_also (Err e) (Err f) = Err (lesser e f)

-- the value, or this error where there is none
abbrev pub or_error : {A : Type 0} → TableError → Option A → Result A TableError
or_error e None = Err e
or_error e (Some x) = Ok x

-- ---- one value

-- a string that passes a test, as what is made of it
abbrev pub checked : {A : Type 0} → (List ℕ → Bool) → (List ℕ → A) → List ℕ → Result A TableError
checked test make s = if test s then Ok (make s) else Err BadName

abbrev pub text_from : {A : Type 0} → (List ℕ → Bool) → (List ℕ → A) → Data → Result A TableError
text_from test make d = or_error WrongKind (as_str d) >>= checked test make

abbrev pub text_read : {A : Type 0} → (List ℕ → Bool) → (List ℕ → A) → List ℕ → Members → Result A TableError
text_read test make key ms = or_error MissingKey (get_member key ms) >>= text_from test make

abbrev pub itself : List ℕ → List ℕ
itself s = s

abbrev pub name_from : Data → Result (List ℕ) TableError
name_from d = text_from is_table_name itself d

abbrev pub name_read : List ℕ → Members → Result (List ℕ) TableError
name_read key ms = text_read is_table_name itself key ms

abbrev pub port_from : Data → Result WrittenPort TableError
port_from d = text_from is_port port_of d

abbrev pub port_read : List ℕ → Members → Result WrittenPort TableError
port_read key ms = text_read is_port port_of key ms

-- an integer within bounds
abbrev pub number_within : ℕ → ℕ → ℤ → Result ℕ TableError
number_within lowest highest (pos n) = if is_within lowest highest n then Ok n else Err OutOfRange
number_within lowest highest (negsuc n) = Err OutOfRange

abbrev pub number_from : ℕ → ℕ → Data → Result ℕ TableError
number_from lowest highest d = or_error WrongKind (as_integer d) >>= number_within lowest highest

abbrev pub number_read : List ℕ → ℕ → ℕ → Members → Result ℕ TableError
number_read key lowest highest ms = or_error MissingKey (get_member key ms) >>= number_from lowest highest

-- ---- a list

-- one more item, or the least refusal so far
abbrev pub with_item : {R : Type 0} → Result (List R) TableError → Result R TableError → Result (List R) TableError
with_item (Ok rows) (Ok row) = Ok (rows ++ row ∷ [])
with_item (Ok rows) (Err f) = Err f
with_item (Err e) (Ok row) = Err e
with_item (Err e) (Err f) = Err (lesser e f)

abbrev pub read_each : {R : Type 0} → (Data → Result R TableError) → Result (List R) TableError → List Data → Result (List R) TableError
read_each read so_far [] = so_far
read_each read so_far (d ∷ ds) = read_each read (with_item so_far (read d)) ds

-- a list of so many items
abbrev pub few_items : {R : Type 0} → ℕ → ℕ → List R → Result (List R) TableError
few_items lowest highest rows = if is_within lowest highest (length rows) then Ok rows else Err OutOfRange

abbrev pub list_from : {R : Type 0} → (Data → Result R TableError) → ℕ → ℕ → Data → Result (List R) TableError
list_from read lowest highest d = or_error WrongKind (as_array d) >>= λ ds. read_each read (Ok []) (elements ds) >>= few_items lowest highest

-- the list at a key that must be there, and at one that may be left out
abbrev pub needed_list : {R : Type 0} → (Data → Result R TableError) → ℕ → ℕ → Option Data → Result (List R) TableError
needed_list read lowest highest o = or_error MissingKey o >>= list_from read lowest highest

abbrev pub optional_list : {R : Type 0} → (Data → Result R TableError) → ℕ → ℕ → Option Data → Result (List R) TableError
optional_list read lowest highest None = Ok []
optional_list read lowest highest (Some d) = list_from read lowest highest d

-- ---- one row

-- a part of a table that has no keys but these
abbrev pub with_only : {A : Type 0} → List (List ℕ) → Members → Result A TableError → Result A TableError
with_only known ms read = if has_only known ms then read else Err UnknownKey

abbrev pub names_of : List Key → List (List ℕ)
names_of keys = map (λ key. key.name) keys

unfoldable pub partition_from : Members → Result PartitionRow TableError
partition_from ms = with_only (names_of partition_keys) ms (text_read is_partition_name itself (codes "name") ms >>= λ name. Ok (record { name = name }))

unfoldable pub volume_from : Members → Result VolumeRow TableError
volume_from ms =
    with_only (names_of volume_keys) ms
    (and_also (name_read (codes "name") ms) (number_read (codes "blocks") 1 131072 ms) >>= λ x. Ok (record { name = x.0; blocks = x.1 }))

-- where a tree stands and who uses it, and how large it is
unfoldable pub tree_users : Members → Result (List ℕ × (List ℕ × List (List ℕ))) TableError
tree_users ms =
    and_also (name_read (codes "volume") ms) (and_also (name_read (codes "owner") ms) (optional_list name_from 0 15 (get_member (codes "readers") ms)))

unfoldable pub tree_sizes : Members → Result ((ℕ × ℕ) × (ℕ × ℕ)) TableError
tree_sizes ms =
    and_also (and_also (number_read (codes "quota") 1 4096 ms) (number_read (codes "files") 1 64 ms))
    (and_also (number_read (codes "directories") 0 32 ms) (number_read (codes "dirty") 16 48 ms))

abbrev pub tree_of : (List ℕ × (List ℕ × List (List ℕ))) × ((ℕ × ℕ) × (ℕ × ℕ)) → WrittenTree
tree_of x = record {
  volume = x.0.0;
  owner = x.0.1.0;
  readers = x.0.1.1;
  quota = x.1.0.0;
  files = x.1.0.1;
  directories = x.1.1.0;
  dirty = x.1.1.1;
}

unfoldable pub tree_from : Members → Result WrittenTree TableError
tree_from ms = with_only (names_of tree_keys) ms (made tree_of (and_also (tree_users ms) (tree_sizes ms)))

unfoldable pub logbook_names : Members → Result (List ℕ × List ℕ) TableError
logbook_names ms = and_also (name_read (codes "name") ms) (name_read (codes "partition") ms)

unfoldable pub logbook_sizes : Members → Result (ℕ × (ℕ × ℕ)) TableError
logbook_sizes ms =
    and_also (number_read (codes "message_size") 1 480 ms) (and_also (number_read (codes "logged") 1 256 ms) (number_read (codes "in_progress") 1 16 ms))

abbrev pub logbook_of : (List ℕ × List ℕ) × (ℕ × (ℕ × ℕ)) → WrittenLogbook
logbook_of x = record {
  name = x.0.0;
  partition = x.0.1;
  message_size = x.1.0;
  logged = x.1.1.0;
  in_progress = x.1.1.1;
}

unfoldable pub logbook_from : Members → Result WrittenLogbook TableError
logbook_from ms = with_only (names_of logbook_keys) ms (made logbook_of (and_also (logbook_names ms) (logbook_sizes ms)))

unfoldable pub channel_ends : Members → Result (WrittenPort × List WrittenPort) TableError
channel_ends ms = and_also (port_read (codes "source") ms) (needed_list port_from 1 8 (get_member (codes "destinations") ms))

unfoldable pub channel_sizes : Members → Result (ℕ × ℕ) TableError
channel_sizes ms = and_also (number_read (codes "size") 1 1024 ms) (number_read (codes "refresh") 1 4294967295 ms)

abbrev pub channel_of : (WrittenPort × List WrittenPort) × (ℕ × ℕ) → WrittenChannel
channel_of x = record {
  source = x.0.0;
  destinations = x.0.1;
  size = x.1.0;
  refresh = x.1.1;
}

unfoldable pub channel_from : Members → Result WrittenChannel TableError
channel_from ms = with_only (names_of channel_keys) ms (made channel_of (and_also (channel_ends ms) (channel_sizes ms)))

-- ---- the document

-- an element of a list of rows, which is to be a table
abbrev pub row_from : {R : Type 0} → (Members → Result R TableError) → Data → Result R TableError
row_from read d = or_error WrongKind (as_table d) >>= read

unfoldable pub named_rows : Members → Result (List PartitionRow × List VolumeRow) TableError
named_rows top = and_also (needed_list (row_from partition_from) 1 16 (get_member (codes "partition") top)) (optional_list (row_from volume_from) 0 8 (get_member (codes "volume") top))

unfoldable pub other_rows : Members → Result (List WrittenTree × (List WrittenLogbook × List WrittenChannel)) TableError
other_rows top =
    and_also (optional_list (row_from tree_from) 0 32 (get_member (codes "tree") top))
    (and_also (optional_list (row_from logbook_from) 0 32 (get_member (codes "logbook") top)) (optional_list (row_from channel_from) 0 32 (get_member (codes "channel") top)))

abbrev pub section_names : List (List ℕ)
section_names = map (λ section. section.key) sections

abbrev pub written_of : (List PartitionRow × List VolumeRow) × (List WrittenTree × (List WrittenLogbook × List WrittenChannel)) → Written
written_of x = record {
  partitions = x.0.0;
  volumes = x.0.1;
  trees = x.1.0;
  logbooks = x.1.1.0;
  channels = x.1.1.1;
}

unfoldable pub document_from : Members → Result Written TableError
document_from top = with_only section_names top (made written_of (and_also (named_rows top) (other_rows top)))

-- the table of a document, read part by part
abbrev pub table_from : Members → Result Rows TableError
table_from top = document_from top >>= table_of_written
