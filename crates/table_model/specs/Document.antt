-- What the document of a module table holds, and which conditions of refusal hold of it.
use Rattle.std.specs.Prelude.{ℕ, ℤ, pos, negsuc, Bool, true, false, not, ◌&&◌, ◌||◌, ◌==◌, List, [], ◌∷◌, length, map, codes, bytes_eq, Option, Some, None, unwrap_or}
use Rattle.std.specs.List.{list_any, before_first, after_first}
use Rattle.toml.specs.Data.{Data, Items, no_items, item, Members, no_members, member, get_member, as_str, as_integer, as_array, as_table}
use Rattle.apex_types.specs.Naming.{is_table_name}
use Rattle.apex_types.specs.declared.rows.PartitionRow.{PartitionRow}
use Rattle.apex_types.specs.declared.rows.VolumeRow.{VolumeRow}
use Rattle.apex_model.specs.Accepted.{is_within}
use Rattle.table_model.specs.Errors.{is_error}
use Rattle.table_model.specs.declared.errors.TableError.{TableError}
use Rattle.table_model.specs.declared.errors.TableError.TheVariants.{UnknownKey, MissingKey, WrongKind, BadName, OutOfRange}
use Rattle.table_model.specs.declared.written.WrittenPort.{WrittenPort}
use Rattle.table_model.specs.declared.written.WrittenTree.{WrittenTree}
use Rattle.table_model.specs.declared.written.WrittenLogbook.{WrittenLogbook}
use Rattle.table_model.specs.declared.written.WrittenChannel.{WrittenChannel}

-- ---- strings

-- the name of a partition, which isn't the word that ticks begin with
abbrev pub is_partition_name : List ℕ → Bool
is_partition_name s = is_table_name s && not (bytes_eq s (codes "TICK"))

abbrev pub is_colon : ℕ → Bool
is_colon b = b == 58

-- two names with one colon between, since no name holds one
abbrev pub is_port : List ℕ → Bool
is_port s = is_table_name (before_first is_colon s) && is_table_name (after_first is_colon s)

-- the names round the colon
abbrev pub port_of : List ℕ → WrittenPort
port_of s = record { partition = before_first is_colon s; port = after_first is_colon s }

-- ---- keys

-- what stands at a key: a string that passes a test, a list of so many of them, or an integer within bounds
pub data Kind : Type 0 where
  text : (List ℕ → Bool) → Kind
  texts : (List ℕ → Bool) → ℕ → ℕ → Kind
  whole : ℕ → ℕ → Kind

-- a key of a row
pub record Key : Type 0 where
  pub name : List ℕ
  pub kind : Kind
  pub required : Bool

abbrev pub needed : List ℕ → Kind → Key
needed name kind = record { name = name; kind = kind; required = true }

abbrev pub optional : List ℕ → Kind → Key
optional name kind = record { name = name; kind = kind; required = false }

-- the keys of the rows of each list
abbrev pub partition_keys : List Key
partition_keys = needed (codes "name") (text is_partition_name) ∷ []

abbrev pub volume_keys : List Key
volume_keys = needed (codes "name") (text is_table_name) ∷ needed (codes "blocks") (whole 1 131072) ∷ []

abbrev pub tree_keys : List Key
tree_keys =
    needed (codes "volume") (text is_table_name) ∷ needed (codes "owner") (text is_table_name) ∷ optional (codes "readers") (texts is_table_name 0 15)
    ∷ needed (codes "quota") (whole 1 4096) ∷ needed (codes "files") (whole 1 64) ∷ needed (codes "directories") (whole 0 32) ∷ needed (codes "dirty") (whole 16 48) ∷ []

abbrev pub logbook_keys : List Key
logbook_keys =
    needed (codes "name") (text is_table_name) ∷ needed (codes "partition") (text is_table_name)
    ∷ needed (codes "message_size") (whole 1 480) ∷ needed (codes "logged") (whole 1 256) ∷ needed (codes "in_progress") (whole 1 16) ∷ []

abbrev pub channel_keys : List Key
channel_keys =
    needed (codes "source") (text is_port) ∷ needed (codes "destinations") (texts is_port 1 8)
    ∷ needed (codes "size") (whole 1 1024) ∷ needed (codes "refresh") (whole 1 4294967295) ∷ []

-- a list of rows at the top: its key, its rows' keys, and how many rows it may have
pub record Section : Type 0 where
  pub key : List ℕ
  pub keys : List Key
  pub lowest : ℕ
  pub highest : ℕ
  pub required : Bool

abbrev pub rows_at_most : List ℕ → List Key → ℕ → Section
rows_at_most key keys highest = record { key = key; keys = keys; lowest = 0; highest = highest; required = false }

abbrev pub partition_section : Section
partition_section = record { key = codes "partition"; keys = partition_keys; lowest = 1; highest = 16; required = true }

abbrev pub sections : List Section
sections =
    partition_section ∷ rows_at_most (codes "volume") volume_keys 8 ∷ rows_at_most (codes "tree") tree_keys 32
    ∷ rows_at_most (codes "logbook") logbook_keys 32 ∷ rows_at_most (codes "channel") channel_keys 32 ∷ []

-- ---- conditions at one place

-- the items of a list
abbrev pub elements : Items → List Data
elements no_items = []
elements (item d ds) = d ∷ elements ds

-- each key is among these
abbrev pub has_only : List (List ℕ) → Members → Bool
has_only known no_members = true
has_only known (member k d ms) = list_any (λ key. bytes_eq k key) known && has_only known ms

-- a number of rows or names, or an integer, outside its bounds
abbrev pub count_fails : TableError → ℕ → ℕ → ℕ → Bool
count_fails e lowest highest n = is_error e OutOfRange && not (is_within lowest highest n)

abbrev pub is_between : ℕ → ℕ → ℤ → Bool
is_between lowest highest (pos n) = is_within lowest highest n
is_between lowest highest (negsuc n) = false

abbrev pub integer_fails : TableError → ℕ → ℕ → Option ℤ → Bool
integer_fails e lowest highest None = is_error e WrongKind
integer_fails e lowest highest (Some z) = is_error e OutOfRange && not (is_between lowest highest z)

-- a value that is no string, or a string that isn't the name it is to be
abbrev pub string_fails : TableError → (List ℕ → Bool) → Option (List ℕ) → Bool
string_fails e test None = is_error e WrongKind
string_fails e test (Some s) = is_error e BadName && not (test s)

abbrev pub text_fails : TableError → (List ℕ → Bool) → Data → Bool
text_fails e test d = string_fails e test (as_str d)

-- a list with such an element, or with too few or too many
abbrev pub list_fails : TableError → (Data → Bool) → ℕ → ℕ → Option Items → Bool
list_fails e element_fails lowest highest None = is_error e WrongKind
list_fails e element_fails lowest highest (Some ds) = list_any element_fails (elements ds) || count_fails e lowest highest (length (elements ds))

abbrev pub value_fails : TableError → Kind → Data → Bool
value_fails e (text test) d = text_fails e test d
value_fails e (texts test lowest highest) d = list_fails e (text_fails e test) lowest highest (as_array d)
value_fails e (whole lowest highest) d = integer_fails e lowest highest (as_integer d)

-- a required key that is missing, or a value that fails
abbrev pub option_fails : TableError → Bool → (Data → Bool) → Option Data → Bool
option_fails e required fails None = is_error e MissingKey && required
option_fails e required fails (Some d) = fails d

abbrev pub key_fails : TableError → Members → Key → Bool
key_fails e row key = option_fails e key.required (value_fails e key.kind) (get_member key.name row)

abbrev pub only_fails : TableError → List (List ℕ) → Members → Bool
only_fails e known ms = is_error e UnknownKey && not (has_only known ms)

-- ---- conditions of rows and of the whole document

abbrev pub row_fails : TableError → List Key → Members → Bool
row_fails e keys row = only_fails e (map (λ key. key.name) keys) row || list_any (key_fails e row) keys

-- an element of a list of rows, which is to be a table
abbrev pub table_fails : TableError → List Key → Option Members → Bool
table_fails e keys None = is_error e WrongKind
table_fails e keys (Some row) = row_fails e keys row

abbrev pub element_fails : TableError → List Key → Data → Bool
element_fails e keys d = table_fails e keys (as_table d)

abbrev pub rows_fail : TableError → Section → Data → Bool
rows_fail e section d = list_fails e (element_fails e section.keys) section.lowest section.highest (as_array d)

abbrev pub section_fails : TableError → Members → Section → Bool
section_fails e top section = option_fails e section.required (rows_fail e section) (get_member section.key top)

-- the condition of this refusal holds somewhere in the document: for UnknownKey, MissingKey, WrongKind, BadName and OutOfRange
abbrev pub holds : TableError → Members → Bool
holds e top = only_fails e (map (λ section. section.key) sections) top || list_any (section_fails e top) sections

-- ---- the values, which count only where none of these conditions holds

abbrev pub value_or : {A : Type 0} → A → (Data → A) → Option Data → A
value_or none read None = none
value_or none read (Some d) = read d

abbrev pub string_in : Option (List ℕ) → List ℕ
string_in o = unwrap_or o []

abbrev pub text_in : Data → List ℕ
text_in d = string_in (as_str d)

abbrev pub natural : ℤ → ℕ
natural (pos n) = n
natural (negsuc n) = 0

abbrev pub whole_in : Data → ℕ
whole_in d = natural (unwrap_or (as_integer d) (pos 0))

abbrev pub list_in : {A : Type 0} → (Data → A) → Data → List A
list_in read d = map read (elements (unwrap_or (as_array d) no_items))

-- the text, the number, and the list of texts at a key
abbrev pub text_at : List ℕ → Members → List ℕ
text_at key row = value_or [] text_in (get_member key row)

abbrev pub whole_at : List ℕ → Members → ℕ
whole_at key row = value_or 0 whole_in (get_member key row)

abbrev pub list_at : {A : Type 0} → (Data → A) → List ℕ → Members → List A
list_at read key row = value_or [] (list_in read) (get_member key row)

-- ---- the rows as they are written

abbrev pub port_in : Data → WrittenPort
port_in d = port_of (text_in d)

abbrev pub port_at : List ℕ → Members → WrittenPort
port_at key row = port_of (text_at key row)

abbrev pub partition_in : Members → PartitionRow
partition_in row = record { name = text_at (codes "name") row }

abbrev pub volume_in : Members → VolumeRow
volume_in row = record { name = text_at (codes "name") row; blocks = whole_at (codes "blocks") row }

abbrev pub tree_in : Members → WrittenTree
tree_in row = record {
  volume = text_at (codes "volume") row;
  owner = text_at (codes "owner") row;
  readers = list_at text_in (codes "readers") row;
  quota = whole_at (codes "quota") row;
  files = whole_at (codes "files") row;
  directories = whole_at (codes "directories") row;
  dirty = whole_at (codes "dirty") row;
}

abbrev pub logbook_in : Members → WrittenLogbook
logbook_in row = record {
  name = text_at (codes "name") row;
  partition = text_at (codes "partition") row;
  message_size = whole_at (codes "message_size") row;
  logged = whole_at (codes "logged") row;
  in_progress = whole_at (codes "in_progress") row;
}

abbrev pub channel_in : Members → WrittenChannel
channel_in row = record {
  source = port_at (codes "source") row;
  destinations = list_at port_in (codes "destinations") row;
  size = whole_at (codes "size") row;
  refresh = whole_at (codes "refresh") row;
}

-- the row that a list's element is
abbrev pub row_in : {R : Type 0} → (Members → R) → Data → R
row_in read d = read (unwrap_or (as_table d) no_members)

-- the rows of a document, with names in the place of indexes
pub record Written : Type 0 where
  pub partitions : List PartitionRow
  pub volumes : List VolumeRow
  pub trees : List WrittenTree
  pub logbooks : List WrittenLogbook
  pub channels : List WrittenChannel

abbrev pub written : Members → Written
written top = record {
  partitions = list_at (row_in partition_in) (codes "partition") top;
  volumes = list_at (row_in volume_in) (codes "volume") top;
  trees = list_at (row_in tree_in) (codes "tree") top;
  logbooks = list_at (row_in logbook_in) (codes "logbook") top;
  channels = list_at (row_in channel_in) (codes "channel") top;
}
