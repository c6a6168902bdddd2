-- Which text is a module table: its rows, or the first condition of refusal that holds of the whole text.
use Rattle.std.specs.Prelude.{ℕ, Bool, not, ◌&&◌, nat_lt, if◌then◌else◌, List, [], ◌∷◌, length, flat_map, bytes_eq, Option, Some, None, Result, Ok, Err, position}
use Rattle.std.specs.List.{list_all}
use Rattle.std.specs.Option.{option_map, option_and_then}
use Rattle.std.specs.Str.{is_utf8}
use Rattle.toml.specs.Data.{Members}
use Rattle.toml.specs.Parse.{parse_document}
use Rattle.apex_types.specs.Rows.{Rows}
use Rattle.apex_types.specs.declared.numbers.PartitionId.{PartitionId}
use Rattle.apex_types.specs.declared.rows.PartitionRow.{PartitionRow}
use Rattle.apex_types.specs.declared.rows.VolumeRow.{VolumeRow}
use Rattle.apex_types.specs.declared.rows.TreeRow.{TreeRow}
use Rattle.apex_types.specs.declared.rows.LogbookRow.{LogbookRow}
use Rattle.apex_types.specs.declared.rows.PortRow.{PortRow}
use Rattle.apex_types.specs.declared.rows.ChannelRow.{ChannelRow}
use Rattle.apex_model.specs.Accepted.{all_differ, fits_volumes, fits_image}
use Rattle.table_model.specs.Document.{holds, Written, written}
use Rattle.table_model.specs.declared.errors.TableError.{TableError}
use Rattle.table_model.specs.declared.errors.TableError.TheVariants.{TooLong, NotToml, UnknownKey, MissingKey, WrongKind, BadName, OutOfRange, Repeated, UnknownName, VolumeOverfull, ImageTooLarge}
use Rattle.table_model.specs.declared.written.WrittenPort.{WrittenPort}
use Rattle.table_model.specs.declared.written.WrittenTree.{WrittenTree}
use Rattle.table_model.specs.declared.written.WrittenLogbook.{WrittenLogbook}
use Rattle.table_model.specs.declared.written.WrittenChannel.{WrittenChannel}

-- ---- rows that are the same, which no two of a table may be

abbrev pub is_same_partition : PartitionRow → PartitionRow → Bool
is_same_partition a b = bytes_eq a.name b.name

abbrev pub is_same_volume : VolumeRow → VolumeRow → Bool
is_same_volume a b = bytes_eq a.name b.name

abbrev pub is_same_tree : WrittenTree → WrittenTree → Bool
is_same_tree a b = bytes_eq a.volume b.volume && bytes_eq a.owner b.owner

abbrev pub is_same_logbook : WrittenLogbook → WrittenLogbook → Bool
is_same_logbook a b = bytes_eq a.partition b.partition && bytes_eq a.name b.name

abbrev pub is_same_port : WrittenPort → WrittenPort → Bool
is_same_port a b = bytes_eq a.partition b.partition && bytes_eq a.port b.port

-- the names of those who have a right to a tree: its owner and its readers
abbrev pub users_of : WrittenTree → List (List ℕ)
users_of row = row.owner ∷ row.readers

abbrev pub ends_of : WrittenChannel → List WrittenPort
ends_of row = row.source ∷ row.destinations

abbrev pub has_repeats : Written → Bool
has_repeats w = not (
    all_differ is_same_partition w.partitions
    && all_differ is_same_volume w.volumes
    && all_differ is_same_tree w.trees
    && all_differ is_same_logbook w.logbooks
    && list_all (λ row. all_differ bytes_eq (users_of row)) w.trees
    && all_differ is_same_port (flat_map ends_of w.channels))

-- ---- names that stand for rows

-- each item's value, or none where an item has none
abbrev pub all_of : {A B : Type 0} → (A → Option B) → List A → Option (List B)
all_of f [] = Some []
all_of f (x ∷ xs) = option_and_then (λ y. option_map (λ ys. y ∷ ys) (all_of f xs)) (f x)

-- the place of the volume, and of the partition, with a name
abbrev pub volume_of : List VolumeRow → List ℕ → Option ℕ
volume_of volumes name = position (λ row. bytes_eq row.name name) volumes

abbrev pub partition_of : List PartitionRow → List ℕ → Option PartitionId
partition_of partitions name = option_map (λ place. record { 0 = place }) (position (λ row. bytes_eq row.name name) partitions)

abbrev pub tree_row : List PartitionRow → List VolumeRow → WrittenTree → Option TreeRow
tree_row partitions volumes row =
    option_and_then (λ volume. option_and_then (λ owner. option_map (λ readers. record {
      volume = volume;
      owner = owner;
      readers = readers;
      quota = row.quota;
      files = row.files;
      directories = row.directories;
      dirty = row.dirty;
    }) (all_of (partition_of partitions) row.readers)) (partition_of partitions row.owner)) (volume_of volumes row.volume)

abbrev pub logbook_row : List PartitionRow → WrittenLogbook → Option LogbookRow
logbook_row partitions row =
    option_map (λ partition. record { name = row.name; partition = partition; message_size = row.message_size; logged = row.logged; in_progress = row.in_progress })
    (partition_of partitions row.partition)

abbrev pub port_row : List PartitionRow → WrittenPort → Option PortRow
port_row partitions row = option_map (λ partition. record { partition = partition; name = row.port }) (partition_of partitions row.partition)

abbrev pub channel_row : List PartitionRow → WrittenChannel → Option ChannelRow
channel_row partitions row =
    option_and_then (λ source. option_map (λ destinations. record { source = source; destinations = destinations; size = row.size; refresh = row.refresh })
    (all_of (port_row partitions) row.destinations)) (port_row partitions row.source)

-- the rows with indexes in the place of names, or none where a name stands for no row
abbrev pub rows_from : Written → Option Rows
rows_from w =
    option_and_then (λ trees. option_and_then (λ logbooks. option_map (λ channels. record {
      partitions = w.partitions;
      volumes = w.volumes;
      trees = trees;
      logbooks = logbooks;
      channels = channels;
    }) (all_of (channel_row w.partitions) w.channels)) (all_of (logbook_row w.partitions) w.logbooks)) (all_of (tree_row w.partitions w.volumes) w.trees)

-- ---- the whole

-- refused with this error where its condition holds, and else what comes next
abbrev pub refuse_if : Bool → TableError → Result Rows TableError → Result Rows TableError
refuse_if condition e next = if condition then Err e else next

unfoldable pub table_of_rows : Rows → Result Rows TableError
table_of_rows rows = refuse_if (not (fits_volumes rows)) VolumeOverfull (refuse_if (not (fits_image rows)) ImageTooLarge (Ok rows))

abbrev pub table_of_known : Option Rows → Result Rows TableError
table_of_known None = Err UnknownName
table_of_known (Some rows) = table_of_rows rows

unfoldable pub table_of_written : Written → Result Rows TableError
table_of_written w = refuse_if (has_repeats w) Repeated (table_of_known (rows_from w))

unfoldable pub table_of_document : Members → Result Rows TableError
table_of_document top =
    refuse_if (holds UnknownKey top) UnknownKey
    (refuse_if (holds MissingKey top) MissingKey
    (refuse_if (holds WrongKind top) WrongKind
    (refuse_if (holds BadName top) BadName
    (refuse_if (holds OutOfRange top) OutOfRange
    (table_of_written (written top))))))

abbrev pub table_of_parsed : Option Members → Result Rows TableError
table_of_parsed None = Err NotToml
table_of_parsed (Some top) = table_of_document top

-- the table that a text says, or the first condition of refusal that holds of the whole of it
unfoldable pub table_of : List ℕ → Result Rows TableError
table_of bytes =
    refuse_if (nat_lt 65536 (length bytes)) TooLong
    (refuse_if (not (is_utf8 bytes)) NotToml
    (table_of_parsed (parse_document bytes)))
