-- The rows of a document, and all of it, as they are judged.
use Rattle.std.proofs.Common.{◌≡◌, ℕ, Bool, true, false, ◌&&◌, ◌||◌, List, [], length, map, Option, Some, None, Result, Ok, refl, sym, subst, codes, lit≤}
use Rattle.std.specs.Prelude.{unwrap_or}
use Rattle.std.specs.List.{list_any, list_all}
use Rattle.std.proofs.lemmas.List.{length-map}
use Rattle.toml.specs.Data.{Data, Items, no_items, Members, no_members, get_member, as_integer, as_array, as_table}
use Rattle.apex_types.specs.Naming.{is_table_name}
use Rattle.apex_types.specs.declared.rows.PartitionRow.{PartitionRow}
use Rattle.apex_types.specs.declared.rows.VolumeRow.{VolumeRow}
use Rattle.apex_model.specs.Accepted.{is_within}
use Rattle.table_model.specs.Errors.{is_error}
use Rattle.table_model.specs.Document.{is_partition_name, is_port, port_of, Key, partition_keys, volume_keys, tree_keys, logbook_keys, channel_keys, sections, partition_section, rows_at_most, elements, count_fails, integer_fails, text_fails, list_fails, option_fails, key_fails, row_fails, table_fails, element_fails, section_fails, holds, value_or, text_in, whole_in, list_in, text_at, whole_at, list_at, port_in, port_at, partition_in, volume_in, tree_in, logbook_in, channel_in, row_in, Written, written}
use Rattle.table_model.specs.Judging.{Judges}
use Rattle.table_model.specs.Reading.{◌>>=◌, and_also, or_error, itself, text_from, text_read, name_from, name_read, port_from, port_read, number_from, number_read, read_each, few_items, list_from, needed_list, optional_list, names_of, row_from, partition_from, volume_from, tree_users, tree_sizes, tree_of, tree_from, logbook_names, logbook_sizes, logbook_of, logbook_from, channel_ends, channel_sizes, channel_of, channel_from, named_rows, other_rows, section_names, written_of, document_from}
use Rattle.table_model.specs.declared.errors.TableError.{TableError}
use Rattle.table_model.specs.declared.errors.TableError.TheVariants.{MissingKey, WrongKind}
use Rattle.table_model.specs.declared.written.WrittenPort.{WrittenPort}
use Rattle.table_model.specs.declared.written.WrittenTree.{WrittenTree}
use Rattle.table_model.specs.declared.written.WrittenLogbook.{WrittenLogbook}
use Rattle.table_model.specs.declared.written.WrittenChannel.{WrittenChannel}
use Rattle.table_model.proofs.Judged.{and_none, or_assoc, cause, judges_ok, judges_same, judges_made, judges_both, both_good, judges_only, judges_text, judges_number, judges_needed, judges_each, judges_few, few_good}

-- ---- lists

judges_items : {R : Type 0} (read : Data → Result R TableError) (fails : TableError → Data → Bool) (value : Data → R) (good : R → Bool) (lowest highest : ℕ) → ((d : Data) → Judges (read d) (λ n. fails n d) (value d) good) → (o : Option Items)
    → Judges (or_error WrongKind o >>= λ ds. read_each read (Ok []) (elements ds) >>= few_items lowest highest) (λ n. list_fails n (fails n) lowest highest o) (map value (elements (unwrap_or o no_items))) (few_good lowest highest good)
judges_items read fails value good lowest highest h None = cause WrongKind [] (few_good lowest highest good) (lit≤ tt) (lit≤ tt)
judges_items read fails value good lowest highest h (Some ds) =
    let none = judges_ok [] (λ n. false) (list_all good) (λ n. refl) refl in
    let all = judges_each read fails value good h (elements ds) (Ok []) (λ n. false) [] none in
    let few = judges_few lowest highest good (read_each read (Ok []) (elements ds)) (λ n. list_any (fails n) (elements ds)) (map value (elements ds)) all in
    judges_same (read_each read (Ok []) (elements ds) >>= few_items lowest highest) (λ n. list_any (fails n) (elements ds) || count_fails n lowest highest (length (map value (elements ds)))) (λ n. list_fails n (fails n) lowest highest (Some ds))
    (map value (elements ds)) (few_good lowest highest good) (λ n. rw (length-map (elements ds) value) refl) few

judges_list : {R : Type 0} (read : Data → Result R TableError) (fails : TableError → Data → Bool) (value : Data → R) (good : R → Bool) (lowest highest : ℕ) → ((d : Data) → Judges (read d) (λ n. fails n d) (value d) good) → (d : Data)
    → Judges (list_from read lowest highest d) (λ n. list_fails n (fails n) lowest highest (as_array d)) (list_in value d) (few_good lowest highest good)
judges_list read fails value good lowest highest h d = judges_items read fails value good lowest highest h (as_array d)

judges_needed_list : {R : Type 0} (read : Data → Result R TableError) (fails : TableError → Data → Bool) (value : Data → R) (good : R → Bool) (lowest highest : ℕ) → ((d : Data) → Judges (read d) (λ n. fails n d) (value d) good) → (o : Option Data)
    → Judges (needed_list read lowest highest o) (λ n. option_fails n true (λ d. list_fails n (fails n) lowest highest (as_array d)) o) (value_or [] (list_in value) o) (few_good lowest highest good)
judges_needed_list read fails value good lowest highest h o =
    judges_needed (list_from read lowest highest) (λ n d. list_fails n (fails n) lowest highest (as_array d)) (list_in value) [] (few_good lowest highest good) (judges_list read fails value good lowest highest h) o

judges_optional_list : {R : Type 0} (read : Data → Result R TableError) (fails : TableError → Data → Bool) (value : Data → R) (good : R → Bool) (lowest highest : ℕ) → few_good lowest highest good [] ≡ true
    → ((d : Data) → Judges (read d) (λ n. fails n d) (value d) good) → (o : Option Data)
    → Judges (optional_list read lowest highest o) (λ n. option_fails n false (λ d. list_fails n (fails n) lowest highest (as_array d)) o) (value_or [] (list_in value) o) (few_good lowest highest good)
judges_optional_list read fails value good lowest highest empty h None = judges_ok [] (λ n. is_error n MissingKey && false) (few_good lowest highest good) (λ n. and_none (is_error n MissingKey) false refl) empty
judges_optional_list read fails value good lowest highest empty h (Some d) = judges_list read fails value good lowest highest h d

-- ---- values at keys

abbrev name_fails : TableError → Option Data → Bool
name_fails n o = option_fails n true (λ d. text_fails n is_table_name d) o

abbrev number_fails : ℕ → ℕ → TableError → Option Data → Bool
number_fails lowest highest n o = option_fails n true (λ d. integer_fails n lowest highest (as_integer d)) o

judges_name_from : (d : Data) → Judges (name_from d) (λ n. text_fails n is_table_name d) (text_in d) is_table_name
judges_name_from d = judges_text is_table_name itself is_table_name (λ s h. h) d

judges_name : (key : List ℕ) (ms : Members) → Judges (name_read key ms) (λ n. name_fails n (get_member key ms)) (text_at key ms) is_table_name
judges_name key ms = judges_needed name_from (λ n d. text_fails n is_table_name d) text_in [] is_table_name judges_name_from (get_member key ms)

judges_partition_name : (key : List ℕ) (ms : Members) → Judges (text_read is_partition_name itself key ms) (λ n. option_fails n true (λ d. text_fails n is_partition_name d) (get_member key ms)) (text_at key ms) is_partition_name
judges_partition_name key ms =
    judges_needed (text_from is_partition_name itself) (λ n d. text_fails n is_partition_name d) text_in [] is_partition_name (judges_text is_partition_name itself is_partition_name (λ s h. h)) (get_member key ms)

judges_whole : (key : List ℕ) (lowest highest : ℕ) (ms : Members) → Judges (number_read key lowest highest ms) (λ n. number_fails lowest highest n (get_member key ms)) (whole_at key ms) (is_within lowest highest)
judges_whole key lowest highest ms =
    judges_needed (number_from lowest highest) (λ n d. integer_fails n lowest highest (as_integer d)) whole_in 0 (is_within lowest highest) (judges_number lowest highest) (get_member key ms)

abbrev pub good_port : WrittenPort → Bool
good_port port = is_table_name port.partition && is_table_name port.port

judges_port_from : (d : Data) → Judges (port_from d) (λ n. text_fails n is_port d) (port_in d) good_port
judges_port_from d = judges_text is_port port_of good_port (λ s h. h) d

port_value : (o : Option Data) → value_or (port_of []) port_in o ≡ port_of (value_or [] text_in o)
port_value None = refl
port_value (Some d) = refl

judges_port : (key : List ℕ) (ms : Members) → Judges (port_read key ms) (λ n. option_fails n true (λ d. text_fails n is_port d) (get_member key ms)) (port_at key ms) good_port
judges_port key ms =
    subst (λ v. Judges (port_read key ms) (λ n. option_fails n true (λ d. text_fails n is_port d) (get_member key ms)) v good_port) (port_value (get_member key ms))
    (judges_needed port_from (λ n d. text_fails n is_port d) port_in (port_of []) good_port judges_port_from (get_member key ms))

-- ---- rows

or_last : (b : Bool) → (b || false) ≡ b
or_last true = refl
or_last false = refl

two : (a b : Bool) → (a || b) ≡ (a || (b || false))
two a b = simp or_last

four : (a b c d : Bool) → ((a || b) || (c || d)) ≡ (a || (b || (c || (d || false))))
four a b c d = simp (or_assoc, or_last)

five : (a b c d e : Bool) → ((a || b) || (c || (d || e))) ≡ (a || (b || (c || (d || (e || false)))))
five a b c d e = simp (or_assoc, or_last)

seven : (a b c d e f g : Bool) → ((a || (b || c)) || ((d || e) || (f || g))) ≡ (a || (b || (c || (d || (e || (f || (g || false)))))))
seven a b c d e f g = simp (or_assoc, or_last)

abbrev pub good_partition : PartitionRow → Bool
good_partition row = is_partition_name row.name

pub judges_partition : (ms : Members) → Judges (partition_from ms) (λ n. row_fails n partition_keys ms) (partition_in ms) good_partition
unfolding partition_from
judges_partition ms =
    let here = judges_partition_name (codes "name") ms in
    let one = judges_made (λ name. record { name = name }) (text_read is_partition_name itself (codes "name") ms) _ (text_at (codes "name") ms) is_partition_name good_partition (λ x h. h) here in
    judges_only (names_of partition_keys) ms _ (λ n. list_any (key_fails n ms) partition_keys) (partition_in ms) good_partition
    (judges_same _ _ (λ n. list_any (key_fails n ms) partition_keys) (partition_in ms) good_partition (λ n. sym (or_last _)) one)

abbrev pub good_volume : VolumeRow → Bool
good_volume row = is_table_name row.name && is_within 1 131072 row.blocks

pub judges_volume : (ms : Members) → Judges (volume_from ms) (λ n. row_fails n volume_keys ms) (volume_in ms) good_volume
unfolding volume_from
judges_volume ms =
    let both = judges_both (name_read (codes "name") ms) (number_read (codes "blocks") 1 131072 ms) _ _ (text_at (codes "name") ms) (whole_at (codes "blocks") ms) is_table_name (is_within 1 131072)
    (judges_name (codes "name") ms) (judges_whole (codes "blocks") 1 131072 ms) in
    let one = judges_made (λ x. record { name = x.0; blocks = x.1 }) (and_also (name_read (codes "name") ms) (number_read (codes "blocks") 1 131072 ms)) _ (text_at (codes "name") ms, whole_at (codes "blocks") ms)
    (both_good is_table_name (is_within 1 131072)) good_volume (λ x h. h) both in
    judges_only (names_of volume_keys) ms _ (λ n. list_any (key_fails n ms) volume_keys) (volume_in ms) good_volume
    (judges_same _ _ (λ n. list_any (key_fails n ms) volume_keys) (volume_in ms) good_volume (λ n. two _ _) one)

abbrev pub good_users : List ℕ × (List ℕ × List (List ℕ)) → Bool
good_users = both_good is_table_name (both_good is_table_name (few_good 0 15 is_table_name))

abbrev pub good_tree_sizes : (ℕ × ℕ) × (ℕ × ℕ) → Bool
good_tree_sizes = both_good (both_good (is_within 1 4096) (is_within 1 64)) (both_good (is_within 0 32) (is_within 16 48))

abbrev pub good_tree : WrittenTree → Bool
good_tree row = good_users (row.volume, (row.owner, row.readers)) && good_tree_sizes ((row.quota, row.files), (row.directories, row.dirty))

judges_readers : (ms : Members)
    → Judges (optional_list name_from 0 15 (get_member (codes "readers") ms)) (λ n. option_fails n false (λ d. list_fails n (text_fails n is_table_name) 0 15 (as_array d)) (get_member (codes "readers") ms)) (list_at text_in (codes "readers") ms)
    (few_good 0 15 is_table_name)
judges_readers ms = judges_optional_list name_from (λ n d. text_fails n is_table_name d) text_in is_table_name 0 15 refl judges_name_from (get_member (codes "readers") ms)

pub judges_tree : (ms : Members) → Judges (tree_from ms) (λ n. row_fails n tree_keys ms) (tree_in ms) good_tree
unfolding tree_from tree_users tree_sizes
judges_tree ms =
    let owner = judges_both _ _ _ _ _ _ is_table_name (few_good 0 15 is_table_name) (judges_name (codes "owner") ms) (judges_readers ms) in
    let users = judges_both _ _ _ _ _ _ is_table_name (both_good is_table_name (few_good 0 15 is_table_name)) (judges_name (codes "volume") ms) owner in
    let files = judges_both _ _ _ _ _ _ (is_within 1 4096) (is_within 1 64) (judges_whole (codes "quota") 1 4096 ms) (judges_whole (codes "files") 1 64 ms) in
    let directories = judges_both _ _ _ _ _ _ (is_within 0 32) (is_within 16 48) (judges_whole (codes "directories") 0 32 ms) (judges_whole (codes "dirty") 16 48 ms) in
    let sizes = judges_both _ _ _ _ _ _ (both_good (is_within 1 4096) (is_within 1 64)) (both_good (is_within 0 32) (is_within 16 48)) files directories in
    let parts = judges_both _ _ _ _ _ _ good_users good_tree_sizes users sizes in
    let one = judges_made tree_of _ _ _ (both_good good_users good_tree_sizes) good_tree (λ x h. h) parts in
    judges_only (names_of tree_keys) ms _ (λ n. list_any (key_fails n ms) tree_keys) (tree_in ms) good_tree
    (judges_same _ _ (λ n. list_any (key_fails n ms) tree_keys) (tree_in ms) good_tree (λ n. seven (name_fails n (get_member (codes "volume") ms)) (name_fails n (get_member (codes "owner") ms)) (option_fails n false (λ d. list_fails n (text_fails n is_table_name) 0 15 (as_array d)) (get_member (codes "readers") ms)) (number_fails 1 4096 n (get_member (codes "quota") ms)) (number_fails 1 64 n (get_member (codes "files") ms)) (number_fails 0 32 n (get_member (codes "directories") ms)) (number_fails 16 48 n (get_member (codes "dirty") ms))) one)

abbrev pub good_logbook : WrittenLogbook → Bool
good_logbook row = (is_table_name row.name && is_table_name row.partition) && (is_within 1 480 row.message_size && (is_within 1 256 row.logged && is_within 1 16 row.in_progress))

pub judges_logbook : (ms : Members) → Judges (logbook_from ms) (λ n. row_fails n logbook_keys ms) (logbook_in ms) good_logbook
unfolding logbook_from logbook_names logbook_sizes
judges_logbook ms =
    let names = judges_both _ _ _ _ _ _ is_table_name is_table_name (judges_name (codes "name") ms) (judges_name (codes "partition") ms) in
    let limits = judges_both _ _ _ _ _ _ (is_within 1 256) (is_within 1 16) (judges_whole (codes "logged") 1 256 ms) (judges_whole (codes "in_progress") 1 16 ms) in
    let sizes = judges_both _ _ _ _ _ _ (is_within 1 480) (both_good (is_within 1 256) (is_within 1 16)) (judges_whole (codes "message_size") 1 480 ms) limits in
    let parts = judges_both _ _ _ _ _ _ (both_good is_table_name is_table_name) (both_good (is_within 1 480) (both_good (is_within 1 256) (is_within 1 16))) names sizes in
    let one = judges_made logbook_of _ _ _ (both_good (both_good is_table_name is_table_name) (both_good (is_within 1 480) (both_good (is_within 1 256) (is_within 1 16)))) good_logbook (λ x h. h) parts in
    judges_only (names_of logbook_keys) ms _ (λ n. list_any (key_fails n ms) logbook_keys) (logbook_in ms) good_logbook
    (judges_same _ _ (λ n. list_any (key_fails n ms) logbook_keys) (logbook_in ms) good_logbook (λ n. five (name_fails n (get_member (codes "name") ms)) (name_fails n (get_member (codes "partition") ms)) (number_fails 1 480 n (get_member (codes "message_size") ms)) (number_fails 1 256 n (get_member (codes "logged") ms)) (number_fails 1 16 n (get_member (codes "in_progress") ms))) one)

abbrev pub good_channel : WrittenChannel → Bool
good_channel row = (good_port row.source && few_good 1 8 good_port row.destinations) && (is_within 1 1024 row.size && is_within 1 4294967295 row.refresh)

judges_destinations : (ms : Members)
    → Judges (needed_list port_from 1 8 (get_member (codes "destinations") ms)) (λ n. option_fails n true (λ d. list_fails n (text_fails n is_port) 1 8 (as_array d)) (get_member (codes "destinations") ms)) (list_at port_in (codes "destinations") ms)
    (few_good 1 8 good_port)
judges_destinations ms = judges_needed_list port_from (λ n d. text_fails n is_port d) port_in good_port 1 8 judges_port_from (get_member (codes "destinations") ms)

pub judges_channel : (ms : Members) → Judges (channel_from ms) (λ n. row_fails n channel_keys ms) (channel_in ms) good_channel
unfolding channel_from channel_ends channel_sizes
judges_channel ms =
    let ends = judges_both _ _ _ _ _ _ good_port (few_good 1 8 good_port) (judges_port (codes "source") ms) (judges_destinations ms) in
    let sizes = judges_both _ _ _ _ _ _ (is_within 1 1024) (is_within 1 4294967295) (judges_whole (codes "size") 1 1024 ms) (judges_whole (codes "refresh") 1 4294967295 ms) in
    let parts = judges_both _ _ _ _ _ _ (both_good good_port (few_good 1 8 good_port)) (both_good (is_within 1 1024) (is_within 1 4294967295)) ends sizes in
    let one = judges_made channel_of _ _ _ (both_good (both_good good_port (few_good 1 8 good_port)) (both_good (is_within 1 1024) (is_within 1 4294967295))) good_channel (λ x h. h) parts in
    judges_only (names_of channel_keys) ms _ (λ n. list_any (key_fails n ms) channel_keys) (channel_in ms) good_channel
    (judges_same _ _ (λ n. list_any (key_fails n ms) channel_keys) (channel_in ms) good_channel (λ n. four (option_fails n true (λ d. text_fails n is_port d) (get_member (codes "source") ms)) (option_fails n true (λ d. list_fails n (text_fails n is_port) 1 8 (as_array d)) (get_member (codes "destinations") ms)) (number_fails 1 1024 n (get_member (codes "size") ms)) (number_fails 1 4294967295 n (get_member (codes "refresh") ms))) one)

-- ---- the document

-- an element of a list of rows
judges_table : {R : Type 0} (read : Members → Result R TableError) (keys : List Key) (value : Members → R) (good : R → Bool) → ((ms : Members) → Judges (read ms) (λ n. row_fails n keys ms) (value ms) good) → (o : Option Members)
    → Judges (or_error WrongKind o >>= read) (λ n. table_fails n keys o) (value (unwrap_or o no_members)) good
judges_table read keys value good h None = cause WrongKind (value no_members) good (lit≤ tt) (lit≤ tt)
judges_table read keys value good h (Some ms) = h ms

judges_row : {R : Type 0} (read : Members → Result R TableError) (keys : List Key) (value : Members → R) (good : R → Bool) → ((ms : Members) → Judges (read ms) (λ n. row_fails n keys ms) (value ms) good) → (d : Data)
    → Judges (row_from read d) (λ n. element_fails n keys d) (row_in value d) good
judges_row read keys value good h d = judges_table read keys value good h (as_table d)

judges_rows : {R : Type 0} (read : Members → Result R TableError) (keys : List Key) (value : Members → R) (good : R → Bool) (highest : ℕ) → few_good 0 highest good [] ≡ true
    → ((ms : Members) → Judges (read ms) (λ n. row_fails n keys ms) (value ms) good) → (key : List ℕ) (top : Members)
    → Judges (optional_list (row_from read) 0 highest (get_member key top)) (λ n. section_fails n top (rows_at_most key keys highest)) (list_at (row_in value) key top) (few_good 0 highest good)
judges_rows read keys value good highest empty h key top =
    judges_optional_list (row_from read) (λ n d. element_fails n keys d) (row_in value) good 0 highest empty (judges_row read keys value good h) (get_member key top)

abbrev pub good_named : List PartitionRow × List VolumeRow → Bool
good_named = both_good (few_good 1 16 good_partition) (few_good 0 8 good_volume)

abbrev pub good_others : List WrittenTree × (List WrittenLogbook × List WrittenChannel) → Bool
good_others = both_good (few_good 0 32 good_tree) (both_good (few_good 0 32 good_logbook) (few_good 0 32 good_channel))

abbrev pub good_written : Written → Bool
good_written w = good_named (w.partitions, w.volumes) && good_others (w.trees, (w.logbooks, w.channels))

-- the rows of a document are read where no condition holds of it, and refused for the first that does
pub judges_document : (top : Members) → Judges (document_from top) (λ n. holds n top) (written top) good_written
unfolding document_from named_rows other_rows
judges_document top =
    let partitions = judges_needed_list (row_from partition_from) (λ n d. element_fails n partition_keys d) (row_in partition_in) good_partition 1 16 (judges_row partition_from partition_keys partition_in good_partition judges_partition) (get_member (codes "partition") top) in
    let volumes = judges_rows volume_from volume_keys volume_in good_volume 8 refl judges_volume (codes "volume") top in
    let trees = judges_rows tree_from tree_keys tree_in good_tree 32 refl judges_tree (codes "tree") top in
    let logbooks = judges_rows logbook_from logbook_keys logbook_in good_logbook 32 refl judges_logbook (codes "logbook") top in
    let channels = judges_rows channel_from channel_keys channel_in good_channel 32 refl judges_channel (codes "channel") top in
    let named = judges_both _ _ _ _ _ _ (few_good 1 16 good_partition) (few_good 0 8 good_volume) partitions volumes in
    let later = judges_both _ _ _ _ _ _ (few_good 0 32 good_logbook) (few_good 0 32 good_channel) logbooks channels in
    let others = judges_both _ _ _ _ _ _ (few_good 0 32 good_tree) (both_good (few_good 0 32 good_logbook) (few_good 0 32 good_channel)) trees later in
    let parts = judges_both _ _ _ _ _ _ good_named good_others named others in
    let one = judges_made written_of _ _ _ (both_good good_named good_others) good_written (λ x h. h) parts in
    judges_only section_names top _ (λ n. list_any (section_fails n top) sections) (written top) good_written
    (judges_same _ _ (λ n. list_any (section_fails n top) sections) (written top) good_written (λ n. five (section_fails n top partition_section) (section_fails n top (rows_at_most (codes "volume") volume_keys 8)) (section_fails n top (rows_at_most (codes "tree") tree_keys 32)) (section_fails n top (rows_at_most (codes "logbook") logbook_keys 32)) (section_fails n top (rows_at_most (codes "channel") channel_keys 32))) one)
