-- The bytes of an accepted table have room in the superblock.
use Rattle.std.proofs.Common.{◌≡◌, ℕ, suc, ◌+◌, ◌*◌, ◌≤◌, Bool, true, ◌&&◌, List, [], ◌∷◌, length, arith, length-append}
use Rattle.std.proofs.Math.Nat.{mul-le-mul_right}
use Rattle.std.specs.Prelude.{nat_le, flat_map, not, codes, bytes_eq}
use Rattle.std.specs.List.{list_all, AllByRecursion}
use Rattle.apex_types.specs.Naming.{is_table_name, is_spelled_as_name}
use Rattle.apex_types.specs.Rows.{Rows}
use Rattle.apex_types.specs.declared.rows.ChannelRow.{ChannelRow}
use Rattle.apex_types.specs.declared.rows.LogbookRow.{LogbookRow}
use Rattle.apex_types.specs.declared.rows.PartitionRow.{PartitionRow}
use Rattle.apex_types.specs.declared.rows.PortRow.{PortRow}
use Rattle.apex_types.specs.declared.rows.TreeRow.{TreeRow}
use Rattle.apex_types.specs.declared.rows.VolumeRow.{VolumeRow}
use Rattle.apex_model.specs.Accepted.{IsAccepted, has_good_names, is_in_range, has_no_repeats, has_known_names, fits_volumes, fits_image, is_within, is_tree_in_range, is_channel_in_range}
use Rattle.apex_model.specs.TableBytes.{name_bytes, list_bytes, volume_bytes, tree_bytes, logbook_bytes, port_bytes, channel_bytes, table_bytes}
use Rattle.apex_model.proofs.AcceptedTables.{and-left, and-right, all-from-list_all}
use Rattle.apex_model.proofs.Keeps.{le-true}
use Rattle.image_laws.specs.Laws.{TableFitsSuperblock}

-- ---- lists of short parts

module _ {A : Type 0} (f : A → List ℕ) (m : ℕ) where
  parts_short : (xs : List A) → AllByRecursion (λ x. length (f x) ≤ m) xs → length (flat_map f xs) ≤ length xs * m
  parts_short [] short = omega arith
  parts_short (x ∷ xs) short =
      let here = short.0 in
      let later = parts_short xs short.1 in
      let product : suc (length xs) * m ≡ length xs * m + m = omega arith in
      omega (arith, length-append (f x) (flat_map f xs))

  -- so many parts, each of them so short
  list_short : (count : ℕ) (xs : List A) → length xs ≤ count → AllByRecursion (λ x. length (f x) ≤ m) xs → length (list_bytes f xs) ≤ 1 + count * m
  list_short count xs few short = omega (arith, parts_short xs short, mul-le-mul_right {m = length xs} {n = count} m few)

all_both : {A : Type 0} (P Q R : A → Type 0) (xs : List A) → ((x : A) → P x → Q x → R x) → AllByRecursion P xs → AllByRecursion Q xs → AllByRecursion R xs
all_both P Q R [] both ps qs = tt
all_both P Q R (x ∷ xs) both ps qs = (both x ps.0 qs.0, all_both P Q R xs both ps.1 qs.1)

all_weaker : {A : Type 0} (P Q : A → Type 0) (xs : List A) → ((x : A) → P x → Q x) → AllByRecursion P xs → AllByRecursion Q xs
all_weaker P Q [] weaker ps = tt
all_weaker P Q (x ∷ xs) weaker ps = (weaker x ps.0, all_weaker P Q xs weaker ps.1)

always : {A : Type 0} (Q : A → Type 0) (xs : List A) → ((x : A) → Q x) → AllByRecursion Q xs
always Q [] each = tt
always Q (x ∷ xs) each = (each x, always Q xs each)

-- ---- rows

short_name : (name : List ℕ) → is_table_name name ≡ true → length name ≤ 24
short_name name good = le-true (length name) 24 (and-left _ (is_spelled_as_name name) good)

abbrev HasShortEnds : ChannelRow → Type 0
HasShortEnds row = (length row.source.name ≤ 24) × AllByRecursion (λ (port : PortRow). length port.name ≤ 24) row.destinations

short_ends : (row : ChannelRow) → (is_table_name row.source.name && list_all (λ port. is_table_name port.name) row.destinations) ≡ true → HasShortEnds row
short_ends row good = (
  short_name row.source.name (and-left _ (list_all (λ port. is_table_name port.name) row.destinations) good),
  all-from-list_all (λ port. is_table_name port.name) (λ port. length port.name ≤ 24) (λ port. short_name port.name) row.destinations (and-right (is_table_name row.source.name) _ good),
)

few_readers : (row : TreeRow) → is_tree_in_range row ≡ true → length row.readers ≤ 15
few_readers row good = le-true (length row.readers) 15 (and-left _ _ (and-left _ _ (and-left _ _ (and-left _ _ good))))

few_destinations : (row : ChannelRow) → is_channel_in_range row ≡ true → length row.destinations ≤ 8
few_destinations row good = le-true (length row.destinations) 8 (and-right _ _ (and-left (is_within 1 8 (length row.destinations)) _ (and-left _ _ good)))

volume_short : (row : VolumeRow) → length row.name ≤ 24 → length (volume_bytes row) ≤ 29
volume_short row short = simp length-append (omega arith)

tree_short : (row : TreeRow) → length row.readers ≤ 15 → length (tree_bytes row) ≤ 23
tree_short row few =
    let readers = list_short (λ reader. reader.0 ∷ []) 1 15 row.readers few (always (λ reader. length (reader.0 ∷ []) ≤ 1) row.readers (λ reader. omega arith)) in
    simp length-append (omega arith)

logbook_short : (row : LogbookRow) → length row.name ≤ 24 → length (logbook_bytes row) ≤ 31
logbook_short row short = simp length-append (omega arith)

port_short : (row : PortRow) → length row.name ≤ 24 → length (port_bytes row) ≤ 26
port_short row short = omega arith

channel_short : (row : ChannelRow) → HasShortEnds row → length row.destinations ≤ 8 → length (channel_bytes row) ≤ 241
channel_short row ends few =
    let source = port_short row.source ends.0 in
    let destinations = list_short port_bytes 26 8 row.destinations few (all_weaker (λ (port : PortRow). length port.name ≤ 24) (λ port. length (port_bytes port) ≤ 26) row.destinations port_short ends.1) in
    simp length-append (omega arith)

-- ---- the table

-- && groups to the left
module _ (table : Rows) (good : IsAccepted table) where
  names : has_good_names table ≡ true
  names = and-left _ (is_in_range table) (and-left _ (has_no_repeats table) (and-left _ (has_known_names table) (and-left _ (fits_volumes table) (and-left _ (fits_image table) good))))

  in_range : is_in_range table ≡ true
  in_range = and-right (has_good_names table) _ (and-left _ (has_no_repeats table) (and-left _ (has_known_names table) (and-left _ (fits_volumes table) (and-left _ (fits_image table) good))))

  names_known : AllByRecursion (λ (row : PartitionRow). length row.name ≤ 24) table.partitions
  names_known = all-from-list_all (λ row. is_table_name row.name && not (bytes_eq row.name (codes "TICK"))) (λ row. length row.name ≤ 24)
      (λ row is. short_name row.name (and-left _ (not (bytes_eq row.name (codes "TICK"))) is)) table.partitions (and-left _ _ (and-left _ _ (and-left _ _ names)))

  volumes_known : AllByRecursion (λ (row : VolumeRow). length row.name ≤ 24) table.volumes
  volumes_known = all-from-list_all (λ row. is_table_name row.name) (λ row. length row.name ≤ 24) (λ row. short_name row.name) table.volumes (and-right _ _ (and-left _ _ (and-left _ _ names)))

  logbooks_known : AllByRecursion (λ (row : LogbookRow). length row.name ≤ 24) table.logbooks
  logbooks_known = all-from-list_all (λ row. is_table_name row.name) (λ row. length row.name ≤ 24) (λ row. short_name row.name) table.logbooks (and-right _ _ (and-left _ _ names))

  ends_known : AllByRecursion HasShortEnds table.channels
  ends_known = all-from-list_all (λ row. is_table_name row.source.name && list_all (λ port. is_table_name port.name) row.destinations) HasShortEnds short_ends table.channels (and-right _ _ names)

  trees_known : AllByRecursion (λ (row : TreeRow). length row.readers ≤ 15) table.trees
  trees_known = all-from-list_all is_tree_in_range (λ row. length row.readers ≤ 15) few_readers table.trees (and-right _ _ (and-left _ _ (and-left _ _ in_range)))

  channels_known : AllByRecursion (λ (row : ChannelRow). length row.destinations ≤ 8) table.channels
  channels_known = all-from-list_all is_channel_in_range (λ row. length row.destinations ≤ 8) few_destinations table.channels (and-right _ _ in_range)

  abbrev counts : Bool
  counts = is_within 1 16 (length table.partitions) && nat_le (length table.volumes) 8 && nat_le (length table.trees) 32 && nat_le (length table.logbooks) 32 && nat_le (length table.channels) 32

  counted : counts ≡ true
  counted = and-left _ _ (and-left _ _ (and-left _ _ (and-left _ _ in_range)))

  few_partitions : length table.partitions ≤ 16
  few_partitions = le-true (length table.partitions) 16 (and-right _ _ (and-left _ _ (and-left _ _ (and-left _ _ (and-left _ _ counted)))))

  few_volumes : length table.volumes ≤ 8
  few_volumes = le-true (length table.volumes) 8 (and-right _ _ (and-left _ _ (and-left _ _ (and-left _ _ counted))))

  few_trees : length table.trees ≤ 32
  few_trees = le-true (length table.trees) 32 (and-right _ _ (and-left _ _ (and-left _ _ counted)))

  few_logbooks : length table.logbooks ≤ 32
  few_logbooks = le-true (length table.logbooks) 32 (and-right _ _ (and-left _ _ counted))

  few_channels : length table.channels ≤ 32
  few_channels = le-true (length table.channels) 32 (and-right _ _ counted)

  -- at most 10,082 bytes with their length
  table_short : length (table_bytes table) ≤ 10078
  table_short =
      let partitions = list_short (λ row. name_bytes row.name) 25 16 table.partitions few_partitions
      (all_weaker (λ (row : PartitionRow). length row.name ≤ 24) (λ row. length (name_bytes row.name) ≤ 25) table.partitions (λ row short. omega (arith, short)) names_known) in
      let volumes = list_short volume_bytes 29 8 table.volumes few_volumes (all_weaker (λ (row : VolumeRow). length row.name ≤ 24) (λ row. length (volume_bytes row) ≤ 29) table.volumes volume_short volumes_known) in
      let trees = list_short tree_bytes 23 32 table.trees few_trees (all_weaker (λ (row : TreeRow). length row.readers ≤ 15) (λ row. length (tree_bytes row) ≤ 23) table.trees tree_short trees_known) in
      let logbooks = list_short logbook_bytes 31 32 table.logbooks few_logbooks
      (all_weaker (λ (row : LogbookRow). length row.name ≤ 24) (λ row. length (logbook_bytes row) ≤ 31) table.logbooks logbook_short logbooks_known) in
      let channels = list_short channel_bytes 241 32 table.channels few_channels
      (all_both HasShortEnds (λ (row : ChannelRow). length row.destinations ≤ 8) (λ row. length (channel_bytes row) ≤ 241) table.channels channel_short ends_known channels_known) in
      simp length-append (omega arith)

-- with four bytes for their number
pub table_fits : TableFitsSuperblock
table_fits table good = omega (arith, table_short table good)
