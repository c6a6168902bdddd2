-- The limits that an accepted table gives channels and ports.
use Rattle.std.proofs.Common.{◌≡◌, ℕ, suc, ◌+◌, ◌*◌, ◌≤◌, true, List, [], ◌∷◌, refl, ap, Some, length, arith}
use Rattle.std.specs.Prelude.{nat_le, slice_get}
use Rattle.std.specs.List.{list_all, AllByRecursion}
use Rattle.std.proofs.lemmas.List.{length-append}
use Rattle.apex_types.specs.Rows.{Rows}
use Rattle.apex_types.specs.declared.rows.ChannelRow.{ChannelRow}
use Rattle.apex_types.specs.declared.rows.PortRow.{PortRow}
use Rattle.apex_model.specs.Accepted.{IsAccepted, has_good_names, is_in_range, has_no_repeats, has_known_names, fits_volumes, fits_image, is_within, is_tree_in_range, is_logbook_in_range, is_channel_in_range}
use Rattle.apex_model.specs.Tables.{ports, ports_from, ports_of_channel, destinations_of_channel}
use Rattle.apex_model.proofs.AcceptedTables.{and-left, and-right, all-from-list_all, all_at}
use Rattle.apex_model.proofs.Keeps.{le-true}

-- && groups to the left
in_range : (table : Rows) → IsAccepted table → is_in_range table ≡ true
in_range table a = and-right (has_good_names table) _ (and-left _ (has_no_repeats table) (and-left _ (has_known_names table) (and-left _ (fits_volumes table) (and-left _ (fits_image table) a))))

pub record HasLimits (row : ChannelRow) : Type 0 where
  pub destinations : length row.destinations ≤ 8
  pub size : row.size ≤ 1024

limits : (row : ChannelRow) → is_channel_in_range row ≡ true → HasLimits row
limits row e = record {
  destinations = le-true (length row.destinations) 8 (and-right (nat_le 1 (length row.destinations)) _ (and-left (is_within 1 8 (length row.destinations)) (is_within 1 1024 row.size) (and-left _ (is_within 1 4294967295 row.refresh) e)));
  size = le-true row.size 1024 (and-right (nat_le 1 row.size) _ (and-right (is_within 1 8 (length row.destinations)) (is_within 1 1024 row.size) (and-left _ (is_within 1 4294967295 row.refresh) e)));
}

pub channel_limits : (table : Rows) → IsAccepted table → AllByRecursion HasLimits table.channels
channel_limits table a = all-from-list_all is_channel_in_range HasLimits limits table.channels (and-right _ (list_all is_channel_in_range table.channels) (in_range table a))

-- a message that fits a channel fits its room
pub size_limit : (table : Rows) (k : ℕ) (row : ChannelRow) → IsAccepted table → slice_get table.channels k ≡ Some row → row.size ≤ 1024
size_limit table k row a e = (all_at HasLimits table.channels k row (channel_limits table a) e).size

few_channels : (table : Rows) → IsAccepted table → length table.channels ≤ 32
few_channels table a =
    le-true (length table.channels) 32 (and-right _ (nat_le (length table.channels) 32)
    (and-left _ (list_all (λ row. is_within 1 131072 row.blocks) table.volumes)
    (and-left _ (list_all is_tree_in_range table.trees)
    (and-left _ (list_all is_logbook_in_range table.logbooks)
    (and-left _ (list_all is_channel_in_range table.channels) (in_range table a))))))

destinations-long : (channel d : ℕ) (rows : List PortRow) → length (destinations_of_channel channel d rows) ≡ length rows
destinations-long channel d [] = refl
destinations-long channel d (row ∷ rows) = ap suc (destinations-long channel (d + 1) rows)

ports-long : (channel : ℕ) (rows : List ChannelRow) → AllByRecursion HasLimits rows → length (ports_from channel rows) ≤ 9 * length rows
ports-long channel [] h = omega arith
ports-long channel (row ∷ rows) h =
    let both = length-append (ports_of_channel channel row) (ports_from (channel + 1) rows) in
    let one = destinations-long channel 0 row.destinations in
    let few = h.0.destinations in
    let rest = ports-long (channel + 1) rows h.1 in
    omega arith

-- a table has 288 ports at most
pub few_ports : (table : Rows) → IsAccepted table → length (ports table) ≤ 288
few_ports table a = let few = few_channels table a in let long = ports-long 0 table.channels (channel_limits table a) in omega arith
