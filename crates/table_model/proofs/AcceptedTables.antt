-- A table that a text says is accepted, and a script can use it.
use Rattle.std.proofs.Common.{◌≡◌, ℕ, Bool, true, false, not, ◌&&◌, ltb, List, length, Option, Some, None, Result, Ok, Err, refl, sym, subst, ◌∙◌, bytes_eq}
use Rattle.std.specs.Prelude.{flat_map}
use Rattle.std.specs.Option.{option_map, option_and_then}
use Rattle.std.specs.List.{list_all}
use Rattle.std.specs.Str.{is_utf8}
use Rattle.std.proofs.lemmas.Bool.{and_parts}
use Rattle.toml.specs.Data.{Members}
use Rattle.toml.specs.Parse.{parse_document}
use Rattle.apex_types.specs.Rows.{Rows}
use Rattle.apex_types.specs.declared.rows.TreeRow.{TreeRow}
use Rattle.apex_types.specs.declared.rows.LogbookRow.{LogbookRow}
use Rattle.apex_types.specs.declared.rows.ChannelRow.{ChannelRow}
use Rattle.apex_model.specs.Accepted.{IsAccepted, all_differ, fits_volumes, fits_image}
use Rattle.table_model.specs.Document.{Written}
use Rattle.table_model.specs.Table.{is_same_partition, is_same_volume, is_same_tree, is_same_logbook, is_same_port, users_of, ends_of, has_repeats, all_of, tree_row, logbook_row, channel_row, rows_from, refuse_if, table_of_rows, table_of_known, table_of_parsed, table_of_written, table_of_document, table_of}
use Rattle.table_model.specs.Reading.{◌>>=◌, document_from}
use Rattle.table_model.specs.declared.errors.TableError.{TableError}
use Rattle.table_model.specs.declared.errors.TableError.TheVariants.{TooLong, NotToml, VolumeOverfull, ImageTooLarge, Repeated, UnknownName}
use Rattle.table_model.proofs.Judged.{few_good}
use Rattle.table_model.proofs.JudgedRows.{good_partition, good_volume, good_tree, good_logbook, good_channel, good_named, good_others, good_written, judges_document}
use Rattle.table_model.proofs.Found.{and_then_some, map_some}
use Rattle.table_model.proofs.Accepting.{Known, rows_accepted}
use Rattle.table_model.proofs.Tables.{reading_is_table}

-- ---- steps

passed : (b : Bool) (e : TableError) (next : Result Rows TableError) (rows : Rows) → refuse_if b e next ≡ Ok rows → (b ≡ false) × (next ≡ Ok rows)
passed true e next rows h = absurd cc
passed false e next rows h = (refl, h)

was_true : (b : Bool) → not b ≡ false → b ≡ true
was_true true h = refl
was_true false h = absurd cc

fitting : (table rows : Rows) → table_of_rows table ≡ Ok rows → (table ≡ rows) × (fits_volumes table ≡ true) × (fits_image table ≡ true)
unfolding table_of_rows
fitting table rows h =
    let a = passed (not (fits_volumes table)) VolumeOverfull (refuse_if (not (fits_image table)) ImageTooLarge (Ok table)) rows h in
    let b = passed (not (fits_image table)) ImageTooLarge (Ok table) rows a.1 in
    let e : table ≡ rows = cc (b.1) in
    (e, was_true (fits_volumes table) a.0, was_true (fits_image table) b.0)

known : (o : Option Rows) (rows : Rows) → table_of_known o ≡ Ok rows → (table : Rows) × (o ≡ Some table) × (table_of_rows table ≡ Ok rows)
known None rows h = absurd (let e : ◌≡◌ {A = Result Rows TableError} (Err UnknownName) (Ok rows) = h in cc)
known (Some table) rows h = (table, refl, h)

written_ok : (w : Written) (rows : Rows) → table_of_written w ≡ Ok rows → (has_repeats w ≡ false) × (table_of_known (rows_from w) ≡ Ok rows)
unfolding table_of_written
written_ok w rows h = passed (has_repeats w) Repeated (table_of_known (rows_from w)) rows h

-- ---- acceptance

six_parts : (a b c d e f : Bool) → not (a && b && c && d && e && f) ≡ false → (a ≡ true) × (b ≡ true) × (c ≡ true) × (d ≡ true) × (e ≡ true) × (f ≡ true)
six_parts a b c d e f h =
    let v = and_parts (a && b && c && d && e) f (was_true (a && b && c && d && e && f) h) in
    let u = and_parts (a && b && c && d) e v.0 in
    let t = and_parts (a && b && c) d u.0 in
    let s = and_parts (a && b) c t.0 in
    let r = and_parts a b s.0 in
    (r.0, r.1, s.1, t.1, u.1, v.1)

resolved_accepted : (w : Written) (table : Rows) → good_written w ≡ true → has_repeats w ≡ false → rows_from w ≡ Some table → fits_volumes table ≡ true → fits_image table ≡ true → IsAccepted table
resolved_accepted w table good differ found =
    let make : List TreeRow → List LogbookRow → List ChannelRow → Rows = λ trees logbooks channels. record { partitions = w.partitions; volumes = w.volumes; trees = trees; logbooks = logbooks; channels = channels } in
    let a = and_then_some (all_of (tree_row w.partitions w.volumes) w.trees) (λ trees. option_and_then (λ logbooks. option_map (make trees logbooks) (all_of (channel_row w.partitions) w.channels)) (all_of (logbook_row w.partitions) w.logbooks)) table found in
    let b = and_then_some (all_of (logbook_row w.partitions) w.logbooks) (λ logbooks. option_map (make a.0 logbooks) (all_of (channel_row w.partitions) w.channels)) table a.2 in
    let c = map_some (all_of (channel_row w.partitions) w.channels) (make a.0 b.0) table b.2 in
    let g = and_parts (good_named (w.partitions, w.volumes)) (good_others (w.trees, (w.logbooks, w.channels))) good in
    let named = and_parts (few_good 1 16 good_partition w.partitions) (few_good 0 8 good_volume w.volumes) g.0 in
    let others = and_parts (few_good 0 32 good_tree w.trees) (few_good 0 32 good_logbook w.logbooks && few_good 0 32 good_channel w.channels) g.1 in
    let later = and_parts (few_good 0 32 good_logbook w.logbooks) (few_good 0 32 good_channel w.channels) others.1 in
    let apart = six_parts (all_differ is_same_partition w.partitions) (all_differ is_same_volume w.volumes) (all_differ is_same_tree w.trees) (all_differ is_same_logbook w.logbooks)
    (list_all (λ row. all_differ bytes_eq (users_of row)) w.trees) (all_differ is_same_port (flat_map ends_of w.channels)) differ in
    let facts : Known w.partitions w.volumes w.trees w.logbooks w.channels a.0 b.0 c.0 = record {
      partitions = named.0;
      volumes = named.1;
      trees = others.0;
      logbooks = later.0;
      channels = later.1;
      partitions_differ = apart.0;
      volumes_differ = apart.1;
      trees_differ = apart.2;
      logbooks_differ = apart.3;
      users_differ = apart.4;
      ports_differ = apart.5;
      tree_rows = a.1;
      logbook_rows = b.1;
      channel_rows = c.1;
    } in
    subst (λ t. fits_volumes t ≡ true → fits_image t ≡ true → IsAccepted t) c.2 (rows_accepted w.partitions w.volumes w.trees w.logbooks w.channels a.0 b.0 c.0 facts)

rows_ok : (w : Written) (rows : Rows) → good_written w ≡ true → table_of_written w ≡ Ok rows → IsAccepted rows
rows_ok w rows good h =
    let a = written_ok w rows h in
    let b = known (rows_from w) rows a.1 in
    let c = fitting b.0 rows b.2 in
    subst IsAccepted c.0 (resolved_accepted w b.0 good a.0 b.1 c.1 c.2)

read_ok : (top : Members) (r : Result Written TableError) (rows : Rows) → r ≡ document_from top → (r >>= table_of_written) ≡ Ok rows → IsAccepted rows
read_ok top (Ok w) rows is h =
    let j = judges_document top in
    let p = j.ok w (sym is) in
    rows_ok w rows p.2 h
read_ok top (Err e) rows is h = absurd (let no : ◌≡◌ {A = Result Rows TableError} (Err e) (Ok rows) = h in cc)

document_accepted : (top : Members) (rows : Rows) → table_of_document top ≡ Ok rows → IsAccepted rows
document_accepted top rows h = read_ok top (document_from top) rows refl (reading_is_table top ∙ h)

parsed_accepted : (o : Option Members) (rows : Rows) → table_of_parsed o ≡ Ok rows → IsAccepted rows
parsed_accepted None rows h = absurd (let no : ◌≡◌ {A = Result Rows TableError} (Err NotToml) (Ok rows) = h in cc)
parsed_accepted (Some top) rows h = document_accepted top rows h

-- a table that a text says is accepted
pub table_accepted : (bytes : List ℕ) (rows : Rows) → table_of bytes ≡ Ok rows → IsAccepted rows
unfolding table_of
table_accepted bytes rows h =
    let a = passed (ltb 65536 (length bytes)) TooLong (refuse_if (not (is_utf8 bytes)) NotToml (table_of_parsed (parse_document bytes))) rows h in
    let b = passed (not (is_utf8 bytes)) NotToml (table_of_parsed (parse_document bytes)) rows a.1 in
    parsed_accepted (parse_document bytes) rows b.1
