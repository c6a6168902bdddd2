-- What is drawn for a table is a line of it.
use Rattle.std.proofs.Common.{◌≡◌, ℕ, zero, suc, ◌+◌, ◌<◌, ◌≤◌, ◌==◌, Bool, true, false, if◌then◌else◌, List, Option, Some, None, length, arith}
use Rattle.std.specs.List.{AllByRecursion}
use Rattle.std.proofs.lemmas.Bool.Decides.{nat_tests}
use Rattle.std.proofs.lemmas.List.Elements.{All-replicate, recursion_from_All}
use Rattle.std.proofs.lemmas.Nat.{mod_below}
use Rattle.apex_types.specs.Rows.{Rows}
use Rattle.apex_types.specs.declared.calls.Deed.{Deed}
use Rattle.apex_model.specs.Accepted.{IsAccepted, is_within, has_good_names, is_in_range, has_no_repeats, has_known_names, fits_volumes, fits_image}
use Rattle.apex_model.specs.Lines.{IsDeedOf, IsLineOf}
use Rattle.apex_model.specs.Validity.{AreBytes}
use Rattle.apex_model.proofs.AcceptedTables.{and-left, and-right}
use Rattle.apex_types.specs.declared.calls.FileCall.TheVariants as file
use Rattle.apex_types.specs.declared.calls.LogbookCall.TheVariants as logbook
use Rattle.apex_types.specs.declared.calls.OpenMode.TheVariants.{ReadWrite}
use Rattle.stress_script.specs.Generator.{Draw, file_deed, logbook_deed, logbook_name, draw, draw_to, draw_data, draw_path, or_tick, tick, open_new_file, open_file, write_file, read_file, sync_file, close_file, remove_file, create_logbook, write_logbook, draw_kind, draw_deed, draw_lines, generated}

draw-below : (k x : ℕ) → 0 < k → (draw k x).0 < k
unfolding draw
draw-below k x h = mod_below _ k h

drawn-bytes : (most x : ℕ) → AreBytes (draw_data most x).0
unfolding draw_data
drawn-bytes most x =
    let last = (draw_to most x).1 in
    recursion_from_All (λ b. b < 256) _ (All-replicate (λ b. b < 256) (draw_to most x).0 (draw 256 last).0 (draw-below 256 last (omega arith)))

-- every deed that is drawn so is one of the table
abbrev AreOf : Rows → Draw Deed → Type 0
AreOf table deeds = (x : ℕ) → IsDeedOf table (deeds x).0

or-tick-of : (table : Rows) (make : List ℕ → Deed) (word : Option (List ℕ)) → ((w : List ℕ) → IsDeedOf table (make w)) → IsDeedOf table (or_tick make word)
or-tick-of table make None h = (omega arith, omega arith)
or-tick-of table make (Some w) h = h w

tick-of : (table : Rows) → AreOf table tick
unfolding tick draw_to
tick-of table x = let below = draw-below 10 x (omega arith) in (omega arith, omega (arith, below))

open_new_file-of : (table : Rows) (p : ℕ) → p < length table.partitions → AreOf table (open_new_file table p)
unfolding open_new_file
open_new_file-of table p lt x = or-tick-of table (λ path. file_deed p (file.OpenNewFile path)) (draw_path table p x).0 (λ w. (lt, tt))

open_file-of : (table : Rows) (p : ℕ) → p < length table.partitions → AreOf table (open_file table p)
unfolding open_file
open_file-of table p lt x = or-tick-of table (λ path. file_deed p (file.OpenFile path ReadWrite)) (draw_path table p x).0 (λ w. (lt, tt))

write_file-of : (table : Rows) (p : ℕ) → p < length table.partitions → AreOf table (write_file p)
unfolding write_file
write_file-of table p lt x = (lt, drawn-bytes 64 (draw_to 4 x).1)

read_file-of : (table : Rows) (p : ℕ) → p < length table.partitions → AreOf table (read_file p)
unfolding read_file
read_file-of table p lt x = (lt, tt)

sync_file-of : (table : Rows) (p : ℕ) → p < length table.partitions → AreOf table (sync_file p)
unfolding sync_file
sync_file-of table p lt x = (lt, tt)

close_file-of : (table : Rows) (p : ℕ) → p < length table.partitions → AreOf table (close_file p)
unfolding close_file
close_file-of table p lt x = (lt, tt)

remove_file-of : (table : Rows) (p : ℕ) → p < length table.partitions → AreOf table (remove_file table p)
unfolding remove_file
remove_file-of table p lt x = or-tick-of table (λ path. file_deed p (file.RemoveFile path)) (draw_path table p x).0 (λ w. (lt, tt))

create_logbook-of : (table : Rows) (p : ℕ) → p < length table.partitions → AreOf table (create_logbook table p)
unfolding create_logbook
create_logbook-of table p lt x = or-tick-of table (λ name. logbook_deed p (logbook.Create name)) (logbook_name table p) (λ w. (lt, tt))

write_logbook-of : (table : Rows) (p : ℕ) → p < length table.partitions → AreOf table (write_logbook p)
unfolding write_logbook
write_logbook-of table p lt x = (lt, drawn-bytes 16 x)

either-of : (table : Rows) (b : Bool) (these others : Draw Deed) → AreOf table these → AreOf table others → AreOf table (if b then these else others)
either-of table true these others h k = h
either-of table false these others h k = k

kind-of : (table : Rows) (p kind : ℕ) → p < length table.partitions → AreOf table (draw_kind table p kind)
unfolding draw_kind
kind-of table p kind lt =
    either-of table (kind == 0) _ _ (tick-of table)
    (either-of table (kind == 1) _ _ (open_new_file-of table p lt)
    (either-of table (kind == 2) _ _ (open_file-of table p lt)
    (either-of table (kind == 3) _ _ (write_file-of table p lt)
    (either-of table (kind == 4) _ _ (read_file-of table p lt)
    (either-of table (kind == 5) _ _ (sync_file-of table p lt)
    (either-of table (kind == 6) _ _ (close_file-of table p lt)
    (either-of table (kind == 7) _ _ (remove_file-of table p lt)
    (either-of table (kind == 8) _ _ (create_logbook-of table p lt) (write_logbook-of table p lt)))))))))

deed-of : (table : Rows) → 0 < length table.partitions → AreOf table (draw_deed table)
unfolding draw_deed
deed-of table some x =
    let p = draw (length table.partitions) x in
    let kind = draw 10 p.1 in
    kind-of table p.0 kind.0 (draw-below (length table.partitions) x some) kind.1

lines-of : (table : Rows) → 0 < length table.partitions → (number count x : ℕ) → 1 ≤ number → number + count ≤ 20001 → AllByRecursion (IsLineOf table) (draw_lines table number count x).0
unfolding draw_lines
lines-of table some number zero x from few = tt
lines-of table some number (suc count) x from few =
    (record { numbered = from; few = omega (arith, few); deed = deed-of table some x }, lines-of table some (number + 1) count (draw_deed table x).1 (omega arith) (omega (arith, few)))

at-least : (n : ℕ) → is_within 1 16 n ≡ true → 0 < n
at-least n h = grind (arith, nat_tests)

-- an accepted table has a partition
some-partition : (table : Rows) → IsAccepted table → 0 < length table.partitions
some-partition table a =
    let range : is_in_range table ≡ true = and-right (has_good_names table) _ (and-left _ (has_no_repeats table) (and-left _ (has_known_names table) (and-left _ (fits_volumes table) (and-left _ (fits_image table) a)))) in
    at-least (length table.partitions) (and-left _ _ (and-left _ _ (and-left _ _ (and-left _ _ (and-left _ _ (and-left _ _ (and-left _ _ (and-left _ _ range))))))))

-- the lines that a seed makes are lines of the table
pub generated-of : (table : Rows) (seed lines : ℕ) → IsAccepted table → lines ≤ 20000 → AllByRecursion (IsLineOf table) (generated table seed lines)
unfolding generated
generated-of table seed lines a few = lines-of table (some-partition table a) 1 lines _ (omega arith) (omega (arith, few))
