-- A load of script lines that anyone can repeat: it is drawn from a seed, for the partitions of a table.
use Rattle.std.specs.Prelude.{ℕ, zero, suc, ◌+◌, ◌*◌, ◌/◌, ◌%◌, ◌^◌, ◌==◌, if◌then◌else◌, List, [], ◌∷◌, ◌++◌, length, map, replicate, slice_index_or, codes, decimal, Option, Some, None, option_map}
use Rattle.std.specs.List.{find}
use Rattle.apex_types.specs.Rows.{Rows}
use Rattle.apex_types.specs.declared.calls.Call.TheVariants.{File, Logbook}
use Rattle.apex_types.specs.declared.calls.Deed.{Deed}
use Rattle.apex_types.specs.declared.calls.Deed.TheVariants.{Tick, Partition}
use Rattle.apex_types.specs.declared.calls.FileCall.{FileCall}
use Rattle.apex_types.specs.declared.calls.FileCall.TheVariants as file
use Rattle.apex_types.specs.declared.calls.Line.{Line}
use Rattle.apex_types.specs.declared.calls.LogbookCall.{LogbookCall}
use Rattle.apex_types.specs.declared.calls.LogbookCall.TheVariants as logbook
use Rattle.apex_types.specs.declared.calls.OpenMode.TheVariants.{ReadWrite}
use Rattle.apex_types.specs.declared.rows.TreeRow.{TreeRow}

-- ---- draws

-- What draws: from the state of the generator to what is drawn and the state after it.
abbrev pub Draw : Type 0 → Type 0
Draw A = ℕ → A × ℕ

-- the state after a state, both below 2^31
abbrev pub next_state : ℕ → ℕ
next_state x = (1103515245 * x + 12345) % 2 ^ 31

-- a number below k, made of the new state
unfoldable pub draw : ℕ → Draw ℕ
draw k x = ((next_state x / 65536) % k, next_state x)

-- a value for which nothing is drawn
abbrev pub given : {A : Type 0} → A → Draw A
given a x = (a, x)

-- one draw, and then the one that depends on what it gave
infixl 10 ◌>>=◌
abbrev pub ◌>>=◌ : {A B : Type 0} → Draw A → (A → Draw B) → Draw B
first >>= next = λ x. next (first x).0 (first x).1

-- a number of 1 to k
unfoldable pub draw_to : ℕ → Draw ℕ
draw_to k = draw k >>= λ n. given (1 + n)

-- 1 to most bytes of data: how many, and then the value that each of them has
unfoldable pub draw_data : ℕ → Draw (List ℕ)
draw_data most = draw_to most >>= λ count. draw 256 >>= λ byte. given (replicate count byte)

-- ---- what a partition has

-- the name of a volume of the table
abbrev pub volume_name : Rows → ℕ → List ℕ
volume_name table volume = slice_index_or (map (λ row. row.name) table.volumes) volume []

-- the name of a partition of the table
abbrev pub partition_name : Rows → ℕ → List ℕ
partition_name table p = slice_index_or (map (λ row. row.name) table.partitions) p []

-- the first tree in table order that a partition owns
abbrev pub first_tree : Rows → ℕ → Option TreeRow
first_tree table p = find (λ row. row.owner.0 == p) table.trees

-- its path, `/VOLUME/OWNER`
unfoldable pub tree_path : Rows → ℕ → Option (List ℕ)
tree_path table p = option_map (λ row. codes "/" ++ volume_name table row.volume ++ codes "/" ++ partition_name table p) (first_tree table p)

-- the path of one of the files `F0` to `F7` in a tree; where there is no tree, nothing is drawn
abbrev pub draw_file : Option (List ℕ) → Draw (Option (List ℕ))
draw_file None = given None
draw_file (Some tree) = draw 8 >>= λ k. given (Some (tree ++ codes "/F" ++ decimal k))

-- the same in the partition's first tree
unfoldable pub draw_path : Rows → ℕ → Draw (Option (List ℕ))
draw_path table p = draw_file (tree_path table p)

-- the name of a partition's first logbook
unfoldable pub logbook_name : Rows → ℕ → Option (List ℕ)
logbook_name table p = option_map (λ row. row.name) (find (λ row. row.partition.0 == p) table.logbooks)

-- ---- the kinds of lines

-- a partition's call of a file service
abbrev pub file_deed : ℕ → FileCall → Deed
file_deed p call = Partition (record { 0 = p }) (File call)

-- a partition's call of a logbook service
abbrev pub logbook_deed : ℕ → LogbookCall → Deed
logbook_deed p call = Partition (record { 0 = p }) (Logbook call)

-- what is made of a path or a name; where the partition has none, `TICK 1`
abbrev pub or_tick : (List ℕ → Deed) → Option (List ℕ) → Deed
or_tick make None = Tick 1
or_tick make (Some word) = make word

-- 0: TICK n, n of 1 to 10
unfoldable pub tick : Draw Deed
tick = draw_to 10 >>= λ n. given (Tick n)

-- 1: OPEN_NEW_FILE t/Fk
unfoldable pub open_new_file : Rows → ℕ → Draw Deed
open_new_file table p = draw_path table p >>= λ path. given (or_tick (λ path. file_deed p (file.OpenNewFile path)) path)

-- 2: OPEN_FILE t/Fk READ_WRITE
unfoldable pub open_file : Rows → ℕ → Draw Deed
open_file table p = draw_path table p >>= λ path. given (or_tick (λ path. file_deed p (file.OpenFile path ReadWrite)) path)

-- 3: WRITE_FILE id data, id of 1 to 4, 1 to 64 bytes
unfoldable pub write_file : ℕ → Draw Deed
write_file p = draw_to 4 >>= λ id. draw_data 64 >>= λ bytes. given (file_deed p (file.WriteFile id bytes))

-- 4: READ_FILE id n, id of 1 to 4, n of 1 to 4,096
unfoldable pub read_file : ℕ → Draw Deed
read_file p = draw_to 4 >>= λ id. draw_to 4096 >>= λ n. given (file_deed p (file.ReadFile id n))

-- 5: SYNC_FILE id, id of 1 to 4
unfoldable pub sync_file : ℕ → Draw Deed
sync_file p = draw_to 4 >>= λ id. given (file_deed p (file.SyncFile id))

-- 6: CLOSE_FILE id, id of 1 to 4
unfoldable pub close_file : ℕ → Draw Deed
close_file p = draw_to 4 >>= λ id. given (file_deed p (file.CloseFile id))

-- 7: REMOVE_FILE t/Fk
unfoldable pub remove_file : Rows → ℕ → Draw Deed
remove_file table p = draw_path table p >>= λ path. given (or_tick (λ path. file_deed p (file.RemoveFile path)) path)

-- 8: CREATE_LOGBOOK name, of the partition's first logbook
unfoldable pub create_logbook : Rows → ℕ → Draw Deed
create_logbook table p = given (or_tick (λ name. logbook_deed p (logbook.Create name)) (logbook_name table p))

-- 9: WRITE_LOGBOOK 1 data, 1 to 16 bytes
unfoldable pub write_logbook : ℕ → Draw Deed
write_logbook p = draw_data 16 >>= λ bytes. given (logbook_deed p (logbook.Write 1 bytes))

-- ---- lines

-- what a line of this kind asks for
unfoldable pub draw_kind : Rows → ℕ → ℕ → Draw Deed
draw_kind table p kind =
    if kind == 0 then tick
    else if kind == 1 then open_new_file table p
    else if kind == 2 then open_file table p
    else if kind == 3 then write_file p
    else if kind == 4 then read_file p
    else if kind == 5 then sync_file p
    else if kind == 6 then close_file p
    else if kind == 7 then remove_file table p
    else if kind == 8 then create_logbook table p
    else write_logbook p

-- what a line asks for: a partition is drawn, then one of ten kinds, then the arguments of the kind
unfoldable pub draw_deed : Rows → Draw Deed
draw_deed table = draw (length table.partitions) >>= λ p. draw 10 >>= λ kind. draw_kind table p kind

-- so many lines, numbered from a number on
unfoldable pub draw_lines : Rows → ℕ → ℕ → Draw (List Line)
draw_lines table number zero = given []
draw_lines table number (suc count) =
    draw_deed table >>= λ deed. draw_lines table (number + 1) count >>= λ lines. given (record { number = number; deed = deed } ∷ lines)

-- the lines that a seed makes, numbered from 1
unfoldable pub generated : Rows → ℕ → ℕ → List Line
generated table seed lines = (draw_lines table 1 lines (seed % 2 ^ 31)).0
