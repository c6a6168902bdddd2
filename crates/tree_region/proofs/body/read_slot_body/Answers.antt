use Rattle.std.proofs.Common.{◌≡◌, ◌+◌, ◌*◌, ◌≤◌, ℕ, List, Option, Some, None, length, take, sym, ap, subst, ◌∙◌, arith, []}
use Rattle.std.proofs.lemmas.List.{length-replicate, length-take-le}
use Rattle.std.specs.Prelude.{slice_index_or}
use Rattle.apex_model.specs.Fields.{header_of}
use Rattle.apex_model.specs.Trees.{Name}
use Rattle.file_tree.specs.Bodies.{tree_by, tree_in_body}
use Rattle.file_tree.specs.Entries.{TreeValue}
use Rattle.apex_model.specs.Fields.{entry_of_bytes}
use Rattle.apex_model.specs.Image.{entry_bytes}
use Rattle.tree_region.specs.Numbers.{numbers_in, rest_of, most_blocks}
use Rattle.tree_region.proofs.Lists.{answers-length}
use Rattle.tree_region.proofs.GoodNumbers.{good-table}
use Rattle.tree_region.proofs.TableNumbers.{table-numbers}
use Rattle.tree_region.proofs.Tables.{lists-long, rooms-are}
use Rattle.tree_region.specs.Bodies.{HasEntries}
use Rattle.tree_region.specs.Numbers.{HasTable}
use Rattle.tree_region.proofs.ReadEntries.{entries-read, no-tree-there}
use Rattle.tree_region.proofs.body.read_slot_body.Goals as goal

long-front : (quota entries : ℕ) (bytes : List ℕ) → 64 + 128 * entries + 4 * quota ≤ length bytes → length (take 64 bytes) ≡ 64
long-front quota entries bytes h = length-take-le 64 bytes (omega (arith, h))

pub slice_bounds-body_header-end : goal.slice_bounds-body_header-end
slice_bounds-body_header-end c = sym (long-front c.args.row.now.quota (c.args.row.now.files + c.args.row.now.directories) c.args.bytes.now c.requires)

pub body_header-requires : goal.body_header-requires
body_header-requires c = long-front c.args.row.now.quota (c.args.row.now.files + c.args.row.now.directories) c.args.bytes.now c.requires

pub returns-then-not-read_body-clause-body : goal.returns-then-not-read_body-clause-body
returns-then-not-read_body-clause-body c = λ blocks long.
    let files : length c.in_ok-tree.tree.files ≡ c.args.row.now.files
    = ap (λ (v : TreeValue). length v.files) c.in_ok-tree.ensures.tree ∙ length-replicate {A = Option (List Name)} c.args.row.now.files None in
    let directories : length c.in_ok-tree.tree.directories ≡ c.args.row.now.directories
    = ap (λ (v : TreeValue). length v.directories) c.in_ok-tree.ensures.tree ∙ length-replicate {A = Option (List Name)} c.args.row.now.directories None in
    no-tree-there c.args.row.now c.args.bytes.now blocks long
    ((λ i. tree_in_body (sym files i) (sym directories i) c.args.bytes.now) ∙ c.if-not-read_body.ensures.tree.0)

pub returns-clause-body : goal.returns-clause-body
returns-clause-body c =
    let row = c.args.row.now in
    let bytes = c.args.bytes.now in
    let files : length c.in_ok-tree.tree.files ≡ row.files
    = ap (λ (v : TreeValue). length v.files) c.in_ok-tree.ensures.tree ∙ length-replicate {A = Option (List Name)} row.files None in
    let directories : length c.in_ok-tree.tree.directories ≡ row.directories
    = ap (λ (v : TreeValue). length v.directories) c.in_ok-tree.ensures.tree ∙ length-replicate {A = Option (List Name)} row.directories None in
    let header : header_of (take 64 bytes) ≡ Some (c.in-Some.field-0-0, c.in-Some.version) = sym c.in-Some.ensures in
    let table : HasTable c.in-Some.version row bytes c.in-Some-2.table = rw c.in-Some-2.is at c.in_ok-table.ensures in
    let read = ap (λ o. tree_by o row.files row.directories bytes) (sym header) ∙ (λ i. tree_in_body (sym files i) (sym directories i) bytes) ∙ c.if-not-read_body.ensures.tree in (
      λ blocks long.
          let entries = entries-read c.in-Some.version row bytes blocks c.read_body.new.self table.fields long read table.spelled table.good in
          record {
            sequence = c.in-Some.field-0-0;
            header = header;
            entries = entries.0;
            spelled = entries.1;
            read = subst (λ (ns : List (List ℕ)). HasEntries blocks c.read_body.new.self ns entries.0) (sym table.files) entries.2;
          },
      table.used,
    )

pub returns-clause-rooms : goal.returns-clause-rooms
returns-clause-rooms c =
    let row = c.args.row.now in
    let bytes = c.args.bytes.now in
    let table : HasTable c.in-Some.version row bytes c.in-Some-2.table = rw c.in-Some-2.is at c.in_ok-table.ensures in
    let many = answers-length (λ k. entry_of_bytes c.in-Some.version (entry_bytes bytes k)) 0 row.files table.fields table.spelled in
    record {
      files = ap length table.files ∙ lists-long (most_blocks row) table.fields (numbers_in row bytes) ∙ many;
      rooms = λ f less. ap (λ (ls : List (List ℕ)). length (slice_index_or ls f [])) table.files ∙ rooms-are row table.fields (numbers_in row bytes) (rest_of row bytes) table.good f (omega (arith, less, many));
    }

pub returns-clause-numbers : goal.returns-clause-numbers
returns-clause-numbers c =
    let table : HasTable c.in-Some.version c.args.row.now c.args.bytes.now c.in-Some-2.table = rw c.in-Some-2.is at c.in_ok-table.ensures in
    table-numbers c.in-Some.version c.args.row.now c.args.bytes.now c.in-Some-2.table table

pub returns-clause-files : goal.returns-clause-files
returns-clause-files c = (
  c.read_body.ensures.files ∙ ap (λ (v : TreeValue). length v.files) c.in_ok-tree.ensures.tree ∙ length-replicate {A = Option (List Name)} c.args.row.now.files None,
  c.in_ok-tree.ensures.few.0,
)

pub returns-clause-directories : goal.returns-clause-directories
returns-clause-directories c = (
  c.read_body.ensures.directories ∙ ap (λ (v : TreeValue). length v.directories) c.in_ok-tree.ensures.tree ∙ length-replicate {A = Option (List Name)} c.args.row.now.directories None,
  c.in_ok-tree.ensures.few.1,
)

pub returns-clause-good : goal.returns-clause-good
returns-clause-good c =
    let row = c.args.row.now in
    let bytes = c.args.bytes.now in
    let files : length c.in_ok-tree.tree.files ≡ row.files
    = ap (λ (v : TreeValue). length v.files) c.in_ok-tree.ensures.tree ∙ length-replicate {A = Option (List Name)} row.files None in
    let directories : length c.in_ok-tree.tree.directories ≡ row.directories
    = ap (λ (v : TreeValue). length v.directories) c.in_ok-tree.ensures.tree ∙ length-replicate {A = Option (List Name)} row.directories None in
    let header : header_of (take 64 bytes) ≡ Some (c.in-Some.field-0-0, c.in-Some.version) = sym c.in-Some.ensures in
    let table : HasTable c.in-Some.version row bytes c.in-Some-2.table = rw c.in-Some-2.is at c.in_ok-table.ensures in
    let read = ap (λ o. tree_by o row.files row.directories bytes) (sym header) ∙ (λ i. tree_in_body (sym files i) (sym directories i) bytes) ∙ c.if-not-read_body.ensures.tree in
    good-table c.in-Some.version row bytes c.read_body.new.self c.in-Some-2.table read table
