use Rattle.std.proofs.Common.{◌≡◌, ◌+◌, ◌-◌, ◌*◌, ◌≤◌, length, take, drop, List, ℕ, subst, sym, ap, ◌∙◌, arith}
use Rattle.std.proofs.lemmas.List.{take_rest}
use Rattle.std.proofs.lemmas.List.FromFn.{length-map-range_with_len}
use Rattle.apex_types.specs.declared.fields.FileEntryField.{FileEntryField}
use Rattle.apex_model.specs.Fields.{entry_of_bytes}
use Rattle.apex_model.specs.Image.{block_number, entry_bytes, has_good_blocks}
use Rattle.tree_region.specs.Numbers.{AreUsed, numbers_in, rest_of, numbers_by_file, most_blocks}
use Rattle.tree_region.proofs.Lists.{answers-length}
use Rattle.tree_region.proofs.Tables.{block_sum, good-room}
use Rattle.tree_region.proofs.table.read_table.Goals as goal

pub named_blocks-requires-clause-few : goal.named_blocks-requires-clause-few
named_blocks-requires-clause-few c =
    let given = rw c.in-Some.is at c.in_ok-fields.ensures in
    let many : length c.deref.result.now ≡ c.args.row.now.files
    = ap length c.deref.ensures.value
    ∙ answers-length (λ k. entry_of_bytes c.args.version (entry_bytes c.args.body.now k)) 0 c.args.row.now.files c.in-Some.fields.items (sym given) in
    omega arith

pub named_blocks-requires-clause-many : goal.named_blocks-requires-clause-many
named_blocks-requires-clause-many c =
    ap length (c.deref-2.ensures.value ∙ c.in_ok-numbers.ensures)
    ∙ length-map-range_with_len (block_number c.args.body.now (c.args.row.now.files + c.args.row.now.directories)) 0 c.args.row.now.quota

pub numbers_of_files-requires : goal.numbers_of_files-requires
numbers_of_files-requires c =
    let used = rw c.in-Some-2.is at c.in_ok-used.ensures in
    let many : length c.deref-2.result.now ≡ c.args.row.now.quota
    = ap length (c.deref-2.ensures.value ∙ c.in_ok-numbers.ensures)
    ∙ length-map-range_with_len (block_number c.args.body.now (c.args.row.now.files + c.args.row.now.directories)) 0 c.args.row.now.quota in
    let behind = 64 + 128 * (c.args.row.now.files + c.args.row.now.directories) + 4 * c.args.row.now.quota in
    let room = good-room c.args.row.now c.deref.result.now c.deref-2.result.now (take (length c.args.body.now - behind) (drop behind c.args.body.now)) many used.0 in
    let fields : c.deref.result.now ≡ c.deref-3.result.now = c.deref.ensures.value ∙ sym c.deref-3.ensures.value in
    let numbers : c.deref-2.result.now ≡ c.deref-4.result.now = c.deref-2.ensures.value ∙ sym c.deref-4.ensures.value in
    subst (λ (fs : List FileEntryField). block_sum fs ≤ length c.deref-4.result.now) fields
    (subst (λ (ns : List ℕ). block_sum c.deref.result.now ≤ length ns) numbers room)

pub returns : goal.returns
returns c =
    let row = c.args.row.now in
    let body = c.args.body.now in
    let fields = c.in-Some.fields.items in
    let given = rw c.in-Some.is at c.in_ok-fields.ensures in
    let named = rw c.in-Some-2.is at c.in_ok-used.ensures in
    let behind = 64 + 128 * (row.files + row.directories) + 4 * row.quota in
    let numbers : c.deref-2.result.now ≡ numbers_in row body = c.deref-2.ensures.value ∙ c.in_ok-numbers.ensures in
    let room : c.from-room.result ≡ most_blocks row = search arith in
    let rest : take (length body - behind) (drop behind body) ≡ rest_of row body = take_rest body behind in
    record {
      fields = fields;
      spelled = sym given;
      good = (λ i. has_good_blocks row (sym c.deref.ensures.value i) (sym numbers i) (sym rest i)) ∙ named.0;
      files = c.in_ok-files.ensures ∙ (λ i. numbers_by_file (room i) (c.deref-3.ensures.value i) ((c.deref-4.ensures.value ∙ c.in_ok-numbers.ensures) i));
      used = subst (λ (ns : List ℕ). AreUsed row.quota ns c.in-Some-2.used) numbers named.1;
    }
