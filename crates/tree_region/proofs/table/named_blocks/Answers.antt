use Rattle.std.proofs.Common.{◌≡◌, ◌*◌, ◌≤◌, true, sym, ap, ◌∙◌, arith, nat_le}
use Rattle.std.proofs.lemmas.List.{take_rest}
use Rattle.std.specs.List.{list_all}
use Rattle.apex_model.specs.Fields.{is_padding}
use Rattle.tree_region.proofs.Tables.{good-from}
use Rattle.tree_region.proofs.table.named_blocks.Goals as goal

pub returns : goal.returns
returns c =
    let row = c.args.row.now in
    let numbers = c.args.numbers.now in
    let within : c.all_blocks-count.result ≤ row.quota = omega (arith, c.if-count-from.false, c.from.ensures) in
    let few : list_all (λ n. nat_le n (2 * row.quota)) numbers ≡ true
    = ap (λ k. list_all (λ n. nat_le n (2 * k)) numbers) (sym c.from-2.ensures) ∙ sym c.are_within.ensures ∙ c.if-not-are_within.false in
    good-from row c.args.fields.now numbers c.args.rest.now c.all_blocks-count.result c.all_blocks-count.ensures within
    (sym c.have_good_sizes.ensures ∙ c.if-not-have_good_sizes.false) few (ap is_padding (sym (take_rest numbers c.all_blocks-count.result)) ∙ sym c.are_zero.ensures ∙ c.if-not-are_zero.false) (sym c.is_zero.ensures ∙ c.if-not-is_zero.false)
    c.used_blocks.result c.used_blocks.ensures
