use Rattle.table_model.specs.Reading.{other_rows, and_also}
use Rattle.config_table.proofs.Both.{both_give}
use Rattle.config_table.proofs.document.other_rows.Goals as goal

pub returns : goal.returns
unfolding other_rows
returns c =
    let p = rw c.value_at.ensures at c.optional_list-trees.ensures.value in
    let q = rw c.value_at-2.ensures at c.optional_list-logbooks.ensures.value in
    let r = rw c.value_at-3.ensures at c.optional_list-channels.ensures.value in
    let others = both_give (λ v. v.items) (λ v. v.items) c.optional_list-logbooks.result c.optional_list-channels.result _ _ q r in
    rw (c.and_also.ensures, c.and_also-others.ensures)
    (both_give (λ v. v.items) (λ x. (x.0.items, x.1.items)) c.optional_list-trees.result (and_also c.optional_list-logbooks.result c.optional_list-channels.result) _ _ p others)
