use Rattle.table_model.specs.Reading.{named_rows}
use Rattle.std.proofs.Common.{◌≤◌, length}
use Rattle.config_table.specs.WrittenRows.{HasFewNamed}
use Rattle.config_table.proofs.Both.{both_give, also_ok}
use Rattle.config_table.proofs.document.named_rows.Goals as goal

pub returns-clause-value : goal.returns-clause-value
unfolding named_rows
returns-clause-value c =
    let p = rw c.value_at.ensures at c.needed_list-partitions.ensures.value in
    let q = rw c.value_at-2.ensures at c.optional_list-volumes.ensures.value in
    rw c.and_also.ensures (both_give (λ v. v.items) (λ v. v.items) c.needed_list-partitions.result c.optional_list-volumes.result _ _ p q)

pub returns-clause-few : goal.returns-clause-few
returns-clause-few c =
    rw c.and_also.ensures
    (also_ok c.needed_list-partitions.result c.optional_list-volumes.result (λ v. length v.items ≤ 16) (λ v. length v.items ≤ 8) HasFewNamed (λ x y p q. record { partitions = p; volumes = q })
    c.needed_list-partitions.ensures.few c.optional_list-volumes.ensures.few)
