use Rattle.table_model.specs.Reading.{tree_users, and_also}
use Rattle.config_table.proofs.Both.{both_give, exactly}
use Rattle.config_table.proofs.rows.tree_users.Goals as goal

pub returns : goal.returns
unfolding tree_users
returns c =
    let users = both_give (λ x. x) (λ x. x) c.name_read.result c.readers.result _ _ (exactly c.name_read.result _ c.name_read.ensures) c.readers.ensures in
    rw (c.and_also.ensures, c.and_also-users.ensures)
    (both_give (λ x. x) (λ x. x) c.name_read-2.result (and_also c.name_read.result c.readers.result) _ _ (exactly c.name_read-2.result _ c.name_read-2.ensures) users)
