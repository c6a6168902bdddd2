use Rattle.table_model.specs.Reading.{channel_ends}
use Rattle.config_table.proofs.Both.{both_give, exactly}
use Rattle.config_table.proofs.rows.channel_ends.Goals as goal

pub returns : goal.returns
unfolding channel_ends
returns c =
    rw c.and_also.ensures
    (both_give (λ x. x) (λ x. x) c.port_read.result c.destinations-destinations.result _ _ (exactly c.port_read.result _ c.port_read.ensures) c.destinations-destinations.ensures)
