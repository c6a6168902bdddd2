use Rattle.config_table.proofs.Appending.{canonical}
use Rattle.config_table.proofs.bytes.table_bytes.Goals as goal

pub returns : goal.returns
returns c =
    canonical c.args.table.now c.new-bytes.result c.push.new.self c.put_list.new.bytes c.put_list-2.new.bytes c.put_list-3.new.bytes c.put_list-4.new.bytes c.put_list-5.new.bytes c.new-bytes.ensures c.in_ok-push.ensures.ok
    (rw c.partitions.ensures at c.in_ok-put_list.ensures) (rw c.volumes.ensures at c.in_ok-put_list-2.ensures) (rw c.trees.ensures at c.in_ok-put_list-3.ensures) (rw c.logbooks.ensures at c.in_ok-put_list-4.ensures)
    (rw c.channels.ensures at c.in_ok-put_list-5.ensures)
