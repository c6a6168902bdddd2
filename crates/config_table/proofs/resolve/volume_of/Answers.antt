use Rattle.config_table.proofs.resolve.volume_of.Goals as goal

pub returns-in-Some : goal.returns-in-Some
returns-in-Some c = rw c.bytes.ensures.value at c.in-Some.ensures.value

pub returns-in-None : goal.returns-in-None
returns-in-None c = rw c.bytes.ensures.value at c.in-None.ensures.value
