use Rattle.std.proofs.Common.{refl}
use Rattle.table_model.specs.Reading.{tree_sizes}
use Rattle.config_table.proofs.rows.tree_sizes.Goals as goal

pub returns : goal.returns
unfolding tree_sizes
returns c =
    rw (c.and_also.ensures, c.and_also-files.ensures, c.and_also-directories.ensures, c.short_read.ensures, c.byte_read.ensures, c.byte_read-2.ensures, c.byte_read-3.ensures) refl
