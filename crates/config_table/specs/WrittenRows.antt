-- The rows that the code has read, beside those of the definition.
use Rattle.std.specs.Prelude.{◌≤◌, List, length, Vec}
use Rattle.std.specs.declared.alloc.Global.{Global}
use Rattle.apex_types.specs.declared.rows.PartitionRow.{PartitionRow}
use Rattle.apex_types.specs.declared.rows.VolumeRow.{VolumeRow}
use Rattle.table_model.specs.Document.{Written}
use Rattle.table_model.specs.declared.written.WrittenTree.{WrittenTree}
use Rattle.table_model.specs.declared.written.WrittenLogbook.{WrittenLogbook}
use Rattle.table_model.specs.declared.written.WrittenChannel.{WrittenChannel}
use Rattle.config_table.specs.declared.written_rows.WrittenRows.{WrittenRows}

abbrev pub written_view : WrittenRows → Written
written_view rows = record {
  partitions = rows.partitions.items;
  volumes = rows.volumes.items;
  trees = rows.trees.items;
  logbooks = rows.logbooks.items;
  channels = rows.channels.items;
}

-- the two parts in which they are read
abbrev pub Named : Type 0
Named = Vec PartitionRow Global × Vec VolumeRow Global

abbrev pub Others : Type 0
Others = Vec WrittenTree Global × (Vec WrittenLogbook Global × Vec WrittenChannel Global)

abbrev pub named_view : Named → List PartitionRow × List VolumeRow
named_view x = (x.0.items, x.1.items)

abbrev pub others_view : Others → List WrittenTree × (List WrittenLogbook × List WrittenChannel)
others_view x = (x.0.items, (x.1.0.items, x.1.1.items))

abbrev pub rows_of : Named × Others → WrittenRows
rows_of x = record {
  partitions = x.0.0;
  volumes = x.0.1;
  trees = x.1.0;
  logbooks = x.1.1.0;
  channels = x.1.1.1;
}

-- the places of partitions and volumes fit one byte
pub record HasFewNamed (x : Named) : Type 0 where
  pub partitions : length x.0.items ≤ 16
  pub volumes : length x.1.items ≤ 8
