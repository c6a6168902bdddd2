-- A table with more rows.
use Rattle.std.specs.Prelude.{List, ◌++◌}
use Rattle.apex_types.specs.Rows.{Rows}
use Rattle.apex_types.specs.declared.rows.PartitionRow.{PartitionRow}
use Rattle.apex_types.specs.declared.rows.VolumeRow.{VolumeRow}
use Rattle.apex_types.specs.declared.rows.TreeRow.{TreeRow}
use Rattle.apex_types.specs.declared.rows.LogbookRow.{LogbookRow}
use Rattle.apex_types.specs.declared.rows.ChannelRow.{ChannelRow}

abbrev pub with_partitions : Rows → List PartitionRow → Rows
with_partitions table rows = record table { partitions = table.partitions ++ rows }

abbrev pub with_volumes : Rows → List VolumeRow → Rows
with_volumes table rows = record table { volumes = table.volumes ++ rows }

abbrev pub with_trees : Rows → List TreeRow → Rows
with_trees table rows = record table { trees = table.trees ++ rows }

abbrev pub with_logbooks : Rows → List LogbookRow → Rows
with_logbooks table rows = record table { logbooks = table.logbooks ++ rows }

abbrev pub with_channels : Rows → List ChannelRow → Rows
with_channels table rows = record table { channels = table.channels ++ rows }
