-- What is left of a service once a path was walked.
use Rattle.std.specs.Prelude.{nat_le, is_some}
use Rattle.apex_types.specs.Rows.{Rows}
use Rattle.apex_types.specs.declared.codes.Errno.TheVariants.{Eexist, Enospc}
use Rattle.apex_types.specs.declared.replies.Values.TheVariants.{Empty}
use Rattle.apex_model.specs.FileStep.{FileOutcome}
use Rattle.apex_model.specs.FileSystem.{FileSystem, tree_in, with_tree, directory_limit}
use Rattle.apex_model.specs.Outcomes.{accepted, refuse_if}
use Rattle.apex_model.specs.Tables.{Place}
use Rattle.apex_model.specs.Trees.{directory, standing_at, with_node, directory_count}

-- MAKE_DIRECTORY at a place to which its path leads
abbrev pub make_at : Rows → FileSystem → Place → FileOutcome
make_at table fs place =
    refuse_if (is_some (standing_at (tree_in fs place.tree) place.names)) Eexist (
    refuse_if (nat_le (directory_limit table place.tree) (directory_count (tree_in fs place.tree))) Enospc (accepted
    (with_tree fs place.tree (with_node (tree_in fs place.tree) place.names directory)) Empty))
