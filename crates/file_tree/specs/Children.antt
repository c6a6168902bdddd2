-- What stands at a name of a directory.
use Rattle.std.specs.Prelude.{◌≡◌, List, Some, None}
use Rattle.apex_model.specs.Trees.{Name, directory, file, standing_at}
use Rattle.file_tree.specs.declared.child.Child.{Child}
use Rattle.file_tree.specs.declared.child.Child.TheVariants.{Nothing, File, Directory}
use Rattle.file_tree.specs.Entries.{TreeValue, slot, way_of}

-- whether this is what stands at a path
abbrev pub IsChildAt : TreeValue → List Name → Child → Type 0
IsChildAt v path Nothing = standing_at v.nodes path ≡ None
IsChildAt v path (File f) = (slot v.files f.0 ≡ Some path) × (standing_at v.nodes path ≡ Some (file f.0))
IsChildAt v path (Directory d) = (way_of v d.0 ≡ Some path) × (standing_at v.nodes path ≡ Some directory)
