-- Folders of paths.
use Rattle.std.specs.Prelude.{ℕ, List, [], ◌∷◌, Option, None, Some}
use Rattle.std.specs.Path.{cur_dir, path_parent}

-- the folder that is a path's parent, and the present one for an empty or absent parent
abbrev pub folder_or_present : Option (List ℕ) → List ℕ
folder_or_present None = cur_dir
folder_or_present (Some []) = cur_dir
folder_or_present (Some (byte ∷ bytes)) = byte ∷ bytes

-- the folder in which a path's last name stands
abbrev pub folder_of : List ℕ → List ℕ
folder_of path = folder_or_present (path_parent path)
