-- The entry of a directory with the least name behind the last one given.
use Rattle.std.specs.Prelude.{◌≡◌, ◌≢◌, ℕ, Bool, false, ◌<◌, ◌&&◌, ◌==◌, List, Option, Some, None, length, if◌then◌else◌}
use Rattle.std.specs.declared.cmp.Ordering.TheVariants.{Greater}
use Rattle.std.specs.Ordering.{is_lt}
use Rattle.apex_types.specs.declared.fields.Spot.{Spot}
use Rattle.apex_types.specs.declared.fields.Spot.TheVariants.{File, Directory}
use Rattle.apex_model.specs.Trees.{Name, name_cmp, is_behind}
use Rattle.file_tree.specs.declared.entries.Entry.{Entry}
use Rattle.file_tree.specs.Entries.{slot}

-- whether an entry stands in this directory, behind this name
abbrev pub is_listed : ℕ → Option Name → Entry → Bool
is_listed parent after entry = (entry.parent.0 == parent) && is_behind after entry.name

-- the name of the entry at a place, if it stands in this directory, behind this name
abbrev pub listed_name : ℕ → Option Name → Option Entry → Option Name
listed_name parent after None = None
listed_name parent after (Some entry) = if is_listed parent after entry then Some entry.name else None

-- a place below k whose name is the least of those below k
pub record IsLeastPlace (parent : ℕ) (after : Option Name) (entries : List (Option Entry)) (k place : ℕ) : Type 0 where
  pub name : Name
  pub within : place < length entries
  pub is : listed_name parent after (slot entries place) ≡ Some name
  pub least : (j : ℕ) (other : Name) → j < k → listed_name parent after (slot entries j) ≡ Some other → name_cmp name other ≢ Greater

-- the place below k whose name is the least of those below k, or none where there are none
abbrev pub IsLeastBelow : ℕ → Option Name → List (Option Entry) → ℕ → Option ℕ → Type 0
IsLeastBelow parent after entries k None = (j : ℕ) → j < k → listed_name parent after (slot entries j) ≡ None
IsLeastBelow parent after entries k (Some place) = IsLeastPlace parent after entries k place

-- whether the second entry's name comes first
abbrev pub is_second_first : Option Entry → Option Entry → Bool
is_second_first None second = false
is_second_first (Some first) None = false
is_second_first (Some first) (Some second) = is_lt (name_cmp second.name first.name)

-- what a walk would find at a file's entry, and at a directory's
abbrev pub file_spot : ℕ → Option Entry → Option Spot
file_spot k None = None
file_spot k (Some entry) = Some (File entry.parent (record { 0 = k }) entry.name)

abbrev pub directory_spot : ℕ → Option Entry → Option Spot
directory_spot d None = None
directory_spot d (Some entry) = Some (Directory entry.parent (record { 0 = d }) entry.name)
