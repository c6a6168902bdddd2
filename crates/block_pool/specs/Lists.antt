-- Lists of nodes that together hold each node once.
use Rattle.std.specs.Prelude.{ℕ, ◌≡◌, ◌<◌, ◌≤◌, ◌-◌, ◌==◌, if◌then◌else◌, List, [], ◌∷◌, ◌++◌, map, length, replicate, Option, Some, None, slice_set, slice_index_or, sum_by, count_by}
use Rattle.std.specs.List.{range_with_len}

-- the list of this number
abbrev pub list_at : List (List ℕ) → ℕ → List ℕ
list_at lists i = slice_index_or lists i []

-- the first node, if there is one
abbrev pub first_of : List ℕ → Option ℕ
first_of [] = None
first_of (node ∷ _) = Some node

-- how many nodes the lists hold together
abbrev pub node_count : List (List ℕ) → ℕ
node_count lists = sum_by length lists

-- how often the lists hold a node
abbrev pub times : ℕ → List (List ℕ) → ℕ
times node lists = sum_by (count_by (λ k. k == node)) lists

-- the nodes are the numbers from 0 on, and each stands in one list, at one place
pub record HoldsEachOnce (lists : List (List ℕ)) : Type 0 where
  pub once : (node : ℕ) → node < node_count lists → times node lists ≡ 1
  pub no_other : (number : ℕ) → node_count lists ≤ number → times number lists ≡ 0

-- all nodes in the first list, in order, and the other lists empty
abbrev pub all_in_first : ℕ → ℕ → List (List ℕ)
all_in_first nodes lists = range_with_len 0 nodes ∷ replicate (lists - 1) []

-- a list without a node
abbrev pub without : ℕ → List ℕ → List ℕ
without node [] = []
without node (k ∷ ks) = if k == node then without node ks else k ∷ without node ks

-- a node is behind the others of a list, and in no other
abbrev pub with_last : ℕ → ℕ → List (List ℕ) → List (List ℕ)
with_last node i lists = slice_set lists i (list_at lists i ++ node ∷ [])

-- the node leaves its list, and stands at the end of list i
abbrev pub moved : ℕ → ℕ → List (List ℕ) → List (List ℕ)
moved node i lists = with_last node i (map (without node) lists)

-- the nodes of a list stand behind those of another, in their order
abbrev pub emptied : ℕ → ℕ → List (List ℕ) → List (List ℕ)
emptied from to lists = slice_set (slice_set lists from []) to (list_at lists to ++ list_at lists from)

-- the same, where one list in the place of both stays as it is
abbrev pub moved_all : ℕ → ℕ → List (List ℕ) → List (List ℕ)
moved_all from to lists = if from == to then lists else emptied from to lists
