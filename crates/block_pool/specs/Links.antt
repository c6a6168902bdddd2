-- Lists as rings of links: the node behind each one, and the one before. Beside the nodes stands an anchor for each
-- list, from which its ring goes through its nodes and back.
use Rattle.std.specs.Prelude.{ℕ, ◌≡◌, ◌<◌, ◌+◌, ◌-◌, ◌^◌, ◌==◌, if◌then◌else◌, nat_lt, nat_le, List, [], ◌∷◌, map, length, slice_set, slice_index_or, zero, suc}
use Rattle.std.specs.List.{range_with_len}
use Rattle.block_pool.specs.Lists.{list_at, node_count, HoldsEachOnce}

-- where the link of a node leads
abbrev pub link : List ℕ → ℕ → ℕ
link links k = slice_index_or links k 0

-- each link leads to a place, and following one and then the other leads back
pub record IsPaired (next previous : List ℕ) : Type 0 where
  pub same_length : length previous ≡ length next
  pub next_within : (k : ℕ) → k < length next → link next k < length next
  pub previous_within : (k : ℕ) → k < length next → link previous k < length next
  pub back : (k : ℕ) → k < length next → link previous (link next k) ≡ k
  pub forth : (k : ℕ) → k < length next → link next (link previous k) ≡ k

-- the links behind two places exchanged
abbrev pub exchanged_next : List ℕ → ℕ → ℕ → List ℕ
exchanged_next next a b = slice_set (slice_set next a (link next b)) b (link next a)

-- and the links back to them
abbrev pub exchanged_previous : List ℕ → List ℕ → ℕ → ℕ → List ℕ
exchanged_previous next previous a b = slice_set (slice_set previous (link next a) b) (link next b) a

-- the place behind each one, where all nodes are in the first list
abbrev pub first_next : ℕ → ℕ → ℕ
first_next nodes k = if nat_lt k nodes then k + 1 else (if k == nodes then 0 else k)

-- and the place before it
abbrev pub first_previous : ℕ → ℕ → ℕ
first_previous nodes k = if k == 0 then nodes else (if nat_le k nodes then k - 1 else k)

-- following the links from one place leads through these nodes to another
abbrev pub IsPath : List ℕ → ℕ → List ℕ → ℕ → Type 0
IsPath next start [] end = link next start ≡ end
IsPath next start (node ∷ nodes) end = (link next start ≡ node) × IsPath next node nodes end

-- the nodes that the links lead through from a place on, up to an anchor
unfoldable pub walk : List ℕ → ℕ → ℕ → ℕ → List ℕ
walk next nodes zero k = []
walk next nodes (suc steps) k = if nat_lt k nodes then k ∷ walk next nodes steps (link next k) else []

-- the list behind an anchor
abbrev pub list_behind : List ℕ → ℕ → ℕ → List ℕ
list_behind next nodes i = walk next nodes nodes (link next (nodes + i))

-- the lists that the links make
unfoldable pub lists_of : ℕ → ℕ → List ℕ → List (List ℕ)
lists_of nodes lists next = map (list_behind next nodes) (range_with_len 0 lists)

-- the links make these lists of all nodes
pub record IsLinked (nodes count : ℕ) (next previous : List ℕ) (lists : List (List ℕ)) : Type 0 where
  pub lists_length : length lists ≡ count
  pub links_length : length next ≡ nodes + count
  pub fits : nodes + count < 2 ^ 32
  pub paired : IsPaired next previous
  pub rings : (i : ℕ) → i < count → IsPath next (nodes + i) (list_at lists i) (nodes + i)
  pub all_nodes : node_count lists ≡ nodes
  pub each_once : HoldsEachOnce lists
