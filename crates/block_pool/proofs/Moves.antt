-- What the links make after a node or a list was moved.
use Rattle.std.proofs.Common.{◌≡◌, ◌≢◌, ℕ, ◌<◌, ◌≤◌, ◌+◌, List, [], ◌∷◌, ◌++◌, map, length, set, sym, ap, ◌∙◌, subst, inl, inr, arith, length-set, get_or-set_same, get_or-set_other}
use Rattle.std.proofs.lemmas.Bool.{cases_eq}
use Rattle.std.proofs.lemmas.List.{append-nil, length-map, get_or-map}
use Rattle.block_pool.specs.Lists.{list_at, node_count, without, moved, emptied}
use Rattle.block_pool.specs.Links.{link, IsPaired, IsPath, IsLinked, exchanged_next, exchanged_previous}
use Rattle.block_pool.proofs.Exchanged.{next_at_second, length-exchanged_next, IsPaired-exchanged}
use Rattle.block_pool.proofs.Paths.{Lacks, AllBelow, Lacks-above, AllBelow-more, AllBelow-append, AllBelow-without, Lacks-without, without-lacking, without-append, without-alone, IsPath-kept, IsPath-joined, IsPath-without}
use Rattle.block_pool.proofs.Counts.{AllBelow-list, length-moved, node_count-moved, HoldsEachOnce-moved, length-emptied, node_count-emptied, HoldsEachOnce-emptied}

-- the nodes of each list are nodes
pub list_below : (nodes count : ℕ) (next previous : List ℕ) (lists : List (List ℕ)) → IsLinked nodes count next previous lists → (i : ℕ) → i < count
    → AllBelow nodes (list_at lists i)
list_below nodes count next previous lists linked i h =
    subst (λ (n : ℕ). AllBelow n (list_at lists i)) linked.all_nodes (AllBelow-list lists i linked.each_once (omega (arith, h, linked.lists_length)))

-- the links after a node was taken out, and after a ring was put in front of a place
abbrev taken_next : List ℕ → List ℕ → ℕ → List ℕ
taken_next next previous node = exchanged_next next (link previous node) node

abbrev taken_previous : List ℕ → List ℕ → ℕ → List ℕ
taken_previous next previous node = exchanged_previous next previous (link previous node) node

abbrev put_next : List ℕ → List ℕ → ℕ → ℕ → List ℕ
put_next next previous node place = exchanged_next next (link previous place) node

abbrev put_previous : List ℕ → List ℕ → ℕ → ℕ → List ℕ
put_previous next previous node place = exchanged_previous next previous (link previous place) node

module _ (next previous : List ℕ) (p : IsPaired next previous) where
  -- only what stands before a place leads to it
  only_before : (place : ℕ) → place < length next → (k : ℕ) → k < length next → link next k ≡ place → k ≡ link previous place
  only_before place h k k_within e = sym (p.back k k_within) ∙ ap (link previous) e

  module _ (node : ℕ) (node_within : node < length next) where
    taken_paired : IsPaired (taken_next next previous node) (taken_previous next previous node)
    taken_paired = IsPaired-exchanged next previous p (link previous node) node (p.previous_within node node_within) node_within

    -- a node that was taken out is a ring of its own
    alone : IsPath (taken_next next previous node) node [] node
    alone = next_at_second next (link previous node) node node_within ∙ p.forth node node_within

    -- each path is without it
    path_without : (start : ℕ) (nodes : List ℕ) (end : ℕ) → start < length next → AllBelow (length next) nodes → start ≢ node → end ≢ node
        → IsPath next start nodes end → IsPath (taken_next next previous node) start (without node nodes) end
    path_without start nodes end start_within within start_not end_not h =
        IsPath-without next (link previous node) node start nodes end (p.forth node node_within) (only_before node node_within)
        (p.previous_within node node_within) node_within start_within within start_not end_not h

    module _ (place : ℕ) (place_within : place < length next) where
      put_paired : IsPaired (put_next next previous node place) (put_previous next previous node place)
      put_paired = IsPaired-exchanged next previous p (link previous place) node (p.previous_within place place_within) node_within

      -- a path to the place goes through the ring before
      path_joined : (ring : List ℕ) → IsPath next node ring node → Lacks node ring → Lacks place ring → node ≢ place
          → (start : ℕ) (nodes : List ℕ) → start < length next → AllBelow (length next) nodes → start ≢ node → Lacks node nodes → Lacks place nodes
          → IsPath next start nodes place → IsPath (put_next next previous node place) start (nodes ++ (ring ++ node ∷ [])) place
      path_joined ring around lacks lacks_place not_place start nodes start_within within start_not lacks_node lacks_place_too h =
          IsPath-joined next (link previous place) node place ring start nodes (p.forth place place_within) (only_before place place_within)
          (p.previous_within place place_within) node_within around lacks lacks_place not_place start_within within start_not lacks_node lacks_place_too h

      -- another path stays
      path_kept : (start : ℕ) (nodes : List ℕ) (end : ℕ) → start ≢ node → Lacks node nodes → Lacks place nodes → end ≢ place
          → IsPath next start nodes end → IsPath (put_next next previous node place) start nodes end
      path_kept start nodes end start_not lacks lacks_place end_not h =
          IsPath-kept next (link previous place) node place start nodes end (p.forth place place_within) start_not lacks lacks_place end_not h

-- a node that was moved stands at the end of its new list
pub IsLinked-moved : (nodes count : ℕ) (next previous : List ℕ) (lists : List (List ℕ)) → IsLinked nodes count next previous lists
    → (node i : ℕ) → node < nodes → i < count
    → (next₁ previous₁ next₂ previous₂ : List ℕ) → next₁ ≡ taken_next next previous node → previous₁ ≡ taken_previous next previous node
    → next₂ ≡ put_next next₁ previous₁ node (nodes + i) → IsPaired next₁ previous₁ → IsPaired next₂ previous₂
    → IsLinked nodes count next₂ previous₂ (moved node i lists)
IsLinked-moved nodes count next previous lists linked node i node_within i_within next₁ previous₁ next₂ previous₂ is₁ is_previous₁ is₂ paired₁ paired₂ =
    let whole = linked.links_length in
    let length₁ : length next₁ ≡ length next = ap length is₁ ∙ length-exchanged_next next (link previous node) node in
    let length₂ : length next₂ ≡ length next = ap length is₂ ∙ length-exchanged_next next₁ (link previous₁ (nodes + i)) node ∙ length₁ in
    let in_next : node < length next = omega (arith, whole) in
    let in_lists : i < length lists = omega (arith, linked.lists_length) in
    let in_nodes : node < node_count lists = omega (arith, linked.all_nodes) in
    let rest : List (List ℕ) = map (without node) lists in
    let rest_length = length-map lists (without node) in
    let rest_at : (j : ℕ) → j < count → list_at rest j ≡ without node (list_at lists j) =
    λ j h. get_or-map (without node) lists j [] [] (omega (arith, h, linked.lists_length)) in
    let below : (j : ℕ) → j < count → AllBelow nodes (list_at rest j) =
    λ j h. subst (λ (xs : List ℕ). AllBelow nodes xs) (sym (rest_at j h)) (AllBelow-without nodes node (list_at lists j) (list_below nodes count next previous lists linked j h)) in
    let lacking : (j : ℕ) → j < count → Lacks node (list_at rest j) =
    λ j h. subst (λ (xs : List ℕ). Lacks node xs) (sym (rest_at j h)) (Lacks-without node (list_at lists j)) in
    let ring₁ : (j : ℕ) → j < count → IsPath next₁ (nodes + j) (list_at rest j) (nodes + j) =
    λ j h.
    subst (λ (xs : List ℕ). IsPath next₁ (nodes + j) xs (nodes + j)) (sym (rest_at j h))
    (subst (λ (links : List ℕ). IsPath links (nodes + j) (without node (list_at lists j)) (nodes + j)) (sym is₁)
    (path_without next previous linked.paired node in_next (nodes + j) (list_at lists j) (nodes + j) (omega (arith, whole))
    (AllBelow-more nodes (length next) (list_at lists j) (omega (arith, whole)) (list_below nodes count next previous lists linked j h))
    (λ e. omega arith) (λ e. omega arith) (linked.rings j h))) in
    let alone₁ : IsPath next₁ node [] node =
    subst (λ (links : List ℕ). IsPath links node [] node) (sym is₁) (alone next previous linked.paired node in_next) in
    let in_next₁ : node < length next₁ = omega (arith, length₁) in
    let anchor_in : nodes + i < length next₁ = omega (arith, length₁, whole) in
    let joined : IsPath next₂ (nodes + i) (list_at rest i ++ node ∷ []) (nodes + i) =
    subst (λ (links : List ℕ). IsPath links (nodes + i) (list_at rest i ++ node ∷ []) (nodes + i)) (sym is₂)
    (path_joined next₁ previous₁ paired₁ node in_next₁ (nodes + i) anchor_in [] alone₁ tt tt (λ e. omega arith)
    (nodes + i) (list_at rest i) anchor_in
    (AllBelow-more nodes (length next₁) (list_at rest i) (omega (arith, length₁, whole)) (below i i_within))
    (λ e. omega arith) (lacking i i_within) (Lacks-above nodes (nodes + i) (list_at rest i) (omega arith) (below i i_within)) (ring₁ i i_within)) in
    let kept : (j : ℕ) → j < count → j ≢ i → IsPath next₂ (nodes + j) (list_at rest j) (nodes + j) =
    λ j h other.
    subst (λ (links : List ℕ). IsPath links (nodes + j) (list_at rest j) (nodes + j)) (sym is₂)
    (path_kept next₁ previous₁ paired₁ node in_next₁ (nodes + i) anchor_in (nodes + j) (list_at rest j) (nodes + j)
    (λ e. omega arith) (lacking j h) (Lacks-above nodes (nodes + i) (list_at rest j) (omega arith) (below j h)) (λ e. other (omega arith)) (ring₁ j h)) in
    record {
      lists_length = length-moved node i lists linked.each_once in_nodes in_lists ∙ linked.lists_length;
      links_length = length₂ ∙ whole;
      fits = linked.fits;
      paired = paired₂;
      rings = λ j h.
          elim (cases_eq j i) [
            | inl same ↦
                subst (λ (k : ℕ). IsPath next₂ (nodes + k) (list_at (moved node i lists) k) (nodes + k)) (sym same)
                (subst (λ (xs : List ℕ). IsPath next₂ (nodes + i) xs (nodes + i))
                (sym (get_or-set_same rest i (list_at rest i ++ node ∷ []) [] (omega (arith, rest_length, in_lists)))) joined)
            | inr other ↦
                subst (λ (xs : List ℕ). IsPath next₂ (nodes + j) xs (nodes + j))
                (sym (get_or-set_other rest i j (list_at rest i ++ node ∷ []) [] other)) (kept j h other)
          ];
      all_nodes = node_count-moved node i lists linked.each_once in_nodes in_lists ∙ linked.all_nodes;
      each_once = HoldsEachOnce-moved node i lists linked.each_once in_nodes in_lists;
    }

-- a list that was emptied stands behind the nodes of the other
pub IsLinked-emptied : (nodes count : ℕ) (next previous : List ℕ) (lists : List (List ℕ)) → IsLinked nodes count next previous lists
    → (from to : ℕ) → from ≢ to → from < count → to < count
    → (next₁ previous₁ next₂ previous₂ : List ℕ) → next₁ ≡ put_next next previous (nodes + from) (nodes + to)
    → next₂ ≡ taken_next next₁ previous₁ (nodes + from) → IsPaired next₁ previous₁ → IsPaired next₂ previous₂
    → IsLinked nodes count next₂ previous₂ (emptied from to lists)
IsLinked-emptied nodes count next previous lists linked from to other from_within to_within next₁ previous₁ next₂ previous₂ is₁ is₂ paired₁ paired₂ =
    let whole = linked.links_length in
    let gone = nodes + from in
    let anchor = nodes + to in
    let length₁ : length next₁ ≡ length next = ap length is₁ ∙ length-exchanged_next next (link previous anchor) gone in
    let length₂ : length next₂ ≡ length next = ap length is₂ ∙ length-exchanged_next next₁ (link previous₁ gone) gone ∙ length₁ in
    let gone_in : gone < length next = omega (arith, whole) in
    let anchor_in : anchor < length next = omega (arith, whole) in
    let gone_in₁ : gone < length next₁ = omega (arith, whole, length₁) in
    let from_in : from < length lists = omega (arith, linked.lists_length) in
    let to_in : to < length lists = omega (arith, linked.lists_length) in
    let below : (j : ℕ) → j < count → AllBelow nodes (list_at lists j) = λ j h. list_below nodes count next previous lists linked j h in
    let lacks : (j k : ℕ) → j < count → nodes ≤ k → Lacks k (list_at lists j) = λ j k h above. Lacks-above nodes k (list_at lists j) above (below j h) in
    let in_links : (j : ℕ) → j < count → AllBelow (length next) (list_at lists j) =
    λ j h. AllBelow-more nodes (length next) (list_at lists j) (omega (arith, whole)) (below j h) in
    let both : List ℕ = list_at lists to ++ list_at lists from in
    let long : List ℕ = list_at lists to ++ (list_at lists from ++ gone ∷ []) in
    let long_is : without gone long ≡ both =
    without-append gone (list_at lists to) (list_at lists from ++ gone ∷ []) (lacks to gone to_within (omega arith))
    ∙ ap (λ xs. list_at lists to ++ xs)
    (without-append gone (list_at lists from) (gone ∷ []) (lacks from gone from_within (omega arith))
    ∙ ap (λ xs. list_at lists from ++ xs) (without-alone gone) ∙ append-nil (list_at lists from)) in
    let joined : IsPath next₁ anchor long anchor =
    subst (λ (links : List ℕ). IsPath links anchor long anchor) (sym is₁)
    (path_joined next previous linked.paired gone gone_in anchor anchor_in (list_at lists from) (linked.rings from from_within)
    (lacks from gone from_within (omega arith)) (lacks from anchor from_within (omega arith)) (λ e. other (omega arith))
    anchor (list_at lists to) anchor_in (in_links to to_within) (λ e. other (omega arith))
    (lacks to gone to_within (omega arith)) (lacks to anchor to_within (omega arith)) (linked.rings to to_within)) in
    let long_below : AllBelow (length next₁) long =
    subst (λ (n : ℕ). AllBelow n long) (sym length₁)
    (AllBelow-append (length next) (list_at lists to) (list_at lists from ++ gone ∷ []) (in_links to to_within)
    (AllBelow-append (length next) (list_at lists from) (gone ∷ []) (in_links from from_within) (gone_in, tt))) in
    let ring_to : IsPath next₂ anchor both anchor =
    subst (λ (xs : List ℕ). IsPath next₂ anchor xs anchor) long_is
    (subst (λ (links : List ℕ). IsPath links anchor (without gone long) anchor) (sym is₂)
    (path_without next₁ previous₁ paired₁ gone gone_in₁ anchor long anchor (omega (arith, length₁)) long_below
    (λ e. other (omega arith)) (λ e. other (omega arith)) joined)) in
    let ring_from : IsPath next₂ gone [] gone =
    subst (λ (links : List ℕ). IsPath links gone [] gone) (sym is₂) (alone next₁ previous₁ paired₁ gone gone_in₁) in
    let ring_other : (j : ℕ) → j < count → j ≢ from → j ≢ to → IsPath next₂ (nodes + j) (list_at lists j) (nodes + j) =
    λ j h not_from not_to.
    let kept : IsPath next₁ (nodes + j) (list_at lists j) (nodes + j) =
    subst (λ (links : List ℕ). IsPath links (nodes + j) (list_at lists j) (nodes + j)) (sym is₁)
    (path_kept next previous linked.paired gone gone_in anchor anchor_in (nodes + j) (list_at lists j) (nodes + j)
    (λ e. not_from (omega arith)) (lacks j gone h (omega arith)) (lacks j anchor h (omega arith)) (λ e. not_to (omega arith)) (linked.rings j h)) in
    subst (λ (xs : List ℕ). IsPath next₂ (nodes + j) xs (nodes + j)) (without-lacking gone (list_at lists j) (lacks j gone h (omega arith)))
    (subst (λ (links : List ℕ). IsPath links (nodes + j) (without gone (list_at lists j)) (nodes + j)) (sym is₂)
    (path_without next₁ previous₁ paired₁ gone gone_in₁ (nodes + j) (list_at lists j) (nodes + j) (omega (arith, length₁, whole))
    (subst (λ (n : ℕ). AllBelow n (list_at lists j)) (sym length₁) (in_links j h)) (λ e. not_from (omega arith)) (λ e. not_from (omega arith)) kept)) in
    let cleared : List (List ℕ) = set lists from [] in
    let cleared_length = length-set lists from [] in
    record {
      lists_length = length-emptied from to lists linked.each_once other from_in to_in ∙ linked.lists_length;
      links_length = length₂ ∙ whole;
      fits = linked.fits;
      paired = paired₂;
      rings = λ j h.
          elim (cases_eq j to) [
            | inl same ↦
                subst (λ (k : ℕ). IsPath next₂ (nodes + k) (list_at (emptied from to lists) k) (nodes + k)) (sym same)
                (subst (λ (xs : List ℕ). IsPath next₂ anchor xs anchor)
                (sym (get_or-set_same cleared to both [] (omega (arith, cleared_length, to_in)))) ring_to)
            | inr not_to ↦ elim (cases_eq j from) [
              | inl same ↦
                  subst (λ (k : ℕ). IsPath next₂ (nodes + k) (list_at (emptied from to lists) k) (nodes + k)) (sym same)
                  (subst (λ (xs : List ℕ). IsPath next₂ gone xs gone)
                  (sym (get_or-set_other cleared to from both [] other ∙ get_or-set_same lists from [] [] from_in)) ring_from)
              | inr not_from ↦
                  subst (λ (xs : List ℕ). IsPath next₂ (nodes + j) xs (nodes + j))
                  (sym (get_or-set_other cleared to j both [] not_to ∙ get_or-set_other lists from j [] [] not_from)) (ring_other j h not_from not_to)
            ]
          ];
      all_nodes = node_count-emptied from to lists linked.each_once other from_in to_in ∙ linked.all_nodes;
      each_once = HoldsEachOnce-emptied from to lists linked.each_once other from_in to_in;
    }
