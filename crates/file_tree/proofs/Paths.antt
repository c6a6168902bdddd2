-- Entries' paths and the map of them.
use Rattle.std.proofs.Common.{◌≡◌, ◌≢◌, ℕ, zero, suc, ◌+◌, ◌<◌, true, false, cond, T, not, List, [], ◌∷◌, length, set, refl, sym, ap, ◌∙◌, Option, Some, None, ◌⊎◌, inl, inr, arith, get_or-set_same, get_or-set_other}
use Rattle.std.proofs.lemmas.Bool.{cases_eq}
use Rattle.std.specs.Cmp.{tied_itself}
use Rattle.std.specs.Ordering.{is_eq, eq_by_cmp}
use Rattle.std.specs.FinMap.Entries.{find, put, is_sorted, find-put, is_sorted-put, find-where_key, is_sorted-where_key, same_entries}
use Rattle.apex_model.specs.Trees.{Name, Node, directory, file, Tree, path_cmp, without_node}
use Rattle.apex_model.proofs.Trees.{path_cmp_total, path_cmp-IsAntisymmetric, same_path}
use Rattle.file_tree.specs.Entries.{slot, Place, in_file, in_directory, path_at, node_at, put_all, nodes_of, AreDistinct}

Paths : Type 0
Paths = List (Option (List Name))

pub same_is : (q : List Name) → eq_by_cmp path_cmp q q ≡ true
same_is q = ap is_eq (tied_itself path_cmp_total q)

-- ---- what is found in the map

-- a place of a list that has a path
pub record Hit (listed : List (Option (List Name))) (q : List Name) (node : ℕ → Node ℕ) (k : ℕ) (n : Node ℕ) : Type 0 where
  pub index : ℕ
  pub is : slot listed index ≡ Some q
  pub node_is : n ≡ node (k + index)

found_in : (q : List Name) (node : ℕ → Node ℕ) (k : ℕ) (listed : List (Option (List Name))) (rest : Tree ℕ) (n : Node ℕ) → find path_cmp q (put_all node k listed rest) ≡ Some n
    → Hit listed q node k n ⊎ (find path_cmp q rest ≡ Some n)
found_in q node k [] rest n h = inr h
found_in q node k (None ∷ listed) rest n h = elim (found_in q node (k + 1) listed rest n h) [
  | inl a ↦ inl (record { index = suc a.index; is = a.is; node_is = a.node_is ∙ ap node (let e : (k + 1) + a.index ≡ k + suc a.index = omega arith in e) })
  | inr b ↦ inr b
]
found_in q node k (Some p ∷ listed) rest n h =
    (elim (eq_by_cmp path_cmp q p) as (λ b. eq_by_cmp path_cmp q p ≡ b → cond b (Some (node k)) (find path_cmp q (put_all node (k + 1) listed rest)) ≡ Some n → Hit (Some p ∷ listed) q node k n ⊎ (find path_cmp q rest ≡ Some n)) [
      | true ↦ λ t is. let first : node k ≡ n = cc in
          inl (record { index = 0; is = ap Some (sym (same_path q p t)); node_is = sym first ∙ ap node (let e : k ≡ k + 0 = omega arith in e) })
      | false ↦ λ t is. elim (found_in q node (k + 1) listed rest n is) [
        | inl a ↦ inl (record { index = suc a.index; is = a.is; node_is = a.node_is ∙ ap node (let e : (k + 1) + a.index ≡ k + suc a.index = omega arith in e) })
        | inr b ↦ inr b
      ]
    ]) refl (sym (find-put path_cmp path_cmp_total q p (node k) (put_all node (k + 1) listed rest)) ∙ h)

pub missed_in : (q : List Name) (node : ℕ → Node ℕ) (k : ℕ) (listed : List (Option (List Name))) (rest : Tree ℕ) → ((i : ℕ) → slot listed i ≢ Some q)
    → find path_cmp q (put_all node k listed rest) ≡ find path_cmp q rest
missed_in q node k [] rest h = refl
missed_in q node k (None ∷ listed) rest h = missed_in q node (k + 1) listed rest (λ i. h (suc i))
missed_in q node k (Some p ∷ listed) rest h =
    find-put path_cmp path_cmp_total q p (node k) (put_all node (k + 1) listed rest)
    ∙ (elim (eq_by_cmp path_cmp q p) as (λ b. eq_by_cmp path_cmp q p ≡ b → cond b (Some (node k)) (find path_cmp q (put_all node (k + 1) listed rest)) ≡ find path_cmp q rest) [
      | true ↦ λ t. absurd (h 0 (ap Some (sym (same_path q p t))))
      | false ↦ λ t. missed_in q node (k + 1) listed rest (λ i. h (suc i))
    ]) refl

hit_in : (q : List Name) (node : ℕ → Node ℕ) (k : ℕ) (listed : List (Option (List Name))) (rest : Tree ℕ) (i : ℕ) → slot listed i ≡ Some q → ((j : ℕ) → slot listed j ≡ Some q → j ≡ i)
    → find path_cmp q (put_all node k listed rest) ≡ Some (node (k + i))
hit_in q node k [] rest i h only = absurd (let e : ◌≡◌ {A = Option (List Name)} None (Some q) = h in cc)
hit_in q node k (None ∷ listed) rest zero h only = absurd (let e : ◌≡◌ {A = Option (List Name)} None (Some q) = h in cc)
hit_in q node k (None ∷ listed) rest (suc i) h only =
    hit_in q node (k + 1) listed rest i h (λ j s. let e : suc j ≡ suc i = only (suc j) s in omega arith) ∙ ap (λ m. Some (node m)) (let e : (k + 1) + i ≡ k + suc i = omega arith in e)
hit_in q node k (Some p ∷ listed) rest zero h only =
    find-put path_cmp path_cmp_total q p (node k) (put_all node (k + 1) listed rest)
    ∙ (let e : p ≡ q = cc in let alike : eq_by_cmp path_cmp q p ≡ true = ap (eq_by_cmp path_cmp q) e ∙ same_is q in
    ap (λ b. cond b (Some (node k)) (find path_cmp q (put_all node (k + 1) listed rest))) alike) ∙ ap (λ m. Some (node m)) (let e : k ≡ k + 0 = omega arith in e)
hit_in q node k (Some p ∷ listed) rest (suc i) h only =
    find-put path_cmp path_cmp_total q p (node k) (put_all node (k + 1) listed rest)
    ∙ (elim (eq_by_cmp path_cmp q p) as (λ b. eq_by_cmp path_cmp q p ≡ b → cond b (Some (node k)) (find path_cmp q (put_all node (k + 1) listed rest)) ≡ Some (node (k + suc i))) [
      | true ↦ λ t. absurd (let e : 0 ≡ suc i = only 0 (ap Some (sym (same_path q p t))) in omega arith)
      | false ↦ λ t. hit_in q node (k + 1) listed rest i h (λ j s. let e : suc j ≡ suc i = only (suc j) s in omega arith) ∙ ap (λ m. Some (node m)) (let e : (k + 1) + i ≡ k + suc i = omega arith in e)
    ]) refl

pub sorted_all : (node : ℕ → Node ℕ) (k : ℕ) (listed : List (Option (List Name))) (rest : Tree ℕ) → T (is_sorted path_cmp rest) → T (is_sorted path_cmp (put_all node k listed rest))
sorted_all node k [] rest h = h
sorted_all node k (None ∷ listed) rest h = sorted_all node (k + 1) listed rest h
sorted_all node k (Some p ∷ listed) rest h = is_sorted-put path_cmp path_cmp_total p (node k) (put_all node (k + 1) listed rest) (sorted_all node (k + 1) listed rest h)

-- the map is in order
pub sorted_nodes : (files directories : List (Option (List Name))) → T (is_sorted path_cmp (nodes_of files directories))
sorted_nodes files directories = sorted_all file 0 files _ (sorted_all (λ _. directory) 0 directories [] tt)

-- the entry that has a path, and what stands there
pub record Stands (files directories : List (Option (List Name))) (q : List Name) (n : Node ℕ) : Type 0 where
  pub place : Place
  pub is : path_at files directories place ≡ Some q
  pub node_is : n ≡ node_at place

-- what the map has at a path is that of an entry with the path
pub found_stands : (files directories : List (Option (List Name))) (q : List Name) (n : Node ℕ) → find path_cmp q (nodes_of files directories) ≡ Some n → Stands files directories q n
found_stands files directories q n h = elim (found_in q file 0 files _ n h) [
  | inl a ↦ record { place = in_file a.index; is = a.is; node_is = a.node_is ∙ ap file (let e : 0 + a.index ≡ a.index = omega arith in e) }
  | inr b ↦ elim (found_in q (λ _. directory) 0 directories [] n b) [
    | inl a ↦ record { place = in_directory a.index; is = a.is; node_is = a.node_is }
    | inr c ↦ absurd (let e : ◌≡◌ {A = Option (Node ℕ)} None (Some n) = c in cc)
  ]
]

pub file_number : (a b : ℕ) → in_file a ≡ in_file b → a ≡ b
file_number a b h = cc

pub directory_number : (a b : ℕ) → in_directory a ≡ in_directory b → a ≡ b
directory_number a b h = cc

pub not_both : (a b : ℕ) → in_file a ≢ in_directory b
not_both a b h = cc

-- the map has what stands at an entry's path
pub at_found : (files directories : List (Option (List Name))) → AreDistinct files directories → (a : Place) (q : List Name) → path_at files directories a ≡ Some q → find path_cmp q (nodes_of files directories) ≡ Some (node_at a)
at_found files directories distinct (in_file f) q h =
    hit_in q file 0 files _ f h (λ j s. file_number j f (distinct (in_file j) (in_file f) q s h)) ∙ ap (λ m. Some (file m)) (let e : 0 + f ≡ f = omega arith in e)
at_found files directories distinct (in_directory d) q h =
    missed_in q file 0 files _ (λ i s. not_both i d (distinct (in_file i) (in_directory d) q s h))
    ∙ hit_in q (λ _. directory) 0 directories [] d h (λ j s. directory_number j d (distinct (in_directory j) (in_directory d) q s h))

-- ---- one entry changes

-- the paths of all entries but one stay
pub record Changed (files directories files' directories' : List (Option (List Name))) (place : Place) (path : Option (List Name)) : Type 0 where
  pub here : path_at files' directories' place ≡ path
  pub there : (b : Place) → b ≢ place → path_at files' directories' b ≡ path_at files directories b

place_cases : (a b : Place) → (a ≡ b) ⊎ (a ≢ b)
place_cases (in_file a) (in_file b) = elim (cases_eq a b) [ inl e ↦ inl (ap in_file e) | inr n ↦ inr (λ e. n (file_number a b e)) ]
place_cases (in_directory a) (in_directory b) = elim (cases_eq a b) [ inl e ↦ inl (ap in_directory e) | inr n ↦ inr (λ e. n (directory_number a b e)) ]
place_cases (in_file a) (in_directory b) = inr (not_both a b)
place_cases (in_directory a) (in_file b) = inr (λ e. not_both b a (sym e))

pub changed_file : (files directories : List (Option (List Name))) (f : ℕ) (path : Option (List Name)) → f < length files → Changed files directories (set files f path) directories (in_file f) path
changed_file files directories f path h = record {
  here = get_or-set_same files f path None h;
  there = λ b. other b;
}
  where
    other : (b : Place) → b ≢ in_file f → path_at (set files f path) directories b ≡ path_at files directories b
    other (in_file g) n = get_or-set_other files f g path None (λ e. n (ap in_file e))
    other (in_directory d) n = refl

pub changed_directory : (files directories : List (Option (List Name))) (d : ℕ) (path : Option (List Name)) → d < length directories → Changed files directories files (set directories d path) (in_directory d) path
changed_directory files directories d path h = record {
  here = get_or-set_same directories d path None h;
  there = λ b. other b;
}
  where
    other : (b : Place) → b ≢ in_directory d → path_at files (set directories d path) b ≡ path_at files directories b
    other (in_file f) n = refl
    other (in_directory g) n = get_or-set_other directories d g path None (λ e. n (ap in_directory e))

same_answers : {X : Type 0} (a b : Option X) → ((x : X) → a ≡ Some x → b ≡ Some x) → ((x : X) → b ≡ Some x → a ≡ Some x) → a ≡ b
same_answers None None f g = refl
same_answers None (Some y) f g = g y refl
same_answers (Some x) b f g = sym (f x refl)

module _ (files directories files' directories' : List (Option (List Name))) (a : Place) (p : List Name) (distinct : AreDistinct files directories) where
  -- an entry gets a path that none has
  module _ (ch : Changed files directories files' directories' a (Some p)) (fresh : (b : Place) → path_at files directories b ≢ Some p) where
    taken : (b : Place) (q : List Name) → b ≡ a → path_at files' directories' b ≡ Some q → q ≡ p
    taken b q e h = let both : Some q ≡ Some p = sym h ∙ ap (path_at files' directories') e ∙ ch.here in cc

    pub put_distinct : AreDistinct files' directories'
    put_distinct b c q hb hc = elim (place_cases b a) [
      | inl eb ↦ elim (place_cases c a) [
        | inl ec ↦ eb ∙ sym ec
        | inr nc ↦ absurd (fresh c (sym (ch.there c nc) ∙ hc ∙ ap Some (taken b q eb hb)))
      ]
      | inr nb ↦ elim (place_cases c a) [
        | inl ec ↦ absurd (fresh b (sym (ch.there b nb) ∙ hb ∙ ap Some (taken c q ec hc)))
        | inr nc ↦ distinct b c q (sym (ch.there b nb) ∙ hb) (sym (ch.there c nc) ∙ hc)
      ]
    ]

    put_there : (q : List Name) (n : Node ℕ) → find path_cmp q (nodes_of files' directories') ≡ Some n → cond (eq_by_cmp path_cmp q p) (Some (node_at a)) (find path_cmp q (nodes_of files directories)) ≡ Some n
    put_there q n h = let s = found_stands files' directories' q n h in
        elim (place_cases s.place a) [
          | inl e ↦ let same : q ≡ p = taken s.place q e s.is in
              ap (λ b. cond b (Some (node_at a)) (find path_cmp q (nodes_of files directories))) (ap (eq_by_cmp path_cmp q) (sym same) ∙ same_is q) ∙ ap (λ b. Some (node_at b)) (sym e) ∙ ap Some (sym s.node_is)
          | inr ne ↦ let old : path_at files directories s.place ≡ Some q = sym (ch.there s.place ne) ∙ s.is in
              (elim (eq_by_cmp path_cmp q p) as (λ b. eq_by_cmp path_cmp q p ≡ b → cond b (Some (node_at a)) (find path_cmp q (nodes_of files directories)) ≡ Some n) [
                | true ↦ λ t. absurd (fresh s.place (old ∙ ap Some (same_path q p t)))
                | false ↦ λ t. at_found files directories distinct s.place q old ∙ ap Some (sym s.node_is)
              ]) refl
        ]

    put_back : path_at files directories a ≡ None → (q : List Name) (n : Node ℕ) → cond (eq_by_cmp path_cmp q p) (Some (node_at a)) (find path_cmp q (nodes_of files directories)) ≡ Some n → find path_cmp q (nodes_of files' directories') ≡ Some n
    put_back unused q n =
        (elim (eq_by_cmp path_cmp q p) as (λ b. eq_by_cmp path_cmp q p ≡ b → cond b (Some (node_at a)) (find path_cmp q (nodes_of files directories)) ≡ Some n → find path_cmp q (nodes_of files' directories') ≡ Some n) [
          | true ↦ λ t is. at_found files' directories' put_distinct a q (ch.here ∙ ap Some (sym (same_path q p t))) ∙ is
          | false ↦ λ t is. let s = found_stands files directories q n is in
              elim (place_cases s.place a) [
                | inl e ↦ absurd (let wrong : ◌≡◌ {A = Option (List Name)} None (Some q) = sym unused ∙ ap (path_at files directories) (sym e) ∙ s.is in cc)
                | inr ne ↦ at_found files' directories' put_distinct s.place q (ch.there s.place ne ∙ s.is) ∙ ap Some (sym s.node_is)
              ]
        ]) refl

    -- the map has one more path
    pub put_nodes : path_at files directories a ≡ None → nodes_of files' directories' ≡ put path_cmp p (node_at a) (nodes_of files directories)
    put_nodes unused = same_entries path_cmp path_cmp_total path_cmp-IsAntisymmetric _ _ (sorted_nodes files' directories')
        (is_sorted-put path_cmp path_cmp_total p (node_at a) _ (sorted_nodes files directories))
        (λ q. same_answers _ _ (put_there q) (put_back unused q) ∙ sym (find-put path_cmp path_cmp_total q p (node_at a) (nodes_of files directories)))

  -- an entry loses its path
  module _ (ch : Changed files directories files' directories' a None) (was : path_at files directories a ≡ Some p) where
    elsewhere : (b : Place) (q : List Name) → path_at files' directories' b ≡ Some q → b ≢ a
    elsewhere b q h e = let wrong : ◌≡◌ {A = Option (List Name)} None (Some q) = sym ch.here ∙ ap (path_at files' directories') (sym e) ∙ h in cc

    before : (b : Place) (q : List Name) → path_at files' directories' b ≡ Some q → path_at files directories b ≡ Some q
    before b q h = sym (ch.there b (elsewhere b q h)) ∙ h

    pub without_distinct : AreDistinct files' directories'
    without_distinct b c q hb hc = distinct b c q (before b q hb) (before c q hc)

    kept_there : (q : List Name) (n : Node ℕ) → find path_cmp q (nodes_of files' directories') ≡ Some n → cond (not (eq_by_cmp path_cmp p q)) (find path_cmp q (nodes_of files directories)) None ≡ Some n
    kept_there q n h = let s = found_stands files' directories' q n h in
        (elim (eq_by_cmp path_cmp p q) as (λ b. eq_by_cmp path_cmp p q ≡ b → cond (not b) (find path_cmp q (nodes_of files directories)) None ≡ Some n) [
          | true ↦ λ t. absurd (elsewhere s.place q s.is (distinct s.place a q (before s.place q s.is) (was ∙ ap Some (same_path p q t))))
          | false ↦ λ t. at_found files directories distinct s.place q (before s.place q s.is) ∙ ap Some (sym s.node_is)
        ]) refl

    kept_back : (q : List Name) (n : Node ℕ) → cond (not (eq_by_cmp path_cmp p q)) (find path_cmp q (nodes_of files directories)) None ≡ Some n → find path_cmp q (nodes_of files' directories') ≡ Some n
    kept_back q n =
        (elim (eq_by_cmp path_cmp p q) as (λ b. eq_by_cmp path_cmp p q ≡ b → cond (not b) (find path_cmp q (nodes_of files directories)) None ≡ Some n → find path_cmp q (nodes_of files' directories') ≡ Some n) [
          | true ↦ λ t is. absurd (let wrong : ◌≡◌ {A = Option (Node ℕ)} None (Some n) = is in cc)
          | false ↦ λ t is. let s = found_stands files directories q n is in
              elim (place_cases s.place a) [
                | inl e ↦ let both : Some p ≡ Some q = sym was ∙ ap (path_at files directories) (sym e) ∙ s.is in let same : p ≡ q = cc in
                    absurd (let wrong : true ≡ false = sym (ap (eq_by_cmp path_cmp p) (sym same) ∙ same_is p) ∙ t in cc)
                | inr ne ↦ at_found files' directories' without_distinct s.place q (ch.there s.place ne ∙ s.is) ∙ ap Some (sym s.node_is)
              ]
        ]) refl

    -- the map lacks the path
    pub without_nodes : nodes_of files' directories' ≡ without_node (nodes_of files directories) p
    without_nodes = same_entries path_cmp path_cmp_total path_cmp-IsAntisymmetric _ _ (sorted_nodes files' directories')
        (is_sorted-where_key path_cmp (λ key. not (eq_by_cmp path_cmp p key)) _ (sorted_nodes files directories))
        (λ q. same_answers _ _ (kept_there q) (kept_back q)
        ∙ sym (find-where_key path_cmp (λ key. not (eq_by_cmp path_cmp p key)) q (λ x t. ap (λ key. not (eq_by_cmp path_cmp p key)) (sym (path_cmp-IsAntisymmetric q x t))) (nodes_of files directories)))
