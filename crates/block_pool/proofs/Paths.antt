-- Paths through links, after the links behind two places were exchanged.
use Rattle.std.proofs.Common.{◌≡◌, ◌≢◌, ℕ, ◌<◌, ◌≤◌, ◌==◌, List, [], ◌∷◌, ◌++◌, length, refl, sym, ap, ◌∙◌, subst, arith}
use Rattle.std.proofs.lemmas.Bool.{cond_both, cond-true, cond-false, eqb-true, eqb-false, ne_eqb, eq-eqb}
use Rattle.block_pool.specs.Lists.{without}
use Rattle.block_pool.specs.Links.{link, IsPath, exchanged_next}
use Rattle.block_pool.proofs.Exchanged.{next_at_first, next_at_second, next_elsewhere}

-- a number isn't in a list
abbrev pub Lacks : ℕ → List ℕ → Type 0
Lacks k [] = Unit {0}
Lacks k (x ∷ xs) = (x ≢ k) × Lacks k xs

-- each number of a list is below n
abbrev pub AllBelow : ℕ → List ℕ → Type 0
AllBelow n [] = Unit {0}
AllBelow n (x ∷ xs) = (x < n) × AllBelow n xs

pub Lacks-above : (n k : ℕ) (xs : List ℕ) → n ≤ k → AllBelow n xs → Lacks k xs
Lacks-above n k [] h b = tt
Lacks-above n k (x ∷ xs) h b = (λ e. omega (arith, b.0), Lacks-above n k xs h b.1)

pub AllBelow-more : (n m : ℕ) (xs : List ℕ) → n ≤ m → AllBelow n xs → AllBelow m xs
AllBelow-more n m [] h b = tt
AllBelow-more n m (x ∷ xs) h b = (omega (arith, b.0), AllBelow-more n m xs h b.1)

pub AllBelow-append : (n : ℕ) (xs ys : List ℕ) → AllBelow n xs → AllBelow n ys → AllBelow n (xs ++ ys)
AllBelow-append n [] ys b c = c
AllBelow-append n (x ∷ xs) ys b c = (b.0, AllBelow-append n xs ys b.1 c)

pub AllBelow-without : (n node : ℕ) (xs : List ℕ) → AllBelow n xs → AllBelow n (without node xs)
AllBelow-without n node [] b = tt
AllBelow-without n node (x ∷ xs) b =
    let rest = AllBelow-without n node xs b.1 in
    cond_both (x == node) (without node xs) (x ∷ without node xs) (λ ys. AllBelow n ys) (λ _. rest) (λ _. (b.0, rest))

pub Lacks-without : (node : ℕ) (xs : List ℕ) → Lacks node (without node xs)
Lacks-without node [] = tt
Lacks-without node (x ∷ xs) =
    let rest = Lacks-without node xs in
    cond_both (x == node) (without node xs) (x ∷ without node xs) (λ ys. Lacks node ys) (λ _. rest) (λ other. (eqb-false x node other, rest))

-- a list that lacks a number is the same without it
pub without-lacking : (node : ℕ) (xs : List ℕ) → Lacks node xs → without node xs ≡ xs
without-lacking node [] l = refl
without-lacking node (x ∷ xs) l =
    cond-false (x == node) (without node xs) (x ∷ without node xs) (ne_eqb x node l.0) ∙ ap (λ ys. x ∷ ys) (without-lacking node xs l.1)

pub without-append : (node : ℕ) (xs ys : List ℕ) → Lacks node xs → without node (xs ++ ys) ≡ xs ++ without node ys
without-append node [] ys l = refl
without-append node (x ∷ xs) ys l =
    cond-false (x == node) (without node (xs ++ ys)) (x ∷ without node (xs ++ ys)) (ne_eqb x node l.0) ∙ ap (λ zs. x ∷ zs) (without-append node xs ys l.1)

pub without-alone : (node : ℕ) → without node (node ∷ []) ≡ []
without-alone node = cond-true (node == node) [] (node ∷ []) (eq-eqb node node refl)

-- a path goes on over one more place
pub IsPath-push : (next : List ℕ) (start : ℕ) (nodes : List ℕ) (node end : ℕ) → IsPath next start nodes node → link next node ≡ end
    → IsPath next start (nodes ++ node ∷ []) end
IsPath-push next start [] node end h e = (h, e)
IsPath-push next start (k ∷ nodes) node end h e = (h.0, IsPath-push next k nodes node end h.1 e)

-- a path stays that neither goes on from the second place, nor leads to where the first led
pub IsPath-kept : (next : List ℕ) (a b target : ℕ) (start : ℕ) (nodes : List ℕ) (end : ℕ) → link next a ≡ target → start ≢ b → Lacks b nodes
    → Lacks target nodes → end ≢ target → IsPath next start nodes end → IsPath (exchanged_next next a b) start nodes end
IsPath-kept next a b target start [] end at_a start_not lacks lacks_target end_not h =
    next_elsewhere next a b start (λ e. end_not (sym h ∙ ap (link next) e ∙ at_a)) start_not ∙ h
IsPath-kept next a b target start (k ∷ nodes) end at_a start_not lacks lacks_target end_not h = (
  next_elsewhere next a b start (λ e. lacks_target.0 (sym h.0 ∙ ap (link next) e ∙ at_a)) start_not ∙ h.0,
  IsPath-kept next a b target k nodes end at_a lacks.0 lacks.1 lacks_target.1 end_not h.1,
)

-- the first place goes on with the ring of the second one, and that ring to where the first place led
IsPath-taken : (next : List ℕ) (a b target : ℕ) (ring : List ℕ) → link next a ≡ target → a < length next → b < length next
    → IsPath next b ring b → Lacks b ring → Lacks target ring → b ≢ target → IsPath (exchanged_next next a b) a (ring ++ b ∷ []) target
IsPath-taken next a b target [] at_a a_within b_within around lacks lacks_target not_target =
    (next_at_first next a b a_within b_within ∙ around, next_at_second next a b b_within ∙ at_a)
IsPath-taken next a b target (k ∷ ring) at_a a_within b_within around lacks lacks_target not_target = (
  next_at_first next a b a_within b_within ∙ around.0,
  IsPath-push (exchanged_next next a b) k ring b target
      (IsPath-kept next a b target k ring b at_a lacks.0 lacks.1 lacks_target.1 not_target around.1)
      (next_at_second next a b b_within ∙ at_a),
)

-- the ring of the second place, put in where the path ended
pub IsPath-joined : (next : List ℕ) (a b target : ℕ) (ring : List ℕ) (start : ℕ) (nodes : List ℕ) → link next a ≡ target
    → ((k : ℕ) → k < length next → link next k ≡ target → k ≡ a)
    → a < length next → b < length next → IsPath next b ring b → Lacks b ring → Lacks target ring → b ≢ target
    → start < length next → AllBelow (length next) nodes → start ≢ b → Lacks b nodes → Lacks target nodes
    → IsPath next start nodes target → IsPath (exchanged_next next a b) start (nodes ++ (ring ++ b ∷ [])) target
IsPath-joined next a b target ring start [] at_a only a_within b_within around lacks lacks_target not_target start_within within start_not lacks_b lacks_t h =
    subst (λ (k : ℕ). IsPath (exchanged_next next a b) k (ring ++ b ∷ []) target) (sym (only start start_within h))
    (IsPath-taken next a b target ring at_a a_within b_within around lacks lacks_target not_target)
IsPath-joined next a b target ring start (k ∷ nodes) at_a only a_within b_within around lacks lacks_target not_target start_within within start_not lacks_b lacks_t h = (
  next_elsewhere next a b start (λ e. lacks_t.0 (sym h.0 ∙ ap (link next) e ∙ at_a)) start_not ∙ h.0,
  IsPath-joined next a b target ring k nodes at_a only a_within b_within around lacks lacks_target not_target within.0 within.1 lacks_b.0 lacks_b.1 lacks_t.1 h.1,
)

-- the path without the second place, to which the first one led
pub IsPath-without : (next : List ℕ) (a b start : ℕ) (nodes : List ℕ) (end : ℕ) → link next a ≡ b
    → ((k : ℕ) → k < length next → link next k ≡ b → k ≡ a)
    → a < length next → b < length next → start < length next → AllBelow (length next) nodes → start ≢ b → end ≢ b
    → IsPath next start nodes end → IsPath (exchanged_next next a b) start (without b nodes) end
IsPath-without next a b start [] end at_a only a_within b_within start_within within start_not end_not h =
    next_elsewhere next a b start (λ e. end_not (sym h ∙ ap (link next) e ∙ at_a)) start_not ∙ h
IsPath-without next a b start (k ∷ []) end at_a only a_within b_within start_within within start_not end_not h =
    cond_both (k == b) [] (k ∷ []) (λ nodes. IsPath (exchanged_next next a b) start nodes end)
    (λ same.
    let at_b = eqb-true k b same in
    ap (link (exchanged_next next a b)) (only start start_within (h.0 ∙ at_b))
    ∙ next_at_first next a b a_within b_within ∙ ap (link next) (sym at_b) ∙ h.1)
    (λ other.
    let not_b = eqb-false k b other in (
      next_elsewhere next a b start (λ e. not_b (sym h.0 ∙ ap (link next) e ∙ at_a)) start_not ∙ h.0,
      IsPath-without next a b k [] end at_a only a_within b_within within.0 tt not_b end_not h.1,
    ))
IsPath-without next a b start (k ∷ m ∷ nodes) end at_a only a_within b_within start_within within start_not end_not h =
    cond_both (k == b) (without b (m ∷ nodes)) (k ∷ without b (m ∷ nodes)) (λ nodes. IsPath (exchanged_next next a b) start nodes end)
    (λ same.
    let at_b = eqb-true k b same in
    let start_is = only start start_within (h.0 ∙ at_b) in
    cond_both (m == b) (without b nodes) (m ∷ without b nodes) (λ nodes. IsPath (exchanged_next next a b) start nodes end)
    (λ again. absurd (start_not (start_is ∙ sym (only k within.0 (h.1.0 ∙ eqb-true m b again)) ∙ at_b)))
    (λ other. (
      ap (link (exchanged_next next a b)) start_is ∙ next_at_first next a b a_within b_within ∙ ap (link next) (sym at_b) ∙ h.1.0,
      IsPath-without next a b m nodes end at_a only a_within b_within within.1.0 within.1.1 (eqb-false m b other) end_not h.1.1,
    )))
    (λ other.
    let not_b = eqb-false k b other in (
      next_elsewhere next a b start (λ e. not_b (sym h.0 ∙ ap (link next) e ∙ at_a)) start_not ∙ h.0,
      IsPath-without next a b k (m ∷ nodes) end at_a only a_within b_within within.0 within.1 not_b end_not h.1,
    ))
