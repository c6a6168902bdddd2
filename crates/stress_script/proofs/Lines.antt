-- The lines that were drawn, and those that are still to be drawn.
use Rattle.std.proofs.Common.{◌≡◌, ℕ, zero, suc, ◌+◌, ◌-◌, ◌%◌, ◌^◌, ◌<◌, ◌≤◌, List, [], ◌∷◌, ◌++◌, refl, sym, ap, ◌∙◌, append_assoc, arith}
use Rattle.std.proofs.lemmas.List.{append-nil}
use Rattle.apex_types.specs.Rows.{Rows}
use Rattle.apex_types.specs.declared.calls.Deed.{Deed}
use Rattle.apex_types.specs.declared.calls.Line.{Line}
use Rattle.stress_script.specs.Generator.{draw_deed, draw_lines, generated}

one-line : (table : Rows) (n count x y : ℕ) (deed : Deed) → draw_deed table x ≡ (deed, y)
    → (draw_lines table n (suc count) x).0 ≡ record { number = n; deed = deed } ∷ (draw_lines table (n + 1) count y).0
unfolding draw_lines
one-line table n count x y deed e = rw e refl

no-line : (table : Rows) (n x : ℕ) → (draw_lines table n zero x).0 ≡ []
unfolding draw_lines
no-line table n x = refl

-- nothing was drawn yet
pub begins : (table : Rows) (script : List Line) (seed lines x : ℕ) → script ≡ [] → x ≡ seed % 2 ^ 31
    → script ++ (draw_lines table 1 (lines - 0) x).0 ≡ generated table seed lines
unfolding generated
begins table script seed lines x e f =
    let all : lines - 0 ≡ lines = omega arith in
    rw (e, f, all) refl

-- one line more
pub goes-on : (table : Rows) (script : List Line) (before lines x y : ℕ) (deed : Deed) (total : List Line)
    → before < lines → draw_deed table x ≡ (deed, y) → script ++ (draw_lines table (before + 1) (lines - before) x).0 ≡ total
    → (script ++ record { number = before + 1; deed = deed } ∷ []) ++ (draw_lines table (before + 1 + 1) (lines - (before + 1)) y).0 ≡ total
goes-on table script before lines x y deed total lt e so_far =
    let left : lines - before ≡ suc (lines - (before + 1)) = omega arith in
    let line : Line = record { number = before + 1; deed = deed } in
    let rest : List Line = (draw_lines table (before + 1 + 1) (lines - (before + 1)) y).0 in
    let step = one-line table (before + 1) (lines - (before + 1)) x y deed e in
    append_assoc script (line ∷ []) rest
    ∙ ap (λ (ls : List Line). script ++ ls) (sym step)
    ∙ ap (λ (n : ℕ). script ++ (draw_lines table (before + 1) n x).0) (sym left)
    ∙ so_far

-- none is left
pub is-done : (table : Rows) (script : List Line) (before lines x : ℕ) (total : List Line) → lines ≤ before
    → script ++ (draw_lines table (before + 1) (lines - before) x).0 ≡ total → script ≡ total
is-done table script before lines x total le so_far =
    let left : lines - before ≡ zero = omega arith in
    sym (append-nil script)
    ∙ ap (λ (ls : List Line). script ++ ls) (sym (no-line table (before + 1) x))
    ∙ ap (λ (n : ℕ). script ++ (draw_lines table (before + 1) n x).0) (sym left)
    ∙ so_far
