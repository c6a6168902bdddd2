-- A script: what it is read as, it spells, and what it spells it is read as.
use Rattle.std.proofs.Common.{◌≡◌, ◌≤◌, ◌||◌, ℕ, suc, Bool, true, false, cond, ltb, List, [], ◌∷◌, ◌++◌, length, Option, Some, option_to_list, Result, Ok, Err, refl, sym, ap, ◌∙◌, arith, inl, inr}
use Rattle.std.proofs.lemmas.Bool.{cases_Bool}
use Rattle.std.proofs.lemmas.Bool.Decides.{nat_tests}
use Rattle.apex_types.specs.Rows.{Rows}
use Rattle.script_model.specs.declared.faults.LineFault.{LineFault}
use Rattle.apex_types.specs.declared.calls.Deed.{Deed}
use Rattle.apex_types.specs.declared.calls.Line.{Line}
use Rattle.script_model.specs.Spelling.{Spells, HasNames}
use Rattle.script_model.specs.Reading.{◌>>=◌, deed_at}
use Rattle.script_model.specs.Script.{Refusal, at_line, is_skipped, lines_from, line_parts, script_lines, script_of, SpellFrom, SpellsScript}
use Rattle.script_model.proofs.Steps.{bind_ok}
use Rattle.script_model.proofs.Deeds.{read_spells, spelled_read}

abbrev next_lines : Option Line → Result (List Line) Refusal → Result (List Line) Refusal
next_lines line read = read >>= λ lines. Ok (option_to_list line ++ lines)

-- the line of a text that isn't skipped
at_line_ok : (n : ℕ) (r : Result Deed LineFault) (o : Option Line) → at_line n r ≡ Ok o → (deed : Deed) × (r ≡ Ok deed) × (o ≡ Some (record { number = n; deed = deed }))
at_line_ok n (Ok deed) o e = (deed, refl, cc)
at_line_ok n (Err f) o e = absurd cc

same_front : (o : Option Line) (l : Line) (ls lines : List Line) → o ≡ Some l → option_to_list o ++ ls ≡ lines → lines ≡ l ∷ ls
same_front o l ls lines h e = sym e ∙ rw h refl

pub lines_spell : (rows : Rows) (h : HasNames rows) (n : ℕ) (texts : List (List ℕ)) (lines : List Line) → lines_from rows n texts ≡ Ok lines → SpellFrom rows n texts lines
unfolding lines_from
lines_spell rows h n [] lines e = cc
lines_spell rows h n (text ∷ texts) lines e =
    elim (cases_Bool (is_skipped text)) [
      | inl skipped ↦
          let x = bind_ok (lines_from rows (suc n) texts) (λ lines. Ok lines) lines (rw skipped at e) in
          let same : x.0 ≡ lines = cc (x.2) in
          rw (skipped, ← same) (lines_spell rows h (suc n) texts x.0 x.1)
      | inr read ↦
          let x = bind_ok (at_line n (deed_at rows text)) (λ line. next_lines line (lines_from rows (suc n) texts)) lines (rw read at e) in
          let y = bind_ok (lines_from rows (suc n) texts) (λ lines. Ok (option_to_list x.0 ++ lines)) lines x.2 in
          let d = at_line_ok n (deed_at rows text) x.0 x.1 in
          let whole : option_to_list x.0 ++ y.0 ≡ lines = cc (y.2) in
          rw read (record { number = n; deed = d.0 }, y.0, same_front x.0 (record { number = n; deed = d.0 }) y.0 lines d.2 whole, refl, read_spells rows h text d.0 d.1, lines_spell rows h (suc n) texts y.0 y.1)
    ]

line_again : (l : Line) (n : ℕ) (ls lines : List Line) → l.number ≡ n → lines ≡ l ∷ ls → (record { number = n; deed = l.deed }) ∷ ls ≡ lines
line_again l n ls lines number whole = rw (← number) (sym whole)

pub spelled_lines : (rows : Rows) (h : HasNames rows) (n : ℕ) (texts : List (List ℕ)) (lines : List Line) → SpellFrom rows n texts lines → lines_from rows n texts ≡ Ok lines
unfolding lines_from
spelled_lines rows h n [] lines s = ap (λ (ls : List Line). Ok ls) (sym s)
spelled_lines rows h n (text ∷ texts) lines s =
    elim (cases_Bool (is_skipped text)) [
      | inl skipped ↦
          let t : SpellFrom rows (suc n) texts lines = rw skipped at s in
          rw (skipped, spelled_lines rows h (suc n) texts lines t) refl
      | inr read ↦
          let t : (first : Line) × (rest : List Line) × (lines ≡ first ∷ rest) × (first.number ≡ n) × Spells rows text first.deed × SpellFrom rows (suc n) texts rest = rw read at s in
          let r = spelled_lines rows h (suc n) texts t.1 t.5 in
          let d = spelled_read rows h text t.0.deed t.4 in
          rw (read, d, r) (ap (λ (ls : List Line). Ok ls) (line_again t.0 n t.1 lines t.3 t.2))
    ]

long : (b c : ℕ) → (ltb 1048576 b || ltb 20000 c) ≡ false → (b ≤ 1048576) × (c ≤ 20000)
long b c h = (grind (arith, nat_tests), grind (arith, nat_tests))

short : (b c : ℕ) → b ≤ 1048576 → c ≤ 20000 → (ltb 1048576 b || ltb 20000 c) ≡ false
short b c hb hc = grind (arith, nat_tests)

whole_ok : (b : Bool) (refusal : Refusal) (read : Result (List Line) Refusal) (lines : List Line) → cond b (Err refusal) read ≡ Ok lines → (b ≡ false) × (read ≡ Ok lines)
whole_ok true refusal read lines e = absurd cc
whole_ok false refusal read lines e = (refl, e)

pub script_spells : (rows : Rows) → HasNames rows → (bytes : List ℕ) (lines : List Line) → script_of rows bytes ≡ Ok lines → SpellsScript rows bytes lines
script_spells rows h bytes lines e =
    let w = whole_ok (ltb 1048576 (length bytes) || ltb 20000 (length (line_parts bytes))) (record { number = 1; line = 0 }) (lines_from rows 1 (script_lines bytes)) lines e in
    let s = long (length bytes) (length (line_parts bytes)) w.0 in
    record { short = record { few_bytes = s.0; few_lines = s.1 }; each = lines_spell rows h 1 (script_lines bytes) lines w.1 }

pub spelled_script : (rows : Rows) → HasNames rows → (bytes : List ℕ) (lines : List Line) → SpellsScript rows bytes lines → script_of rows bytes ≡ Ok lines
spelled_script rows h bytes lines s =
    rw (short (length bytes) (length (line_parts bytes)) s.short.few_bytes s.short.few_lines) (spelled_lines rows h 1 (script_lines bytes) lines s.each)
