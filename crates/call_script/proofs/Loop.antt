-- Reading lines one after the other, as a loop does.
use Rattle.std.proofs.Common.{◌≡◌, ℕ, suc, ◌+◌, ◌<◌, ◌≤◌, List, [], ◌∷◌, ◌++◌, length, drop, get_or, false, Option, option_to_list, Result, Ok, Err, refl, sym, ap, ◌∙◌, append_assoc, arith, rules, map, Bor}
use Rattle.std.proofs.lemmas.List.Splits.{length-slice_split}
use Rattle.std.specs.Prelude.{count_by, ◌==◌}
use Rattle.std.proofs.lemmas.List.{append-nil, drop_more, drop_all, get_or-map, length-map}
use Rattle.apex_types.specs.Rows.{Rows}
use Rattle.apex_types.specs.declared.calls.Line.{Line}
use Rattle.script_model.specs.Reading.{◌>>=◌}
use Rattle.script_model.specs.Script.{Refusal, line_at, line_parts, lines_from, without_last}
use Rattle.call_script.specs.declared.errors.ScriptError.{ScriptError}
use Rattle.call_script.specs.declared.errors.ScriptError.TheVariants as errors
use Rattle.call_script.specs.Gives.{Refuses}

-- what was read before, and what is still read
abbrev pub with_front : List Line → Result (List Line) Refusal → Result (List Line) Refusal
with_front front read = read >>= λ lines. Ok (front ++ lines)

regroup : (front more : List Line) (read : Result (List Line) Refusal) → with_front front (read >>= λ lines. Ok (more ++ lines)) ≡ with_front (front ++ more) read
regroup front more (Ok lines) = ap (λ (ls : List Line). Ok ls) (sym (append_assoc front more lines))
regroup front more (Err e) = refl

one_more : (rows : Rows) (front : List Line) (n : ℕ) (text : List ℕ) (texts : List (List ℕ)) (line : Option Line) → line_at rows n text ≡ Ok line
    → with_front front (lines_from rows n (text ∷ texts)) ≡ with_front (front ++ option_to_list line) (lines_from rows (suc n) texts)
unfolding lines_from
one_more rows front n text texts line h = rw h (regroup front (option_to_list line) (lines_from rows (suc n) texts))

pub goes_on : (rows : Rows) (front : List Line) (i : ℕ) (texts : List (List ℕ)) (text : List ℕ) (line : Option Line) (total : Result (List Line) Refusal)
    → i < length texts → text ≡ get_or texts i [] → line_at rows (i + 1) text ≡ Ok line
    → with_front front (lines_from rows (i + 1) (drop i texts)) ≡ total
    → with_front (front ++ option_to_list line) (lines_from rows (i + 1 + 1) (drop (i + 1) texts)) ≡ total
goes_on rows front i texts text line total lt here read so_far =
    let h : line_at rows (i + 1) (get_or texts i []) ≡ Ok line = rw here at read in
    let step = one_more rows front (i + 1) (get_or texts i []) (drop (i + 1) texts) line h in
    let cut : drop i texts ≡ get_or texts i [] ∷ drop (i + 1) texts = drop_more texts i [] lt in
    let num : i + 1 + 1 ≡ suc (i + 1) = omega arith in
    rw num (sym step ∙ ap (λ (ts : List (List ℕ)). with_front front (lines_from rows (i + 1) ts)) (sym cut) ∙ so_far)

stops_at : (rows : Rows) (e : ScriptError) (front : List Line) (n : ℕ) (text : List ℕ) (texts : List (List ℕ)) → Refuses e (line_at rows n text) → Refuses e (with_front front (lines_from rows n (text ∷ texts)))
unfolding lines_from
stops_at rows errors.TooLong front n text texts h = rw h refl
stops_at rows (errors.NotAscii line) front n text texts h = rw h refl
stops_at rows (errors.UnknownPartition line) front n text texts h = rw h refl
stops_at rows (errors.UnknownCall line) front n text texts h = rw h refl
stops_at rows (errors.WrongArguments line) front n text texts h = rw h refl
stops_at rows (errors.BadNumber line) front n text texts h = rw h refl
stops_at rows (errors.BadData line) front n text texts h = rw h refl
stops_at rows errors.OutOfMemory front n text texts h = tt

pub stops : (rows : Rows) (e : ScriptError) (front : List Line) (i : ℕ) (texts : List (List ℕ)) (text : List ℕ) (total : Result (List Line) Refusal)
    → i < length texts → text ≡ get_or texts i [] → Refuses e (line_at rows (i + 1) text)
    → with_front front (lines_from rows (i + 1) (drop i texts)) ≡ total → Refuses e total
stops rows e front i texts text total lt here fault so_far =
    let cut : drop i texts ≡ text ∷ drop (i + 1) texts = drop_more texts i [] lt ∙ ap (λ (t : List ℕ). t ∷ drop (i + 1) texts) (sym here) in
    let whole : with_front front (lines_from rows (i + 1) (text ∷ drop (i + 1) texts)) ≡ total = rw cut at so_far in
    rw (← whole) (stops_at rows e front (i + 1) text (drop (i + 1) texts) fault)

pub is_done : (rows : Rows) (front : List Line) (i : ℕ) (texts : List (List ℕ)) (total : Result (List Line) Refusal)
    → length texts ≤ i → with_front front (lines_from rows (i + 1) (drop i texts)) ≡ total → total ≡ Ok front
unfolding lines_from
is_done rows front i texts total le so_far =
    let none : drop i texts ≡ [] = drop_all i texts le in
    sym so_far ∙ rw none (ap (λ (ls : List Line). Ok ls) (append-nil front))

length_now : (parts : List (Bor (List ℕ))) → length (map (λ w. w.now) parts) ≡ length parts
length_now parts = search (rules, length-map)

length_cut : (texts : List (List ℕ)) → length (map (without_last 13) texts) ≡ length texts
length_cut texts = search (rules, length-map)

-- the text of a line is that of the part at its place
pub text_at : (parts : List (Bor (List ℕ))) (i : ℕ) (d : Bor (List ℕ)) (text : List ℕ) → i < length parts → text ≡ without_last 13 (get_or parts i d).now
    → text ≡ get_or (map (without_last 13) (map (λ w. w.now) parts)) i []
text_at parts i d text lt e =
    let inner : get_or (map (λ w. w.now) parts) i [] ≡ (get_or parts i d).now = get_or-map (λ w. w.now) parts i d [] lt in
    let lt2 : i < length (map (λ w. w.now) parts) = omega (arith, length_now parts) in
    let outer : get_or (map (without_last 13) (map (λ w. w.now) parts)) i [] ≡ without_last 13 (get_or (map (λ w. w.now) parts) i []) = get_or-map (without_last 13) (map (λ w. w.now) parts) i [] [] lt2 in
    e ∙ ap (without_last 13) (sym inner) ∙ sym outer

pub length_texts : (parts : List (Bor (List ℕ))) → length (map (without_last 13) (map (λ w. w.now) parts)) ≡ length parts
length_texts parts = length_cut (map (λ w. w.now) parts) ∙ length_now parts

-- one line more than line feeds
pub count_is : (bytes front : List ℕ) (n : ℕ) → (length bytes == 0) ≡ false → front ≡ without_last 10 bytes → n ≡ count_by (λ b. b == 10) front → n + 1 ≡ length (line_parts bytes)
count_is bytes front n some cut count = rw (some, count, cut) (sym (length-slice_split (λ b. b == 10) (without_last 10 bytes)))
