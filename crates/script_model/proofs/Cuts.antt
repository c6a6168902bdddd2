-- Words and the text that they are cut from.
use Rattle.std.proofs.Common.{◌≡◌, ℕ, ◌<◌, ◌==◌, Bool, true, false, List, [], ◌∷◌, length, refl, ap, ◌∙◌, arith, inl, inr}
use Rattle.std.proofs.lemmas.Bool.{cases_Bool, and_parts}
use Rattle.std.proofs.lemmas.Bool.Decides.{nat_tests}
use Rattle.std.proofs.lemmas.List.Folds.{list_all-append}
use Rattle.std.proofs.lemmas.List.Elements.{All-from_recursion}
use Rattle.std.proofs.lemmas.List.Splits.{slice_split_none, slice_split_at, slice_split-cons_yes, slice_split-cons_no}
use Rattle.std.specs.List.{AllByRecursion, join_with_byte, list_all, onto_first}
use Rattle.script_model.specs.Spelling.{IsWord, is_word_byte}
use Rattle.script_model.specs.Reading.{is_printable, words_of}

abbrev is_space : ℕ → Bool
is_space b = b == 32

word_byte_is : (b : ℕ) → is_word_byte b ≡ true → (is_space b ≡ false) × (is_printable b ≡ true)
word_byte_is b h = (grind (arith, nat_tests), grind (arith, nat_tests))

is_word_byte-from : (b : ℕ) → is_space b ≡ false → is_printable b ≡ true → is_word_byte b ≡ true
is_word_byte-from b s p = grind (arith, nat_tests)

-- a word has no space, and is printable
no_space : (w : List ℕ) → list_all is_word_byte w ≡ true → AllByRecursion (λ b. is_space b ≡ false) w
no_space [] h = tt
no_space (b ∷ w) h =
    let p = and_parts (is_word_byte b) (list_all is_word_byte w) h in
    ((word_byte_is b p.0).0, no_space w p.1)

printable : (w : List ℕ) → list_all is_word_byte w ≡ true → list_all is_printable w ≡ true
printable [] h = refl
printable (b ∷ w) h =
    let p = and_parts (is_word_byte b) (list_all is_word_byte w) h in
    rw ((word_byte_is b p.0).1, printable w p.1) refl

-- words with single spaces between them are cut into those words
pub words_of-joined : (w : List ℕ) (ws : List (List ℕ)) → AllByRecursion IsWord (w ∷ ws) → words_of (join_with_byte 32 (w ∷ ws)) ≡ w ∷ ws
words_of-joined w [] h = slice_split_none is_space w (All-from_recursion (λ b. is_space b ≡ false) w (no_space w h.0.printable))
words_of-joined w (v ∷ ws) h =
    slice_split_at is_space w 32 (join_with_byte 32 (v ∷ ws)) (All-from_recursion (λ b. is_space b ≡ false) w (no_space w h.0.printable)) refl
    ∙ ap (λ (x : List (List ℕ)). w ∷ x) (words_of-joined v ws h.1)

-- and are printable
pub printable-joined : (ws : List (List ℕ)) → AllByRecursion IsWord ws → list_all is_printable (join_with_byte 32 ws) ≡ true
printable-joined [] h = refl
printable-joined (w ∷ []) h = printable w h.0.printable
printable-joined (w ∷ v ∷ ws) h =
    list_all-append is_printable w (32 ∷ join_with_byte 32 (v ∷ ws)) ∙ rw (printable w h.0.printable, printable-joined (v ∷ ws) h.1) refl

-- the words of a printable text have word bytes alone
abbrev pub AreClean : List (List ℕ) → Type 0
AreClean ws = AllByRecursion (λ w. list_all is_word_byte w ≡ true) ws

onto_first-clean : (b : ℕ) (ws : List (List ℕ)) → is_word_byte b ≡ true → AreClean ws → AreClean (onto_first b ws)
onto_first-clean b [] h c = (rw h refl, tt)
onto_first-clean b (w ∷ ws) h c = (rw (h, c.0) refl, c.1)

pub words_of-clean : (text : List ℕ) → list_all is_printable text ≡ true → AreClean (words_of text)
words_of-clean [] h = (refl, tt)
words_of-clean (b ∷ text) h =
    let p = and_parts (is_printable b) (list_all is_printable text) h in
    elim (cases_Bool (is_space b)) [
      | inl space ↦ rw (slice_split-cons_yes is_space b text space) (refl, words_of-clean text p.1)
      | inr other ↦ rw (slice_split-cons_no is_space b text other) (onto_first-clean b (words_of text) (is_word_byte-from b other p.0) (words_of-clean text p.1))
    ]

-- clean words that aren't empty are words
pub words_from : (ws : List (List ℕ)) → AreClean ws → AllByRecursion (λ w. 0 < length w) ws → AllByRecursion IsWord ws
words_from [] c f = tt
words_from (w ∷ ws) c f = (record { nonempty = f.0; printable = c.0 }, words_from ws c.1 f.1)

pub filled_words : (ws : List (List ℕ)) → AllByRecursion IsWord ws → AllByRecursion (λ w. 0 < length w) ws
filled_words [] h = tt
filled_words (w ∷ ws) h = (h.0.nonempty, filled_words ws h.1)
