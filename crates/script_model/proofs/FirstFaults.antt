-- A line is refused for the first condition that holds of it.
use Rattle.std.proofs.Common.{◌≡◌, ◌<◌, ◌≤◌, ℕ, suc, Bool, true, false, not, ◌&&◌, ◌||◌, cond, eqb, leb, List, [], ◌∷◌, Option, Some, None, Result, Ok, Err, refl, sym, ap, subst, ◌∙◌, arith, codes, bytes_eq, is_some, is_ok, inl, inr, lit≤}
use Rattle.std.proofs.lemmas.Bool.{cases_Bool}
use Rattle.std.proofs.lemmas.Bool.Decides.{nat_tests}
use Rattle.std.specs.List.{list_any, list_all}
use Rattle.hex.specs.Hex.{decode_of}
use Rattle.hex.specs.declared.error.FromHexError.{FromHexError}
use Rattle.apex_types.specs.Rows.{Rows}
use Rattle.script_model.specs.declared.faults.LineFault.{LineFault}
use Rattle.script_model.specs.declared.faults.LineFault.TheVariants.{NotAscii, UnknownPartition, UnknownCall, WrongArguments, BadNumber, BadData}
use Rattle.apex_types.specs.declared.calls.FileCall.TheVariants as file
use Rattle.script_model.specs.declared.verbs.FileVerb.{FileVerb}
use Rattle.script_model.specs.declared.verbs.FileVerb.TheVariants as file_verb
use Rattle.apex_types.specs.declared.calls.DirCall.TheVariants as directory
use Rattle.script_model.specs.declared.verbs.DirectoryVerb.{DirectoryVerb}
use Rattle.script_model.specs.declared.verbs.DirectoryVerb.TheVariants as directory_verb
use Rattle.apex_types.specs.declared.calls.LogbookCall.TheVariants as logbook
use Rattle.script_model.specs.declared.verbs.LogbookVerb.{LogbookVerb}
use Rattle.script_model.specs.declared.verbs.LogbookVerb.TheVariants as logbook_verb
use Rattle.apex_types.specs.declared.calls.SamplingCall.TheVariants as sampling
use Rattle.script_model.specs.declared.verbs.SamplingVerb.{SamplingVerb}
use Rattle.script_model.specs.declared.verbs.SamplingVerb.TheVariants as sampling_verb
use Rattle.script_model.specs.declared.verbs.Verb.{Verb}
use Rattle.script_model.specs.declared.verbs.Verb.TheVariants as verbs
use Rattle.apex_types.specs.declared.calls.Call.TheVariants.{File, Directory, Logbook, Sampling, SetMode, SetContext}
use Rattle.apex_types.specs.declared.calls.Deed.{Deed}
use Rattle.apex_types.specs.declared.calls.Deed.TheVariants.{Tick, Partition}
use Rattle.script_model.specs.Reading.{◌>>=◌, rank, earlier, both, or_fault, find_word, open_modes, whences, modes, contexts, word_at, number_of, number_at, ticks_at, offset_of, offset_at, data_or_fault, data_at, open_mode_at, whence_at, mode_at, context_at, one_word, two_words, three_words, one, file_arguments, directory_arguments, logbook_arguments, sampling_arguments, verb_at, arguments_at, call_at, partition_at, deed_from_words, words_of, is_printable, deed_at}
use Rattle.script_model.specs.Faults.{Kind, path, number, ticks, offset, data_bytes, keyword, words_in, file_kinds, directory_kinds, logbook_kinds, sampling_kinds, kinds_of, is_ticks, word_fails, words_fail, verb_fails, call_fails, words_of_line_fail, line_fails, FirstFault}

or_false : (b c : Bool) → b ≡ false → c ≡ false → (b || c) ≡ false
or_false b c p q = rw (p, q) refl

or_left : (b c : Bool) → b ≡ true → (b || c) ≡ true
or_left b c p = rw p refl

or_right : (b c : Bool) → c ≡ true → (b || c) ≡ true
or_right true c p = refl
or_right false c p = p

abbrev failed : {A : Type 0} → LineFault → Result A LineFault
failed e = Err e

first_err : {A : Type 0} (lowest : ℕ) (e : LineFault) (fails : ℕ → Bool) → ((m : ℕ) → m < lowest → fails m ≡ false) → fails (rank e) ≡ true → ((m : ℕ) → m < rank e → fails m ≡ false)
    → FirstFault {A = A} lowest (Err e) fails
first_err {A} lowest e fails low here before = record {
  low = low;
  ok = λ x h. absurd (cc h);
  err = λ f h. let same : e ≡ f = cc in subst (λ (g : LineFault). (fails (rank g) ≡ true) × ((m : ℕ) → m < rank g → fails m ≡ false)) same (here, before);
}

first_ok : {A : Type 0} (lowest : ℕ) (x : A) (fails : ℕ → Bool) → ((n : ℕ) → fails n ≡ false) → FirstFault lowest (Ok x) fails
first_ok lowest x fails none = record {
  low = λ m _. none m;
  ok = λ y h. none;
  err = λ f h. absurd (cc h);
}

first_same : {A : Type 0} (lowest : ℕ) (read : Result A LineFault) (f g : ℕ → Bool) → ((n : ℕ) → f n ≡ g n) → FirstFault lowest read f → FirstFault lowest read g
first_same lowest read f g same h = record {
  low = λ m lt. sym (same m) ∙ h.low m lt;
  ok = λ x e n. sym (same n) ∙ h.ok x e n;
  err = λ e r. let p = h.err e r in (sym (same (rank e)) ∙ p.0, λ m lt. sym (same m) ∙ p.1 m lt);
}

lower : {A : Type 0} (high lowest : ℕ) (read : Result A LineFault) (f : ℕ → Bool) → lowest ≤ high → FirstFault high read f → FirstFault lowest read f
lower high lowest read f le h = record {
  low = λ m lt. h.low m (omega arith);
  ok = h.ok;
  err = h.err;
}

first_made : {A B : Type 0} (lowest : ℕ) (make : A → B) (r : Result A LineFault) (f : ℕ → Bool) → FirstFault lowest r f → FirstFault lowest (r >>= λ x. Ok (make x)) f
first_made lowest make (Ok x) f h = first_ok lowest (make x) f (h.ok x refl)
first_made lowest make (Err e) f h = let k = h.err e refl in first_err lowest e f h.low k.0 k.1

lesser_is : (e f : LineFault) → leb (rank e) (rank f) ≡ true → earlier e f ≡ e
lesser_is e f h = rw h refl

lesser_other : (e f : LineFault) → leb (rank e) (rank f) ≡ false → earlier e f ≡ f
lesser_other e f h = rw h refl

is_le : (m n : ℕ) → leb m n ≡ true → m ≤ n
is_le m n h = grind (arith, nat_tests)

is_gt : (m n : ℕ) → leb m n ≡ false → n < m
is_gt m n h = grind (arith, nat_tests)

first_both : {A B : Type 0} (lowest : ℕ) (a : Result A LineFault) (b : Result B LineFault) (f g : ℕ → Bool) → FirstFault lowest a f → FirstFault lowest b g → FirstFault lowest (both a b) (λ n. f n || g n)
first_both lowest (Ok x) (Ok y) f g p q = first_ok lowest (x, y) (λ n. f n || g n) (λ n. or_false (f n) (g n) (p.ok x refl n) (q.ok y refl n))
first_both lowest (Ok x) (Err e) f g p q =
    let h = q.err e refl in
    first_err lowest e (λ n. f n || g n) (λ m lt. or_false (f m) (g m) (p.low m lt) (q.low m lt)) (or_right (f (rank e)) (g (rank e)) h.0) (λ m lt. or_false (f m) (g m) (p.ok x refl m) (h.1 m lt))
first_both lowest (Err e) (Ok y) f g p q =
    let h = p.err e refl in
    first_err lowest e (λ n. f n || g n) (λ m lt. or_false (f m) (g m) (p.low m lt) (q.low m lt)) (or_left (f (rank e)) (g (rank e)) h.0) (λ m lt. or_false (f m) (g m) (h.1 m lt) (q.ok y refl m))
first_both lowest (Err e) (Err d) f g p q =
    let h = p.err e refl in
    let k = q.err d refl in
    let low : (m : ℕ) → m < lowest → (f m || g m) ≡ false = λ m lt. or_false (f m) (g m) (p.low m lt) (q.low m lt) in
    elim (cases_Bool (leb (rank e) (rank d))) [
      | inl le ↦
          let w = is_le (rank e) (rank d) le in
          rw (lesser_is e d le) (first_err lowest e (λ n. f n || g n) low (or_left (f (rank e)) (g (rank e)) h.0) (λ m lt. or_false (f m) (g m) (h.1 m lt) (k.1 m (omega arith))))
      | inr gt ↦
          let w = is_gt (rank e) (rank d) gt in
          rw (lesser_other e d gt) (first_err lowest d (λ n. f n || g n) low (or_right (f (rank d)) (g (rank d)) k.0) (λ m lt. or_false (f m) (g m) (h.1 m (omega arith)) (k.1 m lt)))
    ]

equal_only : (m k : ℕ) → m < k → eqb m k ≡ false
equal_only m k lt = grind (arith, nat_tests)

equal_self : (k : ℕ) → eqb k k ≡ true
equal_self k = grind (arith, nat_tests)

and_left : (b c : Bool) → b ≡ false → (b && c) ≡ false
and_left b c p = rw p refl

and_right : (b c : Bool) → c ≡ false → (b && c) ≡ false
and_right true c p = p
and_right false c p = refl

or_none : (b : Bool) → b ≡ (b || false)
or_none true = refl
or_none false = refl

or_assoc : (a b c : Bool) → ((a || b) || c) ≡ (a || (b || c))
or_assoc true b c = refl
or_assoc false b c = refl

and_true : (b : Bool) → b ≡ (b && true)
and_true true = refl
and_true false = refl

no_tick_here : (b c : Bool) → b ≡ (b || (c && false))
no_tick_here true c = refl
no_tick_here false true = refl
no_tick_here false false = refl

skip : (b c : Bool) → c ≡ ((b && false) || c)
skip true c = refl
skip false c = refl

named_other : (b : Bool) → b ≡ ((b && true) || (b && false))
named_other true = refl
named_other false = refl

named_tick : (b : Bool) → b ≡ ((b && false) || (b && true))
named_tick true = refl
named_tick false = refl

-- a fault with a number of its own
cause : {A : Type 0} (lowest : ℕ) (e : LineFault) → lowest ≤ rank e → FirstFault {A = A} lowest (Err e) (λ n. eqb n (rank e))
cause lowest e le = first_err lowest e (λ n. eqb n (rank e)) (λ m lt. equal_only m (rank e) (omega arith)) (equal_self (rank e)) (λ m lt. equal_only m (rank e) lt)

-- a test of an option
tested : {A : Type 0} (lowest : ℕ) (o : Option A) (e : LineFault) → lowest ≤ rank e → FirstFault lowest (or_fault e o) (λ n. eqb n (rank e) && not (is_some o))
tested lowest (Some x) e le = first_ok lowest x (λ n. eqb n (rank e) && false) (λ n. and_right (eqb n (rank e)) false refl)
tested {A} lowest None e le = first_same lowest (failed {A = A} e) (λ n. eqb n (rank e)) (λ n. eqb n (rank e) && true) (λ n. and_true (eqb n (rank e))) (cause lowest e le)

-- ---- one word

-- a reader of a word finds the first fault of it
abbrev Finds : {A : Type 0} → Kind → (List ℕ → Result A LineFault) → Type 0
Finds kind read = (w : List ℕ) → FirstFault 5 (read w) (λ n. word_fails n kind w)

finds_path : Finds path word_at
finds_path [] = cause 5 WrongArguments (lit≤ tt)
finds_path (b ∷ w) = first_ok 5 (b ∷ w) (λ n. false) (λ n. refl)

finds_number : Finds number number_at
finds_number [] = cause 5 WrongArguments (lit≤ tt)
finds_number (b ∷ w) = tested 5 (number_of (b ∷ w)) BadNumber (lit≤ tt)

finds_offset : Finds offset offset_at
finds_offset [] = cause 5 WrongArguments (lit≤ tt)
finds_offset (b ∷ w) = tested 5 (offset_of (b ∷ w)) BadNumber (lit≤ tt)

decoded : (r : Result (List ℕ) FromHexError) → FirstFault 5 (data_or_fault r) (λ n. eqb n 7 && not (is_ok r))
decoded (Ok bytes) = first_ok 5 bytes (λ n. eqb n 7 && false) (λ n. and_right (eqb n 7) false refl)
decoded (Err e) = first_same 5 (failed {A = List ℕ} BadData) (λ n. eqb n 7) (λ n. eqb n 7 && true) (λ n. and_true (eqb n 7)) (cause 5 BadData (lit≤ tt))

dotted : (dot : Bool) (r : Result (List ℕ) FromHexError) → FirstFault 5 (cond dot (Ok []) (data_or_fault r)) (λ n. eqb n 7 && not (dot || is_ok r))
dotted true r = first_ok 5 [] (λ n. eqb n 7 && false) (λ n. and_right (eqb n 7) false refl)
dotted false r = decoded r

finds_data : Finds data_bytes data_at
finds_data [] = cause 5 WrongArguments (lit≤ tt)
finds_data (b ∷ w) = dotted (bytes_eq (b ∷ w) (codes ".")) (decode_of (b ∷ w))

found_or : {A : Type 0} (b : Bool) (o p : Option A) (t : Bool) → is_some o ≡ true → is_some p ≡ t → is_some (cond b o p) ≡ (b || t)
found_or true o p t h k = h
found_or false o p t h k = k

found_word : {A : Type 0} (entries : List (List ℕ × A)) (w : List ℕ) → is_some (find_word entries w) ≡ list_any (λ k. bytes_eq w k) (words_in entries)
found_word [] w = refl
found_word (e ∷ entries) w = found_or (bytes_eq w e.0) (Some e.1) (find_word entries w) _ refl (found_word entries w)

-- a word that isn't empty is looked up, and an empty one is none of the keywords
finds_keyword : {A : Type 0} (entries : List (List ℕ × A)) → find_word entries [] ≡ None → Finds (keyword (words_in entries)) (λ w. or_fault WrongArguments (find_word entries w))
finds_keyword {A} entries none [] = rw none (cause {A = A} 5 WrongArguments (lit≤ tt))
finds_keyword entries none (b ∷ w) =
    first_same 5 (or_fault WrongArguments (find_word entries (b ∷ w))) (λ n. eqb n 5 && not (is_some (find_word entries (b ∷ w)))) (λ n. eqb n 5 && not (list_any (λ k. bytes_eq (b ∷ w) k) (words_in entries)))
    (λ n. ap (λ (t : Bool). eqb n 5 && not t) (found_word entries (b ∷ w))) (tested 5 (find_word entries (b ∷ w)) WrongArguments (lit≤ tt))

-- ---- forms of one, two and three words

low_word : {A : Type 0} (kind : Kind) (read : List ℕ → Result A LineFault) → Finds kind read → (w : List ℕ) (m : ℕ) → m < 5 → word_fails m kind w ≡ false
low_word kind read h w m lt = (h w).low m lt

-- another number of words, after words of which no condition below 5 holds
miscounted : {A : Type 0} (f g : ℕ → Bool) → ((m : ℕ) → m < 5 → f m ≡ false) → ((m : ℕ) → m < 5 → g m ≡ false) → g 5 ≡ true → FirstFault {A = A} 5 (Err WrongArguments) (λ n. f n || g n)
miscounted f g low_f low_g here =
    first_err 5 WrongArguments (λ n. f n || g n) (λ m lt. or_false (f m) (g m) (low_f m lt) (low_g m lt)) (or_right (f 5) (g 5) here) (λ m lt. or_false (f m) (g m) (low_f m lt) (low_g m lt))

finds_one : {A : Type 0} (kind : Kind) (read : List ℕ → Result A LineFault) → Finds kind read → (ws : List (List ℕ)) → FirstFault 5 (one_word read ws) (λ n. words_fail n (kind ∷ []) ws)
finds_one kind read h [] = cause 5 WrongArguments (lit≤ tt)
finds_one kind read h (w ∷ []) = first_same 5 (read w) (λ n. word_fails n kind w) (λ n. word_fails n kind w || false) (λ n. or_none (word_fails n kind w)) (h w)
finds_one kind read h (w ∷ v ∷ ws) = miscounted (λ n. word_fails n kind w) (λ n. eqb n 5) (low_word kind read h w) (λ m lt. equal_only m 5 lt) refl

finds_two : {A B : Type 0} (kind_a : Kind) (read_a : List ℕ → Result A LineFault) → Finds kind_a read_a → (kind_b : Kind) (read_b : List ℕ → Result B LineFault) → Finds kind_b read_b → (ws : List (List ℕ))
    → FirstFault 5 (two_words read_a read_b ws) (λ n. words_fail n (kind_a ∷ kind_b ∷ []) ws)
finds_two kind_a read_a ha kind_b read_b hb [] = cause 5 WrongArguments (lit≤ tt)
finds_two kind_a read_a ha kind_b read_b hb (w ∷ []) = miscounted (λ n. word_fails n kind_a w) (λ n. eqb n 5) (low_word kind_a read_a ha w) (λ m lt. equal_only m 5 lt) refl
finds_two kind_a read_a ha kind_b read_b hb (w ∷ v ∷ []) =
    first_same 5 (both (read_a w) (read_b v)) (λ n. word_fails n kind_a w || word_fails n kind_b v) (λ n. word_fails n kind_a w || (word_fails n kind_b v || false))
    (λ n. ap (λ (t : Bool). word_fails n kind_a w || t) (or_none (word_fails n kind_b v))) (first_both 5 (read_a w) (read_b v) (λ n. word_fails n kind_a w) (λ n. word_fails n kind_b v) (ha w) (hb v))
finds_two kind_a read_a ha kind_b read_b hb (w ∷ v ∷ u ∷ ws) =
    miscounted (λ n. word_fails n kind_a w) (λ n. word_fails n kind_b v || eqb n 5) (low_word kind_a read_a ha w)
    (λ m lt. or_false (word_fails m kind_b v) (eqb m 5) (low_word kind_b read_b hb v m lt) (equal_only m 5 lt)) (or_right (word_fails 5 kind_b v) true refl)

finds_three : {A B C : Type 0} (kind_a : Kind) (read_a : List ℕ → Result A LineFault) → Finds kind_a read_a → (kind_b : Kind) (read_b : List ℕ → Result B LineFault) → Finds kind_b read_b
    → (kind_c : Kind) (read_c : List ℕ → Result C LineFault) → Finds kind_c read_c → (ws : List (List ℕ))
    → FirstFault 5 (three_words read_a read_b read_c ws) (λ n. words_fail n (kind_a ∷ kind_b ∷ kind_c ∷ []) ws)
finds_three kind_a read_a ha kind_b read_b hb kind_c read_c hc [] = cause 5 WrongArguments (lit≤ tt)
finds_three kind_a read_a ha kind_b read_b hb kind_c read_c hc (w ∷ []) = miscounted (λ n. word_fails n kind_a w) (λ n. eqb n 5) (low_word kind_a read_a ha w) (λ m lt. equal_only m 5 lt) refl
finds_three kind_a read_a ha kind_b read_b hb kind_c read_c hc (w ∷ v ∷ []) =
    miscounted (λ n. word_fails n kind_a w) (λ n. word_fails n kind_b v || eqb n 5) (low_word kind_a read_a ha w)
    (λ m lt. or_false (word_fails m kind_b v) (eqb m 5) (low_word kind_b read_b hb v m lt) (equal_only m 5 lt)) (or_right (word_fails 5 kind_b v) true refl)
finds_three kind_a read_a ha kind_b read_b hb kind_c read_c hc (w ∷ v ∷ u ∷ []) =
    first_same 5 (both (both (read_a w) (read_b v)) (read_c u)) (λ n. (word_fails n kind_a w || word_fails n kind_b v) || word_fails n kind_c u) (λ n. word_fails n kind_a w || (word_fails n kind_b v || (word_fails n kind_c u || false)))
    (λ n. or_assoc (word_fails n kind_a w) (word_fails n kind_b v) (word_fails n kind_c u) ∙ ap (λ (t : Bool). word_fails n kind_a w || (word_fails n kind_b v || t)) (or_none (word_fails n kind_c u)))
    (first_both 5 (both (read_a w) (read_b v)) (read_c u) (λ n. word_fails n kind_a w || word_fails n kind_b v) (λ n. word_fails n kind_c u) (first_both 5 (read_a w) (read_b v) (λ n. word_fails n kind_a w) (λ n. word_fails n kind_b v) (ha w) (hb v)) (hc u))
finds_three kind_a read_a ha kind_b read_b hb kind_c read_c hc (w ∷ v ∷ u ∷ x ∷ ws) =
    miscounted (λ n. word_fails n kind_a w) (λ n. word_fails n kind_b v || (word_fails n kind_c u || eqb n 5)) (low_word kind_a read_a ha w)
    (λ m lt. or_false (word_fails m kind_b v) (word_fails m kind_c u || eqb m 5) (low_word kind_b read_b hb v m lt) (or_false (word_fails m kind_c u) (eqb m 5) (low_word kind_c read_c hc u m lt) (equal_only m 5 lt)))
    (or_right (word_fails 5 kind_b v) (word_fails 5 kind_c u || true) (or_right (word_fails 5 kind_c u) true refl))

-- ---- each call

finds_file : (verb : FileVerb) (ws : List (List ℕ)) → FirstFault 5 (file_arguments verb ws) (λ n. words_fail n (file_kinds verb) ws)
unfolding file_arguments
finds_file file_verb.OpenNewFile ws = first_made 5 (λ x. file.OpenNewFile x) _ (λ n. words_fail n (file_kinds file_verb.OpenNewFile) ws) (finds_one path word_at finds_path ws)
finds_file file_verb.OpenFile ws = first_made 5 (λ x. file.OpenFile x.0 x.1) _ (λ n. words_fail n (file_kinds file_verb.OpenFile) ws) (finds_two path word_at finds_path (keyword (words_in open_modes)) open_mode_at (finds_keyword open_modes refl) ws)
finds_file file_verb.CloseFile ws = first_made 5 (λ x. file.CloseFile x) _ (λ n. words_fail n (file_kinds file_verb.CloseFile) ws) (finds_one number number_at finds_number ws)
finds_file file_verb.ReadFile ws = first_made 5 (λ x. file.ReadFile x.0 x.1) _ (λ n. words_fail n (file_kinds file_verb.ReadFile) ws) (finds_two number number_at finds_number number number_at finds_number ws)
finds_file file_verb.WriteFile ws = first_made 5 (λ x. file.WriteFile x.0 x.1) _ (λ n. words_fail n (file_kinds file_verb.WriteFile) ws) (finds_two number number_at finds_number data_bytes data_at finds_data ws)
finds_file file_verb.SeekFile ws = first_made 5 (λ x. file.SeekFile x.0.0 x.0.1 x.1) _ (λ n. words_fail n (file_kinds file_verb.SeekFile) ws) (finds_three number number_at finds_number offset offset_at finds_offset (keyword (words_in whences)) whence_at (finds_keyword whences refl) ws)
finds_file file_verb.ResizeFile ws = first_made 5 (λ x. file.ResizeFile x.0 x.1) _ (λ n. words_fail n (file_kinds file_verb.ResizeFile) ws) (finds_two number number_at finds_number number number_at finds_number ws)
finds_file file_verb.SyncFile ws = first_made 5 (λ x. file.SyncFile x) _ (λ n. words_fail n (file_kinds file_verb.SyncFile) ws) (finds_one number number_at finds_number ws)
finds_file file_verb.RemoveFile ws = first_made 5 (λ x. file.RemoveFile x) _ (λ n. words_fail n (file_kinds file_verb.RemoveFile) ws) (finds_one path word_at finds_path ws)
finds_file file_verb.RenameFile ws = first_made 5 (λ x. file.RenameFile x.0 x.1) _ (λ n. words_fail n (file_kinds file_verb.RenameFile) ws) (finds_two path word_at finds_path path word_at finds_path ws)
finds_file file_verb.GetFileStatus ws = first_made 5 (λ x. file.GetFileStatus x) _ (λ n. words_fail n (file_kinds file_verb.GetFileStatus) ws) (finds_one number number_at finds_number ws)
finds_file file_verb.GetVolumeStatus ws = first_made 5 (λ x. file.GetVolumeStatus x) _ (λ n. words_fail n (file_kinds file_verb.GetVolumeStatus) ws) (finds_one path word_at finds_path ws)

finds_directory : (verb : DirectoryVerb) (ws : List (List ℕ)) → FirstFault 5 (directory_arguments verb ws) (λ n. words_fail n (directory_kinds verb) ws)
unfolding directory_arguments
finds_directory directory_verb.OpenDirectory ws = first_made 5 (λ x. directory.OpenDirectory x) _ (λ n. words_fail n (directory_kinds directory_verb.OpenDirectory) ws) (finds_one path word_at finds_path ws)
finds_directory directory_verb.CloseDirectory ws = first_made 5 (λ x. directory.CloseDirectory x) _ (λ n. words_fail n (directory_kinds directory_verb.CloseDirectory) ws) (finds_one number number_at finds_number ws)
finds_directory directory_verb.ReadDirectory ws = first_made 5 (λ x. directory.ReadDirectory x) _ (λ n. words_fail n (directory_kinds directory_verb.ReadDirectory) ws) (finds_one number number_at finds_number ws)
finds_directory directory_verb.RewindDirectory ws = first_made 5 (λ x. directory.RewindDirectory x) _ (λ n. words_fail n (directory_kinds directory_verb.RewindDirectory) ws) (finds_one number number_at finds_number ws)
finds_directory directory_verb.MakeDirectory ws = first_made 5 (λ x. directory.MakeDirectory x) _ (λ n. words_fail n (directory_kinds directory_verb.MakeDirectory) ws) (finds_one path word_at finds_path ws)
finds_directory directory_verb.RemoveDirectory ws = first_made 5 (λ x. directory.RemoveDirectory x) _ (λ n. words_fail n (directory_kinds directory_verb.RemoveDirectory) ws) (finds_one path word_at finds_path ws)
finds_directory directory_verb.SyncDirectory ws = first_made 5 (λ x. directory.SyncDirectory x) _ (λ n. words_fail n (directory_kinds directory_verb.SyncDirectory) ws) (finds_one number number_at finds_number ws)

finds_logbook : (verb : LogbookVerb) (ws : List (List ℕ)) → FirstFault 5 (logbook_arguments verb ws) (λ n. words_fail n (logbook_kinds verb) ws)
unfolding logbook_arguments
finds_logbook logbook_verb.Create ws = first_made 5 (λ x. logbook.Create x) _ (λ n. words_fail n (logbook_kinds logbook_verb.Create) ws) (finds_one path word_at finds_path ws)
finds_logbook logbook_verb.Write ws = first_made 5 (λ x. logbook.Write x.0 x.1) _ (λ n. words_fail n (logbook_kinds logbook_verb.Write) ws) (finds_two number number_at finds_number data_bytes data_at finds_data ws)
finds_logbook logbook_verb.Overwrite ws = first_made 5 (λ x. logbook.Overwrite x.0 x.1) _ (λ n. words_fail n (logbook_kinds logbook_verb.Overwrite) ws) (finds_two number number_at finds_number data_bytes data_at finds_data ws)
finds_logbook logbook_verb.Read ws = first_made 5 (λ x. logbook.Read x.0 x.1) _ (λ n. words_fail n (logbook_kinds logbook_verb.Read) ws) (finds_two number number_at finds_number number number_at finds_number ws)
finds_logbook logbook_verb.Clear ws = first_made 5 (λ x. logbook.Clear x) _ (λ n. words_fail n (logbook_kinds logbook_verb.Clear) ws) (finds_one number number_at finds_number ws)
finds_logbook logbook_verb.GetId ws = first_made 5 (λ x. logbook.GetId x) _ (λ n. words_fail n (logbook_kinds logbook_verb.GetId) ws) (finds_one path word_at finds_path ws)
finds_logbook logbook_verb.GetStatus ws = first_made 5 (λ x. logbook.GetStatus x) _ (λ n. words_fail n (logbook_kinds logbook_verb.GetStatus) ws) (finds_one number number_at finds_number ws)

finds_sampling : (verb : SamplingVerb) (ws : List (List ℕ)) → FirstFault 5 (sampling_arguments verb ws) (λ n. words_fail n (sampling_kinds verb) ws)
unfolding sampling_arguments
finds_sampling sampling_verb.Create ws = first_made 5 (λ x. sampling.Create x) _ (λ n. words_fail n (sampling_kinds sampling_verb.Create) ws) (finds_one path word_at finds_path ws)
finds_sampling sampling_verb.Write ws = first_made 5 (λ x. sampling.Write x.0 x.1) _ (λ n. words_fail n (sampling_kinds sampling_verb.Write) ws) (finds_two number number_at finds_number data_bytes data_at finds_data ws)
finds_sampling sampling_verb.ReadUpdated ws = first_made 5 (λ x. sampling.ReadUpdated x) _ (λ n. words_fail n (sampling_kinds sampling_verb.ReadUpdated) ws) (finds_one number number_at finds_number ws)
finds_sampling sampling_verb.CurrentStatus ws = first_made 5 (λ x. sampling.CurrentStatus x) _ (λ n. words_fail n (sampling_kinds sampling_verb.CurrentStatus) ws) (finds_one number number_at finds_number ws)
finds_sampling sampling_verb.ReadConditional ws = first_made 5 (λ x. sampling.ReadConditional x.0 x.1) _ (λ n. words_fail n (sampling_kinds sampling_verb.ReadConditional) ws) (finds_two number number_at finds_number number number_at finds_number ws)

finds_arguments : (verb : Verb) (ws : List (List ℕ)) → FirstFault 5 (arguments_at verb ws) (λ n. words_fail n (kinds_of verb) ws)
unfolding arguments_at
finds_arguments (verbs.File verb) ws = first_made 5 (λ call. File call) (file_arguments verb ws) (λ n. words_fail n (file_kinds verb) ws) (finds_file verb ws)
finds_arguments (verbs.Directory verb) ws = first_made 5 (λ call. Directory call) (directory_arguments verb ws) (λ n. words_fail n (directory_kinds verb) ws) (finds_directory verb ws)
finds_arguments (verbs.Logbook verb) ws = first_made 5 (λ call. Logbook call) (logbook_arguments verb ws) (λ n. words_fail n (logbook_kinds verb) ws) (finds_logbook verb ws)
finds_arguments (verbs.Sampling verb) ws = first_made 5 (λ call. Sampling call) (sampling_arguments verb ws) (λ n. words_fail n (sampling_kinds verb) ws) (finds_sampling verb ws)
finds_arguments verbs.Mode ws = first_made 5 (λ m. SetMode m) (one_word mode_at ws) (λ n. words_fail n (kinds_of verbs.Mode) ws) (finds_one (keyword (words_in modes)) mode_at (finds_keyword modes refl) ws)
finds_arguments verbs.Context ws = first_made 5 (λ m. SetContext m) (one_word context_at ws) (λ n. words_fail n (kinds_of verbs.Context) ws) (finds_one (keyword (words_in contexts)) context_at (finds_keyword contexts refl) ws)

-- ---- a line

finds_verb : (o : Option Verb) (ws : List (List ℕ)) → FirstFault 4 (or_fault UnknownCall o >>= λ verb. arguments_at verb ws) (λ n. verb_fails n o ws)
finds_verb None ws = cause 4 UnknownCall (lit≤ tt)
finds_verb (Some verb) ws = lower 5 4 (arguments_at verb ws) (λ n. words_fail n (kinds_of verb) ws) (lit≤ tt) (finds_arguments verb ws)

finds_call : (ws : List (List ℕ)) → FirstFault 4 (call_at ws) (λ n. call_fails n ws)
unfolding call_at
finds_call [] = cause 4 UnknownCall (lit≤ tt)
finds_call (w ∷ ws) = finds_verb (verb_at w) ws

-- a step that is refused for a cause of its own, before what comes after it
gated : {A B : Type 0} (lowest : ℕ) (o : Option A) (e : LineFault) (next : A → Result B LineFault) (f : ℕ → Bool) → rank e ≡ lowest → ((x : A) → FirstFault (suc lowest) (next x) f) → ((m : ℕ) → m < suc lowest → f m ≡ false)
    → FirstFault lowest (or_fault e o >>= next) (λ n. (eqb n (rank e) && not (is_some o)) || f n)
gated lowest (Some x) e next f same h low =
    first_same lowest (next x) f (λ n. (eqb n (rank e) && false) || f n) (λ n. skip (eqb n (rank e)) (f n)) (lower (suc lowest) lowest (next x) f (omega arith) (h x))
gated {A} {B} lowest None e next f same h low =
    first_err {A = B} lowest e (λ n. (eqb n (rank e) && true) || f n)
    (λ m lt. or_false (eqb m (rank e) && true) (f m) (and_left (eqb m (rank e)) true (equal_only m (rank e) (omega arith))) (low m (omega arith)))
    (or_left (eqb (rank e) (rank e) && true) (f (rank e)) (rw (equal_self (rank e)) refl))
    (λ m lt. or_false (eqb m (rank e) && true) (f m) (and_left (eqb m (rank e)) true (equal_only m (rank e) lt)) (low m (omega arith)))

in_range : (b : Bool) (n : ℕ) → FirstFault 5 (cond b (Ok n) (Err BadNumber)) (λ k. eqb k 6 && not b)
in_range true n = first_ok 5 n (λ k. eqb k 6 && false) (λ k. and_right (eqb k 6) false refl)
in_range false n = first_same 5 (failed {A = ℕ} BadNumber) (λ k. eqb k 6) (λ k. eqb k 6 && true) (λ k. and_true (eqb k 6)) (cause 5 BadNumber (lit≤ tt))

finds_number_of_ticks : (o : Option ℕ) → FirstFault 5 (or_fault BadNumber o >>= λ n. cond (leb 1 n && leb n 100000) (Ok n) (Err BadNumber)) (λ k. eqb k 6 && not (is_ticks o))
finds_number_of_ticks None = first_same 5 (failed {A = ℕ} BadNumber) (λ k. eqb k 6) (λ k. eqb k 6 && true) (λ k. and_true (eqb k 6)) (cause 5 BadNumber (lit≤ tt))
finds_number_of_ticks (Some n) = in_range (leb 1 n && leb n 100000) n

finds_ticks : Finds ticks ticks_at
finds_ticks [] = cause 5 WrongArguments (lit≤ tt)
finds_ticks (b ∷ w) = finds_number_of_ticks (number_of (b ∷ w))

by_first : (rows : Rows) (tick : Bool) (o : Option ℕ) (ws : List (List ℕ))
    → FirstFault 3 (cond tick (one ticks_at Tick ws) (or_fault UnknownPartition o >>= λ p. call_at ws >>= λ call. Ok (Partition (record { 0 = p }) call)))
    (λ n. cond tick (words_fail n (ticks ∷ []) ws) ((eqb n 3 && not (is_some o)) || call_fails n ws))
by_first rows true o ws = lower 5 3 (one ticks_at Tick ws) (λ n. words_fail n (ticks ∷ []) ws) (lit≤ tt) (first_made 5 (λ n. Tick n) (one_word ticks_at ws) (λ n. words_fail n (ticks ∷ []) ws) (finds_one ticks ticks_at finds_ticks ws))
by_first rows false o ws =
    gated 3 o UnknownPartition (λ p. call_at ws >>= λ call. Ok (Partition (record { 0 = p }) call)) (λ n. call_fails n ws) refl
    (λ p. first_made 4 (λ call. Partition (record { 0 = p }) call) (call_at ws) (λ n. call_fails n ws) (finds_call ws)) (finds_call ws).low

finds_words : (rows : Rows) (ws : List (List ℕ)) → FirstFault 3 (deed_from_words rows ws) (λ n. words_of_line_fail rows n ws)
unfolding deed_from_words
finds_words rows [] = cause 3 UnknownPartition (lit≤ tt)
finds_words rows (w ∷ ws) = by_first rows (bytes_eq w (codes "TICK")) (partition_at rows w) ws

finds_text : (b : Bool) (read : Result Deed LineFault) (f : ℕ → Bool) → FirstFault 3 read f → FirstFault 2 (cond b read (Err NotAscii)) (λ n. (eqb n 2 && not b) || f n)
finds_text true read f h = first_same 2 read f (λ n. (eqb n 2 && false) || f n) (λ n. skip (eqb n 2) (f n)) (lower 3 2 read f (lit≤ tt) h)
finds_text false read f h =
    first_err 2 NotAscii (λ n. (eqb n 2 && true) || f n)
    (λ m lt. or_false (eqb m 2 && true) (f m) (and_left (eqb m 2) true (equal_only m 2 lt)) (h.low m (omega arith))) refl
    (λ m lt. or_false (eqb m 2 && true) (f m) (and_left (eqb m 2) true (equal_only m 2 lt)) (h.low m (omega arith)))

-- a line is read where no condition holds of it, and refused for the first that does
pub finds_line : (rows : Rows) (text : List ℕ) → FirstFault 2 (deed_at rows text) (λ n. line_fails rows n text)
unfolding deed_at line_fails
finds_line rows text = finds_text (list_all is_printable text) (deed_from_words rows (words_of text)) (λ n. words_of_line_fail rows n (words_of text)) (finds_words rows (words_of text))
