-- A line: what its text is read as, it spells, and what it spells it is read as.
use Rattle.std.proofs.Common.{◌≡◌, ◌&&◌, ℕ, ◌<◌, ◌≤◌, Bool, true, false, cond, ltb, leb, List, [], ◌∷◌, length, get_or, Some, Result, Ok, Err, refl, sym, ap, subst, ◌∙◌, arith, codes, bytes_eq, lit<, inl, inr}
use Rattle.std.proofs.lemmas.Bool.{cases_Bool}
use Rattle.std.proofs.lemmas.Bool.Decides.{nat_tests}
use Rattle.std.proofs.lemmas.List.{get_or-map}
use Rattle.std.proofs.lemmas.List.Quantifiers.{position-Some}
use Rattle.std.proofs.lemmas.List.Sums.{position_or_len_is}
use Rattle.std.proofs.lemmas.List.Splits.{join_with_byte-slice_split}
use Rattle.std.proofs.lemmas.Slice.Eq.{bytes_eq-Decides}
use Rattle.std.specs.List.{AllByRecursion, join_with_byte, list_all}
use Rattle.apex_types.specs.Rows.{Rows}
use Rattle.apex_types.specs.declared.rows.PartitionRow.{PartitionRow}
use Rattle.script_model.specs.declared.faults.LineFault.{LineFault}
use Rattle.script_model.specs.declared.faults.LineFault.TheVariants.{NotAscii, UnknownPartition, BadNumber}
use Rattle.apex_types.specs.declared.calls.Deed.{Deed}
use Rattle.apex_types.specs.declared.calls.Deed.TheVariants.{Tick, Partition}
use Rattle.script_model.specs.Spelling.{Field, keyword, number, AreSpelled, call_fields, partition_name, deed_fields, IsDeed, IsWord, Spells, HasNames}
use Rattle.script_model.specs.Reading.{◌>>=◌, or_fault, one, number_at, ticks_at, call_at, partition_at, deed_from_words, words_of, is_printable, deed_at}
use Rattle.script_model.proofs.Steps.{bind_ok, or_fault_ok}
use Rattle.script_model.proofs.Numbers.{number_reader}
use Rattle.script_model.proofs.Arguments.{Say, call_says, call_again}
use Rattle.script_model.proofs.Cuts.{words_of-joined, printable-joined, words_of-clean, words_from, filled_words}

-- ---- ticks

guard_ok : {A : Type 0} (b : Bool) (d : LineFault) (x y : A) → cond b (Ok x) (Err d) ≡ Ok y → (b ≡ true) × (x ≡ y)
guard_ok true d x y e = (refl, cc)
guard_ok false d x y e = absurd cc

in_range : (n : ℕ) → (leb 1 n && leb n 100000) ≡ true → (1 ≤ n) × (n ≤ 100000)
in_range n h = (grind (arith, nat_tests), grind (arith, nat_tests))

range_is : (n : ℕ) → 1 ≤ n → n ≤ 100000 → (leb 1 n && leb n 100000) ≡ true
range_is n low high = grind (arith, nat_tests)

below_is : (m n : ℕ) → m < n → ltb m n ≡ true
below_is m n lt = grind (arith, nat_tests)

-- a number of ticks that is read
ticks_ok : (w : List ℕ) (n : ℕ) → ticks_at w ≡ Ok n → (number_at w ≡ Ok n) × (1 ≤ n) × (n ≤ 100000)
ticks_ok w n e =
    let x = bind_ok (number_at w) (λ n. cond (leb 1 n && leb n 100000) (Ok n) (Err BadNumber)) n e in
    let g = guard_ok (leb 1 x.0 && leb x.0 100000) BadNumber x.0 n x.2 in
    let b = in_range x.0 g.0 in
    (x.1 ∙ ap (λ (y : ℕ). Ok y) g.1, omega (arith, b.0, g.1), omega (arith, b.1, g.1))

ticks_is : (w : List ℕ) (n : ℕ) → number_at w ≡ Ok n → 1 ≤ n → n ≤ 100000 → ticks_at w ≡ Ok n
ticks_is w n e low high = rw (e, range_is n low high) refl

tick_says : (ws : List (List ℕ)) (deed : Deed) → one ticks_at Tick ws ≡ Ok deed → (n : ℕ) × (Tick n ≡ deed) × Say (number n ∷ []) ws × (1 ≤ n) × (n ≤ 100000)
tick_says [] deed e = absurd cc
tick_says (w ∷ []) deed e =
    let x = bind_ok (ticks_at w) (λ n. Ok (Tick n)) deed e in
    let t = ticks_ok w x.0 x.1 in
    let s = number_reader.spells w x.0 t.0 in
    (x.0, cc (x.2), record { spelled = (s.0, tt); filled = (s.1, tt) }, t.1, t.2)
tick_says (w ∷ v ∷ ws) deed e = absurd cc

tick_again : (ws : List (List ℕ)) (n : ℕ) → Say (number n ∷ []) ws → 1 ≤ n → n ≤ 100000 → one ticks_at Tick ws ≡ Ok (Tick n)
tick_again [] n s low high = absurd s.spelled
tick_again (w ∷ []) n s low high = rw (ticks_is w n (number_reader.again w n s.filled.0 s.spelled.0) low high) refl
tick_again (w ∷ v ∷ ws) n s low high = absurd s.spelled.1

-- ---- partitions

-- the row of no partition
abbrev pub no_row : PartitionRow
no_row = record { name = [] }

pub name_at : (rows : Rows) (p : ℕ) → p < length rows.partitions → partition_name rows p ≡ (get_or rows.partitions p no_row).name
name_at rows p lt = get_or-map (λ row. row.name) rows.partitions p no_row [] lt

partition_ok : (rows : Rows) (w : List ℕ) (p : ℕ) → partition_at rows w ≡ Some p → (p < length rows.partitions) × (w ≡ partition_name rows p)
partition_ok rows w p e =
    let s = position-Some (λ row. bytes_eq row.name w) rows.partitions p no_row e in
    (s.0, sym ((bytes_eq-Decides (get_or rows.partitions p no_row).name w).0 s.1) ∙ sym (name_at rows p s.0))

other_name : (rows : Rows) (h : HasNames rows) (p q : ℕ) → p < length rows.partitions → q < p → bytes_eq (get_or rows.partitions q no_row).name (partition_name rows p) ≡ false
other_name rows h p q lt below =
    elim (cases_Bool (bytes_eq (get_or rows.partitions q no_row).name (partition_name rows p))) [
      | inl same ↦
          let lq : q < length rows.partitions = omega arith in
          let e = (bytes_eq-Decides (get_or rows.partitions q no_row).name (partition_name rows p)).0 same in
          let one : q ≡ p = h.differ q p lq lt (name_at rows q lq ∙ e) in
          absurd (omega (arith, one))
      | inr other ↦ other
    ]

partition_is : (rows : Rows) (h : HasNames rows) (p : ℕ) → p < length rows.partitions → partition_at rows (partition_name rows p) ≡ Some p
partition_is rows h p lt =
    let test : bytes_eq (get_or rows.partitions p no_row).name (partition_name rows p) ≡ true = (bytes_eq-Decides (get_or rows.partitions p no_row).name (partition_name rows p)).1 (sym (name_at rows p lt)) in
    let place = position_or_len_is (λ row. bytes_eq row.name (partition_name rows p)) rows.partitions p no_row (omega arith) (λ q below. other_name rows h p q lt below) (λ _. test) in
    let small : ltb p (length rows.partitions) ≡ true = below_is p (length rows.partitions) lt in
    rw (place, small) refl

-- ---- the words of a line

-- what words of a line say, with what the table allows
pub record SayDeed (rows : Rows) (deed : Deed) (ws : List (List ℕ)) : Type 0 where
  pub say : Say (deed_fields rows deed) ws
  pub of_table : IsDeed rows deed

tick_deed : (rows : Rows) (w : List ℕ) (ws : List (List ℕ)) (deed : Deed) → w ≡ codes "TICK" → one ticks_at Tick ws ≡ Ok deed → SayDeed rows deed (w ∷ ws)
tick_deed rows w ws deed first e =
    let t = tick_says ws deed e in
    let s : SayDeed rows (Tick t.0) (w ∷ ws) = record { say = record { spelled = (first, t.2.spelled); filled = (rw first (lit< tt), t.2.filled) }; of_table = (t.3, t.4) } in
    subst (λ (d : Deed). SayDeed rows d (w ∷ ws)) t.1 s

call_deed : (rows : Rows) (h : HasNames rows) (w : List ℕ) (ws : List (List ℕ)) (deed : Deed)
    → (or_fault UnknownPartition (partition_at rows w) >>= λ p. call_at ws >>= λ call. Ok (Partition (record { 0 = p }) call)) ≡ Ok deed → SayDeed rows deed (w ∷ ws)
call_deed rows h w ws deed e =
    let x = bind_ok (or_fault UnknownPartition (partition_at rows w)) (λ p. call_at ws >>= λ call. Ok (Partition (record { 0 = p }) call)) deed e in
    let y = bind_ok (call_at ws) (λ call. Ok (Partition (record { 0 = x.0 }) call)) deed x.2 in
    let p = partition_ok rows w x.0 (or_fault_ok UnknownPartition (partition_at rows w) x.0 x.1) in
    let c = call_says ws y.0 y.1 in
    let named = h.words x.0 p.0 in
    let s : SayDeed rows (Partition (record { 0 = x.0 }) y.0) (w ∷ ws) = record { say = record { spelled = (p.1, c.spelled); filled = (rw p.1 named.nonempty, c.filled) }; of_table = p.0 } in
    let same : Partition (record { 0 = x.0 }) y.0 ≡ deed = cc (y.2) in
    subst (λ (d : Deed). SayDeed rows d (w ∷ ws)) same s

pub deed_says : (rows : Rows) (h : HasNames rows) (ws : List (List ℕ)) (deed : Deed) → deed_from_words rows ws ≡ Ok deed → SayDeed rows deed ws
unfolding deed_from_words
deed_says rows h [] deed e = absurd cc
deed_says rows h (w ∷ ws) deed e =
    elim (cases_Bool (bytes_eq w (codes "TICK"))) [
      | inl tick ↦ tick_deed rows w ws deed ((bytes_eq-Decides w (codes "TICK")).0 tick) (rw tick at e)
      | inr other ↦ call_deed rows h w ws deed (rw other at e)
    ]

no_tick : (rows : Rows) (h : HasNames rows) (p : ℕ) → p < length rows.partitions → bytes_eq (partition_name rows p) (codes "TICK") ≡ false
no_tick rows h p lt =
    elim (cases_Bool (bytes_eq (partition_name rows p) (codes "TICK"))) [
      | inl same ↦ absurd (h.ticks p lt ((bytes_eq-Decides (partition_name rows p) (codes "TICK")).0 same))
      | inr other ↦ other
    ]

pub deed_again : (rows : Rows) (h : HasNames rows) (deed : Deed) (ws : List (List ℕ)) → SayDeed rows deed ws → deed_from_words rows ws ≡ Ok deed
unfolding deed_from_words
deed_again rows h (Tick n) [] s = absurd s.say.spelled
deed_again rows h (Tick n) (w ∷ ws) s =
    rw s.say.spelled.0 (tick_again ws n (record { spelled = s.say.spelled.1; filled = s.say.filled.1 }) s.of_table.0 s.of_table.1)
deed_again rows h (Partition p call) [] s = absurd s.say.spelled
deed_again rows h (Partition p call) (w ∷ ws) s =
    let c = call_again call ws (record { spelled = s.say.spelled.1; filled = s.say.filled.1 }) in
    rw (s.say.spelled.0, no_tick rows h p.0 s.of_table, partition_is rows h p.0 s.of_table, c) refl

-- ---- the text of a line

text_ok : (b : Bool) (f : LineFault) (r : Result Deed LineFault) (deed : Deed) → cond b r (Err f) ≡ Ok deed → (b ≡ true) × (r ≡ Ok deed)
text_ok true f r deed e = (refl, e)
text_ok false f r deed e = absurd cc

-- what a text is read as, it spells
pub read_spells : (rows : Rows) → HasNames rows → (text : List ℕ) (deed : Deed) → deed_at rows text ≡ Ok deed → Spells rows text deed
unfolding deed_at
read_spells rows h text deed e =
    let t = text_ok (list_all is_printable text) NotAscii (deed_from_words rows (words_of text)) deed e in
    let s = deed_says rows h (words_of text) deed t.1 in
    record {
      words = words_of text;
      joined = sym (join_with_byte-slice_split 32 text);
      each = words_from (words_of text) (words_of-clean text t.0) s.say.filled;
      fields = s.say.spelled;
      of_table = s.of_table;
    }

cut_again : (fs : List Field) (f : Field) (ws : List (List ℕ)) → AreSpelled (f ∷ fs) ws → AllByRecursion IsWord ws → words_of (join_with_byte 32 ws) ≡ ws
cut_again fs f [] s h = absurd s
cut_again fs f (w ∷ ws) s h = words_of-joined w ws h

deed_cut : (rows : Rows) (deed : Deed) (ws : List (List ℕ)) → AreSpelled (deed_fields rows deed) ws → AllByRecursion IsWord ws → words_of (join_with_byte 32 ws) ≡ ws
deed_cut rows (Tick n) ws s h = cut_again (number n ∷ []) (keyword (codes "TICK")) ws s h
deed_cut rows (Partition p call) ws s h = cut_again (call_fields call) (keyword (partition_name rows p.0)) ws s h

-- what a text spells, it is read as
pub spelled_read : (rows : Rows) → HasNames rows → (text : List ℕ) (deed : Deed) → Spells rows text deed → deed_at rows text ≡ Ok deed
unfolding deed_at
spelled_read rows h text deed s =
    let say : SayDeed rows deed s.words = record { say = record { spelled = s.fields; filled = filled_words s.words s.each }; of_table = s.of_table } in
    rw (s.joined, printable-joined s.words s.each, deed_cut rows deed s.words s.fields s.each) (deed_again rows h deed s.words say)

abbrev ok_deed : Deed → Result Deed LineFault
ok_deed d = Ok d

-- a text spells at most one line
pub spells_one : (rows : Rows) → HasNames rows → (text : List ℕ) (d e : Deed) → Spells rows text d → Spells rows text e → d ≡ e
spells_one rows h text d e p q =
    let same : ok_deed d ≡ ok_deed e = sym (spelled_read rows h text d p) ∙ spelled_read rows h text e q in
    cc
