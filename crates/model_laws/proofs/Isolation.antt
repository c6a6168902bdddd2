-- A partition's replies are those that it gets with the lines and the stored state of its upstream alone.
use Rattle.std.proofs.Common.{◌≡◌, ◌≢◌, ℕ, zero, suc, ◌≤◌, ◌<◌, Bool, true, false, cond, List, [], ◌∷◌, ◌++◌, map, refl, sym, ap, subst, ◌∙◌, Option, Some, None, length, arith}
use Rattle.std.specs.Prelude.{◌||◌, ◌&&◌, ◌==◌, nat_lt, filter, slice_get, slice_index_or, zip}
use Rattle.std.specs.List.{AllZip, AllByRecursion, list_any}
use Rattle.std.proofs.lemmas.Bool.Decides.{nat_tests}
use Rattle.apex_types.specs.Rows.{Rows}
use Rattle.apex_types.specs.declared.calls.Deed.{Deed}
use Rattle.apex_types.specs.declared.calls.Deed.TheVariants as deed
use Rattle.apex_types.specs.declared.calls.Line.{Line}
use Rattle.apex_types.specs.declared.replies.Reply.{Reply}
use Rattle.apex_types.specs.declared.rows.PortRow.{PortRow}
use Rattle.apex_model.specs.Accepted.{IsAccepted}
use Rattle.apex_model.specs.Durable.{Durable, StoredFile, StoredLogbook, loaded_tree, loaded_book, start}
use Rattle.apex_model.specs.FailedReads.{call_outcome, world_after_deed, world_after_line}
use Rattle.apex_model.specs.Isolation.{shows, carries, feeds, itself, through, is_marked, upstream_marks, concerns, own_lines, restricted_tree, restricted_book, restricted, replies_of}
use Rattle.apex_model.specs.Laws.{LogbookStepKeepsValid, TickKeepsValid, RepliesDependOnUpstream}
use Rattle.apex_model.specs.Lines.{IsDeedOf, IsLineOf}
use Rattle.apex_model.specs.Logbooks.{empty_book}
use Rattle.apex_model.specs.Outcomes.{reply_of}
use Rattle.apex_model.specs.Run.{Told, told_for, replies_to}
use Rattle.apex_model.specs.Trees.{Tree}
use Rattle.apex_model.specs.Validity.{IsValidTree, IsValidLogbook, IsValid}
use Rattle.apex_model.specs.World.{World}
use Rattle.apex_model.proofs.Alike.{IsClosed}
use Rattle.apex_model.proofs.Cuts.{length-map}
use Rattle.apex_model.proofs.Keeps.{lt-true, lt-false}
use Rattle.apex_model.proofs.Upstream.{marks_are_upstream}
use Rattle.model_laws.proofs.AlikePorts.{IsFed}
use Rattle.model_laws.proofs.AlikeWords.{equal-numbers}
use Rattle.model_laws.proofs.AlikeWorlds.{WorldsAlike, tick-line, member-reply, member-world, other-world}
use Rattle.model_laws.proofs.Steps.{line-valid}

-- ---- a run of worlds that are alike

module _ (table : Rows) (marks : List Bool) (closed : IsClosed table (is_marked marks)) (fed : IsFed table (is_marked marks)) (p : ℕ) (apart : (q : ℕ) → is_marked marks q ≡ false → q ≢ p)
    (good : IsAccepted table) (books : LogbookStepKeepsValid) (ticks : TickKeepsValid) (failed : List ℕ) where
  -- the right side, by whether the line is of the upstream
  own-line : (b : World) (line : Line) (own : List Line) (t : Bool) → replies_to table failed b (cond t (line ∷ own) own)
      ≡ cond t (told_for table failed b line.number line.deed ++ replies_to table failed (world_after_deed table failed b line.number line.deed) own) (replies_to table failed b own)
  own-line b line own true = refl
  own-line b line own false = refl

  one-line : (a b : World) → IsValid table a → WorldsAlike table (is_marked marks) a b → (number : ℕ) (d : Deed) (lines own : List Line)
      → ((c : World) → WorldsAlike table (is_marked marks) (world_after_deed table failed a number d) c
      → replies_of p (replies_to table failed (world_after_deed table failed a number d) lines) ≡ replies_of p (replies_to table failed c own))
      → replies_of p (told_for table failed a number d ++ replies_to table failed (world_after_deed table failed a number d) lines)
      ≡ replies_of p (cond (concerns marks d) (told_for table failed b number d ++ replies_to table failed (world_after_deed table failed b number d) own) (replies_to table failed b own))
  one-line a b v same number (deed.Tick n) lines own rest =
      rest (world_after_deed table failed b number (deed.Tick n)) (tick-line table (is_marked marks) closed fed a b v same failed number n)
  one-line a b v same number (deed.Partition q c) lines own rest =
      let told : Reply → Told = λ reply. record { number = number; partition = q.0; reply = reply } in
      let left : List Told = replies_of p (replies_to table failed (world_after_deed table failed a number (deed.Partition q c)) lines) in
      (elim (is_marked marks q.0) as (λ t. is_marked marks q.0 ≡ t
      → cond (q.0 == p) (told (reply_of (call_outcome table failed a number q.0 c)) ∷ left) left
      ≡ replies_of p (cond t (told_for table failed b number (deed.Partition q c) ++ replies_to table failed (world_after_deed table failed b number (deed.Partition q c)) own) (replies_to table failed b own))) [
        | true ↦ λ member.
            let reply = member-reply table (is_marked marks) closed fed a b v same failed number q.0 c member in
            let more = rest (world_after_deed table failed b number (deed.Partition q c)) (member-world table (is_marked marks) closed fed a b v same failed number q.0 c member) in
            λ i. cond (q.0 == p) (told (reply i) ∷ more i) (more i)
        | false ↦ λ out.
            let other = apart q.0 out in
            let test : (q.0 == p) ≡ false = grind (arith, nat_tests) in
            ap (λ t. cond t (told (reply_of (call_outcome table failed a number q.0 c)) ∷ left) left) test
            ∙ rest b (other-world table (is_marked marks) closed fed a b v same failed number q.0 c out)
      ]) refl

  run : (lines : List Line) (a b : World) → IsValid table a → WorldsAlike table (is_marked marks) a b
      → replies_of p (replies_to table failed a lines) ≡ replies_of p (replies_to table failed b (filter (λ line. concerns marks line.deed) lines))
  run [] a b v same = refl
  run (line ∷ lines) a b v same =
      let own : List Line = filter (λ line. concerns marks line.deed) lines in
      one-line a b v same line.number line.deed lines own
      (λ c alike. run lines (world_after_line table failed a line) c (line-valid books ticks table failed a line good v) alike)
      ∙ ap (replies_of p) (sym (own-line b line own (concerns marks line.deed)))

-- ---- the worlds that are started

restricted-at : {R S T : Type 0} (g : R × S → S) (f : S → T) (d : T) (rows : List R) (xs : List S) (k : ℕ) (row : R) → slice_get rows k ≡ Some row → ((x : S) → g (row, x) ≡ x)
    → slice_index_or (map f xs) k d ≡ slice_index_or (map f (map g (zip rows xs))) k d
restricted-at {R} g f d [] xs k row at same = absurd (let wrong : ◌≡◌ {A = Option R} None (Some row) = at in cc)
restricted-at g f d (r ∷ rows) [] k row at same = refl
restricted-at {R} {S} g f d (r ∷ rows) (x ∷ xs) zero row at same =
    let one : r ≡ row = cc in
    let P : R → Type 0 = λ y. g (y, x) ≡ x in
    ap f (sym (subst P (sym one) (same x)))
restricted-at g f d (r ∷ rows) (x ∷ xs) (suc k) row at same = restricted-at g f d rows xs k row at same

restricted-count : {R S T : Type 0} (g : R × S → S) (f : S → T) (rows : List R) (xs : List S) → length xs ≡ length rows → length (map f xs) ≡ length (map f (map g (zip rows xs)))
restricted-count g f [] [] e = refl
restricted-count g f [] (x ∷ xs) e = absurd (omega arith)
restricted-count g f (r ∷ rows) [] e = refl
restricted-count g f (r ∷ rows) (x ∷ xs) e = ap suc (restricted-count g f rows xs (omega arith))

zip-count : {A B : Type 0} (P : A → B → Type 0) (rows : List A) (xs : List B) → AllZip P rows xs → length xs ≡ length rows
zip-count P [] [] z = refl
zip-count P [] (x ∷ xs) z = absurd z
zip-count P (row ∷ rows) [] z = absurd z
zip-count P (row ∷ rows) (x ∷ xs) z = ap suc (zip-count P rows xs z.1)

-- what is stored, with each tree and logbook of another than these empty
abbrev only : Rows → List Bool → Durable → Durable
only table marks durable = record {
  trees = map (restricted_tree marks) (zip table.trees durable.trees);
  logbooks = map (restricted_book marks) (zip table.logbooks durable.logbooks);
}

start-alike : (table : Rows) (marks : List Bool) (durable : Durable) → IsValid table (start table durable) → WorldsAlike table (is_marked marks) (start table durable) (start table (only table marks durable))
start-alike table marks durable v = record {
  files = record {
    trees = record {
      count = restricted-count (restricted_tree marks) loaded_tree table.trees durable.trees (sym (length-map loaded_tree durable.trees) ∙ zip-count IsValidTree table.trees (map loaded_tree durable.trees) v.files.trees);
      at = λ k is. restricted-at (restricted_tree marks) loaded_tree [] table.trees durable.trees k is.0 is.1 (λ x. let none : Tree StoredFile = [] in ap (λ t. cond t x none) is.2);
    };
    handles = record { count = refl; at = λ k _. refl };
  };
  logbooks = record {
    books = record {
      count = restricted-count (restricted_book marks) loaded_book table.logbooks durable.logbooks (sym (length-map loaded_book durable.logbooks) ∙ zip-count IsValidLogbook table.logbooks (map loaded_book durable.logbooks) v.logbooks.books);
      at = λ k is. restricted-at (restricted_book marks) loaded_book empty_book table.logbooks durable.logbooks k is.0 is.1
          (λ x. let none : StoredLogbook = record { life = 0; logged = [] } in ap (λ t. cond t x none) is.2);
    };
    created = record { count = refl; at = λ k _. refl };
  };
  ports = record {
    channels = record { count = refl; at = λ k row _ _. record { sample = refl; count = refl; marks = λ d port _ _. refl } };
    created = record { count = refl; at = λ k _. refl };
  };
  partitions = record { count = refl; at = λ k _. refl };
  time = refl;
}

-- ---- the upstream

any-from : {A : Type 0} (test : A → Bool) (xs : List A) (k : ℕ) (x : A) → slice_get xs k ≡ Some x → test x ≡ true → list_any test xs ≡ true
any-from {A} test [] k x at h = absurd (let wrong : ◌≡◌ {A = Option A} None (Some x) = at in cc)
any-from {A} test (y ∷ xs) zero x at h = let one : y ≡ x = cc in let here : test y ≡ true = ap test one ∙ h in ap (λ b. b || list_any test xs) here
any-from test (y ∷ xs) (suc k) x at h = ap (λ b. test y || b) (any-from test xs k x at h) ∙ or-right-true (test y)
  where
    or-right-true : (b : Bool) → (b || true) ≡ true
    or-right-true true = refl
    or-right-true false = refl

or-false : (a b : Bool) → (a || b) ≡ true → a ≡ false → b ≡ true
or-false true b h e = absurd cc
or-false false b h e = h

or-first : (a b : Bool) → a ≡ true → (a || b) ≡ true
or-first true b h = refl
or-first false b h = absurd cc

or-second : (a b : Bool) → b ≡ true → (a || b) ≡ true
or-second true b h = refl
or-second false b h = h

alike-number : (n : ℕ) → (n == n) ≡ true
alike-number n = grind (arith, nat_tests)

module _ (table : Rows) (p : ℕ) (good : IsAccepted table) (within : p < length table.partitions) where
  -- who feeds a member is one
  fed-by : (q member : ℕ) → feeds table q member ≡ true → is_marked (upstream_marks table p) member ≡ true → is_marked (upstream_marks table p) q ≡ true
  fed-by q member f m = (marks_are_upstream table p q good within).1 (through q member f ((marks_are_upstream table p member good within).0 m))

  upstream-closed : IsClosed table (is_marked (upstream_marks table p))
  upstream-closed t r row at right member = (elim (row.owner.0 == r) as (λ b. (row.owner.0 == r) ≡ b → is_marked (upstream_marks table p) row.owner.0 ≡ true) [
    | true ↦ λ e. ap (is_marked (upstream_marks table p)) (equal-numbers row.owner.0 r e) ∙ member
    | false ↦ λ e.
        let reads : list_any (λ reader. reader.0 == r) row.readers ≡ true = or-false (row.owner.0 == r) _ right e in
        let shown : shows row.owner.0 r row ≡ true = ap (λ b. b && list_any (λ reader. reader.0 == r) row.readers) (alike-number row.owner.0) ∙ reads in
        fed-by row.owner.0 r (or-first (list_any (shows row.owner.0 r) table.trees) (list_any (carries row.owner.0 r) table.channels) (any-from (shows row.owner.0 r) table.trees t row at shown)) member
  ]) refl

  upstream-fed : IsFed table (is_marked (upstream_marks table p))
  upstream-fed k d row port at end member =
      let source : ℕ = row.source.partition.0 in
      let target : ℕ = port.partition.0 in
      let ends : list_any (λ (other : PortRow). other.partition.0 == target) row.destinations ≡ true =
      any-from (λ (other : PortRow). other.partition.0 == target) row.destinations d port end (alike-number target) in
      let carried : carries source target row ≡ true = ap (λ b. b && list_any (λ (other : PortRow). other.partition.0 == target) row.destinations) (alike-number source) ∙ ends in
      fed-by source target (or-second (list_any (shows source target) table.trees) (list_any (carries source target) table.channels)
      (any-from (carries source target) table.channels k row at carried)) member

  upstream-apart : (q : ℕ) → is_marked (upstream_marks table p) q ≡ false → q ≢ p
  upstream-apart q out e =
      let own : is_marked (upstream_marks table p) p ≡ true = (marks_are_upstream table p p good within).1 itself in
      let wrong : true ≡ false = sym own ∙ ap (is_marked (upstream_marks table p)) (sym e) ∙ out in cc

-- ---- a number that is no partition's

none-told : (table : Rows) (failed : List ℕ) (p : ℕ) (w : World) (number : ℕ) (d : Deed) (rest : List Told) → length table.partitions ≤ p → IsDeedOf table d
    → replies_of p (told_for table failed w number d ++ rest) ≡ replies_of p rest
none-told table failed p w number (deed.Tick n) rest far is = refl
none-told table failed p w number (deed.Partition q c) rest far is =
    let low = is.0 in
    let other : q.0 ≢ p = λ e. omega (arith, e, low, far) in
    let test : (q.0 == p) ≡ false = grind (arith, nat_tests) in
    let told : Told = record { number = number; partition = q.0; reply = reply_of (call_outcome table failed w number q.0 c) } in
    ap (λ t. cond t (told ∷ replies_of p rest) (replies_of p rest)) test

no-replies : (table : Rows) (failed : List ℕ) (p : ℕ) → length table.partitions ≤ p → (lines : List Line) (w : World) → AllByRecursion (IsLineOf table) lines → replies_of p (replies_to table failed w lines) ≡ []
no-replies table failed p far [] w all = refl
no-replies table failed p far (line ∷ lines) w all =
    none-told table failed p w line.number line.deed (replies_to table failed (world_after_line table failed w line) lines) far all.0.deed
    ∙ no-replies table failed p far lines (world_after_line table failed w line) all.1

all-filtered : {A : Type 0} (P : A → Type 0) (test : A → Bool) (xs : List A) → AllByRecursion P xs → AllByRecursion P (filter test xs)
all-filtered P test [] h = tt
all-filtered P test (x ∷ xs) h = elim (test x) as (λ b. AllByRecursion P (cond b (x ∷ filter test xs) (filter test xs))) [ true ↦ (h.0, all-filtered P test xs h.1) | false ↦ all-filtered P test xs h.1 ]

-- ---- the whole

pub replies-depend : LogbookStepKeepsValid → TickKeepsValid → RepliesDependOnUpstream
replies-depend books ticks table failed durable lines p good v all =
    (elim (nat_lt p (length table.partitions)) as (λ t. nat_lt p (length table.partitions) ≡ t
    → replies_of p (replies_to table failed (start table durable) lines) ≡ replies_of p (replies_to table failed (start table (restricted table p durable)) (own_lines table p lines))) [
      | true ↦ λ h.
          let within = lt-true p (length table.partitions) h in
          run table (upstream_marks table p) (upstream-closed table p good within) (upstream-fed table p good within) p (upstream-apart table p good within) good books ticks failed
          lines (start table durable) (start table (restricted table p durable)) v (start-alike table (upstream_marks table p) durable v)
      | false ↦ λ h.
          let far = lt-false p (length table.partitions) h in
          no-replies table failed p far lines (start table durable) all
          ∙ sym (no-replies table failed p far (own_lines table p lines) (start table (restricted table p durable)) (all-filtered (IsLineOf table) (λ line. concerns (upstream_marks table p) line.deed) lines all))
    ]) refl
