-- A file's present numbers become its durable ones, with its present size: all numbers are good ones again.
use Rattle.std.proofs.Common.{◌≡◌, ◌≢◌, inl, inr, ℕ, ◌*◌, ◌<◌, ◌≤◌, List, [], length, sym, ap, ◌∙◌, Option, Some, None, unwrap_or, arith, get_or-set_same, length-set, sum}
use Rattle.std.proofs.lemmas.Bool.{cases_eq, cases_lt}
use Rattle.std.specs.Prelude.{slice_index_or}
use Rattle.apex_types.specs.declared.rows.TreeRow.{TreeRow}
use Rattle.apex_model.specs.Files.{blocks_of}
use Rattle.file_tree.specs.Entries.{TreeValue, with_stored}
use Rattle.tree_region.specs.OwnedRows.{number_at, AreApart}
use Rattle.tree_region.specs.GoodNumbers.{size_blocks, HasGoodNumbers}
use Rattle.tree_region.specs.Numbers.{most_blocks}
use Rattle.tree_state.specs.Numbers.{AreZeroBehind}
use Rattle.tree_state.proofs.Fresh.{fresh-where}
use Rattle.tree_state.proofs.GoodNumbers.{AreOnceWithin, good-apart, good-within, apart-good, numbers-charged}
use Rattle.tree_state.proofs.Rows.{set-either, with_present, own-numbers, other-numbers}

-- ---- a tree with another size of a file

-- the blocks of what an entry has stored
abbrev blocks_in : Option (ℕ × ℕ) → ℕ
blocks_in o = blocks_of (unwrap_or o (0, 0)).0

-- the other files have as many blocks as before
pub size-other : (v : TreeValue) (f0 size changes f : ℕ) → f ≢ f0 → size_blocks (with_stored v f0 size changes) f ≡ size_blocks v f
size-other v f0 size changes f other = elim (set-either v.stored f0 (Some (size, changes)) None f) [
  | inl same ↦ ap blocks_in same
  | inr own ↦ absurd (other own.0)
]

-- and that file has those of its size, if it is one of the tree
pub size-own : (v : TreeValue) (f0 size changes : ℕ) → f0 < length v.stored → size_blocks (with_stored v f0 size changes) f0 ≡ blocks_of size
size-own v f0 size changes there = ap blocks_in (get_or-set_same v.stored f0 (Some (size, changes)) None there)

-- ---- numbers

-- behind the size of each file all its numbers are 0 again
pub zero-stored : (v : TreeValue) (durable present : List (List ℕ)) (f0 size changes : ℕ) → f0 < length durable → f0 < length v.stored → AreZeroBehind v durable
    → ((k : ℕ) → blocks_of size ≤ k → number_at present f0 k ≡ 0) → AreZeroBehind (with_stored v f0 size changes) (with_present durable present f0)
zero-stored v durable present f0 size changes there entry zeros none f k past = elim (cases_eq f f0) [
  | inl is ↦
      let own : size_blocks (with_stored v f0 size changes) f ≡ blocks_of size = ap (size_blocks (with_stored v f0 size changes)) is ∙ size-own v f0 size changes entry in
      own-numbers durable present f0 there f is k ∙ none k (omega (arith, past, own))
  | inr other ↦ let same = size-other v f0 size changes f other in other-numbers durable present f0 f other k ∙ zeros f k (omega (arith, past, same))
]

-- a durable number that isn't 0 stands within its file's size
within-size : (v : TreeValue) (durable : List (List ℕ)) → AreZeroBehind v durable → (f k : ℕ) → number_at durable f k ≢ 0 → k < size_blocks v f
within-size v durable zeros f k some = elim (cases_lt k (size_blocks v f)) [ inl less ↦ less | inr past ↦ absurd (some (zeros f k past)) ]

module _ (v : TreeValue) (durable present : List (List ℕ)) (f0 : ℕ) (zeros : AreZeroBehind v durable) (fresh_apart : AreApart durable present) (once : AreOnceWithin v durable) (there : f0 < length durable) where
  -- a number of the file isn't one of another file
  not-of-another : (k g j : ℕ) → g < length durable → j < size_blocks v g → g ≢ f0 → number_at present f0 k ≢ 0 → number_at present f0 k ≡ number_at durable g j → ⊥
  not-of-another k g j g_there j_less other some same = elim (cases_eq (number_at present f0 k) (number_at durable f0 k)) [
    | inl old ↦
        let one : number_at durable f0 k ≢ 0 = λ z. some (old ∙ z) in
        other (sym (once f0 k g j there g_there (within-size v durable zeros f0 k one) j_less one (sym old ∙ same)).0)
    | inr new ↦ fresh_apart.not_durable f0 k (fresh-where durable present f0 k some new) g j (sym same)
  ]

  -- and stands at no other place of its own
  at-one-place : (k j : ℕ) → number_at present f0 k ≢ 0 → number_at present f0 k ≡ number_at present f0 j → k ≡ j
  at-one-place k j some same = elim (cases_eq (number_at present f0 k) (number_at durable f0 k)) [
    | inr new ↦ sym (fresh_apart.once f0 k f0 j (fresh-where durable present f0 k some new) (sym same)).1
    | inl old ↦ elim (cases_eq (number_at present f0 j) (number_at durable f0 j)) [
      | inr new ↦ (fresh_apart.once f0 j f0 k (fresh-where durable present f0 j (λ z. some (same ∙ z)) new) same).1
      | inl also ↦
          let one : number_at durable f0 k ≢ 0 = λ z. some (old ∙ z) in
          let other : number_at durable f0 j ≢ 0 = λ z. some (same ∙ also ∙ z) in
          (once f0 k f0 j there there (within-size v durable zeros f0 k one) (within-size v durable zeros f0 j other) one (sym old ∙ same ∙ also)).1
    ]
  ]

  -- so no number but 0 stands at two places
  still-once : (size changes : ℕ) → AreOnceWithin (with_stored v f0 size changes) (with_present durable present f0)
  still-once size changes f k g j f_there g_there k_less j_less some same =
      let long : length (with_present durable present f0) ≡ length durable = length-set durable f0 (slice_index_or present f0 []) in
      let own = own-numbers durable present f0 there in
      let another = other-numbers durable present f0 in
      let within : (h i : ℕ) → h ≢ f0 → i < size_blocks (with_stored v f0 size changes) h → i < size_blocks v h
      = λ h i other less. let size_is = size-other v f0 size changes h other in omega (arith, less, size_is) in
      elim (cases_eq f f0) [
        | inl f_is ↦ elim (cases_eq g f0) [
          | inl g_is ↦ (f_is ∙ sym g_is, at-one-place k j (λ z. some (own f f_is k ∙ z)) (sym (own f f_is k) ∙ same ∙ own g g_is j))
          | inr g_other ↦
              absurd (not-of-another k g j (omega (arith, g_there, long)) (within g j g_other j_less) g_other (λ z. some (own f f_is k ∙ z)) (sym (own f f_is k) ∙ same ∙ another g g_other j))
        ]
        | inr f_other ↦ elim (cases_eq g f0) [
          | inl g_is ↦
              absurd (not-of-another j f k (omega (arith, f_there, long)) (within f k f_other k_less) f_other (λ z. some (same ∙ own g g_is j ∙ z)) (sym (own g g_is j) ∙ sym same ∙ another f f_other k))
          | inr g_other ↦
              once f k g j (omega (arith, f_there, long)) (omega (arith, g_there, long)) (within f k f_other k_less) (within g j g_other j_less)
              (λ z. some (another f f_other k ∙ z)) (sym (another f f_other k) ∙ same ∙ another g g_other j)
        ]
      ]

-- the numbers are good ones again
pub good-stored : (row : TreeRow) (v : TreeValue) (durable present : List (List ℕ)) (f0 size changes : ℕ) (charges : List ℕ)
    → HasGoodNumbers row v durable → length durable ≡ row.files → AreZeroBehind v durable → AreApart durable present
    → f0 < row.files → length (slice_index_or present f0 []) ≡ most_blocks row → ((k : ℕ) → number_at present f0 k ≤ 2 * row.quota)
    → blocks_of size ≤ most_blocks row
    → ((f : ℕ) → f < row.files → size_blocks (with_stored v f0 size changes) f ≤ slice_index_or charges f 0) → sum charges ≤ row.quota
    → HasGoodNumbers row (with_stored v f0 size changes) (with_present durable present f0)
good-stored row v durable present f0 size changes charges good files zeros fresh_apart f0_file room within few charged total =
    let after : TreeValue = with_stored v f0 size changes in
    let stored : List (List ℕ) = with_present durable present f0 in
    let there : f0 < length durable = omega (arith, f0_file, files) in
    let long : length stored ≡ length durable = length-set durable f0 (slice_index_or present f0 []) in
    let once = still-once v durable present f0 zeros fresh_apart (good-apart row v durable good) there size changes in
    let all_within : (f k : ℕ) → f < row.files → k < size_blocks after f → number_at stored f k ≤ 2 * row.quota
    = λ f k file less. elim (cases_eq f f0) [
      | inl is ↦ let same = own-numbers durable present f0 there f is k in omega (arith, same, within k)
      | inr other ↦
          let same = other-numbers durable present f0 f other k in
          let size_is = size-other v f0 size changes f other in
          omega (arith, same, good-within row v durable good f k (omega (arith, less, size_is)))
    ] in
    let rooms : (f : ℕ) → f < row.files → length (slice_index_or stored f []) ≡ most_blocks row
    = λ f file. elim (set-either durable f0 (slice_index_or present f0 []) [] f) [
      | inl same ↦ ap length same ∙ good.rooms f file
      | inr own ↦ ap length own.1 ∙ room
    ] in
    let fits : (f : ℕ) → f < row.files → size_blocks after f ≤ most_blocks row
    = λ f file. elim (set-either v.stored f0 (Some (size, changes)) None f) [
      | inl same ↦
          let size_is : size_blocks after f ≡ size_blocks v f = ap blocks_in same in
          omega (arith, size_is, good.fits f file)
      | inr own ↦
          let size_is : size_blocks after f ≡ blocks_of size = ap blocks_in own.1 in
          omega (arith, size_is, few)
    ] in
    let sum_fits = numbers-charged row.quota after stored charges (λ f less. charged f (omega (arith, less, long, files))) total in
    apart-good row after stored (long ∙ files) once all_within sum_fits rooms fits
