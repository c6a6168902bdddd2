-- A file's row of block numbers is cut behind its durable content, and one such change comes behind another.
use Rattle.std.proofs.Common.{◌≡◌, ◌≢◌, ◌⊎◌, inl, inr, ℕ, zero, suc, ◌+◌, ◌-◌, ◌<◌, ◌≤◌, List, [], ◌∷◌, ◌++◌, length, take, replicate, refl, sym, ap, subst, ◌∙◌, arith}
use Rattle.std.specs.Prelude.{slice_index_or, slice_set}
use Rattle.std.proofs.lemmas.Bool.{cases_lt}
use Rattle.std.proofs.lemmas.List.{length-append, length-replicate, length-set, length-take, get_or-set_same, get_or-set_other, get_or_past}
use Rattle.file_tree.specs.Entries.{TreeValue}
use Rattle.tree_region.specs.Rows.{Forgets, EndsWithContent, row_of, number_at}
use Rattle.tree_region.specs.GoodNumbers.{size_blocks}
use Rattle.tree_region.specs.Numbers.{with_room}
use Rattle.tree_region.specs.declared.region.TreeRegion.{TreeRegion}
use Rattle.tree_region.specs.declared.table.BlockTable.{BlockTable}

-- ---- one row

pub zero-at : (m k : ℕ) → ◌≡◌ {A = ℕ} (slice_index_or (replicate m 0) k 0) 0
zero-at zero k = refl
zero-at (suc m) zero = refl
zero-at (suc m) (suc k) = zero-at m k

stays-at : (n : ℕ) (xs : List ℕ) (m k : ℕ) → k < n → slice_index_or (take n xs ++ replicate m 0) k 0 ≡ slice_index_or xs k 0
stays-at zero xs m k less = absurd (omega (arith, less))
stays-at (suc n) [] m k less = zero-at m k
stays-at (suc n) (x ∷ xs) m zero less = refl
stays-at (suc n) (x ∷ xs) m (suc k) less = stays-at n xs m k (omega (arith, less))

gone-at : (n : ℕ) (xs : List ℕ) (m k : ℕ) → n ≤ k → slice_index_or (take n xs ++ replicate m 0) k 0 ≡ 0
gone-at zero xs m k more = zero-at m k
gone-at (suc n) [] m k more = zero-at m k
gone-at (suc n) (x ∷ xs) m zero more = absurd (omega (arith, more))
gone-at (suc n) (x ∷ xs) m (suc k) more = gone-at n xs m k (omega (arith, more))

-- the first numbers of a row, and 0 behind them
abbrev pub cut_row : ℕ → List ℕ → List ℕ
cut_row n xs = with_room (length xs) (take n xs)

cut-long : (n : ℕ) (xs : List ℕ) → length (cut_row n xs) ≡ length xs
cut-long n xs =
    let m : ℕ = length xs - length (take n xs) in
    omega (arith, length-append (take n xs) (replicate m 0), length-replicate {A = ℕ} m 0, length-take n xs)

-- ---- among others

-- where one row is put among others, each is as it was, or it is that one
pub placed : (rows : List (List ℕ)) (f : ℕ) (one : List ℕ) (g : ℕ) → (slice_index_or (slice_set rows f one) g [] ≡ slice_index_or rows g []) ⊎ ((g ≡ f) × (slice_index_or (slice_set rows f one) g [] ≡ one))
placed [] f one g = inl refl
placed (x ∷ rows) zero one zero = inr (refl, refl)
placed (x ∷ rows) zero one (suc g) = inl refl
placed (x ∷ rows) (suc f) one zero = inl refl
placed (x ∷ rows) (suc f) one (suc g) = elim (placed rows f one g) [
  | inl same ↦ inl same
  | inr own ↦ inr (ap suc own.0, own.1)
]

module _ (old : TreeRegion) (f : ℕ) (table : BlockTable) (files : table.files.items ≡ slice_set old.table.files.items f (cut_row (size_blocks old.tree f) (row_of old f))) (used : table.used ≡ old.table.used) where
  abbrev n : ℕ
  n = size_blocks old.tree f

  abbrev m : ℕ
  m = length (row_of old f) - length (take n (row_of old f))

  abbrev new : TreeRegion
  new = record { slots = old.slots; version = old.version; journal = old.journal; tree = old.tree; table = table }

  found : (g : ℕ) → (row_of new g ≡ row_of old g) ⊎ ((g ≡ f) × (row_of new g ≡ cut_row n (row_of old f)))
  found g = subst (λ (rows : List (List ℕ)). (slice_index_or rows g [] ≡ row_of old g) ⊎ ((g ≡ f) × (slice_index_or rows g [] ≡ cut_row n (row_of old f)))) (sym files) (placed old.table.files.items f (cut_row n (row_of old f)) g)

  pub cut-forgets : Forgets old new
  cut-forgets = record {
    slots = refl;
    version = refl;
    journal = refl;
    tree = refl;
    used = used;
    many = ap length files ∙ length-set old.table.files.items f (cut_row n (row_of old f));
    rooms = λ g. elim (found g) [
      | inl same ↦ ap length same
      | inr own ↦ ap length own.1 ∙ cut-long n (row_of old f) ∙ ap (λ h. length (row_of old h)) (sym own.0)
    ];
    stays = λ g k less. elim (found g) [
      | inl same ↦ ap (λ (xs : List ℕ). slice_index_or xs k 0) same
      | inr own ↦
          ap (λ (xs : List ℕ). slice_index_or xs k 0) own.1
          ∙ stays-at n (row_of old f) m k (subst (λ h. k < size_blocks old.tree h) own.0 less)
          ∙ ap (λ h. number_at old h k) (sym own.0)
    ];
    behind = λ g k more. elim (found g) [
      | inl same ↦ inl (ap (λ (xs : List ℕ). slice_index_or xs k 0) same)
      | inr own ↦ inr (ap (λ (xs : List ℕ). slice_index_or xs k 0) own.1 ∙ gone-at n (row_of old f) m k (subst (λ h. size_blocks old.tree h ≤ k) own.0 more))
    ];
  }

  pub cut-ends : f < length old.table.files.items → (k : ℕ) → n ≤ k → number_at new f k ≡ 0
  cut-ends less k more =
      ap (λ (rows : List (List ℕ)). slice_index_or (slice_index_or rows f []) k 0) files
      ∙ ap (λ (xs : List ℕ). slice_index_or xs k 0) (get_or-set_same old.table.files.items f (cut_row n (row_of old f)) [] less)
      ∙ gone-at n (row_of old f) m k more

  pub cut-others : (g : ℕ) → g ≢ f → row_of new g ≡ row_of old g
  cut-others g other = ap (λ (rows : List (List ℕ)). slice_index_or rows g []) files ∙ get_or-set_other old.table.files.items f g (cut_row n (row_of old f)) [] other

-- a row that isn't there has no numbers
pub past-rows : (kept : TreeRegion) (f : ℕ) → length kept.table.files.items ≤ f → (k : ℕ) → number_at kept f k ≡ 0
past-rows kept f past k = ap (λ (xs : List ℕ). slice_index_or xs k 0) (get_or_past kept.table.files.items f [] past)

-- ---- one change behind another

pub forgets-none : (kept : TreeRegion) → Forgets kept kept
forgets-none kept = record {
  slots = refl;
  version = refl;
  journal = refl;
  tree = refl;
  used = refl;
  many = refl;
  rooms = λ f. refl;
  stays = λ f k less. refl;
  behind = λ f k more. inl refl;
}

pub forgets-then : (a b c : TreeRegion) → Forgets a b → Forgets b c → Forgets a c
forgets-then a b c first next = record {
  slots = next.slots ∙ first.slots;
  version = next.version ∙ first.version;
  journal = next.journal ∙ first.journal;
  tree = next.tree ∙ first.tree;
  used = next.used ∙ first.used;
  many = next.many ∙ first.many;
  rooms = λ f. next.rooms f ∙ first.rooms f;
  stays = λ f k less. next.stays f k (subst (λ (v : TreeValue). k < size_blocks v f) (sym first.tree) less) ∙ first.stays f k less;
  behind = λ f k more. elim (next.behind f k (subst (λ (v : TreeValue). size_blocks v f ≤ k) (sym first.tree) more)) [
    | inl same ↦ elim (first.behind f k more) [
      | inl was ↦ inl (same ∙ was)
      | inr gone ↦ inr (same ∙ gone)
    ]
    | inr gone ↦ inr gone
  ];
}

-- a row without numbers behind its content stays one
pub ends-kept : (a b : TreeRegion) (f : ℕ) → Forgets a b → EndsWithContent a f → EndsWithContent b f
ends-kept a b f forgets ends = λ k more.
    let was : size_blocks a.tree f ≤ k = subst (λ (v : TreeValue). size_blocks v f ≤ k) forgets.tree more in
    elim (forgets.behind f k was) [
      | inl same ↦ same ∙ ends k was
      | inr gone ↦ gone
    ]

-- all rows are such where those before the last one are
pub ends-all : (kept : TreeRegion) (n : ℕ) → length kept.table.files.items ≤ n → ((f : ℕ) → f < n → EndsWithContent kept f) → (f : ℕ) → EndsWithContent kept f
ends-all kept n few ends f = elim (cases_lt f n) [
  | inl less ↦ ends f less
  | inr more ↦ λ k behind. past-rows kept f (omega (arith, few, more)) k
]

-- and those before the next one, once that is one
pub ends-more : (a b : TreeRegion) (n : ℕ) → Forgets a b → ((f : ℕ) → f < n → EndsWithContent a f) → EndsWithContent b n → (f : ℕ) → f < n + 1 → EndsWithContent b f
ends-more a b n forgets before own f less = elim (cases_lt f n) [
  | inl lower ↦ ends-kept a b f forgets (before f lower)
  | inr more ↦ let same : n ≡ f = omega (arith, less, more) in subst (λ g. EndsWithContent b g) same own
]
