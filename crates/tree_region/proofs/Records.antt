-- Records that are replayed one after the other.
use Rattle.std.proofs.Common.{◌≡◌, ℕ, zero, suc, ◌+◌, ◌≤◌, List, [], ◌∷◌, length, drop, refl, ap, ◌∙◌, Option, Some, None, slice_get, arith}
use Rattle.apex_types.specs.declared.fields.RecordField.{RecordField}
use Rattle.apex_model.specs.Fields.{record_of}
use Rattle.file_tree.specs.Entries.{TreeValue}
use Rattle.file_tree.specs.Records.{applied}
use Rattle.tree_region.specs.Replay.{after_record, replayed}

drop-at : {A : Type 0} (xs : List A) (k : ℕ) (x : A) → slice_get xs k ≡ Some x → drop k xs ≡ x ∷ drop (suc k) xs
drop-at [] k x h = absurd (let e : ◌≡◌ {A = Option _} None (Some x) = h in cc)
drop-at (y ∷ xs) zero x h = let e : y ≡ x = cc in ap (λ z. z ∷ xs) e
drop-at (y ∷ xs) (suc k) x h = drop-at xs k x h

drop-past : {A : Type 0} (xs : List A) (k : ℕ) → slice_get xs k ≡ None → drop k xs ≡ []
drop-past [] zero h = refl
drop-past [] (suc k) h = refl
drop-past (y ∷ xs) zero h = absurd (let e : ◌≡◌ {A = Option _} (Some y) None = h in cc)
drop-past (y ∷ xs) (suc k) h = drop-past xs k h

-- once a record was not replayed, none is
pub replayed-none : (version : ℕ) (records : List (List ℕ)) → replayed version None records ≡ None
unfolding replayed
replayed-none version [] = refl
replayed-none version (bytes ∷ records) = refl

pub replayed-step : (version : ℕ) (v : TreeValue) (bytes : List ℕ) (records : List (List ℕ)) → replayed version (Some v) (bytes ∷ records) ≡ replayed version (after_record v (record_of version bytes)) records
unfolding replayed
replayed-step version v bytes records = refl

pub replayed-end : (version : ℕ) (tree : Option TreeValue) → replayed version tree [] ≡ tree
unfolding replayed
replayed-end version tree = refl

-- with the first k records replayed the tree is v
pub record IsSoFar (version : ℕ) (before : TreeValue) (records : List (List ℕ)) (k : ℕ) (v : TreeValue) : Type 0 where
  pub is : replayed version (Some before) records ≡ replayed version (Some v) (drop k records)

pub so_far-start : (version : ℕ) (v : TreeValue) (records : List (List ℕ)) → IsSoFar version v records 0 v
so_far-start version v records = record { is = refl }

-- behind the last record
pub so_far-end : (version : ℕ) (before : TreeValue) (records : List (List ℕ)) (k : ℕ) (v : TreeValue) → IsSoFar version before records k v → slice_get records k ≡ None → replayed version (Some before) records ≡ Some v
so_far-end version before records k v so_far none = so_far.is ∙ ap (replayed version (Some v)) (drop-past records k none) ∙ replayed-end version (Some v)

module _ (version : ℕ) (before : TreeValue) (records : List (List ℕ)) (k : ℕ) (v : TreeValue) (so_far : IsSoFar version before records k v) (bytes : List ℕ) (here : slice_get records k ≡ Some bytes) where
  next-is : replayed version (Some before) records ≡ replayed version (after_record v (record_of version bytes)) (drop (suc k) records)
  next-is = so_far.is ∙ ap (replayed version (Some v)) (drop-at records k bytes here) ∙ replayed-step version v bytes (drop (suc k) records)

  -- a record that is not spelled
  pub unspelled : record_of version bytes ≡ None → replayed version (Some before) records ≡ None
  unspelled none = next-is ∙ ap (λ (o : Option RecordField). replayed version (after_record v o) (drop (suc k) records)) none ∙ replayed-none version (drop (suc k) records)

  module _ (change : RecordField) (spelled : record_of version bytes ≡ Some change) where
    -- one that does not apply
    pub unapplied : applied v change ≡ None → replayed version (Some before) records ≡ None
    unapplied none =
        next-is ∙ ap (λ (o : Option RecordField). replayed version (after_record v o) (drop (suc k) records)) spelled
        ∙ ap (λ (o : Option TreeValue). replayed version o (drop (suc k) records)) none ∙ replayed-none version (drop (suc k) records)

    -- one that applies
    pub so_far-next : (w : TreeValue) → applied v change ≡ Some w → IsSoFar version before records (k + 1) w
    so_far-next w is =
        let number : suc k ≡ k + 1 = omega arith in
        record {
          is = next-is ∙ ap (λ (o : Option RecordField). replayed version (after_record v o) (drop (suc k) records)) spelled
              ∙ ap (λ (o : Option TreeValue). replayed version o (drop (suc k) records)) is ∙ ap (λ n. replayed version (Some w) (drop n records)) number;
        }

-- behind the last of a list
pub none-past : {A : Type 0} (xs : List A) (k : ℕ) → slice_get xs k ≡ None → length xs ≤ k
none-past [] k h = omega arith
none-past (y ∷ xs) zero h = absurd (let e : ◌≡◌ {A = Option _} (Some y) None = h in cc)
none-past (y ∷ xs) (suc k) h = let r = none-past xs k h in omega arith
