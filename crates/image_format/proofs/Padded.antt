-- Fields that are written in front of padding, as they are read.
use Rattle.std.proofs.Common.{◌≡◌, ℕ, zero, suc, ◌+◌, ◌-◌, ◌^◌, ◌<◌, ◌≤◌, List, [], ◌∷◌, ◌++◌, length, take, drop, replicate, min, Option, Some, None, IsTrue, MatchOption, Bool, true, false, ◌&&◌, ◌||◌, ◌==◌, nat_le, slice_index, refl, sym, ap, ◌∙◌, inl, inr, arith}
use Rattle.std.specs.Prelude.{IsFalse}
use Rattle.std.proofs.lemmas.Bool.{cases_lt}
use Rattle.std.proofs.lemmas.Bool.Decides.{nat_tests}
use Rattle.std.proofs.lemmas.List.{append_assoc, take_all, drop_all, drop-drop, length-append, length-drop, length-replicate}
use Rattle.std.proofs.Math.Seq.{take-append_seam, drop-append_seam}
use Rattle.apex_types.specs.Naming.{is_name}
use Rattle.apex_types.specs.declared.fields.FileEntryField.TheVariants.{Used}
use Rattle.apex_types.specs.declared.fields.RecordField.{RecordField}
use Rattle.apex_model.specs.Fields.{number_of, number_at, part, is_padding, name_limit, name_at, entry_of_bytes, record_of, log_entry_of}
use Rattle.byteorder.specs.Endian.{little_bytes}
use Rattle.image_format.specs.Records.{is_record}

-- zeros are padding
pub zeros_pad : (n : ℕ) → is_padding (replicate n 0) ≡ true
zeros_pad zero = refl
zeros_pad (suc n) = zeros_pad n

-- bytes behind others
pub part-behind : (front rest : List ℕ) (pad : ℕ) → part ((front ++ rest) ++ replicate pad 0) (length front) (length rest) ≡ rest
part-behind front rest pad = rw (append_assoc front rest (replicate pad 0), drop-append_seam front (rest ++ replicate pad 0)) (take-append_seam rest (replicate pad 0))

-- padding behind bytes
pub padding-behind : (front rest : List ℕ) (pad : ℕ) → drop (length front + length rest) ((front ++ rest) ++ replicate pad 0) ≡ replicate pad 0
padding-behind front rest pad = rw (sym (length-append front rest)) (drop-append_seam (front ++ rest) (replicate pad 0))

-- four bytes spell the number that they were made of
pub four_back : (n : ℕ) → n < 2 ^ 32 → number_of (little_bytes 4 n) ≡ n
four_back n low = omega arith

-- two bytes spell the number that they were made of
pub two_back : (n : ℕ) → n < 2 ^ 16 → number_of (little_bytes 2 n) ≡ n
two_back n low = omega arith

-- a name is read where its parts are good
pub name_read : (version : ℕ) (bytes name : List ℕ) (at count end : ℕ) → nat_le count (name_limit version) ≡ true → part bytes at count ≡ name
    → is_name name ≡ true → is_padding (drop (at + count) (take end bytes)) ≡ true → name_at version bytes at count end ≡ Some name
name_read version bytes name at count end short same named padded = rw (short, same, named, padded) refl

-- a name has at most 56 bytes
pub name_few : (name : List ℕ) → is_name name ≡ true → length name ≤ 56
name_few name named = grind (arith, nat_tests)

-- a name is read as it was written
pub name_back : (front name : List ℕ) (pad at end : ℕ) → length front ≡ at → at + length name + pad ≡ end → is_name name ≡ true
    → name_at 2 ((front ++ name) ++ replicate pad 0) at (length name) end ≡ Some name
name_back front name pad at end long whole named =
    let few = name_few name named in
    let short : nat_le (length name) 56 ≡ true = grind (arith, nat_tests) in
    let same : part ((front ++ name) ++ replicate pad 0) at (length name) ≡ name = rw (sym long) (part-behind front name pad) in
    let all : take end ((front ++ name) ++ replicate pad 0) ≡ (front ++ name) ++ replicate pad 0 =
    take_all end ((front ++ name) ++ replicate pad 0) (omega (arith, length-append (front ++ name) (replicate pad 0), length-append front name, length-replicate {A = ℕ} pad 0)) in
    let padded : is_padding (drop (at + length name) (take end ((front ++ name) ++ replicate pad 0))) ≡ true =
    rw (all, sym long, padding-behind front name pad) (zeros_pad pad) in
    name_read 2 ((front ++ name) ++ replicate pad 0) name at (length name) end short same named padded

-- ---- readers

-- a number within a limit
pub is_within_limit : (count limit : ℕ) → count ≤ limit → nat_le count limit ≡ true
is_within_limit count limit few = grind (arith, nat_tests)

no_and : (a : Bool) → (a && false) ≡ false
no_and true = refl
no_and false = refl

-- the rest of bytes behind a place, as a range and as the definition says
pub rest_of : (bytes : List ℕ) (k : ℕ) → take (length bytes - k) (drop k bytes) ≡ drop k (take (length bytes) bytes)
rest_of bytes k =
    let all = take_all (length bytes) bytes (omega arith) in
    rw all (take_all (length bytes - k) (drop k bytes) (omega (arith, length-drop k bytes)))

-- no name is read where the padding is bad
pub name_unpadded : (version : ℕ) (bytes : List ℕ) (at count end : ℕ) → is_padding (drop (at + count) (take end bytes)) ≡ false → name_at version bytes at count end ≡ None
name_unpadded version bytes at count end bad = rw (bad, no_and (nat_le count (name_limit version) && is_name (part bytes at count))) refl

-- the name that is read where the length and the padding are good
pub name_from : (version : ℕ) (bytes : List ℕ) (at count end : ℕ) (read : Option (List ℕ)) → nat_le count (name_limit version) ≡ true
    → is_padding (drop (at + count) (take end bytes)) ≡ true
    → MatchOption read (IsFalse (is_name (part bytes at count))) (λ name. (name ≡ part bytes at count) × IsTrue (is_name (part bytes at count)))
    → read ≡ name_at version bytes at count end
name_from version bytes at count end None short padded bad = rw (short, bad) refl
name_from version bytes at count end (Some name) short padded good = rw (short, good.1, padded, good.0) refl

-- ---- entries

pub entry_read : (version : ℕ) (bytes name : List ℕ) (count parent size changes : ℕ) → slice_index bytes 0 ≡ 1 → slice_index bytes 1 ≡ count
    → name_at version bytes 12 count 128 ≡ Some name → slice_index bytes 2 ≡ parent → slice_index bytes 3 ≡ 0 → number_at bytes 4 4 ≡ size → number_at bytes 8 4 ≡ changes
    → entry_of_bytes version bytes ≡ Some (Used name (record { 0 = parent }) size changes)
entry_read version bytes name count parent size changes kind counted named parented zeros sized changed = rw (kind, counted, named, parented, zeros, sized, changed) refl

abbrev pub front_of_entry : ℕ → ℕ → ℕ → ℕ → List ℕ
front_of_entry count parent size changes = 1 ∷ count ∷ parent ∷ 0 ∷ (little_bytes 4 size ++ little_bytes 4 changes)

-- an entry is read as it was written
pub entry_back : (name : List ℕ) (parent size changes pad : ℕ) → is_name name ≡ true → size < 2 ^ 32 → changes < 2 ^ 32 → 12 + length name + pad ≡ 128
    → entry_of_bytes 2 ((front_of_entry (length name) parent size changes ++ name) ++ replicate pad 0) ≡ Some (Used name (record { 0 = parent }) size changes)
entry_back name parent size changes pad named small few whole =
    entry_read 2 ((front_of_entry (length name) parent size changes ++ name) ++ replicate pad 0) name (length name) parent size changes
    refl refl (name_back (front_of_entry (length name) parent size changes) name pad 12 128 refl whole named) refl refl (four_back size small) (four_back changes few)

-- ---- records

pub record_read : (version : ℕ) (bytes name : List ℕ) (kind index parent count : ℕ) → slice_index bytes 0 ≡ kind → slice_index bytes 1 ≡ index → slice_index bytes 2 ≡ parent
    → slice_index bytes 3 ≡ count → name_at version bytes 4 count 512 ≡ Some name → ((kind == 1) || (kind == 2) || (kind == 5)) ≡ true
    → record_of version bytes ≡ Some (record { kind = kind; index = index; parent = record { 0 = parent }; name = Some name })
record_read version bytes name kind index parent count kinded indexed parented counted named good = rw (kinded, good, counted, named, indexed, parented, kinded) refl

-- a record with a name is read as it was written
pub record_back : (r : RecordField) (name : List ℕ) (pad : ℕ) → r.name ≡ Some name → is_record r ≡ true → is_name name ≡ true → 4 + length name + pad ≡ 512
    → record_of 2 (((r.kind ∷ r.index ∷ r.parent.0 ∷ length name ∷ []) ++ name) ++ replicate pad 0) ≡ Some r
record_back r name pad has spelled named whole =
    let good : ((r.kind == 1) || (r.kind == 2) || (r.kind == 5)) ≡ true = rw has at spelled in
    record_read 2 (((r.kind ∷ r.index ∷ r.parent.0 ∷ length name ∷ []) ++ name) ++ replicate pad 0) name r.kind r.index r.parent.0 (length name)
    refl refl refl refl (name_back (r.kind ∷ r.index ∷ r.parent.0 ∷ length name ∷ []) name pad 4 512 refl whole named) good
    ∙ (let P : Option (List ℕ) → Option RecordField = λ n. Some (record { kind = r.kind; index = r.index; parent = r.parent; name = n }) in ap P (sym has))

-- ---- messages

pub message_read : (limit : ℕ) (bytes message : List ℕ) (number count : ℕ) → number_at bytes 0 4 ≡ number → number_at bytes 4 2 ≡ count → 1 ≤ number → 1 ≤ count → count ≤ limit
    → part bytes 6 count ≡ message → is_padding (drop (6 + count) bytes) ≡ true → log_entry_of limit bytes ≡ Some (number, message)
message_read limit bytes message number count numbered counted some filled few same padded =
    let one : nat_le 1 number ≡ true = grind (arith, nat_tests) in
    let two : nat_le 1 count ≡ true = grind (arith, nat_tests) in
    let three : nat_le count limit ≡ true = grind (arith, nat_tests) in
    rw (numbered, counted, one, two, three, padded, same) refl

abbrev pub front_of_message : ℕ → ℕ → List ℕ
front_of_message number count = little_bytes 4 number ++ little_bytes 2 count

-- a message is read as it was written
pub message_back : (limit : ℕ) (message : List ℕ) (number pad : ℕ) → 1 ≤ number → number < 2 ^ 32 → 1 ≤ length message → length message ≤ 506 → length message ≤ limit
    → log_entry_of limit ((front_of_message number (length message) ++ message) ++ replicate pad 0) ≡ Some (number, message)
message_back limit message number pad some small filled short few =
    message_read limit ((front_of_message number (length message) ++ message) ++ replicate pad 0) message number (length message)
    (four_back number small) (two_back (length message) (omega arith)) some filled few
    (part-behind (front_of_message number (length message)) message pad) (rw (padding-behind (front_of_message number (length message)) message pad) (zeros_pad pad))

-- the front of a list up to a number or its end
take_min : (xs : List ℕ) (n : ℕ) → take (min (length xs) n) xs ≡ take n xs
take_min xs n = elim (cases_lt (length xs) n) [
  | inl low ↦
      let e : min (length xs) n ≡ length xs = omega arith in
      rw e (take_all (length xs) xs (omega arith) ∙ sym (take_all n xs (omega arith)))
  | inr high ↦
      let e : min (length xs) n ≡ n = omega arith in
      rw e refl
]

-- and what is behind it
drop_min : (xs : List ℕ) (n : ℕ) → take (length xs - min (length xs) n) (drop (min (length xs) n) xs) ≡ drop n xs
drop_min xs n = elim (cases_lt (length xs) n) [
  | inl low ↦
      let e : min (length xs) n ≡ length xs = omega arith in
      let z : length xs - length xs ≡ 0 = omega arith in
      rw (e, z) (sym (drop_all n xs (omega arith)))
  | inr high ↦
      let e : min (length xs) n ≡ n = omega arith in
      rw e (take_all (length xs - n) (drop n xs) (omega (arith, length-drop n xs)))
]

-- a message that is cut at the end of the bytes
pub message_cut : (bytes behind : List ℕ) (count : ℕ) → behind ≡ take (length bytes - 6) (drop 6 bytes) → take (min (length behind) count) behind ≡ part bytes 6 count
message_cut bytes behind count e =
    let all : behind ≡ drop 6 bytes = e ∙ take_all (length bytes - 6) (drop 6 bytes) (omega (arith, length-drop 6 bytes)) in
    take_min behind count ∙ ap (take count) all

-- and what is behind it
pub message_rest : (bytes behind : List ℕ) (count : ℕ) → behind ≡ take (length bytes - 6) (drop 6 bytes)
    → take (length behind - min (length behind) count) (drop (min (length behind) count) behind) ≡ drop (6 + count) bytes
message_rest bytes behind count e =
    let all : behind ≡ drop 6 bytes = e ∙ take_all (length bytes - 6) (drop 6 bytes) (omega (arith, length-drop 6 bytes)) in
    drop_min behind count ∙ ap (drop count) all ∙ drop-drop count 6 bytes
