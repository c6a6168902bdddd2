-- The numbers of the rows that pass a test, row by row.
use Rattle.std.proofs.Common.{◌≡◌, ◌≢◌, ℕ, ◌+◌, ◌-◌, Bool, true, false, List, [], ◌∷◌, ◌++◌, drop, zero, suc, refl, ap, sym, ◌∙◌, Option, Some, arith}
use Rattle.std.specs.Prelude.{◌==◌, slice_get, position, bytes_eq, if◌then◌else◌}
use Rattle.std.specs.Option.{option_map_or}
use Rattle.std.proofs.lemmas.List.{append_assoc}
use Rattle.std.specs.List.{position_from}
use Rattle.std.proofs.lemmas.Iterator.Adapters.{position_from-zero}
use Rattle.apex_types.specs.declared.rows.ChannelRow.{ChannelRow}
use Rattle.apex_types.specs.declared.rows.PortRow.{PortRow}
use Rattle.apex_model.specs.Tables.{Port, numbers_from, destination_end, destinations_of_channel, ports_of_channel, ports_from}
use Rattle.sampling_ext.proofs.Lists.{drop_at}

module _ {R : Type 0} (test : R → Bool) where
  pub passed : (k : ℕ) (rows : List R) (row : R) → slice_get rows k ≡ Some row → test row ≡ true → numbers_from test k (drop k rows) ≡ k ∷ numbers_from test (k + 1) (drop (k + 1) rows)
  passed k rows row e t =
      ap (numbers_from test k) (drop_at rows k row e) ∙ ap (λ (b : Bool). if b then k ∷ numbers_from test (k + 1) (drop (k + 1) rows) else numbers_from test (k + 1) (drop (k + 1) rows)) t

  pub failed : (k : ℕ) (rows : List R) (row : R) → slice_get rows k ≡ Some row → test row ≡ false → numbers_from test k (drop k rows) ≡ numbers_from test (k + 1) (drop (k + 1) rows)
  failed k rows row e t =
      ap (numbers_from test k) (drop_at rows k row e) ∙ ap (λ (b : Bool). if b then k ∷ numbers_from test (k + 1) (drop (k + 1) rows) else numbers_from test (k + 1) (drop (k + 1) rows)) t

-- the element behind the first
pub behind : (k : ℕ) (rest : List ℕ) (n : ℕ) → n ≢ 0 → slice_get (k ∷ rest) n ≡ slice_get rest (n - 1)
behind k rest zero h = absurd (h refl)
behind k rest (suc n) h = ap (slice_get rest) (omega arith)

-- the search goes on behind a number that doesn't pass
pub searched : (found : ℕ → Bool) (place k : ℕ) (rest : List ℕ) → found k ≡ false → position_from found place (k ∷ rest) ≡ position_from found (place + 1) rest
searched found place k rest t = ap (λ (b : Bool). if b then Some place else position_from found (place + 1) rest) t

pub found_here : (found : ℕ → Bool) (place k : ℕ) (rest : List ℕ) → found k ≡ true → position_from found place (k ∷ rest) ≡ Some place
found_here found place k rest t = ap (λ (b : Bool). if b then Some place else position_from found (place + 1) rest) t

pub from_front : (found : ℕ → Bool) (xs : List ℕ) → position found xs ≡ position_from found 0 xs
from_front found xs = position_from-zero found xs

-- the place of the first of a partition's ports with this name, from a number on
abbrev pub named_from : List Port → ℕ → List ℕ → ℕ → ℕ → Option ℕ
named_from list p name place k =
    position_from (λ j. option_map_or (λ port. bytes_eq port.name name) (slice_get list j) false) place (numbers_from (λ port. port.partition == p) k (drop k list))

module _ (list : List Port) (p : ℕ) (name : List ℕ) (place k : ℕ) (port : Port) (at : slice_get list k ≡ Some port) where
  abbrev has_name : ℕ → Bool
  has_name j = option_map_or (λ port. bytes_eq port.name name) (slice_get list j) false

  is-named : (b : Bool) → bytes_eq port.name name ≡ b → has_name k ≡ b
  is-named b e = ap (λ (o : Option Port). option_map_or (λ port. bytes_eq port.name name) o false) at ∙ e

  here : (port.partition == p) ≡ true → named_from list p name place k ≡ position_from has_name place (k ∷ numbers_from (λ port. port.partition == p) (k + 1) (drop (k + 1) list))
  here mine = ap (position_from has_name place) (passed (λ (port : Port). port.partition == p) k list port at mine)

  pub named-here : (port.partition == p) ≡ true → bytes_eq port.name name ≡ true → named_from list p name place k ≡ Some place
  named-here mine e = here mine ∙ found_here has_name place k _ (is-named true e)

  pub named-other : (port.partition == p) ≡ true → bytes_eq port.name name ≡ false → named_from list p name place k ≡ named_from list p name (place + 1) (k + 1)
  named-other mine e = here mine ∙ searched has_name place k _ (is-named false e)

  pub named-foreign : (port.partition == p) ≡ false → named_from list p name place k ≡ named_from list p name place (k + 1)
  named-foreign foreign = ap (position_from has_name place) (failed (λ (port : Port). port.partition == p) k list port at foreign)

-- one more destination
pub destinations_at : (channel d : ℕ) (rows : List PortRow) (row : PortRow) → slice_get rows d ≡ Some row
    → destinations_of_channel channel d (drop d rows)
    ≡ record { partition = row.partition.0; name = row.name; channel = channel; end = destination_end d } ∷ destinations_of_channel channel (d + 1) (drop (d + 1) rows)
destinations_at channel d rows row e = ap (destinations_of_channel channel d) (drop_at rows d row e)

pub destination_more : (channel d : ℕ) (rows : List PortRow) (row : PortRow) (front now whole : List Port) (port : Port) → slice_get rows d ≡ Some row
    → front ++ destinations_of_channel channel d (drop d rows) ≡ whole → now ≡ front ++ port ∷ []
    → port ≡ record { partition = row.partition.0; name = row.name; channel = channel; end = destination_end d } → now ++ destinations_of_channel channel (d + 1) (drop (d + 1) rows) ≡ whole
destination_more channel d rows row front now whole port e all added is =
    let rest = destinations_of_channel channel (d + 1) (drop (d + 1) rows) in
    ap (λ (xs : List Port). xs ++ rest) added
    ∙ append_assoc front (port ∷ []) rest
    ∙ ap (λ (x : Port). front ++ (x ∷ rest)) is
    ∙ ap (λ (xs : List Port). front ++ xs) (sym (destinations_at channel d rows row e))
    ∙ all

-- one more channel
pub channels_at : (channel : ℕ) (rows : List ChannelRow) (row : ChannelRow) → slice_get rows channel ≡ Some row
    → ports_from channel (drop channel rows) ≡ ports_of_channel channel row ++ ports_from (channel + 1) (drop (channel + 1) rows)
channels_at channel rows row e = ap (ports_from channel) (drop_at rows channel row e)

pub channel_more : (channel : ℕ) (rows : List ChannelRow) (row : ChannelRow) (front now whole : List Port) → slice_get rows channel ≡ Some row
    → front ++ ports_from channel (drop channel rows) ≡ whole → now ≡ front ++ ports_of_channel channel row → now ++ ports_from (channel + 1) (drop (channel + 1) rows) ≡ whole
channel_more channel rows row front now whole e all added =
    let rest = ports_from (channel + 1) (drop (channel + 1) rows) in
    ap (λ (xs : List Port). xs ++ rest) added
    ∙ append_assoc front (ports_of_channel channel row) rest
    ∙ ap (λ (xs : List Port). front ++ xs) (sym (channels_at channel rows row e))
    ∙ all
