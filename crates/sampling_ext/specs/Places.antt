-- Where the ports of a partition stand in a list of ports.
use Rattle.std.specs.Prelude.{ℕ, false, List, Option, ◌==◌, slice_get, position, bytes_eq}
use Rattle.std.specs.Option.{option_map_or}
use Rattle.apex_model.specs.Tables.{Port, numbers_from}

-- the number in the list of the port at a place among a partition's, from 0 on
abbrev pub numbered_in : List Port → ℕ → ℕ → Option ℕ
numbered_in list p place = slice_get (numbers_from (λ port. port.partition == p) 0 list) place

-- the place among a partition's ports of the first with this name
abbrev pub named_in : List Port → ℕ → List ℕ → Option ℕ
named_in list p name = position (λ k. option_map_or (λ port. bytes_eq port.name name) (slice_get list k) false) (numbers_from (λ port. port.partition == p) 0 list)
