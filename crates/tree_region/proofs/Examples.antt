-- A worked example of an image, by computation: bytes that were put at their places by hand, and the state that they stand for.
use Rattle.std.specs.Prelude.{◌≡◌, ℕ, List, [], ◌∷◌, codes, refl, Ok}
use Rattle.apex_model.specs.Examples.{small_table, empty_image, poked}
use Rattle.apex_model.specs.Image.{state_of, tree_of_region, logbook_of_region}
use Rattle.apex_model.specs.Trees.{file, directory}

-- these bytes at their places in an image in which nothing was stored
abbrev with_bytes : List (ℕ × List ℕ) → List ℕ
with_bytes [] = empty_image small_table
with_bytes (p ∷ ps) = poked (with_bytes ps) p.0 p.1

-- Directory entry 0 is D, and file entry 1 is D/A with 3 bytes, 5 changes and data block 2. The journal makes the file B and moves D/A to C.
-- The logbook's entry 1 was cleared; entries 2 and 3 stand in their places.
built_by_hand : state_of small_table (with_bytes (
    (17984, 0x01 ∷ 0x01 ∷ 0x00 ∷ 0x00 ∷ 0x00 ∷ 0x00 ∷ 0x00 ∷ 0x00 ∷ 0x00 ∷ 0x00 ∷ 0x00 ∷ 0x00 ∷ 0x44 ∷ [])
    ∷ (17600, 0x01 ∷ 0x01 ∷ 0x01 ∷ 0x00 ∷ 0x03 ∷ 0x00 ∷ 0x00 ∷ 0x00 ∷ 0x05 ∷ 0x00 ∷ 0x00 ∷ 0x00 ∷ 0x41 ∷ [])
    ∷ (18240, 0x02 ∷ 0x00 ∷ 0x00 ∷ 0x00 ∷ [])
    ∷ (86016, 0x68 ∷ 0x69 ∷ 0x21 ∷ 0x77 ∷ [])
    ∷ (18432, 0xa5 ∷ []) ∷ (18944, 0x01 ∷ 0x00 ∷ 0x00 ∷ 0x01 ∷ 0x42 ∷ [])
    ∷ (19456, 0xa5 ∷ []) ∷ (19968, 0x05 ∷ 0x01 ∷ 0x00 ∷ 0x01 ∷ 0x43 ∷ [])
    ∷ (94212, 0x01 ∷ 0x00 ∷ 0x00 ∷ 0x00 ∷ [])
    ∷ (97792, 0xa5 ∷ []) ∷ (98304, 0x02 ∷ 0x00 ∷ 0x00 ∷ 0x00 ∷ 0x01 ∷ 0x00 ∷ 0xaa ∷ [])
    ∷ (98816, 0xa5 ∷ []) ∷ (99328, 0x03 ∷ 0x00 ∷ 0x00 ∷ 0x00 ∷ 0x02 ∷ 0x00 ∷ 0xbb ∷ 0xcc ∷ [])
    ∷ []))
    ≡ Ok (record {
      trees = (
          (codes "B" ∷ [], file (record { content = []; changes = 0 }))
          ∷ (codes "C" ∷ [], file (record { content = codes "hi!"; changes = 5 }))
          ∷ (codes "D" ∷ [], directory)
          ∷ []
          ) ∷ [];
      logbooks = record { life = 3; logged = (0xaa ∷ []) ∷ (0xbb ∷ 0xcc ∷ []) ∷ [] } ∷ [];
    })
unfolding state_of tree_of_region logbook_of_region
built_by_hand = refl
