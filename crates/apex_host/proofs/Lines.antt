-- Lines to which words with their counts are put, one after the other.
use Rattle.std.proofs.Common.{◌≡◌, ℕ, List, [], ◌∷◌, ◌++◌, sym, ◌∙◌, ap, append_assoc}
use Rattle.std.specs.Prelude.{codes, decimal}
use Rattle.std.proofs.lemmas.Grind.{flat_map-append}
use Rattle.apex_model.specs.Run.{spaced, line_of}
use Rattle.power_sweep.specs.declared.sweeping.Swept.{Swept}
use Rattle.apex_host.specs.Told.{swept_line}

two-spaced : (word number : List ℕ) (rest : List (List ℕ)) (end : List ℕ) → spaced (word ∷ number ∷ []) ++ (spaced rest ++ end) ≡ spaced (word ∷ number ∷ rest) ++ end
two-spaced word number rest end =
    sym (append_assoc (spaced (word ∷ number ∷ [])) (spaced rest) end) ∙ ap (λ (x : List ℕ). x ++ end) (sym (flat_map-append (λ (w : List ℕ). 32 ∷ w) (word ∷ number ∷ []) rest))

-- a word and a count stand in front of what is put after them
pub counted : (old new : List ℕ) (word number : List ℕ) (rest : List (List ℕ)) (end : List ℕ) → new ≡ old ++ spaced (word ∷ number ∷ []) → new ++ (spaced rest ++ end) ≡ old ++ (spaced (word ∷ number ∷ rest) ++ end)
counted old new word number rest end is =
    ap (λ (x : List ℕ). x ++ (spaced rest ++ end)) is ∙ append_assoc old (spaced (word ∷ number ∷ [])) (spaced rest ++ end) ∙ ap (λ (x : List ℕ). old ++ x) (two-spaced word number rest end)

pub swept-is : {calls images mounted files : ℕ} (counts : Swept) → calls ≡ counts.calls → images ≡ counts.images → mounted ≡ counts.mounted → files ≡ counts.files
    → line_of (codes "sweep" ∷ codes "calls" ∷ decimal calls ∷ codes "images" ∷ decimal images ∷ codes "mounted" ∷ decimal mounted ∷ codes "files" ∷ decimal files ∷ []) ≡ swept_line counts
swept-is counts a b c d = λ i. line_of (codes "sweep" ∷ codes "calls" ∷ decimal (a i) ∷ codes "images" ∷ decimal (b i) ∷ codes "mounted" ∷ decimal (c i) ∷ codes "files" ∷ decimal (d i) ∷ [])
