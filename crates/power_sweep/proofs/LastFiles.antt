-- The files of a world are those of each state that a cut leaves of it.
use Rattle.std.proofs.Common.{◌≡◌, ℕ, ◌+◌, List, [], ◌∷◌, cond, refl, sym, ◌∙◌}
use Rattle.std.specs.Prelude.{sum_by}
use Rattle.std.specs.List.{AllZip}
use Rattle.std.specs.Map.{values_of}
use Rattle.std.proofs.lemmas.List.Sums.{sum_by-cons}
use Rattle.apex_model.specs.Durable.{Durable, IsCut, IsCutOfNode, IsCutOfTree, StoredFile}
use Rattle.apex_model.specs.Files.{File}
use Rattle.apex_model.specs.Trees.{Node, directory, file, Tree, is_file, file_count}
use Rattle.apex_model.specs.World.{World}
use Rattle.power_sweep.specs.Cuts.{files_of}
use Rattle.power_sweep.specs.Whole.{files_of_world}

cut-kind : (n : Node File) (stored : Node StoredFile) → IsCutOfNode n stored → is_file stored ≡ is_file n
cut-kind directory directory cut = refl
cut-kind directory (file stored) cut = absurd cut
cut-kind (file f) directory cut = absurd cut
cut-kind (file f) (file stored) cut = refl

cut-count : (tree : Tree File) (stored : Tree StoredFile) → IsCutOfTree tree stored → file_count stored ≡ file_count tree
cut-count [] [] cut = refl
cut-count [] (s ∷ stored) cut = absurd cut
cut-count (e ∷ tree) [] cut = absurd cut
cut-count (e ∷ tree) (s ∷ stored) cut =
    sum_by-cons (λ (n : Node StoredFile). cond (is_file n) 1 0) s.1 (values_of stored)
    ∙ (λ i. cond (cut-kind e.1 s.1 cut.0.1 i) 1 0 + cut-count tree stored cut.1 i)
    ∙ sym (sum_by-cons (λ (n : Node File). cond (is_file n) 1 0) e.1 (values_of tree))

cut-counts : (trees : List (Tree File)) (stored : List (Tree StoredFile)) → AllZip IsCutOfTree trees stored → sum_by file_count stored ≡ sum_by file_count trees
cut-counts [] [] cut = refl
cut-counts [] (s ∷ stored) cut = absurd cut
cut-counts (tree ∷ trees) [] cut = absurd cut
cut-counts (tree ∷ trees) (s ∷ stored) cut =
    sum_by-cons file_count s stored
    ∙ (λ i. cut-count tree s cut.0 i + cut-counts trees stored cut.1 i)
    ∙ sym (sum_by-cons file_count tree trees)

pub cut-files : (w : World) (stored : Durable) → IsCut w stored → files_of stored ≡ files_of_world w
cut-files w stored cut = cut-counts w.files.trees stored.trees cut.trees
