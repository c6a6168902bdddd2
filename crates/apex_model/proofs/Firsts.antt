-- The synchronised contents are among those that a cut may leave.
use Rattle.std.proofs.Common.{◌≡◌, List, [], ◌∷◌, ◌++◌, refl, ap, ◌∙◌, Some, arith}
use Rattle.std.specs.Prelude.{slice_get}
use Rattle.apex_model.specs.Durable.{StoredFile, loaded_node, loaded_tree, IsCutOfFile, IsCutOfNode, IsCutOfTree}
use Rattle.apex_model.specs.Files.{Content, File}
use Rattle.apex_model.specs.Firsts.{oldest, first_file, first_node, first_tree}
use Rattle.apex_model.specs.Trees.{Node, directory, file, Tree}

oldest-is : (contents : List Content) (last : Content) → slice_get (contents ++ last ∷ []) 0 ≡ Some (oldest contents last)
oldest-is [] last = refl
oldest-is (content ∷ contents) last = refl

pub first-cut : (f : File) → IsCutOfFile f (first_file f)
first-cut f = (0, (oldest-is f.earlier f.content, omega arith))

node-cut : (n : Node File) → IsCutOfNode n (first_node n)
node-cut directory = tt
node-cut (file f) = first-cut f

-- a cut may leave each file its synchronised content
pub first_tree_cut : (tree : Tree File) → IsCutOfTree tree (first_tree tree)
first_tree_cut [] = tt
first_tree_cut (entry ∷ tree) = ((refl, node-cut entry.1), first_tree_cut tree)

node-loaded : (n : Node StoredFile) → first_node (loaded_node n) ≡ n
node-loaded directory = refl
node-loaded (file stored) = refl

-- what was stored is what is synchronised where a run starts
pub first-loaded : (tree : Tree StoredFile) → first_tree (loaded_tree tree) ≡ tree
first-loaded [] = refl
first-loaded (entry ∷ tree) =
    ap (λ (n : Node StoredFile). (entry.0, n) ∷ first_tree (loaded_tree tree)) (node-loaded entry.1)
    ∙ ap (λ (rest : Tree StoredFile). entry ∷ rest) (first-loaded tree)
