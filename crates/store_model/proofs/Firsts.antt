-- The synchronised contents are among those that a cut may leave, and they are what is durable of a store.
use Rattle.std.proofs.Common.{◌≡◌, ℕ, List, [], ◌∷◌, ◌++◌, refl, ap, ◌∙◌, Some, arith}
use Rattle.std.specs.Prelude.{map, slice_get}
use Rattle.std.specs.List.{AllZip}
use Rattle.apex_model.specs.Durable.{StoredFile, loaded_node, loaded_tree, IsCutOfFile, IsCutOfNode, IsCutOfTree}
use Rattle.apex_model.specs.Files.{Content, File}
use Rattle.apex_model.specs.Firsts.{oldest, first_file, first_node, first_entry, first_tree}
use Rattle.apex_model.specs.Trees.{Name, Node, directory, file, Tree}
use Rattle.store_model.specs.Standing.{IsNode, IsEntry, IsTree}
use Rattle.store_model.specs.Stores.{StoreValue, durable_node, durable_entry, durable_of}

oldest-is : (contents : List Content) (last : Content) → slice_get (contents ++ last ∷ []) 0 ≡ Some (oldest contents last)
oldest-is [] last = refl
oldest-is (content ∷ contents) last = refl

pub first-cut : (f : File) → IsCutOfFile f (first_file f)
first-cut f = (0, (oldest-is f.earlier f.content, omega arith))

node-cut : (n : Node File) → IsCutOfNode n (first_node n)
node-cut directory = tt
node-cut (file f) = first-cut f

-- a cut may leave each file its synchronised content
pub first_tree_cut : (tree : Tree File) → IsCutOfTree tree (first_tree tree)
first_tree_cut [] = tt
first_tree_cut (entry ∷ tree) = ((refl, node-cut entry.1), first_tree_cut tree)

node-loaded : (n : Node StoredFile) → first_node (loaded_node n) ≡ n
node-loaded directory = refl
node-loaded (file stored) = refl

-- what a run starts from has them all
pub first-loaded : (tree : Tree StoredFile) → first_tree (loaded_tree tree) ≡ tree
first-loaded [] = refl
first-loaded (entry ∷ tree) = ap (λ (n : Node StoredFile). (entry.0, n) ∷ first_tree (loaded_tree tree)) (node-loaded entry.1) ∙ ap (λ (rest : Tree StoredFile). entry ∷ rest) (first-loaded tree)

node-durable : (v : StoreValue) (n : Node ℕ) (m : Node File) → IsNode v n m → durable_node v n ≡ first_node m
node-durable v directory directory is = refl
node-durable v directory (file f) is = absurd is
node-durable v (file n) directory is = absurd is
node-durable v (file n) (file f) is = ap (λ (s : StoredFile). file s) is.durable

entries-durable : (v : StoreValue) (nodes : Tree ℕ) (tree : Tree File) → AllZip (IsEntry v) nodes tree → map (durable_entry v) nodes ≡ first_tree tree
entries-durable v [] [] all = refl
entries-durable v [] (e ∷ tree) all = absurd all
entries-durable v (n ∷ nodes) [] all = absurd all
entries-durable v (n ∷ nodes) (e ∷ tree) all =
    ap (λ (path : List Name). (path, durable_node v n.1) ∷ map (durable_entry v) nodes) all.0.0
    ∙ ap (λ (node : Node StoredFile). (e.0, node) ∷ map (durable_entry v) nodes) (node-durable v n.1 e.1 all.0.1)
    ∙ ap (λ (rest : Tree StoredFile). first_entry e ∷ rest) (entries-durable v nodes tree all.1)

-- what a cut leaves of a store is the synchronised contents of the tree that it stands for
pub durable-first : (v : StoreValue) (tree : Tree File) → IsTree v tree → durable_of v ≡ first_tree tree
durable-first v tree is = entries-durable v v.tree.nodes tree is.entries
