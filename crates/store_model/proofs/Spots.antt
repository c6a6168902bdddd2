-- What a walk and a listing of a store's tree find, in the tree of files that it stands for.
use Rattle.std.proofs.Common.{◌≡◌, ℕ, List, [], ap, sym, subst, refl, Option, Some, None}
use Rattle.apex_types.specs.declared.fields.Spot.{Spot}
use Rattle.apex_types.specs.declared.fields.Spot.TheVariants.{Free, File, Directory, Root}
use Rattle.apex_model.specs.Files as model
use Rattle.apex_model.specs.Trees.{Name, Node, directory, file, Tree, standing_at, next_entry}
use Rattle.file_tree.specs.Entries.{IsSpotAt, IsNextSpot}
use Rattle.store_model.specs.Stores.{StoreValue, kept_at, charge_at}
use Rattle.store_model.specs.Standing.{IsFile, IsNode, IsTree}
use Rattle.store_model.proofs.Listing.{IsNextThere, next-same}
use Rattle.store_model.proofs.Names.{file-standing, directory-standing, nothing-standing}

-- what a tree of files has where a walk of the store's ends
abbrev pub IsEndOfWalk : StoreValue → Tree model.File → List Name → Spot → Type 0
IsEndOfWalk v tree names (Free parent) = standing_at tree names ≡ None
IsEndOfWalk v tree names (File parent node name) = (g : model.File) × (standing_at tree names ≡ Some (file g)) × IsFile (kept_at v node.0) (charge_at v node.0) g
IsEndOfWalk v tree names (Directory parent node name) = standing_at tree names ≡ Some directory
IsEndOfWalk v tree names Root = (names ≡ []) × (standing_at tree names ≡ Some directory)

-- what a listing of a tree of files gives where the store's gives this
abbrev pub IsNextOf : StoreValue → Tree model.File → List Name → Option Name → Option Spot → Type 0
IsNextOf v tree way last None = next_entry tree way last ≡ None
IsNextOf v tree way last (Some (File parent node name)) = (g : model.File) × (next_entry tree way last ≡ Some (name, file g)) × IsFile (kept_at v node.0) (charge_at v node.0) g
IsNextOf v tree way last (Some (Directory parent node name)) = next_entry tree way last ≡ Some (name, directory)
IsNextOf v tree way last (Some (Free parent)) = ⊥
IsNextOf v tree way last (Some Root) = ⊥

next-nothing : (v : StoreValue) (q : Option (Name × Node model.File)) → IsNextThere v None q → q ≡ None
next-nothing v None h = refl
next-nothing v (Some e) h = absurd h

next-file : (v : StoreValue) (name : Name) (f : ℕ) (q : Option (Name × Node model.File)) → IsNextThere v (Some (name, file f)) q → (g : model.File) × (q ≡ Some (name, file g)) × IsFile (kept_at v f) (charge_at v f) g
next-file v name f None h = absurd h
next-file v name f (Some e) h = named e.0 e.1 h.0 h.1
  where
    named : (other : Name) (n : Node model.File) → name ≡ other → IsNode v (file f) n → (g : model.File) × (◌≡◌ {A = Option (Name × Node model.File)} (Some (other, n)) (Some (name, file g))) × IsFile (kept_at v f) (charge_at v f) g
    named other directory same h = absurd h
    named other (file g) same h = (g, ap (λ (other : Name). Some (other, file g)) (sym same), h)

next-directory : (v : StoreValue) (name : Name) (q : Option (Name × Node model.File)) → IsNextThere v (Some (name, directory)) q → q ≡ Some (name, directory)
next-directory v name None h = absurd h
next-directory v name (Some e) h = named e.0 e.1 h.0 h.1
  where
    named : (other : Name) (n : Node model.File) → name ≡ other → IsNode v directory n → ◌≡◌ {A = Option (Name × Node model.File)} (Some (other, n)) (Some (name, directory))
    named other directory same h = ap (λ (other : Name). Some (other, directory)) (sym same)
    named other (file g) same h = absurd h

module _ (v : StoreValue) (tree : Tree model.File) (t : IsTree v tree) where
  -- a walk ends at the same in both
  pub spot-same : (names : List Name) (spot : Spot) → IsSpotAt v.tree names spot → IsEndOfWalk v tree names spot
  spot-same names (Free parent) h = nothing-standing v tree t names h.1
  spot-same names (File parent node name) h = file-standing v tree t node.0 names h.3
  spot-same names (Directory parent node name) h = directory-standing v tree t names h.3
  spot-same names Root h = (h, ap (standing_at tree) h)

  next-as : (way : List Name) (last : Option Name) (o : Option (Name × Node ℕ)) → next_entry v.tree.nodes way last ≡ o → IsNextThere v o (next_entry tree way last)
  next-as way last o h = subst (λ (o : Option (Name × Node ℕ)). IsNextThere v o (next_entry tree way last)) h (next-same v tree t way last)

  -- a listing goes on with the same in both
  pub next-spot-same : (way : List Name) (last : Option Name) (o : Option Spot) → IsNextSpot v.tree way last o → IsNextOf v tree way last o
  next-spot-same way last None h = next-nothing v (next_entry tree way last) (next-as way last None h)
  next-spot-same way last (Some (File parent node name)) h = next-file v name node.0 (next_entry tree way last) (next-as way last (Some (name, file node.0)) h.1)
  next-spot-same way last (Some (Directory parent node name)) h = next-directory v name (next_entry tree way last) (next-as way last (Some (name, directory)) h.1)
  next-spot-same way last (Some (Free parent)) h = absurd h
  next-spot-same way last (Some Root) h = absurd h
