-- The words of services that go on at the place that a path leads to.
use Rattle.std.proofs.Common.{◌≡◌, ℕ, ◌<◌, List, Option, sym, ◌∙◌, ap, length}
use Rattle.std.specs.Prelude.{Result, Ok, Err}
use Rattle.apex_types.specs.Rows.{Rows}
use Rattle.apex_types.specs.declared.codes.Errno.{Errno}
use Rattle.apex_model.specs.FileSystem.{FileSystem, tree_in, at_place, on_path}
use Rattle.apex_model.specs.Outcomes.{Outcome, refuse, refuse_for}
use Rattle.apex_model.specs.Tables.{Place, Right, place_of}
use Rattle.apex_model.specs.Trees.{walk}
use Rattle.open_handles.specs.NodeHandles.{AllHandles}
use Rattle.store_model.specs.Stores.{StoreValue}
use Rattle.store_model.specs.Systems.{Stands, store_at}
use Rattle.store_model.proofs.Names.{walk-same}
use Rattle.store_model.proofs.Systems.{store-there}

module _ {S : Type 0} (table : Rows) (right : Right) (p : ℕ) (bytes : List ℕ) where
  -- a path that leads nowhere
  pub at_place-err : (e : Errno) (rest : Place → Outcome S) → place_of table right p bytes ≡ Err e → at_place (place_of table right p bytes) rest ≡ refuse e
  at_place-err e rest is = ap (λ (o : Result Place Errno). at_place o rest) is

  -- one that leads to a place
  pub at_place-ok : (place : Place) (rest : Place → Outcome S) → place_of table right p bytes ≡ Ok place → at_place (place_of table right p bytes) rest ≡ rest place
  at_place-ok place rest is = ap (λ (o : Result Place Errno). at_place o rest) is

  pub on_path-err : (fs : FileSystem) (e : Errno) (rest : Place → Outcome S) → place_of table right p bytes ≡ Err e → on_path table fs right p bytes rest ≡ refuse e
  on_path-err fs e rest is = at_place-err e (λ place. refuse_for (walk (tree_in fs place.tree) place.names) (rest place)) is

  module _ (stores : List StoreValue) (handles : AllHandles) (fs : FileSystem) (s : Stands stores handles fs) (place : Place) (is : place_of table right p bytes ≡ Ok place) (within : place.tree < length stores) where
    -- what a walk in the store comes to decides
    pub on_path-walk : (o : Option Errno) (rest : Place → Outcome S) → walk (store_at stores place.tree).tree.nodes place.names ≡ o → on_path table fs right p bytes rest ≡ refuse_for o (rest place)
    on_path-walk o rest way =
        let same = walk-same (store_at stores place.tree) (tree_in fs place.tree) (store-there stores handles fs s place.tree within) place.names in
        at_place-ok place (λ place. refuse_for (walk (tree_in fs place.tree) place.names) (rest place)) is
        ∙ ap (λ (o : Option Errno). refuse_for o (rest place)) (sym same ∙ way)
