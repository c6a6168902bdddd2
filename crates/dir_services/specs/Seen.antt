-- What READ_DIRECTORY has to know of trees and handles that it sees without their device.
use Rattle.std.specs.Prelude.{List}
use Rattle.apex_types.specs.Rows.{Rows}
use Rattle.open_handles.specs.NodeHandles.{AllHandles}
use Rattle.service_parts.specs.Serving.{AllOutline}
use Rattle.store_model.specs.Stores.{StoreValue}
use Rattle.store_model.specs.Systems.{IsServing}
use Rattle.tree_store.specs.declared.store.TreeStore.{TreeStore}

-- some values that the trees show stand, with the handles, for a valid file system of some table
abbrev pub AreSeenServing : List TreeStore → AllHandles → Type 0
AreSeenServing trees handles = (stores : List StoreValue) × AllOutline trees stores × (table : Rows) × IsServing table stores handles
