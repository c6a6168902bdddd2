-- A stored tree stays in step, and holds what it held, while another range is worked on, while only reads are made, and while a line is told.
use Rattle.std.proofs.Common.{◌≡◌, ℕ, List}
use Rattle.rig_core.specs.Leaves.{AreApart}
use Rattle.rig_core.specs.Outside.{Outside, Sound, Later, OnlyReads, Speaks}
use Rattle.rig_core.specs.Runs.{Runs, StaysWithin}
use Rattle.rig_core.proofs.Beside.{stays_beside, stays_reads, stays_told}
use Rattle.store_model.specs.Betweens.{tree_long}
use Rattle.store_model.specs.Stores.{StoreValue}
use Rattle.tree_store.specs.Stored.{start_of, site_of, IsStored, Holds}
use Rattle.tree_store.specs.declared.store.TreeStore.{TreeStore}
use Rattle.tree_store.proofs.Stays.{stored_stays, holds_stays}

module _ (V K : Type 0) (o e : Outside) (sound : Sound V K o) (sound_after : Sound V K e) (s : TreeStore) (stored : IsStored V o s) where
  abbrev Stays : Type 0
  Stays = StaysWithin V (start_of s) (tree_long (site_of s)) o e

  module _ (other k writes syncs : ℕ) (apart : AreApart (start_of s) (tree_long (site_of s)) other k) (run : Runs V other k writes syncs o e) where
    beside : Stays
    beside = stays_beside V K (start_of s) (tree_long (site_of s)) other k writes syncs o e sound_after apart run

    pub stored_beside : IsStored V e s
    stored_beside = stored_stays V K o e sound sound_after s stored beside

    pub holds_beside : (v : StoreValue) → Holds V o s v → Holds V e s v
    holds_beside = holds_stays V K o e sound sound_after s stored beside

  module _ (reads : OnlyReads V o e) where
    read : Stays
    read = stays_reads V K (start_of s) (tree_long (site_of s)) o e sound_after reads

    pub stored_reads : IsStored V e s
    stored_reads = stored_stays V K o e sound sound_after s stored read

    pub holds_reads : (v : StoreValue) → Holds V o s v → Holds V e s v
    holds_reads = holds_stays V K o e sound sound_after s stored read

  module _ (line : List ℕ) (later : Later o e) (view : V → e.view ≡ o.view) (speaks : Speaks line o e) where
    told : Stays
    told = stays_told V K (start_of s) (tree_long (site_of s)) line o e sound_after later view speaks

    pub stored_told : IsStored V e s
    stored_told = stored_stays V K o e sound sound_after s stored told

    pub holds_told : (v : StoreValue) → Holds V o s v → Holds V e s v
    holds_told = holds_stays V K o e sound sound_after s stored told
