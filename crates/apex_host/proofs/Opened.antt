-- What is mounted of an image stands for its state.
use Rattle.std.proofs.Common.{◌≡◌, sym, ap, ◌∙◌}
use Rattle.std.specs.Prelude.{Ok, ⊤}
use Rattle.apex_types.specs.Rows.{Rows}
use Rattle.apex_model.specs.Accepted.{IsAccepted}
use Rattle.apex_model.specs.Durable.{Durable}
use Rattle.apex_model.specs.Image.{state_of}
use Rattle.rig_core.specs.Outside.{Outside, OnlyReads}
use Rattle.image_mount.proofs.Started.{started_is_valid}
use Rattle.image_mount.specs.Mounted.{IsMounted}
use Rattle.image_mount.specs.declared.store.Store.{Store}
use Rattle.apex_host.specs.Endings.{StandsForOne}

module _ (V : Type 0) (v : V) (table : Rows) (accepted : IsAccepted table) (o e : Outside) (reads : OnlyReads V o e) (store : Store) (mounted : IsMounted V e table store) where
  abbrev pub state : Durable
  state = record { trees = mounted.stored; logbooks = (mounted.books v).0 }

  -- what reads give is as it was before
  pub opened : StandsForOne table o.view (λ stored. state_of table e.view ≡ Ok stored)
  opened = record {
    stored = state;
    image = ap (state_of table) (sym (reads.view v)) ∙ (mounted.books v).1;
    valid = started_is_valid V e table store state accepted mounted v (mounted.books v).1;
    holds = (mounted.books v).1;
  }

  pub good : StandsForOne table o.view (λ stored. ⊤)
  good = record { stored = opened.stored; image = opened.image; valid = opened.valid; holds = tt }
