use Rattle.std.proofs.Common.{◌≡◌, ◌+◌, ◌-◌, List, Some}
use Rattle.std.specs.Prelude.{is_some}
use Rattle.std.specs.List.{range_with_len}
use Rattle.apex_model.specs.Image.{all_answers, message_numbered}
use Rattle.rig_core.specs.Outside.{OnlyReads}
use Rattle.logbook_store.specs.Regions.{PlaceEntry, region_at, places_in}
use Rattle.logbook_store.proofs.places.has_all.Given as goal

-- all are there where the rest are
abbrev pub invariant-loop-k : goal.invariant-loop-k
invariant-loop-k g l = record {
  reads : OnlyReads g.R.Rig.tells_view (g.R.Rig.state l.initial.rig) (g.R.Rig.state l.rig);
  rest : (places : List PlaceEntry) → g.R.Rig.tells_view → places_in l.row (region_at l.row l.start (g.R.Rig.state l.initial.rig).view) ≡ Some places
      → is_some (all_answers (λ n. message_numbered n places) (range_with_len (l.below + 1) l.count)) ≡ is_some (all_answers (λ n. message_numbered n places) (range_with_len (l.below + 1 + l.k) (l.count - l.k)));
}
