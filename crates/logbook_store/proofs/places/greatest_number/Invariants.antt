use Rattle.std.proofs.Common.{◌≡◌, ◌+◌, ◌-◌, option_map}
use Rattle.std.specs.List.{range_with_len}
use Rattle.apex_model.specs.Image.{all_answers, greatest, message_in_place}
use Rattle.rig_core.specs.Outside.{OnlyReads}
use Rattle.logbook_store.specs.Regions.{region_at, places_in}
use Rattle.logbook_store.proofs.places.greatest_number.Given as goal

-- the greatest number of all places is that of the rest with the number so far
abbrev pub invariant-loop-place : goal.invariant-loop-place
invariant-loop-place g l = record {
  reads : OnlyReads g.R.Rig.tells_view (g.R.Rig.state l.initial.rig) (g.R.Rig.state l.rig);
  rest : g.R.Rig.tells_view → option_map (greatest l.cleared) (places_in l.row (region_at l.row l.start (g.R.Rig.state l.initial.rig).view))
      ≡ option_map (greatest l.number) (all_answers (message_in_place l.row (region_at l.row l.start (g.R.Rig.state l.initial.rig).view)) (range_with_len l.place (l.row.logged + 1 - l.place)));
}
