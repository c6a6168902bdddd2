-- The first lines of a seed, by computation.
use Rattle.std.specs.Prelude.{◌≡◌, ℕ, [], ◌∷◌, codes, refl}
use Rattle.apex_types.specs.declared.calls.Deed.TheVariants.{Tick}
use Rattle.apex_types.specs.declared.calls.FileCall.TheVariants as file
use Rattle.apex_types.specs.declared.calls.LogbookCall.TheVariants as logbook
use Rattle.apex_model.specs.Examples.{small_table}
use Rattle.stress_script.specs.Generator.{draw, draw_to, logbook_name, tick, sync_file, close_file, create_logbook, draw_kind, draw_deed, draw_lines, generated, file_deed, logbook_deed}

-- what the lines compute with
unfoldable everything : ℕ
unfolding draw draw_to logbook_name tick sync_file close_file create_logbook draw_kind draw_deed draw_lines generated
everything = 0

first_lines : generated small_table 1 4 ≡
    record { number = 1; deed = logbook_deed 0 (logbook.Create (codes "FAULTS")) }
    ∷ record { number = 2; deed = file_deed 1 (file.SyncFile 4) }
    ∷ record { number = 3; deed = Tick 10 }
    ∷ record { number = 4; deed = file_deed 0 (file.CloseFile 2) }
    ∷ []
unfolding everything
first_lines = refl
