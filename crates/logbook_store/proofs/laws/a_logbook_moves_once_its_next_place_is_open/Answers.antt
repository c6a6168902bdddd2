use Rattle.logbook_store.proofs.Moved.{is_moved}
use Rattle.logbook_store.proofs.laws.a_logbook_moves_once_its_next_place_is_open.Goals as goal

pub returns : goal.returns
returns c row start b old new message rest some was same oldest opened = is_moved row start old new b some same.long was same.headers same.places message rest oldest opened
