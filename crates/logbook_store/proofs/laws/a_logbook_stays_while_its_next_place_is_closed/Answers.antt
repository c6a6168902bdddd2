use Rattle.logbook_store.proofs.Moved.{not_moved}
use Rattle.logbook_store.proofs.laws.a_logbook_stays_while_its_next_place_is_closed.Goals as goal

pub returns : goal.returns
returns c row start b old new some was same shut = not_moved row start old new b some same.long was same.headers same.places shut
