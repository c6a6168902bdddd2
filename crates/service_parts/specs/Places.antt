-- Rights and places, as the definitions of the services see them.
use Rattle.apex_model.specs.Tables as tables
use Rattle.service_parts.specs.declared.places.Place.{Place}
use Rattle.service_parts.specs.declared.places.Right.{Right}
use Rattle.service_parts.specs.declared.places.Right.TheVariants.{Owner, OwnerOrReader}

abbrev pub right_of : Right → tables.Right
right_of Owner = tables.owner_alone
right_of OwnerOrReader = tables.owner_or_reader

abbrev pub model_place : Place → tables.Place
model_place place = record { tree = place.tree; names = place.path.names }
