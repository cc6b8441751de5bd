use Rattle.mc_laws.proofs.LastPlaces.{has_room, place_is_left}
use Rattle.mc_laws.proofs.places.no_command_loses_the_last_place.Goals as goal

pub returns-clause-undecided : goal.returns-clause-undecided
returns-clause-undecided c = place_is_left

pub returns-clause-room : goal.returns-clause-room
returns-clause-room c = has_room
