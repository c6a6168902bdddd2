-- The reply of a service's outcome, where its state is a part of the whole.
use Rattle.std.proofs.Common.{◌≡◌, refl}
use Rattle.apex_model.specs.Outcomes.{Outcome, refused, accepted, reply_of, map_state}

pub reply_of-map : {S T : Type 0} (whole : S → T) (o : Outcome S) → reply_of (map_state whole o) ≡ reply_of o
reply_of-map whole (refused reply) = refl
reply_of-map whole (accepted state values) = refl
