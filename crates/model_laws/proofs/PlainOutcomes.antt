-- Outcomes whose reply is not that of a failed read, and has names where names belong.
use Rattle.std.proofs.Common.{◌≡◌, Bool, true, false, refl, Option, Some, None}
use Rattle.std.specs.Prelude.{IfSome, if◌then◌else◌, Result, Ok, Err}
use Rattle.apex_types.specs.declared.codes.Errno.{Errno}
use Rattle.apex_types.specs.declared.codes.ReturnCode.{ReturnCode}
use Rattle.apex_types.specs.declared.replies.Values.{Values}
use Rattle.apex_model.specs.FileSystem.{at_place, given}
use Rattle.apex_model.specs.Outcomes.{Outcome, refused, accepted, reply_of, refuse, refuse_with, refuse_if, refuse_if_with, refuse_for, map_state}
use Rattle.apex_model.specs.Tables.{Place}
use Rattle.model_laws.specs.ReplyLines.{HasNames}
use Rattle.model_laws.specs.RunText.{tells_eio}

-- whether a result is the errno of a failed read
abbrev pub gives_eio : {A : Type 0} → Result A Errno → Bool
gives_eio (Ok a) = false
gives_eio (Err e) = tells_eio (Some e)

-- An outcome whose reply is not that of a failed read, and whose names are names.
pub record IsPlainOutcome {S : Type 0} (outcome : Outcome S) : Type 0 where
  pub errno : tells_eio (reply_of outcome).errno ≡ false
  pub names : HasNames (reply_of outcome).values

module _ {S : Type 0} where
  pub plain-accepted : (s : S) (v : Values) → HasNames v → IsPlainOutcome (accepted s v)
  plain-accepted s v h = record { errno = refl; names = h }

  pub plain-refuse : (e : Errno) → tells_eio (Some e) ≡ false → IsPlainOutcome {S = S} (refuse e)
  plain-refuse e h = record { errno = h; names = tt }

  pub plain-refuse_with : (c : ReturnCode) → IsPlainOutcome {S = S} (refuse_with c)
  plain-refuse_with c = record { errno = refl; names = tt }

  pub plain-if : (test : Bool) (e : Errno) (rest : Outcome S) → tells_eio (Some e) ≡ false → IsPlainOutcome rest → IsPlainOutcome (refuse_if test e rest)
  plain-if true e rest h k = plain-refuse e h
  plain-if false e rest h k = k

  pub plain-if_with : (test : Bool) (c : ReturnCode) (rest : Outcome S) → IsPlainOutcome rest → IsPlainOutcome (refuse_if_with test c rest)
  plain-if_with true c rest k = plain-refuse_with c
  plain-if_with false c rest k = k

  pub plain-for : (o : Option Errno) (rest : Outcome S) → tells_eio o ≡ false → IsPlainOutcome rest → IsPlainOutcome (refuse_for o rest)
  plain-for None rest h k = k
  plain-for (Some e) rest h k = plain-refuse e h

  pub plain-given : {A : Type 0} (o : Option A) (e : Errno) (rest : A → Outcome S) → tells_eio (Some e) ≡ false → ((a : A) → IsPlainOutcome (rest a)) → IsPlainOutcome (given o e rest)
  plain-given None e rest h k = plain-refuse e h
  plain-given (Some a) e rest h k = k a

  pub plain-place : (r : Result Place Errno) (rest : Place → Outcome S) → gives_eio r ≡ false → ((place : Place) → IsPlainOutcome (rest place)) → IsPlainOutcome (at_place r rest)
  plain-place (Err e) rest h k = plain-refuse e h
  plain-place (Ok place) rest h k = k place

  pub plain-choice : (test : Bool) (x y : Outcome S) → IsPlainOutcome x → IsPlainOutcome y → IsPlainOutcome (if test then x else y)
  plain-choice true x y h k = h
  plain-choice false x y h k = k

-- what both choices have, the chosen one has
pub some-choice : {A : Type 0} (P : A → Type 0) (test : Bool) (x y : Option A) → IfSome x P → IfSome y P → IfSome (if test then x else y) P
some-choice P true x y h k = h
some-choice P false x y h k = k

-- an outcome of a part is plain as one of the whole
pub plain-map : {S T : Type 0} (whole : S → T) (outcome : Outcome S) → IsPlainOutcome outcome → IsPlainOutcome (map_state whole outcome)
plain-map whole (refused reply) h = record { errno = h.errno; names = h.names }
plain-map whole (accepted state values) h = record { errno = refl; names = h.names }
