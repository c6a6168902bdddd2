-- When a call is served: refused, or carried out.
use Rattle.std.proofs.Common.{◌≡◌, List, refl, sym, ◌∙◌, ap, subst}
use Rattle.apex_types.specs.declared.codes.ReturnCode.{ReturnCode}
use Rattle.apex_types.specs.declared.replies.Reply.{Reply}
use Rattle.apex_types.specs.declared.replies.Values.{Values}
use Rattle.apex_model.specs.Channels.{PortSystem, PortOutcome}
use Rattle.apex_model.specs.Outcomes.{accepted, refused, success, bare_refusal, reply_of, state_after}
use Rattle.apex_model.specs.Tables.{Port}
use Rattle.service_parts.specs.Told.{IsTellable}
use Rattle.sampling_ext.specs.Standing.{PortsValue}
use Rattle.sampling_ext.specs.Steps.{IsServed}

abbrev holding : List Port → PortSystem → PortsValue
holding ports system = record { ports = ports; system = system }

-- a refusal leaves all as it was
pub refusal-served : (outcome : PortOutcome) (held : PortsValue) (told : Reply) → outcome ≡ refused told → IsTellable told → IsServed outcome held held told
refusal-served outcome held told is tellable = record {
  reply = sym (ap reply_of is);
  state = sym (ap (λ (o : PortOutcome). holding held.ports (state_after held.system o)) is);
  tellable = tellable;
}

-- one with a return code and values
pub refused-served : (outcome : PortOutcome) (held : PortsValue) (told : Reply) (code : ReturnCode) (values : Values) → outcome ≡ refused (bare_refusal code values) → told ≡ bare_refusal code values → IsServed outcome held held told
refused-served outcome held told code values is so =
    let P : Reply → Type 0 = λ r. IsServed outcome held held r in
    subst P (sym so) (refusal-served outcome held (bare_refusal code values) is (λ data_there. refl))

-- what is carried out
pub accepted-served : (outcome : PortOutcome) (old new : PortsValue) (told : Reply) (system : PortSystem) (values : Values) → outcome ≡ accepted system values
    → new.ports ≡ old.ports → new.system ≡ system → told ≡ success values → IsServed outcome old new told
accepted-served outcome old new told system values is ports_same system_is so = record {
  reply = so ∙ sym (ap reply_of is);
  state = ap (λ (ps : List Port). holding ps new.system) ports_same ∙ ap (λ (s : PortSystem). holding old.ports s) (system_is ∙ sym (ap (λ (o : PortOutcome). state_after old.system o) is));
  tellable = let P : Reply → Type 0 = λ r. IsTellable r in subst P (sym so) (λ data_there. refl);
}

-- the same outcome in other words
pub served-as : (outcome other : PortOutcome) (old new : PortsValue) (told : Reply) → outcome ≡ other → IsServed other old new told → IsServed outcome old new told
served-as outcome other old new told same served = let P : PortOutcome → Type 0 = λ o. IsServed o old new told in subst P (sym same) served
