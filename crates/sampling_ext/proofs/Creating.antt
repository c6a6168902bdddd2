-- Creating a port, refusal by refusal.
use Rattle.std.proofs.Common.{◌≡◌, ℕ, ◌+◌, Bool, true, false, List, sym, ◌∙◌, ap, Option, Some, None}
use Rattle.std.specs.Prelude.{slice_get, slice_set}
use Rattle.apex_types.specs.Rows.{Rows}
use Rattle.apex_types.specs.declared.calls.Mode.{Mode}
use Rattle.apex_types.specs.declared.codes.ReturnCode.TheVariants.{NoAction, InvalidConfig, InvalidMode}
use Rattle.apex_types.specs.declared.replies.Values.TheVariants.{Number}
use Rattle.apex_model.specs.Channels.{PortSystem, PortOutcome, granted, is_made, port_named, create_port}
use Rattle.apex_model.specs.Logbooks.{is_normal}
use Rattle.apex_model.specs.Outcomes.{accepted, refuse_with, refuse_if_with}
use Rattle.sampling_ext.specs.Places.{named_in, numbered_in}
use Rattle.apex_model.specs.Tables.{Port, ports, ports_of}

-- what is left of the service after each test
abbrev with_number : PortSystem → ℕ → ℕ → PortOutcome
with_number system place k = refuse_if_with (is_made system k) NoAction (accepted (record { channels = system.channels; created = slice_set system.created k true }) (Number (place + 1)))

abbrev with_place : Rows → PortSystem → ℕ → ℕ → PortOutcome
with_place table system p place = granted (slice_get (ports_of table p) place) (refuse_with InvalidConfig) (with_number system place)

abbrev with_name : Rows → PortSystem → ℕ → List ℕ → PortOutcome
with_name table system p name = granted (port_named table p name) (refuse_with InvalidConfig) (with_place table system p)

module _ (table : Rows) (system : PortSystem) (list : List Port) (of_table : list ≡ ports table) (p : ℕ) (mode : Mode) (name : List ℕ) where
  pub create-normal : is_normal mode ≡ true → create_port table system p mode name ≡ refuse_with InvalidMode
  unfolding create_port
  create-normal e = ap (λ (b : Bool). refuse_if_with b InvalidMode (with_name table system p name)) e

  to-name : is_normal mode ≡ false → create_port table system p mode name ≡ with_name table system p name
  unfolding create_port
  to-name e = ap (λ (b : Bool). refuse_if_with b InvalidMode (with_name table system p name)) e

  named-by : (o : Option ℕ) → o ≡ named_in list p name → with_name table system p name ≡ granted o (refuse_with InvalidConfig) (with_place table system p)
  named-by o e = ap (λ (o : Option ℕ). granted o (refuse_with InvalidConfig) (with_place table system p)) (sym (e ∙ ap (λ (xs : List Port). named_in xs p name) of_table))

  numbered-by : (place : ℕ) (o : Option ℕ) → o ≡ numbered_in list p place → with_place table system p place ≡ granted o (refuse_with InvalidConfig) (with_number system place)
  numbered-by place o e = ap (λ (o : Option ℕ). granted o (refuse_with InvalidConfig) (with_number system place)) (sym (e ∙ ap (λ (xs : List Port). numbered_in xs p place) of_table))

  pub create-unknown : is_normal mode ≡ false → None ≡ named_in list p name → create_port table system p mode name ≡ refuse_with InvalidConfig
  create-unknown e f = to-name e ∙ named-by None f

  pub create-nowhere : (place : ℕ) → is_normal mode ≡ false → Some place ≡ named_in list p name → None ≡ numbered_in list p place → create_port table system p mode name ≡ refuse_with InvalidConfig
  create-nowhere place e f g = to-name e ∙ named-by (Some place) f ∙ numbered-by place None g

  to-number : (place k : ℕ) → is_normal mode ≡ false → Some place ≡ named_in list p name → Some k ≡ numbered_in list p place → create_port table system p mode name ≡ with_number system place k
  to-number place k e f g = to-name e ∙ named-by (Some place) f ∙ numbered-by place (Some k) g

  pub create-again : (place k : ℕ) → is_normal mode ≡ false → Some place ≡ named_in list p name → Some k ≡ numbered_in list p place → is_made system k ≡ true
      → create_port table system p mode name ≡ refuse_with NoAction
  create-again place k e f g h =
      to-number place k e f g ∙ ap (λ (b : Bool). refuse_if_with b NoAction (accepted (record { channels = system.channels; created = slice_set system.created k true }) (Number (place + 1)))) h

  pub create-new : (place k : ℕ) → is_normal mode ≡ false → Some place ≡ named_in list p name → Some k ≡ numbered_in list p place → is_made system k ≡ false
      → create_port table system p mode name ≡ accepted (record { channels = system.channels; created = slice_set system.created k true }) (Number (place + 1))
  create-new place k e f g h =
      to-number place k e f g ∙ ap (λ (b : Bool). refuse_if_with b NoAction (accepted (record { channels = system.channels; created = slice_set system.created k true }) (Number (place + 1)))) h
