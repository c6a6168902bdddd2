-- What the ports of a module are, and the channels and created ports that they stand for.
use Rattle.std.specs.Prelude.{◌≡◌, ℕ, false, List, length, map}
use Rattle.apex_types.specs.Rows.{Rows}
use Rattle.apex_model.specs.Channels.{PortSystem}
use Rattle.apex_model.specs.Durable.{unused_channel}
use Rattle.apex_model.specs.Tables.{Port, ports}
use Rattle.apex_model.specs.Validity.{IsValidPorts}
use Rattle.apex_model.specs.World.{marks_without}

-- every port of the table that they were made for, and the channels and marks of now
pub record PortsValue : Type 0 where
  pub ports : List Port
  pub system : PortSystem

-- they are the ports of this table, with these channels and created ports
pub record Stands (table : Rows) (held : PortsValue) (system : PortSystem) : Type 0 where
  pub listed : held.ports ≡ ports table
  pub kept : held.system ≡ system

-- they stand for valid channels and created ports of the table, of which none has a message from later than now
abbrev pub IsServing : Rows → ℕ → PortsValue → Type 0
IsServing table now held = (system : PortSystem) × Stands table held system × IsValidPorts table now system

-- no channel holds a message, and no port is created
abbrev pub unused_ports : Rows → PortSystem
unused_ports table = record { channels = map unused_channel table.channels; created = map (λ port. false) (ports table) }

-- a partition has created no port
abbrev pub forgotten : Rows → ℕ → PortSystem → PortSystem
forgotten table p system = record { channels = system.channels; created = marks_without (λ port. port.partition) p (ports table) system.created }

-- the ports are those of the table, and each of its channels is there
pub record IsOfTable (table : Rows) (held : PortsValue) : Type 0 where
  pub listed : held.ports ≡ ports table
  pub channels : length held.system.channels ≡ length table.channels
