use Rattle.std.proofs.Common.{◌≡◌, ℕ, List, length, sym, ap, subst, arith}
use Rattle.apex_types.specs.declared.calls.SamplingCall.{SamplingCall}
use Rattle.apex_model.specs.Channels.{create_port, sampling_service}
use Rattle.apex_model.specs.Tables.{ports}
use Rattle.sampling_ext.specs.Steps.{IsServed}
use Rattle.sampling_ext.proofs.Limits.{few_ports}
use Rattle.sampling_ext.proofs.calls.serve.Goals as goal

pub create_port-requires : goal.create_port-requires
create_port-requires c =
    let few = few_ports c.args.table.now c.requires.accepted in
    let same : length c.args.ports.now.ports ≡ length (ports c.args.table.now) = ap length c.requires.of_table.listed in
    record { few = omega arith }

pub returns-in-Create : goal.returns-in-Create
returns-in-Create c =
    let P : SamplingCall → Type 0 = λ call. IsServed (sampling_service c.args.table.now c.args.ports.now.system c.args.now c.args.p.0 c.args.mode call) c.args.ports.now c.create_port.new.ports c.create_port.result in
    let Q : List ℕ → Type 0 = λ name. IsServed (create_port c.args.table.now c.args.ports.now.system c.args.p.0 c.args.mode name) c.args.ports.now c.create_port.new.ports c.create_port.result in
    subst P (sym c.in-Create.is) (subst Q c.bytes.ensures (c.create_port.ensures c.args.table.now c.requires.of_table))
