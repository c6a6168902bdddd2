use Rattle.std.proofs.Common.{◌≡◌, true, false, sym, ◌∙◌, arith}
use Rattle.std.specs.Prelude.{◌==◌}
use Rattle.std.proofs.lemmas.Bool.Decides.{nat_tests}
use Rattle.std.proofs.lemmas.Option.{slice_get_within}
use Rattle.apex_model.specs.Channels.{is_made}
use Rattle.sampling_ext.proofs.Leading.{leads, row-of}
use Rattle.sampling_ext.proofs.calls.on_port.Goals as goal

pub returns-clause-some : goal.returns-clause-some
returns-clause-some c =
    let some : (c.args.id == 0) ≡ false = grind (arith, nat_tests) in
    let made : is_made c.args.ports.now.system c.in_ok-k.k ≡ true = sym c.is_created.ensures ∙ c.if-not-is_created.false in
    let in_row = row-of c.args.table.now c.channels.result.now c.channel.result c.port-port.result.now.channel c.in_ok-row.row.now c.channels.ensures c.channel.ensures c.in_ok-row.ensures.lookup.0 c.in_ok-row.ensures.lookup.1 in
    leads c.args.table.now c.args.ports.now.system c.args.ports.now.ports c.args.p.0 c.args.id c.in_ok-k.k c.port-port.result.now c.in_ok-row.row.now c.channel-2.result _
    c.requires.of_table.listed some (sym c.in_ok-k.was ∙ c.number_of.ensures.value) made c.port-port.ensures in_row (sym c.channel-2.ensures) (sym c.end.ensures)

pub returns-clause-within : goal.returns-clause-within
returns-clause-within c =
    let in_row = row-of c.args.table.now c.channels.result.now c.channel.result c.port-port.result.now.channel c.in_ok-row.row.now c.channels.ensures c.channel.ensures c.in_ok-row.ensures.lookup.0 c.in_ok-row.ensures.lookup.1 in
    let inside = slice_get_within c.args.table.now.channels c.port-port.result.now.channel c.in_ok-row.row.now in_row in
    let same = c.requires.of_table.channels in
    let here = c.channel-2.ensures in
    omega arith
