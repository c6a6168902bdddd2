use Rattle.std.proofs.Common.{◌≡◌, ◌+◌, ◌*◌, sym, ◌∙◌, ap, arith}
use Rattle.rig_core.specs.Bytes.{part}
use Rattle.logbook_store.specs.Regions.{entry_by_bytes}
use Rattle.logbook_store.proofs.Found.{place_open}
use Rattle.logbook_store.proofs.places.read_place.Goals as goal

pub returns-clause-place : goal.returns-clause-place
returns-clause-place g c tells =
    let row = c.args.row.now in
    let view = (g.R.Rig.state c.args.rig.now).view in
    let place = c.args.place in
    let at = c.args.start + 2048 + 1024 * c.from.result in
    let seen : c.read.new.into ≡ part (at + 512) 512 view = c.in_ok-read.ensures.bytes tells ∙ ap (part (at + 512) 512) (c.gate_read.ensures.reads.view tells) in
    let gate : c.args.start + 2048 + 1024 * place ≡ at = omega (arith, c.from.ensures) in
    c.entry_spelled.ensures ∙ ap (entry_by_bytes row place) seen
    ∙ sym (place_open row c.args.start view place at c.requires.place gate (sym (c.in_ok-gate_read.ensures.open tells) ∙ c.if-not-branch.false))
