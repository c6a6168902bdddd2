use Rattle.std.proofs.Common.{ℕ, List, sym, ◌∙◌, ap, subst}
use Rattle.apex_types.specs.declared.calls.LogbookCall.{LogbookCall}
use Rattle.apex_model.specs.Logbooks.{logbook_service, create_logbook, write_logbook, overwrite_logbook, get_logbook_id}
use Rattle.logbook_services.specs.Steps.{IsServed, most_writes}
use Rattle.logbook_services.proofs.Served.{answered-served, served-as}
use Rattle.logbook_services.proofs.calls.serve.Goals as goal

pub returns-in-Create : goal.returns-in-Create
returns-in-Create g c =
    let o = g.R.Rig.state c.args.rig.now in
    served-as g.R.Rig.tells_view (most_writes c.args.call.now) c.args.table.now _ _ c.args.logs.now c.args.made.now c.args.logs.now c.create_logbook.new.made o o _
    (λ system. ap (λ (call : LogbookCall). logbook_service c.args.table.now system c.args.p.0 c.args.mode call) c.in-Create.is ∙ ap (λ (m : List ℕ). create_logbook c.args.table.now system c.args.p.0 c.args.mode m) (sym c.bytes.ensures))
    (answered-served g.R.Rig.tells_view g.R.Rig.keeps_cuts (most_writes c.args.call.now) c.args.table.now _ c.args.logs.now c.args.made.now c.args.logs.now c.create_logbook.new.made o c.create_logbook.result
    (g.met.R.Rig.sound c.args.rig.now) c.requires.settled (c.create_logbook.ensures c.args.logs.now))

pub returns-in-Write : goal.returns-in-Write
returns-in-Write g c =
    let o = g.R.Rig.state c.args.rig.now in
    served-as g.R.Rig.tells_view (most_writes c.args.call.now) c.args.table.now _ _ c.args.logs.now c.args.made.now c.write_logbook.new.logs c.args.made.now o o _
    (λ system. ap (λ (call : LogbookCall). logbook_service c.args.table.now system c.args.p.0 c.args.mode call) c.in-Write.is ∙ ap (λ (m : List ℕ). write_logbook c.args.table.now system c.args.p.0 c.in-Write.id m) (sym c.bytes-in-Write.ensures))
    (answered-served g.R.Rig.tells_view g.R.Rig.keeps_cuts (most_writes c.args.call.now) c.args.table.now _ c.args.logs.now c.args.made.now c.write_logbook.new.logs c.args.made.now o c.write_logbook.result
    (g.met.R.Rig.sound c.args.rig.now) c.requires.settled (c.write_logbook.ensures))

pub returns-in-Overwrite : goal.returns-in-Overwrite
returns-in-Overwrite g c =
    let o = g.R.Rig.state c.args.rig.now in
    served-as g.R.Rig.tells_view (most_writes c.args.call.now) c.args.table.now _ _ c.args.logs.now c.args.made.now c.overwrite_logbook.new.logs c.args.made.now o o _
    (λ system. ap (λ (call : LogbookCall). logbook_service c.args.table.now system c.args.p.0 c.args.mode call) c.in-Overwrite.is ∙ ap (λ (m : List ℕ). overwrite_logbook c.args.table.now system c.args.p.0 c.in-Overwrite.id m) (sym c.bytes-in-Overwrite.ensures))
    (answered-served g.R.Rig.tells_view g.R.Rig.keeps_cuts (most_writes c.args.call.now) c.args.table.now _ c.args.logs.now c.args.made.now c.overwrite_logbook.new.logs c.args.made.now o c.overwrite_logbook.result
    (g.met.R.Rig.sound c.args.rig.now) c.requires.settled (c.overwrite_logbook.ensures))

pub returns-in-Read : goal.returns-in-Read
returns-in-Read g c =
    let P : LogbookCall → Type 0 = λ call.
    IsServed g.R.Rig.tells_view (most_writes call) c.args.table.now (λ system. logbook_service c.args.table.now system c.args.p.0 c.args.mode call) c.args.logs.now c.args.made.now c.args.logs.now c.args.made.now
    (g.R.Rig.state c.args.rig.now) (g.R.Rig.state c.read_logbook.new.rig) c.read_logbook.result in
    subst P (sym c.in-Read.is) c.read_logbook.ensures

pub returns-in-Clear : goal.returns-in-Clear
returns-in-Clear g c =
    let P : LogbookCall → Type 0 = λ call.
    IsServed g.R.Rig.tells_view (most_writes call) c.args.table.now (λ system. logbook_service c.args.table.now system c.args.p.0 c.args.mode call) c.args.logs.now c.args.made.now c.clear_logbook.new.logs c.args.made.now
    (g.R.Rig.state c.args.rig.now) (g.R.Rig.state c.clear_logbook.new.rig) c.clear_logbook.result in
    subst P (sym c.in-Clear.is) c.clear_logbook.ensures

pub returns-in-GetId : goal.returns-in-GetId
returns-in-GetId g c =
    let o = g.R.Rig.state c.args.rig.now in
    served-as g.R.Rig.tells_view (most_writes c.args.call.now) c.args.table.now _ _ c.args.logs.now c.args.made.now c.args.logs.now c.args.made.now o o _
    (λ system. ap (λ (call : LogbookCall). logbook_service c.args.table.now system c.args.p.0 c.args.mode call) c.in-GetId.is ∙ ap (λ (m : List ℕ). get_logbook_id c.args.table.now system c.args.p.0 m) (sym c.bytes-in-GetId.ensures))
    (answered-served g.R.Rig.tells_view g.R.Rig.keeps_cuts (most_writes c.args.call.now) c.args.table.now _ c.args.logs.now c.args.made.now c.args.logs.now c.args.made.now o c.get_logbook_id.result
    (g.met.R.Rig.sound c.args.rig.now) c.requires.settled (c.get_logbook_id.ensures c.args.logs.now))

pub returns-in-GetStatus : goal.returns-in-GetStatus
returns-in-GetStatus g c =
    let o = g.R.Rig.state c.args.rig.now in
    served-as g.R.Rig.tells_view (most_writes c.args.call.now) c.args.table.now _ _ c.args.logs.now c.args.made.now c.args.logs.now c.args.made.now o o _
    (λ system. ap (λ (call : LogbookCall). logbook_service c.args.table.now system c.args.p.0 c.args.mode call) c.in-GetStatus.is)
    (answered-served g.R.Rig.tells_view g.R.Rig.keeps_cuts (most_writes c.args.call.now) c.args.table.now _ c.args.logs.now c.args.made.now c.args.logs.now c.args.made.now o c.get_logbook_status.result
    (g.met.R.Rig.sound c.args.rig.now) c.requires.settled (c.get_logbook_status.ensures))
