use Rattle.std.proofs.Common.{◌∙◌, ℕ, Some, List, refl, sym, subst}
use Rattle.apex_host.specs.Endings.{seen, IsSweep}
use Rattle.apex_host.specs.Stops.{told_with, Owes}
use Rattle.apex_host.specs.declared.command.Command.TheVariants.{Sweep}
use Rattle.apex_host.specs.declared.status.Status.TheVariants.{Done}
use Rattle.apex_host.specs.declared.stops.Stop.{Stop}
use Rattle.apex_host.proofs.Endings.{no-table, no-script, owes-memory, owes-large, owes-swept}
use Rattle.apex_host.proofs.StopLaws.{no-script-undone}
use Rattle.apex_host.proofs.sweeping.swept_script.Goals as goal

pub returns-in-Err-clause-stopped : goal.returns-in-Err-clause-stopped
returns-in-Err-clause-stopped g c = no-table (g.R.Rig.state c.args.rig.now) Sweep c.in-Err.ensures.stopped

pub returns-in-Err-accepted_script-clause-stopped : goal.returns-in-Err-accepted_script-clause-stopped
returns-in-Err-accepted_script-clause-stopped g c =
    no-script (g.R.Rig.state c.args.rig.now) Sweep c.in-Ok.rows c.in-Ok.ensures.gave tt c.in-Ok.ensures.good c.in-Err-accepted_script.ensures.stopped

pub returns-in-Err-accepted_script-clause-undone : goal.returns-in-Err-accepted_script-clause-undone
returns-in-Err-accepted_script-clause-undone g c = no-script-undone c.in-Err-accepted_script.ensures.stopped

pub returns-then-is_too_large-clause-stopped : goal.returns-then-is_too_large-clause-stopped
returns-then-is_too_large-clause-stopped g c =
    let o = g.R.Rig.state c.args.rig.now in
    let P : Stop → Type 0 = λ s. Owes g.R.Rig.tells_text g.R.Rig.tells_view (Some Sweep) (seen (g.T.Source.left c.args.table.now) (g.T.Source.faults c.args.table.now) (g.S.Source.left c.args.script.now) (g.S.Source.faults c.args.script.now) o)
    (seen (g.T.Source.left c.accepted_table.new.source) (g.T.Source.faults c.accepted_table.new.source) (g.S.Source.left c.accepted_script.new.source) (g.S.Source.faults c.accepted_script.new.source) o) s in
    subst P (sym c.too_large.ensures) (owes-large o o c.in-Ok.ensures.good c.in-Ok-accepted_script.ensures.good c.in-Ok.rows c.in-Ok-accepted_script.lines c.in-Ok.ensures.gave c.in-Ok-accepted_script.ensures.gave refl
    (sym c.is_too_large.ensures ∙ c.if-is_too_large.true))

pub returns-in-Err-sweep-clause-stopped : goal.returns-in-Err-sweep-clause-stopped
returns-in-Err-sweep-clause-stopped g c =
    owes-memory (g.R.Rig.state c.args.rig.now) (g.R.Rig.state c.args.rig.now) c.in-Ok.ensures.good c.in-Ok-accepted_script.ensures.good Sweep c.memory.result c.memory.ensures refl

pub returns-in-Some-clause-made : goal.returns-in-Some-clause-made
returns-in-Some-clause-made g c =
    let o = g.R.Rig.state c.args.rig.now in
    let P : List ℕ → Type 0 = λ line. Owes g.R.Rig.tells_text g.R.Rig.tells_view (Some Sweep) (seen (g.T.Source.left c.args.table.now) (g.T.Source.faults c.args.table.now) (g.S.Source.left c.args.script.now) (g.S.Source.faults c.args.script.now) o)
    (seen (g.T.Source.left c.accepted_table.new.source) (g.T.Source.faults c.accepted_table.new.source) (g.S.Source.left c.accepted_script.new.source) (g.S.Source.faults c.accepted_script.new.source) o) (told_with Done line) in
    let done = c.in-Ok-sweep.ensures in
    let counts = c.in-Ok-sweep.counts in
    let is : IsSweep c.in-Ok.rows c.in-Ok-accepted_script.lines counts = record { images = done.images; mounted = done.mounted; left = done.left; names = done.names; files = done.files } in
    subst P (sym (c.in-Some.ensures c.in-Some.line refl)) (owes-swept o o c.in-Ok.ensures.good c.in-Ok-accepted_script.ensures.good c.in-Ok.rows c.in-Ok-accepted_script.lines c.in-Ok.ensures.gave c.in-Ok-accepted_script.ensures.gave refl counts
    (sym c.is_too_large.ensures ∙ c.if-is_too_large.false) is)

pub returns-clause-stopped : goal.returns-clause-stopped
returns-clause-stopped g c =
    owes-memory (g.R.Rig.state c.args.rig.now) (g.R.Rig.state c.args.rig.now) c.in-Ok.ensures.good c.in-Ok-accepted_script.ensures.good Sweep c.memory-in-None.result c.memory-in-None.ensures refl
