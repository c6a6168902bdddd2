use Rattle.std.proofs.Common.{sym, ◌∙◌}
use Rattle.sampling_ext.proofs.Kept.{serving-of_table, served-serving}
use Rattle.sampling_ext.proofs.calls.sampling_call.Goals as goal

pub serve-requires-clause-of_table : goal.serve-requires-clause-of_table
serve-requires-clause-of_table c = serving-of_table c.args.table.now c.args.now c.args.ports.now c.requires.valid

-- a sampling call keeps channels and ports valid
pub returns-clause-valid : goal.returns-clause-valid
returns-clause-valid c =
    served-serving c.args.table.now c.args.now c.args.ports.now c.serve.new.ports c.serve.result c.args.p.0 c.args.mode c.args.call.now (sym c.is_idle.ensures ∙ c.if-is_idle.false)
    c.requires.valid c.serve.ensures
