use Rattle.std.proofs.Common.{sym, ◌∙◌}
use Rattle.call_script.proofs.Loop.{count_is}
use Rattle.call_script.proofs.parse.count_lines.Goals as goal

pub returns : goal.returns
returns c = count_is c.args.bytes.now c.without_last.result.now c.count_feeds.result (sym c.is_empty.ensures ∙ c.if-is_empty.false) c.without_last.ensures c.count_feeds.ensures.value
