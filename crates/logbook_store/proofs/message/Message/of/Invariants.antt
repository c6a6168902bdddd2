use Rattle.std.proofs.Common.{◌≡◌, take}
use Rattle.logbook_store.proofs.message.Message.of.Given as goal

abbrev pub invariant-loop-b : goal.invariant-loop-b
invariant-loop-b l = l.content.items ≡ take l.b-index l.bytes
