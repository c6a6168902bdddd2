use Rattle.std.proofs.Common.{◌≡◌, take}
use Rattle.service_parts.proofs.replies.bytes_of.Given as goal

-- so far the first bytes were copied
abbrev pub invariant-loop-b : goal.invariant-loop-b
invariant-loop-b l = l.content ≡ take l.b-index l.bytes
