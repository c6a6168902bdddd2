use Rattle.std.proofs.Common.{◌≡◌, map, string_bytes}
use Rattle.system_adapters.proofs.arguments.words_of.Given as goal

-- the words are those that were pushed
abbrev pub invariant-loop-argument : goal.invariant-loop-argument
invariant-loop-argument l = l.words ≡ map string_bytes l.yielded
