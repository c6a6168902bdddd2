use Rattle.std.proofs.Common.{length, take}
use Rattle.rig_core.specs.Record.{fresh_disk}
use Rattle.rig_core.proofs.CutImages.{Remade}
use Rattle.rig_core.proofs.cut.image_after.Given as goal

-- the calls before this one are made again
abbrev pub invariant-loop-call : goal.invariant-loop-call
invariant-loop-call l = Remade (fresh_disk (length l.image) l.image) (take l.call-index l.calls) l.view.items l.synchronised.items
