use Rattle.std.proofs.Common.{◌≡◌, ◌+◌, ◌*◌, ◌≤◌, arith}
use Rattle.power_sweep.proofs.Counting.{on-ok, room-for}
use Rattle.power_sweep.proofs.sweeping.Swept.cut_each_way.Goals as goal

pub cut-requires-2-clause-room : goal.cut-requires-2-clause-room
cut-requires-2-clause-room c = room-for 1 2 c.cut.new.self (omega arith) (c.in_ok-cut.ensures.room 2 c.requires.room)

pub cut-requires-3-clause-room : goal.cut-requires-3-clause-room
cut-requires-3-clause-room c = c.in_ok-cut-2.ensures.room 1 (c.in_ok-cut.ensures.room 2 c.requires.room)

pub returns-clause-room : goal.returns-clause-room
returns-clause-room c = λ more room.
    let first = c.in_ok-cut.ensures.room (more + 2) (room-for (more + 2 + 1) (more + 3) c.args.self.now (omega arith) room) in
    let second = c.in_ok-cut-2.ensures.room (more + 1) (room-for (more + 1 + 1) (more + 2) c.cut.new.self (omega arith) first) in
    c.cut-3.ensures.room more second

pub returns-clause-files : goal.returns-clause-files
returns-clause-files c = λ files leaves.
    let first = c.in_ok-cut.ensures.files files leaves in
    let second = c.in_ok-cut-2.ensures.files files leaves in
    on-ok c.cut-3.result _ _ (λ third. omega (arith, first, second, third)) (c.cut-3.ensures.files files leaves)

pub returns-clause-grows : goal.returns-clause-grows
returns-clause-grows c =
    let first = c.in_ok-cut.ensures.grows in
    let second = c.in_ok-cut-2.ensures.grows in
    on-ok c.cut-3.result _ _ (λ third. omega (arith, first, second, third)) c.cut-3.ensures.grows
