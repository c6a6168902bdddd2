use Rattle.std.proofs.Common.{◌≡◌, ℕ, ◌+◌, length, false, ap, arith}
use Rattle.std.specs.Prelude.{◌==◌, nat_lt}
use Rattle.std.proofs.lemmas.Bool.Decides.{nat_tests}
use Rattle.logbook_services.proofs.Rows.{within_logs}
use Rattle.logbook_services.proofs.Services.{takes}
use Rattle.logbook_services.proofs.calls.on_message.Goals as goal

pub counts-counts-requires : goal.counts-counts-requires
counts-counts-requires c = within_logs c.args.table.now c.args.logs.now c.in-Some.k c.in-Some.row.now c.requires.of_table.sites c.in-Some.ensures.some.row_is

pub returns : goal.returns
returns c =
    let some : (length c.args.bytes.now == 0) ≡ false = grind (arith, nat_tests) in
    let short : nat_lt c.in-Some.row.now.message_size (length c.args.bytes.now) ≡ false = grind (arith, nat_tests) in
    let fresh : ((c.counts-counts.result.life + c.counts-counts.result.progress) == 4294967295) ≡ false = grind (arith, nat_tests) in
    takes c.args.table.now c.args.logs.now c.args.made.now c.args.p.0 c.args.id c.args.bytes.now c.in-Some.k c.in-Some.row.now c.in-Some.ensures.some some short c.counts-counts.result c.counts-counts.ensures.told
    c.requires.accepted c.requires.of_table c.counts-counts.ensures.kept c.counts-counts.ensures.whole fresh (nat_lt c.counts-counts.result.progress c.from-limit.result)
    (ap (λ (n : ℕ). nat_lt c.counts-counts.result.progress n) c.from-limit.ensures)
