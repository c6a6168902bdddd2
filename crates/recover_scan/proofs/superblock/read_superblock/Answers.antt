use Rattle.std.proofs.Common.{◌≡◌, ◌+◌, ◌*◌, ◌<◌, ◌≤◌, ℕ, Bool, true, false, List, length, Option, Some, None, Err, sym, ap, subst, ◌∙◌, arith, rules}
use Rattle.apex_model.specs.Image.{first_difference, blocks_at, is_open, wanted_superblock, too_small, other_table}
use Rattle.apex_model.specs.Layout.{layout_blocks}
use Rattle.rig_core.specs.Bytes.{part}
use Rattle.recover_scan.specs.Mount.{IsImageOf}
use Rattle.recover_scan.proofs.Differences.{compared, state-small, state-closed, state-other, state-regions}
use Rattle.recover_scan.specs.declared.errors.MountError.{MountError}
use Rattle.recover_scan.specs.declared.errors.MountError.TheVariants.{TooSmall}
use Rattle.recover_scan.proofs.Small.{closed_is_other, table_is_other, device_is_other, memory_is_other, fault_is_other}
use Rattle.recover_scan.proofs.superblock.read_superblock.Goals as goal

pub returns-then-size-wanted-clause-refused : goal.returns-then-size-wanted-clause-refused
returns-then-size-wanted-clause-refused g c = λ shown.
    let long = (g.met.R.Rig.sound c.args.rig.now).view_fills shown in
    let count : c.from-wanted.result ≡ layout_blocks c.args.table.now = search rules in
    state-small _ _ (omega (arith, long, c.size.ensures, c.if-size-wanted.true, count)) ∙ (λ i. Err (too_small (512 * sym count i)))

pub returns-in-Ok-false-clause-refused : goal.returns-in-Ok-false-clause-refused
returns-in-Ok-false-clause-refused g c = λ shown.
    let long = (g.met.R.Rig.sound c.args.rig.now).view_fills shown in
    let count : c.from-wanted.result ≡ layout_blocks c.args.table.now = search rules in
    state-closed _ _ (omega (arith, long, c.size.ensures, c.if-size-wanted.false, count)) (sym (c.in-Ok-false.ensures.«open» shown) ∙ c.in-Ok-false.field-0-test)

-- the bytes behind the gate are within the device
pub compare-requires : goal.compare-requires
compare-requires g c =
    let count : c.from-wanted.result ≡ layout_blocks c.args.table.now = search rules in
    let size = c.gate_read.ensures.reads.later.size in
    let wanted = ap length (c.bytes.ensures ∙ c.in-Ok.ensures) in
    let short = c.table_fits_superblock.ensures c.args.table.now c.requires.accepted in
    omega (arith, count, size, wanted, short, c.size.ensures, c.if-size-wanted.false)

pub overflow_cast-result : goal.overflow_cast-result
overflow_cast-result g c =
    let wanted = ap length (c.bytes.ensures ∙ c.in-Ok.ensures) in
    let short = c.table_fits_superblock.ensures c.args.table.now c.requires.accepted in
    let within : c.in-Ok-Some.place < length c.bytes.result.now = rw c.in-Ok-Some.field-0-is at c.in-Ok-Some.ensures.within in
    omega (arith, within, wanted, short)

pub returns-in-Ok-Some-clause-refused : goal.returns-in-Ok-Some-clause-refused
returns-in-Ok-Some-clause-refused g c = λ shown.
    let long = (g.met.R.Rig.sound c.args.rig.now).view_fills shown in
    let count : c.from-wanted.result ≡ layout_blocks c.args.table.now = search rules in
    let short = c.table_fits_superblock.ensures c.args.table.now c.requires.accepted in
    state-other _ _ (omega (arith, long, c.size.ensures, c.if-size-wanted.false, count)) c.in-Ok-Some.place (sym (c.in-Ok-true.ensures.«open» shown) ∙ c.in-Ok-true.field-0-test)
    (compared _ _ _ _ _ (c.bytes.ensures ∙ c.in-Ok.ensures) (c.gate_read.ensures.reads.view shown) short (sym c.in-Ok-Some.field-0-is ∙ c.in-Ok-Some.ensures.place shown))

pub returns-clause-good : goal.returns-clause-good
returns-clause-good g c = λ shown.
    let long = (g.met.R.Rig.sound c.args.rig.now).view_fills shown in
    let count : c.from-wanted.result ≡ layout_blocks c.args.table.now = search rules in
    let short = c.table_fits_superblock.ensures c.args.table.now c.requires.accepted in
    record {
      room = omega (arith, long, c.size.ensures, c.if-size-wanted.false, count);
      formatted = sym (c.in-Ok-true.ensures.«open» shown) ∙ c.in-Ok-true.field-0-test;
      same = compared _ _ _ _ _ (c.bytes.ensures ∙ c.in-Ok.ensures) (c.gate_read.ensures.reads.view shown) short (sym c.in-Ok-None.field-0-is ∙ c.in-Ok-None.ensures.place shown);
    }

pub returns-clause-regions : goal.returns-clause-regions
returns-clause-regions g c = λ shown. let image = returns-clause-good g c shown in state-regions _ _ image.room image.formatted image.same

pub returns-then-size-wanted-clause-wanted : goal.returns-then-size-wanted-clause-wanted
returns-then-size-wanted-clause-wanted g c wanted is =
    let count : c.from-wanted.result ≡ layout_blocks c.args.table.now = search rules in
    let same : 512 * c.from-wanted.result ≡ wanted = cc in
    (omega (arith, c.size.ensures, c.if-size-wanted.true, same), omega (arith, same, count))

pub returns-in-Ok-false-clause-wanted : goal.returns-in-Ok-false-clause-wanted
returns-in-Ok-false-clause-wanted g c = closed_is_other c.args.table.now (g.R.Rig.state c.args.rig.now).size

pub returns-in-Ok-Some-clause-wanted : goal.returns-in-Ok-Some-clause-wanted
returns-in-Ok-Some-clause-wanted g c = table_is_other c.args.table.now (g.R.Rig.state c.args.rig.now).size c.in-Ok-Some.place
