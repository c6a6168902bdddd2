use Rattle.std.proofs.Common.{◌∙◌, refl, [], ap, arith, rules, subst, false}
use Rattle.rig_core.specs.Record.{Disk, fresh_disk}
use Rattle.rig_core.specs.Recorded.{IsRecorded}
use Rattle.apex_types.specs.declared.kinds.CallKind.TheVariants.{Sync}
use Rattle.rig_core.proofs.Recorded.{keeps_past, keeps_still, keeps_sync, kept_sync, settled_by_sync, replayed, last_clock_is}
use Rattle.rig_core.proofs.CutImages.{fit_still}
use Rattle.rig_core.proofs.mem_rig.MemRig.sync_as.Goals as goal

pub invariant_of-self-then-not-passes-clause-fit : goal.invariant_of-self-then-not-passes-clause-fit
invariant_of-self-then-not-passes-clause-fit c = fit_still c.args.self.now.size _ _ _ _ _ _ _ c.in-Ok.ensures.added refl c.args.self.now.fit

pub invariant_of-self-else-not-passes-clause-fit : goal.invariant_of-self-else-not-passes-clause-fit
invariant_of-self-else-not-passes-clause-fit c = fit_still c.args.self.now.size _ _ _ _ _ _ _ c.in-Ok.ensures.added refl c.args.self.now.fit

pub invariant_of-self-then-not-passes-clause-shows : goal.invariant_of-self-then-not-passes-clause-shows
invariant_of-self-then-not-passes-clause-shows c =
    ap (λ (d : Disk). d.view) (replayed (fresh_disk c.args.self.now.size c.args.self.now.image) _ _ _ _ _ _ _ c.in-Ok.ensures.added) ∙ c.args.self.now.shows

pub invariant_of-self-then-not-passes-clause-tells_all : goal.invariant_of-self-then-not-passes-clause-tells_all
invariant_of-self-then-not-passes-clause-tells_all c =
    ap (λ (d : Disk). d.told) (replayed (fresh_disk c.args.self.now.size c.args.self.now.image) _ _ _ _ _ _ _ c.in-Ok.ensures.added) ∙ c.args.self.now.tells_all

pub invariant_of-self-then-not-passes-clause-ordered : goal.invariant_of-self-then-not-passes-clause-ordered
invariant_of-self-then-not-passes-clause-ordered c =
    omega (arith, c.args.self.now.ordered, last_clock_is (fresh_disk c.args.self.now.size c.args.self.now.image) _ _ _ _ _ _ _ c.in-Ok.ensures.added)

pub invariant_of-self-else-not-passes-clause-shows : goal.invariant_of-self-else-not-passes-clause-shows
invariant_of-self-else-not-passes-clause-shows c =
    ap (λ (d : Disk). d.view) (replayed (fresh_disk c.args.self.now.size c.args.self.now.image) _ _ _ _ _ _ _ c.in-Ok.ensures.added) ∙ c.args.self.now.shows

pub invariant_of-self-else-not-passes-clause-tells_all : goal.invariant_of-self-else-not-passes-clause-tells_all
invariant_of-self-else-not-passes-clause-tells_all c =
    ap (λ (d : Disk). d.told) (replayed (fresh_disk c.args.self.now.size c.args.self.now.image) _ _ _ _ _ _ _ c.in-Ok.ensures.added) ∙ c.args.self.now.tells_all

pub invariant_of-self-else-not-passes-clause-ordered : goal.invariant_of-self-else-not-passes-clause-ordered
invariant_of-self-else-not-passes-clause-ordered c =
    omega (arith, c.args.self.now.ordered, last_clock_is (fresh_disk c.args.self.now.size c.args.self.now.image) _ _ _ _ _ _ _ c.in-Ok.ensures.added)

pub returns-then-not-passes-clause-cuts : goal.returns-then-not-passes-clause-cuts
returns-then-not-passes-clause-cuts c t image told le kept = kept_sync _ _ _ _ _ _ _ c.in-Ok.ensures.added t image told kept

pub returns-clause-cuts : goal.returns-clause-cuts
returns-clause-cuts c t image told le kept = kept_sync _ _ _ _ _ _ _ c.in-Ok.ensures.added t image told kept

pub returns-clause-durable : goal.returns-clause-durable
returns-clause-durable c image told now =
    settled_by_sync (fresh_disk c.args.self.now.size c.args.self.now.image) _ _ _ _ _ _ _ (subst (λ ok. IsRecorded Sync 0 [] ok c.args.self.now.clock c.args.self.now.calls.items c.add.new.calls.items) (search rules) c.in-Ok.ensures.added) c.args.self.now.shows c.args.self.now.fills
    (omega (arith, c.args.self.now.ordered, last_clock_is (fresh_disk c.args.self.now.size c.args.self.now.image) _ _ _ _ _ _ _ c.in-Ok.ensures.added)) image told now

pub returns-then-not-passes-clause-past : goal.returns-then-not-passes-clause-past
returns-then-not-passes-clause-past c t image told le kept = keeps_past (fresh_disk c.args.self.now.size c.args.self.now.image) _ _ _ _ _ _ _ c.in-Ok.ensures.added t image told le kept

pub returns-clause-past : goal.returns-clause-past
returns-clause-past c t image told le kept = keeps_past (fresh_disk c.args.self.now.size c.args.self.now.image) _ _ _ _ _ _ _ c.in-Ok.ensures.added t image told le kept

pub returns-then-clock-clause-kept : goal.returns-then-clock-clause-kept
returns-then-clock-clause-kept c image told now = keeps_still (fresh_disk c.args.self.now.size c.args.self.now.image) _ _ _ _ image told _ refl c.args.self.now.ordered c.args.self.now.tells_all now

pub returns-in_default-clause-kept : goal.returns-in_default-clause-kept
returns-in_default-clause-kept c image told now = keeps_still (fresh_disk c.args.self.now.size c.args.self.now.image) _ _ _ _ image told _ c.in_default.ensures.same c.args.self.now.ordered c.args.self.now.tells_all now

pub returns-then-not-passes-clause-kept : goal.returns-then-not-passes-clause-kept
returns-then-not-passes-clause-kept c image told now =
    let rec : IsRecorded Sync 0 [] false c.args.self.now.clock c.args.self.now.calls.items c.add.new.calls.items = subst (λ ok. IsRecorded Sync 0 [] ok c.args.self.now.clock c.args.self.now.calls.items c.add.new.calls.items) (search rules) c.in-Ok.ensures.added in
    keeps_sync _ _ _ (fresh_disk c.args.self.now.size c.args.self.now.image) _ _ rec _ _ image told _ c.args.self.now.ordered c.args.self.now.tells_all now
