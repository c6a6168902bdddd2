use Rattle.std.proofs.Common.{◌≡◌, ◌+◌, ◌-◌, suc, sym, ap, ◌∙◌, arith}
use Rattle.std.specs.Prelude.{is_some}
use Rattle.file_tree.specs.Table.{way}
use Rattle.file_tree.proofs.Applied.{way-at-root, way-at-end, way-lost, way-up}
use Rattle.file_tree.proofs.places.has_way.Goals as goal

pub returns-then-at-eq0 : goal.returns-then-at-eq0
returns-then-at-eq0 c = sym (c.loop.invariant.0 ∙ way-at-root c.args.directories.now (5 - c.loop.counter) c.loop.at.0 c.if-at-eq0.true)

pub returns-in-None : goal.returns-in-None
returns-in-None c = sym (c.loop.invariant.0 ∙ way-lost c.args.directories.now (5 - c.loop.counter) c.loop.at.0 c.if-at-eq0.false (sym c.parent_at.ensures ∙ c.in-None.is))

pub loop-preserved : goal.loop-preserved
loop-preserved c =
    let level : 5 - c.loop.counter ≡ suc (5 - (c.loop.counter + 1)) = omega arith in (
      c.loop.invariant.0 ∙ ap (λ n. is_some (way c.args.directories.now n c.loop.at.0)) level
          ∙ way-up c.args.directories.now (5 - (c.loop.counter + 1)) c.loop.at.0 c.in-Some.parent c.if-at-eq0.false (sym c.parent_at.ensures ∙ c.in-Some.is),
      omega arith,
    )

pub returns : goal.returns
returns c =
    let last : 5 - c.loop.counter ≡ 0 = omega arith in
    sym (c.loop.invariant.0 ∙ ap (λ n. is_some (way c.args.directories.now n c.loop.at.0)) last ∙ way-at-end c.args.directories.now c.loop.at.0)
