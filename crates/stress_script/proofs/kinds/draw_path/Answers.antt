use Rattle.std.proofs.Common.{rules, arith}
use Rattle.std.proofs.lemmas.Fmt.{decimal_digit}
use Rattle.stress_script.specs.Generator.{draw_path}
use Rattle.stress_script.proofs.kinds.draw_path.Goals as goal

pub returns : goal.returns
unfolding draw_path
returns c =
    let digit = decimal_digit c.below-k.result (omega (arith, c.below-k.ensures.below)) in
    search (rules, digit)
