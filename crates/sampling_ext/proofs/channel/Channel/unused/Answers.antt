use Rattle.std.proofs.Common.{◌≡◌, ℕ, Bool, false, List, length, replicate, ◌∙◌, ap, None, arith}
use Rattle.apex_model.specs.Channels.{Channel}
use Rattle.sampling_ext.proofs.Lists.{map_const}
use Rattle.sampling_ext.proofs.channel.Channel.unused.Goals as goal

pub returns : goal.returns
returns c =
    let all : c.loop.counter ≡ length c.args.row.now.destinations = omega arith in
    let empty : List Bool → Channel = λ marks. record { sample = None; consumed = marks } in
    ap empty (c.loop.invariant.0 ∙ ap (λ (n : ℕ). replicate n false) all ∙ map_const false c.args.row.now.destinations)
