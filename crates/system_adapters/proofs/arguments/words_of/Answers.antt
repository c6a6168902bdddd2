use Rattle.std.proofs.Common.{◌≡◌, map, string_bytes, length, refl, ap, sym, ◌∙◌}
use Rattle.std.specs.Vec.Iter.{into_iter_items, into_iter_len}
use Rattle.std.proofs.lemmas.List.{map-id}
use Rattle.std.proofs.lemmas.Iterator.Adapters.{YieldsList-from_vec}
use Rattle.std.proofs.lemmas.Iterator.Consumers.{YieldsList-at, YieldsList-end}
use Rattle.system_adapters.proofs.arguments.words_of.Goals as goal

-- at the end of the loop every argument was pushed
pub returns : goal.returns
returns c =
    let items = into_iter_items c.args.arguments in
    let long : into_iter_len c.args.arguments ≡ length items = c.args.arguments.rest.ok.0 in
    let road = YieldsList-at c.into_iter-argument-iterator.ensures.into_iter_gives (YieldsList-from_vec {s = c.args.arguments} items refl long) in
    let all = YieldsList-end road c.loop-argument.yielded _ c.loop-argument.yielded_by _ c.next.new.self c.in-None.is c.next.ensures.steps in
    c.loop-argument.invariant ∙ ap (map string_bytes) (sym (map-id c.loop-argument.yielded) ∙ all.0)
