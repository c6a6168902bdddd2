use Rattle.std.proofs.Common.{◌≡◌, ◌+◌, ◌∙◌, sym, ap, subst, arith, rules, length, take, drop, List, [], ◌∷◌, ◌++◌, ℕ}
use Rattle.std.specs.Prelude.{if◌then◌else◌}
use Rattle.std.proofs.lemmas.List.{with_items_is, take_more, take_all}
use Rattle.rig_core.specs.declared.call.CallRecord.{CallRecord}
use Rattle.rig_core.specs.Cuts.{made_sure, IsCut}
use Rattle.rig_core.specs.Record.{fresh_disk}
use Rattle.rig_core.proofs.CutImages.{Remade, remade_none, remade_on, is_cut}
use Rattle.rig_core.proofs.cut.image_after.Goals as goal

pub loop-call-init : goal.loop-call-init
loop-call-init c = remade_none c.args.image.now c.into_vec-view.result.items c.into_vec-synchronised.result.items (search rules) (search rules)

pub loop-call-preserved : goal.loop-call-preserved
loop-call-preserved c =
    let d = fresh_disk (length c.args.image.now) c.args.image.now in
    let calls = c.args.calls.now in
    let i = c.loop-call.call-index in
    let x = c.call-item.result in
    let was = c.loop-call.invariant in
    let sure = if made_sure x.kind x.ok then c.make_again.new.view.items else c.loop-call.synchronised.items in
    let new : c.make_again.new.synchronised ≡ sure = search rules in
    let items : take c.loop-call.synchronised.len (c.make_again.new.synchronised ++ drop (length c.make_again.new.synchronised) c.loop-call.synchronised.items) ≡ sure
    = with_items_is c.loop-call.synchronised c.make_again.new.synchronised (search rules) ∙ new in
    let more : take (i + 1) calls ≡ take i calls ++ x ∷ [] = take_more calls i x (omega (arith, c.loop-call-test.true)) ∙ ap (λ (y : CallRecord). take i calls ++ y ∷ []) (sym c.call-item.is) in
    let next = remade_on d (take i calls) x c.loop-call.view.items c.loop-call.synchronised.items c.make_again.new.view.items was (search rules) c.make_again.ensures.shown c.make_again.ensures.long in
    subst (λ (bytes : List ℕ). Remade d (take (i + 1) calls) c.make_again.new.view.items bytes) (sym items)
    (subst (λ (made : List CallRecord). Remade d made c.make_again.new.view.items sure) (sym more) next)

pub returns : goal.returns
returns c =
    let calls = c.args.calls.now in
    let d = fresh_disk (length c.args.image.now) c.args.image.now in
    let view = c.loop-call.view.items in
    let synchronised = c.loop-call.synchronised.items in
    let all : take c.loop-call.call-index calls ≡ calls = take_all c.loop-call.call-index calls (omega (arith, c.loop-call-test.false)) in
    let remade = subst (λ (made : List CallRecord). Remade d made view synchronised) all c.loop-call.invariant in
    let items : c.from_vec.result ≡ c.leave.new.image = c.from_vec.ensures ∙ with_items_is c.loop-call.synchronised c.leave.new.image (search rules) in
    subst (IsCut c.args.left d calls) (sym items) (is_cut c.args.left d calls view synchronised c.leave.new.image remade (search rules) (λ k low. search (rules, c.leave.ensures k (search rules))))
