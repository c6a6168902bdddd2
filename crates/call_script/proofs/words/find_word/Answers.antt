use Rattle.std.proofs.Common.{sym, ap, ◌∙◌, rules, bytes_eq}
use Rattle.std.specs.Prelude.{option_map}
use Rattle.std.proofs.lemmas.Iterator.{YieldsList-from_slice}
use Rattle.std.proofs.lemmas.Iterator.Search.{find_from_yields_List}
use Rattle.call_script.proofs.Verbs.{found}
use Rattle.call_script.proofs.words.find_word.Goals as goal

pub returns-in-Some : goal.returns-in-Some
returns-in-Some g c =
    let first = find_from_yields_List {v = λ x. x.now} (λ e. bytes_eq c.args.word.now e.0.now) _ _ _ c.find.ensures.ran (YieldsList-from_slice c.args.list.now (cc)) (λ x b q k. search (rules, k)) in
    ap (option_map (λ e. e.1)) (sym (ap (option_map (λ x. x.now)) c.in-Some.is) ∙ first) ∙ sym (found c.args.list.now c.args.word.now)

pub returns-in-None : goal.returns-in-None
returns-in-None g c =
    let first = find_from_yields_List {v = λ x. x.now} (λ e. bytes_eq c.args.word.now e.0.now) _ _ _ c.find.ensures.ran (YieldsList-from_slice c.args.list.now (cc)) (λ x b q k. search (rules, k)) in
    ap (option_map (λ e. e.1)) (sym (ap (option_map (λ x. x.now)) c.in-None.is) ∙ first) ∙ sym (found c.args.list.now c.args.word.now)
