use Rattle.std.proofs.Common.{◌≡◌, rules, sym, subst, ap, ◌∙◌, List, Bool}
use Rattle.std.specs.Prelude.{filter}
use Rattle.std.proofs.lemmas.Fn.{filter_same}
use Rattle.apex_types.specs.declared.calls.Line.{Line}
use Rattle.apex_model.specs.Isolation.{concerns}
use Rattle.script_model.specs.Numbering.{AreNumbered}
use Rattle.call_script.proofs.Numbers.{numbered-filtered}
use Rattle.call_script.proofs.script.Script.of_partitions.Goals as goal

-- a part of lines whose numbers rise
pub invariant_of-self : goal.invariant_of-self
invariant_of-self c =
    let test : Line → Bool = λ line. concerns c.args.marked.now line.deed in
    let kept : c.retain.new.self.items ≡ filter test c.self.inside.content.items = filter_same _ test _ (λ x b f' k. search (rules, k)) _ _ c.retain.ensures.filtered in
    subst AreNumbered (sym kept) (numbered-filtered test c.self.inside.content.items c.self.invariant)

pub returns : goal.returns
returns c =
    let test : Line → Bool = λ line. concerns c.args.marked.now line.deed in
    let kept : c.retain.new.self.items ≡ filter test c.self.inside.content.items = filter_same _ test _ (λ x b f' k. search (rules, k)) _ _ c.retain.ensures.filtered in
    kept ∙ ap (λ (lines : List Line). filter test lines) c.self.view_is
