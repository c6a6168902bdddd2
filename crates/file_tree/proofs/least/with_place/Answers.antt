use Rattle.std.proofs.Common.{Some, Option, ℕ, sym, subst, ◌∙◌}
use Rattle.file_tree.specs.Entries.{slot}
use Rattle.file_tree.specs.Least.{IsLeastPlace, IsLeastBelow}
use Rattle.file_tree.proofs.LeastNames.{read-slot, listed-is, least-first, least-lower, least-kept, second-first}
use Rattle.file_tree.proofs.least.with_place.Goals as goal

pub returns-in_default-best : goal.returns-in_default-best
returns-in_default-best c =
    let here = listed-is c.args.parent.0 c.args.after.now (slot c.args.entries.now c.args.k) c.in-Some.entry (read-slot c.args.entries.now c.args.k c.index-entries-k.result (Some c.in-Some.entry) c.index-entries-k.is c.in-Some.is c.requires.within) (sym c.is_listed.ensures ∙ c.if-not-is_listed.false) in
    least-first c.args.parent.0 c.args.after.now c.args.entries.now c.args.k c.in-Some.entry.name c.requires.within here
    (subst (λ (best : Option ℕ). IsLeastBelow c.args.parent.0 c.args.after.now c.args.entries.now c.args.k best) c.in_default-best.is c.requires.so_far)

pub returns-then-is_second_first : goal.returns-then-is_second_first
returns-then-is_second_first c =
    let here = listed-is c.args.parent.0 c.args.after.now (slot c.args.entries.now c.args.k) c.in-Some.entry (read-slot c.args.entries.now c.args.k c.index-entries-k.result (Some c.in-Some.entry) c.index-entries-k.is c.in-Some.is c.requires.within) (sym c.is_listed.ensures ∙ c.if-not-is_listed.false) in
    let best : IsLeastPlace c.args.parent.0 c.args.after.now c.args.entries.now c.args.k c.in-Some-best.place
    = subst (λ (best : Option ℕ). IsLeastBelow c.args.parent.0 c.args.after.now c.args.entries.now c.args.k best) c.in-Some-best.is c.requires.so_far in
    least-lower c.args.parent.0 c.args.after.now c.args.entries.now c.args.k c.in-Some.entry.name c.requires.within here c.in-Some-best.place best
    (sym (second-first (slot c.args.entries.now c.in-Some-best.place) (slot c.args.entries.now c.args.k) c.args.parent.0 c.args.parent.0 c.args.after.now c.args.after.now best.name c.in-Some.entry.name best.is here) ∙ sym c.is_second_first.ensures ∙ c.if-is_second_first.true)

pub returns-else-is_second_first : goal.returns-else-is_second_first
returns-else-is_second_first c =
    let here = listed-is c.args.parent.0 c.args.after.now (slot c.args.entries.now c.args.k) c.in-Some.entry (read-slot c.args.entries.now c.args.k c.index-entries-k.result (Some c.in-Some.entry) c.index-entries-k.is c.in-Some.is c.requires.within) (sym c.is_listed.ensures ∙ c.if-not-is_listed.false) in
    let best : IsLeastPlace c.args.parent.0 c.args.after.now c.args.entries.now c.args.k c.in-Some-best.place
    = subst (λ (best : Option ℕ). IsLeastBelow c.args.parent.0 c.args.after.now c.args.entries.now c.args.k best) c.in-Some-best.is c.requires.so_far in
    least-kept c.args.parent.0 c.args.after.now c.args.entries.now c.args.k c.in-Some.entry.name c.requires.within here c.in-Some-best.place best
    (sym (second-first (slot c.args.entries.now c.in-Some-best.place) (slot c.args.entries.now c.args.k) c.args.parent.0 c.args.parent.0 c.args.after.now c.args.after.now best.name c.in-Some.entry.name best.is here) ∙ sym c.is_second_first.ensures ∙ c.if-is_second_first.false)
