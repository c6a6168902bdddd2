use Rattle.std.proofs.Common.{◌≡◌, ℕ, ◌∙◌, true, false, List, [], get_or, set, sym, ap, subst}
use Rattle.std.proofs.lemmas.List.{get_or_default, get_or_read}
use Rattle.tree_region.specs.OwnedRows.{number_at, is_new, AreApart, AreOthers}
use Rattle.tree_region.proofs.Owned.{own-once, placed-apart}
use Rattle.tree_region.proofs.owning.own_block.Goals as goal

pub take_free-number-requires-clause-room : goal.take_free-number-requires-clause-room
take_free-number-requires-clause-room c =
    let durable_row = get_or_read c.args.table.now.files.items c.args.file.0 c.index.result.now c.requires.durable_file c.index.ensures [] in
    let row = get_or_default c.args.present.now c.args.file.0 c.index-present-at.result [] c.requires.file in
    c.requires.room
    (subst (λ (xs : List ℕ). is_new (get_or xs c.args.k 0) (number_at c.args.present.now c.args.file.0 c.args.k) ≡ false) durable_row
    (subst (λ (xs : List ℕ). is_new (get_or c.index.result.now c.args.k 0) (get_or xs c.args.k 0) ≡ false) row c.in_default.ensures.old))

pub returns-in-Some-clause-fresh : goal.returns-in-Some-clause-fresh
returns-in-Some-clause-fresh c =
    let durable_row = get_or_read c.args.table.now.files.items c.args.file.0 c.index.result.now c.requires.durable_file c.index.ensures [] in
    let row = get_or_default c.args.present.now c.args.file.0 c.index-present-at.result [] c.requires.file in
    let is : c.in-Some.number ≡ number_at c.args.present.now c.args.file.0 c.args.k = c.in-Some.ensures.number ∙ ap (λ (xs : List ℕ). get_or xs c.args.k 0) row in
    subst (λ (xs : List ℕ). is_new (get_or xs c.args.k 0) (number_at c.args.present.now c.args.file.0 c.args.k) ≡ true) durable_row
    (subst (λ n. is_new (get_or c.index.result.now c.args.k 0) n ≡ true) is c.in-Some.ensures.fresh)

pub returns-in-Some-clause-not_durable : goal.returns-in-Some-clause-not_durable
returns-in-Some-clause-not_durable c =
    let row = get_or_default c.args.present.now c.args.file.0 c.index-present-at.result [] c.requires.file in
    let is : c.in-Some.number ≡ number_at c.args.present.now c.args.file.0 c.args.k = c.in-Some.ensures.number ∙ ap (λ (xs : List ℕ). get_or xs c.args.k 0) row in
    subst (λ n. AreOthers n c.args.table.now.files.items) (sym is) (c.requires.apart.not_durable c.args.file.0 c.args.k (returns-in-Some-clause-fresh c))

pub returns-in-Some-clause-once : goal.returns-in-Some-clause-once
returns-in-Some-clause-once c =
    let row = get_or_default c.args.present.now c.args.file.0 c.index-present-at.result [] c.requires.file in
    let is : c.in-Some.number ≡ number_at c.args.present.now c.args.file.0 c.args.k = c.in-Some.ensures.number ∙ ap (λ (xs : List ℕ). get_or xs c.args.k 0) row in
    λ g j same. own-once c.args.table.now.files.items c.args.present.now c.args.file.0 c.args.k (returns-in-Some-clause-fresh c) c.requires.apart g j (same ∙ is)

pub returns-clause-apart : goal.returns-clause-apart
returns-clause-apart c =
    let row = get_or_default c.args.present.now c.args.file.0 c.index-present-at-2.result [] c.requires.file in
    let put : c.put.new.self ≡ set (get_or c.args.present.now c.args.file.0 []) c.args.k c.take_free-number.result
    = c.put.ensures ∙ ap (λ (xs : List ℕ). set xs c.args.k c.take_free-number.result) row in
    subst (λ (xs : List ℕ). AreApart c.args.table.now.files.items (set c.args.present.now c.args.file.0 xs)) (sym put)
    (placed-apart c.args.table.now.files.items c.args.present.now c.args.file.0 c.args.k c.take_free-number.result c.requires.file c.requires.place c.take_free-number.ensures.first
    c.take_free-number.ensures.not_durable c.take_free-number.ensures.not_present c.requires.apart)
