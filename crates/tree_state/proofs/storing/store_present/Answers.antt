use Rattle.std.proofs.Common.{◌≡◌, ℕ, ◌∙◌, List, [], ap, sym, subst, arith, refl}
use Rattle.std.specs.Prelude.{slice_set}
use Rattle.std.proofs.lemmas.List.{get_or_read}
use Rattle.std.specs.List.{length_refill}
use Rattle.apex_model.specs.Files.{blocks_of}
use Rattle.block_quota.specs.Quota.{with_charge}
use Rattle.file_tree.specs.Entries.{with_stored}
use Rattle.present_files.specs.Present.{content_of, size_of}
use Rattle.rig_core.proofs.Moments.{leaves_weaker}
use Rattle.tree_region.specs.Rows.{NameUsed}
use Rattle.tree_state.proofs.NewState.{good-known, named-used, new-state, numbered, present-numbered}
use Rattle.tree_state.proofs.StoredTree.{IsEither, durable-now, either-stored, entry-stored, same-data}
use Rattle.tree_state.proofs.storing.store_present.Goals as goal

pub store_file-requires-clause-tail : goal.store_file-requires-clause-tail
store_file-requires-clause-tail g c = c.deref.ensures.value ∙ c.requires.state.tail

pub store_file-requires-clause-named : goal.store_file-requires-clause-named
store_file-requires-clause-named g c =
    let s = c.args.state.now in
    let known = present-numbered g.R.Rig.tells_view c.args.row.now c.args.at (g.R.Rig.state c.args.rig.now) s c.requires.state c.args.file.0 c.requires.in_use in
    let list_is = get_or_read s.present.numbers.items c.args.file.0 c.index-numbers.result.now known c.index-numbers.ensures [] in
    subst (λ (ns : List ℕ). NameUsed c.args.row.now s.kept.table.used ns) (sym list_is)
    (named-used g.R.Rig.tells_view c.args.row.now c.args.at (g.R.Rig.state c.args.rig.now) s c.requires.state c.args.file.0 c.requires.in_use)

pub store_file-requires-clause-good : goal.store_file-requires-clause-good
store_file-requires-clause-good g c =
    let s = c.args.state.now in
    let known = present-numbered g.R.Rig.tells_view c.args.row.now c.args.at (g.R.Rig.state c.args.rig.now) s c.requires.state c.args.file.0 c.requires.in_use in
    let list_is = get_or_read s.present.numbers.items c.args.file.0 c.index-numbers.result.now known c.index-numbers.ensures [] in
    let entry = entry-stored s.kept.tree c.stand.ensures.consistent c.args.file.0 c.requires.in_use in
    good-known g.R.Rig.tells_view c.args.row.now c.args.at (g.R.Rig.state c.args.rig.now) s c.requires.state c.args.file.0 c.requires.in_use entry c.present_size-stored.result.size c.present_size-stored.result.changes
    c.index-numbers.result.now c.present_size-stored.ensures.size c.present_size-stored.ensures.changes list_is

pub returns-in_err-store_file-clause-any_moment : goal.returns-in_err-store_file-clause-any_moment
returns-in_err-store_file-clause-any_moment g c = λ path there tells.
    let s = c.args.state.now in
    let o = g.R.Rig.state c.args.rig.now in
    let known = present-numbered g.R.Rig.tells_view c.args.row.now c.args.at o s c.requires.state c.args.file.0 c.requires.in_use in
    let list_is = get_or_read s.present.numbers.items c.args.file.0 c.index-numbers.result.now known c.index-numbers.ensures [] in
    let durable = numbered g.R.Rig.tells_view c.args.row.now c.args.at o s c.requires.state c.args.file.0 c.requires.in_use in
    leaves_weaker _ (IsEither c.args.row.now c.args.at o.view s c.args.file path) o (g.R.Rig.state c.store_file.new.rig)
    (either-stored c.args.row.now c.args.at o.view s c.args.file c.present_size-stored.result.size c.present_size-stored.result.changes c.index-numbers.result.now c.present_size-stored.ensures.size
    c.present_size-stored.ensures.changes list_is c.stand.ensures.consistent durable c.requires.none path there)
    (c.store_file.ensures.any_moment tells)

pub returns-in_err-store_file-clause-shown : goal.returns-in_err-store_file-clause-shown
returns-in_err-store_file-clause-shown g c = λ path there tells.
    let s = c.args.state.now in
    let o = g.R.Rig.state c.args.rig.now in
    let known = present-numbered g.R.Rig.tells_view c.args.row.now c.args.at o s c.requires.state c.args.file.0 c.requires.in_use in
    let list_is = get_or_read s.present.numbers.items c.args.file.0 c.index-numbers.result.now known c.index-numbers.ensures [] in
    let durable = numbered g.R.Rig.tells_view c.args.row.now c.args.at o s c.requires.state c.args.file.0 c.requires.in_use in
    either-stored c.args.row.now c.args.at o.view s c.args.file c.present_size-stored.result.size c.present_size-stored.result.changes c.index-numbers.result.now c.present_size-stored.ensures.size
    c.present_size-stored.ensures.changes list_is c.stand.ensures.consistent durable c.requires.none path there (g.R.Rig.state c.store_file.new.rig).view (c.store_file.ensures.shown tells)

pub returns-clause-any_moment : goal.returns-clause-any_moment
returns-clause-any_moment g c = λ path there tells.
    let s = c.args.state.now in
    let o = g.R.Rig.state c.args.rig.now in
    let known = present-numbered g.R.Rig.tells_view c.args.row.now c.args.at o s c.requires.state c.args.file.0 c.requires.in_use in
    let list_is = get_or_read s.present.numbers.items c.args.file.0 c.index-numbers.result.now known c.index-numbers.ensures [] in
    let durable = numbered g.R.Rig.tells_view c.args.row.now c.args.at o s c.requires.state c.args.file.0 c.requires.in_use in
    leaves_weaker _ (IsEither c.args.row.now c.args.at o.view s c.args.file path) o (g.R.Rig.state c.store_file.new.rig)
    (either-stored c.args.row.now c.args.at o.view s c.args.file c.present_size-stored.result.size c.present_size-stored.result.changes c.index-numbers.result.now c.present_size-stored.ensures.size
    c.present_size-stored.ensures.changes list_is c.stand.ensures.consistent durable c.requires.none path there)
    (c.store_file.ensures.any_moment tells)

pub returns-clause-shown : goal.returns-clause-shown
returns-clause-shown g c = λ path there tells.
    let s = c.args.state.now in
    let o = g.R.Rig.state c.args.rig.now in
    let known = present-numbered g.R.Rig.tells_view c.args.row.now c.args.at o s c.requires.state c.args.file.0 c.requires.in_use in
    let list_is = get_or_read s.present.numbers.items c.args.file.0 c.index-numbers.result.now known c.index-numbers.ensures [] in
    let durable = numbered g.R.Rig.tells_view c.args.row.now c.args.at o s c.requires.state c.args.file.0 c.requires.in_use in
    either-stored c.args.row.now c.args.at o.view s c.args.file c.present_size-stored.result.size c.present_size-stored.result.changes c.index-numbers.result.now c.present_size-stored.ensures.size
    c.present_size-stored.ensures.changes list_is c.stand.ensures.consistent durable c.requires.none path there (g.R.Rig.state c.store_file.new.rig).view (c.store_file.ensures.shown tells)

pub returns-clause-state : goal.returns-clause-state
returns-clause-state g c =
    let s = c.args.state.now in
    let o = g.R.Rig.state c.args.rig.now in
    let f = c.args.file.0 in
    let known = present-numbered g.R.Rig.tells_view c.args.row.now c.args.at o s c.requires.state f c.requires.in_use in
    let list_is = get_or_read s.present.numbers.items f c.index-numbers.result.now known c.index-numbers.ensures [] in
    let sizes = c.present_size-stored.ensures in
    let entry = entry-stored s.kept.tree c.stand.ensures.consistent f c.requires.in_use in
    let blocks : c.div_ceil.result ≡ blocks_of (size_of s.present c.args.file) = omega (arith, c.div_ceil.ensures, sizes.size) in
    new-state g.R.Rig.tells_view c.args.row.now c.args.at o s c.requires.state f c.requires.in_use entry (g.R.Rig.state c.store_file.new.rig) _ c.in_ok-store_file.ensures.in_step
    (c.in_ok-store_file.ensures.tree ∙ (λ i. with_stored s.kept.tree f (sizes.size i) (sizes.changes i)))
    (c.in_ok-store_file.ensures.files ∙ (λ i. slice_set s.kept.table.files.items f (list_is i)))
    c.in_ok-store_file.ensures.used refl (c.settle.ensures ∙ ap (with_charge s.charges f) blocks)
    (sym (length_refill s.body.len s.body.items c.store_file.new.body s.body.ok.0) ∙ s.body.ok.0) refl

pub returns-clause-synchronised : goal.returns-clause-synchronised
returns-clause-synchronised g c = λ path there tells.
    let s = c.args.state.now in
    let o = g.R.Rig.state c.args.rig.now in
    let view = (g.R.Rig.state c.store_file.new.rig).view in
    let known = present-numbered g.R.Rig.tells_view c.args.row.now c.args.at o s c.requires.state c.args.file.0 c.requires.in_use in
    let list_is = get_or_read s.present.numbers.items c.args.file.0 c.index-numbers.result.now known c.index-numbers.ensures [] in
    let durable = numbered g.R.Rig.tells_view c.args.row.now c.args.at o s c.requires.state c.args.file.0 c.requires.in_use in
    durable-now c.args.row.now c.args.at o.view s c.args.file c.present_size-stored.result.size c.present_size-stored.result.changes c.index-numbers.result.now c.present_size-stored.ensures.size
    c.present_size-stored.ensures.changes list_is c.stand.ensures.consistent durable c.requires.none path there view _ _ (same-data c.args.row.now c.args.at o.view view (c.in_ok-store_file.ensures.outside_view tells)) c.in_ok-store_file.ensures.tree
    c.in_ok-store_file.ensures.files

pub returns-clause-contents : goal.returns-clause-contents
returns-clause-contents g c = λ tells f.
    ap (λ (blocks : List ℕ). content_of blocks c.args.state.now.present f)
    (same-data c.args.row.now c.args.at (g.R.Rig.state c.args.rig.now).view (g.R.Rig.state c.store_file.new.rig).view (c.in_ok-store_file.ensures.outside_view tells))
