use Rattle.std.proofs.Common.{[], Option, None, Some, sym, subst, ◌∙◌}
use Rattle.std.specs.Prelude.{unwrap_or}
use Rattle.apex_types.specs.declared.fields.Spot.{Spot}
use Rattle.apex_model.specs.Trees.{Name}
use Rattle.file_tree.specs.Entries.{TreeValue, IsNextSpot, way_of}
use Rattle.store_model.specs.Systems.{store_at}
use Rattle.service_parts.proofs.Held.{tree_of}
use Rattle.service_parts.proofs.Served.{served-told}
use Rattle.dir_services.proofs.ListingLaws.{read-bad_id, read-stale, read-end, next-as, seen-used, seen-within}
use Rattle.dir_services.proofs.PathLaws.{within_stores}
use Rattle.dir_services.proofs.listing.read_directory.Goals as goal

pub returns-in_default : goal.returns-in_default
returns-in_default c = λ stores all.
    served-told c.refusal.ensures (read-bad_id stores c.args.handles.now c.args.p.0 c.args.id (sym c.directory.ensures ∙ c.in_default.is))

pub returns-in_default-directory : goal.returns-in_default-directory
returns-in_default-directory c = λ stores all.
    served-told c.refusal-in_default-directory.ensures
    (read-stale stores c.args.handles.now c.args.p.0 c.args.id c.in-Some.handle (sym c.directory.ensures ∙ c.in-Some.is) c.in_default-directory.is)

pub tree-requires : goal.tree-requires
tree-requires c =
    seen-within c.args.trees.now c.args.handles.now c.requires.seen c.args.p.0 c.args.id c.in-Some.handle (sym c.directory.ensures ∙ c.in-Some.is) c.in-Some-directory.directory c.in-Some-directory.is

pub next_entry-requires : goal.next_entry-requires
next_entry-requires c =
    seen-used c.args.trees.now c.args.handles.now c.requires.seen c.args.p.0 c.args.id c.in-Some.handle (sym c.directory.ensures ∙ c.in-Some.is) c.in-Some-directory.directory c.in-Some-directory.is
    c.tree.result.now c.tree.ensures

pub give-requires-clause-within : goal.give-requires-clause-within
give-requires-clause-within c =
    seen-within c.args.trees.now c.args.handles.now c.requires.seen c.args.p.0 c.args.id c.in-Some.handle (sym c.directory.ensures ∙ c.in-Some.is) c.in-Some-directory.directory c.in-Some-directory.is

pub give-requires-clause-next : goal.give-requires-clause-next
give-requires-clause-next c = λ store at.
    let d = c.in-Some-directory.directory in
    let P : Option Name → Type 0 = λ last. IsNextSpot c.tree.result.now (unwrap_or (way_of c.tree.result.now d.0) []) last c.next_entry.result in
    let found = subst P c.last_of.ensures c.next_entry.ensures in
    subst (λ (v : TreeValue). IsNextSpot v (unwrap_or (way_of v d.0) []) c.in-Some.handle.last (Some c.in-Some-next_entry.spot)) (c.tree.ensures store at)
    (subst (λ (o : Option Spot). IsNextSpot c.tree.result.now (unwrap_or (way_of c.tree.result.now d.0) []) c.in-Some.handle.last o) c.in-Some-next_entry.is found)

pub returns-in-None : goal.returns-in-None
returns-in-None c = λ stores all.
    let h = c.in-Some.handle in
    let d = c.in-Some-directory.directory in
    let at = sym c.directory.ensures ∙ c.in-Some.is in
    let low = seen-within c.args.trees.now c.args.handles.now c.requires.seen c.args.p.0 c.args.id h at d c.in-Some-directory.is in
    let same = tree_of c.args.trees.now stores all h.tree low c.tree.result.now c.tree.ensures in
    served-told c.success.ensures
    (read-end stores c.args.handles.now c.args.p.0 c.args.id h at d c.in-Some-directory.is (within_stores c.args.trees.now stores all h.tree low)
    (next-as c.tree.result.now (store_at stores h.tree).tree d.0 c.last_of.result h.last c.next_entry.result None same c.last_of.ensures c.in-None.is c.next_entry.ensures))
