use Rattle.std.proofs.Common.{ℕ, [], Some, ap, refl, subst, ◌∙◌}
use Rattle.std.specs.Prelude.{unwrap_or}
use Rattle.apex_types.specs.declared.fields.Spot.{Spot}
use Rattle.apex_types.specs.declared.replies.Values.TheVariants.{FileEntry}
use Rattle.apex_model.specs.Outcomes.{success}
use Rattle.apex_model.specs.Trees.{Name}
use Rattle.file_tree.specs.Entries.{TreeValue, IsNextSpot, way_of}
use Rattle.tree_store.specs.Stored.{names_of}
use Rattle.service_parts.proofs.Held.{at_value, size_of, there}
use Rattle.service_parts.proofs.Served.{served-new}
use Rattle.dir_services.proofs.ListingLaws.{last-set, read-directory, read-file}
use Rattle.dir_services.proofs.PathLaws.{within_stores}
use Rattle.dir_services.proofs.listing.give.Goals as goal

-- no listing gives a free place, nor the root
pub returns-in-Free : goal.returns-in-Free
returns-in-Free c = λ stores all.
    let tree = there c.args.trees.now c.args.handle.tree c.requires.within in
    let P : Spot → Type 0 = λ spot. IsNextSpot (names_of tree.0) (unwrap_or (way_of (names_of tree.0) c.args.directory.0) []) c.args.handle.last (Some spot) in
    absurd (subst P c.in-Free.is (c.requires.next tree.0 tree.1))

pub returns-in-Root : goal.returns-in-Root
returns-in-Root c = λ stores all.
    let tree = there c.args.trees.now c.args.handle.tree c.requires.within in
    let P : Spot → Type 0 = λ spot. IsNextSpot (names_of tree.0) (unwrap_or (way_of (names_of tree.0) c.args.directory.0) []) c.args.handle.last (Some spot) in
    absurd (subst P c.in-Root.is (c.requires.next tree.0 tree.1))

pub returns-in-Directory : goal.returns-in-Directory
returns-in-Directory c = λ stores all.
    let trees = c.args.trees.now in
    let h = c.args.handle in
    let name = c.in-Directory.name in
    let next = at_value trees stores all (λ (v : TreeValue). IsNextSpot v (unwrap_or (way_of v c.args.directory.0) []) h.last (Some c.args.spot)) h.tree c.requires.within c.requires.next in
    served-new refl
    (last-set c.args.handles.now c.set_last.new.self c.args.p.0 c.args.id h (Some c.copy.result) (Some name) c.requires.held (ap (λ (n : Name). Some n) c.copy.ensures) c.set_last.ensures)
    c.success-in-Directory.ensures
    (read-directory stores c.args.handles.now c.args.p.0 c.args.id h c.requires.held c.args.directory c.requires.has_directory (within_stores trees stores all h.tree c.requires.within)
    c.args.spot c.in-Directory.parent c.in-Directory.node name c.in-Directory.is next)

pub returns-in-File : goal.returns-in-File
returns-in-File c = λ stores all.
    let trees = c.args.trees.now in
    let h = c.args.handle in
    let name = c.in-File.name in
    let next = at_value trees stores all (λ (v : TreeValue). IsNextSpot v (unwrap_or (way_of v c.args.directory.0) []) h.last (Some c.args.spot)) h.tree c.requires.within c.requires.next in
    let size = size_of trees stores all h.tree c.requires.within c.in-File.node.0 c.size-size.result c.size-size.ensures in
    served-new refl
    (last-set c.args.handles.now c.set_last-in-File.new.self c.args.p.0 c.args.id h (Some c.copy-in-File.result) (Some name) c.requires.held (ap (λ (n : Name). Some n) c.copy-in-File.ensures) c.set_last-in-File.ensures)
    (c.success-in-File.ensures ∙ ap (λ (n : ℕ). success (FileEntry name n)) size)
    (read-file stores c.args.handles.now c.args.p.0 c.args.id h c.requires.held c.args.directory c.requires.has_directory (within_stores trees stores all h.tree c.requires.within)
    c.args.spot c.in-File.parent c.in-File.node name c.in-File.is next)
