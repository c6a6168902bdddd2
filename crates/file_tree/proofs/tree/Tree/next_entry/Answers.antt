use Rattle.std.proofs.Common.{◌≡◌, ◌+◌, true, false, List, [], Option, None, length, sym, ap, subst, ◌∙◌}
use Rattle.std.specs.Prelude.{unwrap_or}
use Rattle.apex_types.specs.declared.fields.Spot.{Spot}
use Rattle.file_tree.specs.declared.entries.Entry.{Entry}
use Rattle.file_tree.specs.Entries.{slot, way_of, IsNextSpot}
use Rattle.file_tree.specs.Least.{IsLeastPlace, IsLeastBelow, is_second_first, file_spot, directory_spot}
use Rattle.file_tree.proofs.LeastNames.{only-file, only-directory, neither, directory-first, file-first}
use Rattle.file_tree.proofs.tree.Tree.next_entry.Goals as goal

pub returns-in_default-below : goal.returns-in_default-below
returns-in_default-below c =
    neither c.self.inside.files.items c.self.inside.directories.items c.args.self.now c.self.view_is c.self.invariant.sound c.args.directory.0 c.requires c.args.after
    (subst (λ (xs : List (Option Entry)). IsLeastBelow c.args.directory.0 c.args.after xs (length xs) None) c.deref.ensures.value c.in_default.ensures)
    (subst (λ (xs : List (Option Entry)). IsLeastBelow c.args.directory.0 c.args.after xs (length xs) None) c.deref-2.ensures.value c.in_default-below.ensures)

pub returns-in_default : goal.returns-in_default
returns-in_default c =
    subst (λ (o : Option Spot). IsNextSpot c.args.self.now (unwrap_or (way_of c.args.self.now c.args.directory.0) []) c.args.after o) (sym (c.directory_spot.ensures ∙ ap (λ (xs : List (Option Entry)). directory_spot (c.in-Some-below.d + 1) (slot xs c.in-Some-below.d)) c.deref-in_default.ensures.value))
    (only-directory c.self.inside.files.items c.self.inside.directories.items c.args.self.now c.self.view_is c.self.invariant.sound c.args.directory.0 c.requires c.args.after c.in-Some-below.d (subst (λ (xs : List (Option Entry)). IsLeastPlace c.args.directory.0 c.args.after xs (length xs) c.in-Some-below.d) c.deref-2.ensures.value c.in-Some-below.ensures) (subst (λ (xs : List (Option Entry)). IsLeastBelow c.args.directory.0 c.args.after xs (length xs) None) c.deref.ensures.value c.in_default.ensures))

pub returns-in_default-below-2 : goal.returns-in_default-below-2
returns-in_default-below-2 c =
    subst (λ (o : Option Spot). IsNextSpot c.args.self.now (unwrap_or (way_of c.args.self.now c.args.directory.0) []) c.args.after o) (sym (c.file_spot.ensures ∙ ap (λ (xs : List (Option Entry)). file_spot c.in-Some.f (slot xs c.in-Some.f)) c.deref-in_default-below-2.ensures.value))
    (only-file c.self.inside.files.items c.self.inside.directories.items c.args.self.now c.self.view_is c.self.invariant.sound c.args.directory.0 c.requires c.args.after c.in-Some.f (subst (λ (xs : List (Option Entry)). IsLeastPlace c.args.directory.0 c.args.after xs (length xs) c.in-Some.f) c.deref.ensures.value c.in-Some.ensures) (subst (λ (xs : List (Option Entry)). IsLeastBelow c.args.directory.0 c.args.after xs (length xs) None) c.deref-2.ensures.value c.in_default-below-2.ensures))

pub returns-then-is_second_first : goal.returns-then-is_second_first
returns-then-is_second_first c =
    let t : is_second_first (slot c.self.inside.files.items c.in-Some.f) (slot c.self.inside.directories.items c.in-Some-below-2.d) ≡ true
    = (λ i. is_second_first (slot (sym c.deref-3.ensures.value i) c.in-Some.f) (slot (sym c.deref-4.ensures.value i) c.in-Some-below-2.d)) ∙ sym c.is_second_first.ensures ∙ c.if-is_second_first.true in
    subst (λ (o : Option Spot). IsNextSpot c.args.self.now (unwrap_or (way_of c.args.self.now c.args.directory.0) []) c.args.after o) (sym (c.directory_spot-then-is_second_first.ensures ∙ ap (λ (xs : List (Option Entry)). directory_spot (c.in-Some-below-2.d + 1) (slot xs c.in-Some-below-2.d)) c.deref-then-is_second_first.ensures.value))
    (directory-first c.self.inside.files.items c.self.inside.directories.items c.args.self.now c.self.view_is c.self.invariant.sound c.args.directory.0 c.requires c.args.after c.in-Some.f c.in-Some-below-2.d (subst (λ (xs : List (Option Entry)). IsLeastPlace c.args.directory.0 c.args.after xs (length xs) c.in-Some.f) c.deref.ensures.value c.in-Some.ensures) (subst (λ (xs : List (Option Entry)). IsLeastPlace c.args.directory.0 c.args.after xs (length xs) c.in-Some-below-2.d) c.deref-2.ensures.value c.in-Some-below-2.ensures) t)

pub returns-else-is_second_first : goal.returns-else-is_second_first
returns-else-is_second_first c =
    let t : is_second_first (slot c.self.inside.files.items c.in-Some.f) (slot c.self.inside.directories.items c.in-Some-below-2.d) ≡ false
    = (λ i. is_second_first (slot (sym c.deref-3.ensures.value i) c.in-Some.f) (slot (sym c.deref-4.ensures.value i) c.in-Some-below-2.d)) ∙ sym c.is_second_first.ensures ∙ c.if-is_second_first.false in
    subst (λ (o : Option Spot). IsNextSpot c.args.self.now (unwrap_or (way_of c.args.self.now c.args.directory.0) []) c.args.after o) (sym (c.file_spot-else-is_second_first.ensures ∙ ap (λ (xs : List (Option Entry)). file_spot c.in-Some.f (slot xs c.in-Some.f)) c.deref-else-is_second_first.ensures.value))
    (file-first c.self.inside.files.items c.self.inside.directories.items c.args.self.now c.self.view_is c.self.invariant.sound c.args.directory.0 c.requires c.args.after c.in-Some.f c.in-Some-below-2.d (subst (λ (xs : List (Option Entry)). IsLeastPlace c.args.directory.0 c.args.after xs (length xs) c.in-Some.f) c.deref.ensures.value c.in-Some.ensures) (subst (λ (xs : List (Option Entry)). IsLeastPlace c.args.directory.0 c.args.after xs (length xs) c.in-Some-below-2.d) c.deref-2.ensures.value c.in-Some-below-2.ensures) t)
