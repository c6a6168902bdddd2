use Rattle.std.proofs.Common.{◌≡◌, ◌<◌, List, length, set, subst, sym, ap, ◌∙◌, Option, arith}
use Rattle.std.specs.Prelude.{option_map}
use Rattle.std.specs.Vec.{with_items}
use Rattle.std.proofs.lemmas.List.{with_items_is}
use Rattle.file_tree.specs.declared.entries.Entry.{Entry}
use Rattle.file_tree.specs.Entries.{slot}
use Rattle.file_tree.specs.Table.{value_of, entry_with, AreKept}
use Rattle.file_tree.proofs.Changes.{files-within, stored_changed}
use Rattle.file_tree.proofs.Spelled.{names-set, name-with}
use Rattle.file_tree.proofs.tree.Tree.set_stored.Goals as goal

pub set_stored_at-requires : goal.set_stored_at-requires
set_stored_at-requires c = subst (λ (xs : List (Option Entry)). c.args.file.0 < length xs) (sym c.deref_mut.ensures.value) (files-within _ _ _ c.self.view_is c.args.file.0 c.requires.file)

-- the entries afterwards
files-are : (c : goal.After-self-1) → (with_items c.self.inside.files c.set_stored_at.new.entries).items
    ≡ set c.self.inside.files.items c.args.file.0 (option_map (entry_with (c.args.size, c.args.changes)) (slot c.self.inside.files.items c.args.file.0))
files-are c =
    with_items_is c.self.inside.files c.set_stored_at.new.entries (search arith) ∙ c.set_stored_at.ensures
    ∙ (λ i. set (c.deref_mut.ensures.value i) c.args.file.0 (option_map (entry_with (c.new.ensures i)) (slot (c.deref_mut.ensures.value i) c.args.file.0)))

pub invariant_of-self : goal.invariant_of-self
invariant_of-self c =
    subst (λ (xs : List (Option Entry)). AreKept xs c.self.inside.directories.items) (sym (files-are c)) (record {
      sound = (stored_changed c.self.inside.files.items c.self.inside.directories.items c.args.self.now c.self.view_is c.self.invariant.sound c.args.file.0 c.args.size c.args.changes c.requires.file).sound;
      file_names = names-set c.self.inside.files.items c.args.file.0 _ c.self.invariant.file_names
          (name-with (c.args.size, c.args.changes) (slot c.self.inside.files.items c.args.file.0) (c.self.invariant.file_names c.args.file.0));
      directory_names = c.self.invariant.directory_names;
    })

pub returns : goal.returns
returns c =
    ap (λ (xs : List (Option Entry)). value_of xs c.self.inside.directories.items) (files-are c)
    ∙ (stored_changed c.self.inside.files.items c.self.inside.directories.items c.args.self.now c.self.view_is c.self.invariant.sound c.args.file.0 c.args.size c.args.changes c.requires.file).is
