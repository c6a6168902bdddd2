use Rattle.std.proofs.Common.{◌≡◌, ◌<◌, subst, sym, ap, ◌∙◌, List, Option}
use Rattle.file_tree.specs.declared.entries.Entry.{Entry}
use Rattle.file_tree.specs.Entries.{slot, stored_of}
use Rattle.file_tree.specs.Table.{stored_at}
use Rattle.file_tree.proofs.Changes.{files-within, renamed_with, some_is, each_some, stored-seen}
use Rattle.file_tree.proofs.Spelled.{names-set}
use Rattle.file_tree.proofs.tree.Tree.rename.Goals as goal

pub index_mut-requires : goal.index_mut-requires
index_mut-requires c = subst (λ n. c.args.file.0 < n) (sym c.self.inside.files.ok.0) (files-within _ _ _ c.self.view_is c.args.file.0 c.requires.file)

pub invariant_of-self : goal.invariant_of-self
invariant_of-self c =
    let s = some_is _ c.requires.file in
    let kept : stored_of c.args.self.now c.args.file.0 ≡ c.stored_at-stored.result = stored-seen _ _ _ c.self.view_is c.args.file.0 ∙ ap (λ (xs : List (Option Entry)). stored_at (slot xs c.args.file.0)) (sym c.deref.ensures.value) ∙ sym c.stored_at-stored.ensures in
    rw (c.new.ensures.value) (record {
      sound = (renamed_with c.self.inside.files.items c.self.inside.directories.items c.args.self.now c.self.view_is c.self.invariant.sound c.args.file.0 s.0 s.1 c.args.parent c.args.name c.stored_at-stored.result kept c.requires.in_use c.requires.few c.requires.free).sound;
      file_names = names-set c.self.inside.files.items c.args.file.0 _ c.self.invariant.file_names c.new.ensures.name;
      directory_names = c.self.invariant.directory_names;
    })

pub returns : goal.returns
returns c = rw (c.new.ensures.value) (each_some _ _ (λ path was.
    let kept : stored_of c.args.self.now c.args.file.0 ≡ c.stored_at-stored.result = stored-seen _ _ _ c.self.view_is c.args.file.0 ∙ ap (λ (xs : List (Option Entry)). stored_at (slot xs c.args.file.0)) (sym c.deref.ensures.value) ∙ sym c.stored_at-stored.ensures in
    (renamed_with c.self.inside.files.items c.self.inside.directories.items c.args.self.now c.self.view_is c.self.invariant.sound c.args.file.0 path was c.args.parent c.args.name c.stored_at-stored.result kept c.requires.in_use c.requires.few c.requires.free).is))
