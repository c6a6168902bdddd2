use Rattle.std.proofs.Common.{◌<◌, None, subst, sym}
use Rattle.file_tree.proofs.Changes.{files-within, removed_file, some_is, each_some}
use Rattle.file_tree.proofs.Spelled.{names-set}
use Rattle.file_tree.proofs.tree.Tree.remove_file.Goals as goal

pub index_mut-requires : goal.index_mut-requires
index_mut-requires c = subst (λ n. c.args.file.0 < n) (sym c.self.inside.files.ok.0) (files-within _ _ _ c.self.view_is c.args.file.0 c.requires)

pub invariant_of-self : goal.invariant_of-self
invariant_of-self c =
    let s = some_is _ c.requires in
    record {
      sound = (removed_file c.self.inside.files.items c.self.inside.directories.items c.args.self.now c.self.view_is c.self.invariant.sound c.args.file.0 s.0 s.1).sound;
      file_names = names-set c.self.inside.files.items c.args.file.0 None c.self.invariant.file_names tt;
      directory_names = c.self.invariant.directory_names;
    }

pub returns : goal.returns
returns c = each_some _ _ (λ path was.
    (removed_file c.self.inside.files.items c.self.inside.directories.items c.args.self.now c.self.view_is c.self.invariant.sound c.args.file.0 path was).is)
