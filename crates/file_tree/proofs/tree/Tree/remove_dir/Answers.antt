use Rattle.std.proofs.Common.{◌≡◌, ◌-◌, ◌<◌, suc, [], None, sym, ap, subst, ◌∙◌, arith}
use Rattle.std.specs.Prelude.{unwrap_or}
use Rattle.file_tree.specs.Entries.{way_of}
use Rattle.file_tree.proofs.Changes.{directories-within, is_some}
use Rattle.file_tree.proofs.LeastNames.{unwrapped, none-is, no-spot-within, removed_directory}
use Rattle.file_tree.proofs.Spelled.{names-set}
use Rattle.file_tree.proofs.tree.Tree.remove_dir.Goals as goal

pub index_mut-requires : goal.index_mut-requires
index_mut-requires c =
    let number : c.args.directory.0 ≡ suc (c.args.directory.0 - 1) = omega (arith, c.requires.below_root) in
    subst (λ n. c.args.directory.0 - 1 < n) (sym c.self.inside.directories.ok.0)
    (directories-within _ _ _ c.self.view_is (c.args.directory.0 - 1) (is_some (ap (way_of c.args.self.now) (sym number) ∙ unwrapped (way_of c.args.self.now c.args.directory.0) c.requires.in_use)))

pub invariant_of-self : goal.invariant_of-self
invariant_of-self c =
    let number : c.args.directory.0 ≡ suc (c.args.directory.0 - 1) = omega (arith, c.requires.below_root) in
    let empty = no-spot-within c.args.self.now (unwrap_or (way_of c.args.self.now c.args.directory.0) []) c.next_entry.result (none-is c.next_entry.result (sym c.is_some.ensures ∙ c.if-is_some.false)) c.next_entry.ensures in
    record {
      sound = (removed_directory c.self.inside.files.items c.self.inside.directories.items c.args.self.now c.self.view_is c.self.invariant.sound c.args.directory.0 (c.args.directory.0 - 1) number
          (unwrap_or (way_of c.args.self.now c.args.directory.0) []) (unwrapped (way_of c.args.self.now c.args.directory.0) c.requires.in_use) empty).sound;
      file_names = c.self.invariant.file_names;
      directory_names = names-set c.self.inside.directories.items (c.args.directory.0 - 1) None c.self.invariant.directory_names tt;
    }

pub returns-clause-removed : goal.returns-clause-removed
returns-clause-removed c =
    let number : c.args.directory.0 ≡ suc (c.args.directory.0 - 1) = omega (arith, c.requires.below_root) in
    let empty = no-spot-within c.args.self.now (unwrap_or (way_of c.args.self.now c.args.directory.0) []) c.next_entry.result (none-is c.next_entry.result (sym c.is_some.ensures ∙ c.if-is_some.false)) c.next_entry.ensures in (
      empty,
      (removed_directory c.self.inside.files.items c.self.inside.directories.items c.args.self.now c.self.view_is c.self.invariant.sound c.args.directory.0 (c.args.directory.0 - 1) number
          (unwrap_or (way_of c.args.self.now c.args.directory.0) []) (unwrapped (way_of c.args.self.now c.args.directory.0) c.requires.in_use) empty).is,
    )
