use Rattle.std.proofs.Common.{◌≤◌, ◌∙◌, arith}
use Rattle.file_tree.specs.Table.{value_of}
use Rattle.file_tree.proofs.Changes.{nothing_stands}
use Rattle.file_tree.proofs.Spelled.{names-none}
use Rattle.file_tree.proofs.tree.Tree.new.Goals as goal

pub invariant_of-result : goal.invariant_of-result
invariant_of-result c =
    let few_files : c.args.files ≤ 255 = omega arith in
    let few_directories : c.args.directories ≤ 255 = omega arith in
    rw (c.in_ok-files.ensures, c.in_ok-directories.ensures) (record {
      sound = (nothing_stands c.args.files c.args.directories few_files few_directories).sound;
      file_names = names-none c.args.files;
      directory_names = names-none c.args.directories;
    })

pub returns : goal.returns
returns c =
    let few_files : c.args.files ≤ 255 = omega arith in
    let few_directories : c.args.directories ≤ 255 = omega arith in
    (λ i. value_of (c.in_ok-files.ensures i) (c.in_ok-directories.ensures i)) ∙ (nothing_stands c.args.files c.args.directories few_files few_directories).is
