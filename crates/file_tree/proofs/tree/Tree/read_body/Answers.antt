use Rattle.std.proofs.Common.{◌≡◌, ◌≤◌, List, length, replicate, Option, Some, None, subst, sym, ap, ◌∙◌, arith, refl}
use Rattle.std.specs.Vec.{with_items}
use Rattle.std.proofs.lemmas.List.{with_items_is, length-replicate}
use Rattle.file_tree.specs.declared.entries.Entry.{Entry}
use Rattle.file_tree.specs.Bodies.{tree_in_body}
use Rattle.file_tree.specs.Entries.{TreeValue}
use Rattle.file_tree.specs.Table.{value_of, AreKept}
use Rattle.file_tree.proofs.Changes.{nothing_stands}
use Rattle.file_tree.proofs.PutBodies.{file-count, directory-count}
use Rattle.file_tree.proofs.Spelled.{names-none}
use Rattle.file_tree.proofs.tree.Tree.read_body.Goals as goal

pub read_tables-requires-clause-long : goal.read_tables-requires-clause-long
read_tables-requires-clause-long c =
    let n = file-count c.self.inside.files.items c.self.inside.directories.items c.args.self.now c.self.view_is in
    let m = directory-count c.self.inside.files.items c.self.inside.directories.items c.args.self.now c.self.view_is in
    let files : length c.deref_mut.result.now ≡ length c.self.inside.files.items = ap length c.deref_mut.ensures.value in
    let directories : length c.deref_mut-2.result.now ≡ length c.self.inside.directories.items = ap length c.deref_mut-2.ensures.value in
    omega (arith, n, m, files, directories, c.requires)

pub returns-then-read_tables-clause-tree : goal.returns-then-read_tables-clause-tree
returns-then-read_tables-clause-tree c =
    let n = file-count c.self.inside.files.items c.self.inside.directories.items c.args.self.now c.self.view_is in
    let m = directory-count c.self.inside.files.items c.self.inside.directories.items c.args.self.now c.self.view_is in
    (λ i. tree_in_body ((n ∙ ap length (sym c.deref_mut.ensures.value)) i) ((m ∙ ap length (sym c.deref_mut-2.ensures.value)) i) c.args.body.now)
    ∙ c.if-read_tables.ensures.tree
    ∙ (λ i. Some (value_of (sym (with_items_is c.self.inside.files c.read_tables.new.files (search arith)) i) (sym (with_items_is c.self.inside.directories c.read_tables.new.directories (search arith)) i)))

module _ (c : goal.After-self-4-1) where
  few-files : length c.args.self.now.files ≤ 255
  few-files = subst (λ n. n ≤ 255) (sym (file-count c.self.inside.files.items c.self.inside.directories.items c.args.self.now c.self.view_is)) c.self.invariant.sound.few_files

  few-directories : length c.args.self.now.directories ≤ 255
  few-directories = subst (λ n. n ≤ 255) (sym (directory-count c.self.inside.files.items c.self.inside.directories.items c.args.self.now c.self.view_is)) c.self.invariant.sound.few_directories

  files-clear : (with_items (with_items c.self.inside.files c.read_tables.new.files) c.clear.new.entries).items ≡ replicate (length c.args.self.now.files) None
  files-clear =
      let long : length c.deref_mut-3.result.now ≡ c.self.inside.files.len = c.deref_mut-3.ensures.len in
      let same : length c.deref_mut-3.result.now ≡ length c.args.self.now.files
      = long ∙ c.self.inside.files.ok.0 ∙ sym (file-count c.self.inside.files.items c.self.inside.directories.items c.args.self.now c.self.view_is) in
      let made : length c.clear.new.entries ≡ c.self.inside.files.len = ap length c.clear.ensures ∙ length-replicate (length c.deref_mut-3.result.now) None ∙ long in
      with_items_is (with_items c.self.inside.files c.read_tables.new.files) c.clear.new.entries made ∙ c.clear.ensures ∙ ap (λ n. replicate n None) same

  directories-clear : (with_items (with_items c.self.inside.directories c.read_tables.new.directories) c.clear-2.new.entries).items ≡ replicate (length c.args.self.now.directories) None
  directories-clear =
      let long : length c.deref_mut-4.result.now ≡ c.self.inside.directories.len = c.deref_mut-4.ensures.len in
      let same : length c.deref_mut-4.result.now ≡ length c.args.self.now.directories
      = long ∙ c.self.inside.directories.ok.0 ∙ sym (directory-count c.self.inside.files.items c.self.inside.directories.items c.args.self.now c.self.view_is) in
      let made : length c.clear-2.new.entries ≡ c.self.inside.directories.len = ap length c.clear-2.ensures ∙ length-replicate (length c.deref_mut-4.result.now) None ∙ long in
      with_items_is (with_items c.self.inside.directories c.read_tables.new.directories) c.clear-2.new.entries made ∙ c.clear-2.ensures ∙ ap (λ n. replicate n None) same

pub invariant_of-self-2 : goal.invariant_of-self-2
invariant_of-self-2 c =
    subst (λ (xs : List (Option Entry)). AreKept xs (with_items (with_items c.self.inside.directories c.read_tables.new.directories) c.clear-2.new.entries).items) (sym (files-clear c))
    (subst (λ (ys : List (Option Entry)). AreKept (replicate (length c.args.self.now.files) None) ys) (sym (directories-clear c))
    (record {
      sound = (nothing_stands (length c.args.self.now.files) (length c.args.self.now.directories) (few-files c) (few-directories c)).sound;
      file_names = names-none (length c.args.self.now.files);
      directory_names = names-none (length c.args.self.now.directories);
    }))

pub returns-clause-tree : goal.returns-clause-tree
returns-clause-tree c = (
  (let n = file-count c.self.inside.files.items c.self.inside.directories.items c.args.self.now c.self.view_is in
      let m = directory-count c.self.inside.files.items c.self.inside.directories.items c.args.self.now c.self.view_is in
      (λ i. tree_in_body ((n ∙ ap length (sym c.deref_mut.ensures.value)) i) ((m ∙ ap length (sym c.deref_mut-2.ensures.value)) i) c.args.body.now) ∙ c.if-read_tables.ensures.tree),
  (λ i. value_of (files-clear c i) (directories-clear c i)) ∙ (nothing_stands (length c.args.self.now.files) (length c.args.self.now.directories) (few-files c) (few-directories c)).is,
)

pub returns-then-read_tables-clause-files : goal.returns-then-read_tables-clause-files
returns-then-read_tables-clause-files c =
    let same : length c.read_tables.new.files ≡ length c.deref_mut.result.now = search arith in
    file-count (with_items c.self.inside.files c.read_tables.new.files).items (with_items c.self.inside.directories c.read_tables.new.directories).items _ refl
    ∙ ap length (with_items_is c.self.inside.files c.read_tables.new.files (search arith)) ∙ same ∙ ap length c.deref_mut.ensures.value
    ∙ sym (file-count c.self.inside.files.items c.self.inside.directories.items c.args.self.now c.self.view_is)

pub returns-then-read_tables-clause-directories : goal.returns-then-read_tables-clause-directories
returns-then-read_tables-clause-directories c =
    let same : length c.read_tables.new.directories ≡ length c.deref_mut-2.result.now = search arith in
    directory-count (with_items c.self.inside.files c.read_tables.new.files).items (with_items c.self.inside.directories c.read_tables.new.directories).items _ refl
    ∙ ap length (with_items_is c.self.inside.directories c.read_tables.new.directories (search arith)) ∙ same ∙ ap length c.deref_mut-2.ensures.value
    ∙ sym (directory-count c.self.inside.files.items c.self.inside.directories.items c.args.self.now c.self.view_is)

pub returns-clause-files : goal.returns-clause-files
returns-clause-files c =
    ap (λ (v : TreeValue). length v.files) ((λ i. value_of (files-clear c i) (directories-clear c i)) ∙ (nothing_stands (length c.args.self.now.files) (length c.args.self.now.directories) (few-files c) (few-directories c)).is)
    ∙ length-replicate (length c.args.self.now.files) None

pub returns-clause-directories : goal.returns-clause-directories
returns-clause-directories c =
    ap (λ (v : TreeValue). length v.directories) ((λ i. value_of (files-clear c i) (directories-clear c i)) ∙ (nothing_stands (length c.args.self.now.files) (length c.args.self.now.directories) (few-files c) (few-directories c)).is)
    ∙ length-replicate (length c.args.self.now.directories) None
