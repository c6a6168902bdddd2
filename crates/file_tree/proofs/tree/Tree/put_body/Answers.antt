use Rattle.std.proofs.Common.{◌≡◌, ◌<◌, ◌≤◌, ℕ, ◌+◌, ◌*◌, List, length, take, drop, set, Option, Some, subst, sym, ap, ◌∙◌, arith}
use Rattle.std.proofs.lemmas.List.{take-take}
use Rattle.apex_model.specs.Fields.{header_of}
use Rattle.file_tree.specs.declared.entries.Entry.{Entry}
use Rattle.file_tree.specs.declared.kind.Kind.TheVariants.{File, Directory}
use Rattle.file_tree.specs.Bodies.{tree_in_body}
use Rattle.file_tree.specs.Checks.{kept}
use Rattle.file_tree.specs.Entries.{slot}
use Rattle.file_tree.proofs.PutBodies.{file-count, directory-count, header-there, files-there, directories-there, read_at, tree-put}
use Rattle.file_tree.proofs.Written.{drop-later}
use Rattle.file_tree.proofs.tree.Tree.put_body.Goals as goal

pub put_entries-requires : goal.put_entries-requires
put_entries-requires c =
    let n = file-count c.self.inside.files.items c.self.inside.directories.items c.args.self.now c.self.view_is in
    let same : length c.deref.result.now ≡ length c.self.inside.files.items = ap length c.deref.ensures.value in
    let long : length c.put_header.new.body ≡ length c.args.body.now = search arith in
    omega (arith, n, same, long, c.requires)

pub put_entries-requires-2 : goal.put_entries-requires-2
put_entries-requires-2 c =
    let n = file-count c.self.inside.files.items c.self.inside.directories.items c.args.self.now c.self.view_is in
    let m = directory-count c.self.inside.files.items c.self.inside.directories.items c.args.self.now c.self.view_is in
    let files : c.len.result ≡ length c.self.inside.files.items = c.len.ensures ∙ sym c.deref.ensures.len ∙ ap length c.deref.ensures.value in
    let directories : length c.deref-2.result.now ≡ length c.self.inside.directories.items = ap length c.deref-2.ensures.value in
    let long : length c.put_entries.new.body ≡ length c.args.body.now = search arith in
    omega (arith, n, m, files, directories, long, c.requires)

module _ (c : goal.After-slice_known-4-1) where
  many-files : c.len.result ≡ length c.self.inside.files.items
  many-files = c.len.ensures ∙ sym c.deref.ensures.len ∙ ap length c.deref.ensures.value

  -- what is in front of the directories' entries stays
  front : take (64 + 128 * length c.self.inside.files.items) c.put_entries-2.new.body ≡ take (64 + 128 * length c.self.inside.files.items) c.put_entries.new.body
  front = subst (λ n. take (64 + 128 * n) c.put_entries-2.new.body ≡ take (64 + 128 * n) c.put_entries.new.body) many-files c.put_entries-2.ensures.front

  header : (sequence : ℕ) → sequence ≤ 2 → header_of (take 64 (set c.put_entries-2.new.body 0 sequence)) ≡ Some (sequence, 2)
  header sequence few =
      let n : ℕ = 64 + 128 * length c.self.inside.files.items in
      header-there c.put_entries-2.new.body c.put_header.new.body sequence
      (sym (take-take 64 n c.put_entries-2.new.body (omega arith)) ∙ ap (take 64) front ∙ take-take 64 n c.put_entries.new.body (omega arith) ∙ c.put_entries.ensures.front)
      (c.put_header.ensures.header sequence few)

  tree : (sequence : ℕ) → sequence ≤ 2 → tree_in_body (length c.args.self.now.files) (length c.args.self.now.directories) (set c.put_entries-2.new.body 0 sequence) ≡ Some c.args.self.now
  tree sequence few =
      let files = c.self.inside.files.items in
      let directories = c.self.inside.directories.items in
      tree-put files directories c.args.self.now (set c.put_entries-2.new.body 0 sequence) sequence c.self.view_is c.self.invariant.sound (header sequence few)
      (files-there c.put_entries.new.body c.put_entries-2.new.body files sequence
      (subst (λ (xs : List (Option Entry)). (k : ℕ) → k < length xs → read_at File c.put_entries.new.body (0 + k) ≡ Some (kept File (slot xs k))) c.deref.ensures.value c.put_entries.ensures.entries) front)
      (directories-there c.put_entries-2.new.body (length files) directories sequence
      (subst (λ (xs : List (Option Entry)). (k : ℕ) → k < length xs → read_at Directory c.put_entries-2.new.body (length files + k) ≡ Some (kept Directory (slot xs k))) c.deref-2.ensures.value
      (subst (λ n. (k : ℕ) → k < length c.deref-2.result.now → read_at Directory c.put_entries-2.new.body (n + k) ≡ Some (kept Directory (slot c.deref-2.result.now k))) many-files c.put_entries-2.ensures.entries)))

  behind : drop (64 + 128 * (length c.args.self.now.files + length c.args.self.now.directories)) c.put_entries-2.new.body ≡ drop (64 + 128 * (length c.args.self.now.files + length c.args.self.now.directories)) c.args.body.now
  behind =
      let n = file-count c.self.inside.files.items c.self.inside.directories.items c.args.self.now c.self.view_is in
      let m = directory-count c.self.inside.files.items c.self.inside.directories.items c.args.self.now c.self.view_is in
      let files : length c.deref.result.now ≡ length c.self.inside.files.items = ap length c.deref.ensures.value in
      let directories : length c.deref-2.result.now ≡ length c.self.inside.directories.items = ap length c.deref-2.ensures.value in
      let end : ℕ = 64 + 128 * (length c.args.self.now.files + length c.args.self.now.directories) in
      let many : c.len.result ≡ length c.self.inside.files.items = many-files in
      drop-later (64 + 128 * (c.len.result + length c.deref-2.result.now)) end c.put_entries-2.new.body c.put_entries.new.body (omega (arith, n, m, many, directories)) c.put_entries-2.ensures.behind
      ∙ drop-later (64 + 128 * (0 + length c.deref.result.now)) end c.put_entries.new.body c.put_header.new.body (omega (arith, n, files)) c.put_entries.ensures.behind
      ∙ drop-later 64 end c.put_header.new.body c.args.body.now (omega arith) c.put_header.ensures.behind

pub returns-clause-header : goal.returns-clause-header
returns-clause-header c = header c

pub returns-clause-tree : goal.returns-clause-tree
returns-clause-tree c = tree c

pub returns-clause-behind : goal.returns-clause-behind
returns-clause-behind c = behind c
