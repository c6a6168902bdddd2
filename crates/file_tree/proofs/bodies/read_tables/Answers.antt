use Rattle.std.proofs.Common.{◌≡◌, ℕ, length, Option, Some, None, sym, ap, ◌∙◌, subst, arith}
use Rattle.std.proofs.lemmas.List.{length-take-le}
use Rattle.std.specs.Prelude.{option_map, MatchBool}
use Rattle.file_tree.specs.declared.kind.Kind.TheVariants.{Directory}
use Rattle.file_tree.specs.Bodies.{entries_in, tree_by}
use Rattle.file_tree.specs.Images.{named}
use Rattle.file_tree.specs.Table.{value_of}
use Rattle.file_tree.proofs.ReadBodies.{no-files, no-directories, tree-tested}
use Rattle.file_tree.proofs.bodies.read_tables.Goals as goal

pub slice_bounds-body_header-end : goal.slice_bounds-body_header-end
slice_bounds-body_header-end c = sym (length-take-le 64 c.args.body.now (omega (arith, c.requires.long)))

pub body_header-requires : goal.body_header-requires
body_header-requires c = length-take-le 64 c.args.body.now (omega (arith, c.requires.long))

pub returns-then-not-read_entries-clause-tree : goal.returns-then-not-read_entries-clause-tree
returns-then-not-read_entries-clause-tree c =
    ap (λ (o : Option (ℕ × ℕ)). tree_by o (length c.args.files.now) (length c.args.directories.now) c.args.body.now) (sym c.in-Some.ensures)
    ∙ no-files c.in-Some.version (length c.args.files.now) (length c.args.directories.now) c.args.body.now c.if-not-read_entries.ensures.entries

pub returns-then-not-read_entries-2-clause-tree : goal.returns-then-not-read_entries-2-clause-tree
returns-then-not-read_entries-2-clause-tree c =
    let same : length c.read_entries.new.entries ≡ length c.args.files.now = search arith in
    ap (λ (o : Option (ℕ × ℕ)). tree_by o (length c.args.files.now) (length c.args.directories.now) c.args.body.now) (sym c.in-Some.ensures)
    ∙ no-directories c.in-Some.version (length c.args.files.now) (length c.args.directories.now) c.args.body.now
    (ap (λ n. entries_in Directory c.in-Some.version c.args.body.now n (length c.args.directories.now)) (sym same) ∙ c.if-not-read_entries-2.ensures.entries)

pub returns-clause-tree : goal.returns-clause-tree
returns-clause-tree c =
    let same : length c.read_entries.new.entries ≡ length c.args.files.now = search arith in
    let alike : length c.read_entries-2.new.entries ≡ length c.args.directories.now = search arith in
    subst (λ (o : Option (ℕ × ℕ)). MatchBool c.are_sound.result
    (tree_by o (length c.args.files.now) (length c.args.directories.now) c.args.body.now ≡ Some (value_of c.read_entries.new.entries c.read_entries-2.new.entries))
    (tree_by o (length c.args.files.now) (length c.args.directories.now) c.args.body.now ≡ None)) c.in-Some.ensures
    (tree-tested c.in-Some.version (length c.args.files.now) (length c.args.directories.now) c.args.body.now c.read_entries.new.entries c.read_entries-2.new.entries c.if-not-read_entries.ensures.entries
    (ap (λ n. option_map named (entries_in Directory c.in-Some.version c.args.body.now n (length c.args.directories.now))) (sym same) ∙ c.if-not-read_entries-2.ensures.entries)
    (omega (arith, same, c.requires.files)) (omega (arith, alike, c.requires.directories)) c.are_sound.result c.are_sound.ensures)
