use Rattle.std.proofs.Common.{◌≡◌, ◌+◌, length, sym, ap, ◌∙◌, length-set, arith}
use Rattle.std.specs.Prelude.{option_map}
use Rattle.apex_model.specs.Fields.{entry_of_bytes}
use Rattle.apex_model.specs.Image.{entry_bytes}
use Rattle.file_tree.specs.Bodies.{entry_by, entries_in}
use Rattle.file_tree.specs.Images.{named, named_entry}
use Rattle.file_tree.proofs.ReadBodies.{mapped-none, answers-none, answers-all, read-next}
use Rattle.file_tree.proofs.Spelled.{names-next, names-all}
use Rattle.file_tree.proofs.bodies.read_entries.Goals as goal

pub returns-in_default-clause-entries : goal.returns-in_default-clause-entries
returns-in_default-clause-entries c =
    answers-none (λ k. entry_by c.args.kind (entry_of_bytes c.args.version (entry_bytes c.args.body.now k))) c.args.start (length c.args.entries.now) c.loop-k.k (search arith)
    (mapped-none (option_map named_entry) (entry_by c.args.kind (entry_of_bytes c.args.version (entry_bytes c.args.body.now (c.args.start + c.loop-k.k)))) (sym c.in_default.ensures.entry))

pub loop-k-preserved : goal.loop-k-preserved
loop-k-preserved c = (
  length-set c.loop-k.entries c.loop-k.k c.in-Some.entry ∙ c.loop-k.invariant.0,
  read-next (λ j. option_map (option_map named_entry) (entry_by c.args.kind (entry_of_bytes c.args.version (entry_bytes c.args.body.now (c.args.start + j))))) c.loop-k.entries c.loop-k.k c.in-Some.entry
      (search arith) c.loop-k.invariant.1 (sym c.in-Some.ensures.entry),
  names-next c.loop-k.entries c.loop-k.k c.in-Some.entry (search arith) c.loop-k.invariant.2 c.in-Some.ensures.name,
)

pub returns-clause-entries : goal.returns-clause-entries
returns-clause-entries c =
    let last : c.loop-k.k ≡ length c.loop-k.entries = search arith in
    ap (λ n. option_map named (entries_in c.args.kind c.args.version c.args.body.now c.args.start n)) (sym c.loop-k.invariant.0)
    ∙ answers-all (option_map named_entry) (λ k. entry_by c.args.kind (entry_of_bytes c.args.version (entry_bytes c.args.body.now k))) c.args.start c.loop-k.entries
    (λ j less. c.loop-k.invariant.1 j (omega (arith, less, last)))

pub returns-clause-names : goal.returns-clause-names
returns-clause-names c =
    let last : c.loop-k.k ≡ length c.loop-k.entries = search arith in
    names-all c.loop-k.entries (λ j less. c.loop-k.invariant.2 j (omega (arith, less, last)))
