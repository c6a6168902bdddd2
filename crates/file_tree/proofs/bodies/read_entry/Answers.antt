use Rattle.std.proofs.Common.{sym, ap, ◌∙◌}
use Rattle.std.specs.Prelude.{option_map}
use Rattle.apex_model.specs.Fields.{entry_of_bytes}
use Rattle.file_tree.specs.Bodies.{entry_by}
use Rattle.file_tree.specs.Images.{named_entry}
use Rattle.file_tree.proofs.Written.{entry-range}
use Rattle.file_tree.proofs.bodies.read_entry.Goals as goal

pub returns-in_default-clause-entry : goal.returns-in_default-clause-entry
returns-in_default-clause-entry c = let field = c.in_default.ensures ∙ ap (entry_of_bytes c.args.version) (entry-range c.args.body.now c.args.k) in
    λ i. option_map (option_map named_entry) (entry_by c.args.kind (field i))

pub returns-in-File-clause-entry : goal.returns-in-File-clause-entry
returns-in-File-clause-entry c = let field = c.in-Some.ensures ∙ ap (entry_of_bytes c.args.version) (entry-range c.args.body.now c.args.k) in
    c.file_of.ensures.entry ∙ (λ i. option_map (option_map named_entry) (entry_by (sym c.in-File.is i) (field i)))

pub returns-in-Directory-clause-entry : goal.returns-in-Directory-clause-entry
returns-in-Directory-clause-entry c = let field = c.in-Some.ensures ∙ ap (entry_of_bytes c.args.version) (entry-range c.args.body.now c.args.k) in
    c.directory_of.ensures.entry ∙ (λ i. option_map (option_map named_entry) (entry_by (sym c.in-Directory.is i) (field i)))
