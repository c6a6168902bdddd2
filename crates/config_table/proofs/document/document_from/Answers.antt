use Rattle.std.proofs.Common.{rules, ◌≡◌, true, false, refl}
use Rattle.toml.specs.View.{table_view}
use Rattle.table_model.specs.Document.{has_only}
use Rattle.table_model.specs.Reading.{section_names, and_also, written_of}
use Rattle.config_table.specs.WrittenRows.{written_view, named_view, others_view, rows_of}
use Rattle.config_table.proofs.Both.{both_give}
use Rattle.config_table.proofs.RowLaws.{document_is, document_refused, made_gives}
use Rattle.config_table.proofs.document.document_from.Goals as goal

pub returns-then-not-has_only-clause-value : goal.returns-then-not-has_only-clause-value
returns-then-not-has_only-clause-value c =
    let other : has_only section_names (table_view c.args.top.now) ≡ false = search (rules, c.has_only.ensures, c.if-not-has_only.true) in
    document_refused (table_view c.args.top.now) other

pub returns-clause-value : goal.returns-clause-value
returns-clause-value c =
    let known : has_only section_names (table_view c.args.top.now) ≡ true = search (rules, c.has_only.ensures, c.if-not-has_only.false) in
    let both = both_give named_view others_view c.named_rows-named.result c.other_rows-others.result _ _ c.named_rows-named.ensures.value c.other_rows-others.ensures in
    rw (c.rows_of.ensures, document_is (table_view c.args.top.now) known)
    (made_gives (λ x. (named_view x.0, others_view x.1)) written_view rows_of written_of (and_also c.named_rows-named.result c.other_rows-others.result) _ (λ x. refl) both)
