use Rattle.std.proofs.Common.{◌∙◌}
use Rattle.table_model.specs.Table.{has_repeats, rows_from, table_of_rows}
use Rattle.table_model.specs.Reading.{or_error}
use Rattle.table_model.specs.declared.errors.TableError.TheVariants.{UnknownName}
use Rattle.config_table.specs.WrittenRows.{written_view}
use Rattle.config_table.proofs.Both.{exactly}
use Rattle.config_table.proofs.RowLaws.{fails_still, ok_same}
use Rattle.config_table.proofs.Texts.{repeated, not_repeated}
use Rattle.config_table.proofs.table.table_of_written.Goals as goal

pub returns-then-repeats : goal.returns-then-repeats
returns-then-repeats c =
    let e = ok_same (has_repeats (written_view c.args.rows.now)) c.in_ok-repeats.repeats c.in_ok-repeats.ensures in
    repeated (written_view c.args.rows.now) (e ∙ c.if-repeats.true)

pub returns-in-Err : goal.returns-in-Err
returns-in-Err c =
    let e = ok_same (has_repeats (written_view c.args.rows.now)) c.in_ok-repeats.repeats c.in_ok-repeats.ensures in
    rw (not_repeated (written_view c.args.rows.now) (e ∙ c.if-repeats.false))
    (fails_still c.in-Err.error (or_error UnknownName (rows_from (written_view c.args.rows.now))) table_of_rows c.in-Err.ensures)

pub returns-in-Ok : goal.returns-in-Ok
returns-in-Ok c =
    let e = ok_same (has_repeats (written_view c.args.rows.now)) c.in_ok-repeats.repeats c.in_ok-repeats.ensures in
    rw (not_repeated (written_view c.args.rows.now) (e ∙ c.if-repeats.false), c.in-Ok.ensures)
    (exactly c.fitting.result (table_of_rows c.in-Ok.table) c.fitting.ensures)
