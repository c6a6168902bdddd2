use Rattle.std.proofs.Common.{◌≡◌, None, rules}
use Rattle.toml.specs.Parse.{parse_document}
use Rattle.toml.specs.View.{table_view}
use Rattle.config_table.proofs.Texts.{too_long, not_text, not_toml, table_is}
use Rattle.config_table.proofs.table.read_text.Goals as goal

pub returns-then-bytes-gt65536 : goal.returns-then-bytes-gt65536
returns-then-bytes-gt65536 c = too_long c.args.bytes.now c.if-bytes-gt65536.true

pub returns-in-Err : goal.returns-in-Err
returns-in-Err c = not_text c.args.bytes.now c.if-bytes-gt65536.false c.in-Err.ensures.cases.0

pub returns-in-Err-table_from_str : goal.returns-in-Err-table_from_str
returns-in-Err-table_from_str c =
    let none : parse_document c.in-Ok.text.now ≡ None = search (rules, c.in-Err-table_from_str.ensures.refused, c.if-is_memory.false, c.is_memory.ensures) in
    not_toml c.args.bytes.now c.in-Ok.text.now c.if-bytes-gt65536.false c.in-Ok.ensures.cases.0 c.in-Ok.ensures.cases.1 none

pub returns : goal.returns
returns c =
    let d = table_is c.args.bytes.now c.in-Ok.text.now (table_view c.in-Ok-table_from_str.top) c.if-bytes-gt65536.false c.in-Ok.ensures.cases.0 c.in-Ok.ensures.cases.1 c.in-Ok-table_from_str.ensures.ok in
    rw d c.table_from.ensures
