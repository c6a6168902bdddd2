use Rattle.std.proofs.Common.{refl}
use Rattle.apex_types.specs.declared.codes.ReturnCode.TheVariants.{NotAvailable}
use Rattle.apex_types.specs.declared.replies.Values.TheVariants.{Empty}
use Rattle.apex_model.specs.Logbooks.{LogbookSystem, appended, book_in, with_book}
use Rattle.logbook_services.proofs.Served.{refused-answered, accepted-answered}
use Rattle.logbook_services.proofs.Services.{write-none, write-full, write-done}
use Rattle.logbook_services.proofs.calls.write_logbook.Goals as goal

pub returns-in-Err : goal.returns-in-Err
returns-in-Err c =
    refused-answered c.args.table.now _ c.args.logs.now c.args.made.now c.refused.result c.in-Err.code
    (λ image system stands. write-none c.args.table.now c.args.logs.now c.args.made.now c.args.p.0 c.args.id c.args.bytes.now image system stands c.in-Err.code c.in-Err.ensures) c.refused.ensures

pub returns-then-not-has_room : goal.returns-then-not-has_room
returns-then-not-has_room c =
    refused-answered c.args.table.now _ c.args.logs.now c.args.made.now c.refused-then-not-has_room.result NotAvailable
    (λ image system stands. write-full c.args.table.now c.args.logs.now c.args.made.now c.args.p.0 c.args.id c.args.bytes.now image system stands c.in-Ok.found.0 c.in-Ok.found.1 c.in-Ok.ensures c.if-not-has_room.true)
    c.refused-then-not-has_room.ensures

pub returns : goal.returns
returns c =
    let after : LogbookSystem → LogbookSystem = λ system. with_book system c.in-Ok.found.0 (appended (book_in system c.in-Ok.found.0) c.args.bytes.now) in
    accepted-answered c.args.table.now _ c.args.logs.now c.args.made.now c.add.new.self c.args.made.now c.success.result after Empty
    (λ image system stands. write-done c.args.table.now c.args.logs.now c.args.made.now c.args.p.0 c.args.id c.args.bytes.now image system stands c.in-Ok.found.0 c.in-Ok.found.1 c.in-Ok.ensures c.if-not-has_room.false)
    (λ image system stands. record { stored = c.add.ensures.appended image system.books stands.stored; marks = stands.marks }) c.add.ensures.sites refl c.success.ensures
