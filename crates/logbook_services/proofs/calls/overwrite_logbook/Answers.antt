use Rattle.std.proofs.Common.{refl}
use Rattle.apex_types.specs.declared.replies.Values.TheVariants.{Empty}
use Rattle.apex_model.specs.Logbooks.{LogbookSystem, appended, overwritten, book_in, with_book}
use Rattle.logbook_services.proofs.Served.{refused-answered, accepted-answered}
use Rattle.logbook_services.proofs.Services.{overwrite-none, overwrite-full, overwrite-done}
use Rattle.logbook_services.proofs.calls.overwrite_logbook.Goals as goal

pub returns-in-Err : goal.returns-in-Err
returns-in-Err c =
    refused-answered c.args.table.now _ c.args.logs.now c.args.made.now c.refused.result c.in-Err.code
    (λ image system stands. overwrite-none c.args.table.now c.args.logs.now c.args.made.now c.args.p.0 c.args.id c.args.bytes.now image system stands c.in-Err.code c.in-Err.ensures) c.refused.ensures

pub returns-then-has_room : goal.returns-then-has_room
returns-then-has_room c =
    let after : LogbookSystem → LogbookSystem = λ system. with_book system c.in-Ok.found.0 (appended (book_in system c.in-Ok.found.0) c.args.bytes.now) in
    accepted-answered c.args.table.now _ c.args.logs.now c.args.made.now c.add.new.self c.args.made.now c.success.result after Empty
    (λ image system stands. overwrite-done c.args.table.now c.args.logs.now c.args.made.now c.args.p.0 c.args.id c.args.bytes.now image system stands c.in-Ok.found.0 c.in-Ok.found.1 c.in-Ok.ensures c.if-has_room.true)
    (λ image system stands. record { stored = c.add.ensures.appended image system.books stands.stored; marks = stands.marks }) c.add.ensures.sites refl c.success.ensures

pub returns : goal.returns
returns c =
    let after : LogbookSystem → LogbookSystem = λ system. with_book system c.in-Ok.found.0 (overwritten (book_in system c.in-Ok.found.0) c.args.bytes.now) in
    accepted-answered c.args.table.now _ c.args.logs.now c.args.made.now c.replace_newest.new.self c.args.made.now c.success-2.result after Empty
    (λ image system stands. overwrite-full c.args.table.now c.args.logs.now c.args.made.now c.args.p.0 c.args.id c.args.bytes.now image system stands c.in-Ok.found.0 c.in-Ok.found.1 c.in-Ok.ensures c.if-has_room.false)
    (λ image system stands. record { stored = c.replace_newest.ensures.overwritten image system.books stands.stored; marks = stands.marks }) c.replace_newest.ensures.sites refl c.success-2.ensures
