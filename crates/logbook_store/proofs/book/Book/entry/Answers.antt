use Rattle.std.proofs.Common.{◌≡◌, ◌+◌, ◌-◌, ◌<◌, ◌≤◌, ℕ, List, Some, length, sym, ◌∙◌, ap, arith}
use Rattle.apex_model.specs.Durable.{StoredLogbook}
use Rattle.apex_types.specs.declared.replies.EntryState.TheVariants.{Complete}
use Rattle.apex_types.specs.declared.replies.Values.TheVariants.{Entry}
use Rattle.logbook_store.specs.Regions.{region_at}
use Rattle.logbook_store.proofs.Entries.{some_at, entry_logged}
use Rattle.logbook_store.proofs.Spelled.{spelled, logged_entry}
use Rattle.logbook_store.proofs.book.Book.entry.Goals as goal

pub returns-clause-entry : goal.returns-clause-entry
returns-clause-entry g c b tells stands =
    let book = c.args.self.now in
    let number = c.args.number in
    let view = (g.R.Rig.state c.args.rig.now).view in
    let stored : StoredLogbook = record { life = b.life; logged = b.logged } in
    let pending : c.count-pending.result ≡ length b.in_progress = c.count-pending.ensures.value ∙ ap length stands.in_progress in
    let more : length b.in_progress < number = omega (arith, pending, c.if-number-pending.false) in
    let few : number ≤ length b.in_progress + length b.logged = omega (arith, c.requires.last, ap length stands.in_progress, stands.logged) in
    let i = length b.logged - (number - length b.in_progress) in
    let low : i < length b.logged = omega (arith, more, few) in
    let there = some_at b.logged i low in
    let entry = logged_entry book.row (region_at book.row book.start view) stored (spelled book.row (region_at book.row book.start view) stored stands.region)
    i (book.life - (number - c.count-pending.result - 1)) low (omega (arith, more, few, pending, stands.life, stands.logged, book.lived)) there.0 there.1 in
    entry_logged b number there.0 more few there.1
    ∙ ap (λ (bytes : List ℕ). Some (Entry Complete bytes)) (sym (c.in_ok-bytes.ensures.bytes entry.0 tells entry.1 ∙ entry.2))
