-- The next gate stands in the logbook's region, behind its headers.
use Rattle.std.proofs.Common.{◌+◌, ◌*◌, ◌≤◌, arith}
use Rattle.apex_model.specs.Layout.{logbook_blocks}
use Rattle.logbook_store.specs.Books.{row_of, start_of}
use Rattle.logbook_store.specs.Moves.{next_gate_of}
use Rattle.logbook_store.specs.declared.book.Book.{Book}
use Rattle.logbook_store.proofs.Found.{place_low}

pub gate_within : (book : Book) → next_gate_of book + 1024 ≤ start_of book + 512 * logbook_blocks (row_of book)
gate_within book = let low = place_low (book.life + 1) book.row.logged in omega (arith, low)
