use Rattle.std.proofs.Common.{◌≡◌, Some, length, refl, sym, ◌∙◌, ap, subst, arith}
use Rattle.std.specs.Prelude.{slice_get}
use Rattle.std.proofs.lemmas.Option.{slice_get_read}
use Rattle.logbook_store.specs.Books.{row_of, start_of}
use Rattle.logbook_store.specs.Moves.{HasMoved}
use Rattle.logbook_store.specs.declared.book.Book.{Book}
use Rattle.logbook_store.proofs.Joined.{moved_all_of, moved_one}
use Rattle.logbook_store.proofs.Zips.{same_site}
use Rattle.logbook_store.proofs.logs.take_all_moved.Goals as goal

pub loop-k-preserved : goal.loop-k-preserved
loop-k-preserved c =
    let books = c.loop-k.books in
    let k = c.loop-k.k in
    let book = c.index-books-k.result in
    let there : slice_get books k ≡ Some book = slice_get_read books (length books) k book refl (omega (arith, c.loop-k-test.true, c.loop-k.auto.books)) c.index-books-k.is in
    let moved = c.take_moved.new.self in
    let changed : HasMoved book moved = subst (λ (b : Book). HasMoved b moved) (sym c.index-books-k.is) c.take_moved.ensures.moved in
    moved_one k c.args.books.now books book moved c.loop-k.invariant there
    (same_site moved book (c.take_moved.ensures.place.0 ∙ ap row_of (sym c.index-books-k.is)) (c.take_moved.ensures.place.1 ∙ ap start_of (sym c.index-books-k.is))) changed

pub returns-clause-moved : goal.returns-clause-moved
returns-clause-moved c = moved_all_of c.loop-k.k c.args.books.now c.loop-k.books c.loop-k-test.false c.loop-k.invariant
