use Rattle.std.proofs.Common.{◌≡◌, List, Some, length, refl, sym, ◌∙◌, ap, subst, arith}
use Rattle.std.specs.Prelude.{slice_get, slice_index_or}
use Rattle.std.proofs.lemmas.Option.{slice_get_read}
use Rattle.apex_model.specs.Logbooks.{Logbook, empty_book}
use Rattle.logbook_store.specs.Books.{Stands}
use Rattle.logbook_store.specs.Logs.{sites_of, StandFor}
use Rattle.logbook_store.specs.declared.book.Book.{Book}
use Rattle.logbook_store.proofs.Zips.{zip_at, zip_set, sites_set, same_site}
use Rattle.logbook_store.proofs.logs.Logs.add.Goals as goal

pub returns-clause-sites : goal.returns-clause-sites
returns-clause-sites c =
    let books = c.self.inside.books.items in
    let is : books ≡ c.args.self.now = c.self.view_is in
    let book = c.index_mut.result.now in
    let there : slice_get books c.args.logbook ≡ Some book = slice_get_read books (length books) c.args.logbook book refl (omega (arith, c.requires.logbook, ap length is)) c.index_mut.ensures.value in
    sites_set books c.args.logbook book c.add.new.self there (same_site c.add.new.self book c.add.ensures.place.0 c.add.ensures.place.1) ∙ ap sites_of is

pub returns-clause-appended : goal.returns-clause-appended
returns-clause-appended c image logbooks stand =
    let books = c.self.inside.books.items in
    let is : books ≡ c.args.self.now = c.self.view_is in
    let book = c.index_mut.result.now in
    let there : slice_get books c.args.logbook ≡ Some book = slice_get_read books (length books) c.args.logbook book refl (omega (arith, c.requires.logbook, ap length is)) c.index_mut.ensures.value in
    let before : StandFor books image logbooks = subst (λ (bs : List Book). StandFor bs image logbooks) (sym is) stand in
    let P : Book → Logbook → Type 0 = λ a b. Stands a image b in
    zip_set P books logbooks c.args.logbook c.add.new.self _ before
    (c.add.ensures.appended image (slice_index_or logbooks c.args.logbook empty_book) (zip_at P books logbooks c.args.logbook book empty_book before there))
