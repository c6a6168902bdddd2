use Rattle.std.proofs.Common.{◌≡◌, List, Some, option_map, length, refl, sym, ◌∙◌, ap, subst, arith}
use Rattle.std.specs.Prelude.{slice_get, slice_index_or}
use Rattle.std.proofs.lemmas.Option.{slice_get_read, slice_get-map}
use Rattle.apex_model.specs.Logbooks.{Logbook, empty_book}
use Rattle.logbook_store.specs.Books.{Stands}
use Rattle.logbook_store.specs.Logs.{site_of, sites_of, StandFor}
use Rattle.logbook_store.specs.declared.book.Book.{Book}
use Rattle.logbook_store.proofs.Zips.{zip_at}
use Rattle.logbook_store.proofs.logs.Logs.entry.Goals as goal

pub entry-requires-clause-fits : goal.entry-requires-clause-fits
entry-requires-clause-fits g c =
    let books = c.self.inside.books.items in
    let is : books ≡ c.args.self.now = c.self.view_is in
    let book = c.index.result.now in
    let there : slice_get books c.args.logbook ≡ Some book = slice_get_read books (length books) c.args.logbook book refl (omega (arith, c.requires.logbook, ap length is)) c.index.ensures in
    let at : slice_get (sites_of c.args.self.now) c.args.logbook ≡ Some (site_of book) =
    ap (λ (bs : List Book). slice_get (sites_of bs) c.args.logbook) (sym is) ∙ slice_get-map site_of books c.args.logbook ∙ ap (option_map site_of) there in
    c.requires.fits.fit c.args.logbook (site_of book) at

pub returns-clause-entry : goal.returns-clause-entry
returns-clause-entry g c logbooks tells stand =
    let books = c.self.inside.books.items in
    let is : books ≡ c.args.self.now = c.self.view_is in
    let book = c.index.result.now in
    let image = (g.R.Rig.state c.args.rig.now).view in
    let there : slice_get books c.args.logbook ≡ Some book = slice_get_read books (length books) c.args.logbook book refl (omega (arith, c.requires.logbook, ap length is)) c.index.ensures in
    let before : StandFor books image logbooks = subst (λ (bs : List Book). StandFor bs image logbooks) (sym is) stand in
    let P : Book → Logbook → Type 0 = λ a b. Stands a image b in
    c.entry.ensures.entry (slice_index_or logbooks c.args.logbook empty_book) tells (zip_at P books logbooks c.args.logbook book empty_book before there)
