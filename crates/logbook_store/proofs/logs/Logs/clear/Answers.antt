use Rattle.std.proofs.Common.{◌≡◌, ℕ, List, Some, length, refl, sym, ◌∙◌, ap, subst, arith}
use Rattle.std.specs.Prelude.{slice_get, slice_index_or}
use Rattle.std.proofs.lemmas.Option.{slice_get_read}
use Rattle.rig_core.proofs.Moments.{leaves_elsewhere_wider, elsewhere_wider}
use Rattle.rig_core.specs.Bytes.{SameElsewhere}
use Rattle.apex_model.specs.Logbooks.{Logbook, cleared, empty_book}
use Rattle.logbook_store.specs.Books.{Stands}
use Rattle.logbook_store.specs.Logs.{site_of, sites_of, StandFor}
use Rattle.logbook_store.specs.declared.book.Book.{Book}
use Rattle.logbook_store.proofs.Beside.{site_at, one_changes, leaves_one, others_same, stands_same, stand_set}
use Rattle.logbook_store.proofs.Zips.{zip_at, sites_set, same_site, on_ok}
use Rattle.logbook_store.proofs.logs.Logs.clear.Goals as goal

pub clear-requires-clause-fits : goal.clear-requires-clause-fits
clear-requires-clause-fits g c =
    let books = c.self.inside.books.items in
    let k = c.args.logbook in
    let is : books ≡ c.args.self.now = c.self.view_is in
    let book = c.index_mut.result.now in
    let there : slice_get books k ≡ Some book = slice_get_read books (length books) k book refl (omega (arith, c.requires.logbook, ap length is)) c.index_mut.ensures.value in
    let here : slice_get c.args.self.now k ≡ Some book = ap (λ (bs : List Book). slice_get bs k) (sym is) ∙ there in
    c.requires.laid_out.fit k (site_of book) (site_at c.args.self.now k book here)

pub clear-requires-clause-settled : goal.clear-requires-clause-settled
clear-requires-clause-settled g c =
    let books = c.self.inside.books.items in
    let k = c.args.logbook in
    let is : books ≡ c.args.self.now = c.self.view_is in
    let book = c.index_mut.result.now in
    let there : slice_get books k ≡ Some book = slice_get_read books (length books) k book refl (omega (arith, c.requires.logbook, ap length is)) c.index_mut.ensures.value in
    let here : slice_get c.args.self.now k ≡ Some book = ap (λ (bs : List Book). slice_get bs k) (sym is) ∙ there in
    c.requires.settled k (site_of book) (site_at c.args.self.now k book here)

pub clear-requires-clause-stands : goal.clear-requires-clause-stands
clear-requires-clause-stands g c tells =
    let books = c.self.inside.books.items in
    let k = c.args.logbook in
    let is : books ≡ c.args.self.now = c.self.view_is in
    let book = c.index_mut.result.now in
    let there : slice_get books k ≡ Some book = slice_get_read books (length books) k book refl (omega (arith, c.requires.logbook, ap length is)) c.index_mut.ensures.value in
    let here : slice_get c.args.self.now k ≡ Some book = ap (λ (bs : List Book). slice_get bs k) (sym is) ∙ there in
    let P : List ℕ → Book → Logbook → Type 0 = λ v a b. Stands a v b in
    let o = g.R.Rig.state c.args.rig.now in
    let all = c.requires.stand tells in
    (slice_index_or all.0 k empty_book, zip_at (P o.view) c.args.self.now all.0 k book empty_book all.1 here)

pub returns-clause-sites : goal.returns-clause-sites
returns-clause-sites g c =
    let books = c.self.inside.books.items in
    let k = c.args.logbook in
    let is : books ≡ c.args.self.now = c.self.view_is in
    let book = c.index_mut.result.now in
    let there : slice_get books k ≡ Some book = slice_get_read books (length books) k book refl (omega (arith, c.requires.logbook, ap length is)) c.index_mut.ensures.value in
    let here : slice_get c.args.self.now k ≡ Some book = ap (λ (bs : List Book). slice_get bs k) (sym is) ∙ there in
    sites_set books k book c.clear.new.self there (same_site c.clear.new.self book c.clear.ensures.place.0 c.clear.ensures.place.1) ∙ ap sites_of is

pub returns-clause-any_moment : goal.returns-clause-any_moment
returns-clause-any_moment g c logbooks tells stand =
    let books = c.self.inside.books.items in
    let k = c.args.logbook in
    let is : books ≡ c.args.self.now = c.self.view_is in
    let book = c.index_mut.result.now in
    let there : slice_get books k ≡ Some book = slice_get_read books (length books) k book refl (omega (arith, c.requires.logbook, ap length is)) c.index_mut.ensures.value in
    let here : slice_get c.args.self.now k ≡ Some book = ap (λ (bs : List Book). slice_get bs k) (sym is) ∙ there in
    let P : List ℕ → Book → Logbook → Type 0 = λ v a b. Stands a v b in
    let o = g.R.Rig.state c.args.rig.now in
    let e = g.R.Rig.state c.clear.new.rig in
    let new = cleared (slice_index_or logbooks k empty_book) in
    let stands = zip_at (P o.view) c.args.self.now logbooks k book empty_book stand here in
    leaves_one g.R.Rig.tells_view g.R.Rig.keeps_cuts c.args.self.now logbooks k book new o e (g.met.R.Rig.sound c.args.rig.now) tells here c.requires.laid_out c.requires.settled stand book.start 2048 (omega arith) (omega arith)
    (c.clear.ensures.any_moment (slice_index_or logbooks k empty_book) tells stands) c.clear.ensures.outside

pub returns-clause-outside : goal.returns-clause-outside
returns-clause-outside g c at n within =
    let books = c.self.inside.books.items in
    let k = c.args.logbook in
    let is : books ≡ c.args.self.now = c.self.view_is in
    let book = c.index_mut.result.now in
    let there : slice_get books k ≡ Some book = slice_get_read books (length books) k book refl (omega (arith, c.requires.logbook, ap length is)) c.index_mut.ensures.value in
    let here : slice_get c.args.self.now k ≡ Some book = ap (λ (bs : List Book). slice_get bs k) (sym is) ∙ there in
    let o = g.R.Rig.state c.args.rig.now in
    let e = g.R.Rig.state c.clear.new.rig in
    let fits = within k (site_of book) (site_at c.args.self.now k book here) in
    leaves_elsewhere_wider book.start 2048 at n o e fits.0 (omega (arith, fits.1)) c.clear.ensures.outside

pub returns-clause-outside_view : goal.returns-clause-outside_view
returns-clause-outside_view g c at n within tells =
    let books = c.self.inside.books.items in
    let k = c.args.logbook in
    let is : books ≡ c.args.self.now = c.self.view_is in
    let book = c.index_mut.result.now in
    let there : slice_get books k ≡ Some book = slice_get_read books (length books) k book refl (omega (arith, c.requires.logbook, ap length is)) c.index_mut.ensures.value in
    let here : slice_get c.args.self.now k ≡ Some book = ap (λ (bs : List Book). slice_get bs k) (sym is) ∙ there in
    let o = g.R.Rig.state c.args.rig.now in
    let e = g.R.Rig.state c.clear.new.rig in
    let fits = within k (site_of book) (site_at c.args.self.now k book here) in
    elsewhere_wider book.start 2048 at n o.view e.view fits.0 (omega (arith, fits.1)) (c.clear.ensures.outside_view tells)

pub returns-clause-cleared : goal.returns-clause-cleared
returns-clause-cleared g c logbooks tells stand =
    let books = c.self.inside.books.items in
    let k = c.args.logbook in
    let is : books ≡ c.args.self.now = c.self.view_is in
    let book = c.index_mut.result.now in
    let there : slice_get books k ≡ Some book = slice_get_read books (length books) k book refl (omega (arith, c.requires.logbook, ap length is)) c.index_mut.ensures.value in
    let here : slice_get c.args.self.now k ≡ Some book = ap (λ (bs : List Book). slice_get bs k) (sym is) ∙ there in
    let P : List ℕ → Book → Logbook → Type 0 = λ v a b. Stands a v b in
    let o = g.R.Rig.state c.args.rig.now in
    let e = g.R.Rig.state c.clear.new.rig in
    let new = cleared (slice_index_or logbooks k empty_book) in
    let stands = zip_at (P o.view) c.args.self.now logbooks k book empty_book stand here in
    let same : SameElsewhere book.start 2048 o.view e.view = c.clear.ensures.outside_view tells in
    let before : StandFor books o.view logbooks = subst (λ (bs : List Book). StandFor bs o.view logbooks) (sym is) stand in
    on_ok c.clear.result
    (λ now. stand_set books logbooks k book new o.view e.view before there
    (λ j other differ at b was.
    let found : slice_get c.args.self.now j ≡ Some other = ap (λ (bs : List Book). slice_get bs j) (sym is) ∙ at in
    stands_same other b o.view e.view same.long
    (others_same g.R.Rig.tells_view g.R.Rig.keeps_cuts c.args.self.now logbooks k book new o e (g.met.R.Rig.sound c.args.rig.now) tells here c.requires.laid_out c.requires.settled stand book.start 2048 e.view o.view (omega arith) (omega arith) same j (site_of other) differ (site_at c.args.self.now j other found)) was)
    c.clear.new.self now)
    (c.clear.ensures.cleared (slice_index_or logbooks k empty_book) tells stands)

pub returns-clause-shown : goal.returns-clause-shown
returns-clause-shown g c logbooks tells stand =
    let books = c.self.inside.books.items in
    let k = c.args.logbook in
    let is : books ≡ c.args.self.now = c.self.view_is in
    let book = c.index_mut.result.now in
    let there : slice_get books k ≡ Some book = slice_get_read books (length books) k book refl (omega (arith, c.requires.logbook, ap length is)) c.index_mut.ensures.value in
    let here : slice_get c.args.self.now k ≡ Some book = ap (λ (bs : List Book). slice_get bs k) (sym is) ∙ there in
    let P : List ℕ → Book → Logbook → Type 0 = λ v a b. Stands a v b in
    let o = g.R.Rig.state c.args.rig.now in
    let e = g.R.Rig.state c.clear.new.rig in
    let new = cleared (slice_index_or logbooks k empty_book) in
    let stands = zip_at (P o.view) c.args.self.now logbooks k book empty_book stand here in
    let same : SameElsewhere book.start 2048 o.view e.view = c.clear.ensures.outside_view tells in
    one_changes g.R.Rig.tells_view g.R.Rig.keeps_cuts c.args.self.now logbooks k book new o e (g.met.R.Rig.sound c.args.rig.now) tells here c.requires.laid_out c.requires.settled stand
    e.view same.long
    (others_same g.R.Rig.tells_view g.R.Rig.keeps_cuts c.args.self.now logbooks k book new o e (g.met.R.Rig.sound c.args.rig.now) tells here c.requires.laid_out c.requires.settled stand book.start 2048 e.view o.view (omega arith) (omega arith) same)
    (c.clear.ensures.shown (slice_index_or logbooks k empty_book) tells stands)
