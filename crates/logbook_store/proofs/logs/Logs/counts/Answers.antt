use Rattle.std.proofs.Common.{◌≡◌, ℕ, List, Option, Some, length, refl, sym, ◌∙◌, ap, subst, arith}
use Rattle.std.specs.Prelude.{slice_get, slice_index_or, IfSome}
use Rattle.std.proofs.lemmas.Option.{slice_get_read}
use Rattle.apex_types.specs.declared.fields.LogCounts.{LogCounts}
use Rattle.apex_model.specs.Logbooks.{Logbook, empty_book}
use Rattle.logbook_store.specs.Books.{Stands, counts_in}
use Rattle.logbook_store.specs.Logs.{StandFor}
use Rattle.logbook_store.specs.declared.book.Book.{Book}
use Rattle.logbook_store.proofs.Zips.{zip_at}
use Rattle.logbook_store.proofs.logs.Logs.counts.Goals as goal

abbrev counted : ℕ → ℕ → ℕ → LogCounts
counted life logged progress = record { life = life; logged = logged; progress = progress }

pub returns-clause-told : goal.returns-clause-told
returns-clause-told c image logbooks stand =
    let books = c.self.inside.books.items in
    let is : books ≡ c.args.self.now = c.self.view_is in
    let book = c.index.result.now in
    let there : slice_get books c.args.logbook ≡ Some book = slice_get_read books (length books) c.args.logbook book refl (omega (arith, c.requires, ap length is)) c.index.ensures in
    let before : StandFor books image logbooks = subst (λ (bs : List Book). StandFor bs image logbooks) (sym is) stand in
    let P : Book → Logbook → Type 0 = λ a b. Stands a image b in
    let stands : Stands book image (slice_index_or logbooks c.args.logbook empty_book) = zip_at P books logbooks c.args.logbook book empty_book before there in
    c.counts.ensures.value
    ∙ ap (λ (n : ℕ). counted n book.logged (length book.in_progress)) stands.life
    ∙ ap (λ (n : ℕ). counted (slice_index_or logbooks c.args.logbook empty_book).life n (length book.in_progress)) stands.logged
    ∙ ap (λ (l : List (List ℕ)). counted (slice_index_or logbooks c.args.logbook empty_book).life (length (slice_index_or logbooks c.args.logbook empty_book).logged) (length l)) stands.in_progress

pub returns-clause-kept : goal.returns-clause-kept
returns-clause-kept c =
    let books = c.self.inside.books.items in
    let is : books ≡ c.args.self.now = c.self.view_is in
    let book = c.index.result.now in
    let there : slice_get books c.args.logbook ≡ Some book = slice_get_read books (length books) c.args.logbook book refl (omega (arith, c.requires, ap length is)) c.index.ensures in
    let P : Option Book → Type 0 = λ o. IfSome o (λ b. c.counts.result ≡ counts_in b) in
    subst P (sym (sym (ap (λ (bs : List Book). slice_get bs c.args.logbook) is) ∙ there)) c.counts.ensures.value
