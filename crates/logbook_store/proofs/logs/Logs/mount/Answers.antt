use Rattle.std.proofs.Common.{◌≡◌, ◌+◌, ◌*◌, ℕ, List, [], ◌∷◌, ◌++◌, Some, take, length, refl, sym, ◌∙◌, ap, subst, arith}
use Rattle.std.specs.Prelude.{slice_get}
use Rattle.std.proofs.lemmas.Option.{slice_get_read}
use Rattle.apex_types.specs.declared.rows.LogbookRow.{LogbookRow}
use Rattle.apex_model.specs.Layout.{logbook_start}
use Rattle.apex_model.specs.Logbooks.{Message}
use Rattle.logbook_store.specs.Books.{row_of, start_of, life_of, Stands}
use Rattle.logbook_store.specs.Logs.{Site, sites_of, sites_from, AreLaidOut}
use Rattle.logbook_store.specs.declared.book.Book.{Book}
use Rattle.logbook_store.proofs.Mounting.{Mounted, room_of, region_fits, found_is, mounted_more, sites_next, bad_at, sites_laid_out, take_past, IsBad}
use Rattle.logbook_store.proofs.ReadRuns.{reads_then}
use Rattle.logbook_store.proofs.logs.Logs.mount.Goals as goal

pub mount-requires-clause-small : goal.mount-requires-clause-small
mount-requires-clause-small g c =
    let table = c.args.table.now in
    let k = c.loop-logbook.logbook in
    let row = c.index-rows-logbook.result in
    let rows = c.logbooks-rows.result.now in
    let there : slice_get table.logbooks k ≡ Some row = ap (λ (l : List LogbookRow). slice_get l k) (sym c.logbooks-rows.ensures) ∙ slice_get_read rows (length rows) k row refl c.loop-logbook-test.true c.index-rows-logbook.is in
    (room_of table c.requires.accepted k row there).message_size

pub mount-requires-clause-room : goal.mount-requires-clause-room
mount-requires-clause-room g c =
    let table = c.args.table.now in
    let k = c.loop-logbook.logbook in
    let row = c.index-rows-logbook.result in
    let rows = c.logbooks-rows.result.now in
    let there : slice_get table.logbooks k ≡ Some row = ap (λ (l : List LogbookRow). slice_get l k) (sym c.logbooks-rows.ensures) ∙ slice_get_read rows (length rows) k row refl c.loop-logbook-test.true c.index-rows-logbook.is in
    (room_of table c.requires.accepted k row there).in_progress

pub mount-requires-clause-logged : goal.mount-requires-clause-logged
mount-requires-clause-logged g c =
    let table = c.args.table.now in
    let k = c.loop-logbook.logbook in
    let row = c.index-rows-logbook.result in
    let rows = c.logbooks-rows.result.now in
    let there : slice_get table.logbooks k ≡ Some row = ap (λ (l : List LogbookRow). slice_get l k) (sym c.logbooks-rows.ensures) ∙ slice_get_read rows (length rows) k row refl c.loop-logbook-test.true c.index-rows-logbook.is in
    (room_of table c.requires.accepted k row there).logged

pub mount-requires-clause-fits : goal.mount-requires-clause-fits
mount-requires-clause-fits g c =
    let table = c.args.table.now in
    let k = c.loop-logbook.logbook in
    let row = c.index-rows-logbook.result in
    let rows = c.logbooks-rows.result.now in
    let there : slice_get table.logbooks k ≡ Some row = ap (λ (l : List LogbookRow). slice_get l k) (sym c.logbooks-rows.ensures) ∙ slice_get_read rows (length rows) k row refl c.loop-logbook-test.true c.index-rows-logbook.is in
    let start_is : c.logbook_start.result ≡ 512 * logbook_start table k = c.logbook_start.ensures table c.layout-places.ensures in
    omega (arith, region_fits table k row c.logbook_start.result (g.R.Rig.state c.args.rig.now).size there start_is c.requires.fits, c.loop-logbook.invariant.reads.later.size)

pub returns-in_default-found-clause-fault : goal.returns-in_default-found-clause-fault
returns-in_default-found-clause-fault g c tells =
    let table = c.args.table.now in
    let k = c.loop-logbook.logbook in
    let row = c.index-rows-logbook.result in
    let rows = c.logbooks-rows.result.now in
    let there : slice_get table.logbooks k ≡ Some row = ap (λ (l : List LogbookRow). slice_get l k) (sym c.logbooks-rows.ensures) ∙ slice_get_read rows (length rows) k row refl c.loop-logbook-test.true c.index-rows-logbook.is in
    let start_is : c.logbook_start.result ≡ 512 * logbook_start table k = c.logbook_start.ensures table c.layout-places.ensures in
    let image = (g.R.Rig.state c.args.rig.now).view in
    let seen = (g.R.Rig.state c.loop-logbook.rig).view in
    let same : seen ≡ image = c.loop-logbook.invariant.reads.view tells in
    let none = c.in-Ok-mount.ensures.bad tells c.in_default-found.is in
    let books = c.loop-logbook.books.items in
    bad_at table image k books row c.logbook_start.result there start_is (c.loop-logbook.invariant.mounted tells)
    (subst (λ (n : ℕ). IsBad row n image) start_is (subst (λ (v : List ℕ). IsBad row c.logbook_start.result v) same none))

pub loop-logbook-preserved : goal.loop-logbook-preserved
loop-logbook-preserved g c =
    let table = c.args.table.now in
    let k = c.loop-logbook.logbook in
    let row = c.index-rows-logbook.result in
    let rows = c.logbooks-rows.result.now in
    let there : slice_get table.logbooks k ≡ Some row = ap (λ (l : List LogbookRow). slice_get l k) (sym c.logbooks-rows.ensures) ∙ slice_get_read rows (length rows) k row refl c.loop-logbook-test.true c.index-rows-logbook.is in
    let start_is : c.logbook_start.result ≡ 512 * logbook_start table k = c.logbook_start.ensures table c.layout-places.ensures in
    let books = c.loop-logbook.books.items in
    let book = c.in-Some.book in
    let pushed : c.push.new.self.items ≡ books ++ book ∷ [] = c.in-Ok-push.ensures.items in
    let P : Book → Type 0 = λ b. (row_of b ≡ row) × (start_of b ≡ c.logbook_start.result) in
    let place = found_is P c.in-Ok-mount.found book c.in-Some.is c.in-Ok-mount.ensures.place in
    record {
      reads = reads_then g.R.Rig.tells_view (g.R.Rig.state c.args.rig.now) (g.R.Rig.state c.loop-logbook.rig) (g.R.Rig.state c.mount.new.rig) c.loop-logbook.invariant.reads c.mount.ensures.reads;
      sites = ap sites_of pushed ∙ sites_next table k books row c.logbook_start.result book there start_is c.loop-logbook.invariant.sites place.0 place.1;
      mounted = λ tells.
          let image = (g.R.Rig.state c.args.rig.now).view in
          let seen = (g.R.Rig.state c.loop-logbook.rig).view in
          let Q : List ℕ → Book → Type 0 = λ v b. (logged : List Message) × Stands b v (record { life = life_of b; logged = logged; in_progress = [] }) in
          let stands = found_is (Q seen) c.in-Ok-mount.found book c.in-Some.is (c.in-Ok-mount.ensures.stands tells) in
          let here : Q image book = subst (λ (v : List ℕ). Q v book) (c.loop-logbook.invariant.reads.view tells) stands in
          subst (Mounted table image (k + 1)) (sym pushed)
          (mounted_more table image k books row c.logbook_start.result book there start_is (c.loop-logbook.invariant.mounted tells) place.0 place.1 here);
    }

pub returns-clause-laid_out : goal.returns-clause-laid_out
returns-clause-laid_out g c =
    let table = c.args.table.now in
    let size = (g.R.Rig.state c.args.rig.now).size in
    let all : take c.loop-logbook.logbook table.logbooks ≡ table.logbooks = take_past table.logbooks c.loop-logbook.logbook (omega (arith, c.loop-logbook-test.false, ap length c.logbooks-rows.ensures)) in
    subst (λ (sites : List Site). AreLaidOut sites size) (sym (c.loop-logbook.invariant.sites ∙ ap (sites_from table 0) all)) (sites_laid_out table size c.requires.fits)
