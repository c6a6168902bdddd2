use Rattle.std.proofs.Common.{◌≡◌, inl, ◌≤◌, List, drop, length, sym, ◌∙◌, ap, subst}
use Rattle.std.specs.Prelude.{nat_lt}
use Rattle.std.specs.List.{AllZip}
use Rattle.logbook_store.specs.Logs.{sites_of, AreBeforeOrAfter, StandFor}
use Rattle.logbook_store.proofs.Beside.{stored_each}
use Rattle.logbook_store.specs.Moves.{AreMovedIn, HasMoved, LeavesBut, NextPlace, OfOne, SameBut, moved_all, moving_count}
use Rattle.logbook_store.specs.declared.book.Book.{Book}
use Rattle.logbook_store.proofs.Joined.{all_back, none_by_test, all_stand, but_elsewhere, count_none, leaves_but_elsewhere, none_leaves, none_move}
use Rattle.logbook_store.proofs.logs.Logs.move_all.Goals as goal

pub returns-then-not-is_any_moving-clause-any_moment :
    goal.returns-then-not-is_any_moving-clause-any_moment
returns-then-not-is_any_moving-clause-any_moment g c logbooks tells stand =
    none_leaves g.R.Rig.tells_view g.R.Rig.keeps_cuts c.args.self.now logbooks (moved_all (sites_of c.args.self.now) logbooks) (g.R.Rig.state c.args.rig.now)
    (g.met.R.Rig.sound c.args.rig.now) tells c.requires.settled stand

pub returns-then-not-is_any_moving-clause-moved : goal.returns-then-not-is_any_moving-clause-moved
returns-then-not-is_any_moving-clause-moved g c logbooks tells stand =
    let books = c.args.self.now in
    let view = (g.R.Rig.state c.args.rig.now).view in
    let is : c.deref.result.now ≡ books = c.deref.ensures.value ∙ c.self.view_is in
    let none : moving_count books ≤ 0 = none_by_test (moving_count books) (sym c.if-not-is_any_moving.true ∙ c.is_any_moving.ensures ∙ ap (λ (bs : List Book). nat_lt 0 (moving_count bs)) is) in
    subst (StandFor books view) (sym (none_move books view logbooks (count_none books none) stand)) stand

pub returns-in_err-move_on_device-clause-outside :
    goal.returns-in_err-move_on_device-clause-outside
returns-in_err-move_on_device-clause-outside g c at n within =
    let o = g.R.Rig.state c.args.rig.now in
    let e = g.R.Rig.state c.move_on_device.new.rig in
    let books = c.args.self.now in
    let is : c.deref-2.result.now ≡ books = c.deref-2.ensures.value ∙ c.self.view_is in
    leaves_but_elsewhere books at n within o e (subst (λ (bs : List Book). LeavesBut (OfOne NextPlace bs) o e) is c.move_on_device.ensures.outside)

pub returns-in_err-move_on_device-clause-outside_view :
    goal.returns-in_err-move_on_device-clause-outside_view
returns-in_err-move_on_device-clause-outside_view g c at n within tells =
    let o = g.R.Rig.state c.args.rig.now in
    let e = g.R.Rig.state c.move_on_device.new.rig in
    let books = c.args.self.now in
    let is : c.deref-2.result.now ≡ books = c.deref-2.ensures.value ∙ c.self.view_is in
    but_elsewhere books at n within o.view e.view (subst (λ (bs : List Book). SameBut (OfOne NextPlace bs) o.view e.view) is (c.move_on_device.ensures.outside_view tells))

pub returns-clause-outside : goal.returns-clause-outside
returns-clause-outside g c at n within =
    let o = g.R.Rig.state c.args.rig.now in
    let e = g.R.Rig.state c.move_on_device.new.rig in
    let books = c.args.self.now in
    let is : c.deref-2.result.now ≡ books = c.deref-2.ensures.value ∙ c.self.view_is in
    leaves_but_elsewhere books at n within o e (subst (λ (bs : List Book). LeavesBut (OfOne NextPlace bs) o e) is c.move_on_device.ensures.outside)

pub returns-clause-outside_view : goal.returns-clause-outside_view
returns-clause-outside_view g c at n within tells =
    let o = g.R.Rig.state c.args.rig.now in
    let e = g.R.Rig.state c.move_on_device.new.rig in
    let books = c.args.self.now in
    let is : c.deref-2.result.now ≡ books = c.deref-2.ensures.value ∙ c.self.view_is in
    but_elsewhere books at n within o.view e.view (subst (λ (bs : List Book). SameBut (OfOne NextPlace bs) o.view e.view) is (c.move_on_device.ensures.outside_view tells))

pub returns-clause-moved : goal.returns-clause-moved
returns-clause-moved g c logbooks tells stand =
    let o = g.R.Rig.state c.args.rig.now in
    let e = g.R.Rig.state c.move_on_device.new.rig in
    let books = c.args.self.now in
    let new = c.take_all_moved.new.books in
    let is : c.deref-2.result.now ≡ books = c.deref-2.ensures.value ∙ c.self.view_is in
    let are : AreMovedIn books e.view logbooks = subst (λ (bs : List Book). AreMovedIn bs e.view logbooks) is (c.in_ok-move_on_device.ensures.moved logbooks tells (subst (λ (bs : List Book). StandFor bs o.view logbooks) (sym is) stand)) in
    let at : c.deref_mut.result.now ≡ books = c.deref_mut.ensures.value ∙ c.self.view_is in
    let has : AllZip HasMoved books new = subst (λ (bs : List Book). AllZip HasMoved bs new) at c.take_all_moved.ensures.moved in
    let sites : sites_of new ≡ sites_of books = c.take_all_moved.ensures.sites ∙ ap sites_of at in
    subst (λ (bs : List Book). StandFor bs e.view (moved_all (sites_of books) logbooks))
    (all_back c.self.inside.books.len c.deref_mut.result.now new (drop (length new) c.self.inside.books.items) c.take_all_moved.ensures.sites c.deref_mut.ensures.len)
    (all_stand books new o.view e.view logbooks sites has stand are)

pub returns-then-not-is_any_moving-clause-shown : goal.returns-then-not-is_any_moving-clause-shown
returns-then-not-is_any_moving-clause-shown g c logbooks tells stand =
    λ j site b d is was behind. inl (stored_each c.args.self.now (g.R.Rig.state c.args.rig.now).view logbooks stand j site b is was)

pub returns-in_err-move_on_device-clause-shown : goal.returns-in_err-move_on_device-clause-shown
returns-in_err-move_on_device-clause-shown g c logbooks tells stand =
    let o = g.R.Rig.state c.args.rig.now in
    let e = g.R.Rig.state c.move_on_device.new.rig in
    let books = c.args.self.now in
    let is : c.deref-2.result.now ≡ books = c.deref-2.ensures.value ∙ c.self.view_is in
    subst (λ (bs : List Book). AreBeforeOrAfter (sites_of bs) logbooks (moved_all (sites_of bs) logbooks) e.view) is
    (c.move_on_device.ensures.shown logbooks tells (subst (λ (bs : List Book). StandFor bs o.view logbooks) (sym is) stand))

pub returns-clause-shown : goal.returns-clause-shown
returns-clause-shown g c logbooks tells stand =
    let o = g.R.Rig.state c.args.rig.now in
    let e = g.R.Rig.state c.move_on_device.new.rig in
    let books = c.args.self.now in
    let is : c.deref-2.result.now ≡ books = c.deref-2.ensures.value ∙ c.self.view_is in
    subst (λ (bs : List Book). AreBeforeOrAfter (sites_of bs) logbooks (moved_all (sites_of bs) logbooks) e.view) is
    (c.move_on_device.ensures.shown logbooks tells (subst (λ (bs : List Book). StandFor bs o.view logbooks) (sym is) stand))
