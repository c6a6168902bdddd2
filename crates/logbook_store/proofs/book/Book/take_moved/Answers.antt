use Rattle.std.proofs.Common.{◌<◌, length, refl, sym, ◌∙◌, arith}
use Rattle.logbook_store.proofs.Counted.{after_move}
use Rattle.logbook_store.proofs.book.Book.take_moved.Goals as goal

pub returns-clause-moved : goal.returns-clause-moved
returns-clause-moved c = record {
  headers = refl;
  life = λ b agrees.
      let book = c.args.self.now in
      let some : 0 < length book.in_progress = omega (arith, c.if-count-eq0.false, c.count.ensures.value) in
      let after = after_move book.row.logged b book.in_progress (sym agrees.in_progress) some book.some (omega (arith, book.few, agrees.logged)) in
      record {
        life = omega (arith, after.0, agrees.life);
        logged = omega (arith, after.1, agrees.logged, c.min-self.ensures, c.from.ensures);
        in_progress = c.remove_oldest.ensures ∙ sym after.2;
      };
}
