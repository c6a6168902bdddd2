use Rattle.std.proofs.Common.{◌≡◌, ⊎_elim, ℕ, ◌+◌, List, Some, length, refl, sym, ◌∙◌, ap, subst, arith}
use Rattle.std.specs.Prelude.{slice_get}
use Rattle.std.proofs.lemmas.Bool.{cases_eq}
use Rattle.std.proofs.lemmas.Option.{slice_get_read}
use Rattle.rig_core.specs.Bytes.{part}
use Rattle.rig_core.proofs.Put.{part_same}
use Rattle.apex_model.specs.Fields.{log_entry_of}
use Rattle.logbook_store.specs.Logs.{site_of, sites_of}
use Rattle.logbook_store.specs.Moves.{IsWritten, NextBody, OfOne, next_gate_of}
use Rattle.logbook_store.proofs.Beside.{site_at, beside}
use Rattle.logbook_store.proofs.But.{but_then, same_then, count_next, count_front}
use Rattle.logbook_store.proofs.Gates.{gate_within}
use Rattle.logbook_store.proofs.moving.write_bodies.Goals as goal

pub write_next-requires : goal.write_next-requires
write_next-requires g c =
    let books = c.args.books.now in
    let k = c.loop-k.k in
    let book = c.index-books-k.result in
    let there : slice_get books k ≡ Some book = slice_get_read books (length books) k book refl c.loop-k-test.true c.index-books-k.is in
    record { fits = omega (arith, c.requires.laid_out.fit k (site_of book) (site_at books k book there), c.loop-k.invariant.later.size) }

pub returns-in_err-write_next-clause-made : goal.returns-in_err-write_next-clause-made
returns-in_err-write_next-clause-made g c =
    let books = c.args.books.now in
    let k = c.loop-k.k in
    let book = c.index-books-k.result in
    let there : slice_get books k ≡ Some book = slice_get_read books (length books) k book refl c.loop-k-test.true c.index-books-k.is in
    let next = count_next books k book there in
    let few = count_front books (k + 1) in
    record {
      writes = omega (arith, next, few, c.loop-k.invariant.made.writes, c.write_next.ensures.made.writes);
      syncs = omega (arith, c.loop-k.invariant.made.syncs, c.write_next.ensures.made.syncs);
      tells = omega (arith, c.loop-k.invariant.made.tells, c.write_next.ensures.made.tells);
    }

pub returns-in_err-write_next-clause-cuts : goal.returns-in_err-write_next-clause-cuts
returns-in_err-write_next-clause-cuts g c =
    let books = c.args.books.now in
    let k = c.loop-k.k in
    let book = c.index-books-k.result in
    let there : slice_get books k ≡ Some book = slice_get_read books (length books) k book refl c.loop-k-test.true c.index-books-k.is in
    let o = g.R.Rig.state c.args.rig.now in
    let m = g.R.Rig.state c.loop-k.rig in
    let e = g.R.Rig.state c.write_next.new.rig in
    let V = g.R.Rig.tells_view in
    let K = g.R.Rig.keeps_cuts in
    let A : ℕ → Type 0 = OfOne NextBody books in
    let B : ℕ → Type 0 = NextBody book in
    let within : V → (p : ℕ) → B p → (A p → ⊥) → ⊥ = (λ tells p inside out. out (k, book, there, inside)) in
    but_then V K A B o m e (g.met.R.Rig.sound c.loop-k.rig) within c.loop-k.invariant.cuts c.write_next.ensures.cuts

pub returns-in_err-write_next-clause-view : goal.returns-in_err-write_next-clause-view
returns-in_err-write_next-clause-view g c tells =
    let books = c.args.books.now in
    let k = c.loop-k.k in
    let book = c.index-books-k.result in
    let there : slice_get books k ≡ Some book = slice_get_read books (length books) k book refl c.loop-k-test.true c.index-books-k.is in
    let o = g.R.Rig.state c.args.rig.now in
    let m = g.R.Rig.state c.loop-k.rig in
    let e = g.R.Rig.state c.write_next.new.rig in
    let V = g.R.Rig.tells_view in
    let K = g.R.Rig.keeps_cuts in
    let A : ℕ → Type 0 = OfOne NextBody books in
    let B : ℕ → Type 0 = NextBody book in
    let within : V → (p : ℕ) → B p → (A p → ⊥) → ⊥ = (λ tells p inside out. out (k, book, there, inside)) in
    same_then A B o.view m.view e.view (within tells) (c.loop-k.invariant.view tells) (c.write_next.ensures.view tells)

pub loop-k-preserved : goal.loop-k-preserved
loop-k-preserved g c =
    let books = c.args.books.now in
    let k = c.loop-k.k in
    let book = c.index-books-k.result in
    let there : slice_get books k ≡ Some book = slice_get_read books (length books) k book refl c.loop-k-test.true c.index-books-k.is in
    let o = g.R.Rig.state c.args.rig.now in
    let m = g.R.Rig.state c.loop-k.rig in
    let e = g.R.Rig.state c.write_next.new.rig in
    let V = g.R.Rig.tells_view in
    let K = g.R.Rig.keeps_cuts in
    let A : ℕ → Type 0 = OfOne NextBody books in
    let B : ℕ → Type 0 = NextBody book in
    let within : V → (p : ℕ) → B p → (A p → ⊥) → ⊥ = (λ tells p inside out. out (k, book, there, inside)) in
    let next = count_next books k book there in
    record {
      later = record {
        size = c.write_next.ensures.later.size ∙ c.loop-k.invariant.later.size;
        clock = omega (arith, c.write_next.ensures.later.clock, c.loop-k.invariant.later.clock);
        read_faults = omega (arith, c.write_next.ensures.later.read_faults, c.loop-k.invariant.later.read_faults);
        write_faults = omega (arith, c.write_next.ensures.later.write_faults, c.loop-k.invariant.later.write_faults);
        tell_faults = omega (arith, c.write_next.ensures.later.tell_faults, c.loop-k.invariant.later.tell_faults);
      };
      made = record {
        writes = omega (arith, next, c.loop-k.invariant.made.writes, c.write_next.ensures.made.writes);
        syncs = omega (arith, c.loop-k.invariant.made.syncs, c.write_next.ensures.made.syncs);
        tells = omega (arith, c.loop-k.invariant.made.tells, c.write_next.ensures.made.tells);
      };
      cuts = but_then V K A B o m e (g.met.R.Rig.sound c.loop-k.rig) within c.loop-k.invariant.cuts c.write_next.ensures.cuts;
      view = λ tells. same_then A B o.view m.view e.view (within tells) (c.loop-k.invariant.view tells) (c.write_next.ensures.view tells);
      done = λ tells j other low at. ⊎_elim
          (λ here.
          let both : Some book ≡ Some other = sym there ∙ ap (λ (n : ℕ). slice_get books n) (sym here) ∙ at in
          let same : book ≡ other = cc in
          subst (IsWritten e.view) same (c.in_ok-write_next.ensures.written tells))
          (λ differ. λ message rest is.
          let was = c.loop-k.invariant.done tells j other (omega (arith, low, differ)) at message rest is in
          let apart = beside (sites_of books) (g.R.Rig.state c.args.rig.now).size c.requires.laid_out j k (site_of other) (site_of book) differ (site_at books j other at) (site_at books k book there) in
          let same = c.write_next.ensures.view tells in
          ap (log_entry_of other.row.message_size) (part_same (next_gate_of other + 512) 512 e.view m.view same.long (λ p from to. same.same p (λ inside.
          ⊎_elim (λ h. omega (arith, h, from, to, inside.1, inside.2, gate_within other, gate_within book)) (λ h. omega (arith, h, from, to, inside.1, inside.2, gate_within other, gate_within book)) apart))) ∙ was)
          (cases_eq j k);
    }

pub returns-clause-written : goal.returns-clause-written
returns-clause-written g c tells j book low at message rest is =
    ap (λ (v : List ℕ). log_entry_of book.row.message_size (part (next_gate_of book + 512) 512 v)) (c.sync.ensures.view tells)
    ∙ c.loop-k.invariant.done tells j book (omega (arith, low, c.loop-k-test.false)) at message rest is
