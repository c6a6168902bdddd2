use Rattle.std.proofs.Common.{◌≡◌, ⊎_elim, ℕ, ◌+◌, Some, length, refl, sym, ◌∙◌, ap, subst, arith}
use Rattle.std.specs.Prelude.{slice_get}
use Rattle.std.proofs.lemmas.Bool.{cases_eq}
use Rattle.std.proofs.lemmas.Option.{slice_get_read}
use Rattle.rig_core.specs.Bytes.{byte}
use Rattle.logbook_store.specs.Logs.{site_of}
use Rattle.logbook_store.specs.Moves.{IsClosed, OpenGate, OfOne, next_gate_of}
use Rattle.logbook_store.proofs.Beside.{site_at}
use Rattle.logbook_store.proofs.But.{but_then, same_then, count_next, count_front}
use Rattle.logbook_store.proofs.moving.close_gates.Goals as goal

pub close_next-requires : goal.close_next-requires
close_next-requires g c =
    let books = c.args.books.now in
    let k = c.loop-k.k in
    let book = c.index-books-k.result in
    let there : slice_get books k ≡ Some book = slice_get_read books (length books) k book refl c.loop-k-test.true c.index-books-k.is in
    record { fits = omega (arith, c.requires.laid_out.fit k (site_of book) (site_at books k book there), c.loop-k.invariant.later.size) }

pub returns-in_err-close_next-clause-made : goal.returns-in_err-close_next-clause-made
returns-in_err-close_next-clause-made g c =
    let books = c.args.books.now in
    let k = c.loop-k.k in
    let book = c.index-books-k.result in
    let there : slice_get books k ≡ Some book = slice_get_read books (length books) k book refl c.loop-k-test.true c.index-books-k.is in
    let next = count_next books k book there in
    let few = count_front books (k + 1) in
    record {
      writes = omega (arith, next, few, c.loop-k.invariant.made.writes, c.close_next.ensures.made.writes);
      syncs = omega (arith, c.loop-k.invariant.made.syncs, c.close_next.ensures.made.syncs);
      tells = omega (arith, c.loop-k.invariant.made.tells, c.close_next.ensures.made.tells);
    }

pub returns-in_err-close_next-clause-cuts : goal.returns-in_err-close_next-clause-cuts
returns-in_err-close_next-clause-cuts g c =
    let books = c.args.books.now in
    let k = c.loop-k.k in
    let book = c.index-books-k.result in
    let there : slice_get books k ≡ Some book = slice_get_read books (length books) k book refl c.loop-k-test.true c.index-books-k.is in
    let o = g.R.Rig.state c.args.rig.now in
    let m = g.R.Rig.state c.loop-k.rig in
    let e = g.R.Rig.state c.close_next.new.rig in
    let V = g.R.Rig.tells_view in
    let K = g.R.Rig.keeps_cuts in
    let A : ℕ → Type 0 = OfOne (OpenGate o.view) books in
    let B : ℕ → Type 0 = OpenGate m.view book in
    let within : V → (p : ℕ) → B p → (A p → ⊥) → ⊥ = (λ tells p inside out. let same = (c.loop-k.invariant.view tells).same p out in out (k, book, there, (inside.0, inside.1, sym same ∙ inside.2))) in
    but_then V K A B o m e (g.met.R.Rig.sound c.loop-k.rig) within c.loop-k.invariant.cuts c.close_next.ensures.cuts

pub returns-in_err-close_next-clause-view : goal.returns-in_err-close_next-clause-view
returns-in_err-close_next-clause-view g c tells =
    let books = c.args.books.now in
    let k = c.loop-k.k in
    let book = c.index-books-k.result in
    let there : slice_get books k ≡ Some book = slice_get_read books (length books) k book refl c.loop-k-test.true c.index-books-k.is in
    let o = g.R.Rig.state c.args.rig.now in
    let m = g.R.Rig.state c.loop-k.rig in
    let e = g.R.Rig.state c.close_next.new.rig in
    let V = g.R.Rig.tells_view in
    let K = g.R.Rig.keeps_cuts in
    let A : ℕ → Type 0 = OfOne (OpenGate o.view) books in
    let B : ℕ → Type 0 = OpenGate m.view book in
    let within : V → (p : ℕ) → B p → (A p → ⊥) → ⊥ = (λ tells p inside out. let same = (c.loop-k.invariant.view tells).same p out in out (k, book, there, (inside.0, inside.1, sym same ∙ inside.2))) in
    same_then A B o.view m.view e.view (within tells) (c.loop-k.invariant.view tells) (c.close_next.ensures.view tells)

pub loop-k-preserved : goal.loop-k-preserved
loop-k-preserved g c =
    let books = c.args.books.now in
    let k = c.loop-k.k in
    let book = c.index-books-k.result in
    let there : slice_get books k ≡ Some book = slice_get_read books (length books) k book refl c.loop-k-test.true c.index-books-k.is in
    let o = g.R.Rig.state c.args.rig.now in
    let m = g.R.Rig.state c.loop-k.rig in
    let e = g.R.Rig.state c.close_next.new.rig in
    let V = g.R.Rig.tells_view in
    let K = g.R.Rig.keeps_cuts in
    let A : ℕ → Type 0 = OfOne (OpenGate o.view) books in
    let B : ℕ → Type 0 = OpenGate m.view book in
    let within : V → (p : ℕ) → B p → (A p → ⊥) → ⊥ = (λ tells p inside out. let same = (c.loop-k.invariant.view tells).same p out in out (k, book, there, (inside.0, inside.1, sym same ∙ inside.2))) in
    let next = count_next books k book there in
    record {
      later = record {
        size = c.close_next.ensures.later.size ∙ c.loop-k.invariant.later.size;
        clock = omega (arith, c.close_next.ensures.later.clock, c.loop-k.invariant.later.clock);
        read_faults = omega (arith, c.close_next.ensures.later.read_faults, c.loop-k.invariant.later.read_faults);
        write_faults = omega (arith, c.close_next.ensures.later.write_faults, c.loop-k.invariant.later.write_faults);
        tell_faults = omega (arith, c.close_next.ensures.later.tell_faults, c.loop-k.invariant.later.tell_faults);
      };
      made = record {
        writes = omega (arith, next, c.loop-k.invariant.made.writes, c.close_next.ensures.made.writes);
        syncs = omega (arith, c.loop-k.invariant.made.syncs, c.close_next.ensures.made.syncs);
        tells = omega (arith, c.loop-k.invariant.made.tells, c.close_next.ensures.made.tells);
      };
      cuts = but_then V K A B o m e (g.met.R.Rig.sound c.loop-k.rig) within c.loop-k.invariant.cuts c.close_next.ensures.cuts;
      view = λ tells. same_then A B o.view m.view e.view (within tells) (c.loop-k.invariant.view tells) (c.close_next.ensures.view tells);
      done = λ tells j other low at. ⊎_elim
          (λ here.
          let both : Some book ≡ Some other = sym there ∙ ap (λ (n : ℕ). slice_get books n) (sym here) ∙ at in
          let same : book ≡ other = cc in
          subst (IsClosed e.view) same (c.in_ok-close_next.ensures.closed tells))
          (λ differ. λ moving opened.
          let was : byte m.view (next_gate_of other) ≡ 165 → ⊥ = c.loop-k.invariant.done tells j other (omega (arith, low, differ)) at moving in
          was (sym ((c.close_next.ensures.view tells).same (next_gate_of other) (λ inside. was inside.2)) ∙ opened))
          (cases_eq j k);
    }
