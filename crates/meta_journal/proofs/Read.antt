-- What a journal knows behind the records that it read.
use Rattle.std.proofs.Common.{◌≡◌, ℕ, ◌+◌, ◌<◌, ◌≤◌, Bool, false, IsTrue, List, length, arith, subst, sym, ◌∙◌, inl, inr}
use Rattle.std.proofs.lemmas.Bool.{cases_eq, false≢true}
use Rattle.meta_journal.specs.Leading.{records, gate_of, IsOpen, HasNoneOpen, Holds}
use Rattle.meta_journal.proofs.Records.{leading_ends}

no_more : (more : Bool) → more ≡ false → IsTrue more → ⊥
no_more more none some = false≢true (sym none ∙ some)

module _ (first held : ℕ) (image : List ℕ) (more : Bool) (none : more ≡ false) (shut : held < 32 → IsOpen (gate_of first held) image → IsTrue more) (read : held ≤ length (records first image)) where
  -- they are all
  pub all_read : length (records first image) ≡ held
  all_read = leading_ends 32 first held image read (λ less opened. no_more more none (shut less opened))

  -- and none is open behind them
  pub holds_all : HasNoneOpen first (held + 1) image → Holds first held image
  holds_all behind = record {
    count = all_read;
    closed = λ r low less opened. elim (cases_eq r held) [
      | inl here ↦ no_more more none (shut (omega (arith, less, here)) (subst (λ k. IsOpen (gate_of first k) image) here opened))
      | inr other ↦ behind r (omega (arith, low, other)) less opened
    ];
  }
