-- What a buffer and a pool end as, where a `&mut` to bytes is returned.
use Rattle.std.specs.Prelude.{ℕ, List}
use Rattle.std.specs.Borrow.{Lends, MutBor, Fml, Array, u8}
use Rattle.block_pool.specs.contracts.buffers.Buffer.{the_row}
use Rattle.block_pool.specs.Buffers.{written_over}

abbrev pub LendsBytes : MutBor (List ℕ) → MutBor (List ℕ) → Fml
LendsBytes buffer r = Lends the_row (Array u8 0) buffer r (written_over buffer.now)
