-- What a pool ends as, where a `&mut` to the bytes of a node is returned.
use Rattle.std.specs.Prelude.{ℕ, List}
use Rattle.std.specs.Borrow.{Lends, MutBor, Fml, Array, u8}
use Rattle.block_pool.specs.contracts.pool.Pool.{the_row}
use Rattle.block_pool.specs.Buffers.{Buffers, with_bytes}

-- the node has the bytes that were written last
abbrev pub LendsNode : MutBor Buffers → ℕ → MutBor (List ℕ) → Fml
LendsNode pool node r = Lends the_row (Array u8 0) pool r (with_bytes pool.now node)
