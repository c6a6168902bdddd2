use Rattle.std.proofs.Common.{◌≡◌, ℕ, ◌<◌, length}
use Rattle.tree_region.specs.Rows.{Forgets, EndsWithContent}
use Rattle.tree_region.proofs.forgetting.forget_rows.Given as goal

-- rows were forgotten, and those before this place have no number behind the content
abbrev pub invariant-loop-place : goal.invariant-loop-place
invariant-loop-place l = record {
  forgets : Forgets l.fn.kept l.kept;
  ends : (f : ℕ) → f < l.place → EndsWithContent l.kept f;
  many : l.place-end ≡ length l.fn.kept.table.files.items;
}
