-- A view of the device's size, which is that of the rig where the rig tells it.
use Rattle.std.proofs.Common.{◌≡◌, ℕ, List, ◌++◌, length, take, replicate, sym, ap, ◌∙◌, arith}
use Rattle.std.proofs.lemmas.List.{places}
use Rattle.std.proofs.Math.Seq.{take-append_seam}
use Rattle.rig_core.specs.Outside.{Outside, Sound}

pub some_view : (V K : Type 0) (o : Outside) → Sound V K o → (view : List ℕ) × (length view ≡ o.size) × (V → view ≡ o.view)
some_view V K o sound = (
  take o.size (o.view ++ replicate o.size 0),
  grind (arith, places),
  λ tells. ap (λ (n : ℕ). take n (o.view ++ replicate o.size 0)) (sym (sound.view_fills tells)) ∙ take-append_seam o.view (replicate o.size 0),
)
