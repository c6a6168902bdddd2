-- What a format doesn't write stays, call by call.
use Rattle.std.proofs.Common.{◌≡◌, ⊎_elim, ℕ, ◌+◌, ◌*◌, ◌<◌, ◌≤◌, List, sum_by, Some, slice_get, refl, sym, ◌∙◌, ap, subst, arith}
use Rattle.std.proofs.lemmas.Bool.{cases_lt}
use Rattle.rig_core.specs.Bytes.{byte, SameElsewhere}
use Rattle.rig_core.specs.Outside.{Outside, AllNow, Sound, Later, AddsNone}
use Rattle.rig_core.specs.Leaves.{Leaves, FromNow, IsAllSettled}
use Rattle.rig_core.proofs.Moments.{leaves_none, leaves_same, leaves_then, leaves_weaker, leaves_now}
use Rattle.apex_types.specs.Rows.{Rows}
use Rattle.apex_types.specs.declared.rows.LogbookRow.{LogbookRow}
use Rattle.apex_types.specs.declared.rows.TreeRow.{TreeRow}
use Rattle.apex_model.specs.Layout.{layout_blocks, tree_start, logbook_start, slot_blocks, tree_blocks, logbook_blocks}
use Rattle.image_format.proofs.Regions.{tree_start-next, tree_within, logbook_within, trees_within}
use Rattle.recover_scan.specs.Format.{ChangesOnly, KeepsRest, SparesRest, IsWholeEmpty}
use Rattle.recover_scan.proofs.Ordered.{sums_rise}

pub keeps_same : (table : Rows) (image : List ℕ) → KeepsRest table image image
keeps_same table image = record {
  long = refl;
  gate = λ k low high. refl;
  data_blocks = λ tree row found. record { within = λ k low high. refl };
  behind = λ k low. refl;
}

-- a range that a format writes
abbrev pub IsWritten : Rows → ℕ → ℕ → Type 0
IsWritten table at n = (base from image : List ℕ) → SameElsewhere at n from image → KeepsRest table base from → KeepsRest table base image

pub gate_written : (table : Rows) → IsWritten table 0 1
gate_written table base from image same keeps = record {
  long = same.long ∙ keeps.long;
  gate = λ k low high. same.above k (omega (arith, low)) ∙ keeps.gate k low high;
  data_blocks = λ tree row found. record { within = λ k low high. same.above k (omega (arith, low)) ∙ (keeps.data_blocks tree row found).within k low high };
  behind = λ k low. same.above k (omega (arith, low)) ∙ keeps.behind k low;
}

pub superblock_written : (table : Rows) → IsWritten table 512 16384
superblock_written table base from image same keeps = record {
  long = same.long ∙ keeps.long;
  gate = λ k low high. same.below k (omega (arith, high)) ∙ keeps.gate k low high;
  data_blocks = λ tree row found. record { within = λ k low high. same.above k (omega (arith, low)) ∙ (keeps.data_blocks tree row found).within k low high };
  behind = λ k low. same.above k (omega (arith, low)) ∙ keeps.behind k low;
}

same_row : (rows : List TreeRow) (t u : ℕ) (row other : TreeRow) → slice_get rows t ≡ Some row → slice_get rows u ≡ Some other → t ≡ u → slot_blocks row ≡ slot_blocks other
same_row rows t u row other found there is =
    let here : slice_get rows t ≡ Some other = subst (λ k. slice_get rows k ≡ Some other) (sym is) there in
    let same : row ≡ other = let both : Some row ≡ Some other = sym found ∙ here in cc in
    ap (λ (r : TreeRow). slot_blocks r) same

pub slots_written : (table : Rows) (tree : ℕ) (row : TreeRow) → slice_get table.trees tree ≡ Some row → IsWritten table (512 * tree_start table tree) (1024 * slot_blocks row)
slots_written table t row found base from image same keeps = record {
  long = same.long ∙ keeps.long;
  gate = λ k low high. same.below k (omega (arith, high)) ∙ keeps.gate k low high;
  data_blocks = λ tree other there. record {
    within = λ k low high.
        let here : byte image k ≡ byte from k = ⊎_elim
        (λ less. let next = tree_start-next table tree other there in
        let rises : tree_start table (tree + 1) ≤ tree_start table t = omega (arith, sums_rise tree_blocks table.trees (tree + 1) t (omega (arith, less))) in
        same.below k (omega (arith, high, next, rises)))
        (λ past. ⊎_elim
        (λ more. let next = tree_start-next table t row found in
        let rises : tree_start table (t + 1) ≤ tree_start table tree = omega (arith, sums_rise tree_blocks table.trees (t + 1) tree (omega (arith, more))) in
        same.above k (omega (arith, low, next, rises)))
        (λ last. let is : t ≡ tree = omega (arith, past, last) in
        let blocks = same_row table.trees t tree row other found there is in
        let place : tree_start table t ≡ tree_start table tree = ap (λ (n : ℕ). tree_start table n) is in
        same.above k (omega (arith, low, blocks, place)))
        (cases_lt t tree))
        (cases_lt tree t) in
        here ∙ (keeps.data_blocks tree other there).within k low high;
  };
  behind = λ k low. same.above k (omega (arith, low, tree_within table t row found, trees_within table)) ∙ keeps.behind k low;
}

pub logbook_written : (table : Rows) (logbook : ℕ) (row : LogbookRow) → slice_get table.logbooks logbook ≡ Some row → IsWritten table (512 * logbook_start table logbook) (512 * logbook_blocks row)
logbook_written table logbook row found base from image same keeps = record {
  long = same.long ∙ keeps.long;
  gate = λ k low high. same.below k (omega (arith, high)) ∙ keeps.gate k low high;
  data_blocks = λ tree other there. record { within = λ k low high. same.below k (omega (arith, high, tree_within table tree other there)) ∙ (keeps.data_blocks tree other there).within k low high };
  behind = λ k low. same.above k (omega (arith, low, logbook_within table logbook row found)) ∙ keeps.behind k low;
}

-- ---- calls one behind the other

pub spares_none : (V : Type 0) (table : Rows) (o : Outside) → SparesRest V table o o
spares_none V table o = record { cuts = λ base all. leaves_none (KeepsRest table base) o all; view = λ tells base keeps. keeps }

pub spares_then : (V K : Type 0) (table : Rows) (o m e : Outside) → Sound V K m → SparesRest V table o m → SparesRest V table m e → SparesRest V table o e
spares_then V K table o m e sound first second = record {
  cuts = λ base all. leaves_then (KeepsRest table base) o m e (first.cuts base all) (second.cuts base (leaves_now (KeepsRest table base) o m sound (first.cuts base all)));
  view = λ tells base keeps. second.view tells base (first.view tells base keeps);
}

-- calls that change a range that a format writes
pub spares_changes : (V : Type 0) (table : Rows) (at n : ℕ) (m e : Outside) → IsWritten table at n → ChangesOnly V at n m e → SparesRest V table m e
spares_changes V table at n m e written run = record {
  cuts = λ base all. leaves_weaker (FromNow at n m) (KeepsRest table base) m e (λ image from. written base from.0 image from.3 (all from.0 from.1 from.2)) run.cuts;
  view = λ tells base keeps. written base m.view e.view (run.view tells) keeps;
}

-- a call that adds nothing
pub spares_same : (V : Type 0) (table : Rows) (m e : Outside) → Later m e → e.told ≡ m.told → (V → e.view ≡ m.view) → AddsNone m e → SparesRest V table m e
spares_same V table m e later told view none = record {
  cuts = λ base all. leaves_same (KeepsRest table base) m e later.clock told none all;
  view = λ tells base keeps. subst (KeepsRest table base) (sym (view tells)) keeps;
}

-- one tree more, and one logbook more
pub tree_spares : (V K : Type 0) (table : Rows) (tree at long : ℕ) (row : TreeRow) (o m e : Outside) → Sound V K m → slice_get table.trees tree ≡ Some row → at ≡ 512 * tree_start table tree → long ≡ 1024 * slot_blocks row
    → SparesRest V table o m → ChangesOnly V at long m e → SparesRest V table o e
tree_spares V K table tree at long row o m e sound found is_at is_long before now =
    let placed = subst (λ k. ChangesOnly V k long m e) is_at now in
    let here = subst (λ n. ChangesOnly V (512 * tree_start table tree) n m e) is_long placed in
    spares_then V K table o m e sound before (spares_changes V table (512 * tree_start table tree) (1024 * slot_blocks row) m e (slots_written table tree row found) here)

pub logbook_spares : (V K : Type 0) (table : Rows) (logbook at long : ℕ) (row : LogbookRow) (o m e : Outside) → Sound V K m → slice_get table.logbooks logbook ≡ Some row → at ≡ 512 * logbook_start table logbook → long ≡ 512 * logbook_blocks row
    → SparesRest V table o m → ChangesOnly V at long m e → SparesRest V table o e
logbook_spares V K table logbook at long row o m e sound found is_at is_long before now =
    let placed = subst (λ k. ChangesOnly V k long m e) is_at now in
    let here = subst (λ n. ChangesOnly V (512 * logbook_start table logbook) n m e) is_long placed in
    spares_then V K table o m e sound before (spares_changes V table (512 * logbook_start table logbook) (512 * logbook_blocks row) m e (logbook_written table logbook row found) here)

-- ---- a whole format

-- before the first call
pub rest_none : (table : Rows) (o : Outside) → IsAllSettled o → Leaves (KeepsRest table o.view) o o
rest_none table o settled = leaves_none (KeepsRest table o.view) o (λ image told now. subst (KeepsRest table o.view) (sym (settled image told now)) (keeps_same table o.view))

-- from a start with nothing pending
pub keeps_rest : (V : Type 0) (table : Rows) (o e : Outside) → IsAllSettled o → SparesRest V table o e → Leaves (KeepsRest table o.view) o e
keeps_rest V table o e settled run = run.cuts o.view (λ image told now. subst (KeepsRest table o.view) (sym (settled image told now)) (keeps_same table o.view))

pub keeps_rest_shown : (V : Type 0) (table : Rows) (o e : Outside) → SparesRest V table o e → V → KeepsRest table o.view e.view
keeps_rest_shown V table o e run tells = run.view tells o.view (keeps_same table o.view)

-- from the last sync on
pub whole_now : (V K : Type 0) (table : Rows) (old : List ℕ) (e : Outside) → Sound V K e → IsAllSettled e → (V → IsWholeEmpty table old e.view) → AllNow (IsWholeEmpty table old) e
whole_now V K table old e sound settled whole image told now = subst (IsWholeEmpty table old) (sym (settled image told now)) (whole (sound.shown e.clock image told now))
