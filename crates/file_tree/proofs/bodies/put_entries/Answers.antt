use Rattle.std.proofs.Common.{◌≡◌, ◌<◌, ◌≤◌, ℕ, ◌+◌, ◌*◌, List, length, Option, Some, None, inl, inr, sym, ap, ◌∙◌, arith}
use Rattle.std.proofs.lemmas.Bool.{cases_eq}
use Rattle.std.proofs.lemmas.List.{get_or_read}
use Rattle.std.specs.Prelude.{option_map}
use Rattle.apex_model.specs.Fields.{entry_of_bytes}
use Rattle.apex_model.specs.Image.{entry_bytes}
use Rattle.file_tree.specs.declared.entries.Entry.{Entry}
use Rattle.file_tree.specs.Bodies.{entry_by}
use Rattle.file_tree.specs.Checks.{kept}
use Rattle.file_tree.specs.Entries.{slot}
use Rattle.file_tree.specs.Images.{named_entry}
use Rattle.file_tree.proofs.Written.{written, written-long, written-here, written-there, written-front, written-behind, drop-later}
use Rattle.file_tree.proofs.bodies.put_entries.Goals as goal

pub loop-k-preserved : goal.loop-k-preserved
loop-k-preserved c =
    let body = c.loop-k.body in
    let bytes = c.put_entry.new.b in
    let start = c.args.start in
    let k = c.loop-k.k in
    let room : 64 + 128 * (start + k) + 128 ≤ length body = search arith in
    let within : c.loop-k.k < length c.args.entries.now = search arith in
    let long : length bytes ≡ 128 = search arith in
    let read : List ℕ → Option (Option Entry) = λ xs. option_map (option_map named_entry) (entry_by c.args.kind (entry_of_bytes 2 xs)) in
    record {
      long = written-long start k body bytes room long ∙ c.loop-k.invariant.long;
      entries = λ j less. elim (cases_eq j k) [
        | inl e ↦ ap (λ n. read (entry_bytes (written start k body bytes room long) (start + n))) e ∙ ap read (written-here start k body bytes room long)
            ∙ ap (λ (o : Option _). option_map (option_map named_entry) (entry_by c.args.kind o)) c.put_entry.ensures ∙ c.field_of.ensures
            ∙ ap (λ (place : Option Entry). Some (kept c.args.kind place)) (get_or_read c.args.entries.now c.loop-k.k c.index-entries-k.result within c.index-entries-k.is None) ∙ ap (λ n. Some (kept c.args.kind (slot c.args.entries.now n))) (sym e)
        | inr other ↦ let below : j < k = omega (arith, less, other) in ap read (written-there start k body bytes room long j below) ∙ c.loop-k.invariant.entries j below
      ];
      front = written-front start k body bytes room long ∙ c.loop-k.invariant.front;
      behind = written-behind start k body bytes room long ∙ drop-later (64 + 128 * (start + k)) (64 + 128 * (start + (k + 1))) body c.args.body.now (omega arith) c.loop-k.invariant.behind;
    }
