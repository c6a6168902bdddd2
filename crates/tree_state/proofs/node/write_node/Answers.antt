use Rattle.std.proofs.Common.{◌≡◌, ℕ, ◌+◌, ◌*◌, ◌<◌, List, [], length, refl, sym, ap, ◌∙◌, subst, arith}
use Rattle.std.specs.Prelude.{false, slice_index_or}
use Rattle.std.proofs.lemmas.List.{with_items_is}
use Rattle.tree_region.specs.OwnedRows.{fresh_count, is_fresh, named_count, number_at, with_number}
use Rattle.apex_model.specs.Image.{data_block}
use Rattle.tree_region.specs.InStep.{data_at}
use Rattle.tree_state.proofs.FlushReleased.{front, held-same, released-fewer, released-freed, released-here, released-others}
use Rattle.tree_state.proofs.Contents.{rows-long}
use Rattle.tree_state.proofs.Room.{room-there}
use Rattle.tree_state.proofs.Written.{wrote}
use Rattle.tree_state.proofs.node.write_node.Goals as goal

pub write_present-requires-clause-room : goal.write_present-requires-clause-room
write_present-requires-clause-room g c =
    let s = c.args.state.now in
    let row = c.args.row.now in
    let is = c.requires.state in
    let f = c.args.file in
    let here = front g.R.Rig.tells_view row c.args.at (g.R.Rig.state c.args.rig.now) s f c.in-Some.k c.args.node is c.requires.file c.requires.sound c.requires.first c.requires.within c.in-Some.ensures in
    let P : List (List ℕ) → Type 0 = λ rows. is_fresh s.kept.table.files.items rows f.0 c.in-Some.k ≡ false → named_count s.kept.table.files.items + fresh_count s.kept.table.files.items rows < 2 * row.quota in
    subst P (sym c.deref_mut.ensures.value)
    (room-there row s.kept.tree s.present.sizes.items s.charges is.charged s.kept.table.files.items s.present.numbers.items s.present.pool is.in_step.limits.table is.zeros is.present f.0 c.in-Some.k here.low)

pub write_present-requires-clause-place : goal.write_present-requires-clause-place
write_present-requires-clause-place g c =
    let s = c.args.state.now in
    let row = c.args.row.now in
    let is = c.requires.state in
    let f = c.args.file in
    let here = front g.R.Rig.tells_view row c.args.at (g.R.Rig.state c.args.rig.now) s f c.in-Some.k c.args.node is c.requires.file c.requires.sound c.requires.first c.requires.within c.in-Some.ensures in
    let P : List (List ℕ) → Type 0 = λ rows. c.in-Some.k < length (slice_index_or rows f.0 []) in
    subst P (sym c.deref_mut.ensures.value) (omega (arith, here.low, is.present.fits f.0 c.requires.file, is.present.rooms f.0 c.requires.file))

pub returns-in_err-write_present-clause-writes : goal.returns-in_err-write_present-clause-writes
returns-in_err-write_present-clause-writes g c =
    let V = g.R.Rig.tells_view in
    let s = c.args.state.now in
    let row = c.args.row.now in
    let o = g.R.Rig.state c.args.rig.now in
    let e = g.R.Rig.state c.write_present.new.rig in
    let f = c.args.file in
    let k = c.in-Some.k in
    let done = c.write_present.ensures in
    let rows = c.write_present.new.present in
    let n = number_at rows f.0 k in
    let placed : rows ≡ with_number s.present.numbers.items f.0 k n = done.placed ∙ ap (λ (was : List (List ℕ)). with_number was f.0 k n) c.deref_mut.ensures.value in
    let long : length rows ≡ s.present.numbers.len = rows-long s.present.numbers.items rows f.0 k n placed ∙ ap (λ (was : List (List ℕ)). length was) (sym c.deref_mut.ensures.value) ∙ c.deref_mut.ensures.len in
    let here = front V row c.args.at o s f k c.args.node c.requires.state c.requires.file c.requires.sound c.requires.first c.requires.within c.in-Some.ensures in
    wrote V row c.args.at o e s _ f k n rows c.requires.state c.requires.file here.low
    (record {
      kept = done.durable;
      files = record { tree = done.durable.tree; sizes = refl; charges = refl };
      body = refl;
      tail = refl;
      in_step = done.in_step;
      numbers = with_items_is s.present.numbers rows long;
      placed = placed;
      first = done.first;
      last = done.last;
      not_durable = done.not_durable;
      once = done.once;
      apart = done.apart;
      used = done.used;
      others = record { nodes = λ g j other. refl; bytes = λ stored g j other. refl; lists = refl; count = refl };
      nodes = refl;
      fewer = λ h. omega arith;
      more = omega arith;
      any_moment = done.any_moment;
      tree = done.tree;
      here = λ tells. held-same s.present.pool f k c.args.node here.node_is (data_block (data_at row c.args.at e.view) n) (data_block (data_at row c.args.at o.view) (number_at s.present.numbers.items f.0 k));
      blocks = done.others;
      outside = done.outside;
      outside_view = done.outside_view;
      later = done.later;
      made = done.made;
    })
    here.room

pub returns-clause-freed : goal.returns-clause-freed
returns-clause-freed g c =
    let s = c.args.state.now in
    let lists : c.args.file.0 + 1 < length s.present.pool.lists = omega (arith, c.requires.file, c.requires.state.present.lists) in
    released-freed s.present.pool c.release.new.self c.requires.sound c.args.file c.args.node lists c.requires.within c.requires.first c.release.ensures.released

pub returns-clause-writes : goal.returns-clause-writes
returns-clause-writes g c =
    let V = g.R.Rig.tells_view in
    let s = c.args.state.now in
    let row = c.args.row.now in
    let o = g.R.Rig.state c.args.rig.now in
    let e = g.R.Rig.state c.write_present.new.rig in
    let f = c.args.file in
    let k = c.in-Some.k in
    let node = c.args.node in
    let done = c.write_present.ensures in
    let rows = c.write_present.new.present in
    let n = number_at rows f.0 k in
    let placed : rows ≡ with_number s.present.numbers.items f.0 k n = done.placed ∙ ap (λ (was : List (List ℕ)). with_number was f.0 k n) c.deref_mut.ensures.value in
    let long : length rows ≡ s.present.numbers.len = rows-long s.present.numbers.items rows f.0 k n placed ∙ ap (λ (was : List (List ℕ)). length was) (sym c.deref_mut.ensures.value) ∙ c.deref_mut.ensures.len in
    let pool = s.present.pool in
    let now = c.release.new.self in
    let here = front V row c.args.at o s f k node c.requires.state c.requires.file c.requires.sound c.requires.first c.requires.within c.in-Some.ensures in
    wrote V row c.args.at o e s _ f k n rows c.requires.state c.requires.file here.low
    (record {
      kept = done.durable;
      files = record { tree = done.durable.tree; sizes = refl; charges = refl };
      body = refl;
      tail = refl;
      in_step = done.in_step;
      numbers = with_items_is s.present.numbers rows long;
      placed = placed;
      first = done.first;
      last = done.last;
      not_durable = done.not_durable;
      once = done.once;
      apart = done.apart;
      used = done.used;
      others = released-others pool now c.requires.sound f k node here.node_is c.release.ensures.released;
      nodes = c.release.ensures.buffers;
      fewer = λ h. released-fewer pool now c.requires.sound f k node here.node_is c.release.ensures.released h;
      more = let freed = returns-clause-freed g c in omega (arith, freed);
      any_moment = done.any_moment;
      tree = done.tree;
      here = λ tells.
          released-here pool now c.requires.sound f k node here.node_is c.release.ensures.released (data_block (data_at row c.args.at e.view) n) (data_block (data_at row c.args.at o.view) (number_at s.present.numbers.items f.0 k))
          (c.in_ok-write_present.ensures.written tells ∙ c.bytes-bytes.ensures.value);
      blocks = done.others;
      outside = done.outside;
      outside_view = done.outside_view;
      later = done.later;
      made = done.made;
    })
    here.room
