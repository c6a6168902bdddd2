use Rattle.std.proofs.Common.{◌≡◌, ◌+◌, ◌*◌, ◌≤◌, ℕ, List, Option, Result, Err, length, None, Some, sym, ap, subst, ◌∙◌, arith}
use Rattle.apex_model.specs.Layout.{body_blocks, tree_blocks}
use Rattle.rig_core.specs.Bytes.{part}
use Rattle.std.proofs.lemmas.Bool.Decides.{nat_tests}
use Rattle.gate_slots.specs.Place.{Place, gate_of, newest_slot, slot_size, slots_size}
use Rattle.gate_slots.specs.Slots.{Knows, place_of}
use Rattle.meta_journal.specs.Journal as journal
use Rattle.meta_journal.specs.Leading.{records}
use Rattle.tree_region.specs.Replay as replay
use Rattle.tree_region.specs.Bodies.{IsBody}
use Rattle.tree_region.specs.Numbers.{AreUsed, numbers_in}
use Rattle.tree_region.specs.Region.{slots_at, body_of, journal_of}
use Rattle.tree_region.proofs.GoodNumbers.{good-kept}
use Rattle.tree_region.proofs.JournalRoom.{room-there}
use Rattle.tree_region.proofs.Mounted.{bad-body, bad-records, good-tree, good-version}
use Rattle.tree_region.proofs.NamedNumbers.{named-used}
use Rattle.tree_region.proofs.Places.{none-newest}
use Rattle.tree_region.proofs.Replaying.{replayed-some}
use Rattle.tree_region.proofs.mounting.mount.Goals as goal

-- the same error in the place of another value
err-as : {A B E : Type 0} (x y : E) → ◌≡◌ {A = Result A E} (Err x) (Err y) → ◌≡◌ {A = Result B E} (Err x) (Err y)
err-as x y h = let same : x ≡ y = cc in ap Err same

pub returns-in-Err-clause-bad : goal.returns-in-Err-clause-bad
returns-in-Err-clause-bad g c = λ tells bad.
    let view = (g.R.Rig.state c.args.rig.now).view in
    let fits : c.args.at + 512 * tree_blocks c.args.row.now ≤ length view = omega (arith, c.requires, (g.met.R.Rig.sound c.args.rig.now).view_fills tells) in
    let place : place_of c.new-slots.result ≡ slots_at c.args.row.now c.args.at
    = c.new-slots.ensures.place ∙ ap (λ n. let p : Place = record { start = c.args.at; body = n; tail = 64 } in p) c.body_blocks-blocks.ensures.value in
    none-newest c.args.row.now c.args.at view fits (ap (λ (p : Place). newest_slot p view) (sym place) ∙ c.in-Err.ensures.bad tells (err-as c.in-Err.stop _ bad))

pub returns-in-Err-read_body_at-clause-bad : goal.returns-in-Err-read_body_at-clause-bad
returns-in-Err-read_body_at-clause-bad g c = λ tells bad.
    let row = c.args.row.now in
    let at = c.args.at in
    let view = (g.R.Rig.state c.args.rig.now).view in
    let fits : at + 512 * tree_blocks row ≤ length view = omega (arith, c.requires, (g.met.R.Rig.sound c.args.rig.now).view_fills tells) in
    let place : place_of c.new-slots.result ≡ slots_at row at
    = c.new-slots.ensures.place ∙ ap (λ n. let p : Place = record { start = at; body = n; tail = 64 } in p) c.body_blocks-blocks.ensures.value in
    let newest : newest_slot (slots_at row at) view ≡ Some c.in-Ok.newest
    = ap (λ (p : Place). newest_slot p view) (sym place) ∙ c.in-Ok.ensures.newest tells in
    let seen : (g.R.Rig.state c.find_newest.new.rig).view ≡ view = c.find_newest.ensures.reads.view tells in
    let body : part (c.slot_start-body_at.result + 512) (512 * body_blocks row) (g.R.Rig.state c.find_newest.new.rig).view ≡ body_of row at c.in-Ok.newest view
    = (λ i. part (c.slot_start-body_at.ensures i + 512) (512 * body_blocks row) (seen i)) in
    bad-body row at view fits c.in-Ok.newest newest
    (subst (λ (b : List ℕ). IsBody row b None) body (c.in-Err-read_body_at.ensures.bad tells (err-as c.in-Err-read_body_at.stop _ bad)))

pub returns-in-Err-replay_all-clause-bad : goal.returns-in-Err-replay_all-clause-bad
returns-in-Err-replay_all-clause-bad g c = λ tells bad.
    let row = c.args.row.now in
    let at = c.args.at in
    let kept = c.in-Ok-read_body_at.body in
    let view = (g.R.Rig.state c.args.rig.now).view in
    let fits : at + 512 * tree_blocks row ≤ length view = omega (arith, c.requires, (g.met.R.Rig.sound c.args.rig.now).view_fills tells) in
    let place : place_of c.new-slots.result ≡ slots_at row at
    = c.new-slots.ensures.place ∙ ap (λ n. let p : Place = record { start = at; body = n; tail = 64 } in p) c.body_blocks-blocks.ensures.value in
    let newest : newest_slot (slots_at row at) view ≡ Some c.in-Ok.newest
    = ap (λ (p : Place). newest_slot p view) (sym place) ∙ c.in-Ok.ensures.newest tells in
    let seen : (g.R.Rig.state c.find_newest.new.rig).view ≡ view = c.find_newest.ensures.reads.view tells in
    let body : part (c.slot_start-body_at.result + 512) (512 * body_blocks row) (g.R.Rig.state c.find_newest.new.rig).view ≡ body_of row at c.in-Ok.newest view
    = (λ i. part (c.slot_start-body_at.ensures i + 512) (512 * body_blocks row) (seen i)) in
    let is : IsBody row (body_of row at c.in-Ok.newest view) (Some kept) = subst (λ (b : List ℕ). IsBody row b (Some kept)) body (c.in-Ok-read_body_at.ensures.body tells) in
    let later : (g.R.Rig.state c.read_body_at.new.rig).view ≡ view = c.read_body_at.ensures.reads.view tells ∙ seen in
    let first : journal.first_of c.new-journal.result ≡ journal_of row at c.in-Ok.newest
    = c.new-journal.ensures.first ∙ (λ i. c.slot_start-body_at.ensures i + 512 + 512 * (c.from.ensures ∙ c.body_blocks-blocks.ensures.value) i) in
    bad-records row at view fits c.in-Ok.newest newest kept is c.in-Ok-read_body_at.ensures.files.0 c.in-Ok-read_body_at.ensures.directories.0 c.in-Ok-read_body_at.ensures.files.1 c.in-Ok-read_body_at.ensures.directories.1
    (ap (λ (rs : List (List ℕ)). replay.replayed kept.version (Some kept.tree) rs) (λ i. records (sym first i) (sym later i))
    ∙ c.in-Err-replay_all.ensures.bad tells (err-as c.in-Err-replay_all.stop _ bad))

pub returns-in-Ok-replay_all-clause-stands : goal.returns-in-Ok-replay_all-clause-stands
returns-in-Ok-replay_all-clause-stands g c = λ tells.
    let row = c.args.row.now in
    let at = c.args.at in
    let kept = c.in-Ok-read_body_at.body in
    let view = (g.R.Rig.state c.args.rig.now).view in
    let fits : at + 512 * tree_blocks row ≤ length view = omega (arith, c.requires, (g.met.R.Rig.sound c.args.rig.now).view_fills tells) in
    let place : place_of c.new-slots.result ≡ slots_at row at
    = c.new-slots.ensures.place ∙ ap (λ n. let p : Place = record { start = at; body = n; tail = 64 } in p) c.body_blocks-blocks.ensures.value in
    let newest : newest_slot (slots_at row at) view ≡ Some c.in-Ok.newest
    = ap (λ (p : Place). newest_slot p view) (sym place) ∙ c.in-Ok.ensures.newest tells in
    let seen : (g.R.Rig.state c.find_newest.new.rig).view ≡ view = c.find_newest.ensures.reads.view tells in
    let body : part (c.slot_start-body_at.result + 512) (512 * body_blocks row) (g.R.Rig.state c.find_newest.new.rig).view ≡ body_of row at c.in-Ok.newest view
    = (λ i. part (c.slot_start-body_at.ensures i + 512) (512 * body_blocks row) (seen i)) in
    let is : IsBody row (body_of row at c.in-Ok.newest view) (Some kept) = subst (λ (b : List ℕ). IsBody row b (Some kept)) body (c.in-Ok-read_body_at.ensures.body tells) in
    let later : (g.R.Rig.state c.read_body_at.new.rig).view ≡ view = c.read_body_at.ensures.reads.view tells ∙ seen in
    let first : journal.first_of c.new-journal.result ≡ journal_of row at c.in-Ok.newest
    = c.new-journal.ensures.first ∙ (λ i. c.slot_start-body_at.ensures i + 512 + 512 * (c.from.ensures ∙ c.body_blocks-blocks.ensures.value) i) in
    let replayed : replay.replayed kept.version (Some kept.tree) (records (journal_of row at c.in-Ok.newest) view) ≡ Some c.replay_all.new.tree
    = ap (λ (rs : List (List ℕ)). replay.replayed kept.version (Some kept.tree) rs) (λ i. records (sym first i) (sym later i)) ∙ c.in-Ok-replay_all.ensures.replayed tells in
    record {
      tree = good-tree row at view fits c.in-Ok.newest newest kept is c.in-Ok-read_body_at.ensures.files.0 c.in-Ok-read_body_at.ensures.directories.0 c.in-Ok-read_body_at.ensures.files.1
          c.in-Ok-read_body_at.ensures.directories.1 c.replay_all.new.tree replayed;
      newest = c.in-Ok.newest;
      is_newest = newest;
      spells = λ blocks data_long.
          let has = is.0 blocks data_long in
          let after = replayed-some blocks kept.table.files.items kept.version (records (journal_of row at c.in-Ok.newest) view) has.entries kept.tree has.read
          (omega (arith, c.in-Ok-read_body_at.ensures.files.0, c.in-Ok-read_body_at.ensures.files.1)) (omega (arith, c.in-Ok-read_body_at.ensures.directories.0, c.in-Ok-read_body_at.ensures.directories.1))
          c.replay_all.new.tree replayed in
          record {
            sequence = has.sequence;
            header = has.header;
            written = has.entries;
            spelled = has.spelled;
            tree = has.read.tree;
            made = has.read.made;
            entries = after.0;
            changed = after.1;
            has = after.2;
          };
      slots = subst (λ (v : List ℕ). Knows c.find_newest.new.slots v) seen (c.in-Ok.ensures.known tells);
      version = good-version row at view fits c.in-Ok.newest newest kept is;
      first = c.in-Ok-replay_all.ensures.first ∙ first;
      held = c.in-Ok-replay_all.ensures.held tells ∙ (λ i. length (records (first i) (later i)));
      room = subst (λ (v : List ℕ). journal.FindsRoom c.replay_all.new.journal v) later (c.in-Ok-replay_all.ensures.room tells);
      has_room = room-there row at view fits c.in-Ok.newest newest c.replay_all.new.journal (c.in-Ok-replay_all.ensures.first ∙ first)
          (c.in-Ok-replay_all.ensures.held tells ∙ (λ i. length (records (first i) (later i))))
          (subst (λ (v : List ℕ). journal.FindsRoom c.replay_all.new.journal v) later (c.in-Ok-replay_all.ensures.room tells)) kept.version
          (good-version row at view fits c.in-Ok.newest newest kept is);
      known = λ some. subst (λ (v : List ℕ). journal.Knows c.replay_all.new.journal v) later (c.in-Ok-replay_all.ensures.known tells some);
    }

gate-within : (p : Place) (slot : ℕ) → (p.start ≤ gate_of p slot) × (gate_of p slot + slot_size p ≤ p.start + slots_size p)
gate-within p slot = grind (arith, nat_tests)

pub returns-in-Ok-replay_all-clause-within : goal.returns-in-Ok-replay_all-clause-within
returns-in-Ok-replay_all-clause-within g c =
    let row = c.args.row.now in
    let at = c.args.at in
    let first : journal.first_of c.replay_all.new.journal ≡ journal_of row at c.in-Ok.newest
    = c.in-Ok-replay_all.ensures.first ∙ c.new-journal.ensures.first ∙ (λ i. c.slot_start-body_at.ensures i + 512 + 512 * (c.from.ensures ∙ c.body_blocks-blocks.ensures.value) i) in
    let inside = gate-within (slots_at row at) c.in-Ok.newest in
    record {
      place = c.in-Ok.ensures.place ∙ c.new-slots.ensures.place ∙ ap (λ n. let p : Place = record { start = at; body = n; tail = 64 } in p) c.body_blocks-blocks.ensures.value;
      from = omega (arith, first, inside.0);
      to = omega (arith, first, inside.1);
      few = (c.in-Ok-read_body_at.ensures.files.1, c.in-Ok-read_body_at.ensures.directories.1);
    }

pub returns-in-Ok-replay_all-clause-limits : goal.returns-in-Ok-replay_all-clause-limits
returns-in-Ok-replay_all-clause-limits g c = record {
  files = c.replay_all.ensures.files ∙ c.in-Ok-read_body_at.ensures.files.0;
  directories = c.replay_all.ensures.directories ∙ c.in-Ok-read_body_at.ensures.directories.0;
  table = c.in-Ok-read_body_at.ensures.rooms.files;
  rooms = c.in-Ok-read_body_at.ensures.rooms.rooms;
}

pub returns-in-Ok-replay_all-clause-good : goal.returns-in-Ok-replay_all-clause-good
returns-in-Ok-replay_all-clause-good g c =
    let kept = c.in-Ok-read_body_at.body in
    good-kept c.args.row.now kept.tree c.replay_all.new.tree kept.table.files.items c.replay_all.ensures.stored c.in-Ok-read_body_at.ensures.good

pub returns-in-Ok-replay_all-clause-used : goal.returns-in-Ok-replay_all-clause-used
returns-in-Ok-replay_all-clause-used g c = λ tells slot is_newest.
    let row = c.args.row.now in
    let at = c.args.at in
    let kept = c.in-Ok-read_body_at.body in
    let view = (g.R.Rig.state c.args.rig.now).view in
    let place : place_of c.new-slots.result ≡ slots_at row at
    = c.new-slots.ensures.place ∙ ap (λ n. let p : Place = record { start = at; body = n; tail = 64 } in p) c.body_blocks-blocks.ensures.value in
    let newest : newest_slot (slots_at row at) view ≡ Some c.in-Ok.newest
    = ap (λ (p : Place). newest_slot p view) (sym place) ∙ c.in-Ok.ensures.newest tells in
    let seen : (g.R.Rig.state c.find_newest.new.rig).view ≡ view = c.find_newest.ensures.reads.view tells in
    let body : part (c.slot_start-body_at.result + 512) (512 * body_blocks row) (g.R.Rig.state c.find_newest.new.rig).view ≡ body_of row at c.in-Ok.newest view
    = (λ i. part (c.slot_start-body_at.ensures i + 512) (512 * body_blocks row) (seen i)) in
    let is : IsBody row (body_of row at c.in-Ok.newest view) (Some kept) = subst (λ (b : List ℕ). IsBody row b (Some kept)) body (c.in-Ok-read_body_at.ensures.body tells) in
    let found : ◌≡◌ {A = Option ℕ} (Some c.in-Ok.newest) (Some slot) = sym newest ∙ is_newest in
    let same : c.in-Ok.newest ≡ slot = cc in
    subst (λ (s : ℕ). AreUsed row.quota (numbers_in row (body_of row at s view)) kept.table.used) same is.1

pub returns-in-Ok-replay_all-clause-marked : goal.returns-in-Ok-replay_all-clause-marked
returns-in-Ok-replay_all-clause-marked g c = λ tells.
    let row = c.args.row.now in
    let at = c.args.at in
    let kept = c.in-Ok-read_body_at.body in
    let view = (g.R.Rig.state c.args.rig.now).view in
    let fits : at + 512 * tree_blocks row ≤ length view = omega (arith, c.requires, (g.met.R.Rig.sound c.args.rig.now).view_fills tells) in
    let place : place_of c.new-slots.result ≡ slots_at row at
    = c.new-slots.ensures.place ∙ ap (λ n. let p : Place = record { start = at; body = n; tail = 64 } in p) c.body_blocks-blocks.ensures.value in
    let newest : newest_slot (slots_at row at) view ≡ Some c.in-Ok.newest
    = ap (λ (p : Place). newest_slot p view) (sym place) ∙ c.in-Ok.ensures.newest tells in
    let seen : (g.R.Rig.state c.find_newest.new.rig).view ≡ view = c.find_newest.ensures.reads.view tells in
    let body : part (c.slot_start-body_at.result + 512) (512 * body_blocks row) (g.R.Rig.state c.find_newest.new.rig).view ≡ body_of row at c.in-Ok.newest view
    = (λ i. part (c.slot_start-body_at.ensures i + 512) (512 * body_blocks row) (seen i)) in
    let is : IsBody row (body_of row at c.in-Ok.newest view) (Some kept) = subst (λ (b : List ℕ). IsBody row b (Some kept)) body (c.in-Ok-read_body_at.ensures.body tells) in
    λ n there one few. named-used row at view fits c.in-Ok.newest newest kept.table.used is.1 n there one few
