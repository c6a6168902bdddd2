use Rattle.std.proofs.Common.{◌≡◌, ◌⊎◌, ◌+◌, ◌%◌, ◌++◌, [], Some, length, refl, sym, ◌∙◌, ap, subst}
use Rattle.apex_model.specs.Durable.{StoredLogbook}
use Rattle.apex_model.specs.Fields.{log_header_of}
use Rattle.rig_core.specs.Bytes.{SameElsewhere}
use Rattle.rig_core.specs.Leaves.{Leaves, LeavesElsewhere}
use Rattle.gate_slots.specs.Place.{Place, newest_content, slots_size}
use Rattle.gate_slots.specs.Slots.{number_of}
use Rattle.logbook_store.proofs.Cleared.{some_content}
use Rattle.logbook_store.proofs.Clearing.{body_spells, header_is, clear_leaves, either, after, places_stay}
use Rattle.logbook_store.proofs.book.Book.clear.Goals as goal

pub returns-in_err-commit-clause-any_moment : goal.returns-in_err-commit-clause-any_moment
returns-in_err-commit-clause-any_moment g c b tells stands =
    let book = c.args.self.now in
    let o = g.R.Rig.state c.args.rig.now in
    let e = g.R.Rig.state c.commit.new.rig in
    let stored : StoredLogbook = record { life = b.life; logged = b.logged } in
    let held = some_content book.row book.start o.view stored stands.region in
    let there = subst (λ (p : Place). newest_content p o.view ≡ Some held.0) (sym book.placed) held.1 in
    let number = (number_of book.headers + 1) % 3 in
    let long : length c.put_header.new.b ≡ 512 = search in
    let spells : log_header_of (c.commit.new.body ++ []) ≡ Some (number, b.life) =
    body_spells c.put_header.new.b [] c.commit.new.body number (number_of book.headers) b.life long (c.put_header.ensures ∙ ap (header_is 0) stands.life) refl c.commit.ensures.numbered refl in
    let run = subst (λ (p : Place). Leaves (λ image. (newest_content p image ≡ Some held.0) ⊎ (newest_content p image ≡ Some (c.commit.new.body ++ []))) o e) book.placed (c.commit.ensures.any_moment held.0 tells there) in
    let outside = subst (λ (p : Place). LeavesElsewhere p.start (slots_size p) o e) book.placed c.commit.ensures.outside in
    clear_leaves g.R.Rig.tells_view g.R.Rig.keeps_cuts book.row book.start b held.0 (c.commit.new.body ++ []) number o e (g.met.R.Rig.sound c.args.rig.now) tells c.requires.settled stands.region held.1 spells run outside

pub returns-clause-any_moment : goal.returns-clause-any_moment
returns-clause-any_moment g c b tells stands =
    let book = c.args.self.now in
    let o = g.R.Rig.state c.args.rig.now in
    let e = g.R.Rig.state c.commit.new.rig in
    let stored : StoredLogbook = record { life = b.life; logged = b.logged } in
    let held = some_content book.row book.start o.view stored stands.region in
    let there = subst (λ (p : Place). newest_content p o.view ≡ Some held.0) (sym book.placed) held.1 in
    let number = (number_of book.headers + 1) % 3 in
    let long : length c.put_header.new.b ≡ 512 = search in
    let spells : log_header_of (c.commit.new.body ++ []) ≡ Some (number, b.life) =
    body_spells c.put_header.new.b [] c.commit.new.body number (number_of book.headers) b.life long (c.put_header.ensures ∙ ap (header_is 0) stands.life) refl c.commit.ensures.numbered refl in
    let run = subst (λ (p : Place). Leaves (λ image. (newest_content p image ≡ Some held.0) ⊎ (newest_content p image ≡ Some (c.commit.new.body ++ []))) o e) book.placed (c.commit.ensures.any_moment held.0 tells there) in
    let outside = subst (λ (p : Place). LeavesElsewhere p.start (slots_size p) o e) book.placed c.commit.ensures.outside in
    clear_leaves g.R.Rig.tells_view g.R.Rig.keeps_cuts book.row book.start b held.0 (c.commit.new.body ++ []) number o e (g.met.R.Rig.sound c.args.rig.now) tells c.requires.settled stands.region held.1 spells run outside

pub returns-in_err-commit-clause-shown : goal.returns-in_err-commit-clause-shown
returns-in_err-commit-clause-shown g c b tells stands =
    let book = c.args.self.now in
    let o = g.R.Rig.state c.args.rig.now in
    let e = g.R.Rig.state c.commit.new.rig in
    let stored : StoredLogbook = record { life = b.life; logged = b.logged } in
    let held = some_content book.row book.start o.view stored stands.region in
    let there = subst (λ (p : Place). newest_content p o.view ≡ Some held.0) (sym book.placed) held.1 in
    let number = (number_of book.headers + 1) % 3 in
    let long : length c.put_header.new.b ≡ 512 = search in
    let spells : log_header_of (c.commit.new.body ++ []) ≡ Some (number, b.life) =
    body_spells c.put_header.new.b [] c.commit.new.body number (number_of book.headers) b.life long (c.put_header.ensures ∙ ap (header_is 0) stands.life) refl c.commit.ensures.numbered refl in
    let same = subst (λ (p : Place). SameElsewhere p.start (slots_size p) o.view e.view) book.placed (c.commit.ensures.outside_view tells) in
    let one = subst (λ (p : Place). (newest_content p e.view ≡ Some held.0) ⊎ (newest_content p e.view ≡ Some (c.commit.new.body ++ []))) book.placed (c.commit.ensures.shown held.0 tells there) in
    either book.row book.start b o.view held.0 (c.commit.new.body ++ []) number stands.region held.1 spells e.view same.long (places_stay book.row book.start o.view e.view same) one

pub returns-clause-shown : goal.returns-clause-shown
returns-clause-shown g c b tells stands =
    let book = c.args.self.now in
    let o = g.R.Rig.state c.args.rig.now in
    let e = g.R.Rig.state c.commit.new.rig in
    let stored : StoredLogbook = record { life = b.life; logged = b.logged } in
    let held = some_content book.row book.start o.view stored stands.region in
    let there = subst (λ (p : Place). newest_content p o.view ≡ Some held.0) (sym book.placed) held.1 in
    let number = (number_of book.headers + 1) % 3 in
    let long : length c.put_header.new.b ≡ 512 = search in
    let spells : log_header_of (c.commit.new.body ++ []) ≡ Some (number, b.life) =
    body_spells c.put_header.new.b [] c.commit.new.body number (number_of book.headers) b.life long (c.put_header.ensures ∙ ap (header_is 0) stands.life) refl c.commit.ensures.numbered refl in
    let same = subst (λ (p : Place). SameElsewhere p.start (slots_size p) o.view e.view) book.placed (c.commit.ensures.outside_view tells) in
    let one = subst (λ (p : Place). (newest_content p e.view ≡ Some held.0) ⊎ (newest_content p e.view ≡ Some (c.commit.new.body ++ []))) book.placed (c.commit.ensures.shown held.0 tells there) in
    either book.row book.start b o.view held.0 (c.commit.new.body ++ []) number stands.region held.1 spells e.view same.long (places_stay book.row book.start o.view e.view same) one

pub returns-clause-cleared : goal.returns-clause-cleared
returns-clause-cleared g c b tells stands =
    let book = c.args.self.now in
    let o = g.R.Rig.state c.args.rig.now in
    let e = g.R.Rig.state c.commit.new.rig in
    let stored : StoredLogbook = record { life = b.life; logged = b.logged } in
    let held = some_content book.row book.start o.view stored stands.region in
    let there = subst (λ (p : Place). newest_content p o.view ≡ Some held.0) (sym book.placed) held.1 in
    let number = (number_of book.headers + 1) % 3 in
    let long : length c.put_header.new.b ≡ 512 = search in
    let spells : log_header_of (c.commit.new.body ++ []) ≡ Some (number, b.life) =
    body_spells c.put_header.new.b [] c.commit.new.body number (number_of book.headers) b.life long (c.put_header.ensures ∙ ap (header_is 0) stands.life) refl c.commit.ensures.numbered refl in
    let same = subst (λ (p : Place). SameElsewhere p.start (slots_size p) o.view e.view) book.placed (c.commit.ensures.outside_view tells) in
    let is = subst (λ (p : Place). newest_content p e.view ≡ Some (c.commit.new.body ++ [])) book.placed (c.in_ok-commit.ensures.committed tells) in
    record {
      region = after book.row book.start b o.view held.0 (c.commit.new.body ++ []) number stands.region held.1 spells e.view same.long (places_stay book.row book.start o.view e.view same) is;
      life = stands.life;
      logged = refl;
      in_progress = c.new-self.ensures;
      headers = c.in_ok-commit.ensures.known tells;
    }
