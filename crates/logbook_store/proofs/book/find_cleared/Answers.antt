use Rattle.std.proofs.Common.{◌≡◌, ◌+◌, ℕ, Option, None, Some, option_map, sym, ◌∙◌, ap}
use Rattle.apex_model.specs.Fields.{log_header_of}
use Rattle.rig_core.specs.Bytes.{part}
use Rattle.gate_slots.specs.Place.{Place, gate_of, newest_slot}
use Rattle.logbook_store.specs.Regions.{headers_at}
use Rattle.logbook_store.proofs.Spelled.{no_header, cleared_there}
use Rattle.logbook_store.proofs.book.find_cleared.Goals as goal

pub returns-in_default-clause-cleared : goal.returns-in_default-clause-cleared
returns-in_default-clause-cleared g c row tells =
    let view = (g.R.Rig.state c.args.rig.now).view in
    no_header row c.args.start view (sym c.in_default.is ∙ c.in_ok-slot.ensures.newest tells ∙ ap (λ (p : Place). newest_slot p view) c.requires.place)

pub returns-in-Some-header_at-clause-cleared : goal.returns-in-Some-header_at-clause-cleared
returns-in-Some-header_at-clause-cleared g c row tells =
    let view = (g.R.Rig.state c.args.rig.now).view in
    let is : Some c.in-Some.slot ≡ newest_slot (headers_at c.args.start) view =
    sym c.in-Some.is ∙ c.in_ok-slot.ensures.newest tells ∙ ap (λ (p : Place). newest_slot p view) c.requires.place in
    let read : c.read.new.into ≡ part (gate_of (headers_at c.args.start) c.in-Some.slot + 512) 512 view =
    c.in_ok-read.ensures.bytes tells ∙ ap (part c.header_place.result 512) (c.find.ensures.reads.view tells) ∙ ap (λ (k : ℕ). part k 512 view) c.header_place.ensures in
    let spelled : Some c.in-Some-header_at.cleared ≡ option_map (λ (header : ℕ × ℕ). header.1) (log_header_of c.read.new.into) =
    sym (ap (option_map (λ (header : ℕ × ℕ). header.1)) (sym c.header_at.ensures ∙ c.in-Some-header_at.is)) in
    spelled ∙ cleared_there row c.args.start view c.in-Some.slot c.read.new.into is read

pub returns-in-None-clause-cleared : goal.returns-in-None-clause-cleared
returns-in-None-clause-cleared g c row tells =
    let view = (g.R.Rig.state c.args.rig.now).view in
    let is : Some c.in-Some.slot ≡ newest_slot (headers_at c.args.start) view =
    sym c.in-Some.is ∙ c.in_ok-slot.ensures.newest tells ∙ ap (λ (p : Place). newest_slot p view) c.requires.place in
    let read : c.read.new.into ≡ part (gate_of (headers_at c.args.start) c.in-Some.slot + 512) 512 view =
    c.in_ok-read.ensures.bytes tells ∙ ap (part c.header_place.result 512) (c.find.ensures.reads.view tells) ∙ ap (λ (k : ℕ). part k 512 view) c.header_place.ensures in
    let none : Option ℕ = None in
    let spelled : none ≡ option_map (λ (header : ℕ × ℕ). header.1) (log_header_of c.read.new.into) =
    sym (ap (option_map (λ (header : ℕ × ℕ). header.1)) (sym c.header_at.ensures ∙ c.in-None.is)) in
    spelled ∙ cleared_there row c.args.start view c.in-Some.slot c.read.new.into is read
