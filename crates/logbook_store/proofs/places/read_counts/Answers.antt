use Rattle.std.proofs.Common.{◌≡◌, ℕ, List, Some, option_map, sym, ◌∙◌, ap, arith}
use Rattle.apex_model.specs.Image.{greatest}
use Rattle.logbook_store.specs.Regions.{region_at, places_in}
use Rattle.logbook_store.proofs.Spelled.{all_messages}
use Rattle.logbook_store.proofs.places.read_counts.Goals as goal

pub returns-clause-good : goal.returns-clause-good
returns-clause-good g c tells =
    let row = c.args.row.now in
    let view = (g.R.Rig.state c.args.rig.now).view in
    let seen = (g.R.Rig.state c.greatest_number.new.rig).view in
    let places = places_in row (region_at row c.args.start view) in
    let life_is : Some c.in-Some.life ≡ option_map (greatest c.args.cleared) places = sym c.in-Some.is ∙ c.in_ok-life.ensures.greatest tells in
    let same = c.greatest_number.ensures.reads.view tells in
    all_messages row c.args.cleared c.in-Some.life c.max-below.result c.saturating_sub-logged.result places life_is (omega (arith, c.max-below.ensures, c.saturating_sub.ensures, c.from.ensures)) (omega (arith, c.saturating_sub-logged.ensures))
    (λ found are. sym c.if-not-branch.false ∙ c.in_ok-has_all.ensures.all found tells (ap (λ (v : List ℕ). places_in row (region_at row c.args.start v)) same ∙ are))
