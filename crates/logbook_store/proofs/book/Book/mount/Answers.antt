use Rattle.std.proofs.Common.{◌≡◌, ℕ, List, Option, Some, refl, sym, ◌∙◌, ap, subst}
use Rattle.std.specs.Prelude.{is_some}
use Rattle.apex_types.specs.declared.rows.LogbookRow.{LogbookRow}
use Rattle.apex_model.specs.Image.{logbook_of_region}
use Rattle.logbook_store.specs.Regions.{region_at, places_in, stored_above}
use Rattle.logbook_store.proofs.Spelled.{region_above, above, found_counts}
use Rattle.logbook_store.proofs.book.Book.mount.Goals as goal

pub returns-in_default-clause-bad : goal.returns-in_default-clause-bad
returns-in_default-clause-bad g c tells none =
    let row = c.args.row.now in
    let region = region_at row c.args.start (g.R.Rig.state c.args.rig.now).view in
    region_above row region ∙ ap (above row (places_in row region)) (sym (c.in_ok-cleared.ensures.cleared row tells) ∙ c.in_default.is)

pub returns-in_default-2-clause-bad : goal.returns-in_default-2-clause-bad
returns-in_default-2-clause-bad g c tells none =
    let row = c.args.row.now in
    let region = region_at row c.args.start (g.R.Rig.state c.args.rig.now).view in
    region_above row region ∙ ap (above row (places_in row region)) (sym (c.in_ok-cleared.ensures.cleared row tells) ∙ c.in-Some.is)
    ∙ ap (λ (v : List ℕ). stored_above row c.in-Some.cleared (places_in row (region_at row c.args.start v))) (sym (c.find_cleared.ensures.reads.view tells))
    ∙ c.in_ok-counts.ensures.bad tells c.in_default-2.is

pub returns-clause-stands : goal.returns-clause-stands
returns-clause-stands g c tells =
    let row = c.args.row.now in
    let view = (g.R.Rig.state c.args.rig.now).view in
    let region = region_at row c.args.start view in
    let at = places_in row (region_at row c.args.start (g.R.Rig.state c.find_cleared.new.rig).view) in
    let counts = found_counts row c.in-Some.cleared at c.in_ok-counts.field-0 c.in-Some-2.counts c.in-Some-2.is (c.in_ok-counts.ensures.good tells) in
    let spelled : logbook_of_region row region ≡ Some (record { life = c.in-Some-2.counts.0; logged = counts.0 }) =
    region_above row region ∙ ap (above row (places_in row region)) (sym (c.in_ok-cleared.ensures.cleared row tells) ∙ c.in-Some.is)
    ∙ ap (λ (v : List ℕ). stored_above row c.in-Some.cleared (places_in row (region_at row c.args.start v))) (sym (c.find_cleared.ensures.reads.view tells))
    ∙ counts.1 in (
      counts.0,
      record {
        region = subst (λ (r : LogbookRow). logbook_of_region r (region_at r c.args.start view) ≡ Some (record { life = c.in-Some-2.counts.0; logged = counts.0 })) (sym c.copy_of.ensures) spelled;
        life = refl;
        logged = counts.2;
        in_progress = c.new.ensures;
        headers = c.in_ok-cleared.ensures.known tells (ap (λ (o : Option ℕ). is_some o) c.in-Some.is);
      },
    )
