use Rattle.std.proofs.Common.{◌≡◌, ℕ, List, map, refl, sym, ◌∙◌, subst}
use Rattle.apex_model.specs.Durable.{loaded_book}
use Rattle.rig_core.proofs.Regions.{settled_all}
use Rattle.logbook_store.specs.Logs.{sites_of, size_of, AreLaidOut, StandFor}
use Rattle.logbook_services.proofs.Mounted.{new-of_table, unused-serving}
use Rattle.logbook_tests.proofs.Known.{count_from, still}
use Rattle.logbook_tests.proofs.steps.Logbooks.mount.Goals as goal

pub is_unused-requires : goal.is_unused-requires
is_unused-requires g c = count_from c.in_ok-table.table c.in-Ok.logs c.in-Ok.ensures.sites ∙ c.in_ok-table.ensures.three

pub returns : goal.returns
returns g c =
    let table = c.in_ok-table.table in
    let logs = c.in-Ok.logs in
    let made = c.in_ok-made.made in
    let o = g.R.Rig.state c.args.rig.now in
    let e = g.R.Rig.state c.mount.new.rig in
    let reads = c.mount.ensures.reads in
    let all = still g.R.Rig.tells_view g.R.Rig.keeps_cuts o e (g.met.R.Rig.sound c.mount.new.rig) reads c.requires in
    let of_table = new-of_table table logs made c.in-Ok.ensures.sites c.in_ok-made.ensures in
    record {
      accepted = c.in_ok-table.ensures.accepted;
      of_table = of_table;
      laid_out = subst (AreLaidOut (sites_of logs)) (sym reads.later.size) c.in-Ok.ensures.laid_out;
      settled = λ j site is. settled_all site.1 (size_of site) e all;
      serving = λ tells.
          let found = c.in-Ok.ensures.stands tells in
          unused-serving table logs made e.view found.0 of_table (subst (λ (v : List ℕ). StandFor logs v (map loaded_book found.0)) (sym (reads.view tells)) found.2) c.in_ok-made.ensures (c.if-not-is_unused.ensures refl);
    }
