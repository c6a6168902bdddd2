use Rattle.std.proofs.Common.{◌≡◌, ℕ, List, map, sym, ◌∙◌, subst}
use Rattle.std.specs.List.{AllByRecursion}
use Rattle.apex_model.specs.Durable.{loaded_book}
use Rattle.rig_core.specs.MemRig.{mem_state, mem_sound}
use Rattle.rig_core.proofs.Regions.{settled_all}
use Rattle.logbook_store.specs.Logs.{sites_of, sites_from, size_of, AreLaidOut, StandFor}
use Rattle.logbook_tests.proofs.Known.{count_from, IsSmall, sites_small, still}
use Rattle.logbook_tests.proofs.moves.Device.mount.Goals as goal

pub invariant_of-result : goal.invariant_of-result
invariant_of-result c =
    let table = c.in_ok-table.table in
    let logs = c.in-Ok.logs in
    let o = mem_state c.in_ok-rig.rig in
    let e = mem_state c.mount.new.rig in
    let sites : sites_of logs ≡ sites_from table 0 table.logbooks = c.in-Ok.ensures.sites in
    let reads = c.mount.ensures.reads in
    let all = still (Unit {0}) (Unit {0}) o e (mem_sound c.mount.new.rig) reads c.in_ok-rig.ensures.settled in
    let found = c.in-Ok.ensures.stands tt in (
      count_from table logs sites ∙ c.in_ok-table.ensures.two,
      subst (AllByRecursion IsSmall) (sym sites) (sites_small table 0 table.logbooks c.in_ok-table.ensures.small),
      subst (AreLaidOut (sites_of logs)) (sym reads.later.size) c.in-Ok.ensures.laid_out,
      (λ j site is. settled_all site.1 (size_of site) e all),
      map loaded_book found.0,
      subst (λ (v : List ℕ). StandFor logs v (map loaded_book found.0)) (sym (reads.view tt)) found.2,
    )
