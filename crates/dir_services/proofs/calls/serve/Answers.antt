use Rattle.std.proofs.Common.{ℕ, List, Ok, sym, subst}
use Rattle.apex_types.specs.declared.calls.DirCall.{DirCall}
use Rattle.apex_model.specs.DirectoryStep.{directory_service, open_directory, close_directory, read_directory, rewind_directory, make_directory, remove_directory, sync_directory}
use Rattle.service_parts.specs.Serving.{IsServed, Serves}
use Rattle.service_parts.proofs.Closing.{served_still}
use Rattle.service_parts.proofs.Held.{all_outlined}
use Rattle.dir_services.proofs.ServingLaws.{seen_serving}
use Rattle.dir_services.proofs.calls.serve.Goals as goal

pub read_directory-requires-clause-seen : goal.read_directory-requires-clause-seen
read_directory-requires-clause-seen g c =
    seen_serving g.R.Rig.tells_view (g.R.Rig.state c.args.rig.now) c.args.trees.now c.args.handles.now c.requires.serving

pub make_directory-requires-clause-serving : goal.make_directory-requires-clause-serving
make_directory-requires-clause-serving g c = (c.args.handles.now, c.requires.of_table, c.requires.serving)

pub returns-in-OpenDirectory-clause-served : goal.returns-in-OpenDirectory-clause-served
returns-in-OpenDirectory-clause-served g c =
    let V = g.R.Rig.tells_view in
    let o = g.R.Rig.state c.args.rig.now in
    let trees = c.args.trees.now in
    let handles = c.args.handles.now in
    let new = c.open_directory.new.handles in
    let told = c.open_directory.result in
    let P : DirCall → Type 0 = λ call. IsServed V (λ fs. directory_service c.args.table.now fs c.args.p.0 call) ⊥ 52 3 trees trees handles new o o (Ok told) in
    subst P (sym c.in-OpenDirectory.is)
    (served_still V g.R.Rig.keeps_cuts o (g.met.R.Rig.sound c.args.rig.now) (λ fs. open_directory c.args.table.now fs c.args.p.0 c.in-OpenDirectory.path) ⊥ trees handles c.requires.serving new told
    (λ stores hold. subst (λ (path : List ℕ). Serves (λ fs. open_directory c.args.table.now fs c.args.p.0 path) stores handles stores new told) c.bytes.ensures
    (c.open_directory.ensures stores (all_outlined V o trees stores hold))))

pub returns-in-CloseDirectory-clause-served : goal.returns-in-CloseDirectory-clause-served
returns-in-CloseDirectory-clause-served g c =
    let V = g.R.Rig.tells_view in
    let o = g.R.Rig.state c.args.rig.now in
    let trees = c.args.trees.now in
    let handles = c.args.handles.now in
    let P : DirCall → Type 0 = λ call. IsServed V (λ fs. directory_service c.args.table.now fs c.args.p.0 call) ⊥ 52 3 trees trees handles c.close_directory.new.handles o o (Ok c.close_directory.result) in
    subst P (sym c.in-CloseDirectory.is)
    (served_still V g.R.Rig.keeps_cuts o (g.met.R.Rig.sound c.args.rig.now) (λ fs. close_directory fs c.args.p.0 c.in-CloseDirectory.id) ⊥ trees handles c.requires.serving c.close_directory.new.handles c.close_directory.result
    (λ stores hold. c.close_directory.ensures stores))

pub returns-in-ReadDirectory-clause-served : goal.returns-in-ReadDirectory-clause-served
returns-in-ReadDirectory-clause-served g c =
    let V = g.R.Rig.tells_view in
    let o = g.R.Rig.state c.args.rig.now in
    let trees = c.args.trees.now in
    let handles = c.args.handles.now in
    let P : DirCall → Type 0 = λ call. IsServed V (λ fs. directory_service c.args.table.now fs c.args.p.0 call) ⊥ 52 3 trees trees handles c.read_directory.new.handles o o (Ok c.read_directory.result) in
    subst P (sym c.in-ReadDirectory.is)
    (served_still V g.R.Rig.keeps_cuts o (g.met.R.Rig.sound c.args.rig.now) (λ fs. read_directory fs c.args.p.0 c.in-ReadDirectory.id) ⊥ trees handles c.requires.serving c.read_directory.new.handles c.read_directory.result
    (λ stores hold. c.read_directory.ensures stores (all_outlined V o trees stores hold)))

pub returns-in-RewindDirectory-clause-served : goal.returns-in-RewindDirectory-clause-served
returns-in-RewindDirectory-clause-served g c =
    let V = g.R.Rig.tells_view in
    let o = g.R.Rig.state c.args.rig.now in
    let trees = c.args.trees.now in
    let handles = c.args.handles.now in
    let P : DirCall → Type 0 = λ call. IsServed V (λ fs. directory_service c.args.table.now fs c.args.p.0 call) ⊥ 52 3 trees trees handles c.rewind_directory.new.handles o o (Ok c.rewind_directory.result) in
    subst P (sym c.in-RewindDirectory.is)
    (served_still V g.R.Rig.keeps_cuts o (g.met.R.Rig.sound c.args.rig.now) (λ fs. rewind_directory fs c.args.p.0 c.in-RewindDirectory.id) ⊥ trees handles c.requires.serving c.rewind_directory.new.handles c.rewind_directory.result
    (λ stores hold. c.rewind_directory.ensures stores))

pub returns-in-SyncDirectory-clause-served : goal.returns-in-SyncDirectory-clause-served
returns-in-SyncDirectory-clause-served g c =
    let V = g.R.Rig.tells_view in
    let o = g.R.Rig.state c.args.rig.now in
    let trees = c.args.trees.now in
    let handles = c.args.handles.now in
    let P : DirCall → Type 0 = λ call. IsServed V (λ fs. directory_service c.args.table.now fs c.args.p.0 call) ⊥ 52 3 trees trees handles handles o o (Ok c.sync_directory.result) in
    subst P (sym c.in-SyncDirectory.is)
    (served_still V g.R.Rig.keeps_cuts o (g.met.R.Rig.sound c.args.rig.now) (λ fs. sync_directory fs c.args.p.0 c.in-SyncDirectory.id) ⊥ trees handles c.requires.serving handles c.sync_directory.result
    (λ stores hold. c.sync_directory.ensures stores))

pub returns-in-MakeDirectory-clause-served : goal.returns-in-MakeDirectory-clause-served
returns-in-MakeDirectory-clause-served g c =
    let V = g.R.Rig.tells_view in
    let o = g.R.Rig.state c.args.rig.now in
    let e = g.R.Rig.state c.make_directory.new.rig in
    let trees = c.args.trees.now in
    let handles = c.args.handles.now in
    let P : DirCall → Type 0
    = λ call. IsServed V (λ fs. directory_service c.args.table.now fs c.args.p.0 call) ⊥ 52 3 trees c.make_directory.new.trees handles handles o e c.make_directory.result in
    subst P (sym c.in-MakeDirectory.is)
    (subst (λ (path : List ℕ). IsServed V (λ fs. make_directory c.args.table.now fs c.args.p.0 path) ⊥ 52 3 trees c.make_directory.new.trees handles handles o e c.make_directory.result) c.bytes-in-MakeDirectory.ensures
    (c.make_directory.ensures.served handles c.requires.of_table c.requires.serving))

pub returns-in-RemoveDirectory-clause-served : goal.returns-in-RemoveDirectory-clause-served
returns-in-RemoveDirectory-clause-served g c =
    let V = g.R.Rig.tells_view in
    let o = g.R.Rig.state c.args.rig.now in
    let e = g.R.Rig.state c.remove_directory.new.rig in
    let trees = c.args.trees.now in
    let handles = c.args.handles.now in
    let P : DirCall → Type 0
    = λ call. IsServed V (λ fs. directory_service c.args.table.now fs c.args.p.0 call) ⊥ 52 3 trees c.remove_directory.new.trees handles c.remove_directory.new.handles o e c.remove_directory.result in
    subst P (sym c.in-RemoveDirectory.is)
    (subst (λ (path : List ℕ). IsServed V (λ fs. remove_directory c.args.table.now fs c.args.p.0 path) ⊥ 52 3 trees c.remove_directory.new.trees handles c.remove_directory.new.handles o e c.remove_directory.result) c.bytes-in-RemoveDirectory.ensures
    c.remove_directory.ensures.served)
