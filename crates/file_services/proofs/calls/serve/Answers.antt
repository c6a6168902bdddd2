use Rattle.std.proofs.Common.{rules, ℕ, List, Ok, true, false, subst, sym}
use Rattle.apex_types.specs.declared.calls.FileCall.{FileCall}
use Rattle.apex_model.specs.FailedReads.{reads_content}
use Rattle.apex_model.specs.FileStep.{file_service, open_new_file, open_file, close_file, write_file, remove_file, rename_file, seek_file, get_file_status, get_volume_status}
use Rattle.service_parts.specs.Serving.{IsServed, ReadsFailed, Serves}
use Rattle.service_parts.proofs.Closing.{served_still}
use Rattle.service_parts.proofs.Held.{all_outlined, seen, trees_long}
use Rattle.file_services.proofs.calls.serve.Goals as goal

pub open_file-requires-clause-long : goal.open_file-requires-clause-long
open_file-requires-clause-long g c = trees_long c.args.table.now c.args.trees.now c.args.handles.now c.requires.of_table

pub get_volume_status-requires-clause-long : goal.get_volume_status-requires-clause-long
get_volume_status-requires-clause-long g c = trees_long c.args.table.now c.args.trees.now c.args.handles.now c.requires.of_table

pub seek_file-requires-clause-seen : goal.seek_file-requires-clause-seen
seek_file-requires-clause-seen g c =
    let V = g.R.Rig.tells_view in
    let K = g.R.Rig.keeps_cuts in
    let o = g.R.Rig.state c.args.rig.now in
    let trees = c.args.trees.now in
    let handles = c.args.handles.now in
    seen V o trees handles c.requires.serving

pub get_file_status-requires-clause-seen : goal.get_file_status-requires-clause-seen
get_file_status-requires-clause-seen g c =
    let V = g.R.Rig.tells_view in
    let K = g.R.Rig.keeps_cuts in
    let o = g.R.Rig.state c.args.rig.now in
    let trees = c.args.trees.now in
    let handles = c.args.handles.now in
    seen V o trees handles c.requires.serving

pub returns-in-OpenFile-clause-served : goal.returns-in-OpenFile-clause-served
returns-in-OpenFile-clause-served g c =
    let V = g.R.Rig.tells_view in
    let K = g.R.Rig.keeps_cuts in
    let o = g.R.Rig.state c.args.rig.now in
    let trees = c.args.trees.now in
    let handles = c.args.handles.now in
    let P : FileCall → Type 0 = λ call. IsServed V (λ fs. file_service c.args.table.now fs c.args.p.0 call) (ReadsFailed (reads_content call) o o) 52 3 trees trees handles c.open_file.new.handles o o (Ok c.open_file.result) in
    subst P (sym c.in-OpenFile.is) (served_still V K o (g.met.R.Rig.sound c.args.rig.now) (λ fs. open_file c.args.table.now fs c.args.p.0 c.in-OpenFile.path c.in-OpenFile.mode) (ReadsFailed false o o) trees handles c.requires.serving c.open_file.new.handles c.open_file.result (λ stores hold. subst (λ (path : List ℕ). Serves (λ fs. open_file c.args.table.now fs c.args.p.0 path c.in-OpenFile.mode) stores handles stores c.open_file.new.handles c.open_file.result) c.bytes-in-OpenFile.ensures (c.open_file.ensures stores (all_outlined V o trees stores hold))))

pub returns-in-OpenNewFile-clause-served : goal.returns-in-OpenNewFile-clause-served
returns-in-OpenNewFile-clause-served g c =
    let V = g.R.Rig.tells_view in
    let K = g.R.Rig.keeps_cuts in
    let o = g.R.Rig.state c.args.rig.now in
    let trees = c.args.trees.now in
    let handles = c.args.handles.now in
    let e = g.R.Rig.state c.open_new_file.new.rig in
    let P : FileCall → Type 0 = λ call. IsServed V (λ fs. file_service c.args.table.now fs c.args.p.0 call) (ReadsFailed (reads_content call) o e) 52 3 trees c.open_new_file.new.trees handles c.open_new_file.new.handles o e c.open_new_file.result in
    subst P (sym c.in-OpenNewFile.is) (subst (λ (path : List ℕ). IsServed V (λ fs. open_new_file c.args.table.now fs c.args.p.0 path) (ReadsFailed false o e) 52 3 trees c.open_new_file.new.trees handles c.open_new_file.new.handles o e c.open_new_file.result) c.bytes.ensures c.open_new_file.ensures.served)

pub returns-in-RemoveFile-clause-served : goal.returns-in-RemoveFile-clause-served
returns-in-RemoveFile-clause-served g c =
    let V = g.R.Rig.tells_view in
    let K = g.R.Rig.keeps_cuts in
    let o = g.R.Rig.state c.args.rig.now in
    let trees = c.args.trees.now in
    let handles = c.args.handles.now in
    let e = g.R.Rig.state c.remove_file.new.rig in
    let P : FileCall → Type 0 = λ call. IsServed V (λ fs. file_service c.args.table.now fs c.args.p.0 call) (ReadsFailed (reads_content call) o e) 52 3 trees c.remove_file.new.trees handles c.remove_file.new.handles o e c.remove_file.result in
    subst P (sym c.in-RemoveFile.is) (subst (λ (path : List ℕ). IsServed V (λ fs. remove_file c.args.table.now fs c.args.p.0 path) (ReadsFailed false o e) 52 3 trees c.remove_file.new.trees handles c.remove_file.new.handles o e c.remove_file.result) c.bytes-in-RemoveFile.ensures c.remove_file.ensures.served)

pub returns-in-ReadFile-clause-served : goal.returns-in-ReadFile-clause-served
returns-in-ReadFile-clause-served g c =
    let V = g.R.Rig.tells_view in
    let K = g.R.Rig.keeps_cuts in
    let o = g.R.Rig.state c.args.rig.now in
    let trees = c.args.trees.now in
    let handles = c.args.handles.now in
    let e = g.R.Rig.state c.read_file.new.rig in
    let P : FileCall → Type 0 = λ call. IsServed V (λ fs. file_service c.args.table.now fs c.args.p.0 call) (ReadsFailed (reads_content call) o e) 52 3 trees trees handles c.read_file.new.handles o e (Ok c.read_file.result) in
    subst P (sym c.in-ReadFile.is) (c.read_file.ensures.served)

pub returns-in-WriteFile-clause-served : goal.returns-in-WriteFile-clause-served
returns-in-WriteFile-clause-served g c =
    let V = g.R.Rig.tells_view in
    let K = g.R.Rig.keeps_cuts in
    let o = g.R.Rig.state c.args.rig.now in
    let trees = c.args.trees.now in
    let handles = c.args.handles.now in
    let e = g.R.Rig.state c.write_file.new.rig in
    let P : FileCall → Type 0 = λ call. IsServed V (λ fs. file_service c.args.table.now fs c.args.p.0 call) (ReadsFailed (reads_content call) o e) 52 3 trees c.write_file.new.trees handles c.write_file.new.handles o e c.write_file.result in
    subst P (sym c.in-WriteFile.is) (subst (λ (bytes : List ℕ). IsServed V (λ fs. write_file c.args.table.now fs c.args.p.0 c.in-WriteFile.id bytes) (ReadsFailed true o e) 52 3 trees c.write_file.new.trees handles c.write_file.new.handles o e c.write_file.result) c.bytes-in-WriteFile.ensures (c.write_file.ensures.served c.args.table.now c.requires.of_table))

pub returns-in-ResizeFile-clause-served : goal.returns-in-ResizeFile-clause-served
returns-in-ResizeFile-clause-served g c =
    let V = g.R.Rig.tells_view in
    let K = g.R.Rig.keeps_cuts in
    let o = g.R.Rig.state c.args.rig.now in
    let trees = c.args.trees.now in
    let handles = c.args.handles.now in
    let e = g.R.Rig.state c.resize_file.new.rig in
    let P : FileCall → Type 0 = λ call. IsServed V (λ fs. file_service c.args.table.now fs c.args.p.0 call) (ReadsFailed (reads_content call) o e) 52 3 trees c.resize_file.new.trees handles c.resize_file.new.handles o e c.resize_file.result in
    subst P (sym c.in-ResizeFile.is) (c.resize_file.ensures.served c.args.table.now c.requires.of_table)

pub returns-in-SyncFile-clause-served : goal.returns-in-SyncFile-clause-served
returns-in-SyncFile-clause-served g c =
    let V = g.R.Rig.tells_view in
    let K = g.R.Rig.keeps_cuts in
    let o = g.R.Rig.state c.args.rig.now in
    let trees = c.args.trees.now in
    let handles = c.args.handles.now in
    let e = g.R.Rig.state c.sync_file.new.rig in
    let P : FileCall → Type 0 = λ call. IsServed V (λ fs. file_service c.args.table.now fs c.args.p.0 call) (ReadsFailed (reads_content call) o e) 52 3 trees c.sync_file.new.trees handles handles o e c.sync_file.result in
    subst P (sym c.in-SyncFile.is) (c.sync_file.ensures)

pub returns-in-RenameFile-clause-served : goal.returns-in-RenameFile-clause-served
returns-in-RenameFile-clause-served g c =
    let V = g.R.Rig.tells_view in
    let K = g.R.Rig.keeps_cuts in
    let o = g.R.Rig.state c.args.rig.now in
    let trees = c.args.trees.now in
    let handles = c.args.handles.now in
    let e = g.R.Rig.state c.rename_file.new.rig in
    let P : FileCall → Type 0 = λ call. IsServed V (λ fs. file_service c.args.table.now fs c.args.p.0 call) (ReadsFailed (reads_content call) o e) 52 3 trees c.rename_file.new.trees handles handles o e c.rename_file.result in
    subst P (sym c.in-RenameFile.is) (subst (λ (from : List ℕ). IsServed V (λ fs. rename_file c.args.table.now fs c.args.p.0 from c.in-RenameFile.to) (ReadsFailed false o e) 52 3 trees c.rename_file.new.trees handles handles o e c.rename_file.result) c.bytes-in-RenameFile.ensures
    (subst (λ (to : List ℕ). IsServed V (λ fs. rename_file c.args.table.now fs c.args.p.0 c.bytes-in-RenameFile.result.now to) (ReadsFailed false o e) 52 3 trees c.rename_file.new.trees handles handles o e c.rename_file.result) c.bytes-in-RenameFile-2.ensures c.rename_file.ensures.served))

pub returns-in-SeekFile-clause-served : goal.returns-in-SeekFile-clause-served
returns-in-SeekFile-clause-served g c =
    let V = g.R.Rig.tells_view in
    let K = g.R.Rig.keeps_cuts in
    let o = g.R.Rig.state c.args.rig.now in
    let trees = c.args.trees.now in
    let handles = c.args.handles.now in
    let P : FileCall → Type 0 = λ call. IsServed V (λ fs. file_service c.args.table.now fs c.args.p.0 call) (ReadsFailed (reads_content call) o o) 52 3 trees trees handles c.seek_file.new.handles o o (Ok c.seek_file.result) in
    subst P (sym c.in-SeekFile.is) (served_still V K o (g.met.R.Rig.sound c.args.rig.now) (λ fs. seek_file fs c.args.p.0 c.in-SeekFile.id c.in-SeekFile.offset c.in-SeekFile.whence) (ReadsFailed false o o) trees handles c.requires.serving c.seek_file.new.handles c.seek_file.result (λ stores hold. let known = c.seek_file.ensures stores (all_outlined V o trees stores hold) in search rules))

pub returns-in-CloseFile-clause-served : goal.returns-in-CloseFile-clause-served
returns-in-CloseFile-clause-served g c =
    let V = g.R.Rig.tells_view in
    let K = g.R.Rig.keeps_cuts in
    let o = g.R.Rig.state c.args.rig.now in
    let trees = c.args.trees.now in
    let handles = c.args.handles.now in
    let P : FileCall → Type 0 = λ call. IsServed V (λ fs. file_service c.args.table.now fs c.args.p.0 call) (ReadsFailed (reads_content call) o o) 52 3 trees trees handles c.close_file.new.handles o o (Ok c.close_file.result) in
    subst P (sym c.in-CloseFile.is) (served_still V K o (g.met.R.Rig.sound c.args.rig.now) (λ fs. close_file fs c.args.p.0 c.in-CloseFile.id) (ReadsFailed false o o) trees handles c.requires.serving c.close_file.new.handles c.close_file.result (λ stores hold. c.close_file.ensures stores))

pub returns-in-GetFileStatus-clause-served : goal.returns-in-GetFileStatus-clause-served
returns-in-GetFileStatus-clause-served g c =
    let V = g.R.Rig.tells_view in
    let K = g.R.Rig.keeps_cuts in
    let o = g.R.Rig.state c.args.rig.now in
    let trees = c.args.trees.now in
    let handles = c.args.handles.now in
    let P : FileCall → Type 0 = λ call. IsServed V (λ fs. file_service c.args.table.now fs c.args.p.0 call) (ReadsFailed (reads_content call) o o) 52 3 trees trees handles handles o o (Ok c.get_file_status.result) in
    subst P (sym c.in-GetFileStatus.is) (served_still V K o (g.met.R.Rig.sound c.args.rig.now) (λ fs. get_file_status fs c.args.p.0 c.in-GetFileStatus.id) (ReadsFailed false o o) trees handles c.requires.serving handles c.get_file_status.result (λ stores hold. c.get_file_status.ensures stores (all_outlined V o trees stores hold)))

pub returns-in-GetVolumeStatus-clause-served : goal.returns-in-GetVolumeStatus-clause-served
returns-in-GetVolumeStatus-clause-served g c =
    let V = g.R.Rig.tells_view in
    let K = g.R.Rig.keeps_cuts in
    let o = g.R.Rig.state c.args.rig.now in
    let trees = c.args.trees.now in
    let handles = c.args.handles.now in
    let P : FileCall → Type 0 = λ call. IsServed V (λ fs. file_service c.args.table.now fs c.args.p.0 call) (ReadsFailed (reads_content call) o o) 52 3 trees trees handles handles o o (Ok c.get_volume_status.result) in
    subst P (sym c.in-GetVolumeStatus.is) (served_still V K o (g.met.R.Rig.sound c.args.rig.now) (λ fs. get_volume_status c.args.table.now fs c.args.p.0 c.in-GetVolumeStatus.path) (ReadsFailed false o o) trees handles c.requires.serving handles c.get_volume_status.result (λ stores hold. subst (λ (path : List ℕ). Serves (λ fs. get_volume_status c.args.table.now fs c.args.p.0 path) stores handles stores handles c.get_volume_status.result) c.bytes-in-GetVolumeStatus.ensures (c.get_volume_status.ensures stores handles (all_outlined V o trees stores hold))))
