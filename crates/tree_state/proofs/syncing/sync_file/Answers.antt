use Rattle.std.proofs.Common.{◌∙◌}
use Rattle.tree_state.specs.Stored.{SameContents}
use Rattle.present_files.proofs.Placed.{on-ok}
use Rattle.tree_state.proofs.Synchronised.{both-either, both-outside, both-view, data-outside, kept-either, same-either, same-path, view-tree}
use Rattle.tree_state.proofs.syncing.sync_file.Goals as goal

pub returns-in_err-write_back_file-clause-any_moment : goal.returns-in_err-write_back_file-clause-any_moment
returns-in_err-write_back_file-clause-any_moment g c = λ path there tells.
    let o = g.R.Rig.state c.args.rig.now in
    let m = g.R.Rig.state c.write_back_file.new.rig in
    kept-either c.args.row.now c.args.at o m c.args.state.now c.args.file path (view-tree g.R.Rig.tells_view c.args.row.now c.args.at o c.args.state.now c.requires.state tells) c.write_back_file.ensures.any_moment

pub returns-in_err-write_back_file-clause-outside : goal.returns-in_err-write_back_file-clause-outside
returns-in_err-write_back_file-clause-outside g c = data-outside c.args.row.now c.args.at (g.R.Rig.state c.args.rig.now) (g.R.Rig.state c.write_back_file.new.rig) c.write_back_file.ensures.outside

pub returns-clause-any_moment : goal.returns-clause-any_moment
returns-clause-any_moment g c = λ path there tells.
    let V = g.R.Rig.tells_view in
    let row = c.args.row.now in
    let at = c.args.at in
    let o = g.R.Rig.state c.args.rig.now in
    let m = g.R.Rig.state c.write_back_file.new.rig in
    let e = g.R.Rig.state c.store_present.new.rig in
    let s = c.args.state.now in
    let t = c.write_back_file.new.state in
    let f = c.args.file in
    let keeps = c.write_back_file.ensures.files in
    both-either row at o m s f path (view-tree V row at o s c.requires.state tells) c.write_back_file.ensures.any_moment e t keeps (c.write_back_file.ensures.durable tells) (c.write_back_file.ensures.contents tells)
    (c.store_present.ensures.any_moment path (same-path s t keeps f path there) tells)

pub returns-clause-shown : goal.returns-clause-shown
returns-clause-shown g c = λ path there tells.
    let row = c.args.row.now in
    let at = c.args.at in
    let o = g.R.Rig.state c.args.rig.now in
    let m = g.R.Rig.state c.write_back_file.new.rig in
    let s = c.args.state.now in
    let t = c.write_back_file.new.state in
    let f = c.args.file in
    let keeps = c.write_back_file.ensures.files in
    same-either row at s t o.view m.view f keeps (c.write_back_file.ensures.durable tells) (c.write_back_file.ensures.contents tells) path (g.R.Rig.state c.store_present.new.rig).view
    (c.store_present.ensures.shown path (same-path s t keeps f path there) tells)

pub returns-clause-outside : goal.returns-clause-outside
returns-clause-outside g c =
    both-outside c.args.row.now c.args.at g.R.Rig.tells_view g.R.Rig.keeps_cuts (g.R.Rig.state c.args.rig.now) (g.R.Rig.state c.write_back_file.new.rig) (g.R.Rig.state c.store_present.new.rig)
    (g.met.R.Rig.sound c.write_back_file.new.rig) c.write_back_file.ensures.outside c.store_present.ensures.outside

pub returns-clause-outside_view : goal.returns-clause-outside_view
returns-clause-outside_view g c = λ tells.
    both-view c.args.row.now c.args.at (g.R.Rig.state c.args.rig.now).view (g.R.Rig.state c.write_back_file.new.rig).view (g.R.Rig.state c.store_present.new.rig).view (c.write_back_file.ensures.outside_view tells)
    (c.store_present.ensures.outside_view tells)

pub returns-clause-contents : goal.returns-clause-contents
returns-clause-contents g c = λ tells.
    let row = c.args.row.now in
    let at = c.args.at in
    let o = g.R.Rig.state c.args.rig.now in
    let m = g.R.Rig.state c.write_back_file.new.rig in
    let e = g.R.Rig.state c.store_present.new.rig in
    let s = c.args.state.now in
    let t = c.write_back_file.new.state in
    let first = c.write_back_file.ensures.contents tells in
    on-ok (SameContents row at m.view e.view t c.store_present.new.state) (SameContents row at o.view e.view s c.store_present.new.state) c.store_present.result (λ then f. then f ∙ first f) (c.store_present.ensures.contents tells)
