use Rattle.std.proofs.Common.{refl, ◌≡◌}
use Rattle.tree_state.specs.Changes.{StaysDurable, IsUnchanged}
use Rattle.tree_store.proofs.Changed.{stored-after, acts-after, passes-after, holds-same}
use Rattle.tree_store.proofs.store.TreeStore.write_back.Goals as goal

pub returns-in_err-write_back-clause-done : goal.returns-in_err-write_back-clause-done
returns-in_err-write_back-clause-done g c v holds =
    let w = c.write_back.ensures in
    holds-same g.R.Rig.tells_view g.R.Rig.keeps_cuts (g.R.Rig.state c.args.rig.now) (g.R.Rig.state c.write_back.new.rig) (g.met.R.Rig.sound c.args.rig.now) c.args.self.now c.write_back.new.state
    c.requires.stored (record {
      any_moment = w.any_moment;
      state = w.state;
      durable = w.durable;
      kept = w.kept;
      outside = w.outside;
      outside_view = w.outside_view;
      later = w.later;
      made = w.made;
    }) v holds (record { contents = w.contents; files = w.files })

pub returns-in_err-write_back-clause-moments : goal.returns-in_err-write_back-clause-moments
returns-in_err-write_back-clause-moments g c v holds =
    let w = c.write_back.ensures in
    passes-after g.R.Rig.tells_view g.R.Rig.keeps_cuts (g.R.Rig.state c.args.rig.now) (g.R.Rig.state c.write_back.new.rig) (g.met.R.Rig.sound c.args.rig.now) c.args.self.now c.write_back.new.state
    c.requires.stored (record {
      any_moment = w.any_moment;
      state = w.state;
      durable = w.durable;
      kept = w.kept;
      outside = w.outside;
      outside_view = w.outside_view;
      later = w.later;
      made = w.made;
    }) v holds

pub returns-in_err-write_back-clause-stored : goal.returns-in_err-write_back-clause-stored
returns-in_err-write_back-clause-stored g c =
    let w = c.write_back.ensures in
    stored-after g.R.Rig.tells_view g.R.Rig.keeps_cuts (g.R.Rig.state c.args.rig.now) (g.R.Rig.state c.write_back.new.rig) (g.met.R.Rig.sound c.args.rig.now) c.args.self.now c.write_back.new.state
    c.requires.stored (record {
      any_moment = w.any_moment;
      state = w.state;
      durable = w.durable;
      kept = w.kept;
      outside = w.outside;
      outside_view = w.outside_view;
      later = w.later;
      made = w.made;
    })

pub returns-in_err-write_back-clause-acts : goal.returns-in_err-write_back-clause-acts
returns-in_err-write_back-clause-acts g c =
    let w = c.write_back.ensures in
    acts-after g.R.Rig.tells_view g.R.Rig.keeps_cuts (g.R.Rig.state c.args.rig.now) (g.R.Rig.state c.write_back.new.rig) (g.met.R.Rig.sound c.args.rig.now) c.args.self.now c.write_back.new.state
    c.requires.stored (record {
      any_moment = w.any_moment;
      state = w.state;
      durable = w.durable;
      kept = w.kept;
      outside = w.outside;
      outside_view = w.outside_view;
      later = w.later;
      made = w.made;
    })

pub returns-clause-done : goal.returns-clause-done
returns-clause-done g c v holds =
    let w = c.write_back.ensures in
    holds-same g.R.Rig.tells_view g.R.Rig.keeps_cuts (g.R.Rig.state c.args.rig.now) (g.R.Rig.state c.write_back.new.rig) (g.met.R.Rig.sound c.args.rig.now) c.args.self.now c.write_back.new.state
    c.requires.stored (record {
      any_moment = w.any_moment;
      state = w.state;
      durable = w.durable;
      kept = w.kept;
      outside = w.outside;
      outside_view = w.outside_view;
      later = w.later;
      made = w.made;
    }) v holds (record { contents = w.contents; files = w.files })

pub returns-clause-moments : goal.returns-clause-moments
returns-clause-moments g c v holds =
    let w = c.write_back.ensures in
    passes-after g.R.Rig.tells_view g.R.Rig.keeps_cuts (g.R.Rig.state c.args.rig.now) (g.R.Rig.state c.write_back.new.rig) (g.met.R.Rig.sound c.args.rig.now) c.args.self.now c.write_back.new.state
    c.requires.stored (record {
      any_moment = w.any_moment;
      state = w.state;
      durable = w.durable;
      kept = w.kept;
      outside = w.outside;
      outside_view = w.outside_view;
      later = w.later;
      made = w.made;
    }) v holds

pub returns-clause-stored : goal.returns-clause-stored
returns-clause-stored g c =
    let w = c.write_back.ensures in
    stored-after g.R.Rig.tells_view g.R.Rig.keeps_cuts (g.R.Rig.state c.args.rig.now) (g.R.Rig.state c.write_back.new.rig) (g.met.R.Rig.sound c.args.rig.now) c.args.self.now c.write_back.new.state
    c.requires.stored (record {
      any_moment = w.any_moment;
      state = w.state;
      durable = w.durable;
      kept = w.kept;
      outside = w.outside;
      outside_view = w.outside_view;
      later = w.later;
      made = w.made;
    })

pub returns-clause-acts : goal.returns-clause-acts
returns-clause-acts g c =
    let w = c.write_back.ensures in
    acts-after g.R.Rig.tells_view g.R.Rig.keeps_cuts (g.R.Rig.state c.args.rig.now) (g.R.Rig.state c.write_back.new.rig) (g.met.R.Rig.sound c.args.rig.now) c.args.self.now c.write_back.new.state
    c.requires.stored (record {
      any_moment = w.any_moment;
      state = w.state;
      durable = w.durable;
      kept = w.kept;
      outside = w.outside;
      outside_view = w.outside_view;
      later = w.later;
      made = w.made;
    })
