-- A call that makes no device call: the disk, and what a cut leaves of it, is as before.
use Rattle.std.proofs.Common.{◌≡◌, inl, ℕ, ◌*◌, List, [], ◌∷◌, refl, sym, subst, arith}
use Rattle.std.specs.Prelude.{Ok}
use Rattle.std.specs.List.{AllZip}
use Rattle.apex_types.specs.Rows.{Rows}
use Rattle.apex_types.specs.declared.calls.Call.{Call}
use Rattle.apex_types.specs.declared.numbers.PartitionId.{PartitionId}
use Rattle.apex_types.specs.declared.replies.Reply.{Reply}
use Rattle.apex_model.specs.Durable.{Durable, EitherCut, IsCut, IsCutBetween, IsCutOfLogbook, IsCutOfTree}
use Rattle.apex_model.specs.Files.{File}
use Rattle.apex_model.specs.Layout.{layout_blocks}
use Rattle.apex_model.specs.Logbooks.{Logbook}
use Rattle.apex_model.specs.Outcomes.{Outcome, reply_of, state_after}
use Rattle.apex_model.specs.Trees.{Tree}
use Rattle.apex_model.specs.World.{World, call_step}
use Rattle.rig_core.specs.Leaves.{FromNow}
use Rattle.rig_core.specs.Outside.{Outside, Sound}
use Rattle.rig_core.specs.Runs.{Runs, Shows}
use Rattle.rig_core.proofs.Moments.{elsewhere_same, leaves_none}
use Rattle.service_parts.specs.Told.{IsTellable}
use Rattle.image_layout.specs.Ready.{Stores}
use Rattle.module_session.specs.Calls.{IsCallTaken}
use Rattle.module_session.specs.Sessions.{IsReady, StandsFor, table_of_session}
use Rattle.module_session.specs.declared.session.Session.{Session}
use Rattle.module_session.proofs.Ready.{session_in_step}

-- ---- what a cut leaves

same_cut : {A B : Type 0} (P : A → B → Type 0) (parts : List A) (stored : List B) → AllZip P parts stored → EitherCut P parts parts stored
same_cut P [] [] all = tt
same_cut P [] (s ∷ stored) all = absurd all
same_cut P (part ∷ parts) [] all = absurd all
same_cut P (part ∷ parts) (s ∷ stored) all = (inl all.0, same_cut P parts stored all.1)

-- trees and logbooks of two worlds are the same
record AreSame (w after : World) : Type 0 where
  pub trees : after.files.trees ≡ w.files.trees
  pub books : after.logbooks.books ≡ w.logbooks.books

cut_between : (w after : World) (durable : Durable) → AreSame w after → IsCut w durable → IsCutBetween w after durable
cut_between w after durable same cut = record {
  trees = subst (λ (trees : List (Tree File)). EitherCut IsCutOfTree w.files.trees trees durable.trees) (sym same.trees) (same_cut IsCutOfTree w.files.trees durable.trees cut.trees);
  logbooks = subst (λ (books : List Logbook). EitherCut IsCutOfLogbook w.logbooks.books books durable.logbooks) (sym same.books) (same_cut IsCutOfLogbook w.logbooks.books durable.logbooks cut.logbooks);
}

stores_between : (table : Rows) (w after : World) (image : List ℕ) → AreSame w after → Stores table (IsCut w) image → Stores table (IsCutBetween w after) image
stores_between table w after image same stores = (stores.0, stores.1, cut_between w after stores.0 same stores.2)

-- ---- no device call

pub still_runs : (V : Type 0) (at n writes syncs : ℕ) (o : Outside) → Runs V at n writes syncs o o
still_runs V at n writes syncs o = record {
  outside = leaves_none (FromNow at n o) o (λ image told now. (image, told, now, elsewhere_same at n image));
  outside_view = λ tells. elsewhere_same at n o.view;
  later = record { size = refl; clock = omega arith; read_faults = omega arith; write_faults = omega arith; tell_faults = omega arith };
  made = record { writes = omega arith; syncs = omega arith; tells = omega arith };
}

-- this was told of an outcome, and the session stands for the world after it, with the same trees and logbooks
pub record IsStill (V : Type 0) (o : Outside) (new : Session) (w : World) (outcome : Outcome World) (told : Reply) : Type 0 where
  pub reply : told ≡ reply_of outcome
  pub stands : StandsFor V o new (state_after w outcome)
  pub trees : (state_after w outcome).files.trees ≡ w.files.trees
  pub books : (state_after w outcome).logbooks.books ≡ w.logbooks.books

module _ (V K : Type 0) (o : Outside) (sound : Sound V K o) (old new : Session) (ready : IsReady V o old) where
  still_moments : (w : World) (outcome : Outcome World) (told : Reply) → StandsFor V o old w → IsStill V o new w outcome told
      → Shows V (Stores old.table (IsCutBetween w (state_after w outcome))) o o
  still_moments w outcome told stands still =
      let same : AreSame w (state_after w outcome) = record { trees = still.trees; books = still.books } in
      record {
        any_moment = λ tells. leaves_none (Stores old.table (IsCutBetween w (state_after w outcome))) o
            (λ image text now. stores_between old.table w (state_after w outcome) image same ((session_in_step V K o old w sound ready stands tells).0 image text now));
        shown = λ tells. stores_between old.table w (state_after w outcome) o.view same (session_in_step V K o old w sound ready stands tells).1;
      }

  -- a call, from what it comes to for every world
  pub still_taken : (p : PartitionId) (c : Call) (told : Reply) → table_of_session new ≡ old.table → new.time ≡ old.time → IsReady V o new → IsTellable told
      → ((w : World) → StandsFor V o old w → IsStill V o new w (call_step old.table w p.0 c) told) → IsCallTaken V p c old new o o (Ok told)
  still_taken p c told table time next tellable still = record {
    table = table;
    time = time;
    ready = next;
    told = inl (λ w stands. let is = still w stands in (λ tells. is.reply, is.stands));
    moments = λ w stands. still_moments w (call_step old.table w p.0 c) told stands (still w stands);
    runs = still_runs V 0 (512 * layout_blocks old.table) 96 3 o;
    cause = tt;
    tellable = tellable;
  }
