-- A partition in another mode or context, with all else as it was.
use Rattle.std.proofs.Common.{◌≡◌, ◌⊎◌, ⊎_elim, true, refl, sym, ◌∙◌, ap, subst}
use Rattle.std.specs.Prelude.{List, Ok, slice_set}
use Rattle.std.proofs.lemmas.List.{length-set}
use Rattle.apex_types.specs.declared.calls.Call.TheVariants as call
use Rattle.apex_types.specs.declared.calls.Context.{Context}
use Rattle.apex_types.specs.declared.calls.Mode.{Mode}
use Rattle.apex_types.specs.declared.calls.Mode.TheVariants.{Idle, ColdStart, WarmStart, Normal}
use Rattle.apex_types.specs.declared.codes.ReturnCode.{ReturnCode}
use Rattle.apex_types.specs.declared.codes.ReturnCode.TheVariants.{InvalidMode, NoAction}
use Rattle.apex_types.specs.declared.numbers.PartitionId.{PartitionId}
use Rattle.apex_types.specs.declared.replies.Reply.{Reply}
use Rattle.apex_types.specs.declared.replies.Values.TheVariants.{Empty}
use Rattle.apex_model.specs.Logbooks.{is_normal}
use Rattle.apex_model.specs.Outcomes.{Outcome, accepted, bare_refusal, refuse_with, success}
use Rattle.apex_model.specs.World.{Partition, World, enter_normal, partition_in, with_partition}
use Rattle.rig_core.specs.Outside.{Outside, Sound}
use Rattle.service_parts.specs.Told.{IsTellable}
use Rattle.module_session.specs.Calls.{IsCallTaken}
use Rattle.module_session.specs.Partitions.{partition_at}
use Rattle.module_session.specs.Sessions.{IsReady, StandsFor, table_of_session}
use Rattle.module_session.specs.declared.session.Session.{Session}
use Rattle.module_session.proofs.Still.{IsStill, still_taken}

-- a session with other modes and contexts
abbrev pub with_partitions : Session → List Partition → Session
with_partitions old partitions = record {
  table = old.table;
  trees = old.trees;
  handles = old.handles;
  logs = old.logs;
  made = old.made;
  ports = old.ports;
  partitions = partitions;
  time = old.time;
  failed = old.failed;
}

is_named_normal : (mode : Mode) → is_normal mode ≡ true → mode ≡ Normal
is_named_normal Normal is = refl
is_named_normal Idle is = absurd cc
is_named_normal ColdStart is = absurd cc
is_named_normal WarmStart is = absurd cc

module _ (V K : Type 0) (o : Outside) (sound : Sound V K o) (old : Session) (ready : IsReady V o old) (p : PartitionId) where
  -- ---- a partition that is put into a mode and a context

  module _ (partition : Partition) where
    abbrev entered : Session
    entered = with_partitions old (slice_set old.partitions p.0 partition)

    entered_ready : IsReady V o entered
    entered_ready = record {
      alive = ready.alive;
      accepted = ready.accepted;
      in_step = ready.in_step;
      of_table = ready.of_table;
      files = ready.files;
      marks = ready.marks;
      logbooks = ready.logbooks;
      ports = ready.ports;
      partitions = length-set old.partitions p.0 partition ∙ ready.partitions;
    }

    entered_still : (w : World) → StandsFor V o old w → IsStill V o entered w (accepted (with_partition w p.0 partition) Empty) (success Empty)
    entered_still w stands = record {
      reply = refl;
      stands = record {
        parts = record { files = stands.parts.files; logbooks = stands.parts.logbooks };
        created = stands.created;
        ports = stands.ports;
        partitions = ap (λ (partitions : List Partition). slice_set partitions p.0 partition) stands.partitions;
        time = stands.time;
      };
      trees = refl;
      books = refl;
    }

  -- what the world has of it
  own : (w : World) → StandsFor V o old w → partition_at old.partitions p.0 ≡ partition_in w p.0
  own w stands = ap (λ (partitions : List Partition). partition_at partitions p.0) stands.partitions

  -- ---- CONTEXT

  pub context_taken : (context : Context) (mode : Mode) (partitions : List Partition) (told : Reply) → mode ≡ (partition_at old.partitions p.0).mode
      → partitions ≡ slice_set old.partitions p.0 (record { mode = mode; context = context }) → told ≡ success Empty
      → IsCallTaken V p (call.SetContext context) old (with_partitions old partitions) o o (Ok told)
  context_taken context mode partitions told mode_is set told_is =
      let put : Mode → Partition = λ m. record { mode = m; context = context } in
      let step : World → Mode → Outcome World = λ w m. accepted (with_partition w p.0 (put m)) Empty in
      subst (λ (reply : Reply). IsCallTaken V p (call.SetContext context) old (with_partitions old partitions) o o (Ok reply)) (sym told_is)
      (subst (λ (all : List Partition). IsCallTaken V p (call.SetContext context) old (with_partitions old all) o o (Ok (success Empty))) (sym set)
      (still_taken V K o sound old (entered (put mode)) ready p (call.SetContext context) (success Empty) refl refl (entered_ready (put mode)) (λ held. absurd held)
      (λ w stands. subst (λ (m : Mode). IsStill V o (entered (put mode)) w (step w m) (success Empty))
      (mode_is ∙ ap (λ (x : Partition). x.mode) (own w stands)) (entered_still (put mode) w stands))))

  -- ---- MODE NORMAL, by the mode before

  abbrev enters : World → Mode → Outcome World
  enters w before = enter_normal w p.0 (partition_in w p.0) before

  module _ (mode before : Mode) (normal : is_normal mode ≡ true) (before_is : before ≡ (partition_at old.partitions p.0).mode) where
    -- what it comes to for every world, from the mode that the session has
    normal_taken : (new : Session) (told : Reply) → table_of_session new ≡ old.table → new.time ≡ old.time → IsReady V o new → IsTellable told
        → ((w : World) → StandsFor V o old w → IsStill V o new w (enters w before) told) → IsCallTaken V p (call.SetMode mode) old new o o (Ok told)
    normal_taken new told table time next tellable still =
        subst (λ (m : Mode). IsCallTaken V p (call.SetMode m) old new o o (Ok told)) (sym (is_named_normal mode normal))
        (still_taken V K o sound old new ready p (call.SetMode Normal) told table time next tellable
        (λ w stands. subst (λ (m : Mode). IsStill V o new w (enters w m) told) (before_is ∙ ap (λ (x : Partition). x.mode) (own w stands)) (still w stands)))

    -- a refusal leaves the session
    refused_taken : (code : ReturnCode) (told : Reply) → told ≡ bare_refusal code Empty → ((w : World) → enters w before ≡ refuse_with code) → IsCallTaken V p (call.SetMode mode) old old o o (Ok told)
    refused_taken code told told_is refused =
        subst (λ (reply : Reply). IsCallTaken V p (call.SetMode mode) old old o o (Ok reply)) (sym told_is)
        (normal_taken old (bare_refusal code Empty) refl refl ready (λ held. absurd held)
        (λ w stands. subst (λ (outcome : Outcome World). IsStill V o old w outcome (bare_refusal code Empty)) (sym (refused w))
        (record { reply = refl; stands = stands; trees = refl; books = refl })))

    pub normal_again : before ≡ Normal → (told : Reply) → told ≡ bare_refusal NoAction Empty → IsCallTaken V p (call.SetMode mode) old old o o (Ok told)
    normal_again is told told_is = refused_taken NoAction told told_is (λ w. ap (λ (m : Mode). enters w m) is)

    pub idle_stays : before ≡ Idle → (told : Reply) → told ≡ bare_refusal InvalidMode Empty → IsCallTaken V p (call.SetMode mode) old old o o (Ok told)
    idle_stays is told told_is = refused_taken InvalidMode told told_is (λ w. ap (λ (m : Mode). enters w m) is)

    pub normal_entered : (before ≡ ColdStart) ⊎ (before ≡ WarmStart) → (context : Context) (partitions : List Partition) (told : Reply)
        → context ≡ (partition_at old.partitions p.0).context → partitions ≡ slice_set old.partitions p.0 (record { mode = Normal; context = context }) → told ≡ success Empty
        → IsCallTaken V p (call.SetMode mode) old (with_partitions old partitions) o o (Ok told)
    normal_entered starts context partitions told context_is set told_is =
        let put : Context → Partition = λ x. record { mode = Normal; context = x } in
        let step : World → Context → Outcome World = λ w x. accepted (with_partition w p.0 (put x)) Empty in
        let begun : (w : World) → enters w before ≡ step w (partition_in w p.0).context
        = λ w. ⊎_elim (λ cold. ap (λ (m : Mode). enters w m) cold) (λ warm. ap (λ (m : Mode). enters w m) warm) starts in
        subst (λ (reply : Reply). IsCallTaken V p (call.SetMode mode) old (with_partitions old partitions) o o (Ok reply)) (sym told_is)
        (subst (λ (all : List Partition). IsCallTaken V p (call.SetMode mode) old (with_partitions old all) o o (Ok (success Empty))) (sym set)
        (normal_taken (entered (put context)) (success Empty) refl refl (entered_ready (put context)) (λ held. absurd held)
        (λ w stands. subst (λ (outcome : Outcome World). IsStill V o (entered (put context)) w outcome (success Empty)) (sym (begun w))
        (subst (λ (x : Context). IsStill V o (entered (put context)) w (step w x) (success Empty))
        (context_is ∙ ap (λ (x : Partition). x.context) (own w stands)) (entered_still (put context) w stands)))))
