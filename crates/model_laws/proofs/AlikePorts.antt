-- Two port systems with the same channels into some partitions, the members: what a member's sampling call does and answers is the same in both, and what another partition's does leaves them so.
use Rattle.std.proofs.Common.{◌≡◌, ℕ, suc, ◌+◌, ◌-◌, inl, inr, Bool, true, false, not, List, [], ◌∷◌, refl, sym, ap, subst, ◌∙◌, Option, Some, None, length, arith}
use Rattle.std.specs.Prelude.{◌==◌, nat_le, nat_lt, slice_get, slice_index_or, if◌then◌else◌}
use Rattle.std.specs.List.{AllByRecursion}
use Rattle.std.proofs.lemmas.List.{length-set}
use Rattle.apex_types.specs.Rows.{Rows}
use Rattle.apex_types.specs.declared.calls.Mode.{Mode}
use Rattle.apex_types.specs.declared.calls.SamplingCall.{SamplingCall}
use Rattle.apex_types.specs.declared.calls.SamplingCall.TheVariants.{Create, Write, ReadUpdated, CurrentStatus, ReadConditional}
use Rattle.apex_types.specs.declared.codes.ReturnCode.TheVariants.{NoAction, InvalidParam, InvalidConfig, InvalidMode}
use Rattle.apex_types.specs.declared.replies.Updated.{Updated}
use Rattle.apex_types.specs.declared.replies.Updated.TheVariants.{EmptyPort, NewMessage, ConsumedMessage}
use Rattle.apex_types.specs.declared.replies.Values.TheVariants.{SourceStatus, PortStatus, Message, State}
use Rattle.apex_types.specs.declared.rows.ChannelRow.{ChannelRow}
use Rattle.apex_types.specs.declared.rows.PortRow.{PortRow}
use Rattle.apex_model.specs.Channels.{Sample, Channel, PortSystem, PortOutcome, empty_channel, channel_in, granted, is_made, port_number, port_named, on_port, create_port, write_at_end, write_sampling_message, updated_at, validity_at, read_sample, on_sample, read_updated, read_conditional, destination_status, current_status, sampling_service, sampling_step}
use Rattle.apex_model.specs.Logbooks.{is_normal, is_idle}
use Rattle.apex_model.specs.Outcomes.{accepted, refused, state_after, bare_refusal, refuse_with}
use Rattle.apex_model.specs.Tables.{Port, End, source_end, destination_end, destinations_of_channel, ports_of_channel, ports_from, ports, ports_of}
use Rattle.apex_model.proofs.AcceptedTables.{all_at}
use Rattle.apex_model.proofs.Cuts.{length-map}
use Rattle.apex_model.proofs.Keeps.{keeps-if_with, keeps-choice, all-append}
use Rattle.apex_model.proofs.ValidFiles.{index-set}
use Rattle.model_laws.proofs.AlikeWords.{Agree, agree-set, agree-set-first, equal-numbers, set-cases, numbered, Alike, alike-refused, alike-accepted, alike-if_with}
use Rattle.model_laws.proofs.Handles.{index-map}
use Rattle.model_laws.proofs.TreeChanges.{all-mapped}

-- ---- the ports of a table

-- whether this end of the channel is the partition's
abbrev pub IsEndOf : ChannelRow → ℕ → End → Type 0
IsEndOf row p source_end = row.source.partition.0 ≡ p
IsEndOf row p (destination_end d) = (port : PortRow) × (slice_get row.destinations d ≡ Some port) × (port.partition.0 ≡ p)

abbrev IsDestination : ℕ → ℕ → List PortRow → Port → Type 0
IsDestination channel d rows port =
    (i : ℕ) × (row : PortRow) × (port.channel ≡ channel) × (port.end ≡ destination_end (d + i)) × (slice_get rows i ≡ Some row) × (row.partition.0 ≡ port.partition)

all-destinations : (channel d : ℕ) (rows : List PortRow) → AllByRecursion (IsDestination channel d rows) (destinations_of_channel channel d rows)
all-destinations channel d [] = tt
all-destinations channel d (row ∷ rows) = (
  (0, row, refl, let n : d ≡ d + 0 = omega arith in ap destination_end n, refl, refl),
  all-mapped (IsDestination channel (d + 1) rows) (IsDestination channel d (row ∷ rows))
      (λ port is. (suc is.0, is.1, is.2, is.3 ∙ (let n : (d + 1) + is.0 ≡ d + suc is.0 = omega arith in ap destination_end n), is.4, is.5))
      (destinations_of_channel channel (d + 1) rows) (all-destinations channel (d + 1) rows),
)

abbrev IsPortFrom : ℕ → List ChannelRow → Port → Type 0
IsPortFrom first rows port = (j : ℕ) × (row : ChannelRow) × (port.channel ≡ first + j) × (slice_get rows j ≡ Some row) × IsEndOf row port.partition port.end

all-ports : (first : ℕ) (rows : List ChannelRow) → AllByRecursion (IsPortFrom first rows) (ports_from first rows)
all-ports first [] = tt
all-ports first (row ∷ rows) =
    let same : first ≡ first + 0 = omega arith in
    all-append (IsPortFrom first (row ∷ rows)) (ports_of_channel first row) (ports_from (first + 1) rows) (
      (0, row, same, refl, refl),
      all-mapped (IsDestination first 0 row.destinations) (IsPortFrom first (row ∷ rows))
          (λ port is.
          let E : End → Type 0 = λ e. IsEndOf row port.partition e in
          let number : 0 + is.0 ≡ is.0 = omega arith in
          (0, row, is.2 ∙ same, refl, subst E (sym (is.3 ∙ ap destination_end number)) (is.1, is.4, is.5)))
          (destinations_of_channel first 0 row.destinations) (all-destinations first 0 row.destinations),
    )
    (all-mapped (IsPortFrom (first + 1) rows) (IsPortFrom first (row ∷ rows))
    (λ port is. (suc is.0, is.1, is.2 ∙ (let n : (first + 1) + is.0 ≡ first + suc is.0 = omega arith in n), is.3, is.4))
    (ports_from (first + 1) rows) (all-ports (first + 1) rows))

-- a port's channel, and the end that it is
port-known : (table : Rows) (k : ℕ) (port : Port) → slice_get (ports table) k ≡ Some port → (row : ChannelRow) × (slice_get table.channels port.channel ≡ Some row) × IsEndOf row port.partition port.end
port-known table k port e =
    let is = all_at (IsPortFrom 0 table.channels) (ports table) k port (all-ports 0 table.channels) e in
    let far = is.2 in
    let same : is.0 ≡ port.channel = omega (arith, far) in
    let P : ℕ → Type 0 = λ n. slice_get table.channels n ≡ Some is.1 in
    (is.1, subst P same is.3, is.4)

own-port : (table : Rows) (p i k : ℕ) → slice_get (ports_of table p) i ≡ Some k → (port : Port) × (slice_get (ports table) k ≡ Some port) × (port.partition ≡ p)
own-port table p i k e = let found = numbered (λ port. port.partition == p) (ports table) i k e in (found.0, found.1, equal-numbers found.0.partition p found.2)

own-number : (table : Rows) (p id k : ℕ) → port_number table p id ≡ Some k → (port : Port) × (slice_get (ports table) k ≡ Some port) × (port.partition ≡ p)
own-number table p id k e = by-test (id == 0) e
  where
    by-test : (b : Bool) → (if b then None else slice_get (ports_of table p) (id - 1)) ≡ Some k → (port : Port) × (slice_get (ports table) k ≡ Some port) × (port.partition ≡ p)
    by-test true h = absurd (let wrong : ◌≡◌ {A = Option ℕ} None (Some k) = h in cc)
    by-test false h = own-port table p (id - 1) k h

-- the end that a partition's port is, where its channel has this row
own-end : (table : Rows) (p k : ℕ) (port : Port) (row : ChannelRow) → (own : Port) × (slice_get (ports table) k ≡ Some own) × (own.partition ≡ p) → slice_get (ports table) k ≡ Some port
    → slice_get table.channels port.channel ≡ Some row → IsEndOf row p port.end
own-end table p k port row own e at =
    let known = port-known table k port e in
    let rows : ◌≡◌ {A = Option ChannelRow} (Some known.0) (Some row) = sym known.1 ∙ at in
    let same_row : known.0 ≡ row = cc in
    let both : ◌≡◌ {A = Option Port} (Some own.0) (Some port) = sym own.1 ∙ e in
    let same_port : own.0 ≡ port = cc in
    let is : port.partition ≡ p = sym (ap (λ (x : Port). x.partition) same_port) ∙ own.2 in
    let P : ChannelRow → Type 0 = λ r. IsEndOf r port.partition port.end in
    let Q : ℕ → Type 0 = λ n. IsEndOf row n port.end in
    subst Q is (subst P same_row known.2)

-- ---- systems that are alike

-- the same message, and the same marks of members
pub record SameChannel (is_member : ℕ → Bool) (row : ChannelRow) (x y : Channel) : Type 0 where
  pub sample : x.sample ≡ y.sample
  pub count : length x.consumed ≡ length y.consumed
  pub marks : (d : ℕ) (port : PortRow) → slice_get row.destinations d ≡ Some port → is_member port.partition.0 ≡ true → slice_index_or x.consumed d false ≡ slice_index_or y.consumed d false

-- where the channel is a member's
abbrev pub Carried : Rows → (ℕ → Bool) → ℕ → Channel → Channel → Type 0
Carried table is_member k x y = (row : ChannelRow) → slice_get table.channels k ≡ Some row → is_member row.source.partition.0 ≡ true → SameChannel is_member row x y

-- a port of a member
abbrev pub IsPortOf : Rows → (ℕ → Bool) → ℕ → Type 0
IsPortOf table is_member k = (port : Port) × (slice_get (ports table) k ≡ Some port) × (is_member port.partition ≡ true)

abbrev pub SamePort : Rows → (ℕ → Bool) → ℕ → Bool → Bool → Type 0
SamePort table is_member k x y = IsPortOf table is_member k → x ≡ y

pub record PortsAlike (table : Rows) (is_member : ℕ → Bool) (a b : PortSystem) : Type 0 where
  pub channels : Agree (Carried table is_member) empty_channel a.channels b.channels
  pub created : Agree (SamePort table is_member) false a.created b.created

-- the source of a channel that ends at a member is a member
abbrev pub IsFed : Rows → (ℕ → Bool) → Type 0
IsFed table is_member = (k d : ℕ) (row : ChannelRow) (port : PortRow) → slice_get table.channels k ≡ Some row → slice_get row.destinations d ≡ Some port → is_member port.partition.0 ≡ true
    → is_member row.source.partition.0 ≡ true

module _ (table : Rows) (is_member : ℕ → Bool) (fed : IsFed table is_member) (now : ℕ) (a b : PortSystem) (same : PortsAlike table is_member a b) where
  module _ (p : ℕ) (member : is_member p ≡ true) where
    -- ---- a member's call

    granted-alike : {X : Type 0} (o q : Option X) (refusal : PortOutcome) (rest next : X → PortOutcome) → o ≡ q → Alike (PortsAlike table is_member) refusal refusal
        → ((x : X) → o ≡ Some x → Alike (PortsAlike table is_member) (rest x) (next x)) → Alike (PortsAlike table is_member) (granted o refusal rest) (granted q refusal next)
    granted-alike {X} o q refusal rest next e r h = let P : Option X → Type 0 = λ z. Alike (PortsAlike table is_member) (granted o refusal rest) (granted z refusal next) in subst P e (go o h)
      where
        go : (o : Option X) → ((x : X) → o ≡ Some x → Alike (PortsAlike table is_member) (rest x) (next x)) → Alike (PortsAlike table is_member) (granted o refusal rest) (granted o refusal next)
        go None h = r
        go (Some x) h = h x refl

    made-alike : (k : ℕ) → (port : Port) × (slice_get (ports table) k ≡ Some port) × (port.partition ≡ p) → is_made a k ≡ is_made b k
    made-alike k is = same.created.at k (is.0, is.1, ap is_member is.2 ∙ member)

    port-alike : (id : ℕ) (rest next : Port → ChannelRow → PortOutcome)
        → ((port : Port) (row : ChannelRow) → slice_get table.channels port.channel ≡ Some row → IsEndOf row p port.end → Alike (PortsAlike table is_member) (rest port row) (next port row))
        → Alike (PortsAlike table is_member) (on_port table a p id rest) (on_port table b p id next)
    port-alike id rest next h =
        granted-alike (port_number table p id) (port_number table p id) (refuse_with InvalidParam) _ _ refl (alike-refused (PortsAlike table is_member) _) (λ k e.
        let own = own-number table p id k e in
        alike-if_with (PortsAlike table is_member) (not (is_made a k)) (not (is_made b k)) InvalidParam _ _ (ap not (made-alike k own)) (λ _.
        granted-alike (slice_get (ports table) k) (slice_get (ports table) k) (refuse_with InvalidParam) _ _ refl (alike-refused (PortsAlike table is_member) _) (λ port there.
        granted-alike (slice_get table.channels port.channel) (slice_get table.channels port.channel) (refuse_with InvalidParam) (rest port) (next port) refl (alike-refused (PortsAlike table is_member) _) (λ row at.
        h port row at (own-end table p k port row own there at)))))

    create-alike : (mode : Mode) (name : List ℕ) → Alike (PortsAlike table is_member) (create_port table a p mode name) (create_port table b p mode name)
    unfolding create_port
    create-alike mode name = alike-if_with (PortsAlike table is_member) (is_normal mode) (is_normal mode) InvalidMode _ _ refl (λ _.
        granted-alike (port_named table p name) (port_named table p name) (refuse_with InvalidConfig) _ _ refl (alike-refused (PortsAlike table is_member) _) (λ place _.
        granted-alike (slice_get (ports_of table p) place) (slice_get (ports_of table p) place) (refuse_with InvalidConfig) _ _ refl (alike-refused (PortsAlike table is_member) _) (λ k e.
        alike-if_with (PortsAlike table is_member) (is_made a k) (is_made b k) NoAction _ _ (made-alike k (own-port table p place k e)) (λ _.
        alike-accepted (PortsAlike table is_member) _ _ _ _ refl
        (record { channels = same.channels; created = agree-set (SamePort table is_member) false a.created b.created same.created k true true (λ _. refl) })))))

    at-end-alike : (k : ℕ) (row : ChannelRow) (bytes : List ℕ) (end : End) → Alike (PortsAlike table is_member) (write_at_end a now k row bytes end) (write_at_end b now k row bytes end)
    at-end-alike k row bytes (destination_end d) = alike-refused (PortsAlike table is_member) _
    at-end-alike k row bytes source_end =
        alike-if_with (PortsAlike table is_member) (length bytes == 0) (length bytes == 0) InvalidParam _ _ refl (λ _.
        alike-if_with (PortsAlike table is_member) (nat_lt row.size (length bytes)) (nat_lt row.size (length bytes)) InvalidConfig _ _ refl (λ _.
        alike-accepted (PortsAlike table is_member) _ _ _ _ refl (record {
          channels = agree-set (Carried table is_member) empty_channel a.channels b.channels same.channels k _ _ (λ r at source.
              let was = same.channels.at k r at source in
              record {
                sample = refl;
                count = length-map (λ mark. false) (channel_in a k).consumed ∙ was.count ∙ sym (length-map (λ mark. false) (channel_in b k).consumed);
                marks = λ d port _ _. index-map (λ mark. false) (channel_in a k).consumed d false refl ∙ sym (index-map (λ mark. false) (channel_in b k).consumed d false refl);
              });
          created = same.created;
        })))

    write-alike : (id : ℕ) (bytes : List ℕ) → Alike (PortsAlike table is_member) (write_sampling_message table a now p id bytes) (write_sampling_message table b now p id bytes)
    unfolding write_sampling_message
    write-alike id bytes = port-alike id _ _ (λ port row _ _. at-end-alike port.channel row bytes port.end)

    updated-alike : (x y : Channel) (d : ℕ) → slice_index_or x.consumed d false ≡ slice_index_or y.consumed d false → updated_at x d ≡ updated_at y d
    updated-alike x y d e = ap (λ mark. if mark then ConsumedMessage else NewMessage) e

    sample-alike : (port : Port) (row : ChannelRow) (rest next : ℕ → Sample → PortOutcome) → slice_get table.channels port.channel ≡ Some row → IsEndOf row p port.end
        → ((d : ℕ) (sample : Sample) → updated_at (channel_in a port.channel) d ≡ updated_at (channel_in b port.channel) d → Alike (PortsAlike table is_member) (rest d sample) (next d sample))
        → Alike (PortsAlike table is_member) (on_sample a port rest) (on_sample b port next)
    sample-alike port row rest next at end h = by-end port.end end
      where
        by-end : (e : End) → IsEndOf row p e → Alike (PortsAlike table is_member)
            (elim e [ source_end ↦ refuse_with InvalidMode | destination_end d ↦ granted (channel_in a port.channel).sample (refused (bare_refusal NoAction (State EmptyPort))) (rest d) ])
            (elim e [ source_end ↦ refuse_with InvalidMode | destination_end d ↦ granted (channel_in b port.channel).sample (refused (bare_refusal NoAction (State EmptyPort))) (next d) ])
        by-end source_end is = alike-refused (PortsAlike table is_member) _
        by-end (destination_end d) is =
            let mine : is_member is.0.partition.0 ≡ true = ap is_member is.2 ∙ member in
            let both = same.channels.at port.channel row at (fed port.channel d row is.0 at is.1 mine) in
            granted-alike (channel_in a port.channel).sample (channel_in b port.channel).sample (refused (bare_refusal NoAction (State EmptyPort))) (rest d) (next d) both.sample
            (alike-refused (PortsAlike table is_member) _)
            (λ sample _. h d sample (updated-alike (channel_in a port.channel) (channel_in b port.channel) d (both.marks d is.0 is.1 mine)))

    consumed-alike : (k d : ℕ) (row : ChannelRow) (sample : Sample) → updated_at (channel_in a k) d ≡ updated_at (channel_in b k) d
        → Alike (PortsAlike table is_member) (read_sample a now k row d sample) (read_sample b now k row d sample)
    consumed-alike k d row sample e = alike-accepted (PortsAlike table is_member) _ _ _ _ (ap (λ (u : Updated). Message u (validity_at now row sample) sample.bytes) e) (record {
      channels = agree-set (Carried table is_member) empty_channel a.channels b.channels same.channels k _ _ (λ r at source.
          let was = same.channels.at k r at source in
          record {
            sample = was.sample;
            count = length-set (channel_in a k).consumed d true ∙ was.count ∙ sym (length-set (channel_in b k).consumed d true);
            marks = λ n port there mine. elim (set-cases (channel_in a k).consumed (channel_in b k).consumed d n true true false was.count) [
              | inl is ↦ is.0 ∙ sym is.1
              | inr old ↦ old.0 ∙ was.marks n port there mine ∙ sym old.1
            ];
          });
      created = same.created;
    })

    read_updated-alike : (id : ℕ) → Alike (PortsAlike table is_member) (read_updated table a now p id) (read_updated table b now p id)
    unfolding read_updated
    read_updated-alike id = port-alike id _ _ (λ port row at end. sample-alike port row _ _ at end (λ d sample e. consumed-alike port.channel d row sample e))

    read_conditional-alike : (id time : ℕ) → Alike (PortsAlike table is_member) (read_conditional table a now p id time) (read_conditional table b now p id time)
    unfolding read_conditional
    read_conditional-alike id time = port-alike id _ _ (λ port row at end. sample-alike port row _ _ at end (λ d sample e. by-time port row d sample e (nat_le sample.time time)))
      where
        by-time : (port : Port) (row : ChannelRow) (d : ℕ) (sample : Sample) → updated_at (channel_in a port.channel) d ≡ updated_at (channel_in b port.channel) d → (old : Bool)
            → Alike (PortsAlike table is_member)
            (if old then refused (bare_refusal NoAction (State (updated_at (channel_in a port.channel) d))) else read_sample a now port.channel row d sample)
            (if old then refused (bare_refusal NoAction (State (updated_at (channel_in b port.channel) d))) else read_sample b now port.channel row d sample)
        by-time port row d sample e true =
            let P : Updated → Type 0 = λ u. Alike (PortsAlike table is_member) (refused (bare_refusal NoAction (State (updated_at (channel_in a port.channel) d)))) (refused (bare_refusal NoAction (State u))) in
            subst P e (alike-refused (PortsAlike table is_member) _)
        by-time port row d sample e false = consumed-alike port.channel d row sample e

    status-alike : (k : ℕ) (row : ChannelRow) (d : ℕ) (o : Option Sample) → updated_at (channel_in a k) d ≡ updated_at (channel_in b k) d
        → Alike (PortsAlike table is_member) (destination_status a now k row d o) (destination_status b now k row d o)
    status-alike k row d None e = alike-accepted (PortsAlike table is_member) _ _ _ _ refl same
    status-alike k row d (Some sample) e = alike-accepted (PortsAlike table is_member) _ _ _ _
        (ap (λ (u : Updated). PortStatus row.size row.refresh u (validity_at now row sample) (now - sample.time)) e) same

    current_status-alike : (id : ℕ) → Alike (PortsAlike table is_member) (current_status table a now p id) (current_status table b now p id)
    unfolding current_status
    current_status-alike id = port-alike id _ _ (λ port row at end. by-end port row at port.end end)
      where
        by-end : (port : Port) (row : ChannelRow) → slice_get table.channels port.channel ≡ Some row → (e : End) → IsEndOf row p e → Alike (PortsAlike table is_member)
            (elim e [ source_end ↦ accepted a (SourceStatus row.size row.refresh) | destination_end d ↦ destination_status a now port.channel row d (channel_in a port.channel).sample ])
            (elim e [ source_end ↦ accepted b (SourceStatus row.size row.refresh) | destination_end d ↦ destination_status b now port.channel row d (channel_in b port.channel).sample ])
        by-end port row at source_end is = alike-accepted (PortsAlike table is_member) _ _ _ _ refl same
        by-end port row at (destination_end d) is =
            let mine : is_member is.0.partition.0 ≡ true = ap is_member is.2 ∙ member in
            let both = same.channels.at port.channel row at (fed port.channel d row is.0 at is.1 mine) in
            let P : Option Sample → Type 0 = λ o. Alike (PortsAlike table is_member) (destination_status a now port.channel row d (channel_in a port.channel).sample) (destination_status b now port.channel row d o) in
            subst P both.sample (status-alike port.channel row d (channel_in a port.channel).sample
            (updated-alike (channel_in a port.channel) (channel_in b port.channel) d (both.marks d is.0 is.1 mine)))

    sampling_service-alike : (mode : Mode) (c : SamplingCall) → Alike (PortsAlike table is_member) (sampling_service table a now p mode c) (sampling_service table b now p mode c)
    sampling_service-alike mode (Create name) = create-alike mode name
    sampling_service-alike mode (Write id bytes) = write-alike id bytes
    sampling_service-alike mode (ReadUpdated id) = read_updated-alike id
    sampling_service-alike mode (CurrentStatus id) = current_status-alike id
    sampling_service-alike mode (ReadConditional id time) = read_conditional-alike id time

    -- a member's sampling call is answered the same, and leaves both alike
    pub sampling_step-alike : (mode : Mode) (c : SamplingCall) → Alike (PortsAlike table is_member) (sampling_step table a now p mode c) (sampling_step table b now p mode c)
    sampling_step-alike mode c = alike-if_with (PortsAlike table is_member) (is_idle mode) (is_idle mode) InvalidMode _ _ refl (λ _. sampling_service-alike mode c)

  module _ (q : ℕ) (out : is_member q ≡ false) where
    -- ---- another's call

    abbrev Stays : PortSystem → Type 0
    Stays s = PortsAlike table is_member s b

    granted-beside : {X : Type 0} (o : Option X) (refusal : PortOutcome) (rest : X → PortOutcome) → Stays (state_after a refusal) → ((x : X) → o ≡ Some x → Stays (state_after a (rest x)))
        → Stays (state_after a (granted o refusal rest))
    granted-beside None refusal rest r h = r
    granted-beside (Some x) refusal rest r h = h x refl

    port-beside : (id : ℕ) (rest : Port → ChannelRow → PortOutcome)
        → ((port : Port) (row : ChannelRow) → slice_get table.channels port.channel ≡ Some row → IsEndOf row q port.end → Stays (state_after a (rest port row)))
        → Stays (state_after a (on_port table a q id rest))
    port-beside id rest h =
        granted-beside (port_number table q id) (refuse_with InvalidParam) _ same (λ k e.
        keeps-if_with Stays a (not (is_made a k)) InvalidParam _ same (λ _.
        granted-beside (slice_get (ports table) k) (refuse_with InvalidParam) _ same (λ port there.
        granted-beside (slice_get table.channels port.channel) (refuse_with InvalidParam) (rest port) same (λ row at.
        h port row at (own-end table q k port row (own-number table q id k e) there at)))))

    not-mine : (k : ℕ) → (port : Port) × (slice_get (ports table) k ≡ Some port) × (port.partition ≡ q) → IsPortOf table is_member k → ⊥
    not-mine k is own =
        let both : ◌≡◌ {A = Option Port} (Some is.0) (Some own.0) = sym is.1 ∙ own.1 in
        let port : is.0 ≡ own.0 = cc in
        let wrong : true ≡ false = sym own.2 ∙ ap (λ (x : Port). is_member x.partition) (sym port) ∙ ap is_member is.2 ∙ out in cc

    create-beside : (mode : Mode) (name : List ℕ) → Stays (state_after a (create_port table a q mode name))
    unfolding create_port
    create-beside mode name = keeps-if_with Stays a (is_normal mode) InvalidMode _ same (λ _.
        granted-beside (port_named table q name) (refuse_with InvalidConfig) _ same (λ place _.
        granted-beside (slice_get (ports_of table q) place) (refuse_with InvalidConfig) _ same (λ k e.
        keeps-if_with Stays a (is_made a k) NoAction _ same (λ _.
        record { channels = same.channels; created = agree-set-first (SamePort table is_member) false a.created b.created same.created k true (λ y _ is. absurd (not-mine k (own-port table q place k e) is)) }))))

    at-end-beside : (k : ℕ) (row : ChannelRow) (bytes : List ℕ) (end : End) → slice_get table.channels k ≡ Some row → IsEndOf row q end → Stays (state_after a (write_at_end a now k row bytes end))
    at-end-beside k row bytes (destination_end d) at is = same
    at-end-beside k row bytes source_end at is =
        keeps-if_with Stays a (length bytes == 0) InvalidParam _ same (λ _.
        keeps-if_with Stays a (nat_lt row.size (length bytes)) InvalidConfig _ same (λ _. record {
          channels = agree-set-first (Carried table is_member) empty_channel a.channels b.channels same.channels k _ (λ y _ r there source.
              let both : ◌≡◌ {A = Option ChannelRow} (Some row) (Some r) = sym at ∙ there in
              let one : row ≡ r = cc in
              absurd (let wrong : true ≡ false = sym source ∙ ap (λ (x : ChannelRow). is_member x.source.partition.0) (sym one) ∙ ap is_member is ∙ out in cc));
          created = same.created;
        }))

    write-beside : (id : ℕ) (bytes : List ℕ) → Stays (state_after a (write_sampling_message table a now q id bytes))
    unfolding write_sampling_message
    write-beside id bytes = port-beside id _ (λ port row at end. at-end-beside port.channel row bytes port.end at end)

    consumed-beside : (k d : ℕ) (row : ChannelRow) (sample : Sample) → slice_get table.channels k ≡ Some row → IsEndOf row q (destination_end d) → Stays (state_after a (read_sample a now k row d sample))
    consumed-beside k d row sample at is = record {
      channels = agree-set-first (Carried table is_member) empty_channel a.channels b.channels same.channels k _ (λ y was r there source.
          let both : ◌≡◌ {A = Option ChannelRow} (Some row) (Some r) = sym at ∙ there in
          let one : row ≡ r = cc in
          let old = was r there source in
          record {
            sample = old.sample;
            count = length-set (channel_in a k).consumed d true ∙ old.count;
            marks = λ n port here mine. elim (index-set (channel_in a k).consumed d n true false) [
              | inl new ↦
                  let ends : ◌≡◌ {A = Option PortRow} (Some is.0) (Some port) = sym is.1 ∙ (λ i. slice_get (one i).destinations (new.1 i)) ∙ here in
                  let end : is.0 ≡ port = cc in
                  absurd (let wrong : true ≡ false = sym mine ∙ ap (λ (x : PortRow). is_member x.partition.0) (sym end) ∙ ap is_member is.2 ∙ out in cc)
              | inr still ↦ still ∙ old.marks n port here mine
            ];
          });
      created = same.created;
    }

    sample-beside : (port : Port) (row : ChannelRow) (rest : ℕ → Sample → PortOutcome) → IsEndOf row q port.end
        → ((d : ℕ) (sample : Sample) → IsEndOf row q (destination_end d) → Stays (state_after a (rest d sample))) → Stays (state_after a (on_sample a port rest))
    sample-beside port row rest end h = by-end port.end end
      where
        by-end : (e : End) → IsEndOf row q e → Stays (state_after a
            (elim e [ source_end ↦ refuse_with InvalidMode | destination_end d ↦ granted (channel_in a port.channel).sample (refused (bare_refusal NoAction (State EmptyPort))) (rest d) ]))
        by-end source_end is = same
        by-end (destination_end d) is = granted-beside (channel_in a port.channel).sample (refused (bare_refusal NoAction (State EmptyPort))) (rest d) same (λ sample _. h d sample is)

    read_updated-beside : (id : ℕ) → Stays (state_after a (read_updated table a now q id))
    unfolding read_updated
    read_updated-beside id = port-beside id _ (λ port row at end. sample-beside port row _ end (λ d sample is. consumed-beside port.channel d row sample at is))

    read_conditional-beside : (id time : ℕ) → Stays (state_after a (read_conditional table a now q id time))
    unfolding read_conditional
    read_conditional-beside id time = port-beside id _ (λ port row at end. sample-beside port row _ end (λ d sample is.
        keeps-choice Stays a (nat_le sample.time time) _ _ (λ _. same) (λ _. consumed-beside port.channel d row sample at is)))

    status-beside : (k : ℕ) (row : ChannelRow) (d : ℕ) (o : Option Sample) → Stays (state_after a (destination_status a now k row d o))
    status-beside k row d None = same
    status-beside k row d (Some sample) = same

    current_status-beside : (id : ℕ) → Stays (state_after a (current_status table a now q id))
    unfolding current_status
    current_status-beside id = port-beside id _ (λ port row _ _. by-end port row port.end)
      where
        by-end : (port : Port) (row : ChannelRow) (e : End) → Stays (state_after a
            (elim e [ source_end ↦ accepted a (SourceStatus row.size row.refresh) | destination_end d ↦ destination_status a now port.channel row d (channel_in a port.channel).sample ]))
        by-end port row source_end = same
        by-end port row (destination_end d) = status-beside port.channel row d (channel_in a port.channel).sample

    sampling_service-beside : (mode : Mode) (c : SamplingCall) → Stays (state_after a (sampling_service table a now q mode c))
    sampling_service-beside mode (Create name) = create-beside mode name
    sampling_service-beside mode (Write id bytes) = write-beside id bytes
    sampling_service-beside mode (ReadUpdated id) = read_updated-beside id
    sampling_service-beside mode (CurrentStatus id) = current_status-beside id
    sampling_service-beside mode (ReadConditional id time) = read_conditional-beside id time

    -- it leaves both alike
    pub sampling_step-beside : (mode : Mode) (c : SamplingCall) → PortsAlike table is_member (state_after a (sampling_step table a now q mode c)) b
    sampling_step-beside mode c = keeps-if_with Stays a (is_idle mode) InvalidMode _ same (λ _. sampling_service-beside mode c)
