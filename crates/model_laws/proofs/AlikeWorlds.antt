-- Two worlds that are alike for the members: what a member's line does and answers is the same in both, and what another partition's does leaves them so.
use Rattle.std.proofs.Common.{◌≡◌, ℕ, ◌+◌, Bool, true, false, not, List, refl, sym, ap, subst, ◌∙◌}
use Rattle.std.specs.Prelude.{◌==◌, ◌&&◌}
use Rattle.apex_types.specs.Rows.{Rows}
use Rattle.apex_types.specs.declared.calls.Call.{Call}
use Rattle.apex_types.specs.declared.calls.Call.TheVariants as call
use Rattle.apex_types.specs.declared.calls.Deed.TheVariants as deed
use Rattle.apex_types.specs.declared.calls.Mode.{Mode}
use Rattle.apex_types.specs.declared.calls.Mode.TheVariants.{Idle, ColdStart, WarmStart, Normal}
use Rattle.apex_types.specs.declared.rows.LogbookRow.{LogbookRow}
use Rattle.apex_model.specs.Channels.{sampling_step}
use Rattle.apex_model.specs.DirectoryStep.{directory_step}
use Rattle.apex_model.specs.FailedReads.{is_among, reads_file, by_read, call_outcome, world_after_deed}
use Rattle.apex_model.specs.FileStep.{file_step}
use Rattle.apex_model.specs.Handles.{no_handles}
use Rattle.apex_model.specs.Logbooks.{logbook_step}
use Rattle.apex_model.specs.Outcomes.{Outcome, refused, accepted, reply_of, state_after}
use Rattle.apex_model.specs.Tables.{Port, ports}
use Rattle.apex_model.specs.Validity.{IsValid}
use Rattle.apex_model.specs.World.{Partition, World, started, partition_in, is_ready, restarted, with_partition, enter_normal, set_mode, with_files, with_logbooks, with_ports, call_step, ticked}
use Rattle.apex_model.proofs.Alike.{IsClosed}
use Rattle.apex_model.proofs.Keeps.{state_after-map}
use Rattle.model_laws.proofs.AlikeBooks.{BooksAlike, all_moved-alike, logbook_step-alike, logbook_step-beside}
use Rattle.model_laws.proofs.AlikeDirectories.{directory_step-alike}
use Rattle.model_laws.proofs.AlikeFiles.{SameHandles, FilesAlike, file_step-alike}
use Rattle.model_laws.proofs.AlikePorts.{PortsAlike, IsFed, sampling_step-alike, sampling_step-beside}
use Rattle.model_laws.proofs.AlikeWords.{Agree, agree-set, agree-set-first, joined-at, joined-count, mark-stays, Alike, alike-refused, alike-accepted, alike-reply, alike-state, alike-by_read, alike-whole}
use Rattle.model_laws.proofs.FilesBeside.{file_step-beside, directory_step-beside}
use Rattle.model_laws.proofs.Steps.{marks-length}

abbrev pub SamePartition : (ℕ → Bool) → ℕ → Partition → Partition → Type 0
SamePartition is_member p x y = is_member p ≡ true → x ≡ y

-- each part is alike for the members, at the same time
pub record WorldsAlike (table : Rows) (is_member : ℕ → Bool) (a b : World) : Type 0 where
  pub files : FilesAlike table is_member a.files b.files
  pub logbooks : BooksAlike table is_member a.logbooks b.logbooks
  pub ports : PortsAlike table is_member a.ports b.ports
  pub partitions : Agree (SamePartition is_member) started a.partitions b.partitions
  pub time : a.time ≡ b.time

module _ (table : Rows) (is_member : ℕ → Bool) (closed : IsClosed table is_member) (fed : IsFed table is_member) (a b : World) (v : IsValid table a) (same : WorldsAlike table is_member a b) where
  -- ---- a tick

  ticked-alike : (n : ℕ) → WorldsAlike table is_member (ticked table a n) (ticked table b n)
  ticked-alike n = record {
    files = same.files;
    logbooks = all_moved-alike table is_member a.logbooks b.logbooks same.logbooks;
    ports = same.ports;
    partitions = same.partitions;
    time = ap (λ t. t + n) same.time;
  }

  module _ (p : ℕ) (member : is_member p ≡ true) where
    -- ---- a member's line

    mine : partition_in a p ≡ partition_in b p
    mine = same.partitions.at p member

    with_partition-alike : (x y : Partition) → x ≡ y → WorldsAlike table is_member (with_partition a p x) (with_partition b p y)
    with_partition-alike x y e = record {
      files = same.files;
      logbooks = same.logbooks;
      ports = same.ports;
      partitions = agree-set (SamePartition is_member) started a.partitions b.partitions same.partitions p x y (λ _. e);
      time = same.time;
    }

    restarted-alike : (mode : Mode) → WorldsAlike table is_member (restarted table a p mode) (restarted table b p mode)
    restarted-alike mode =
        let books : LogbookRow × Bool → Bool = λ pair. not (pair.0.partition.0 == p) && pair.1 in
        let made : Port × Bool → Bool = λ pair. not (pair.0.partition == p) && pair.1 in
        record {
          files = record { trees = same.files.trees; handles = agree-set (SameHandles is_member) no_handles a.files.handles b.files.handles same.files.handles p no_handles no_handles (λ _. refl) };
          logbooks = record {
            books = same.logbooks.books;
            created = record {
              count = joined-count books table.logbooks a.logbooks.created b.logbooks.created same.logbooks.created.count;
              at = λ k is. joined-at books false false table.logbooks a.logbooks.created b.logbooks.created k same.logbooks.created.count (same.logbooks.created.at k is);
            };
          };
          ports = record {
            channels = same.ports.channels;
            created = record {
              count = joined-count made (ports table) a.ports.created b.ports.created same.ports.created.count;
              at = λ k is. joined-at made false false (ports table) a.ports.created b.ports.created k same.ports.created.count (same.ports.created.at k is);
            };
          };
          partitions = agree-set (SamePartition is_member) started a.partitions b.partitions same.partitions p _ _ (λ _. refl);
          time = same.time;
        }

    enter-alike : (partition : Partition) (mode : Mode) → Alike (WorldsAlike table is_member) (enter_normal a p partition mode) (enter_normal b p partition mode)
    enter-alike partition Normal = alike-refused (WorldsAlike table is_member) _
    enter-alike partition Idle = alike-refused (WorldsAlike table is_member) _
    enter-alike partition ColdStart = alike-accepted (WorldsAlike table is_member) _ _ _ _ refl (with_partition-alike _ _ refl)
    enter-alike partition WarmStart = alike-accepted (WorldsAlike table is_member) _ _ _ _ refl (with_partition-alike _ _ refl)

    set_mode-alike : (mode : Mode) → Alike (WorldsAlike table is_member) (set_mode table a p mode) (set_mode table b p mode)
    set_mode-alike Normal =
        let P : Partition → Type 0 = λ x. Alike (WorldsAlike table is_member) (enter_normal a p (partition_in a p) (partition_in a p).mode) (enter_normal b p x x.mode) in
        subst P mine (enter-alike (partition_in a p) (partition_in a p).mode)
    set_mode-alike Idle = alike-accepted (WorldsAlike table is_member) _ _ _ _ refl (restarted-alike Idle)
    set_mode-alike ColdStart = alike-accepted (WorldsAlike table is_member) _ _ _ _ refl (restarted-alike ColdStart)
    set_mode-alike WarmStart = alike-accepted (WorldsAlike table is_member) _ _ _ _ refl (restarted-alike WarmStart)

    -- a member's call or directive is answered the same, and leaves both alike
    pub call-alike : (c : Call) → Alike (WorldsAlike table is_member) (call_step table a p c) (call_step table b p c)
    call-alike (call.File c) =
        let P : Partition → Type 0 = λ x. Alike (FilesAlike table is_member) (file_step table a.files p (is_ready (partition_in a p)) c) (file_step table b.files p (is_ready x) c) in
        alike-whole (FilesAlike table is_member) (WorldsAlike table is_member) (with_files a) (with_files b)
        (λ s t r. record { files = r; logbooks = same.logbooks; ports = same.ports; partitions = same.partitions; time = same.time })
        (file_step table a.files p (is_ready (partition_in a p)) c) (file_step table b.files p (is_ready (partition_in b p)) c)
        (subst P mine (file_step-alike table is_member closed a.files b.files v.files same.files p member (is_ready (partition_in a p)) c))
    call-alike (call.Directory c) =
        let P : Partition → Type 0 = λ x. Alike (FilesAlike table is_member) (directory_step table a.files p (is_ready (partition_in a p)) c) (directory_step table b.files p (is_ready x) c) in
        alike-whole (FilesAlike table is_member) (WorldsAlike table is_member) (with_files a) (with_files b)
        (λ s t r. record { files = r; logbooks = same.logbooks; ports = same.ports; partitions = same.partitions; time = same.time })
        (directory_step table a.files p (is_ready (partition_in a p)) c) (directory_step table b.files p (is_ready (partition_in b p)) c)
        (subst P mine (directory_step-alike table is_member closed a.files b.files v.files same.files p member (is_ready (partition_in a p)) c))
    call-alike (call.Logbook c) =
        let P : Partition → Type 0 = λ x. Alike (BooksAlike table is_member) (logbook_step table a.logbooks p (partition_in a p).mode c) (logbook_step table b.logbooks p x.mode c) in
        alike-whole (BooksAlike table is_member) (WorldsAlike table is_member) (with_logbooks a) (with_logbooks b)
        (λ s t r. record { files = same.files; logbooks = r; ports = same.ports; partitions = same.partitions; time = same.time })
        (logbook_step table a.logbooks p (partition_in a p).mode c) (logbook_step table b.logbooks p (partition_in b p).mode c)
        (subst P mine (logbook_step-alike table is_member a.logbooks b.logbooks same.logbooks p member (partition_in a p).mode c))
    call-alike (call.Sampling c) =
        let P : Partition → Type 0 = λ x. Alike (PortsAlike table is_member) (sampling_step table a.ports a.time p (partition_in a p).mode c) (sampling_step table b.ports b.time p x.mode c) in
        let Q : ℕ → Type 0 = λ now. Alike (PortsAlike table is_member) (sampling_step table a.ports a.time p (partition_in a p).mode c) (sampling_step table b.ports now p (partition_in a p).mode c) in
        alike-whole (PortsAlike table is_member) (WorldsAlike table is_member) (with_ports a) (with_ports b)
        (λ s t r. record { files = same.files; logbooks = same.logbooks; ports = r; partitions = same.partitions; time = same.time })
        (sampling_step table a.ports a.time p (partition_in a p).mode c) (sampling_step table b.ports b.time p (partition_in b p).mode c)
        (subst P mine (subst Q same.time (sampling_step-alike table is_member fed a.time a.ports b.ports same.ports p member (partition_in a p).mode c)))
    call-alike (call.SetMode mode) = set_mode-alike mode
    call-alike (call.SetContext context) = alike-accepted (WorldsAlike table is_member) _ _ _ _ refl
        (with_partition-alike _ _ (ap (λ (x : Partition). let made : Partition = record { mode = x.mode; context = context } in made) mine))

  module _ (q : ℕ) (out : is_member q ≡ false) where
    -- ---- another's line

    not-mine : (r : ℕ) → r ≡ q → is_member r ≡ true → ⊥
    not-mine r e member = let wrong : true ≡ false = sym member ∙ ap is_member e ∙ out in cc

    with_partition-beside : (x : Partition) → WorldsAlike table is_member (with_partition a q x) b
    with_partition-beside x = record {
      files = same.files;
      logbooks = same.logbooks;
      ports = same.ports;
      partitions = agree-set-first (SamePartition is_member) started a.partitions b.partitions same.partitions q x (λ y _ member. absurd (not-mine q refl member));
      time = same.time;
    }

    restarted-beside : (mode : Mode) → WorldsAlike table is_member (restarted table a q mode) b
    restarted-beside mode = record {
      files = record {
        trees = same.files.trees;
        handles = agree-set-first (SameHandles is_member) no_handles a.files.handles b.files.handles same.files.handles q no_handles (λ y _ member. absurd (not-mine q refl member));
      };
      logbooks = record {
        books = same.logbooks.books;
        created = record {
          count = marks-length (λ row. row.partition.0) q table.logbooks a.logbooks.created v.logbooks.created ∙ sym v.logbooks.created ∙ same.logbooks.created.count;
          at = λ k is. mark-stays (λ row. row.partition.0) q table.logbooks a.logbooks.created k is.0 is.1 (λ e. not-mine is.0.partition.0 e is.2) ∙ same.logbooks.created.at k is;
        };
      };
      ports = record {
        channels = same.ports.channels;
        created = record {
          count = marks-length (λ port. port.partition) q (ports table) a.ports.created v.ports.created ∙ sym v.ports.created ∙ same.ports.created.count;
          at = λ k is. mark-stays (λ port. port.partition) q (ports table) a.ports.created k is.0 is.1 (λ e. not-mine is.0.partition e is.2) ∙ same.ports.created.at k is;
        };
      };
      partitions = agree-set-first (SamePartition is_member) started a.partitions b.partitions same.partitions q _ (λ y _ member. absurd (not-mine q refl member));
      time = same.time;
    }

    enter-beside : (partition : Partition) (mode : Mode) → WorldsAlike table is_member (state_after a (enter_normal a q partition mode)) b
    enter-beside partition Normal = same
    enter-beside partition Idle = same
    enter-beside partition ColdStart = with_partition-beside _
    enter-beside partition WarmStart = with_partition-beside _

    set_mode-beside : (mode : Mode) → WorldsAlike table is_member (state_after a (set_mode table a q mode)) b
    set_mode-beside Normal = enter-beside (partition_in a q) (partition_in a q).mode
    set_mode-beside Idle = restarted-beside Idle
    set_mode-beside ColdStart = restarted-beside ColdStart
    set_mode-beside WarmStart = restarted-beside WarmStart

    -- it leaves both alike
    pub call-beside : (c : Call) → WorldsAlike table is_member (state_after a (call_step table a q c)) b
    call-beside (call.File c) =
        let P : World → Type 0 = λ w. WorldsAlike table is_member w b in
        subst P (sym (state_after-map (with_files a) a.files (file_step table a.files q (is_ready (partition_in a q)) c))) (record {
          files = file_step-beside table is_member closed a.files b.files v.files same.files q out (is_ready (partition_in a q)) c;
          logbooks = same.logbooks;
          ports = same.ports;
          partitions = same.partitions;
          time = same.time;
        })
    call-beside (call.Directory c) =
        let P : World → Type 0 = λ w. WorldsAlike table is_member w b in
        subst P (sym (state_after-map (with_files a) a.files (directory_step table a.files q (is_ready (partition_in a q)) c))) (record {
          files = directory_step-beside table is_member closed a.files b.files v.files same.files q out (is_ready (partition_in a q)) c;
          logbooks = same.logbooks;
          ports = same.ports;
          partitions = same.partitions;
          time = same.time;
        })
    call-beside (call.Logbook c) =
        let P : World → Type 0 = λ w. WorldsAlike table is_member w b in
        subst P (sym (state_after-map (with_logbooks a) a.logbooks (logbook_step table a.logbooks q (partition_in a q).mode c))) (record {
          files = same.files;
          logbooks = logbook_step-beside table is_member a.logbooks b.logbooks same.logbooks q out (partition_in a q).mode c;
          ports = same.ports;
          partitions = same.partitions;
          time = same.time;
        })
    call-beside (call.Sampling c) =
        let P : World → Type 0 = λ w. WorldsAlike table is_member w b in
        subst P (sym (state_after-map (with_ports a) a.ports (sampling_step table a.ports a.time q (partition_in a q).mode c))) (record {
          files = same.files;
          logbooks = same.logbooks;
          ports = sampling_step-beside table is_member fed a.time a.ports b.ports same.ports q out (partition_in a q).mode c;
          partitions = same.partitions;
          time = same.time;
        })
    call-beside (call.SetMode mode) = set_mode-beside mode
    call-beside (call.SetContext context) = with_partition-beside _

  -- ---- lines where reads may fail

  module _ (failed : List ℕ) (number : ℕ) where
    pub tick-line : (n : ℕ) → WorldsAlike table is_member (world_after_deed table failed a number (deed.Tick n)) (world_after_deed table failed b number (deed.Tick n))
    tick-line n = ticked-alike n

    member-line : (p : ℕ) (c : Call) → is_member p ≡ true → Alike (WorldsAlike table is_member) (call_outcome table failed a number p c) (call_outcome table failed b number p c)
    member-line p c member = alike-by_read (WorldsAlike table is_member) (is_among failed number && reads_file c) (call_step table a p c) (call_step table b p c) (call-alike p member c)

    pub member-reply : (p : ℕ) (c : Call) → is_member p ≡ true → reply_of (call_outcome table failed a number p c) ≡ reply_of (call_outcome table failed b number p c)
    member-reply p c member = alike-reply (WorldsAlike table is_member) (call_outcome table failed a number p c) (call_outcome table failed b number p c) (member-line p c member)

    pub member-world : (p : ℕ) (c : Call) → is_member p ≡ true
        → WorldsAlike table is_member (state_after a (call_outcome table failed a number p c)) (state_after b (call_outcome table failed b number p c))
    member-world p c member = alike-state (WorldsAlike table is_member) a b (call_outcome table failed a number p c) (call_outcome table failed b number p c) same (member-line p c member)

    pub other-world : (q : ℕ) (c : Call) → is_member q ≡ false → WorldsAlike table is_member (state_after a (call_outcome table failed a number q c)) b
    other-world q c out = by-failure (is_among failed number && reads_file c) (call_step table a q c) (call-beside q out c)
      where
        by-failure : (f : Bool) (x : Outcome World) → WorldsAlike table is_member (state_after a x) b → WorldsAlike table is_member (state_after a (by_read f x)) b
        by-failure false x h = h
        by-failure true (refused reply) h = same
        by-failure true (accepted state values) h = same
