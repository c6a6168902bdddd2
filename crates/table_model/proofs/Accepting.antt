-- The rows of a table that is read are accepted.
use Rattle.std.proofs.Common.{◌≡◌, ◌<◌, ℕ, Bool, true, false, ◌&&◌, eqb, ltb, leb, List, [], ◌∷◌, length, get_or, Some, refl, sym, ap, subst, ◌∙◌, arith, bytes_eq}
use Rattle.std.specs.Prelude.{position, flat_map}
use Rattle.std.specs.Option.{option_map, option_and_then}
use Rattle.std.specs.List.{list_all}
use Rattle.std.proofs.lemmas.Bool.{and_parts}
use Rattle.std.proofs.lemmas.Bool.Decides.{nat_tests}
use Rattle.std.proofs.lemmas.Slice.Eq.{bytes_eq-Decides}
use Rattle.apex_types.specs.Naming.{is_table_name}
use Rattle.apex_types.specs.Rows.{Rows}
use Rattle.apex_types.specs.declared.numbers.PartitionId.{PartitionId}
use Rattle.apex_types.specs.declared.rows.PartitionRow.{PartitionRow}
use Rattle.apex_types.specs.declared.rows.VolumeRow.{VolumeRow}
use Rattle.apex_types.specs.declared.rows.TreeRow.{TreeRow}
use Rattle.apex_types.specs.declared.rows.LogbookRow.{LogbookRow}
use Rattle.apex_types.specs.declared.rows.PortRow.{PortRow}
use Rattle.apex_types.specs.declared.rows.ChannelRow.{ChannelRow}
use Rattle.apex_model.specs.Accepted as accepted
use Rattle.apex_model.specs.Accepted.{is_within, all_differ, is_tree_in_range, is_logbook_in_range, is_channel_in_range}
use Rattle.table_model.specs.Table.{is_same_partition, is_same_volume, is_same_tree, is_same_logbook, is_same_port, users_of, ends_of, all_of, volume_of, partition_of, tree_row, logbook_row, port_row, channel_row}
use Rattle.table_model.specs.declared.written.WrittenPort.{WrittenPort}
use Rattle.table_model.specs.declared.written.WrittenTree.{WrittenTree}
use Rattle.table_model.specs.declared.written.WrittenLogbook.{WrittenLogbook}
use Rattle.table_model.specs.declared.written.WrittenChannel.{WrittenChannel}
use Rattle.table_model.proofs.Judged.{few_good}
use Rattle.table_model.proofs.JudgedRows.{good_port, good_partition, good_volume, good_users, good_tree_sizes, good_tree, good_logbook, good_channel}
use Rattle.table_model.proofs.Found.{and_then_some, map_some, first_found, all_kept, same_length, found-append, differ_still, position_is}

-- ---- tests

and_two : (a b : Bool) → a ≡ true → b ≡ true → (a && b) ≡ true
and_two a b p q = rw (p, q) refl

and_three : (a b c : Bool) → a ≡ true → b ≡ true → c ≡ true → (a && b && c) ≡ true
and_three a b c p q r = rw (p, q, r) refl

and_five : (a b c d e : Bool) → a ≡ true → b ≡ true → c ≡ true → d ≡ true → e ≡ true → (a && b && c && d && e) ≡ true
and_five a b c d e p q r s t = rw (p, q, r, s, t) refl

all_weaker : {A : Type 0} (P Q : A → Bool) → ((x : A) → P x ≡ true → Q x ≡ true) → (xs : List A) → list_all P xs ≡ true → list_all Q xs ≡ true
all_weaker P Q step [] h = refl
all_weaker P Q step (x ∷ xs) h =
    let p = and_parts (P x) (list_all P xs) h in
    and_two (Q x) (list_all Q xs) (step x p.0) (all_weaker P Q step xs p.1)

lt_true : (m n : ℕ) → m < n → ltb m n ≡ true
lt_true m n h = grind (arith, nat_tests)

same_number : (m n : ℕ) → eqb m n ≡ true → m ≡ n
same_number m n h = grind (arith, nat_tests)

at_most : (lowest highest n : ℕ) → is_within lowest highest n ≡ true → leb n highest ≡ true
at_most lowest highest n h = (and_parts (leb lowest n) (leb n highest) h).1

-- a test that is false where another is: by what follows from the second
contrary : (a b : Bool) → (b ≡ true → a ≡ true) → a ≡ false → b ≡ false
contrary a true step h = absurd (let no : true ≡ false = sym (step refl) ∙ h in cc)
contrary a false step h = refl

-- ---- names and their places

same_bytes : (a b c : List ℕ) → bytes_eq c a ≡ true → bytes_eq c b ≡ true → bytes_eq a b ≡ true
same_bytes a b c h k =
    let p : c ≡ a = (bytes_eq-Decides c a).0 h in
    let q : c ≡ b = (bytes_eq-Decides c b).0 k in
    (bytes_eq-Decides a b).1 (sym p ∙ q)

volume_same : (vs : List VolumeRow) (a b : List ℕ) (i j : ℕ) → volume_of vs a ≡ Some i → volume_of vs b ≡ Some j → eqb i j ≡ true → bytes_eq a b ≡ true
volume_same vs a b i j p q same =
    let none : VolumeRow = record { name = []; blocks = 0 } in
    let x = position_is (λ row. bytes_eq row.name a) vs none i p in
    let y = position_is (λ row. bytes_eq row.name b) vs none j q in
    let e = same_number i j same in
    let z : bytes_eq (get_or vs i none).name b ≡ true = subst (λ k. bytes_eq (get_or vs k none).name b ≡ true) (sym e) y.1 in
    same_bytes a b (get_or vs i none).name x.1 z

partition_same : (ps : List PartitionRow) (a b : List ℕ) (i j : PartitionId) → partition_of ps a ≡ Some i → partition_of ps b ≡ Some j → eqb i.0 j.0 ≡ true → bytes_eq a b ≡ true
partition_same ps a b i j p q same =
    let none : PartitionRow = record { name = [] } in
    let u = map_some (position (λ row. bytes_eq row.name a) ps) (λ place. record { 0 = place }) i p in
    let v = map_some (position (λ row. bytes_eq row.name b) ps) (λ place. record { 0 = place }) j q in
    let x = position_is (λ row. bytes_eq row.name a) ps none u.0 u.1 in
    let y = position_is (λ row. bytes_eq row.name b) ps none v.0 v.1 in
    let m : u.0 ≡ i.0 = ap (λ (k : PartitionId). k.0) u.2 in
    let n : v.0 ≡ j.0 = ap (λ (k : PartitionId). k.0) v.2 in
    let e : u.0 ≡ v.0 = m ∙ same_number i.0 j.0 same ∙ sym n in
    let z : bytes_eq (get_or ps u.0 none).name b ≡ true = subst (λ k. bytes_eq (get_or ps k none).name b ≡ true) (sym e) y.1 in
    same_bytes a b (get_or ps u.0 none).name x.1 z

volume_there : (vs : List VolumeRow) (a : List ℕ) (i : ℕ) → volume_of vs a ≡ Some i → ltb i (length vs) ≡ true
volume_there vs a i p = lt_true i (length vs) (position_is (λ row. bytes_eq row.name a) vs (record { name = []; blocks = 0 }) i p).0

partition_there : (ps : List PartitionRow) (a : List ℕ) (i : PartitionId) → partition_of ps a ≡ Some i → ltb i.0 (length ps) ≡ true
partition_there ps a i p =
    let u = map_some (position (λ row. bytes_eq row.name a) ps) (λ place. record { 0 = place }) i p in
    let x = position_is (λ row. bytes_eq row.name a) ps (record { name = [] }) u.0 u.1 in
    let m : u.0 ≡ i.0 = ap (λ (k : PartitionId). k.0) u.2 in
    lt_true i.0 (length ps) (subst (λ k. k < length ps) m x.0)

-- ---- trees

pub record TreeParts (ps : List PartitionRow) (vs : List VolumeRow) (x : WrittenTree) (y : TreeRow) : Type 0 where
  pub volume : volume_of vs x.volume ≡ Some y.volume
  pub owner : partition_of ps x.owner ≡ Some y.owner
  pub readers : all_of (partition_of ps) x.readers ≡ Some y.readers
  pub quota : y.quota ≡ x.quota
  pub files : y.files ≡ x.files
  pub directories : y.directories ≡ x.directories
  pub dirty : y.dirty ≡ x.dirty

tree_parts : (ps : List PartitionRow) (vs : List VolumeRow) (x : WrittenTree) (y : TreeRow) → tree_row ps vs x ≡ Some y → TreeParts ps vs x y
tree_parts ps vs x y h =
    let make : ℕ → PartitionId → List PartitionId → TreeRow = λ volume owner readers.
    record { volume = volume; owner = owner; readers = readers; quota = x.quota; files = x.files; directories = x.directories; dirty = x.dirty } in
    let a = and_then_some (volume_of vs x.volume) (λ volume. option_and_then (λ owner. option_map (make volume owner) (all_of (partition_of ps) x.readers)) (partition_of ps x.owner)) y h in
    let b = and_then_some (partition_of ps x.owner) (λ owner. option_map (make a.0 owner) (all_of (partition_of ps) x.readers)) y a.2 in
    let c = map_some (all_of (partition_of ps) x.readers) (make a.0 b.0) y b.2 in
    subst (TreeParts ps vs x) c.2 (record { volume = a.1; owner = b.1; readers = c.1; quota = refl; files = refl; directories = refl; dirty = refl })

trees_apart : (ps : List PartitionRow) (vs : List VolumeRow) (x v : WrittenTree) (y w : TreeRow) → tree_row ps vs x ≡ Some y → tree_row ps vs v ≡ Some w → is_same_tree x v ≡ false
    → (eqb y.volume w.volume && eqb y.owner.0 w.owner.0) ≡ false
trees_apart ps vs x v y w p q =
    let a = tree_parts ps vs x y p in
    let b = tree_parts ps vs v w q in
    contrary (is_same_tree x v) (eqb y.volume w.volume && eqb y.owner.0 w.owner.0)
    (λ h.
    let s = and_parts (eqb y.volume w.volume) (eqb y.owner.0 w.owner.0) h in
    and_two (bytes_eq x.volume v.volume) (bytes_eq x.owner v.owner) (volume_same vs x.volume v.volume y.volume w.volume a.volume b.volume s.0) (partition_same ps x.owner v.owner y.owner w.owner a.owner b.owner s.1))

users_differ : (ps : List PartitionRow) (vs : List VolumeRow) (x : WrittenTree) (y : TreeRow) → tree_row ps vs x ≡ Some y → all_differ bytes_eq (users_of x) ≡ true → all_differ (λ a b. eqb a.0 b.0) (y.owner ∷ y.readers) ≡ true
users_differ ps vs x y p h =
    let a = tree_parts ps vs x y p in
    let users : all_of (partition_of ps) (users_of x) ≡ Some (y.owner ∷ y.readers) = rw (a.owner, a.readers) refl in
    differ_still (partition_of ps) bytes_eq (λ a b. eqb a.0 b.0) (λ x v y w p q. contrary (bytes_eq x v) (eqb y.0 w.0) (partition_same ps x v y w p q)) (users_of x) (y.owner ∷ y.readers) users h

tree_in_range : (ps : List PartitionRow) (vs : List VolumeRow) (x : WrittenTree) (y : TreeRow) → tree_row ps vs x ≡ Some y → good_tree x ≡ true → is_tree_in_range y ≡ true
tree_in_range ps vs x y p h =
    let a = tree_parts ps vs x y p in
    let both = and_parts (good_users (x.volume, (x.owner, x.readers))) (good_tree_sizes ((x.quota, x.files), (x.directories, x.dirty))) h in
    let users = and_parts (is_table_name x.volume) (is_table_name x.owner && few_good 0 15 is_table_name x.readers) both.0 in
    let owner = and_parts (is_table_name x.owner) (few_good 0 15 is_table_name x.readers) users.1 in
    let readers = and_parts (list_all is_table_name x.readers) (is_within 0 15 (length x.readers)) owner.1 in
    let sizes = and_parts (is_within 1 4096 x.quota && is_within 1 64 x.files) (is_within 0 32 x.directories && is_within 16 48 x.dirty) both.1 in
    let first = and_parts (is_within 1 4096 x.quota) (is_within 1 64 x.files) sizes.0 in
    let second = and_parts (is_within 0 32 x.directories) (is_within 16 48 x.dirty) sizes.1 in
    let count = same_length (partition_of ps) x.readers y.readers a.readers in
    and_five (leb (length y.readers) 15) (is_within 1 4096 y.quota) (is_within 1 64 y.files) (leb y.directories 32) (is_within 16 48 y.dirty)
    (rw count (at_most 0 15 (length x.readers) readers.1)) (rw a.quota first.0) (rw a.files first.1) (rw a.directories (at_most 0 32 x.directories second.0)) (rw a.dirty second.1)

tree_known : (ps : List PartitionRow) (vs : List VolumeRow) (x : WrittenTree) (y : TreeRow) → tree_row ps vs x ≡ Some y → good_tree x ≡ true
    → (ltb y.volume (length vs) && ltb y.owner.0 (length ps) && list_all (λ p. ltb p.0 (length ps)) y.readers) ≡ true
tree_known ps vs x y p h =
    let a = tree_parts ps vs x y p in
    let both = and_parts (good_users (x.volume, (x.owner, x.readers))) (good_tree_sizes ((x.quota, x.files), (x.directories, x.dirty))) h in
    let users = and_parts (is_table_name x.volume) (is_table_name x.owner && few_good 0 15 is_table_name x.readers) both.0 in
    let owner = and_parts (is_table_name x.owner) (few_good 0 15 is_table_name x.readers) users.1 in
    let readers = and_parts (list_all is_table_name x.readers) (is_within 0 15 (length x.readers)) owner.1 in
    and_three (ltb y.volume (length vs)) (ltb y.owner.0 (length ps)) (list_all (λ p. ltb p.0 (length ps)) y.readers)
    (volume_there vs x.volume y.volume a.volume) (partition_there ps x.owner y.owner a.owner)
    (all_kept (partition_of ps) is_table_name (λ p. ltb p.0 (length ps)) (λ name id found _. partition_there ps name id found) x.readers y.readers a.readers readers.0)

-- ---- logbooks

pub record LogbookParts (ps : List PartitionRow) (x : WrittenLogbook) (y : LogbookRow) : Type 0 where
  pub name : y.name ≡ x.name
  pub partition : partition_of ps x.partition ≡ Some y.partition
  pub message_size : y.message_size ≡ x.message_size
  pub logged : y.logged ≡ x.logged
  pub in_progress : y.in_progress ≡ x.in_progress

logbook_parts : (ps : List PartitionRow) (x : WrittenLogbook) (y : LogbookRow) → logbook_row ps x ≡ Some y → LogbookParts ps x y
logbook_parts ps x y h =
    let make : PartitionId → LogbookRow = λ partition. record { name = x.name; partition = partition; message_size = x.message_size; logged = x.logged; in_progress = x.in_progress } in
    let a = map_some (partition_of ps x.partition) make y h in
    subst (LogbookParts ps x) a.2 (record { name = refl; partition = a.1; message_size = refl; logged = refl; in_progress = refl })

logbooks_apart : (ps : List PartitionRow) (x v : WrittenLogbook) (y w : LogbookRow) → logbook_row ps x ≡ Some y → logbook_row ps v ≡ Some w → is_same_logbook x v ≡ false → (eqb y.partition.0 w.partition.0 && bytes_eq y.name w.name) ≡ false
logbooks_apart ps x v y w p q =
    let a = logbook_parts ps x y p in
    let b = logbook_parts ps v w q in
    contrary (is_same_logbook x v) (eqb y.partition.0 w.partition.0 && bytes_eq y.name w.name)
    (λ h.
    let s = and_parts (eqb y.partition.0 w.partition.0) (bytes_eq y.name w.name) h in
    let names : bytes_eq x.name v.name ≡ true = rw (← a.name, ← b.name) s.1 in
    and_two (bytes_eq x.partition v.partition) (bytes_eq x.name v.name) (partition_same ps x.partition v.partition y.partition w.partition a.partition b.partition s.0) names)

logbook_good : (ps : List PartitionRow) (x : WrittenLogbook) (y : LogbookRow) → logbook_row ps x ≡ Some y → good_logbook x ≡ true → (is_table_name y.name && is_logbook_in_range y && ltb y.partition.0 (length ps)) ≡ true
logbook_good ps x y p h =
    let a = logbook_parts ps x y p in
    let both = and_parts (is_table_name x.name && is_table_name x.partition) (is_within 1 480 x.message_size && (is_within 1 256 x.logged && is_within 1 16 x.in_progress)) h in
    let names = and_parts (is_table_name x.name) (is_table_name x.partition) both.0 in
    let sizes = and_parts (is_within 1 480 x.message_size) (is_within 1 256 x.logged && is_within 1 16 x.in_progress) both.1 in
    let limits = and_parts (is_within 1 256 x.logged) (is_within 1 16 x.in_progress) sizes.1 in
    and_three (is_table_name y.name) (is_logbook_in_range y) (ltb y.partition.0 (length ps)) (rw a.name names.0)
    (and_three (is_within 1 480 y.message_size) (is_within 1 256 y.logged) (is_within 1 16 y.in_progress) (rw a.message_size sizes.0) (rw a.logged limits.0) (rw a.in_progress limits.1))
    (partition_there ps x.partition y.partition a.partition)

-- ---- channels

pub record PortParts (ps : List PartitionRow) (x : WrittenPort) (y : PortRow) : Type 0 where
  pub partition : partition_of ps x.partition ≡ Some y.partition
  pub name : y.name ≡ x.port

port_parts : (ps : List PartitionRow) (x : WrittenPort) (y : PortRow) → port_row ps x ≡ Some y → PortParts ps x y
port_parts ps x y h =
    let make : PartitionId → PortRow = λ partition. record { partition = partition; name = x.port } in
    let a = map_some (partition_of ps x.partition) make y h in
    subst (PortParts ps x) a.2 (record { partition = a.1; name = refl })

ports_apart : (ps : List PartitionRow) (x v : WrittenPort) (y w : PortRow) → port_row ps x ≡ Some y → port_row ps v ≡ Some w → is_same_port x v ≡ false → accepted.is_same_port y w ≡ false
ports_apart ps x v y w p q =
    let a = port_parts ps x y p in
    let b = port_parts ps v w q in
    contrary (is_same_port x v) (accepted.is_same_port y w)
    (λ h.
    let s = and_parts (eqb y.partition.0 w.partition.0) (bytes_eq y.name w.name) h in
    let names : bytes_eq x.port v.port ≡ true = rw (← a.name, ← b.name) s.1 in
    and_two (bytes_eq x.partition v.partition) (bytes_eq x.port v.port) (partition_same ps x.partition v.partition y.partition w.partition a.partition b.partition s.0) names)

abbrev port_good : ℕ → PortRow → Bool
port_good n port = is_table_name port.name && ltb port.partition.0 n

port_is_good : (ps : List PartitionRow) (x : WrittenPort) (y : PortRow) → port_row ps x ≡ Some y → good_port x ≡ true → port_good (length ps) y ≡ true
port_is_good ps x y p h =
    let a = port_parts ps x y p in
    let names = and_parts (is_table_name x.partition) (is_table_name x.port) h in
    and_two (is_table_name y.name) (ltb y.partition.0 (length ps)) (rw a.name names.1) (partition_there ps x.partition y.partition a.partition)

pub record ChannelParts (ps : List PartitionRow) (x : WrittenChannel) (y : ChannelRow) : Type 0 where
  pub source : port_row ps x.source ≡ Some y.source
  pub destinations : all_of (port_row ps) x.destinations ≡ Some y.destinations
  pub size : y.size ≡ x.size
  pub refresh : y.refresh ≡ x.refresh

channel_parts : (ps : List PartitionRow) (x : WrittenChannel) (y : ChannelRow) → channel_row ps x ≡ Some y → ChannelParts ps x y
channel_parts ps x y h =
    let make : PortRow → List PortRow → ChannelRow = λ source destinations. record { source = source; destinations = destinations; size = x.size; refresh = x.refresh } in
    let a = and_then_some (port_row ps x.source) (λ source. option_map (make source) (all_of (port_row ps) x.destinations)) y h in
    let b = map_some (all_of (port_row ps) x.destinations) (make a.0) y a.2 in
    subst (ChannelParts ps x) b.2 (record { source = a.1; destinations = b.1; size = refl; refresh = refl })

ends_found : (ps : List PartitionRow) (xs : List WrittenChannel) (ys : List ChannelRow) → all_of (channel_row ps) xs ≡ Some ys → all_of (port_row ps) (flat_map ends_of xs) ≡ Some (flat_map accepted.ends_of ys)
ends_found ps [] ys h = let e : ◌≡◌ {A = List ChannelRow} [] ys = cc in subst (λ zs. all_of (port_row ps) [] ≡ Some (flat_map accepted.ends_of zs)) e refl
ends_found ps (x ∷ xs) ys h =
    let a = first_found (channel_row ps) x xs ys h in
    let c = channel_parts ps x a.0 a.2 in
    let here : all_of (port_row ps) (ends_of x) ≡ Some (accepted.ends_of a.0) = rw (c.source, c.destinations) refl in
    subst (λ zs. all_of (port_row ps) (flat_map ends_of (x ∷ xs)) ≡ Some (flat_map accepted.ends_of zs)) a.4
    (found-append (port_row ps) (ends_of x) (flat_map ends_of xs) (accepted.ends_of a.0) (flat_map accepted.ends_of a.1) here (ends_found ps xs a.1 a.3))

abbrev channel_good : ℕ → ChannelRow → Bool
channel_good n row = (is_table_name row.source.name && list_all (λ port. is_table_name port.name) row.destinations) && is_channel_in_range row && list_all (λ port. ltb port.partition.0 n) (accepted.ends_of row)

channel_is_good : (ps : List PartitionRow) (x : WrittenChannel) (y : ChannelRow) → channel_row ps x ≡ Some y → good_channel x ≡ true → channel_good (length ps) y ≡ true
channel_is_good ps x y p h =
    let a = channel_parts ps x y p in
    let both = and_parts (good_port x.source && few_good 1 8 good_port x.destinations) (is_within 1 1024 x.size && is_within 1 4294967295 x.refresh) h in
    let ends = and_parts (good_port x.source) (few_good 1 8 good_port x.destinations) both.0 in
    let few = and_parts (list_all good_port x.destinations) (is_within 1 8 (length x.destinations)) ends.1 in
    let sizes = and_parts (is_within 1 1024 x.size) (is_within 1 4294967295 x.refresh) both.1 in
    let source = port_is_good ps x.source y.source a.source ends.0 in
    let source_parts = and_parts (is_table_name y.source.name) (ltb y.source.partition.0 (length ps)) source in
    let all = all_kept (port_row ps) good_port (port_good (length ps)) (port_is_good ps) x.destinations y.destinations a.destinations few.0 in
    let names = all_weaker (port_good (length ps)) (λ port. is_table_name port.name) (λ port g. (and_parts (is_table_name port.name) (ltb port.partition.0 (length ps)) g).0) y.destinations all in
    let places = all_weaker (port_good (length ps)) (λ port. ltb port.partition.0 (length ps)) (λ port g. (and_parts (is_table_name port.name) (ltb port.partition.0 (length ps)) g).1) y.destinations all in
    let count = same_length (port_row ps) x.destinations y.destinations a.destinations in
    and_three (is_table_name y.source.name && list_all (λ port. is_table_name port.name) y.destinations) (is_channel_in_range y) (list_all (λ port. ltb port.partition.0 (length ps)) (accepted.ends_of y))
    (and_two (is_table_name y.source.name) (list_all (λ port. is_table_name port.name) y.destinations) source_parts.0 names)
    (and_three (is_within 1 8 (length y.destinations)) (is_within 1 1024 y.size) (is_within 1 4294967295 y.refresh) (rw count few.1) (rw a.size sizes.0) (rw a.refresh sizes.1))
    (and_two (ltb y.source.partition.0 (length ps)) (list_all (λ port. ltb port.partition.0 (length ps)) y.destinations) source_parts.1 places)

-- ---- the whole table

abbrev tree_good : ℕ → ℕ → TreeRow → Bool
tree_good partitions volumes row = is_tree_in_range row && (ltb row.volume volumes && ltb row.owner.0 partitions && list_all (λ p. ltb p.0 partitions) row.readers)

abbrev pub IsListGood : {A : Type 0} → ℕ → ℕ → (A → Bool) → List A → Type 0
IsListGood lowest highest good rows = few_good lowest highest good rows ≡ true

-- what is known of rows that were read
pub record Known (ps : List PartitionRow) (vs : List VolumeRow) (wt : List WrittenTree) (wl : List WrittenLogbook) (wc : List WrittenChannel) (ts : List TreeRow) (ls : List LogbookRow) (cs : List ChannelRow) : Type 0 where
  pub partitions : few_good 1 16 good_partition ps ≡ true
  pub volumes : few_good 0 8 good_volume vs ≡ true
  pub trees : few_good 0 32 good_tree wt ≡ true
  pub logbooks : few_good 0 32 good_logbook wl ≡ true
  pub channels : few_good 0 32 good_channel wc ≡ true
  pub partitions_differ : all_differ is_same_partition ps ≡ true
  pub volumes_differ : all_differ is_same_volume vs ≡ true
  pub trees_differ : all_differ is_same_tree wt ≡ true
  pub logbooks_differ : all_differ is_same_logbook wl ≡ true
  pub users_differ : list_all (λ row. all_differ bytes_eq (users_of row)) wt ≡ true
  pub ports_differ : all_differ is_same_port (flat_map ends_of wc) ≡ true
  pub tree_rows : all_of (tree_row ps vs) wt ≡ Some ts
  pub logbook_rows : all_of (logbook_row ps) wl ≡ Some ls
  pub channel_rows : all_of (channel_row ps) wc ≡ Some cs

abbrev rows_of : List PartitionRow → List VolumeRow → List TreeRow → List LogbookRow → List ChannelRow → Rows
rows_of ps vs ts ls cs = record { partitions = ps; volumes = vs; trees = ts; logbooks = ls; channels = cs }

few_parts : {A : Type 0} (lowest highest : ℕ) (good : A → Bool) (xs : List A) → few_good lowest highest good xs ≡ true → (list_all good xs ≡ true) × (is_within lowest highest (length xs) ≡ true)
few_parts lowest highest good xs h = and_parts (list_all good xs) (is_within lowest highest (length xs)) h

and_four : (a b c d : Bool) → a ≡ true → b ≡ true → c ≡ true → d ≡ true → (a && b && c && d) ≡ true
and_four a b c d p q r s = rw (p, q, r, s) refl

and_six : (a b c d e f : Bool) → a ≡ true → b ≡ true → c ≡ true → d ≡ true → e ≡ true → f ≡ true → (a && b && c && d && e && f) ≡ true
and_six a b c d e f p q r s t u = rw (p, q, r, s, t, u) refl

and_nine : (a b c d e f g h i : Bool) → a ≡ true → b ≡ true → c ≡ true → d ≡ true → e ≡ true → f ≡ true → g ≡ true → h ≡ true → i ≡ true → (a && b && c && d && e && f && g && h && i) ≡ true
and_nine a b c d e f g h i p q r s t u v w x = rw (p, q, r, s, t, u, v, w, x) refl

module _ (ps : List PartitionRow) (vs : List VolumeRow) (wt : List WrittenTree) (wl : List WrittenLogbook) (wc : List WrittenChannel) (ts : List TreeRow) (ls : List LogbookRow) (cs : List ChannelRow) (k : Known ps vs wt wl wc ts ls cs) where
  all_logbooks : list_all (λ y. is_table_name y.name && is_logbook_in_range y && ltb y.partition.0 (length ps)) ls ≡ true
  all_logbooks = all_kept (logbook_row ps) good_logbook (λ y. is_table_name y.name && is_logbook_in_range y && ltb y.partition.0 (length ps)) (logbook_good ps) wl ls k.logbook_rows (few_parts 0 32 good_logbook wl k.logbooks).0

  all_channels : list_all (channel_good (length ps)) cs ≡ true
  all_channels = all_kept (channel_row ps) good_channel (channel_good (length ps)) (channel_is_good ps) wc cs k.channel_rows (few_parts 0 32 good_channel wc k.channels).0

  all_trees_in_range : list_all is_tree_in_range ts ≡ true
  all_trees_in_range = all_kept (tree_row ps vs) good_tree is_tree_in_range (tree_in_range ps vs) wt ts k.tree_rows (few_parts 0 32 good_tree wt k.trees).0

  all_trees_known : list_all (λ y. ltb y.volume (length vs) && ltb y.owner.0 (length ps) && list_all (λ p. ltb p.0 (length ps)) y.readers) ts ≡ true
  all_trees_known =
      all_kept (tree_row ps vs) good_tree (λ y. ltb y.volume (length vs) && ltb y.owner.0 (length ps) && list_all (λ p. ltb p.0 (length ps)) y.readers) (tree_known ps vs) wt ts k.tree_rows (few_parts 0 32 good_tree wt k.trees).0

  names_are_good : accepted.has_good_names (rows_of ps vs ts ls cs) ≡ true
  names_are_good =
      and_four (list_all good_partition ps) (list_all (λ row. is_table_name row.name) vs) (list_all (λ row. is_table_name row.name) ls)
      (list_all (λ row. is_table_name row.source.name && list_all (λ port. is_table_name port.name) row.destinations) cs) (few_parts 1 16 good_partition ps k.partitions).0
      (all_weaker good_volume (λ row. is_table_name row.name) (λ row g. (and_parts (is_table_name row.name) (is_within 1 131072 row.blocks) g).0) vs (few_parts 0 8 good_volume vs k.volumes).0)
      (all_weaker (λ y. is_table_name y.name && is_logbook_in_range y && ltb y.partition.0 (length ps)) (λ row. is_table_name row.name)
      (λ y g. (and_parts (is_table_name y.name) (is_logbook_in_range y) (and_parts (is_table_name y.name && is_logbook_in_range y) (ltb y.partition.0 (length ps)) g).0).0) ls all_logbooks)
      (all_weaker (channel_good (length ps)) (λ row. is_table_name row.source.name && list_all (λ port. is_table_name port.name) row.destinations)
      (λ y g. (and_parts (is_table_name y.source.name && list_all (λ port. is_table_name port.name) y.destinations) (is_channel_in_range y)
      (and_parts (is_table_name y.source.name && list_all (λ port. is_table_name port.name) y.destinations && is_channel_in_range y) (list_all (λ port. ltb port.partition.0 (length ps)) (accepted.ends_of y)) g).0).0) cs all_channels)

  is_in_range : accepted.is_in_range (rows_of ps vs ts ls cs) ≡ true
  is_in_range =
      let trees = same_length (tree_row ps vs) wt ts k.tree_rows in
      let logbooks = same_length (logbook_row ps) wl ls k.logbook_rows in
      let channels = same_length (channel_row ps) wc cs k.channel_rows in
      and_nine (is_within 1 16 (length ps)) (leb (length vs) 8) (leb (length ts) 32) (leb (length ls) 32) (leb (length cs) 32) (list_all (λ row. is_within 1 131072 row.blocks) vs) (list_all is_tree_in_range ts)
      (list_all is_logbook_in_range ls) (list_all is_channel_in_range cs) (few_parts 1 16 good_partition ps k.partitions).1 (at_most 0 8 (length vs) (few_parts 0 8 good_volume vs k.volumes).1)
      (rw trees (at_most 0 32 (length wt) (few_parts 0 32 good_tree wt k.trees).1)) (rw logbooks (at_most 0 32 (length wl) (few_parts 0 32 good_logbook wl k.logbooks).1))
      (rw channels (at_most 0 32 (length wc) (few_parts 0 32 good_channel wc k.channels).1))
      (all_weaker good_volume (λ row. is_within 1 131072 row.blocks) (λ row g. (and_parts (is_table_name row.name) (is_within 1 131072 row.blocks) g).1) vs (few_parts 0 8 good_volume vs k.volumes).0) all_trees_in_range
      (all_weaker (λ y. is_table_name y.name && is_logbook_in_range y && ltb y.partition.0 (length ps)) is_logbook_in_range
      (λ y g. (and_parts (is_table_name y.name) (is_logbook_in_range y) (and_parts (is_table_name y.name && is_logbook_in_range y) (ltb y.partition.0 (length ps)) g).0).1) ls all_logbooks)
      (all_weaker (channel_good (length ps)) is_channel_in_range
      (λ y g. (and_parts (is_table_name y.source.name && list_all (λ port. is_table_name port.name) y.destinations) (is_channel_in_range y)
      (and_parts (is_table_name y.source.name && list_all (λ port. is_table_name port.name) y.destinations && is_channel_in_range y) (list_all (λ port. ltb port.partition.0 (length ps)) (accepted.ends_of y)) g).0).1) cs all_channels)

  has_no_repeats : accepted.has_no_repeats (rows_of ps vs ts ls cs) ≡ true
  has_no_repeats =
      and_six (all_differ (λ a b. bytes_eq a.name b.name) ps) (all_differ (λ a b. bytes_eq a.name b.name) vs) (all_differ (λ a b. eqb a.volume b.volume && eqb a.owner.0 b.owner.0) ts)
      (all_differ (λ a b. eqb a.partition.0 b.partition.0 && bytes_eq a.name b.name) ls) (list_all (λ row. all_differ (λ a b. eqb a.0 b.0) (row.owner ∷ row.readers)) ts)
      (all_differ accepted.is_same_port (flat_map accepted.ends_of cs)) k.partitions_differ k.volumes_differ
      (differ_still (tree_row ps vs) is_same_tree (λ a b. eqb a.volume b.volume && eqb a.owner.0 b.owner.0) (trees_apart ps vs) wt ts k.tree_rows k.trees_differ)
      (differ_still (logbook_row ps) is_same_logbook (λ a b. eqb a.partition.0 b.partition.0 && bytes_eq a.name b.name) (logbooks_apart ps) wl ls k.logbook_rows k.logbooks_differ)
      (all_kept (tree_row ps vs) (λ row. all_differ bytes_eq (users_of row)) (λ row. all_differ (λ a b. eqb a.0 b.0) (row.owner ∷ row.readers)) (users_differ ps vs) wt ts k.tree_rows k.users_differ)
      (differ_still (port_row ps) is_same_port accepted.is_same_port (ports_apart ps) (flat_map ends_of wc) (flat_map accepted.ends_of cs) (ends_found ps wc cs k.channel_rows) k.ports_differ)

  has_known_names : accepted.has_known_names (rows_of ps vs ts ls cs) ≡ true
  has_known_names =
      and_three (list_all (λ y. ltb y.volume (length vs) && ltb y.owner.0 (length ps) && list_all (λ p. ltb p.0 (length ps)) y.readers) ts) (list_all (λ row. ltb row.partition.0 (length ps)) ls)
      (list_all (λ row. list_all (λ port. ltb port.partition.0 (length ps)) (accepted.ends_of row)) cs) all_trees_known
      (all_weaker (λ y. is_table_name y.name && is_logbook_in_range y && ltb y.partition.0 (length ps)) (λ row. ltb row.partition.0 (length ps))
      (λ y g. (and_parts (is_table_name y.name && is_logbook_in_range y) (ltb y.partition.0 (length ps)) g).1) ls all_logbooks)
      (all_weaker (channel_good (length ps)) (λ row. list_all (λ port. ltb port.partition.0 (length ps)) (accepted.ends_of row))
      (λ y g. (and_parts (is_table_name y.source.name && list_all (λ port. is_table_name port.name) y.destinations && is_channel_in_range y) (list_all (λ port. ltb port.partition.0 (length ps)) (accepted.ends_of y)) g).1) cs all_channels)

  pub rows_accepted : accepted.fits_volumes (rows_of ps vs ts ls cs) ≡ true → accepted.fits_image (rows_of ps vs ts ls cs) ≡ true → accepted.IsAccepted (rows_of ps vs ts ls cs)
  rows_accepted room image =
      and_six (accepted.has_good_names (rows_of ps vs ts ls cs)) (accepted.is_in_range (rows_of ps vs ts ls cs)) (accepted.has_no_repeats (rows_of ps vs ts ls cs)) (accepted.has_known_names (rows_of ps vs ts ls cs))
      (accepted.fits_volumes (rows_of ps vs ts ls cs)) (accepted.fits_image (rows_of ps vs ts ls cs)) names_are_good is_in_range has_no_repeats has_known_names room image
