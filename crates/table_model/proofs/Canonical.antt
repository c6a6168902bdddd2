-- Two accepted tables with the same canonical bytes are the same.
use Rattle.std.proofs.Common.{◌≡◌, ◌<◌, ◌*◌, ◌/◌, ◌%◌, ℕ, Bool, true, false, ◌&&◌, leb, List, [], ◌∷◌, ◌++◌, length, refl, sym, ap, ◌∙◌, arith, lit<, append_assoc, append-nil}
use Rattle.std.specs.Prelude.{flat_map}
use Rattle.std.specs.List.{list_all}
use Rattle.std.proofs.lemmas.Bool.Decides.{nat_tests}
use Rattle.apex_types.specs.Rows.{Rows}
use Rattle.apex_types.specs.declared.numbers.PartitionId.{PartitionId}
use Rattle.apex_types.specs.declared.rows.PartitionRow.{PartitionRow}
use Rattle.apex_types.specs.declared.rows.VolumeRow.{VolumeRow}
use Rattle.apex_types.specs.declared.rows.TreeRow.{TreeRow}
use Rattle.apex_types.specs.declared.rows.LogbookRow.{LogbookRow}
use Rattle.apex_types.specs.declared.rows.PortRow.{PortRow}
use Rattle.apex_types.specs.declared.rows.ChannelRow.{ChannelRow}
use Rattle.apex_model.specs.Accepted.{IsAccepted, is_within, has_good_names, is_in_range, has_no_repeats, has_known_names, fits_volumes, fits_image, is_tree_in_range, is_logbook_in_range, is_channel_in_range}
use Rattle.apex_model.specs.TableBytes.{bytes_of_number, name_bytes, list_bytes, volume_bytes, tree_bytes, logbook_bytes, port_bytes, channel_bytes, table_bytes}

both : (a b : Bool) → (a && b) ≡ true → (a ≡ true) × (b ≡ true)
both true b h = (refl, h)
both false b h = absurd cc

-- ---- parts of lists

abbrev Bytes : Type 0
Bytes = List ℕ

head_same : (a b : ℕ) (s t : Bytes) → a ∷ s ≡ b ∷ t → (a ≡ b) × (s ≡ t)
head_same a b s t e =
    let p : a ≡ b = cc in
    let q : s ≡ t = cc in
    (p, q)

fronts : (xs ys s t : Bytes) → length xs ≡ length ys → xs ++ s ≡ ys ++ t → (xs ≡ ys) × (s ≡ t)
fronts [] [] s t n e = (refl, e)
fronts [] (y ∷ ys) s t n e = absurd (omega arith)
fronts (x ∷ xs) [] s t n e = absurd (omega arith)
fronts (x ∷ xs) (y ∷ ys) s t n e =
    let h = head_same x y (xs ++ s) (ys ++ t) e in
    let m : length xs ≡ length ys = omega arith in
    let r = fronts xs ys s t m h.1 in
    let p : x ≡ y = h.0 in
    let q : xs ≡ ys = r.0 in
    (rw (p, q) refl, r.1)

-- an encoding that shows where it ends, for values that pass a test
abbrev Shows : {A : Type 0} → (A → Bytes) → (A → Bool) → Type 0
Shows {A} code good = (x y : A) (s t : Bytes) → good x ≡ true → good y ≡ true → code x ++ s ≡ code y ++ t → (x ≡ y) × (s ≡ t)

name_shows : (x y s t : Bytes) → name_bytes x ++ s ≡ name_bytes y ++ t → (x ≡ y) × (s ≡ t)
name_shows x y s t e =
    let h = head_same (length x) (length y) (x ++ s) (y ++ t) e in
    fronts x y s t h.0 h.1

-- ---- numbers

step_same : (m n : ℕ) → m % 256 ≡ n % 256 → m / 256 ≡ n / 256 → m ≡ n
step_same m n p q = omega arith

small_same : (m n : ℕ) → m < 256 → n < 256 → m % 256 ≡ n % 256 → m ≡ n
small_same m n p q e = omega arith

fewer : (m k : ℕ) → m < 256 * k → m / 256 < k
fewer m k h = omega arith

short_same : (m n : ℕ) → m < 65536 → n < 65536 → m % 256 ≡ n % 256 → (m / 256) % 256 ≡ (n / 256) % 256 → m ≡ n
short_same m n p q e f = step_same m n e (small_same (m / 256) (n / 256) (fewer m 256 p) (fewer n 256 q) f)

middle_same : (m n : ℕ) → m < 16777216 → n < 16777216 → m % 256 ≡ n % 256 → (m / 256) % 256 ≡ (n / 256) % 256 → (m / 256 / 256) % 256 ≡ (n / 256 / 256) % 256 → m ≡ n
middle_same m n p q e f g = step_same m n e (short_same (m / 256) (n / 256) (fewer m 65536 p) (fewer n 65536 q) f g)

long_same : (m n : ℕ) → m < 4294967296 → n < 4294967296 → m % 256 ≡ n % 256 → (m / 256) % 256 ≡ (n / 256) % 256 → (m / 256 / 256) % 256 ≡ (n / 256 / 256) % 256 → (m / 256 / 256 / 256) % 256 ≡ (n / 256 / 256 / 256) % 256 → m ≡ n
long_same m n p q e f g h = step_same m n e (middle_same (m / 256) (n / 256) (fewer m 16777216 p) (fewer n 16777216 q) f g h)

short_shows : (m n : ℕ) (s t : Bytes) → m < 65536 → n < 65536 → bytes_of_number 2 m ++ s ≡ bytes_of_number 2 n ++ t → (m ≡ n) × (s ≡ t)
short_shows m n s t p q e =
    let a = head_same (m % 256) (n % 256) ((m / 256) % 256 ∷ s) ((n / 256) % 256 ∷ t) e in
    let b = head_same ((m / 256) % 256) ((n / 256) % 256) s t a.1 in
    (short_same m n p q a.0 b.0, b.1)

long_shows : (m n : ℕ) (s t : Bytes) → m < 4294967296 → n < 4294967296 → bytes_of_number 4 m ++ s ≡ bytes_of_number 4 n ++ t → (m ≡ n) × (s ≡ t)
long_shows m n s t p q e =
    let a = head_same (m % 256) (n % 256) ((m / 256) % 256 ∷ (m / 256 / 256) % 256 ∷ (m / 256 / 256 / 256) % 256 ∷ s) ((n / 256) % 256 ∷ (n / 256 / 256) % 256 ∷ (n / 256 / 256 / 256) % 256 ∷ t) e in
    let b = head_same ((m / 256) % 256) ((n / 256) % 256) ((m / 256 / 256) % 256 ∷ (m / 256 / 256 / 256) % 256 ∷ s) ((n / 256 / 256) % 256 ∷ (n / 256 / 256 / 256) % 256 ∷ t) a.1 in
    let c = head_same ((m / 256 / 256) % 256) ((n / 256 / 256) % 256) ((m / 256 / 256 / 256) % 256 ∷ s) ((n / 256 / 256 / 256) % 256 ∷ t) b.1 in
    let d = head_same ((m / 256 / 256 / 256) % 256) ((n / 256 / 256 / 256) % 256) s t c.1 in
    (long_same m n p q a.0 b.0 c.0 d.0, d.1)

-- ---- lists

each_shows : {A : Type 0} (code : A → Bytes) (good : A → Bool) → Shows code good → (xs ys : List A) (s t : Bytes) → length xs ≡ length ys → list_all good xs ≡ true → list_all good ys ≡ true
    → flat_map code xs ++ s ≡ flat_map code ys ++ t → (xs ≡ ys) × (s ≡ t)
each_shows code good shows [] [] s t n p q e = (refl, e)
each_shows code good shows [] (y ∷ ys) s t n p q e = absurd (omega arith)
each_shows code good shows (x ∷ xs) [] s t n p q e = absurd (omega arith)
each_shows code good shows (x ∷ xs) (y ∷ ys) s t n p q e =
    let a = (both (good x) (list_all good xs) p) in
    let b = (both (good y) (list_all good ys) q) in
    let l : code x ++ (flat_map code xs ++ s) ≡ (code x ++ flat_map code xs) ++ s = sym (append_assoc (code x) (flat_map code xs) s) in
    let r : (code y ++ flat_map code ys) ++ t ≡ code y ++ (flat_map code ys ++ t) = append_assoc (code y) (flat_map code ys) t in
    let h = shows x y (flat_map code xs ++ s) (flat_map code ys ++ t) a.0 b.0 (l ∙ e ∙ r) in
    let m : length xs ≡ length ys = omega arith in
    let k = each_shows code good shows xs ys s t m a.1 b.1 h.1 in
    let first : x ≡ y = h.0 in
    let rest : xs ≡ ys = k.0 in
    (rw (first, rest) refl, k.1)

list_shows : {A : Type 0} (code : A → Bytes) (good : A → Bool) → Shows code good → (xs ys : List A) (s t : Bytes) → list_all good xs ≡ true → list_all good ys ≡ true
    → list_bytes code xs ++ s ≡ list_bytes code ys ++ t → (xs ≡ ys) × (s ≡ t)
list_shows code good shows xs ys s t p q e =
    let h = head_same (length xs) (length ys) (flat_map code xs ++ s) (flat_map code ys ++ t) e in
    each_shows code good shows xs ys s t h.0 p q h.1

-- ---- rows

all_good : {A : Type 0} (xs : List A) → list_all (λ _. true) xs ≡ true
all_good [] = refl
all_good (x ∷ xs) = all_good xs

id_shows : (x y : PartitionId) (s t : Bytes) → true ≡ true → true ≡ true → (x.0 ∷ []) ++ s ≡ (y.0 ∷ []) ++ t → (x ≡ y) × (s ≡ t)
id_shows x y s t p q e =
    let h = head_same x.0 y.0 s t e in
    let make : ℕ → PartitionId = λ n. record { 0 = n } in
    (ap make h.0, h.1)

partition_shows : (x y : PartitionRow) (s t : Bytes) → true ≡ true → true ≡ true → name_bytes x.name ++ s ≡ name_bytes y.name ++ t → (x ≡ y) × (s ≡ t)
partition_shows x y s t p q e =
    let h = name_shows x.name y.name s t e in
    let make : Bytes → PartitionRow = λ n. record { name = n } in
    (ap make h.0, h.1)

within_lt : (lowest highest limit n : ℕ) → highest < limit → is_within lowest highest n ≡ true → n < limit
within_lt lowest highest limit n le h = grind (arith, nat_tests)

volume_shows : (x y : VolumeRow) (s t : Bytes) → is_within 1 131072 x.blocks ≡ true → is_within 1 131072 y.blocks ≡ true → volume_bytes x ++ s ≡ volume_bytes y ++ t → (x ≡ y) × (s ≡ t)
volume_shows x y s t p q e =
    let l : name_bytes x.name ++ (bytes_of_number 4 x.blocks ++ s) ≡ (name_bytes x.name ++ bytes_of_number 4 x.blocks) ++ s = sym (append_assoc (name_bytes x.name) (bytes_of_number 4 x.blocks) s) in
    let r : (name_bytes y.name ++ bytes_of_number 4 y.blocks) ++ t ≡ name_bytes y.name ++ (bytes_of_number 4 y.blocks ++ t) = append_assoc (name_bytes y.name) (bytes_of_number 4 y.blocks) t in
    let h = name_shows x.name y.name (bytes_of_number 4 x.blocks ++ s) (bytes_of_number 4 y.blocks ++ t) (l ∙ e ∙ r) in
    let k = long_shows x.blocks y.blocks s t (within_lt 1 131072 4294967296 x.blocks (lit< tt) p) (within_lt 1 131072 4294967296 y.blocks (lit< tt) q) h.1 in
    let make : Bytes → ℕ → VolumeRow = λ n b. record { name = n; blocks = b } in
    (ap (λ n. make n x.blocks) h.0 ∙ ap (λ b. make y.name b) k.0, k.1)

port_shows : (x y : PortRow) (s t : Bytes) → true ≡ true → true ≡ true → port_bytes x ++ s ≡ port_bytes y ++ t → (x ≡ y) × (s ≡ t)
port_shows x y s t p q e =
    let h = head_same x.partition.0 y.partition.0 (name_bytes x.name ++ s) (name_bytes y.name ++ t) e in
    let k = name_shows x.name y.name s t h.1 in
    let make : ℕ → Bytes → PortRow = λ p n. record { partition = record { 0 = p }; name = n } in
    (ap (λ p. make p x.name) h.0 ∙ ap (λ n. make y.partition.0 n) k.0, k.1)

-- rows by their fields, with plain indexes
abbrev tree_of : ℕ → ℕ → List PartitionId → ℕ → ℕ → ℕ → ℕ → TreeRow
tree_of volume owner readers quota files directories dirty =
    record { volume = volume; owner = record { 0 = owner }; readers = readers; quota = quota; files = files; directories = directories; dirty = dirty }

abbrev logbook_of : Bytes → ℕ → ℕ → ℕ → ℕ → LogbookRow
logbook_of name partition message_size logged in_progress = record { name = name; partition = record { 0 = partition }; message_size = message_size; logged = logged; in_progress = in_progress }

abbrev channel_of : PortRow → List PortRow → ℕ → ℕ → ChannelRow
channel_of source destinations size refresh = record { source = source; destinations = destinations; size = size; refresh = refresh }

abbrev rows_of : List PartitionRow → List VolumeRow → List TreeRow → List LogbookRow → List ChannelRow → Rows
rows_of ps vs ts ls cs = record { partitions = ps; volumes = vs; trees = ts; logbooks = ls; channels = cs }

-- numbers of an accepted table fit their bytes
tree_quota : (row : TreeRow) → is_tree_in_range row ≡ true → row.quota < 65536
tree_quota row h =
    let a = both (leb (length row.readers) 15 && is_within 1 4096 row.quota && is_within 1 64 row.files && leb row.directories 32) (is_within 16 48 row.dirty) h in
    let b = both (leb (length row.readers) 15 && is_within 1 4096 row.quota && is_within 1 64 row.files) (leb row.directories 32) a.0 in
    let c = both (leb (length row.readers) 15 && is_within 1 4096 row.quota) (is_within 1 64 row.files) b.0 in
    let d = both (leb (length row.readers) 15) (is_within 1 4096 row.quota) c.0 in
    within_lt 1 4096 65536 row.quota (lit< tt) d.1

logbook_limits : (row : LogbookRow) → is_logbook_in_range row ≡ true → (row.message_size < 65536) × (row.logged < 65536)
logbook_limits row h =
    let a = both (is_within 1 480 row.message_size && is_within 1 256 row.logged) (is_within 1 16 row.in_progress) h in
    let b = both (is_within 1 480 row.message_size) (is_within 1 256 row.logged) a.0 in
    (within_lt 1 480 65536 row.message_size (lit< tt) b.0, within_lt 1 256 65536 row.logged (lit< tt) b.1)

channel_limits : (row : ChannelRow) → is_channel_in_range row ≡ true → (row.size < 65536) × (row.refresh < 4294967296)
channel_limits row h =
    let a = both (is_within 1 8 (length row.destinations) && is_within 1 1024 row.size) (is_within 1 4294967295 row.refresh) h in
    let b = both (is_within 1 8 (length row.destinations)) (is_within 1 1024 row.size) a.0 in
    (within_lt 1 1024 65536 row.size (lit< tt) b.1, within_lt 1 4294967295 4294967296 row.refresh (lit< tt) a.1)

tree_split : (row : TreeRow) (s : Bytes)
    → tree_bytes row ++ s ≡ row.volume ∷ row.owner.0 ∷ (list_bytes (λ reader. reader.0 ∷ []) row.readers ++ (bytes_of_number 2 row.quota ++ (row.files ∷ row.directories ∷ row.dirty ∷ s)))
tree_split row s = simp append_assoc

logbook_split : (row : LogbookRow) (s : Bytes)
    → logbook_bytes row ++ s ≡ name_bytes row.name ++ (row.partition.0 ∷ (bytes_of_number 2 row.message_size ++ (bytes_of_number 2 row.logged ++ (row.in_progress ∷ s))))
logbook_split row s = simp append_assoc

channel_split : (row : ChannelRow) (s : Bytes)
    → channel_bytes row ++ s ≡ port_bytes row.source ++ (list_bytes port_bytes row.destinations ++ (bytes_of_number 2 row.size ++ (bytes_of_number 4 row.refresh ++ s)))
channel_split row s = simp append_assoc

-- rows with the same fields
same_tree : (v w o p : ℕ) (xs ys : List PartitionId) (q r f g d e h i : ℕ) → v ≡ w → o ≡ p → xs ≡ ys → q ≡ r → f ≡ g → d ≡ e → h ≡ i
    → tree_of v o xs q f d h ≡ tree_of w p ys r g e i
same_tree v w o p xs ys q r f g d e h i a b c j k l m = rw (a, b, c, j, k, l, m) refl

same_logbook : (n m : Bytes) (p q s t l k i j : ℕ) → n ≡ m → p ≡ q → s ≡ t → l ≡ k → i ≡ j → logbook_of n p s l i ≡ logbook_of m q t k j
same_logbook n m p q s t l k i j a b c d e = rw (a, b, c, d, e) refl

same_channel : (x y : PortRow) (xs ys : List PortRow) (s t r u : ℕ) → x ≡ y → xs ≡ ys → s ≡ t → r ≡ u → channel_of x xs s r ≡ channel_of y ys t u
same_channel x y xs ys s t r u a b c d = rw (a, b, c, d) refl

tree_shows : (x y : TreeRow) (s t : Bytes) → is_tree_in_range x ≡ true → is_tree_in_range y ≡ true → tree_bytes x ++ s ≡ tree_bytes y ++ t → (x ≡ y) × (s ≡ t)
tree_shows x y s t p q e =
    let w = sym (tree_split x s) ∙ e ∙ tree_split y t in
    let rest_x = bytes_of_number 2 x.quota ++ (x.files ∷ x.directories ∷ x.dirty ∷ s) in
    let rest_y = bytes_of_number 2 y.quota ++ (y.files ∷ y.directories ∷ y.dirty ∷ t) in
    let a = head_same x.volume y.volume (x.owner.0 ∷ (list_bytes (λ reader. reader.0 ∷ []) x.readers ++ rest_x)) (y.owner.0 ∷ (list_bytes (λ reader. reader.0 ∷ []) y.readers ++ rest_y)) w in
    let b = head_same x.owner.0 y.owner.0 (list_bytes (λ reader. reader.0 ∷ []) x.readers ++ rest_x) (list_bytes (λ reader. reader.0 ∷ []) y.readers ++ rest_y) a.1 in
    let c = list_shows (λ reader. reader.0 ∷ []) (λ _. true) id_shows x.readers y.readers rest_x rest_y (all_good x.readers) (all_good y.readers) b.1 in
    let d = short_shows x.quota y.quota (x.files ∷ x.directories ∷ x.dirty ∷ s) (y.files ∷ y.directories ∷ y.dirty ∷ t) (tree_quota x p) (tree_quota y q) c.1 in
    let f = head_same x.files y.files (x.directories ∷ x.dirty ∷ s) (y.directories ∷ y.dirty ∷ t) d.1 in
    let g = head_same x.directories y.directories (x.dirty ∷ s) (y.dirty ∷ t) f.1 in
    let h = head_same x.dirty y.dirty s t g.1 in
    (same_tree x.volume y.volume x.owner.0 y.owner.0 x.readers y.readers x.quota y.quota x.files y.files x.directories y.directories x.dirty y.dirty a.0 b.0 c.0 d.0 f.0 g.0 h.0, h.1)

logbook_shows : (x y : LogbookRow) (s t : Bytes) → is_logbook_in_range x ≡ true → is_logbook_in_range y ≡ true → logbook_bytes x ++ s ≡ logbook_bytes y ++ t → (x ≡ y) × (s ≡ t)
logbook_shows x y s t p q e =
    let w = sym (logbook_split x s) ∙ e ∙ logbook_split y t in
    let log_x = bytes_of_number 2 x.logged ++ (x.in_progress ∷ s) in
    let log_y = bytes_of_number 2 y.logged ++ (y.in_progress ∷ t) in
    let limits_x = logbook_limits x p in
    let limits_y = logbook_limits y q in
    let a = name_shows x.name y.name (x.partition.0 ∷ (bytes_of_number 2 x.message_size ++ log_x)) (y.partition.0 ∷ (bytes_of_number 2 y.message_size ++ log_y)) w in
    let b = head_same x.partition.0 y.partition.0 (bytes_of_number 2 x.message_size ++ log_x) (bytes_of_number 2 y.message_size ++ log_y) a.1 in
    let c = short_shows x.message_size y.message_size log_x log_y limits_x.0 limits_y.0 b.1 in
    let d = short_shows x.logged y.logged (x.in_progress ∷ s) (y.in_progress ∷ t) limits_x.1 limits_y.1 c.1 in
    let f = head_same x.in_progress y.in_progress s t d.1 in
    (same_logbook x.name y.name x.partition.0 y.partition.0 x.message_size y.message_size x.logged y.logged x.in_progress y.in_progress a.0 b.0 c.0 d.0 f.0, f.1)

channel_shows : (x y : ChannelRow) (s t : Bytes) → is_channel_in_range x ≡ true → is_channel_in_range y ≡ true → channel_bytes x ++ s ≡ channel_bytes y ++ t → (x ≡ y) × (s ≡ t)
channel_shows x y s t p q e =
    let w = sym (channel_split x s) ∙ e ∙ channel_split y t in
    let size_x = bytes_of_number 2 x.size ++ (bytes_of_number 4 x.refresh ++ s) in
    let size_y = bytes_of_number 2 y.size ++ (bytes_of_number 4 y.refresh ++ t) in
    let limits_x = channel_limits x p in
    let limits_y = channel_limits y q in
    let a = port_shows x.source y.source (list_bytes port_bytes x.destinations ++ size_x) (list_bytes port_bytes y.destinations ++ size_y) refl refl w in
    let b = list_shows port_bytes (λ _. true) port_shows x.destinations y.destinations size_x size_y (all_good x.destinations) (all_good y.destinations) a.1 in
    let c = short_shows x.size y.size (bytes_of_number 4 x.refresh ++ s) (bytes_of_number 4 y.refresh ++ t) limits_x.0 limits_y.0 b.1 in
    let d = long_shows x.refresh y.refresh s t limits_x.1 limits_y.1 c.1 in
    (same_channel x.source y.source x.destinations y.destinations x.size y.size x.refresh y.refresh a.0 b.0 c.0 d.0, d.1)

-- ---- the table

table_split : (rows : Rows)
    → table_bytes rows ≡ 1 ∷ (list_bytes (λ row. name_bytes row.name) rows.partitions ++ (list_bytes volume_bytes rows.volumes ++ (list_bytes tree_bytes rows.trees ++ (list_bytes logbook_bytes rows.logbooks ++ (list_bytes channel_bytes rows.channels ++ [])))))
table_split rows = simp (append_assoc, append-nil)

same_rows : (ps qs : List PartitionRow) (vs ws : List VolumeRow) (ts us : List TreeRow) (ls ms : List LogbookRow) (cs ds : List ChannelRow) → ps ≡ qs → vs ≡ ws → ts ≡ us → ls ≡ ms → cs ≡ ds
    → rows_of ps vs ts ls cs ≡ rows_of qs ws us ms ds
same_rows ps qs vs ws ts us ls ms cs ds a b c d e = rw (a, b, c, d, e) refl

record InRange (rows : Rows) : Type 0 where
  volumes : list_all (λ row. is_within 1 131072 row.blocks) rows.volumes ≡ true
  trees : list_all is_tree_in_range rows.trees ≡ true
  logbooks : list_all is_logbook_in_range rows.logbooks ≡ true
  channels : list_all is_channel_in_range rows.channels ≡ true

range_of : (rows : Rows) → IsAccepted rows → InRange rows
range_of rows h =
    let a = (both (has_good_names rows && is_in_range rows && has_no_repeats rows && has_known_names rows && fits_volumes rows) (fits_image rows) h).0 in
    let b = (both (has_good_names rows && is_in_range rows && has_no_repeats rows && has_known_names rows) (fits_volumes rows) a).0 in
    let c = (both (has_good_names rows && is_in_range rows && has_no_repeats rows) (has_known_names rows) b).0 in
    let d = (both (has_good_names rows && is_in_range rows) (has_no_repeats rows) c).0 in
    let range = (both (has_good_names rows) (is_in_range rows) d).1 in
    let counts = is_within 1 16 (length rows.partitions) && leb (length rows.volumes) 8 && leb (length rows.trees) 32 && leb (length rows.logbooks) 32 && leb (length rows.channels) 32 in
    let volumes = list_all (λ row. is_within 1 131072 row.blocks) rows.volumes in
    let trees = list_all is_tree_in_range rows.trees in
    let logbooks = list_all is_logbook_in_range rows.logbooks in
    let e = both (counts && volumes && trees && logbooks) (list_all is_channel_in_range rows.channels) range in
    let f = both (counts && volumes && trees) logbooks e.0 in
    let g = both (counts && volumes) trees f.0 in
    record { volumes = (both counts volumes g.0).1; trees = g.1; logbooks = f.1; channels = e.1 }

-- the canonical bytes of an accepted table tell it
pub bytes_tell : (a b : Rows) → IsAccepted a → IsAccepted b → table_bytes a ≡ table_bytes b → a ≡ b
bytes_tell a b h k e =
    let x = range_of a h in
    let y = range_of b k in
    let w = sym (table_split a) ∙ e ∙ table_split b in
    let ca = list_bytes channel_bytes a.channels ++ [] in
    let cb = list_bytes channel_bytes b.channels ++ [] in
    let la = list_bytes logbook_bytes a.logbooks ++ ca in
    let lb = list_bytes logbook_bytes b.logbooks ++ cb in
    let ta = list_bytes tree_bytes a.trees ++ la in
    let tb = list_bytes tree_bytes b.trees ++ lb in
    let va = list_bytes volume_bytes a.volumes ++ ta in
    let vb = list_bytes volume_bytes b.volumes ++ tb in
    let one = head_same 1 1 (list_bytes (λ row. name_bytes row.name) a.partitions ++ va) (list_bytes (λ row. name_bytes row.name) b.partitions ++ vb) w in
    let p = list_shows (λ row. name_bytes row.name) (λ _. true) partition_shows a.partitions b.partitions va vb (all_good a.partitions) (all_good b.partitions) one.1 in
    let v = list_shows volume_bytes (λ row. is_within 1 131072 row.blocks) volume_shows a.volumes b.volumes ta tb x.volumes y.volumes p.1 in
    let t = list_shows tree_bytes is_tree_in_range tree_shows a.trees b.trees la lb x.trees y.trees v.1 in
    let l = list_shows logbook_bytes is_logbook_in_range logbook_shows a.logbooks b.logbooks ca cb x.logbooks y.logbooks t.1 in
    let c = list_shows channel_bytes is_channel_in_range channel_shows a.channels b.channels [] [] x.channels y.channels l.1 in
    same_rows a.partitions b.partitions a.volumes b.volumes a.trees b.trees a.logbooks b.logbooks a.channels b.channels p.0 v.0 t.0 l.0 c.0
