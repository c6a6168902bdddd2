-- A region stays in step while numbers behind the durable content of its files are forgotten.
use Rattle.std.proofs.Common.{◌≡◌, inl, inr, ℕ, zero, suc, ◌+◌, ◌*◌, ◌<◌, ◌≤◌, true, List, [], ◌∷◌, ◌++◌, ◌-◌, length, take, drop, map, nat_le, refl, sym, ap, subst, ◌∙◌, Option, Some, arith}
use Rattle.std.specs.Prelude.{flat_map, unwrap_or, slice_index_or}
use Rattle.std.specs.List.{list_all}
use Rattle.std.proofs.lemmas.Bool.{cases_lt}
use Rattle.std.proofs.lemmas.Bool.Decides.{nat_tests}
use Rattle.std.proofs.lemmas.Grind.{flat_map-append}
use Rattle.std.proofs.lemmas.List.{length-append, length-replicate, length-take-le, take-append-drop, take-append-le, take_all, get_or-take}
use Rattle.apex_types.specs.declared.rows.TreeRow.{TreeRow}
use Rattle.apex_model.specs.Durable.{StoredFile}
use Rattle.apex_model.specs.Files.{blocks_of}
use Rattle.apex_model.specs.Image as image
use Rattle.apex_model.specs.Layout.{tree_blocks}
use Rattle.apex_model.specs.Trees.{Name, Node, directory, file}
use Rattle.block_quota.specs.Blocks.{is_used}
use Rattle.file_tree.specs.Entries.{TreeValue, slot, stored_of}
use Rattle.file_tree.specs.Images.{names_of}
use Rattle.file_tree.specs.Table.{value_of}
use Rattle.rig_core.specs.Bytes.{part}
use Rattle.rig_core.specs.Outside.{Outside}
use Rattle.rig_core.proofs.Put.{length-part}
use Rattle.tree_region.specs.InStep.{InStep, data_at}
use Rattle.tree_region.specs.Rows.{Forgets, row_of, number_at}
use Rattle.tree_region.proofs.Overlaid.{stored-slot}
use Rattle.tree_region.proofs.Places.{data-long}
use Rattle.tree_region.specs.GoodNumbers.{HasGoodNumbers, size_blocks, numbers_from}
use Rattle.tree_region.specs.Numbers.{HasNumbers}
use Rattle.tree_region.specs.Region.{Spells, StandsFor, stored_node, tree_over}
use Rattle.tree_region.specs.declared.region.TreeRegion.{TreeRegion}

-- ---- the bytes of blocks

-- lists that are the same in front
same-front : (n : ℕ) (xs ys : List ℕ) → length ys ≡ length xs → ((k : ℕ) → k < n → slice_index_or ys k 0 ≡ slice_index_or xs k 0) → take n ys ≡ take n xs
same-front zero xs ys long same = refl
same-front (suc n) [] [] long same = refl
same-front (suc n) [] (y ∷ ys) long same = absurd (let e : suc (length ys) ≡ 0 = long in omega (arith, e))
same-front (suc n) (x ∷ xs) [] long same = absurd (let e : 0 ≡ suc (length xs) = long in omega (arith, e))
same-front (suc n) (x ∷ xs) (y ∷ ys) long same =
    let e : suc (length ys) ≡ suc (length xs) = long in
    let first : y ≡ x = same 0 (omega arith) in
    let rest = same-front n xs ys (omega (arith, e)) (λ k less. same (suc k) (omega (arith, less))) in
    (λ i. first i ∷ rest i)

-- each block has 512 bytes
block-long : (quota : ℕ) (blocks : List ℕ) → length blocks ≡ 1024 * quota → (n : ℕ) → n ≤ 2 * quota → length (image.data_block blocks n) ≡ 512
block-long quota blocks long zero few = length-replicate {A = ℕ} 512 0
block-long quota blocks long (suc m) few =
    let bytes : length (part (512 * (suc m - 1)) 512 blocks) ≡ 512 = length-part (512 * (suc m - 1)) 512 blocks (omega (arith, long, few)) in
    grind (arith, nat_tests)

module _ (g : ℕ → List ℕ) where
  filled-long : (xs : List ℕ) → ((k : ℕ) → k < length xs → length (g (slice_index_or xs k 0)) ≡ 512) → length (flat_map g xs) ≡ 512 * length xs
  filled-long [] each = refl
  filled-long (x ∷ xs) each =
      let own = each 0 (omega arith) in
      let rest = filled-long xs (λ k less. each (suc k) (omega (arith, less))) in
      omega (arith, own, rest, length-append (g x) (flat_map g xs))

  module _ (size : ℕ) where
    -- so many bytes are those of the blocks in front
    front-filled : (xs : List ℕ) → ((k : ℕ) → length (g (slice_index_or xs k 0)) ≡ 512) → blocks_of size ≤ length xs → take size (flat_map g xs) ≡ take size (flat_map g (take (blocks_of size) xs))
    front-filled xs each enough =
        let front : List ℕ = flat_map g (take (blocks_of size) xs) in
        let long : length (take (blocks_of size) xs) ≡ blocks_of size = length-take-le (blocks_of size) xs enough in
        let filled : length front ≡ 512 * length (take (blocks_of size) xs)
        = filled-long (take (blocks_of size) xs) (λ k less. ap (λ n. length (g n)) (get_or-take (blocks_of size) xs k 0 (omega (arith, less, long))) ∙ each k) in
        ap (λ ys. take size (flat_map g ys)) (sym (take-append-drop (blocks_of size) xs))
        ∙ ap (take size) (flat_map-append g (take (blocks_of size) xs) (drop (blocks_of size) xs))
        ∙ take-append-le size front (flat_map g (drop (blocks_of size) xs)) (omega (arith, filled, long))

    -- so they are the same where the numbers in front are
    same-filled : (xs ys : List ℕ) → ((k : ℕ) → length (g (slice_index_or xs k 0)) ≡ 512) → ((k : ℕ) → length (g (slice_index_or ys k 0)) ≡ 512) → length ys ≡ length xs → take (blocks_of size) ys ≡ take (blocks_of size) xs
        → take size (flat_map g ys) ≡ take size (flat_map g xs)
    same-filled xs ys each_x each_y long same = elim (cases_lt (length xs) (blocks_of size)) [
      | inl few ↦ ap (λ ns. take size (flat_map g ns)) (sym (take_all (blocks_of size) ys (omega (arith, long, few))) ∙ same ∙ take_all (blocks_of size) xs (omega (arith, few)))
      | inr enough ↦
          front-filled ys each_y (omega (arith, long, enough))
          ∙ ap (λ ns. take size (flat_map g ns)) same
          ∙ sym (front-filled xs each_x enough)
    ]

-- ---- the files' numbers

pub numbers-same : (v : TreeValue) (f : ℕ) (xs ys : List (List ℕ)) → length ys ≡ length xs → ((j : ℕ) → take (size_blocks v (f + j)) (slice_index_or ys j []) ≡ take (size_blocks v (f + j)) (slice_index_or xs j [])) → numbers_from v f ys ≡ numbers_from v f xs
unfolding numbers_from
numbers-same v f [] [] long same = refl
numbers-same v f [] (y ∷ ys) long same = absurd (let e : suc (length ys) ≡ 0 = long in omega (arith, e))
numbers-same v f (x ∷ xs) [] long same = absurd (let e : 0 ≡ suc (length xs) = long in omega (arith, e))
numbers-same v f (x ∷ xs) (y ∷ ys) long same =
    let e : suc (length ys) ≡ suc (length xs) = long in
    let here : f + 0 ≡ f = omega arith in
    let first : take (size_blocks v f) y ≡ take (size_blocks v f) x = subst (λ n. take (size_blocks v n) y ≡ take (size_blocks v n) x) here (same 0) in
    let rest = numbers-same v (f + 1) xs ys (omega (arith, e)) (λ j.
    let next : f + suc j ≡ f + 1 + j = omega arith in
    subst (λ n. take (size_blocks v n) (slice_index_or ys j []) ≡ take (size_blocks v n) (slice_index_or xs j [])) next (same (suc j))) in
    (λ i. first i ++ rest i)

-- the size that names have of an entry
stored-size : (entries : image.Entries) (v : TreeValue) (f : ℕ) (entry : image.Entry) → names_of entries ≡ v → slot entries.files f ≡ Some entry → (stored_of v f).0 ≡ length entry.stored.content
unfolding value_of
stored-size entries v f entry names there =
    ap (λ (w : TreeValue). (stored_of w f).0) (sym names) ∙ ap (λ (o : Option (ℕ × ℕ)). (unwrap_or o (0, 0)).0) (stored-slot entries.files f entry there)

-- ---- what is kept

module _ (row : TreeRow) (old new : TreeRegion) (forgets : Forgets old new) (has : HasNumbers row old.table) where
  -- each number is as it was, or 0
  each-number : (P : ℕ → Type 0) → P 0 → ((f k : ℕ) → P (number_at old f k)) → (f k : ℕ) → P (number_at new f k)
  each-number P none was f k = elim (cases_lt k (size_blocks old.tree f)) [
    | inl less ↦ subst P (sym (forgets.stays f k less)) (was f k)
    | inr more ↦ elim (forgets.behind f k more) [
      | inl same ↦ subst P (sym same) (was f k)
      | inr gone ↦ subst P (sym gone) none
    ]
  ]

  within : (f k : ℕ) → number_at new f k ≤ 2 * row.quota
  within = each-number (λ n. n ≤ 2 * row.quota) (omega arith) has.within

  marked : (f k : ℕ) → 1 ≤ number_at new f k → is_used old.table.used (number_at new f k) ≡ true
  marked = each-number (λ n. 1 ≤ n → is_used old.table.used n ≡ true) (λ one. absurd (omega (arith, one))) has.numbers

  front : (f : ℕ) → take (size_blocks old.tree f) (row_of new f) ≡ take (size_blocks old.tree f) (row_of old f)
  front f = same-front (size_blocks old.tree f) (row_of old f) (row_of new f) (forgets.rooms f) (forgets.stays f)

  module _ (blocks : List ℕ) (long : length blocks ≡ 1024 * row.quota) where
    -- each file has the same content
    same-content : (f : ℕ) → image.joined blocks (row_of new f) (stored_of old.tree f).0 ≡ image.joined blocks (row_of old f) (stored_of old.tree f).0
    same-content f =
        same-filled (image.data_block blocks) (stored_of old.tree f).0 (row_of old f) (row_of new f) (λ k. block-long row.quota blocks long (number_at old f k) (has.within f k))
        (λ k. block-long row.quota blocks long (number_at new f k) (within f k)) (forgets.rooms f) (front f)

    node-same : (n : Node ℕ) → stored_node blocks old.tree new.table.files.items n ≡ stored_node blocks old.tree old.table.files.items n
    node-same directory = refl
    node-same (file f) = ap (λ (bytes : List ℕ). file (record { content = bytes; changes = (stored_of old.tree f).1 })) (same-content f)

    over-same : tree_over blocks old.tree new.table.files.items ≡ tree_over blocks old.tree old.table.files.items
    over-same = λ i. map (λ (p : List Name × Node ℕ). let q : List Name × Node StoredFile = (p.0, node-same p.1 i) in q) old.tree.nodes

  spells-same : (body : List ℕ) (recs : List (List ℕ)) (version : ℕ) → Spells row body recs version old.tree old.table.files.items → Spells row body recs version old.tree new.table.files.items
  spells-same body recs version spells = λ blocks long.
      let s = spells blocks long in
      record {
        sequence = s.sequence;
        header = s.header;
        written = s.written;
        spelled = s.spelled;
        tree = s.tree;
        made = s.made;
        entries = s.entries;
        changed = s.changed;
        has = record {
          tree = s.has.tree;
          made = s.has.made;
          names = s.has.names;
          contents = λ f entry there.
              s.has.contents f entry there
              ∙ sym (subst (λ n. image.joined blocks (row_of new f) n ≡ image.joined blocks (row_of old f) n) (stored-size s.entries old.tree f entry s.has.names there) (same-content blocks long f));
        };
      }

  good-same : HasGoodNumbers row old.tree old.table.files.items → HasGoodNumbers row old.tree new.table.files.items
  good-same good =
      let same : numbers_from old.tree 0 old.table.files.items ≡ numbers_from old.tree 0 new.table.files.items
      = sym (numbers-same old.tree 0 old.table.files.items new.table.files.items forgets.many (λ j. let e : j ≡ 0 + j = omega arith in
      subst (λ n. take (size_blocks old.tree n) (row_of new j) ≡ take (size_blocks old.tree n) (row_of old j)) e (front j))) in
      record {
        sum = subst (λ (ns : List ℕ). length ns ≤ row.quota) same good.sum;
        within = ap (λ (ns : List ℕ). list_all (λ n. nat_le n (2 * row.quota)) ns) (sym same) ∙ good.within;
        distinct = ap image.are_distinct (sym same) ∙ good.distinct;
        rooms = λ f less. forgets.rooms f ∙ good.rooms f less;
        fits = good.fits;
      }

  -- what is kept, by the parts that stay
  abbrev changed : TreeRegion
  changed = record { slots = old.slots; version = old.version; journal = old.journal; tree = old.tree; table = record { files = new.table.files; used = old.table.used } }

  is-changed : new ≡ changed
  is-changed = λ i. record {
    slots = forgets.slots i;
    version = forgets.version i;
    journal = forgets.journal i;
    tree = forgets.tree i;
    table = record { files = new.table.files; used = forgets.used i };
  }

  module _ (at : ℕ) where
    stands-changed : (img : List ℕ) → at + 512 * tree_blocks row ≤ length img → StandsFor row at img old → StandsFor row at img changed
    stands-changed img fits stands = record {
      tree = stands.tree ∙ ap Some (sym (over-same (data_at row at img) (data-long row at img fits)));
      newest = stands.newest;
      is_newest = stands.is_newest;
      spells = spells-same _ _ old.version stands.spells;
      slots = stands.slots;
      version = stands.version;
      first = stands.first;
      held = stands.held;
      room = stands.room;
      known = stands.known;
      has_room = stands.has_room;
    }

    step-changed : (V : Type 0) (o : Outside) → (V → at + 512 * tree_blocks row ≤ length o.view) → InStep V row at o old → InStep V row at o changed
    step-changed V o fits step = record {
      within = record { place = step.within.place; from = step.within.from; to = step.within.to; few = step.within.few };
      limits = record { files = step.limits.files; directories = step.limits.directories; table = forgets.many ∙ step.limits.table; rooms = λ f less. forgets.rooms f ∙ step.limits.rooms f less };
      numbers = record { marks = has.marks; within = within; numbers = marked };
      good = good-same step.good;
      stands = λ shown. stands-changed o.view (fits shown) (step.stands shown);
      settled = step.settled;
      named = λ img told now. each-number (λ n. image.data_block (data_at row at img) n ≡ image.data_block (data_at row at o.view) n) refl (step.named img told now);
      same_tree = step.same_tree;
    }

-- the region stays in step
pub in-step-forgotten : (V : Type 0) (row : TreeRow) (at : ℕ) (o : Outside) (old new : TreeRegion) → Forgets old new → (V → at + 512 * tree_blocks row ≤ length o.view) → InStep V row at o old → InStep V row at o new
in-step-forgotten V row at o old new forgets fits step =
    subst (λ (kept : TreeRegion). InStep V row at o kept) (sym (is-changed row old new forgets step.numbers)) (step-changed row old new forgets step.numbers at V o fits step)
