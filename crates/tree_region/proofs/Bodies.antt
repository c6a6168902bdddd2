-- A body that was written spells its tree and its block numbers.
use Rattle.std.proofs.Common.{◌≡◌, ℕ, ◌+◌, ◌-◌, ◌*◌, ◌<◌, ◌≤◌, true, List, [], ◌++◌, length, map, take, drop, replicate, refl, sym, ap, subst, ◌∙◌, Option, Some, arith, slice_index_or}
use Rattle.std.proofs.lemmas.List.{append-nil, drop-drop, drop_at, length-take-le}
use Rattle.std.specs.List.{range_with_len}
use Rattle.apex_types.specs.declared.rows.TreeRow.{TreeRow}
use Rattle.apex_model.specs.Fields.{header_of, number_of, is_padding, entry_of_bytes}
use Rattle.apex_model.specs.Image as image
use Rattle.file_tree.specs.Bodies.{tree_by, tree_in_body, tree_in_version}
use Rattle.file_tree.specs.Entries.{TreeValue, stored_of}
use Rattle.tree_region.specs.Bodies.{HasContents, HasEntries}
use Rattle.tree_region.specs.Numbers.{most_blocks, numbers_in, rest_of, with_room, numbers_by_file}
use Rattle.tree_region.specs.Region.{SpellsOver}
use Rattle.tree_region.proofs.Lists.{answers-length, drop-all}
use Rattle.tree_region.proofs.ReadEntries.{entries-read, files-are}
use Rattle.tree_region.specs.GoodNumbers.{size_blocks, numbers_of_files, HasGoodNumbers}
use Rattle.tree_region.specs.Words.{words}
use Rattle.tree_region.proofs.BodyContents.{AreOf, contents-are, numbers-long}
use Rattle.tree_region.proofs.StoredSizes.{fields-read}
use Rattle.tree_region.proofs.GoodBlocks.{zeros-padding, all-good}
use Rattle.tree_region.proofs.SpelledBodies.{words-room, zeros-behind}
use borrow.Rule.Slice.PartMut.{put_mid}

-- the bytes in front of the numbers
abbrev pub front : TreeRow → ℕ
front row = 64 + 128 * (row.files + row.directories)

-- the numbers of a body, as those of its part behind the entries
pub numbers-behind : (row : TreeRow) (body : List ℕ) → numbers_in row body ≡ words row.quota (drop (front row) body)
unfolding words
numbers-behind row body = ap (λ (number : ℕ → ℕ). map number (range_with_len 0 row.quota)) (λ i k. number_of (take 4 (sym (drop-drop (4 * k) (front row) body) i)))

-- what was written up to the end of a body
pub part-put : (at : ℕ) (xs part : List ℕ) → at ≤ length xs → drop at (put_mid at (length xs - at) xs part) ≡ part
part-put at xs part few =
    let left : ℕ = length xs - at in
    let none : drop left (drop at xs) ≡ [] = drop-drop left at xs ∙ drop-all xs (at + left) (omega (arith, few)) in
    drop_at (take at xs) (part ++ drop left (drop at xs)) at (length-take-le at xs few) ∙ ap (λ ys. part ++ ys) none ∙ append-nil part

module _ (row : TreeRow) (body numbers part : List ℕ) (zeros : ℕ) (few : length numbers ≤ row.quota) (parted : drop (front row) body ≡ part)
    (spelled : words (length numbers) part ≡ numbers) (padded : drop (4 * length numbers) part ≡ replicate zeros 0) where
  pub numbers-written : numbers_in row body ≡ with_room row.quota numbers
  numbers-written = numbers-behind row body ∙ ap (words row.quota) parted ∙ words-room part numbers (length numbers) zeros spelled padded row.quota few refl

  pub rest-written : is_padding (rest_of row body) ≡ true
  rest-written =
      let left : ℕ = 4 * row.quota - 4 * length numbers in
      let e : 4 * length numbers + left ≡ 4 * row.quota = omega (arith, few) in
      let rest : rest_of row body ≡ replicate (zeros - left) 0
      = sym (drop-drop (4 * row.quota) (front row) body) ∙ ap (drop (4 * row.quota)) parted ∙ ap (λ n. drop n part) (sym e) ∙ sym (drop-drop left (4 * length numbers) part) ∙ ap (drop left) padded ∙ zeros-behind left zeros in
      ap is_padding rest ∙ zeros-padding (zeros - left)

module _ (row : TreeRow) (v : TreeValue) (lists : List (List ℕ)) (body : List ℕ) (sequence : ℕ) (good : HasGoodNumbers row v lists) (many : length lists ≡ row.files)
    (header : header_of (take 64 body) ≡ Some (sequence, 2)) (tree : tree_in_body row.files row.directories body ≡ Some v)
    (numbers : numbers_in row body ≡ with_room row.quota (numbers_of_files v lists)) (rest : is_padding (rest_of row body) ≡ true) where
  read : tree_in_version 2 row.files row.directories body ≡ Some v
  read = ap (λ (o : Option (ℕ × ℕ)). tree_by o row.files row.directories body) (sym header) ∙ tree

  pub spells-written : (blocks : List ℕ) → length blocks ≡ 1024 * row.quota → SpellsOver row body [] 2 v lists blocks
  spells-written blocks long =
      let f = fields-read 2 row.files row.directories body v read in
      let fields_many : length f.fields ≡ row.files = answers-length (λ k. entry_of_bytes 2 (image.entry_bytes body k)) 0 row.files f.fields f.spelled in
      let are : AreOf v 0 lists f.fields = record {
        many = many ∙ sym fields_many;
        sizes = λ j. let e : 0 + j ≡ j = omega arith in ap (λ n. (stored_of v n).0) e ∙ f.sizes j;
        fits = λ j less.
            let e : j ≡ 0 + j = omega arith in
            let within : j < row.files = omega (arith, less, many) in
            subst (λ n. size_blocks v n ≤ length (slice_index_or lists j [])) e (subst (λ n. size_blocks v j ≤ n) (sym (good.rooms j within)) (good.fits j within));
      } in
      let sum = numbers-long v 0 lists f.fields are in
      let blocks_good : image.has_good_blocks row f.fields (numbers_in row body) (rest_of row body) ≡ true
      = ap (λ ns. image.has_good_blocks row f.fields ns (rest_of row body)) numbers ∙ all-good row f.fields (numbers_of_files v lists) (rest_of row body) sum good.sum f.small good.within good.distinct rest in
      let r = entries-read 2 row body blocks v f.fields long read f.spelled blocks_good in
      let entries : image.Entries = r.0 in
      let has : HasEntries blocks v (numbers_by_file (most_blocks row) f.fields (numbers_in row body)) entries = r.2 in
      let files : image.file_entries blocks (with_room row.quota (numbers_of_files v lists)) f.fields ≡ entries.files
      = ap (λ ns. image.file_entries blocks ns f.fields) (sym numbers) ∙ files-are 2 row body blocks f.fields entries f.spelled r.1 in
      record {
        sequence = sequence;
        header = header;
        written = entries;
        spelled = r.1;
        tree = has.tree;
        made = has.made;
        entries = entries;
        changed = refl;
        has = record {
          tree = has.tree;
          made = has.made;
          names = has.names;
          contents = subst (λ (es : List (Option image.Entry)). HasContents blocks lists es) files
              (contents-are blocks (replicate (row.quota - length (numbers_of_files v lists)) 0) v 0 lists f.fields are);
        };
      }
